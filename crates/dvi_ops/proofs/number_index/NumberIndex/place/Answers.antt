use Rattle.std.proofs.Common.{rules, ◌≡◌, ◌≤◌, ℕ, length, get_or, w64, FitsSigned, to_z, of_z, arith, sym, ap, ◌∙◌}
use Rattle.std.specs.Prelude.{int_lt}
use Rattle.std.proofs.lemmas.Int.{to_z-of_z}
use Rattle.std.proofs.lemmas.List.Sorted.{IsPartitionPoint-from_clause}
use Rattle.dvi_ops.specs.NumberIndex.{pair_of}
use Rattle.dvi_ops.proofs.Indexed.{there, absent, searchable}
use Rattle.dvi_ops.proofs.number_index.NumberIndex.place.Goals as goal

pub returns-in_err-word : goal.returns-in_err-word
returns-in_err-word c =
    let k = c.args.k in
    let words = c.self.inside.words.items in
    let at = c.partition_point-at.result in
    let point = IsPartitionPoint-from_clause (λ w. int_lt (pair_of w).0 k) _ _ c.partition_point-at.ensures.partitioned (rw c.deref.ensures.value (searchable words k c.self.invariant)) (λ a r q called. search rules) in
    let past : length words ≤ at = rw c.deref-2.ensures.value at c.in_err-word.ensures.lookup.3 in
    rw (c.from_residual.ensures, ← c.self.view_is) (absent words k at c.self.invariant (rw c.deref.ensures.value at point) (λ inside e. omega (arith, inside, past)))

pub returns-then-number_in-k : goal.returns-then-number_in-k
returns-then-number_in-k c =
    let k = c.args.k in
    let fits : FitsSigned w64 k = search rules in
    let fits_too : FitsSigned w64 c.number_in.result = search rules in
    let words = c.self.inside.words.items in
    let at = c.partition_point-at.result in
    let w = c.in_ok-word.field-0.now in
    let same : c.number_in.result ≡ k = sym (to_z-of_z w64 c.number_in.result fits_too) ∙ ap (to_z w64) c.if-number_in-k.true ∙ to_z-of_z w64 k fits in
    let found = rw c.deref-2.ensures.value at c.in_ok-word.ensures.lookup.3 in
    rw (c.place_in.ensures, ← c.self.view_is) (there words k at w found.0 (found.1 0) (sym c.number_in.ensures ∙ same))

pub returns-else-number_in-k : goal.returns-else-number_in-k
returns-else-number_in-k c =
    let k = c.args.k in
    let words = c.self.inside.words.items in
    let at = c.partition_point-at.result in
    let w = c.in_ok-word.field-0.now in
    let point = IsPartitionPoint-from_clause (λ w. int_lt (pair_of w).0 k) _ _ c.partition_point-at.ensures.partitioned (rw c.deref.ensures.value (searchable words k c.self.invariant)) (λ a r q called. search rules) in
    let found = rw c.deref-2.ensures.value at c.in_ok-word.ensures.lookup.3 in
    let here : c.number_in.result ≡ (pair_of (get_or words at 0)).0 = c.number_in.ensures ∙ ap (λ (v : ℕ). (pair_of v).0) (found.1 0) in
    rw (← c.self.view_is) (absent words k at c.self.invariant (rw c.deref.ensures.value at point) (λ inside e. c.if-number_in-k.false (ap (of_z w64) (here ∙ e))))

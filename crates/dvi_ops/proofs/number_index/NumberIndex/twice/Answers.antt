use Rattle.std.proofs.Common.{◌≡◌, ◌<◌, ◌≤◌, ◌+◌, ◌-◌, inl, inr, length, map, arith, rules, sym, ◌∙◌, ap, to_z, of_z, w64, FitsSigned}
use Rattle.std.proofs.lemmas.Bool.{cases_lt}
use Rattle.std.proofs.lemmas.Int.{to_z-of_z}
use Rattle.std.proofs.lemmas.List.{length-map}
use Rattle.dvi_ops.specs.NumberIndex.{number_at, pair_of}
use Rattle.dvi_ops.proofs.Indexed.{apart, number_by}
use Rattle.dvi_ops.proofs.number_index.NumberIndex.twice.Goals as goal

pub returns-then-number_in-k : goal.returns-then-number_in-k
returns-then-number_in-k c =
    let k = c.number_in-k.result in
    let at = c.loop-at.at in
    let fits : FitsSigned w64 k = search rules in
    let fits_too : FitsSigned w64 c.number_in.result = search rules in
    let words = c.self.inside.words.items in
    let pairs = map pair_of words in
    let long : at < length words = grind (arith, c.loop-at-test.true, c.len-at-end.ensures) in
    let here : number_at pairs at ≡ k = number_by words at c.index.result.now long c.index.ensures ∙ sym c.number_in-k.ensures in
    let before : number_at pairs (at - 1) ≡ c.number_in.result = number_by words (at - 1) c.index-in-loop-at.result.now (omega (arith, long)) c.index-in-loop-at.ensures ∙ sym c.number_in.ensures in
    let same : c.number_in.result ≡ k = sym (to_z-of_z w64 c.number_in.result fits_too) ∙ ap (to_z w64) c.if-number_in-k.true ∙ to_z-of_z w64 k fits in
    rw (to_z-of_z w64 k fits, ← c.self.view_is) (at - 1, at, omega arith, omega (arith, long, length-map words pair_of), before ∙ same, here)

pub loop-at-preserved : goal.loop-at-preserved
loop-at-preserved c = λ i h e.
    let at = c.loop-at.at in
    let words = c.self.inside.words.items in
    let pairs = map pair_of words in
    let long : at < length words = grind (arith, c.loop-at-test.true, c.len-at-end.ensures) in
    let here : number_at pairs at ≡ c.number_in-k.result = number_by words at c.index.result.now long c.index.ensures ∙ sym c.number_in-k.ensures in
    let before : number_at pairs (at - 1) ≡ c.number_in.result = number_by words (at - 1) c.index-in-loop-at.result.now (omega (arith, long)) c.index-in-loop-at.ensures ∙ sym c.number_in.ensures in
    elim (cases_lt (i + 1) at) [
      | inl l ↦ c.loop-at.invariant i l e
      | inr l ↦
          let low : i ≡ at - 1 = omega (arith, h, l) in
          let high : i + 1 ≡ at = omega (arith, h, l) in
          let equal : number_at pairs (at - 1) ≡ number_at pairs at = ap (number_at pairs) (sym low) ∙ (rw (← c.self.view_is) at e) ∙ ap (number_at pairs) high in
          c.if-number_in-k.false (ap (of_z w64) (sym before ∙ equal ∙ here))
    ]

pub returns : goal.returns
returns c =
    let words = c.self.inside.words.items in
    let long : length words ≤ c.loop-at.at = grind (arith, c.loop-at-test.false, c.len-at-end.ensures) in
    rw (← c.self.view_is) (apart words c.self.invariant c.loop-at.at long (rw c.self.view_is c.loop-at.invariant))

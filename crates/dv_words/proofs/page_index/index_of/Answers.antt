use Rattle.std.proofs.Common.{◌≡◌, ℕ, length, arith, subst}
use Rattle.dv_words.proofs.Index.{IsPaired, sorted_pairs}
use Rattle.dv_words.proofs.page_index.index_of.Goals as goal

pub returns : goal.returns
returns c =
    let all : c.loop-place.place ≡ length c.args.numbers.now = omega arith in
    sorted_pairs c.args.numbers.now c.loop-place.pairs.items c.sort_unstable.new.self.items
    (subst (λ (n : ℕ). IsPaired c.args.numbers.now c.loop-place.pairs.items n) all c.loop-place.invariant) c.sort_unstable.ensures.permutation c.sort_unstable.ensures.sorted

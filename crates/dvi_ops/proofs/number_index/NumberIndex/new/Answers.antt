use Rattle.std.proofs.lemmas.List.Sorted.{IsNonDecreasingBy-from_sort, IsPermutation-map}
use Rattle.dvi_ops.specs.NumberIndex.{pair_of}
use Rattle.dvi_ops.proofs.number_index.NumberIndex.new.Goals as goal

pub invariant_of-result : goal.invariant_of-result
invariant_of-result c = IsNonDecreasingBy-from_sort (λ x. x) c.sort_unstable.new.self.items c.sort_unstable.ensures.sorted

pub returns : goal.returns
returns c = rw (← c.numbers.view_is) (IsPermutation-map pair_of c.numbers.inside.words.items c.sort_unstable.new.self.items c.sort_unstable.ensures.permutation)

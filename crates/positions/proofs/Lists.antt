-- Marks that are kept, one more at the end.
use Rattle.std.proofs.Common.{◌≡◌, List, [], ◌∷◌, ◌++◌, refl, ap}
use Rattle.positions.specs.MarkList.{mark_of, marks_of}
use Rattle.positions.specs.declared.mark_list.Kept.{Kept}

pub marks_of-none : marks_of [] ≡ []
unfolding marks_of
marks_of-none = refl

pub marks_of-push : (xs : List Kept) (x : Kept) → marks_of (xs ++ x ∷ []) ≡ marks_of xs ++ mark_of x ∷ []
unfolding marks_of
marks_of-push [] x = refl
marks_of-push (y ∷ xs) x = ap (λ l. mark_of y ∷ l) (marks_of-push xs x)

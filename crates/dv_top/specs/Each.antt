-- What is true of each element of a list, element by element.
use Rattle.std.specs.Prelude.{◌⊎◌, List, [], ◌∷◌}

abbrev pub Each : {X : Type 0} → (X → Type 0) → List X → Type 0
Each P [] = Unit {0}
Each P (x ∷ xs) = P x × Each P xs

-- What is true of one of the elements.
abbrev pub Any : {X : Type 0} → (X → Type 0) → List X → Type 0
Any P [] = ⊥
Any P (x ∷ xs) = P x ⊎ Any P xs

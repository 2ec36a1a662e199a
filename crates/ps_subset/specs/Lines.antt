-- The lines of a text that stand outside its pages: the comments of the document structuring conventions, numbers, and the lines of the setup; the
-- notes that a run hears of them.
use Rattle.std.specs.Prelude.{ℕ, ◌≡◌, List, [], ◌∷◌, ◌++◌, ℤ, codes, decimal, Bool, true, false, ◌&&◌, ◌||◌, not, nat_eq}
use Rattle.std.specs.Fmt.{signed_decimal}
use Rattle.ps_subset.specs.State.{Event, Note}
use Rattle.ps_subset.specs.Prolog.{line}
use Rattle.ps_subset.specs.Job.{Job}

-- The lines. A number is written in decimal, with a space behind it.
abbrev pub natural_field : ℕ → List ℕ
natural_field n = decimal n ++ 32 ∷ []

abbrev pub signed_field : ℤ → List ℕ
signed_field z = signed_decimal z ++ 32 ∷ []

-- a comment, where the text has comments
abbrev pub comment_line : Bool → List ℕ → List ℕ
comment_line true bytes = line bytes
comment_line false bytes = []

abbrev pub head_lines : List (List ℕ) → List ℕ
head_lines [] = []
head_lines (c ∷ cs) = line c ++ head_lines cs

abbrev pub copies_line : ℕ → List ℕ
copies_line copies = codes "/#copies " ++ (natural_field copies ++ line (codes "def"))

abbrev pub job_line : Job → List ℕ
job_line j = signed_field j.height ++ (natural_field j.across ++ (natural_field j.down ++ (signed_field j.origin_x ++ (signed_field j.origin_y ++ line (codes "TS")))))

abbrev pub setup_lines : ℕ → Job → List ℕ
setup_lines copies j = copies_line copies ++ (line (codes "TeXDict begin") ++ job_line j)

abbrev pub comment_events : Bool → List ℕ → List Event
comment_events true bytes = Note bytes ∷ []
comment_events false bytes = []

abbrev pub head_events : List (List ℕ) → List Event
head_events [] = []
head_events (c ∷ cs) = Note c ∷ head_events cs

-- What is asked of a text. A comment has no line end in it, and one of the head begins with %% or %!.
abbrev pub is_one_line : List ℕ → Bool
is_one_line [] = true
is_one_line (b ∷ bs) = not (nat_eq b 10) && is_one_line bs

abbrev pub begins_note : List ℕ → Bool
begins_note (a ∷ b ∷ rest) = nat_eq a 37 && (nat_eq b 37 || nat_eq b 33)
begins_note _ = false

abbrev pub AllNotes : List (List ℕ) → Type 0
AllNotes [] = Unit {0}
AllNotes (c ∷ cs) = (begins_note c ≡ true) × (is_one_line c ≡ true) × AllNotes cs

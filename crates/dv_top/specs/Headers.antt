-- The names of a job's header files: those of words, and then those of the pages' header specials, each once, at its first place.
use Rattle.std.specs.Prelude.{◌≡◌, ◌⊎◌, ℕ, ◌<◌, ◌≤◌, List, [], ◌∷◌, ◌++◌, Bool, length, nat_eq, Some, if◌then◌else◌}
use Rattle.std.specs.Cmp.Lexicographic.{pointwise}
use Rattle.std.specs.List.{Contains, list_any}
use Rattle.dv_base.specs.Shelf.{Told, WhereHeld}
use Rattle.positions.specs.Mark.{Mark}
use Rattle.specials.specs.Special.{Meaning, special_of}
use Rattle.specials.specs.Special.Meaning.{Paper, BadPaper, Header, Literal, Unknown}
use Rattle.dv_top.specs.Reading.{Unread, UnreadHolds, UnreadTells}
use Rattle.dv_top.specs.Specials.{specials_of}
use Rattle.dv_top.specs.declared.outcome.Outcome.{Outcome}
use Rattle.dv_top.specs.declared.outcome.Outcome.TheVariants as outcome

-- the name of a header special
abbrev pub name_in : Meaning → List (List ℕ)
name_in (Header name) = name ∷ []
name_in (Paper width height) = []
name_in BadPaper = []
name_in (Literal text) = []
name_in Unknown = []

-- a name that a special may give has at most 540 bytes
abbrev pub IsShortName : Meaning → Type 0
IsShortName (Header name) = length name ≤ 540
IsShortName (Paper width height) = Unit {0}
IsShortName BadPaper = Unit {0}
IsShortName (Literal text) = Unit {0}
IsShortName Unknown = Unit {0}

-- the names of the header specials among specials
abbrev pub names_in : List (List ℕ) → List (List ℕ)
names_in [] = []
names_in (special ∷ specials) = name_in (special_of special) ++ names_in specials

-- whether the name is one of these
abbrev pub is_among : List (List ℕ) → List ℕ → Bool
is_among names name = list_any (λ n. pointwise nat_eq n name) names

-- names, and one more unless it is among them
abbrev pub with_name : List (List ℕ) → List ℕ → List (List ℕ)
with_name names name = if is_among names name then names else names ++ name ∷ []

-- names, and more of them, each of which counts at its first place alone
abbrev pub with_names : List (List ℕ) → List (List ℕ) → List (List ℕ)
with_names names [] = names
with_names names (x ∷ xs) = with_names (with_name names x) xs

-- the names of a job with these names in its words and these pages
abbrev pub header_names : List (List ℕ) → List (List Mark) → List (List ℕ)
header_names given pages = with_names [] (given ++ names_in (specials_of pages))

-- ---- their files

-- where the shelf tells what it holds, it holds these bytes under the name; and they are few
abbrev pub IsHeld : Told → List ℕ → List ℕ → Type 0
IsHeld told name bytes = (length bytes ≤ 4194304) × WhereHeld told.held (λ held. held name ≡ Some bytes)

abbrev pub HeldEach : Told → List (List ℕ) → List (List ℕ) → Type 0
HeldEach told [] [] = Unit {0}
HeldEach told [] (b ∷ bs) = ⊥
HeldEach told (n ∷ ns) [] = ⊥
HeldEach told (n ∷ ns) (b ∷ bs) = IsHeld told n b × HeldEach told ns bs

-- The files of these names were not read: memory was refused, or the outcome tells why one of them was not.
abbrev pub NotHeld : List (List ℕ) → Told → Told → Outcome → Type 0
NotHeld names old new o =
    (o ≡ outcome.OutOfMemory) ⊎ ((name : List ℕ) × Contains names name × ((why : Unread) × UnreadTells name why o × UnreadHolds name 4194304 old new why))

-- The header files were not read: there are too many, memory was refused, or one of them can't be had.
abbrev pub HeadersFail : List (List ℕ) → Told → Told → Outcome → Type 0
HeadersFail names old new o = ((o ≡ outcome.TooManyHeaders) × (64 < length names)) ⊎ NotHeld names old new o

-- What the parts of the selection give. No public clause cites it.
use Rattle.std.specs.Prelude.{◌≡◌, ◌<◌, ◌≤◌, ℕ, List, [], ◌∷◌, length, slice_index, nat_eq, max, if◌then◌else◌}
use Rattle.dv_words.specs.Selection.{times}
use Rattle.dv_words.specs.declared.spans.Span.{Span}
use Rattle.dv_words.specs.declared.selection.SelectFault.{SelectFault}
use Rattle.dv_words.specs.declared.selection.SelectFault.TheVariants.{NoSuchPage, TooManyPages, OutOfMemory}

-- the furthest stop of the windows that begin at a place
abbrev pub far_at : List Span → ℕ → ℕ
far_at [] place = 0
far_at (s ∷ ss) place = max (if nat_eq s.start place then s.stop else 0) (far_at ss place)

pub record IsFar (count : ℕ) (spans : List Span) (far : List ℕ) : Type 0 where
  pub long : length far ≡ count
  pub each : (place : ℕ) → place < count → slice_index far place ≡ far_at spans place

pub record IsRepeated (places : List ℕ) (collated : ℕ) (all : List ℕ) : Type 0 where
  pub is : all ≡ times collated places
  pub few : length all ≤ 1000000

abbrev pub IsTimesCause : List ℕ → ℕ → SelectFault → Type 0
IsTimesCause places collated (NoSuchPage number) = ⊥
IsTimesCause places collated TooManyPages = 1000000 < length (times collated places)
IsTimesCause places collated OutOfMemory = Unit {0}

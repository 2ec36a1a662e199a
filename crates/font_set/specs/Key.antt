-- What tells one font from another: its name with its area, its checksum, and its size and design size in DVI units.
use Rattle.std.specs.Prelude.{◌<◌, ◌^◌, ℕ, List, [], Bool, ◌&&◌, nat_eq}
use Rattle.std.specs.Cmp.Lexicographic.{pointwise}
use Rattle.dv_base.specs.FontName.{IsFontName}

pub record Key : Type 0 where
  pub name : List ℕ
  pub checksum : ℕ
  pub size : ℕ
  pub design : ℕ

-- two keys are one key: all four parts are the same
abbrev pub same_key : Key → Key → Bool
same_key a b = pointwise nat_eq a.name b.name && (nat_eq a.checksum b.checksum && (nat_eq a.size b.size && nat_eq a.design b.design))

-- a key of no font
abbrev pub blank_key : Key
blank_key = record { name = []; checksum = 0; size = 0; design = 0 }

-- a size, or a design size: 1 to 2^27 - 1 units
abbrev pub IsUnits : ℕ → Type 0
IsUnits n = (0 < n) × (n < 2 ^ 27)

-- The key of a font that may be loaded: its name may be the name of a file, and its sizes are as they should be.
pub record IsKey (key : Key) : Type 0 where
  pub name : IsFontName key.name
  pub size : IsUnits key.size
  pub design : IsUnits key.design

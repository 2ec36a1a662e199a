-- What a VF file tells.
use Rattle.std.specs.Prelude.{ℕ, ℤ, List, [], ◌∷◌, Option, None, Some, slice_index_or, map}
use Rattle.dvi_ops.specs.Numbered as numbered

-- A local font: its number in packets, its checksum, its size in parts of the virtual font's and its design size in points, both as
-- fix_words, and its name with its area.
pub record LocalFont : Type 0 where
  pub k : ℤ
  pub checksum : ℕ
  pub scale : ℤ
  pub design : ℤ
  pub name : List ℕ

-- The checksum, the local fonts in the order of their definitions, and for each code up to 255 the bytes of its packet.
pub record VirtualFont : Type 0 where
  pub checksum : ℕ
  pub locals : List LocalFont
  pub packets : List (Option (List ℕ))

abbrev pub number_of : LocalFont → ℤ
number_of l = l.k

-- The numbers of fonts, in their order.
abbrev pub numbers_of : List LocalFont → List ℤ
numbers_of ls = map number_of ls

-- One of the fonts has this number.
abbrev pub Has : List LocalFont → ℤ → Type 0
Has ls k = numbered.Has (numbers_of ls) k

-- No two of the fonts have one number.
abbrev pub Apart : List LocalFont → Type 0
Apart ls = (k : ℤ) → numbered.HasTwice (numbers_of ls) k → ⊥

-- The number of the first font.
abbrev pub first_number : List LocalFont → Option ℤ
first_number [] = None
first_number (l ∷ ls) = Some l.k

-- What a table has for a code.
abbrev pub entry : List (Option (List ℕ)) → ℕ → Option (List ℕ)
entry table code = slice_index_or table code None

-- The bytes of the packet of a code.
abbrev pub packet_of : VirtualFont → ℕ → Option (List ℕ)
packet_of font code = entry font.packets code

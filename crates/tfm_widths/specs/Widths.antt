-- The characters of a TFM file and their widths (TFM format): the first byte of a char_info word is an index into the table of
-- widths, and each width is a fix_word.
use Rattle.std.specs.Prelude.{◌≡◌, ℕ, ◌+◌, ◌-◌, ◌*◌, ◌<◌, ◌≤◌, ◌⊎◌, ◌==◌, ◌||◌, nat_lt, if◌then◌else◌, ℤ, List, length, map, slice_index, slice_index_or, Option, Some, None}
use Rattle.std.specs.List.{range_with_len}
use Rattle.dv_base.specs.Numbers.{unsigned, signed}
use Rattle.tfm_widths.specs.Lengths.{lf, lh, bc, ec, nw, AreLengths}

-- where the char_info words begin, behind the lengths and the header, and where the widths do
unfoldable pub infos_at : List ℕ → ℕ
infos_at bytes = 24 + 4 * lh bytes

unfoldable pub widths_at : List ℕ → ℕ
widths_at bytes = 24 + 4 * lh bytes + 4 * (ec bytes + 1 - bc bytes)

-- the width index of a code from bc to ec
abbrev pub index_of : List ℕ → ℕ → ℕ
index_of bytes code = slice_index bytes (infos_at bytes + 4 * (code - bc bytes))

-- the first byte of the i-th width, and the whole width
abbrev pub width_byte : List ℕ → ℕ → ℕ
width_byte bytes i = slice_index bytes (widths_at bytes + 4 * i)

abbrev pub fix_word : List ℕ → ℕ → ℤ
fix_word bytes i = signed (widths_at bytes + 4 * i) 4 bytes

-- the width of a code: none where it is outside bc to ec, or where its index is 0
unfoldable pub width_of : List ℕ → ℕ → Option ℤ
width_of bytes code =
    if nat_lt code (bc bytes) || nat_lt (ec bytes) code then None
    else (if index_of bytes code == 0 then None else Some (fix_word bytes (index_of bytes code)))

-- What a TFM file says that the program uses: its checksum and for each code from 0 to 255 its width, where it has one.
pub record Table : Type 0 where
  pub checksum : ℕ
  pub widths : List (Option ℤ)

-- the width of a code in a table
abbrev pub width_in : Table → ℕ → Option ℤ
width_in table code = slice_index_or table.widths code None

-- the widths of the codes below n
unfoldable pub widths_below : List ℕ → ℕ → List (Option ℤ)
widths_below bytes n = map (width_of bytes) (range_with_len 0 n)

-- The width index of the code is a place in the table of widths.
abbrev pub IsIndexed : List ℕ → ℕ → Type 0
IsIndexed bytes code = index_of bytes code < nw bytes

-- A width is less than 16 times the size: its first byte is 0, or 255 where it is negative.
abbrev pub IsWidth : List ℕ → ℕ → Type 0
IsWidth bytes i = (width_byte bytes i ≡ 0) ⊎ (width_byte bytes i ≡ 255)

-- The lengths are right, and the bytes hold what they say.
pub record IsWhole (bytes : List ℕ) : Type 0 where
  pub lengths : AreLengths bytes
  pub some : 24 ≤ length bytes
  pub all : 4 * lf bytes ≤ length bytes

-- Every code before this one has its index.
abbrev pub AreIndexed : List ℕ → ℕ → Type 0
AreIndexed bytes past = (code : ℕ) → code < past → bc bytes ≤ code → IsIndexed bytes code

-- The first widths, up to this number of them, are right.
abbrev pub AreWidths : List ℕ → ℕ → Type 0
AreWidths bytes count = (i : ℕ) → i < count → IsWidth bytes i

-- The bytes are a TFM file. What follows the first 4 · lf of them is ignored, and so are the tables behind the widths.
pub record IsSound (bytes : List ℕ) : Type 0 where
  pub whole : IsWhole bytes
  pub indices : AreIndexed bytes (ec bytes + 1)
  pub widths : AreWidths bytes (nw bytes)

-- The bytes are a TFM file that says this.
pub record IsTfm (bytes : List ℕ) (table : Table) : Type 0 where
  pub sound : IsSound bytes
  pub checksum : table.checksum ≡ unsigned 24 4 bytes
  pub widths : table.widths ≡ widths_below bytes 256

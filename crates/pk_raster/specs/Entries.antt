-- How the store of a font is read. (No public clause cites this module: its words are those of the reader.)
use Rattle.std.specs.Prelude.{◌≡◌, ℕ, List, ◌≤◌, length, slice_range, map}
use Rattle.std.specs.List.{All, sum_by}
use Rattle.pk_raster.specs.Font.{Known, known_bytes}
use Rattle.pk_raster.specs.Font.Known.{Nothing, Large, Bits}
use Rattle.pk_raster.specs.declared.pk.Entry.{Entry}
use Rattle.pk_raster.specs.declared.pk.Entry.TheVariants as entry

-- What an entry tells, where these are the bytes of all rows.
abbrev pub known : List ℕ → Entry → Known
known rows entry.None = Nothing
known rows (entry.TooBig bytes) = Large bytes
known rows (entry.Here place) = Bits (record { w = place.sizes.w; h = place.sizes.h; hoff = place.sizes.hoff; voff = place.sizes.voff; rows = slice_range rows place.start place.end })

-- An entry's bytes stand in the store of n bytes.
abbrev pub IsEntry : ℕ → Entry → Type 0
IsEntry n entry.None = Unit {0}
IsEntry n (entry.TooBig bytes) = Unit {0}
IsEntry n (entry.Here place) = (place.start ≤ place.end) × (place.end ≤ n)

-- There is an entry for each code, and the store holds the bytes of the bitmaps and nothing else.
pub record IsStore (entries : List Entry) (rows : List ℕ) : Type 0 where
  pub long : length entries ≡ 256
  pub placed : All (IsEntry (length rows)) entries
  pub full : length rows ≡ sum_by known_bytes (map (known rows) entries)

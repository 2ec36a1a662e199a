-- Glyphs, letters and fonts, and the masks that a string of letters makes.
use Rattle.std.specs.Prelude.{ℕ, ◌*◌, ◌<◌, ◌≤◌, ◌^◌, ◌≡◌, List, [], ◌∷◌, ◌++◌, length, ℤ, nat_abs, ◌+ℤ◌, ◌-ℤ◌, Some, codes, decimal, if◌then◌else◌, Bool, pos}
use Rattle.ps_subset.specs.State.{Event, Mask}
use Rattle.ps_subset.specs.MaskEffects.{row_bytes, rows_mark, mask_events}
use Rattle.ps_subset.specs.Job.{Job, IsInRange, per_pixel, pixel_place}

-- A glyph: its columns and rows of pixels, the columns and rows between its upper left pixel and its reference point, its rows padded to
-- bytes, and the pixels by which it moves on.
pub record Glyph : Type 0 where
  pub columns : ℕ
  pub rows : ℕ
  pub hoff : ℤ
  pub voff : ℤ
  pub bytes : List ℕ
  pub width : ℤ

-- Whether it has a black pixel. A text can't have a glyph without pixels: in place of a blank one it has a single white pixel, which is the reference
-- point, and moves on by the same width.
abbrev pub has_black : Glyph → Bool
has_black g = rows_mark g.columns g.rows g.bytes

abbrev pub printed : Glyph → Glyph
printed g = let black = has_black g in record g {
  columns = if black then g.columns else 1;
  rows = if black then g.rows else 1;
  hoff = if black then g.hoff else pos 0;
  voff = if black then g.voff else pos 0;
  bytes = if black then g.bytes else (0 ∷ []);
}

-- a glyph with its code
pub record Letter : Type 0 where
  pub code : ℕ
  pub glyph : Glyph

-- a font of a section: its number, and its letters by code
pub record Font : Type 0 where
  pub id : ℕ
  pub letters : List Letter

abbrev pub font_name : ℕ → List ℕ
font_name id = codes "F" ++ decimal id

-- The mask of a letter whose reference point is at the pixel (x, y), by its font's name. A blank glyph has none.
abbrev pub letter_masks : Job → List ℕ → ℤ → ℤ → Letter → List Event
letter_masks j key x y l =
    let g = l.glyph in
    mask_events (has_black g)
    (Mask (Some (record { key = key; code = l.code })) (pixel_place j (x -ℤ g.hoff) (y -ℤ g.voff)) (record { x = per_pixel j.across; y = per_pixel j.down }) g.columns g.rows g.bytes)

-- the masks of a string of letters from a pixel on, and the pixel behind it
abbrev pub string_masks : Job → List ℕ → ℤ → ℤ → List Letter → List Event
string_masks j key x y [] = []
string_masks j key x y (l ∷ ls) = letter_masks j key x y l ++ string_masks j key (x +ℤ l.glyph.width) y ls

abbrev pub string_end : ℤ → List Letter → ℤ
string_end x [] = x
string_end x (l ∷ ls) = string_end (x +ℤ l.glyph.width) ls

abbrev pub letter_codes : List Letter → List ℕ
letter_codes [] = []
letter_codes (l ∷ ls) = l.code ∷ letter_codes ls

abbrev pub AllBytes : List ℕ → Type 0
AllBytes [] = Unit {0}
AllBytes (b ∷ bs) = (b < 256) × AllBytes bs

-- what is asked of a glyph as it is printed: it has columns and rows, all their bytes, and at most 65,535 of them
pub record IsGoodGlyph (g : Glyph) : Type 0 where
  pub columns_some : 0 < g.columns
  pub columns : g.columns < 2 ^ 32
  pub rows_some : 0 < g.rows
  pub rows : g.rows < 2 ^ 32
  pub hoff : nat_abs g.hoff < 2 ^ 32
  pub voff : nat_abs g.voff < 2 ^ 32
  pub width : IsInRange g.width
  pub exact : length g.bytes ≡ g.rows * row_bytes g.columns
  pub short : length g.bytes ≤ 65535
  pub are_bytes : AllBytes g.bytes

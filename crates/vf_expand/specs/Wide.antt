-- How wide characters are, which are glyphs, and in which fonts the packets of virtual ones begin.
use Rattle.std.specs.Prelude.{Bool, true, false, ◌≡◌, ◌<◌, ◌+◌, ◌*◌, ◌%◌, ◌^◌, ℕ, List, Option, Some, None, slice_get, unsigned_abs}
use Rattle.dv_base.specs.Rounding.{IsFine, rounded}
use Rattle.dv_base.specs.Excess.{Tells, excess}
use Rattle.font_set.specs.Fonts.{FontSet, width_at, packet_at}
use Rattle.font_set.specs.Programs.{id_of, key_of_first, head_of, locals_at}
use Rattle.vf_expand.specs.Grid.{Grid}
use Rattle.vf_expand.specs.declared.grid.Wide.{Wide}
use Rattle.vf_expand.specs.declared.met.Glyphs.{Glyphs}
use Rattle.vf_expand.specs.declared.met.Met.{Met}
use Rattle.vf_expand.specs.declared.met.Start.{Start}

-- The pixels are those of the width, rounded, and the excess is theirs. That the grid is fine, 2^31 - 1 units fewer than 2^30 pixels, is so of
-- each conversion: what follows of a place's pixels needs it.
pub record IsWide (g : Grid) (w : Wide) : Type 0 where
  pub pixels : w.pixels ≡ rounded g.across w.width
  pub excess : Tells w.excess (excess g.across w.width w.pixels)
  pub fine : IsFine g.across
  pub width_bound : unsigned_abs w.width < 2 ^ 32
  pub pixels_bound : unsigned_abs w.pixels < 2 ^ 32

-- a glyph has no packet, and what is no glyph has one
abbrev pub IsKind : Bool → Option (List ℕ) → Type 0
IsKind true packet = packet ≡ None
IsKind false packet = packet ≡ None → ⊥

-- the character of this code is one of this font, and so wide
pub record IsChar (g : Grid) (set : FontSet) (font code : ℕ) (glyph : Bool) (w : Wide) : Type 0 where
  pub width : width_at set font code ≡ Some w.width
  pub kind : IsKind glyph (packet_at set font code)
  pub wide : IsWide g w

-- where a character is kept
abbrev pub slot_of : ℕ → ℕ → ℕ
slot_of font code = font % 16 * 256 + code

-- the font in which the packets of a font begin
abbrev pub start_of : FontSet → ℕ → Option ℕ
start_of set font = id_of set (key_of_first (head_of (locals_at set font)))

-- What stands in a slot: what was met on another page, or a character of this page.
abbrev pub IsMet : Grid → FontSet → ℕ → ℕ → Option Met → Type 0
IsMet g set page slot None = Unit {0}
IsMet g set page slot (Some m) = m.page ≡ page → IsChar g set m.font (slot % 256) m.glyph m.wide

-- The same of the slot of a virtual font.
abbrev pub IsStart : FontSet → ℕ → Option (Option Start) → Type 0
IsStart set page None = Unit {0}
IsStart set page (Some None) = Unit {0}
IsStart set page (Some (Some s)) = s.page ≡ page → Some s.first ≡ start_of set s.font

-- What was met on this page and is kept is true: of the character of the font that is named with it and of its slot's code, and of the font in
-- which the packets of a virtual one begin.
pub record AreMet (g : Grid) (set : FontSet) (gs : Glyphs) : Type 0 where
  pub each : (slot : ℕ) → IsMet g set gs.page slot (slice_get gs.met.items slot)
  pub starts : (slot : ℕ) → IsStart set gs.page (slice_get gs.starts.items slot)

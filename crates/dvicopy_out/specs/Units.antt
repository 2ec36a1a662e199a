-- The marks of a copy's pages in units, by the keys of their fonts.
use Rattle.std.specs.Prelude.{◌≡◌, ◌<◌, ℕ, ℤ, pos, int_lt, ◌&&◌, true, List, [], ◌∷◌, length, map, Some, None}
use Rattle.std.specs.List.{AllByRecursion}
use Rattle.positions.specs.Mark.{Mark}
use Rattle.positions.specs.Mark.Mark.{OfGlyph, OfRule, OfSpecial}
use Rattle.dvi_ops.specs.Command.{Definition}
use Rattle.dvi_doc.specs.Document.{PageOf, document_of}
use Rattle.font_set.specs.Key.{Key}
use Rattle.font_set.specs.Fonts.{FontSet, key_at, place_of, state_at, width_at}
use Rattle.vf_expand.specs.Grid.{Grid}
use Rattle.vf_expand.specs.Marks.{Outcome}
use Rattle.vf_expand.specs.Page.{page_marks}
use Rattle.dvicopy_out.specs.AsDocument.{file_of}
use Rattle.dvicopy_out.specs.Copies.{Page, Work}
use Rattle.dvicopy_out.specs.Numbered.{is_real}
use Rattle.dvicopy_out.specs.Writable.{IsPutCopy}

-- a mark without its pixels; a character has its font's key in place of the font's number in a set
pub data UnitMark : Type 0 where
  UnitGlyph : (key : Key) (code : ℕ) (h v width : ℤ) → UnitMark
  UnitRule : (h v a b : ℤ) → UnitMark
  UnitSpecial : (bytes : List ℕ) (h v : ℤ) → UnitMark

abbrev pub unit_of : FontSet → Mark → UnitMark
unit_of set (OfGlyph g) = UnitGlyph (key_at set g.font) g.code g.h g.v g.width
unit_of set (OfRule r) = UnitRule r.h r.v r.a r.b
unit_of set (OfSpecial s) = UnitSpecial s.bytes s.h s.v

abbrev pub units_of : FontSet → List Mark → List UnitMark
units_of set ms = map (unit_of set) ms

-- The font of that number has another number in another set, where it is real and has the same widths.
pub record Serving (set other : FontSet) (id : ℕ) : Type 0 where
  pub number : ℕ
  pub known : place_of other.fonts (key_at set id) ≡ Some number
  pub key : key_at other number ≡ key_at set id
  pub real : is_real (state_at other number) ≡ true
  pub widths : (code : ℕ) → width_at other number code ≡ width_at set id code

-- so has each real font that is loaded
abbrev pub Serves : FontSet → FontSet → Type 0
Serves set other = (id : ℕ) → id < length set.fonts → is_real (state_at set id) ≡ true → Serving set other id

-- A glyph is of a real font of the set and has its width; a rule is painted.
abbrev pub IsOf : FontSet → Mark → Type 0
IsOf set (OfGlyph g) = (g.font < length set.fonts) × (is_real (state_at set g.font) ≡ true) × (width_at set g.font g.code ≡ Some g.width)
IsOf set (OfRule r) = (int_lt (pos 0) r.a && int_lt (pos 0) r.b) ≡ true
IsOf set (OfSpecial s) = Unit {0}

-- the marks are defined, and in units they are these
abbrev pub HasUnits : FontSet → List UnitMark → Outcome → Type 0
HasUnits other us None = ⊥
HasUnits other us (Some r) = units_of other r.0 ≡ us

-- Page for page the document's counts and marks are those of the copy.
abbrev pub SamePages : FontSet → FontSet → Grid → List Definition → List Page → List PageOf → Type 0
SamePages set other g ds [] [] = Unit {0}
SamePages set other g ds [] (q ∷ qs) = ⊥
SamePages set other g ds (p ∷ ps) [] = ⊥
SamePages set other g ds (p ∷ ps) (q ∷ qs) = (q.counts ≡ p.counts) × HasUnits other (units_of set p.marks) (page_marks g other ds q.commands) × SamePages set other g ds ps qs

-- each page's marks are of the set
abbrev pub AreOf : FontSet → List Page → Type 0
AreOf set ps = AllByRecursion (λ (p : Page). AllByRecursion (IsOf set) p.marks) ps

-- The pages of the document that a copy is have the marks that were copied, at any resolutions and any drift limit, whatever numbers the fonts
-- have there.
abbrev pub CopyKeepsPages : Type 0
CopyKeepsPages = (w : Work) (ps : List Page) → IsPutCopy w ps → AreOf w.set ps → (other : FontSet) (g : Grid) → Serves w.set other
    → SamePages w.set other g (document_of (file_of w ps)).fonts ps (document_of (file_of w ps)).pages

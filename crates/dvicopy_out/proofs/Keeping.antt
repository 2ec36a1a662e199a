-- That a copy keeps the marks of its pages, where nothing drifts.
use Rattle.std.proofs.Common.{◌≡◌, ℕ, pos, List, [], ◌∷◌, map, Some, None, refl, sym, ap, ◌∙◌}
use Rattle.std.specs.Prelude.{option_map}
use Rattle.std.specs.List.{AllByRecursion}
use Rattle.dv_base.specs.Rounding.{ceiling, rounded}
use Rattle.positions.specs.Mark.{Mark}
use Rattle.positions.specs.Mark.Mark.{OfGlyph, OfRule, OfSpecial}
use Rattle.dvi_ops.specs.Command.{Definition}
use Rattle.dvi_doc.specs.Document.{PageOf}
use Rattle.dvi_doc.specs.View.{ReadDoc}
use Rattle.font_set.specs.Fonts.{FontSet}
use Rattle.font_set.specs.Programs.{page_program}
use Rattle.font_set.specs.Search.{page_of}
use Rattle.vf_expand.specs.Exact.{PagesAreExact, PagesOnGrids, mark_on}
use Rattle.vf_expand.specs.Grid.{Grid}
use Rattle.vf_expand.specs.Marks.{Outcome, marks_alone}
use Rattle.vf_expand.specs.Page.{page_marks}
use Rattle.dvicopy_out.specs.Keyed.{CopyKeepsMarks, HasPages, KeyedMark, copy_document, keyed, keyed_marks}
use Rattle.dvicopy_out.specs.Keyed.KeyedMark.{KeyedGlyph, KeyedRule, KeyedSpecial}
use Rattle.dvicopy_out.specs.Leaves.{work_of}
use Rattle.dvicopy_out.specs.Pages.{IsReady, copy_page, copy_pages, marks_or_none, outcome_at}
use Rattle.dvicopy_out.specs.Units.{CopyKeepsPages, HasUnits, SamePages, UnitMark, unit_of, units_of}
use Rattle.dvicopy_out.specs.Units.UnitMark.{UnitGlyph, UnitRule, UnitSpecial}

-- the mark in units, brought to the nearest pixels of a grid
abbrev pub keyed_on : Grid → UnitMark → KeyedMark
keyed_on h (UnitGlyph key code x y width) = KeyedGlyph key code (rounded h.across x) (rounded h.down y) x y width (rounded h.across width)
keyed_on h (UnitRule x y a b) = KeyedRule (record { x = rounded h.across x; y = rounded h.down y; columns = ceiling h.across b; rows = ceiling h.down a; h = x; v = y; a = a; b = b })
keyed_on h (UnitSpecial bytes x y) = KeyedSpecial (record { bytes = bytes; x = rounded h.across x; y = rounded h.down y; h = x; v = y })

mark_keyed : (h : Grid) (set : FontSet) (m : Mark) → keyed set (mark_on h m) ≡ keyed_on h (unit_of set m)
mark_keyed h set (OfGlyph m) = refl
mark_keyed h set (OfRule m) = refl
mark_keyed h set (OfSpecial m) = refl

marks_keyed : (h : Grid) (set : FontSet) (ms : List Mark) → map (keyed set) (map (mark_on h) ms) ≡ map (keyed_on h) (units_of set ms)
marks_keyed h set [] = refl
marks_keyed h set (m ∷ ms) = λ i. mark_keyed h set m i ∷ marks_keyed h set ms i

-- an outcome whose marks are those of units, each on the grid
outcome_keyed : (h : Grid) (set : FontSet) (o : Outcome) (ms : List Mark) → marks_alone o ≡ Some (map (mark_on h) ms) → keyed_marks set o ≡ Some (map (keyed_on h) (units_of set ms))
outcome_keyed h set None ms e = absurd cc
outcome_keyed h set (Some r) ms e =
    let same : r.0 ≡ map (mark_on h) ms = cc in
    ap (λ (xs : List Mark). Some (map (keyed set) xs)) same ∙ ap (λ (us : List KeyedMark). Some us) (marks_keyed h set ms)

-- the original's page
first_keyed : PagesOnGrids → (g h : Grid) (set : FontSet) (r : ReadDoc) (k : ℕ) → IsReady g set r k → h.drift ≡ pos 0 → keyed_marks set (outcome_at h set r k) ≡ Some (map (keyed_on h) (units_of set (copy_page g set r k).marks))
first_keyed law g h set r k ready flat =
    let marks : ready.marks ≡ marks_or_none (outcome_at g set r k) = ap marks_or_none (sym ready.defined) in
    outcome_keyed h set (outcome_at h set r k) (copy_page g set r k).marks
    (law g h set (page_of r k) flat ∙ ap (λ (o : Outcome). option_map (map (mark_on h)) (marks_alone o)) ready.defined ∙ ap (λ (ms : List Mark). Some (map (mark_on h) ms)) marks)

-- the copy's page
units_keyed : (h : Grid) (other : FontSet) (us : List UnitMark) (o : Outcome) → HasUnits other us o → option_map (map (mark_on h)) (marks_alone o) ≡ marks_alone o → keyed_marks other o ≡ Some (map (keyed_on h) us)
units_keyed h other us None has e = absurd has
units_keyed h other us (Some r) has e = outcome_keyed h other (Some r) r.0 (sym e) ∙ ap (λ (xs : List UnitMark). Some (map (keyed_on h) xs)) has

pages_keep : PagesAreExact → PagesOnGrids → (g : Grid) (set : FontSet) (r : ReadDoc) (ks : List ℕ) (other : FontSet) (h : Grid) (ds : List Definition) (qs : List PageOf) → h.drift ≡ pos 0 → AllByRecursion (IsReady g set r) ks → SamePages set other h ds (copy_pages g set r ks) qs
    → HasPages h set other r ks ds qs
pages_keep exact grids g set r [] other h ds [] flat ready same = tt
pages_keep exact grids g set r [] other h ds (q ∷ qs) flat ready same = absurd same
pages_keep exact grids g set r (k ∷ ks) other h ds [] flat ready same = absurd same
pages_keep exact grids g set r (k ∷ ks) other h ds (q ∷ qs) flat ready same = (
  same.0,
  (
    map (keyed_on h) (units_of set (copy_page g set r k).marks),
    units_keyed h other (units_of set (copy_page g set r k).marks) (page_marks h other ds q.commands) same.1 (exact h other (page_program ds q.commands) flat),
    first_keyed grids g h set r k ready.0 flat,
  ),
  pages_keep exact grids g set r ks other h ds qs flat ready.1 same.2,
)

pub keeps_marks : PagesAreExact → PagesOnGrids → CopyKeepsPages → CopyKeepsMarks
keeps_marks exact grids keeps g set r ks mag made other serves h flat =
    pages_keep exact grids g set r ks other h (copy_document g set r ks mag).fonts (copy_document g set r ks mag).pages flat made.ready
    (keeps (work_of r set mag) (copy_pages g set r ks) made.put made.of_set other h serves)

-- One page with the fonts of two sets that have them from the same files.
use Rattle.std.specs.Prelude.{◌≡◌, List, [], ◌∷◌, Some}
use Rattle.dv_base.specs.Shelf.{Contents}
use Rattle.dvi_ops.specs.Command.{Definition}
use Rattle.dvi_ops.specs.Placed.{Placed}
use Rattle.dvi_doc.specs.Document.{PageOf}
use Rattle.positions.specs.Mark.{Mark}
use Rattle.positions.specs.Mark.Mark.{OfGlyph, OfRule, OfSpecial}
use Rattle.font_set.specs.Alike.{Alike, Twin}
use Rattle.font_set.specs.Covers.{Covers}
use Rattle.font_set.specs.Fonts.{FontSet, state_at}
use Rattle.font_set.specs.Key.{Key}
use Rattle.vf_expand.specs.Grid.{Grid, State}
use Rattle.vf_expand.specs.Page.{IsPageCause, IsShallowPage, page_acts, page_count, page_marks}
use Rattle.vf_expand.specs.declared.fault.WalkFault.{WalkFault}
use Rattle.vf_expand.specs.declared.fault.WalkFault.TheVariants as fault

-- a fault that doesn't stand in the page: what is counted over pages, and what a canvas answers
abbrev pub IsOutside : {F : Type 0} → WalkFault F → Type 0
IsOutside fault.TooManySteps = Unit {0}
IsOutside (fault.Canvas f) = Unit {0}
IsOutside _ = ⊥

-- the marks differ in the numbers of fonts alone, and each glyph is of a font that is the same in both sets
abbrev pub MarkAlike : FontSet → FontSet → Mark → Mark → Type 0
MarkAlike a b (OfGlyph x) (OfGlyph y) = (key : Key) × Twin a b key x.font y.font × (state_at a x.font ≡ state_at b y.font) × (y ≡ record x { font = y.font })
MarkAlike a b (OfRule x) (OfRule y) = x ≡ y
MarkAlike a b (OfSpecial x) (OfSpecial y) = x ≡ y
MarkAlike a b _ _ = ⊥

abbrev pub MarksAlike : FontSet → FontSet → List Mark → List Mark → Type 0
MarksAlike a b [] [] = Unit {0}
MarksAlike a b (m ∷ ms) (n ∷ ns) = MarkAlike a b m n × MarksAlike a b ms ns
MarksAlike a b _ _ = ⊥

-- Where the marks of a page are defined and its pushes are never too deep with the fonts of b, nothing in the page stops a walk with those
-- of a. Both cover the page.
abbrev pub FaultlessAlike : Type 0
FaultlessAlike = (held : Contents) (a b : FontSet) → Alike held a b → (g : Grid) (ds : List Definition) (p : PageOf) (r : List Mark × State) → Covers a (page_acts ds p.commands) → Covers b (page_acts ds p.commands)
    → page_marks g b ds p.commands ≡ Some r → IsShallowPage g b ds p.commands → (e : WalkFault (Unit {0})) → IsPageCause g a ds p e → IsOutside e

-- It runs as many commands.
abbrev pub CountAlike : Type 0
CountAlike = (held : Contents) (a b : FontSet) → Alike held a b → (ds : List Definition) (cs : List Placed) → Covers a (page_acts ds cs) → Covers b (page_acts ds cs) → page_count a ds cs ≡ page_count b ds cs

-- Its marks are alike where they are defined.
abbrev pub MarksOfPageAlike : Type 0
MarksOfPageAlike = (held : Contents) (a b : FontSet) → Alike held a b → (g : Grid) (ds : List Definition) (cs : List Placed) (q r : List Mark × State) → page_marks g a ds cs ≡ Some q → page_marks g b ds cs ≡ Some r → MarksAlike a b q.0 r.0

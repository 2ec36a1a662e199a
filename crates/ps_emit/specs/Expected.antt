-- The events that a job owes, by the marks of its pages and the fonts of the run.
use Rattle.std.specs.Prelude.{ℕ, ◌-ℤ◌, Bool, List, [], ◌∷◌, ◌++◌, codes, decimal, Option, Some, None}
use Rattle.std.specs.Fmt.{signed_decimal}
use Rattle.positions.specs.Mark.{Mark, Glyph}
use Rattle.positions.specs.Mark.Mark.{OfGlyph, OfRule, OfSpecial}
use Rattle.pk_raster.specs.Font.{Bitmap}
use Rattle.font_set.specs.Fonts.{FontSet, bitmap_at}
use Rattle.sections.specs.Used.{used_in}
use Rattle.ps_subset.specs.State as state
use Rattle.ps_subset.specs.State.{Event, Mask, PutArray, FontMade, Shown, Character, in_order}
use Rattle.ps_subset.specs.MaskEffects.{rows_mark, mask_events}
use Rattle.ps_subset.specs.Job.{Job, per_pixel, pixel_place, rule_mask}
use Rattle.ps_subset.specs.Fonts.{font_name}
use Rattle.ps_subset.specs.Lines.{comment_events, head_events}
use Rattle.ps_subset.specs.Blocks.{headers_events}
use Rattle.ps_emit.specs.Setup.{head_of, job_of}
use Rattle.ps_emit.specs.Letters.{used_codes, used_fonts}
use Rattle.ps_emit.specs.Shapes.{passed_on}
use Rattle.ps_emit.specs.Pages.{PrintedPage, Work, marks_of}
use Rattle.ps_emit.specs.declared.setup.Setup.{Setup}

-- A glyph is its bitmap, a sample a pixel, whose upper left pixel is (hoff, voff) before the mark's; by its font's name and its code. One without a
-- black pixel is no ink.
abbrev pub glyph_ink : Job → Glyph → Option Bitmap → List Event
glyph_ink j g None = []
glyph_ink j g (Some b) =
    mask_events (rows_mark b.w b.h b.rows)
    (Mask (Some (record { key = font_name g.font; code = g.code })) (pixel_place j (g.x -ℤ b.hoff) (g.y -ℤ b.voff)) (record { x = per_pixel j.across; y = per_pixel j.down }) b.w b.h b.rows)

-- a special that is passed on is met as a block
abbrev pub special_ink : Option (List ℕ) → List Event
special_ink None = []
special_ink (Some text) = state.Block text ∷ []

abbrev pub ink : Job → FontSet → Bool → Mark → List Event
ink j set pass (OfGlyph g) = glyph_ink j g (bitmap_at set g.font g.code)
ink j set pass (OfRule r) = rule_mask j r.x r.y r.columns r.rows ∷ []
ink j set pass (OfSpecial s) = special_ink (passed_on pass s.bytes)

abbrev pub inks : Job → FontSet → Bool → List Mark → List Event
inks j set pass [] = []
inks j set pass (m ∷ ms) = ink j set pass m ++ inks j set pass ms

-- A font is made once for a section: each of its used codes is put, from the least up, and then it is defined.
abbrev pub codes_put : List ℕ → List Event
codes_put [] = []
codes_put (c ∷ cs) = PutArray c ∷ codes_put cs

abbrev pub fonts_put : (ℕ → ℕ → Bool) → List ℕ → List Event
fonts_put used [] = []
fonts_put used (id ∷ ids) = (codes_put (used_codes (used id)) ++ FontMade (font_name id) ∷ []) ++ fonts_put used ids

-- the characters that the fonts then hold: exactly the used ones
abbrev pub codes_held : ℕ → List ℕ → List Character
codes_held id [] = []
codes_held id (c ∷ cs) = record { key = font_name id; code = c } ∷ codes_held id cs

abbrev pub fonts_hold : (ℕ → ℕ → Bool) → List ℕ → List Character
fonts_hold used [] = []
fonts_hold used (id ∷ ids) = codes_held id (used_codes (used id)) ++ fonts_hold used ids

abbrev pub page_title : PrintedPage → List ℕ
page_title p = codes "%%Page: " ++ (signed_decimal p.label ++ 32 ∷ decimal p.number)

-- a page: its comment, the ink of its marks in order, and then it is shown with the job's copies
abbrev pub page_shown : Bool → Setup → FontSet → Bool → List Character → PrintedPage → List Event
page_shown comments s set pass held p = comment_events comments (page_title p) ++ (inks (job_of s) set pass p.marks ++ Shown s.copies (in_order held) ∷ [])

abbrev pub pages_shown : Bool → Setup → FontSet → Bool → List Character → List PrintedPage → List Event
pages_shown comments s set pass held [] = []
pages_shown comments s set pass held (p ∷ ps) = page_shown comments s set pass held p ++ pages_shown comments s set pass held ps

-- a section: the fonts that its pages use, and its pages in order
abbrev pub section_shown : Bool → Setup → FontSet → Bool → List PrintedPage → List Event
section_shown comments s set pass ps =
    let used = used_in (marks_of ps) in
    fonts_put used (used_fonts set used) ++ pages_shown comments s set pass (fonts_hold used (used_fonts set used)) ps

abbrev pub sections_shown : Bool → Setup → FontSet → Bool → List (List PrintedPage) → List Event
sections_shown comments s set pass [] = []
sections_shown comments s set pass (ps ∷ pss) = section_shown comments s set pass ps ++ sections_shown comments s set pass pss

-- all of them: the comments before the first section, with the headers, the sections in order, the comments behind the last one
abbrev pub expected : Bool → Setup → Work → List Event
expected comments s w =
    head_events (head_of comments s) ++
    (comment_events comments (codes "%%BeginProlog") ++
    (headers_events w.headers ++
    (comment_events comments (codes "%%EndProlog") ++
    (comment_events comments (codes "%%BeginSetup") ++
    (comment_events comments (codes "%%EndSetup") ++
    (sections_shown comments s w.fonts w.pass w.sections ++
    (comment_events comments (codes "%%Trailer") ++
    comment_events comments (codes "%%EOF"))))))))

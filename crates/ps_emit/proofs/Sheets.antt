-- The writer by codes writes what a writer that knows the letters does, and so the lines of the page's items.
use Rattle.std.proofs.Common.{◌≡◌, refl, sym, ap, ◌∙◌, subst, append_assoc, ℕ, Bool, List, [], ◌∷◌, ◌++◌, Option, Some, None}
use Rattle.std.specs.Prelude.{codes, option_map, if◌then◌else◌}
use Rattle.std.proofs.lemmas.List.{append-nil}
use Rattle.positions.specs.Mark.{Mark, Glyph, Rule, Special}
use Rattle.positions.specs.Mark.Mark.{OfGlyph, OfRule, OfSpecial}
use Rattle.font_set.specs.Fonts.{FontSet}
use Rattle.ps_subset.specs.Fonts.{Letter}
use Rattle.ps_subset.specs.Prolog.{line}
use Rattle.ps_subset.specs.Items as item
use Rattle.ps_subset.specs.Items.{first_pen, item_lines, pen_behind, lines_from}
use Rattle.ps_subset.specs.Marks as marks
use Rattle.ps_subset.specs.Marks.{kept, grouped, all_written, behind_all}
use Rattle.ps_subset.proofs.Marks.{lines_of_marks, marks_in_parts, writes_by_codes}
use Rattle.ps_emit.specs.Shapes.{passed_on, glyph_shape, special_shape, shape_of, shapes_of}
use Rattle.ps_emit.specs.Sheet.{Sheet, first_sheet, mark_lines, mark_sheet, marks_lines, marks_sheet, special_lines, special_sheet, page_end}
use Rattle.ps_emit.specs.Taken.{IsTakeable, AllTakeable}
use Rattle.ps_emit.proofs.Uses.{letter, letter_is}

-- the sheet by codes of a sheet with letters
abbrev pub by_codes : marks.Sheet → Sheet
by_codes s = record { pen = s.pen; stretch = option_map kept s.stretch }

-- these lines are written, and this sheet is left
pub record Same (s : marks.Sheet) (shapes : List marks.Mark) (lines : List ℕ) (behind : Sheet) : Type 0 where
  pub lines_are : lines ≡ all_written s shapes
  pub sheet_is : behind ≡ by_codes (behind_all s shapes)

letter_same : (s : marks.Sheet) (l : Letter) (g : Glyph) (pass : Bool) → l.code ≡ g.code → l.glyph.width ≡ g.pixels → Same s (glyph_shape (Some l) g) (mark_lines pass (by_codes s) (OfGlyph g)) (mark_sheet pass (by_codes s) (OfGlyph g))
letter_same s l g pass c w =
    let k = writes_by_codes s in
    record {
      lines_are = (λ i. if k.goes_on g.font g.x g.y i then [] else k.closing (Some (g.x, g.y)) i) ∙ sym (append-nil (marks.written s (marks.Glyph g.font l g.x g.y)));
      sheet_is = λ i. record {
        pen = if k.goes_on g.font g.x g.y i then s.pen else k.pen (Some (g.x, g.y)) i;
        stretch = ((λ j. marks.with_code (option_map kept s.stretch) g.font (sym c j) g.x g.y (sym w j)) ∙ k.letter g.font l g.x g.y) i;
      };
    }

glyph_same : (set : FontSet) (pass : Bool) (s : marks.Sheet) (g : Glyph) → IsTakeable set (OfGlyph g) → Same s (shape_of set pass (OfGlyph g)) (mark_lines pass (by_codes s) (OfGlyph g)) (mark_sheet pass (by_codes s) (OfGlyph g))
glyph_same set pass s g h =
    subst (λ (o : Option Letter). Same s (glyph_shape o g) (mark_lines pass (by_codes s) (OfGlyph g)) (mark_sheet pass (by_codes s) (OfGlyph g)))
    (sym (letter_is set g.font g.code (h.3).0 g.pixels (h.3).1 h.2)) (letter_same s (letter g.code (h.3).0 g.pixels) g pass refl refl)

rule_same : (pass : Bool) (s : marks.Sheet) (r : Rule) → Same s (marks.Bar r.columns r.rows r.x r.y ∷ []) (mark_lines pass (by_codes s) (OfRule r)) (mark_sheet pass (by_codes s) (OfRule r))
rule_same pass s r =
    let k = writes_by_codes s in
    let i = item.Rule r.columns r.rows r.x r.y in
    record {
      lines_are = (λ n. k.closing (Some (r.x, r.y)) n ++ item_lines (k.pen (Some (r.x, r.y)) n) i None) ∙ sym (append-nil (marks.written s (marks.Bar r.columns r.rows r.x r.y)));
      sheet_is = λ n. record { pen = pen_behind (k.pen (Some (r.x, r.y)) n) i None; stretch = None };
    }

special_same : (s : marks.Sheet) (p : Special) (o : Option (List ℕ)) → Same s (special_shape o p) (special_lines (by_codes s) p o) (special_sheet (by_codes s) p o)
special_same s p None = record { lines_are = refl; sheet_is = refl }
special_same s p (Some text) =
    let k = writes_by_codes s in
    let i = item.Block text p.x p.y in
    record {
      lines_are = (λ n. k.closing (Some (p.x, p.y)) n ++ item_lines (k.pen (Some (p.x, p.y)) n) i None) ∙ sym (append-nil (marks.written s (marks.Passed text p.x p.y)));
      sheet_is = λ n. record { pen = pen_behind (k.pen (Some (p.x, p.y)) n) i None; stretch = None };
    }

mark_same : (set : FontSet) (pass : Bool) (s : marks.Sheet) (m : Mark) → IsTakeable set m → Same s (shape_of set pass m) (mark_lines pass (by_codes s) m) (mark_sheet pass (by_codes s) m)
mark_same set pass s (OfGlyph g) h = glyph_same set pass s g h
mark_same set pass s (OfRule r) h = rule_same pass s r
mark_same set pass s (OfSpecial p) h = special_same s p (passed_on pass p.bytes)

pub marks_same : (set : FontSet) (pass : Bool) (s : marks.Sheet) (ms : List Mark) → AllTakeable set ms → Same s (shapes_of set pass ms) (marks_lines pass (by_codes s) ms) (marks_sheet pass (by_codes s) ms)
marks_same set pass s [] all = record { lines_are = refl; sheet_is = refl }
marks_same set pass s (m ∷ ms) all =
    let here = mark_same set pass s m all.0 in
    let after = marks_same set pass (behind_all s (shape_of set pass m)) ms all.1 in
    let parts = marks_in_parts s (shape_of set pass m) (shapes_of set pass ms) in
    record {
      lines_are = (λ i. here.lines_are i ++ marks_lines pass (here.sheet_is i) ms) ∙ ap (λ bs. all_written s (shape_of set pass m) ++ bs) after.lines_are ∙ sym parts.0;
      sheet_is = ap (λ t. marks_sheet pass t ms) here.sheet_is ∙ after.sheet_is ∙ ap by_codes (sym parts.1);
    }

-- the lines of a page's marks and its end are the lines of its items and eop
pub page_body : (set : FontSet) (pass : Bool) (ms : List Mark) → AllTakeable set ms
    → marks_lines pass first_sheet ms ++ page_end (marks_sheet pass first_sheet ms) ≡ lines_from first_pen (grouped None (shapes_of set pass ms)) ++ line (codes "eop")
page_body set pass ms all =
    let same = marks_same set pass marks.first_sheet ms all in
    let shapes = shapes_of set pass ms in
    let last = behind_all marks.first_sheet shapes in
    (λ i. same.lines_are i ++ page_end (same.sheet_is i))
    ∙ ap (λ bs. all_written marks.first_sheet shapes ++ (bs ++ line (codes "eop"))) ((writes_by_codes last).closing None)
    ∙ sym (append_assoc (all_written marks.first_sheet shapes) (marks.closing last.pen last.stretch None) (line (codes "eop")))
    ∙ ap (λ bs. bs ++ line (codes "eop")) (sym (lines_of_marks shapes))

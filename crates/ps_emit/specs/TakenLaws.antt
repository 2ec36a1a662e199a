-- What an emitter took, put together. (These laws stand here and not in proofs/, since the crates above cite them.)
use Rattle.std.specs.Prelude.{◌≡◌, Bool, List, [], ◌∷◌, ◌++◌}
use Rattle.std.proofs.Common.{refl, sym, ap, ◌∙◌, subst, append_assoc, arith}
use Rattle.dv_base.specs.declared.tray.Tray.{Ghosts}
use Rattle.positions.specs.Mark.{Mark}
use Rattle.positions.specs.Conditions.{SameCondition}
use Rattle.ps_emit.specs.Sheet.{Sheet, mark_lines, mark_sheet, marks_lines, marks_sheet}
use Rattle.ps_emit.specs.Written.{Out, Wrote, Cut, wrote_nothing, wrote_more, cut_later, cut_longer}
use Rattle.ps_emit.specs.Shown.{holds_more, fonts_of, out_of, pass_of, sheet_of}
use Rattle.ps_emit.specs.Taken.{CanTake, IsTakeable, Took, Refused}
use Rattle.ps_emit.specs.declared.emitter.Emitter.{Emitter}

pub marks_lines-append : (pass : Bool) (s : Sheet) (xs ys : List Mark) → marks_lines pass s (xs ++ ys) ≡ marks_lines pass s xs ++ marks_lines pass (marks_sheet pass s xs) ys
marks_lines-append pass s [] ys = refl
marks_lines-append pass s (m ∷ xs) ys =
    ap (λ bs. mark_lines pass s m ++ bs) (marks_lines-append pass (mark_sheet pass s m) xs ys)
    ∙ sym (append_assoc (mark_lines pass s m) (marks_lines pass (mark_sheet pass s m) xs) (marks_lines pass (marks_sheet pass (mark_sheet pass s m) xs) ys))

pub marks_sheet-append : (pass : Bool) (s : Sheet) (xs ys : List Mark) → marks_sheet pass s (xs ++ ys) ≡ marks_sheet pass (marks_sheet pass s xs) ys
marks_sheet-append pass s [] ys = refl
marks_sheet-append pass s (m ∷ xs) ys = marks_sheet-append pass (mark_sheet pass s m) xs ys

-- two lists of marks, one after the other, where the second begins with what the first has left
both_written : (pass again : Bool) (from next : Sheet) (xs ys : List Mark) (a b c : Out) → again ≡ pass → next ≡ marks_sheet pass from xs → Wrote (marks_lines pass from xs) a b → Wrote (marks_lines again next ys) b c → Wrote (marks_lines pass from (xs ++ ys)) a c
both_written pass again from next xs ys a b c p e f g =
    subst (λ text. Wrote text a c) ((λ i. marks_lines pass from xs ++ marks_lines (p i) (e i) ys) ∙ sym (marks_lines-append pass from xs ys))
    (wrote_more (marks_lines pass from xs) (marks_lines again next ys) a b c f g)

pub took_nothing : {T : Type 0} {G : Ghosts T} (e : Emitter T G) → Took e e []
took_nothing e = record { wrote = wrote_nothing (out_of e) e.fits; sheet = refl; holds = record { loan_same = refl; fonts_same = refl; comments_same = refl; pass_same = refl } }

pub took_more : {T : Type 0} {G : Ghosts T} (a b c : Emitter T G) (xs ys : List Mark) → Took a b xs → Took b c ys → Took a c (xs ++ ys)
took_more a b c xs ys f g =
    let again : pass_of b ≡ pass_of a = (f.holds).pass_same in
    record {
      wrote = both_written (pass_of a) (pass_of b) (sheet_of a) (sheet_of b) xs ys (out_of a) (out_of b) (out_of c) again f.sheet f.wrote g.wrote;
      sheet = g.sheet ∙ (λ i. marks_sheet (again i) (f.sheet i) ys) ∙ sym (marks_sheet-append (pass_of a) (sheet_of a) xs ys);
      holds = holds_more a b c f.holds g.holds;
    }

pub refused_after : {T : Type 0} {G : Ghosts T} (a b c : Emitter T G) (xs ys : List Mark) (mark : Mark) → Took a b xs → Refused b c ys mark → Refused a c (xs ++ ys) mark
refused_after a b c xs ys mark f g =
    let again : pass_of b ≡ pass_of a = (f.holds).pass_same in
    record {
      between = g.between;
      wrote = both_written (pass_of a) (pass_of b) (sheet_of a) (sheet_of b) xs ys (out_of a) (out_of b) g.between again f.sheet f.wrote g.wrote;
      cut =
          subst (λ text. Cut text g.between (out_of c))
          ((λ i. mark_lines (again i) (marks_sheet (again i) (f.sheet i) ys) mark) ∙ ap (λ s. mark_lines (pass_of a) s mark) (sym (marks_sheet-append (pass_of a) (sheet_of a) xs ys)))
          g.cut;
      holds = holds_more a b c f.holds g.holds;
    }

-- what has been taken leaves an output begun, and the fonts
pub same_condition : {T : Type 0} {G : Ghosts T} (old new : Emitter T G) (marks : List Mark) → Took old new marks → SameCondition CanTake old new
same_condition old new marks f mark =
    let e = (f.wrote).keeps.begun_same in
    let fonts : fonts_of new ≡ fonts_of old = (f.holds).fonts_same in (
      (λ h. (omega (arith, e, h.0), subst (λ set. IsTakeable set mark) (sym fonts) h.1)),
      (λ h. (omega (arith, e, h.0), subst (λ set. IsTakeable set mark) fonts h.1)),
    )

-- a mark that is refused cuts the lines of all marks of which it is the next
pub refused_cut : {T : Type 0} {G : Ghosts T} (a b : Emitter T G) (xs : List Mark) (mark : Mark) (rest all : List Mark) → Refused a b xs mark → xs ++ mark ∷ rest ≡ all → Cut (marks_lines (pass_of a) (sheet_of a) all) (out_of a) (out_of b)
refused_cut a b xs mark rest all f e =
    let pass = pass_of a in
    let next : Sheet = marks_sheet pass (sheet_of a) xs in
    let whole : marks_lines pass (sheet_of a) xs ++ (mark_lines pass next mark ++ marks_lines pass (mark_sheet pass next mark) rest) ≡ marks_lines pass (sheet_of a) all =
    sym (marks_lines-append pass (sheet_of a) xs (mark ∷ rest)) ∙ ap (marks_lines pass (sheet_of a)) e in
    subst (λ text. Cut text (out_of a) (out_of b)) whole
    (cut_later (marks_lines pass (sheet_of a) xs) (mark_lines pass next mark ++ marks_lines pass (mark_sheet pass next mark) rest) (out_of a) f.between (out_of b) f.wrote
    (cut_longer (mark_lines pass next mark) (marks_lines pass (mark_sheet pass next mark) rest) f.between (out_of b) f.cut))

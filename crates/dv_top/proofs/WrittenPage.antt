-- One page, from the calls that write it.
use Rattle.std.proofs.Common.{◌≡◌, ◌<◌, ℕ, ℤ, List, ◌++◌, length, map, get_or, Some, Result, Bool, arith, sym, ap, subst, ◌∙◌}
use Rattle.std.specs.List.{Contains}
use Rattle.std.specs.Result.{IsErr}
use Rattle.std.proofs.lemmas.List.Elements.{All-from_recursion}
use Rattle.dv_base.specs.declared.tray.Tray.{Ghosts}
use Rattle.dv_base.specs.declared.tray.WriteFault.{WriteFault}
use Rattle.positions.specs.Mark.{Mark}
use Rattle.dvi_doc.specs.Document.{PageOf}
use Rattle.dvi_doc.specs.Laws.{OneDocument}
use Rattle.dvi_doc.specs.View.{IsRead, Outline, ReadDoc, page_view}
use Rattle.dvi_doc.specs.declared.page.Page.{Page}
use Rattle.font_set.specs.Fonts.{FontSet}
use Rattle.vf_expand.specs.Grid.{State}
use Rattle.vf_expand.specs.Marks.{Outcome, marks_alone}
use Rattle.vf_expand.specs.Page.{IsPage}
use Rattle.vf_expand.specs.Takes.{IsAmong, RefusesNext, Stops, TookPage}
use Rattle.vf_expand.specs.declared.fault.WalkFault.{WalkFault}
use Rattle.vf_expand.specs.declared.fault.WalkFault.TheVariants as fault
use Rattle.ps_emit.specs.Pages.{page_begin, page_calls}
use Rattle.ps_emit.specs.Sheet.{first_sheet, marks_lines, marks_sheet, page_end}
use Rattle.ps_emit.specs.Shown.{Holds, out_of, pass_of, sheet_of}
use Rattle.ps_emit.specs.Taken.{AllTakeable, IsTakeable, Refused, Took}
use Rattle.ps_emit.specs.TakenLaws.{refused_cut}
use Rattle.ps_emit.specs.Written.{Cut, Out, Writes, Wrote, cut_later, cut_longer, cut_writes, then_writes}
use Rattle.ps_emit.specs.declared.emitter.Emitter.{Emitter}
use Rattle.dv_top.specs.Printing.{label_of, with_marks}
use Rattle.dv_top.proofs.DocPages.{page_seen, there}
use Rattle.dv_top.proofs.PagesAt.{page_many}

-- ---- the page

-- a page that was found is one of the document's
pub page_here : OneDocument → (r : ReadDoc) (k : ℕ) → IsRead r → k < length r.pages → (p : PageOf) × IsPage r k p
page_here one r k read within =
    let d = read.0 in
    let is = read.1 in
    let page = there d.pages k (omega (arith, within, page_many one r d read is)) in
    (page.0, (d, is, page.1))

-- its counts are those of the page of the code
pub label_here : OneDocument → (r : ReadDoc) (k : ℕ) (p : PageOf) (ps : List Page) (x : Page) (label : ℤ) → IsRead r → IsPage r k p → map page_view ps ≡ r.pages
    → label ≡ label_of (get_or ps k x).counts → label_of p.counts ≡ label
label_here one r k p ps x label read (d, is, at) views named =
    sym (ap (λ (y : Outline). label_of y.counts) (page_seen one r d ps k p x read is views at)) ∙ sym named

-- ---- the marks

-- a mark that may come can be taken
pub can_take : (set : FontSet) (o : Outcome) (marks : List Mark) (s : State) (m : Mark) → o ≡ Some (marks, s) → AllTakeable set marks → IsAmong (marks_alone o) m → IsTakeable set m
can_take set o marks s m e all among =
    let contained : Contains marks m = subst (λ (x : Outcome). IsAmong (marks_alone x) m) e among in
    let each = All-from_recursion (IsTakeable set) marks all in
    subst (IsTakeable set) contained.2 (each contained.0 m contained.1)

pub took_marks : {C : Type 0} (takes : C → C → List Mark → Type 0) (a b : C) (o : Outcome) (marks : List Mark) (s : State) → o ≡ Some (marks, s) → TookPage takes a b o → takes a b marks
took_marks takes a b o marks s e t = let h = subst (TookPage takes a b) e t in h

pub refused_marks : {C F : Type 0} (takes : C → C → List Mark → Type 0) (refuses : C → C → List Mark → Mark → F → Type 0) (a b : C) (o : Outcome) (marks : List Mark) (s : State) (e : WalkFault F)
    → o ≡ Some (marks, s) → (f : F) × (e ≡ fault.Canvas f) → Stops takes refuses a b (marks_alone o) e → (f : F) × RefusesNext refuses a b f (Some marks)
refused_marks takes refuses a b o marks s e some (f, is) stops =
    (f, subst (λ x. Stops takes refuses a b (marks_alone x) (fault.Canvas f)) some (subst (Stops takes refuses a b (marks_alone o)) is stops))

-- ---- what was written

-- the calls of a page with these marks
page_text : (comments pass : Bool) (p : PageOf) (n : ℕ) (label : ℤ) (marks : List Mark) → label_of p.counts ≡ label
    → page_begin comments label n ++ (marks_lines pass first_sheet marks ++ page_end (marks_sheet pass first_sheet marks)) ≡ page_calls comments pass (with_marks p n marks)
page_text comments pass p n label marks e =
    ap (λ (z : ℤ). page_begin comments z n ++ (marks_lines pass first_sheet marks ++ page_end (marks_sheet pass first_sheet marks))) (sym e)

pub begin_cut : {X E : Type 0} (comments pass : Bool) (p : PageOf) (n : ℕ) (label : ℤ) (marks : List Mark) (x y : Out) (r : Result X E) → label_of p.counts ≡ label → IsErr r
    → Cut (page_begin comments label n) x y → Writes (page_calls comments pass (with_marks p n marks)) x y r
begin_cut comments pass p n label marks x y r e h f =
    cut_writes (page_calls comments pass (with_marks p n marks)) x y r h
    (subst (λ text. Cut text x y) (page_text comments pass p n label marks e)
    (cut_longer (page_begin comments label n) (marks_lines pass first_sheet marks ++ page_end (marks_sheet pass first_sheet marks)) x y f))

-- what was begun stays begun
pub still_begun : (text : List ℕ) (x y : Out) → 0 < x.seen.begun → Wrote text x y → 0 < y.seen.begun
still_begun text x y h w = let same = w.keeps.begun_same in omega (arith, h, same)

pub cut_begun : (text : List ℕ) (x y : Out) → 0 < x.seen.begun → Cut text x y → 0 < y.seen.begun
cut_begun text x y h w = let same = w.keeps.begun_same in omega (arith, h, same)

pub begun_then : {T : Type 0} {G : Ghosts T} (a b : Emitter T G) (marks : List Mark) → 0 < (out_of a).seen.begun → Took a b marks → 0 < (out_of b).seen.begun
begun_then {T} {G} a b marks h g = let same = g.wrote.keeps.begun_same in omega (arith, h, same)

pub page_written : {T : Type 0} {G : Ghosts T} {X E : Type 0} (comments pass : Bool) (p : PageOf) (n : ℕ) (label : ℤ) (marks : List Mark) (x : Out) (a b : Emitter T G) (z : Out) (r : Result X E)
    → label_of p.counts ≡ label → Wrote (page_begin comments label n) x (out_of a) → sheet_of a ≡ first_sheet → pass_of a ≡ pass → Took a b marks
    → Writes (page_end (sheet_of b)) (out_of b) z r → Writes (page_calls comments pass (with_marks p n marks)) x z r
page_written {T} {G} comments pass p n label marks x a b z r e f at same g h =
    let lines : Wrote (marks_lines pass first_sheet marks) (out_of a) (out_of b) =
    subst (λ q. Wrote (marks_lines pass q marks) (out_of a) (out_of b)) at (subst (λ w. Wrote (marks_lines w (sheet_of a) marks) (out_of a) (out_of b)) same g.wrote) in
    let sheet : sheet_of b ≡ marks_sheet pass first_sheet marks = g.sheet ∙ ap (λ w. marks_sheet w (sheet_of a) marks) same ∙ ap (λ q. marks_sheet pass q marks) at in
    let ends : Writes (page_end (marks_sheet pass first_sheet marks)) (out_of b) z r = subst (λ q. Writes (page_end q) (out_of b) z r) sheet h in
    subst (λ text. Writes text x z r) (page_text comments pass p n label marks e)
    (then_writes (page_begin comments label n) (marks_lines pass first_sheet marks ++ page_end (marks_sheet pass first_sheet marks)) x (out_of a) z r f
    (then_writes (marks_lines pass first_sheet marks) (page_end (marks_sheet pass first_sheet marks)) (out_of a) (out_of b) z r lines ends))

pub page_cut : {T : Type 0} {G : Ghosts T} (comments pass : Bool) (p : PageOf) (n : ℕ) (label : ℤ) (marks : List Mark) (x : Out) (a b : Emitter T G) (f : WriteFault)
    → label_of p.counts ≡ label → Wrote (page_begin comments label n) x (out_of a) → sheet_of a ≡ first_sheet → pass_of a ≡ pass
    → RefusesNext (λ v w ms m e. Refused {T = T} {G = G} v w ms m) a b f (Some marks) → Cut (page_calls comments pass (with_marks p n marks)) x (out_of b)
page_cut {T} {G} comments pass p n label marks x a b f e begun at same (ms, m, rest, refused, whole) =
    let lines : Cut (marks_lines pass first_sheet marks) (out_of a) (out_of b) =
    subst (λ q. Cut (marks_lines pass q marks) (out_of a) (out_of b)) at
    (subst (λ w. Cut (marks_lines w (sheet_of a) marks) (out_of a) (out_of b)) same (refused_cut a b ms m rest marks refused whole)) in
    subst (λ text. Cut text x (out_of b)) (page_text comments pass p n label marks e)
    (cut_later (page_begin comments label n) (marks_lines pass first_sheet marks ++ page_end (marks_sheet pass first_sheet marks)) x (out_of a) (out_of b) begun
    (cut_longer (marks_lines pass first_sheet marks) (page_end (marks_sheet pass first_sheet marks)) (out_of a) (out_of b) lines))

-- what a refusal leaves as it was
pub refused_holds : {T : Type 0} {G : Ghosts T} (a b : Emitter T G) (f : WriteFault) (marks : List Mark) → RefusesNext (λ x y ms m e. Refused {T = T} {G = G} x y ms m) a b f (Some marks) → Holds a b
refused_holds a b f marks (ms, m, rest, refused, whole) = refused.holds

use Rattle.std.proofs.Common.{Result, Ok, Err, ◌≡◌, ◌+◌, [], OnOk, IfErr, sym, subst}
use Rattle.dvi_doc.specs.declared.page.Page.{Page}
use Rattle.font_set.specs.Covers.{Covers}
use Rattle.font_set.specs.Frames.{acts_of}
use Rattle.font_set.specs.Programs.{Program}
use Rattle.vf_expand.specs.Painted.{IsPainted, AreComing}
use Rattle.vf_expand.specs.Marks.{marks_alone}
use Rattle.vf_expand.specs.Takes.{CanTake, TookPage, Stops}
use Rattle.vf_expand.specs.Causes.{IsMany}
use Rattle.vf_expand.specs.Page.{Walk, page_marks, page_acts, page_count, IsPageCause, IsShallowPage}
use Rattle.vf_expand.proofs.Paging.{body_of, page_there, page_at}
use Rattle.vf_expand.proofs.Coming.{page_alone, page_comes}
use Rattle.vf_expand.proofs.walker.Walker.page.Goals as goal

on_ok : {E : Type 0} {P Q : Type 0} (r : Result (Unit {0}) E) → (P → Q) → OnOk r P → OnOk r Q
on_ok (Ok u) f h = f h
on_ok (Err e) f h = h

pub frame-requires-clause-ready : goal.frame-requires-clause-ready
frame-requires-clause-ready g c =
    let r = c.args.doc.now in
    let set = c.args.fonts.now in
    let none : Page = record { at = 0; first = 0; eop = 0; counts = [] } in
    let x = page_there r c.args.page c.body.result.now c.requires.read c.body.ensures.commands in
    let b = body_of c.one_document.ensures r c.args.page c.pages.result.now none c.body.result.now c.requires.read c.pages.ensures c.body.ensures.bytes c.body.ensures.commands x.0 x.1 in
    let can = subst (λ (w : Walk). CanTake g.C.Canvas.can (IsPainted w.grid set (page_acts r.fonts x.0.commands)) c.args.canvas.now (marks_alone (page_marks w.grid set r.fonts x.0.commands))) (sym c.self.view_is) (c.requires.can x.0 x.1) in
    let covers = subst (λ (q : Program). Covers set (acts_of q)) (page_at c.one_document.ensures c.one_reading.ensures r c.args.page x.0 c.requires.read x.1) c.requires.covers in
    (x.0.commands, b.lexed, b.inner, (covers, rw c.origin.ensures can))

pub returns-clause-ok : goal.returns-clause-ok
returns-clause-ok g c = λ p is.
    let r = c.args.doc.now in
    let set = c.args.fonts.now in
    let none : Page = record { at = 0; first = 0; eop = 0; counts = [] } in
    let b = body_of c.one_document.ensures r c.args.page c.pages.result.now none c.body.result.now c.requires.read c.pages.ensures c.body.ensures.bytes c.body.ensures.commands p is in
    let h = rw c.origin.ensures at (c.frame.ensures.ok p.commands b.lexed) in
    subst (λ (w : Walk). OnOk c.frame.result (TookPage g.C.Canvas.takes c.args.canvas.now c.frame.new.canvas (page_marks w.grid set r.fonts p.commands))) c.self.view_is (on_ok c.frame.result (page_alone _ set g.C.Canvas.takes c.args.canvas.now c.frame.new.canvas _) h)

pub returns-clause-came : goal.returns-clause-came
returns-clause-came g c = λ p is.
    let r = c.args.doc.now in
    let set = c.args.fonts.now in
    let none : Page = record { at = 0; first = 0; eop = 0; counts = [] } in
    let b = body_of c.one_document.ensures r c.args.page c.pages.result.now none c.body.result.now c.requires.read c.pages.ensures c.body.ensures.bytes c.body.ensures.commands p is in
    let h = rw c.origin.ensures at (c.frame.ensures.ok p.commands b.lexed) in
    subst (λ (w : Walk). OnOk c.frame.result (AreComing w.grid set (page_marks w.grid set r.fonts p.commands))) c.self.view_is (on_ok c.frame.result (page_comes _ set g.C.Canvas.takes c.args.canvas.now c.frame.new.canvas _) h)

pub returns-clause-stops : goal.returns-clause-stops
returns-clause-stops g c = λ p is.
    let r = c.args.doc.now in
    let set = c.args.fonts.now in
    let none : Page = record { at = 0; first = 0; eop = 0; counts = [] } in
    let b = body_of c.one_document.ensures r c.args.page c.pages.result.now none c.body.result.now c.requires.read c.pages.ensures c.body.ensures.bytes c.body.ensures.commands p is in
    let h = rw c.origin.ensures at (c.frame.ensures.stops p.commands b.lexed) in
    subst (λ (w : Walk). IfErr c.frame.result (Stops g.C.Canvas.takes g.C.Canvas.refuses c.args.canvas.now c.frame.new.canvas (marks_alone (page_marks w.grid set r.fonts p.commands)))) c.self.view_is h

pub returns-clause-cause : goal.returns-clause-cause
returns-clause-cause g c = λ p is.
    let r = c.args.doc.now in
    let set = c.args.fonts.now in
    let none : Page = record { at = 0; first = 0; eop = 0; counts = [] } in
    let b = body_of c.one_document.ensures r c.args.page c.pages.result.now none c.body.result.now c.requires.read c.pages.ensures c.body.ensures.bytes c.body.ensures.commands p is in
    let h = rw (c.origin.ensures, b.ends) at (c.frame.ensures.cause p.commands b.lexed) in
    subst (λ (w : Walk). IfErr c.frame.result (IsPageCause {F = g.row.C-Fault.Denot} w.grid set r.fonts p)) c.self.view_is h

pub returns-clause-steps : goal.returns-clause-steps
returns-clause-steps g c = λ p is.
    let r = c.args.doc.now in
    let set = c.args.fonts.now in
    let none : Page = record { at = 0; first = 0; eop = 0; counts = [] } in
    let b = body_of c.one_document.ensures r c.args.page c.pages.result.now none c.body.result.now c.requires.read c.pages.ensures c.body.ensures.bytes c.body.ensures.commands p is in
    let h = c.frame.ensures.steps p.commands b.lexed in
    subst (λ (w : Walk). OnOk c.frame.result (c.frame.new.self.steps ≡ w.steps + page_count set r.fonts p.commands)) c.self.view_is h

pub returns-clause-many : goal.returns-clause-many
returns-clause-many g c = λ p is.
    let r = c.args.doc.now in
    let set = c.args.fonts.now in
    let none : Page = record { at = 0; first = 0; eop = 0; counts = [] } in
    let b = body_of c.one_document.ensures r c.args.page c.pages.result.now none c.body.result.now c.requires.read c.pages.ensures c.body.ensures.bytes c.body.ensures.commands p is in
    let h = c.frame.ensures.many p.commands b.lexed in
    subst (λ (w : Walk). IfErr c.frame.result (IsMany {F = g.row.C-Fault.Denot} (w.steps + page_count set r.fonts p.commands))) c.self.view_is h

pub returns-clause-shallow : goal.returns-clause-shallow
returns-clause-shallow g c = λ p is.
    let r = c.args.doc.now in
    let set = c.args.fonts.now in
    let none : Page = record { at = 0; first = 0; eop = 0; counts = [] } in
    let b = body_of c.one_document.ensures r c.args.page c.pages.result.now none c.body.result.now c.requires.read c.pages.ensures c.body.ensures.bytes c.body.ensures.commands p is in
    let h = rw c.origin.ensures at (c.frame.ensures.room p.commands b.lexed) in
    subst (λ (w : Walk). OnOk c.frame.result (IsShallowPage w.grid set r.fonts p.commands)) c.self.view_is h

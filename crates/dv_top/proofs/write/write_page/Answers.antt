use Rattle.std.proofs.Common.{◌∙◌, rules, w32, subst, sym}
use Rattle.std.specs.Prelude.{FitsSigned}
use Rattle.std.proofs.lemmas.Int.{to_z-of_z}
use Rattle.font_set.specs.Covers.{Covers}
use Rattle.font_set.specs.Fonts.{FontSet}
use Rattle.font_set.specs.Frames.{acts_of}
use Rattle.vf_expand.proofs.Later.{no_stop}
use Rattle.ps_emit.specs.Shown.{holds_more, out_of}
use Rattle.ps_emit.specs.Taken.{AllTakeable, Refused, Took}
use Rattle.dv_top.proofs.WrittenPage.{begin_cut, begun_then, can_take, label_here, page_cut, page_here, page_written, refused_holds, refused_marks, still_begun, took_marks}
use Rattle.dv_top.proofs.write.write_page.Goals as goal

pub returns-in_err-begin_page-clause-writes : goal.returns-in_err-begin_page-clause-writes
returns-in_err-begin_page-clause-writes g c = λ p is marks state e.
    let label : FitsSigned w32 c.label-label.result = search rules in
    let named = label_here c.one_document.ensures c.args.doc.now c.args.page p c.pages.result.now _ c.label-label.result c.requires.read is c.pages.ensures c.label-label.ensures.value in
    begin_cut _ _ p _ _ marks _ _ _ named c.from_residual.ensures.0 (rw (to_z-of_z w32 c.label-label.result label) at c.in_err-begin_page.ensures.writes)

pub page-requires-clause-covers : goal.page-requires-clause-covers
page-requires-clause-covers g c =
    let here = page_here c.one_document.ensures c.args.doc.now c.args.page c.requires.read c.requires.page in
    subst (λ x. Covers c.args.fonts.now (acts_of x)) (sym (c.pages_by_place.ensures c.args.doc.now c.args.page here.0 c.requires.read here.1)) (c.requires.ready here.0 here.1).covered

pub page-requires-clause-can : goal.page-requires-clause-can
page-requires-clause-can g c = λ p is m come among.
    let ready = c.requires.ready p is in
    let fonts = c.in_ok-begin_page.ensures.holds.fonts_same ∙ c.requires.fonts in (
      still_begun _ (out_of c.args.emitter.now) (out_of c.begin_page.new.self) c.requires.begun c.in_ok-begin_page.ensures.writes,
      can_take _ _ ready.marks ready.state m ready.defined (subst (λ (set : FontSet). AllTakeable set ready.marks) (sym fonts) ready.takeable) among,
    )

pub end_page-requires : goal.end_page-requires
end_page-requires g c =
    let here = page_here c.one_document.ensures c.args.doc.now c.args.page c.requires.read c.requires.page in
    let ready = c.requires.ready here.0 here.1 in
    begun_then {T = g.row.T.Denot} {G = g.T.Tray} c.begin_page.new.self c.page.new.canvas ready.marks
    (still_begun _ (out_of c.args.emitter.now) (out_of c.begin_page.new.self) c.requires.begun c.in_ok-begin_page.ensures.writes)
    (took_marks (Took {T = g.row.T.Denot} {G = g.T.Tray}) c.begin_page.new.self c.page.new.canvas _ _ _ ready.defined (c.in-Ok.ensures.ok here.0 here.1))

pub canvas_fault-requires : goal.canvas_fault-requires
canvas_fault-requires g c =
    let here = page_here c.one_document.ensures c.args.doc.now c.args.page c.requires.read c.requires.page in
    let p = here.0 in
    let is = here.1 in
    let ready = c.requires.ready p is in
    no_stop (Took {T = g.row.T.Denot} {G = g.T.Tray}) (λ a b ms m f. Refused {T = g.row.T.Denot} {G = g.T.Tray} a b ms m) c.args.walker.now.grid c.args.fonts.now c.args.doc.now.fonts p c.args.walker.now.steps
    c.begin_page.new.self c.page.new.canvas _ ready.defined ready.shallow (c.requires.few p is) c.in-Err.fault (c.in-Err.ensures.stops p is) (c.in-Err.ensures.cause p is) (c.in-Err.ensures.many p is)

pub returns-in-Ok-clause-writes : goal.returns-in-Ok-clause-writes
returns-in-Ok-clause-writes g c = λ p is marks state e.
    let label : FitsSigned w32 c.label-label.result = search rules in
    let named = label_here c.one_document.ensures c.args.doc.now c.args.page p c.pages.result.now _ c.label-label.result c.requires.read is c.pages.ensures c.label-label.ensures.value in
    page_written {T = g.row.T.Denot} {G = g.T.Tray} _ _ p _ _ marks _ c.begin_page.new.self c.page.new.canvas _ _ named (rw (to_z-of_z w32 c.label-label.result label) at c.in_ok-begin_page.ensures.writes)
    c.in_ok-begin_page.ensures.sheet c.in_ok-begin_page.ensures.holds.pass_same
    (took_marks (Took {T = g.row.T.Denot} {G = g.T.Tray}) c.begin_page.new.self c.page.new.canvas _ _ _ e (c.in-Ok.ensures.ok p is)) c.end_page.ensures.writes

pub returns-in-Ok-clause-holds : goal.returns-in-Ok-clause-holds
returns-in-Ok-clause-holds g c =
    let here = page_here c.one_document.ensures c.args.doc.now c.args.page c.requires.read c.requires.page in
    let ready = c.requires.ready here.0 here.1 in
    let took = took_marks (Took {T = g.row.T.Denot} {G = g.T.Tray}) c.begin_page.new.self c.page.new.canvas _ _ _ ready.defined (c.in-Ok.ensures.ok here.0 here.1) in
    holds_more c.args.emitter.now c.begin_page.new.self c.end_page.new.self c.in_ok-begin_page.ensures.holds (holds_more c.begin_page.new.self c.page.new.canvas c.end_page.new.self took.holds c.end_page.ensures.holds)

pub returns-in-Err-clause-writes : goal.returns-in-Err-clause-writes
returns-in-Err-clause-writes g c = λ p is marks state e.
    let label : FitsSigned w32 c.label-label.result = search rules in
    let named = label_here c.one_document.ensures c.args.doc.now c.args.page p c.pages.result.now _ c.label-label.result c.requires.read is c.pages.ensures c.label-label.ensures.value in
    let ready = c.requires.ready p is in
    let only = no_stop (Took {T = g.row.T.Denot} {G = g.T.Tray}) (λ a b ms m f. Refused {T = g.row.T.Denot} {G = g.T.Tray} a b ms m) c.args.walker.now.grid c.args.fonts.now c.args.doc.now.fonts p c.args.walker.now.steps
    c.begin_page.new.self c.page.new.canvas _ ready.defined ready.shallow (c.requires.few p is) c.in-Err.fault (c.in-Err.ensures.stops p is) (c.in-Err.ensures.cause p is) (c.in-Err.ensures.many p is) in
    let next = refused_marks (Took {T = g.row.T.Denot} {G = g.T.Tray}) (λ a b ms m f. Refused {T = g.row.T.Denot} {G = g.T.Tray} a b ms m) c.begin_page.new.self c.page.new.canvas _ marks state c.in-Err.fault e only (c.in-Err.ensures.stops p is) in
    page_cut {T = g.row.T.Denot} {G = g.T.Tray} _ _ p _ _ marks _ c.begin_page.new.self c.page.new.canvas next.0 named (rw (to_z-of_z w32 c.label-label.result label) at c.in_ok-begin_page.ensures.writes)
    c.in_ok-begin_page.ensures.sheet c.in_ok-begin_page.ensures.holds.pass_same next.1

pub returns-in-Err-clause-holds : goal.returns-in-Err-clause-holds
returns-in-Err-clause-holds g c =
    let here = page_here c.one_document.ensures c.args.doc.now c.args.page c.requires.read c.requires.page in
    let p = here.0 in
    let is = here.1 in
    let ready = c.requires.ready p is in
    let only = no_stop (Took {T = g.row.T.Denot} {G = g.T.Tray}) (λ a b ms m f. Refused {T = g.row.T.Denot} {G = g.T.Tray} a b ms m) c.args.walker.now.grid c.args.fonts.now c.args.doc.now.fonts p c.args.walker.now.steps
    c.begin_page.new.self c.page.new.canvas _ ready.defined ready.shallow (c.requires.few p is) c.in-Err.fault (c.in-Err.ensures.stops p is) (c.in-Err.ensures.cause p is) (c.in-Err.ensures.many p is) in
    let next = refused_marks (Took {T = g.row.T.Denot} {G = g.T.Tray}) (λ a b ms m f. Refused {T = g.row.T.Denot} {G = g.T.Tray} a b ms m) c.begin_page.new.self c.page.new.canvas _ ready.marks ready.state c.in-Err.fault ready.defined only (c.in-Err.ensures.stops p is) in
    holds_more c.args.emitter.now c.begin_page.new.self c.page.new.canvas c.in_ok-begin_page.ensures.holds (refused_holds {T = g.row.T.Denot} {G = g.T.Tray} c.begin_page.new.self c.page.new.canvas next.0 _ next.1)

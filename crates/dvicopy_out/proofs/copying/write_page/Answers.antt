use Rattle.std.proofs.Common.{◌≡◌, ◌∷◌, [], List, ℤ, arith, subst, sym, ◌∙◌, length}
use Rattle.font_set.specs.Fonts.{FontSet}
use Rattle.dvi_ops.specs.Command.Command.{Bop}
use Rattle.dvicopy_out.specs.Measured.{IsTakeable}
use Rattle.dvicopy_out.specs.Counted.{counted}
use Rattle.dvicopy_out.specs.Spelled.{spelled}
use Rattle.dvicopy_out.specs.Sent.{Cut, Sent, cut_sends}
use Rattle.dvicopy_out.specs.Shown.{holds_more, last_of, out_of, place_of}
use Rattle.dvicopy_out.specs.Taken.{Took, Refused}
use Rattle.dvicopy_out.specs.Pages.{copy_page}
use Rattle.dvicopy_out.proofs.Walked.{begin_cut, begin_there, count_here, counts_here, outcome_here, page_cut, page_here, page_placed, page_sent, refused_here, stopped, takeable, took_here, took_is}
use Rattle.dvicopy_out.proofs.copying.write_page.Goals as goal

pub returns-in_err-begin_page-clause-sends : goal.returns-in_err-begin_page-clause-sends
returns-in_err-begin_page-clause-sends g c =
    let r = c.args.doc.now in
    let set = c.args.fonts.now in
    let page = copy_page c.args.walker.now.grid set r c.args.page in
    let x = out_of {T = g.row.T.Denot} {G = g.T.Tray} c.args.writer.now in
    let y = out_of {T = g.row.T.Denot} {G = g.T.Tray} c.begin_page.new.self in
    let last = last_of {T = g.row.T.Denot} {G = g.T.Tray} c.args.writer.now in
    let counts = counts_here c.pages.result.now r c.args.page _ c.pages.ensures c.requires.covered.there in
    cut_sends _ x y _ c.from_residual.ensures.0 (begin_cut set last page x y (subst (λ (cs : List ℤ). Cut (spelled (Bop cs last ∷ [])) x y) (c.counts.ensures.value ∙ sym counts) c.in_err-begin_page.ensures.sends))

pub page-requires-clause-can : goal.page-requires-clause-can
page-requires-clause-can g c = λ p is m may among.
    let fonts = c.in_ok-begin_page.ensures.holds.fonts_same ∙ c.requires.fonts in (
      begin_there _ (out_of {T = g.row.T.Denot} {G = g.T.Tray} c.args.writer.now) (out_of {T = g.row.T.Denot} {G = g.T.Tray} c.begin_page.new.self) c.requires.begun c.in_ok-begin_page.ensures.sends,
      subst (λ (s : FontSet). IsTakeable s m) (sym fonts) (takeable _ _ _ m may),
    )

pub end_page-requires : goal.end_page-requires
end_page-requires g c =
    let r = c.args.doc.now in
    let here = page_here r c.args.page c.requires.read c.requires.covered.there in
    let same = outcome_here c.pages_by_place.ensures c.args.walker.now.grid c.args.fonts.now r c.args.page here.0 c.requires.read here.1 in
    let took = took_here (Took {T = g.row.T.Denot} {G = g.T.Tray}) c.begin_page.new.self c.page.new.canvas c.args.walker.now.grid c.args.fonts.now r c.args.page here.0 same (c.in-Ok.ensures.ok here.0 here.1) in
    begin_there _ (out_of {T = g.row.T.Denot} {G = g.T.Tray} c.begin_page.new.self) (out_of {T = g.row.T.Denot} {G = g.T.Tray} c.page.new.canvas)
    (begin_there _ (out_of {T = g.row.T.Denot} {G = g.T.Tray} c.args.writer.now) (out_of {T = g.row.T.Denot} {G = g.T.Tray} c.begin_page.new.self) c.requires.begun c.in_ok-begin_page.ensures.sends) took.sent

pub canvas_fault-requires : goal.canvas_fault-requires
canvas_fault-requires g c =
    let r = c.args.doc.now in
    let here = page_here r c.args.page c.requires.read c.requires.covered.there in
    stopped (Took {T = g.row.T.Denot} {G = g.T.Tray}) (λ a b ms m f. Refused {T = g.row.T.Denot} {G = g.T.Tray} a b ms m) c.pages_by_place.ensures c.args.walker.now.grid c.args.fonts.now r c.args.page here.0 c.args.walker.now.steps
    c.begin_page.new.self c.page.new.canvas c.in-Err.fault c.requires.read here.1 c.requires.ready c.requires.few (c.in-Err.ensures.stops here.0 here.1) (c.in-Err.ensures.cause here.0 here.1) (c.in-Err.ensures.many here.0 here.1)

pub returns-in-Ok-clause-sends : goal.returns-in-Ok-clause-sends
returns-in-Ok-clause-sends g c =
    let r = c.args.doc.now in
    let set = c.args.fonts.now in
    let grid = c.args.walker.now.grid in
    let page = copy_page grid set r c.args.page in
    let a = c.begin_page.new.self in
    let b = c.page.new.canvas in
    let x = out_of {T = g.row.T.Denot} {G = g.T.Tray} c.args.writer.now in
    let y = out_of {T = g.row.T.Denot} {G = g.T.Tray} a in
    let z = out_of {T = g.row.T.Denot} {G = g.T.Tray} c.end_page.new.self in
    let last = last_of {T = g.row.T.Denot} {G = g.T.Tray} c.args.writer.now in
    let here = page_here r c.args.page c.requires.read c.requires.covered.there in
    let same = outcome_here c.pages_by_place.ensures grid set r c.args.page here.0 c.requires.read here.1 in
    let took = took_here (Took {T = g.row.T.Denot} {G = g.T.Tray}) a b grid set r c.args.page here.0 same (c.in-Ok.ensures.ok here.0 here.1) in
    let counts = counts_here c.pages.result.now r c.args.page _ c.pages.ensures c.requires.covered.there in
    page_sent {T = g.row.T.Denot} {G = g.T.Tray} set last page x a b z c.end_page.result (subst (λ (cs : List ℤ). Sent (spelled (Bop cs last ∷ [])) x y) (c.counts.ensures.value ∙ sym counts) c.in_ok-begin_page.ensures.sends)
    (c.in_ok-begin_page.ensures.holds.fonts_same ∙ c.requires.fonts) c.in_ok-begin_page.ensures.pen took c.end_page.ensures.sends

pub returns-in-Ok-clause-place : goal.returns-in-Ok-clause-place
returns-in-Ok-clause-place g c =
    let r = c.args.doc.now in
    let set = c.args.fonts.now in
    let grid = c.args.walker.now.grid in
    let page = copy_page grid set r c.args.page in
    let a = c.begin_page.new.self in
    let b = c.page.new.canvas in
    let last = last_of {T = g.row.T.Denot} {G = g.T.Tray} c.args.writer.now in
    let here = page_here r c.args.page c.requires.read c.requires.covered.there in
    let same = outcome_here c.pages_by_place.ensures grid set r c.args.page here.0 c.requires.read here.1 in
    let took = took_here (Took {T = g.row.T.Denot} {G = g.T.Tray}) a b grid set r c.args.page here.0 same (c.in-Ok.ensures.ok here.0 here.1) in
    let counts = counts_here c.pages.result.now r c.args.page _ c.pages.ensures c.requires.covered.there in
    let begins = subst (λ (cs : List ℤ). place_of {T = g.row.T.Denot} {G = g.T.Tray} a ≡ counted (place_of {T = g.row.T.Denot} {G = g.T.Tray} c.args.writer.now) (length (spelled (Bop cs last ∷ [])))) (c.counts.ensures.value ∙ sym counts) c.in_ok-begin_page.ensures.place in
    page_placed {T = g.row.T.Denot} {G = g.T.Tray} set last page (place_of {T = g.row.T.Denot} {G = g.T.Tray} c.args.writer.now) a b (place_of {T = g.row.T.Denot} {G = g.T.Tray} c.end_page.new.self) c.end_page.result begins
    (c.in_ok-begin_page.ensures.holds.fonts_same ∙ c.requires.fonts) c.in_ok-begin_page.ensures.pen took c.end_page.ensures.place

pub returns-in-Ok-clause-last : goal.returns-in-Ok-clause-last
returns-in-Ok-clause-last g c =
    let r = c.args.doc.now in
    let here = page_here r c.args.page c.requires.read c.requires.covered.there in
    let same = outcome_here c.pages_by_place.ensures c.args.walker.now.grid c.args.fonts.now r c.args.page here.0 c.requires.read here.1 in
    let took = took_here (Took {T = g.row.T.Denot} {G = g.T.Tray}) c.begin_page.new.self c.page.new.canvas c.args.walker.now.grid c.args.fonts.now r c.args.page here.0 same (c.in-Ok.ensures.ok here.0 here.1) in
    took_is c.end_page.result (c.end_page.ensures.last ∙ took.last ∙ c.in_ok-begin_page.ensures.last)

pub returns-in-Ok-clause-holds : goal.returns-in-Ok-clause-holds
returns-in-Ok-clause-holds g c =
    let r = c.args.doc.now in
    let here = page_here r c.args.page c.requires.read c.requires.covered.there in
    let same = outcome_here c.pages_by_place.ensures c.args.walker.now.grid c.args.fonts.now r c.args.page here.0 c.requires.read here.1 in
    let took = took_here (Took {T = g.row.T.Denot} {G = g.T.Tray}) c.begin_page.new.self c.page.new.canvas c.args.walker.now.grid c.args.fonts.now r c.args.page here.0 same (c.in-Ok.ensures.ok here.0 here.1) in
    holds_more {T = g.row.T.Denot} {G = g.T.Tray} c.args.writer.now c.begin_page.new.self c.end_page.new.self c.in_ok-begin_page.ensures.holds
    (holds_more {T = g.row.T.Denot} {G = g.T.Tray} c.begin_page.new.self c.page.new.canvas c.end_page.new.self took.holds c.end_page.ensures.holds)

pub returns-in-Ok-clause-steps : goal.returns-in-Ok-clause-steps
returns-in-Ok-clause-steps g c =
    let r = c.args.doc.now in
    let here = page_here r c.args.page c.requires.read c.requires.covered.there in
    let steps = c.in-Ok.ensures.steps here.0 here.1 in
    let same = count_here c.pages_by_place.ensures c.args.fonts.now r c.args.page here.0 c.requires.read here.1 in
    took_is c.end_page.result (omega (arith, steps, same))

pub returns-in-Err-clause-sends : goal.returns-in-Err-clause-sends
returns-in-Err-clause-sends g c =
    let r = c.args.doc.now in
    let set = c.args.fonts.now in
    let grid = c.args.walker.now.grid in
    let page = copy_page grid set r c.args.page in
    let a = c.begin_page.new.self in
    let b = c.page.new.canvas in
    let x = out_of {T = g.row.T.Denot} {G = g.T.Tray} c.args.writer.now in
    let y = out_of {T = g.row.T.Denot} {G = g.T.Tray} a in
    let last = last_of {T = g.row.T.Denot} {G = g.T.Tray} c.args.writer.now in
    let here = page_here r c.args.page c.requires.read c.requires.covered.there in
    let same = outcome_here c.pages_by_place.ensures grid set r c.args.page here.0 c.requires.read here.1 in
    let counts = counts_here c.pages.result.now r c.args.page _ c.pages.ensures c.requires.covered.there in
    let only = stopped (Took {T = g.row.T.Denot} {G = g.T.Tray}) (λ a b ms m f. Refused {T = g.row.T.Denot} {G = g.T.Tray} a b ms m) c.pages_by_place.ensures grid set r c.args.page here.0 c.args.walker.now.steps
    a b c.in-Err.fault c.requires.read here.1 c.requires.ready c.requires.few (c.in-Err.ensures.stops here.0 here.1) (c.in-Err.ensures.cause here.0 here.1) (c.in-Err.ensures.many here.0 here.1) in
    let next = refused_here (Took {T = g.row.T.Denot} {G = g.T.Tray}) (λ a b ms m f. Refused {T = g.row.T.Denot} {G = g.T.Tray} a b ms m) a b grid set r c.args.page here.0 c.in-Err.fault c.requires.ready same only (c.in-Err.ensures.stops here.0 here.1) in
    page_cut {T = g.row.T.Denot} {G = g.T.Tray} set last page x a b next.0 (subst (λ (cs : List ℤ). Sent (spelled (Bop cs last ∷ [])) x y) (c.counts.ensures.value ∙ sym counts) c.in_ok-begin_page.ensures.sends)
    (c.in_ok-begin_page.ensures.holds.fonts_same ∙ c.requires.fonts) c.in_ok-begin_page.ensures.pen next.1

pub returns-in-Err-clause-holds : goal.returns-in-Err-clause-holds
returns-in-Err-clause-holds g c =
    let r = c.args.doc.now in
    let set = c.args.fonts.now in
    let grid = c.args.walker.now.grid in
    let a = c.begin_page.new.self in
    let b = c.page.new.canvas in
    let here = page_here r c.args.page c.requires.read c.requires.covered.there in
    let same = outcome_here c.pages_by_place.ensures grid set r c.args.page here.0 c.requires.read here.1 in
    let only = stopped (Took {T = g.row.T.Denot} {G = g.T.Tray}) (λ a b ms m f. Refused {T = g.row.T.Denot} {G = g.T.Tray} a b ms m) c.pages_by_place.ensures grid set r c.args.page here.0 c.args.walker.now.steps
    a b c.in-Err.fault c.requires.read here.1 c.requires.ready c.requires.few (c.in-Err.ensures.stops here.0 here.1) (c.in-Err.ensures.cause here.0 here.1) (c.in-Err.ensures.many here.0 here.1) in
    let next = refused_here (Took {T = g.row.T.Denot} {G = g.T.Tray}) (λ a b ms m f. Refused {T = g.row.T.Denot} {G = g.T.Tray} a b ms m) a b grid set r c.args.page here.0 c.in-Err.fault c.requires.ready same only (c.in-Err.ensures.stops here.0 here.1) in
    holds_more {T = g.row.T.Denot} {G = g.T.Tray} c.args.writer.now a b c.in_ok-begin_page.ensures.holds ((next.1).3).holds

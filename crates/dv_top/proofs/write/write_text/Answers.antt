use Rattle.std.proofs.Common.{List, arith}
use Rattle.ps_emit.specs.Pages.{PrintedPage, sections_calls}
use Rattle.ps_emit.specs.Setup.{trailer_of}
use Rattle.ps_emit.specs.Shown.{comments_of, holds_more, out_of, pass_of}
use Rattle.ps_emit.specs.Written.{Cut, Writes, Wrote, then_writes}
use Rattle.dv_top.specs.Printing.{in_sections}
use Rattle.dv_top.proofs.PagesAt.{many_pages, pages_here}
use Rattle.dv_top.proofs.WrittenPage.{still_begun}
use Rattle.dv_top.proofs.WrittenPages.{front_cut, held_text, pages_begun}
use Rattle.dv_top.proofs.write.write_text.Goals as goal

pub returns-in_err-prologue-clause-writes : goal.returns-in_err-prologue-clause-writes
returns-in_err-prologue-clause-writes g c = λ pages are printed e.
    let x = out_of {T = g.row.T.Denot} {G = g.T.Tray} c.args.emitter.now in
    let y = out_of {T = g.row.T.Denot} {G = g.T.Tray} c.prologue.new.self in
    front_cut _ _ x y c.from_residual.result c.from_residual.ensures.0 (rw c.deref.ensures.value at c.in_err-prologue.ensures.writes)

pub returns-in_err-write_sections-clause-writes : goal.returns-in_err-write_sections-clause-writes
returns-in_err-write_sections-clause-writes g c = λ pages are printed e.
    let a = c.args.emitter.now in
    let x = out_of {T = g.row.T.Denot} {G = g.T.Tray} a in
    let y = out_of {T = g.row.T.Denot} {G = g.T.Tray} c.prologue.new.self in
    let z = out_of {T = g.row.T.Denot} {G = g.T.Tray} c.write_sections.new.emitter in
    let cut = held_text {T = g.row.T.Denot} {G = g.T.Tray} a c.prologue.new.self (λ b p. sections_calls b c.args.fonts.now p (in_sections c.args.parts.now.plan printed)) (λ text. Cut text y z) c.in_ok-prologue.ensures.holds (rw c.as_slice.ensures at (c.in_err-write_sections.ensures.writes pages are printed e)) in
    then_writes _ _ x y z c.from_residual-in_err-write_sections.result (rw c.deref.ensures.value at c.in_ok-prologue.ensures.writes)
    (front_cut _ (trailer_of (comments_of {T = g.row.T.Denot} {G = g.T.Tray} a)) y z c.from_residual-in_err-write_sections.result c.from_residual-in_err-write_sections.ensures.0 cut)

pub trailer-requires : goal.trailer-requires
trailer-requires g c =
    let x = out_of {T = g.row.T.Denot} {G = g.T.Tray} c.args.emitter.now in
    let y = out_of {T = g.row.T.Denot} {G = g.T.Tray} c.prologue.new.self in
    let z = out_of {T = g.row.T.Denot} {G = g.T.Tray} c.write_sections.new.emitter in
    let w = c.requires.walkable in
    let are = pages_here c.one_document.ensures c.args.doc.now w.read.0 c.args.parts.now.places.now w.read w.read.1 w.within in
    let many = many_pages c.args.doc.now c.args.parts.now.places.now _ are in
    let begun = still_begun _ x y c.requires.begun c.in_ok-prologue.ensures.writes in
    pages_begun c.args.walker.now.grid c.args.fonts.now c.args.doc.now.fonts 1 _
    (λ (printed : List PrintedPage). sections_calls (comments_of {T = g.row.T.Denot} {G = g.T.Tray} c.prologue.new.self) c.args.fonts.now (pass_of {T = g.row.T.Denot} {G = g.T.Tray} c.prologue.new.self) (in_sections c.args.parts.now.plan printed)) y z (let few = c.requires.few in omega (arith, few, many)) (w.ready _ are) begun
    (λ printed e. rw c.as_slice.ensures at (c.in_ok-write_sections.ensures.writes _ are printed e))

pub returns-clause-writes : goal.returns-clause-writes
returns-clause-writes g c = λ pages are printed e.
    let a = c.args.emitter.now in
    let x = out_of {T = g.row.T.Denot} {G = g.T.Tray} a in
    let y = out_of {T = g.row.T.Denot} {G = g.T.Tray} c.prologue.new.self in
    let z = out_of {T = g.row.T.Denot} {G = g.T.Tray} c.write_sections.new.emitter in
    let v = out_of {T = g.row.T.Denot} {G = g.T.Tray} c.trailer.new.self in
    let wrote = held_text {T = g.row.T.Denot} {G = g.T.Tray} a c.prologue.new.self (λ b p. sections_calls b c.args.fonts.now p (in_sections c.args.parts.now.plan printed)) (λ text. Wrote text y z) c.in_ok-prologue.ensures.holds (rw c.as_slice.ensures at (c.in_ok-write_sections.ensures.writes pages are printed e)) in
    let holds = holds_more {T = g.row.T.Denot} {G = g.T.Tray} a c.prologue.new.self c.write_sections.new.emitter c.in_ok-prologue.ensures.holds c.in_ok-write_sections.ensures.holds in
    let ends = held_text {T = g.row.T.Denot} {G = g.T.Tray} a c.write_sections.new.emitter (λ b p. trailer_of b) (λ text. Writes text z v c.trailer.result) holds c.trailer.ensures.writes in
    then_writes _ _ x y v c.trailer.result (rw c.deref.ensures.value at c.in_ok-prologue.ensures.writes) (then_writes _ _ y z v c.trailer.result wrote ends)

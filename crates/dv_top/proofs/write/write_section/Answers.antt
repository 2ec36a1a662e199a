use Rattle.std.proofs.Common.{◌≡◌, List, arith, length, refl, subst, sym, ◌∙◌}
use Rattle.std.specs.Prelude.{codes}
use Rattle.font_set.specs.Fonts.{FontSet}
use Rattle.sections.specs.Used.{is_used}
use Rattle.ps_subset.specs.FontText.{fonts_lines}
use Rattle.ps_subset.specs.Prolog.{line}
use Rattle.ps_emit.specs.Letters.{fonts_used}
use Rattle.ps_emit.specs.Pages.{PrintedPage, pages_calls}
use Rattle.ps_emit.specs.Shown.{comments_of, holds_more, out_of, pass_of}
use Rattle.ps_emit.specs.Written.{Cut, Writes, Wrote, then_writes}
use Rattle.dv_top.proofs.PagesAt.{many_pages, pages_here}
use Rattle.dv_top.proofs.WrittenPage.{still_begun}
use Rattle.dv_top.proofs.WrittenPages.{front_cut, held_text, pages_begun, section_text}
use Rattle.dv_top.proofs.write.write_section.Goals as goal

pub fonts-requires-clause-same : goal.fonts-requires-clause-same
fonts-requires-clause-same g c =
    let same = c.in_ok-begin_section.ensures.holds.fonts_same ∙ c.requires.fonts in
    c.requires.given ∙ subst (λ (a : FontSet). length c.args.fonts.now.fonts ≡ length a.fonts) (sym same) refl

pub returns-in_err-begin_section-clause-writes : goal.returns-in_err-begin_section-clause-writes
returns-in_err-begin_section-clause-writes g c = λ pages are printed e.
    let x = out_of {T = g.row.T.Denot} {G = g.T.Tray} c.args.emitter.now in
    let y = out_of {T = g.row.T.Denot} {G = g.T.Tray} c.begin_section.new.self in
    let set = c.args.fonts.now in
    subst (λ text. Writes text x y c.from_residual.result)
    (section_text c.args.walker.now.grid set c.args.doc.now.fonts c.usage_gives_fonts.ensures c.args.first pages printed _ _ c.args.usage.now e (c.requires.uses pages are) c.requires.given)
    (front_cut (line (codes "bos")) _ x y c.from_residual.result c.from_residual.ensures.0 c.in_err-begin_section.ensures.writes)

pub returns-in_err-fonts-clause-writes : goal.returns-in_err-fonts-clause-writes
returns-in_err-fonts-clause-writes g c = λ pages are printed e.
    let x = out_of {T = g.row.T.Denot} {G = g.T.Tray} c.args.emitter.now in
    let y = out_of {T = g.row.T.Denot} {G = g.T.Tray} c.begin_section.new.self in
    let z = out_of {T = g.row.T.Denot} {G = g.T.Tray} c.fonts.new.self in
    let set = c.args.fonts.now in
    let same = c.in_ok-begin_section.ensures.holds.fonts_same ∙ c.requires.fonts in
    let fonts = subst (λ (a : FontSet). Cut (fonts_lines (fonts_used a (is_used c.args.usage.now))) y z) same c.in_err-fonts.ensures.writes in
    subst (λ text. Writes text x z c.from_residual-in_err-fonts.result)
    (section_text c.args.walker.now.grid set c.args.doc.now.fonts c.usage_gives_fonts.ensures c.args.first pages printed _ _ c.args.usage.now e (c.requires.uses pages are) c.requires.given)
    (then_writes (line (codes "bos")) _ x y z _ c.in_ok-begin_section.ensures.writes (front_cut (fonts_lines (fonts_used set (is_used c.args.usage.now))) _ y z _ c.from_residual-in_err-fonts.ensures.0 fonts))

pub returns-in_err-write_pages-clause-writes : goal.returns-in_err-write_pages-clause-writes
returns-in_err-write_pages-clause-writes g c = λ pages are printed e.
    let a = c.args.emitter.now in
    let x = out_of {T = g.row.T.Denot} {G = g.T.Tray} a in
    let y = out_of {T = g.row.T.Denot} {G = g.T.Tray} c.begin_section.new.self in
    let z = out_of {T = g.row.T.Denot} {G = g.T.Tray} c.fonts.new.self in
    let v = out_of {T = g.row.T.Denot} {G = g.T.Tray} c.write_pages.new.emitter in
    let set = c.args.fonts.now in
    let same = c.in_ok-begin_section.ensures.holds.fonts_same ∙ c.requires.fonts in
    let fonts = subst (λ (b : FontSet). Wrote (fonts_lines (fonts_used b (is_used c.args.usage.now))) y z) same c.in_ok-fonts.ensures.writes in
    let holds = holds_more {T = g.row.T.Denot} {G = g.T.Tray} a c.begin_section.new.self c.fonts.new.self c.in_ok-begin_section.ensures.holds c.in_ok-fonts.ensures.holds in
    let cut = held_text {T = g.row.T.Denot} {G = g.T.Tray} a c.fonts.new.self (λ b p. pages_calls b p printed) (λ text. Cut text z v) holds
    (c.in_err-write_pages.ensures.writes pages are printed e) in
    subst (λ text. Writes text x v c.from_residual-in_err-write_pages.result)
    (section_text c.args.walker.now.grid set c.args.doc.now.fonts c.usage_gives_fonts.ensures c.args.first pages printed _ _ c.args.usage.now e (c.requires.uses pages are) c.requires.given)
    (then_writes (line (codes "bos")) _ x y v _ c.in_ok-begin_section.ensures.writes
    (then_writes (fonts_lines (fonts_used set (is_used c.args.usage.now))) _ y z v _ fonts (front_cut _ (line (codes "eos")) z v _ c.from_residual-in_err-write_pages.ensures.0 cut)))

pub end_section-requires : goal.end_section-requires
end_section-requires g c =
    let x = out_of {T = g.row.T.Denot} {G = g.T.Tray} c.args.emitter.now in
    let y = out_of {T = g.row.T.Denot} {G = g.T.Tray} c.begin_section.new.self in
    let z = out_of {T = g.row.T.Denot} {G = g.T.Tray} c.fonts.new.self in
    let v = out_of {T = g.row.T.Denot} {G = g.T.Tray} c.write_pages.new.emitter in
    let w = c.requires.walkable in
    let are = pages_here c.one_document.ensures c.args.doc.now w.read.0 c.args.places.now w.read w.read.1 w.within in
    let many = many_pages c.args.doc.now c.args.places.now _ are in
    let begun = still_begun _ y z (still_begun _ x y c.requires.begun c.in_ok-begin_section.ensures.writes) c.in_ok-fonts.ensures.writes in
    pages_begun c.args.walker.now.grid c.args.fonts.now c.args.doc.now.fonts c.args.first _
    (λ (printed : List PrintedPage). pages_calls (comments_of {T = g.row.T.Denot} {G = g.T.Tray} c.fonts.new.self) (pass_of {T = g.row.T.Denot} {G = g.T.Tray} c.fonts.new.self) printed) z v (let few = c.requires.few in omega (arith, few, many)) (w.ready _ are) begun
    (λ printed e. c.in_ok-write_pages.ensures.writes _ are printed e)

pub returns-clause-writes : goal.returns-clause-writes
returns-clause-writes g c = λ pages are printed e.
    let a = c.args.emitter.now in
    let x = out_of {T = g.row.T.Denot} {G = g.T.Tray} a in
    let y = out_of {T = g.row.T.Denot} {G = g.T.Tray} c.begin_section.new.self in
    let z = out_of {T = g.row.T.Denot} {G = g.T.Tray} c.fonts.new.self in
    let v = out_of {T = g.row.T.Denot} {G = g.T.Tray} c.write_pages.new.emitter in
    let w = out_of {T = g.row.T.Denot} {G = g.T.Tray} c.end_section.new.self in
    let set = c.args.fonts.now in
    let same = c.in_ok-begin_section.ensures.holds.fonts_same ∙ c.requires.fonts in
    let fonts = subst (λ (b : FontSet). Wrote (fonts_lines (fonts_used b (is_used c.args.usage.now))) y z) same c.in_ok-fonts.ensures.writes in
    let holds = holds_more {T = g.row.T.Denot} {G = g.T.Tray} a c.begin_section.new.self c.fonts.new.self c.in_ok-begin_section.ensures.holds c.in_ok-fonts.ensures.holds in
    let wrote = held_text {T = g.row.T.Denot} {G = g.T.Tray} a c.fonts.new.self (λ b p. pages_calls b p printed) (λ text. Wrote text z v) holds
    (c.in_ok-write_pages.ensures.writes pages are printed e) in
    let comments = comments_of {T = g.row.T.Denot} {G = g.T.Tray} a in
    let pass = pass_of {T = g.row.T.Denot} {G = g.T.Tray} a in
    subst (λ text. Writes text x w c.end_section.result)
    (section_text c.args.walker.now.grid set c.args.doc.now.fonts c.usage_gives_fonts.ensures c.args.first pages printed comments pass c.args.usage.now e (c.requires.uses pages are) c.requires.given)
    (then_writes (line (codes "bos")) _ x y w c.end_section.result c.in_ok-begin_section.ensures.writes
    (then_writes (fonts_lines (fonts_used set (is_used c.args.usage.now))) _ y z w c.end_section.result fonts
    (then_writes (pages_calls comments pass printed) (line (codes "eos")) z v w c.end_section.result wrote c.end_section.ensures.writes)))

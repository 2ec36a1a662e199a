use Rattle.std.proofs.Common.{rules, ◌<◌, ◌+◌, ◌^◌, arith, length, map, refl, sym, ◌∙◌}
use Rattle.ps_emit.specs.Shown.{out_of}
use Rattle.ps_emit.specs.Pages.{bytes_of_job}
use Rattle.dv_top.specs.Printing.{in_sections}
use Rattle.dv_top.proofs.PagesAt.{many_pages}
use Rattle.dv_top.proofs.WrittenPages.{count_of, printed_good, seen_writes, text_made}
use Rattle.dv_top.proofs.output.write_output.Goals as goal

pub returns : goal.returns
returns g c =
    let loan = sym (c.write_counted.ensures.holds.loan_same ∙ c.new-emitter.ensures.loan) in
    record {
      writes = λ pages are printed e.
          let many = many_pages c.args.doc.now c.args.parts.now.places.now pages are in
          let few = c.requires.few in
          let limit : 1 + length pages < 2 ^ 32 = omega (arith, few, many) in
          let good = printed_good c.args.walker.now.grid c.args.fonts.now c.args.doc.now.fonts 1 pages printed limit (c.requires.walkable.ready pages are) e in
          let writer = out_of {T = g.row.T.Denot} {G = g.T.Tray} c.write_counted.new.emitter in
          let headers = map (λ h. h.items) c.args.parts.now.headers.items in
          let text = bytes_of_job c.args.job.now.comments c.args.parts.now.setup (record { headers = headers; fonts = c.args.fonts.now; pass = c.args.job.now.pass_ps; sections = in_sections c.args.parts.now.plan printed }) in
          let made = text_made c.calls_make_text.ensures c.args.job.now.comments c.args.job.now.pass_ps _ _ c.args.parts.now.setup headers c.args.fonts.now c.args.parts.now.plan printed (out_of {T = g.row.T.Denot} {G = g.T.Tray} c.new-emitter.result) _ writer c.write_counted.result
          c.new-emitter.ensures.comments c.new-emitter.ensures.pass c.new-emitter.ensures.out good (c.write_counted.ensures.writes pages are printed e) in
          let wrote = seen_writes text _ writer c.write_counted.result made in
          search rules;
      bytes = λ pages are printed e.
          let many = many_pages c.args.doc.now c.args.parts.now.places.now pages are in
          let few = c.requires.few in
          let limit : 1 + length pages < 2 ^ 32 = omega (arith, few, many) in
          let good = printed_good c.args.walker.now.grid c.args.fonts.now c.args.doc.now.fonts 1 pages printed limit (c.requires.walkable.ready pages are) e in
          let writer = out_of {T = g.row.T.Denot} {G = g.T.Tray} c.write_counted.new.emitter in
          let headers = map (λ h. h.items) c.args.parts.now.headers.items in
          let made = text_made c.calls_make_text.ensures c.args.job.now.comments c.args.job.now.pass_ps _ _ c.args.parts.now.setup headers c.args.fonts.now c.args.parts.now.plan printed (out_of {T = g.row.T.Denot} {G = g.T.Tray} c.new-emitter.result) _ writer c.write_counted.result
          c.new-emitter.ensures.comments c.new-emitter.ensures.pass c.new-emitter.ensures.out good (c.write_counted.ensures.writes pages are printed e) in
          count_of _ _ writer c.write_counted.result refl made c.write_counted.ensures.bytes;
    }

use Rattle.std.proofs.Common.{subst}
use Rattle.std.proofs.lemmas.Result.{err_from_is_err_and}
use Rattle.font_set.specs.Fonts.{FontSet}
use Rattle.dv_top.specs.Loading.{GainsPages}
use Rattle.dv_top.proofs.Ended.{numbered_of}
use Rattle.dv_top.proofs.load.load.Goals as goal

pub returns-in_err-load_pages-clause-reason : goal.returns-in_err-load_pages-clause-reason
returns-in_err-load_pages-clause-reason g c = λ pages are.
    let told = g.S.Shelf.told in
    let p = err_from_is_err_and c.from_residual.result c.from_residual.ensures.1 in
    rw (p.1, p.2) (
      c.load_pages.new.fonts,
      subst (λ (old : FontSet). GainsPages (told c.args.shelf.now) c.args.doc.now.fonts pages old c.load_pages.new.fonts) c.new-fonts.ensures (c.load_pages.ensures.gains pages are),
      c.in_err-load_pages.ensures.reason pages are,
    )

pub returns-clause-gains : goal.returns-clause-gains
returns-clause-gains g c = λ pages are.
    let told = g.S.Shelf.told in
    subst (λ (old : FontSet). GainsPages (told c.args.shelf.now) c.args.doc.now.fonts pages old c.load_pages.new.fonts) c.new-fonts.ensures (c.load_pages.ensures.gains pages are)

pub returns-clause-numbered : goal.returns-clause-numbered
returns-clause-numbered g c = λ pages are each.
    numbered_of c.args.doc.now.fonts pages c.args.want c.args.scale.now.units c.new-fonts.result c.load_pages.new.fonts c.new-fonts.ensures (c.in_ok-load_pages.ensures.orders pages are) each

use Rattle.std.proofs.Common.{◌<◌, pos, sym, subst, arith}
use Rattle.std.proofs.lemmas.Result.{err_from_is_err_and}
use Rattle.font_set.specs.Fonts.{FontSet}
use Rattle.font_set.specs.Search.{OpenFault}
use Rattle.font_set.proofs.Telling.{first_fault, open_gains}
use Rattle.font_set.proofs.fonts.Fonts.open_packet.Goals as goal

pub returns-in_err-first-clause-fault : goal.returns-in_err-first-clause-fault
returns-in_err-first-clause-fault c =
    let small : c.args.code < 256 = omega (arith, c.ranges.code.fits) in
    let f = c.in_err-first.field-0.0 in
    let q = err_from_is_err_and c.from_residual-in_err-first.result c.from_residual-in_err-first.ensures.1 in
    rw (q.1, q.2)
    (subst (λ (s : FontSet). OpenFault s c.args.id (pos c.args.code) f) (sym c.in_err-first.ensures.same)
    (first_fault c.args.self.now c.args.id c.args.code c.in_ok-begin.begin.first f small c.in_ok-begin.ensures.first c.in_err-first.ensures.fault))

pub returns-in_err-push-clause-gains : goal.returns-in_err-push-clause-gains
returns-in_err-push-clause-gains c =
    let small : c.args.code < 256 = omega (arith, c.ranges.code.fits) in
    λ held. open_gains held c.args.self.now c.know_first.new.self c.args.id c.args.code c.in_ok-begin.begin.first small c.in_ok-begin.ensures.first (c.in_ok-first.ensures.gains held)

pub returns-clause-gains : goal.returns-clause-gains
returns-clause-gains c =
    let small : c.args.code < 256 = omega (arith, c.ranges.code.fits) in
    λ held. open_gains held c.args.self.now c.know_first.new.self c.args.id c.args.code c.in_ok-begin.begin.first small c.in_ok-begin.ensures.first (c.in_ok-first.ensures.gains held)

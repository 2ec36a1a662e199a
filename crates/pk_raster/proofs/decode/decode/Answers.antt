use Rattle.std.proofs.Common.{length, arith, refl, length-drop}
use Rattle.std.proofs.lemmas.Result.{err_from_is_err_and}
use Rattle.pk_raster.specs.Numbers.{nybbles}
use Rattle.pk_raster.specs.Bits.{colour}
use Rattle.pk_raster.proofs.Nybbles.{length_nybbles}
use Rattle.pk_raster.proofs.Ending.{fresh, refused, found, unused, no_raster}
use Rattle.pk_raster.proofs.decode.decode.Goals as goal

pub items-init : goal.items-init
items-init c = record { reached = fresh c.args.dyn_f (colour c.args.black) (nybbles c.args.raster.now) c.args.board.now c.requires.fresh; size = refl }

pub step-requires-clause-inside : goal.step-requires-clause-inside
step-requires-clause-inside c = omega (arith, c.items.invariant.reached.within, length_nybbles c.args.raster.now)

pub overflow_sub-raster : goal.overflow_sub-raster
overflow_sub-raster c = omega (arith, c.items.invariant.reached.within, length_nybbles c.args.raster.now)

pub returns-in_err-next-clause-none : goal.returns-in_err-next-clause-none
returns-in_err-next-clause-none c =
    let p = err_from_is_err_and c.from_residual.result c.from_residual.ensures.1 in
    let b = c.args.board.now in
    rw (p.1, p.2) (refused c.args.dyn_f (colour c.args.black) b.width b.left (nybbles c.args.raster.now) c.in_err-next.field-0.0 (c.in_err-next.ensures.err (colour c.args.black) b.width b.left c.requires.fresh.limit c.items.invariant.reached))

pub returns-in_err-next-clause-fault : goal.returns-in_err-next-clause-fault
returns-in_err-next-clause-fault c =
    let p = err_from_is_err_and c.from_residual.result c.from_residual.ensures.1 in
    let b = c.args.board.now in
    rw (p.1, p.2) (c.in_err-next.ensures.err (colour c.args.black) b.width b.left c.requires.fresh.limit c.items.invariant.reached).says

pub items-smaller : goal.items-smaller
items-smaller c =
    let w = (c.in_ok-next.ensures.ok (colour c.args.black) c.args.board.now.width c.args.board.now.left c.requires.fresh.limit c.items.invariant.reached).within in
    omega (arith, w, length_nybbles c.args.raster.now, c.in_ok-next.ensures.further)

pub returns-then-raster-at-gt1-clause-none : goal.returns-then-raster-at-gt1-clause-none
returns-then-raster-at-gt1-clause-none c = λ ne.
    let b = c.args.board.now in
    let ns = nybbles c.args.raster.now in
    no_raster c.args.dyn_f (colour c.args.black) b.width b.left ns c.items.at (colour c.items.black) c.items.board c.items.invariant.reached (omega arith) c.requires.fresh.wide (omega (arith, length-drop c.items.at ns, length_nybbles c.args.raster.now))

pub returns-then-raster-at-gt1-clause-fault : goal.returns-then-raster-at-gt1-clause-fault
returns-then-raster-at-gt1-clause-fault c =
    let b = c.args.board.now in
    let ns = nybbles c.args.raster.now in
    unused c.args.dyn_f (colour c.args.black) b.width b.left ns c.items.at (colour c.items.black) c.items.board c.items.invariant.reached (omega arith) (omega (arith, length-drop c.items.at ns, length_nybbles c.args.raster.now))

pub returns-clause-found : goal.returns-clause-found
returns-clause-found c =
    let b = c.args.board.now in
    let ns = nybbles c.args.raster.now in
    found c.args.dyn_f (colour c.args.black) b.width b.left ns c.items.at (colour c.items.black) c.items.board c.items.invariant.reached (omega arith) (length b.row.items) c.items.invariant.size (omega (arith, length-drop c.items.at ns, length_nybbles c.args.raster.now))

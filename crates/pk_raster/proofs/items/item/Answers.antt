use Rattle.std.proofs.Common.{arith, refl}
use Rattle.pk_raster.specs.Numbers.{nybbles}
use Rattle.pk_raster.specs.Runs.{Repeat}
use Rattle.pk_raster.proofs.Nybbles.{length_nybbles}
use Rattle.pk_raster.proofs.Itemized.{at_end, one_at, run_found, run_none, cut_at, inside_repeat, repeat_found, repeat_none}
use Rattle.pk_raster.proofs.items.item.Goals as goal

pub returns-then-at-raster-clause-fault : goal.returns-then-at-raster-clause-fault
returns-then-at-raster-clause-fault c = at_end c.args.dyn_f (nybbles c.args.raster.now) c.args.at (omega (arith, length_nybbles c.args.raster.now))

pub returns-then-first-eq15-clause-found : goal.returns-then-first-eq15-clause-found
returns-then-first-eq15-clause-found c = record {
  item = Repeat 1;
  count = refl;
  positive = omega arith;
  found = one_at c.args.dyn_f (nybbles c.args.raster.now) c.args.at c.nybble-first.result c.nybble-first.ensures.value (omega (arith, length_nybbles c.args.raster.now)) (omega arith);
  within = omega (arith, length_nybbles c.args.raster.now);
}

pub returns-in-Some-clause-found : goal.returns-in-Some-clause-found
returns-in-Some-clause-found c = run_found c.args.dyn_f (nybbles c.args.raster.now) c.args.at c.nybble-first.result c.nybble-first.ensures.value (omega (arith, length_nybbles c.args.raster.now)) (omega arith) c.in-Some.count c.in-Some.next c.in-Some.ensures.value c.in-Some.ensures.positive

pub returns-in-None-clause-fault : goal.returns-in-None-clause-fault
returns-in-None-clause-fault c = run_none c.args.dyn_f (nybbles c.args.raster.now) c.args.at c.nybble-first.result c.nybble-first.ensures.value (omega (arith, length_nybbles c.args.raster.now)) (omega arith) c.in-None.ensures.value

pub returns-then-at-raster-2-clause-fault : goal.returns-then-at-raster-2-clause-fault
returns-then-at-raster-2-clause-fault c = cut_at c.args.dyn_f (nybbles c.args.raster.now) c.args.at c.nybble-first.result c.nybble-first.ensures.value (omega (arith, length_nybbles c.args.raster.now)) (omega (arith, c.nybble-first.ensures.small)) (omega (arith, length_nybbles c.args.raster.now))

pub returns-then-second-gt13-clause-fault : goal.returns-then-second-gt13-clause-fault
returns-then-second-gt13-clause-fault c = inside_repeat c.args.dyn_f (nybbles c.args.raster.now) c.args.at c.nybble-first.result c.nybble-second.result c.nybble-first.ensures.value c.nybble-second.ensures.value (omega (arith, length_nybbles c.args.raster.now)) (omega (arith, c.nybble-first.ensures.small)) (omega arith)

pub returns-in-Some-number-clause-found : goal.returns-in-Some-number-clause-found
returns-in-Some-number-clause-found c = repeat_found c.args.dyn_f (nybbles c.args.raster.now) c.args.at c.nybble-first.result c.nybble-second.result c.nybble-first.ensures.value c.nybble-second.ensures.value (omega (arith, length_nybbles c.args.raster.now)) (omega (arith, c.nybble-first.ensures.small)) (omega arith) c.in-Some-number.count c.in-Some-number.next c.in-Some-number.ensures.value c.in-Some-number.ensures.positive

pub returns-in-None-number-clause-fault : goal.returns-in-None-number-clause-fault
returns-in-None-number-clause-fault c = repeat_none c.args.dyn_f (nybbles c.args.raster.now) c.args.at c.nybble-first.result c.nybble-second.result c.nybble-first.ensures.value c.nybble-second.ensures.value (omega (arith, length_nybbles c.args.raster.now)) (omega (arith, c.nybble-first.ensures.small)) (omega arith) c.in-None-number.ensures.value

use Rattle.std.proofs.Common.{◌+◌, ◌-◌, ◌*◌, drop, arith, ap, sym, ◌∙◌, get_or, subst}
use Rattle.pk_raster.specs.Numbers.{nybbles, packed, Reads, Found}
use Rattle.pk_raster.proofs.Nybbles.{length_nybbles, packed_long, packed_pair, packed_one, pair_some, pair_none}
use Rattle.pk_raster.proofs.packed.number.Goals as goal

pub returns-then-first-eq0-clause-value : goal.returns-then-first-eq0-clause-value
returns-then-first-eq0-clause-value c =
    let ns = nybbles c.args.raster.now in
    let P : Found → Type 0 = λ found. Reads ns found c.long_number.result in
    let e = ap (λ i. packed c.args.dyn_f i (drop c.args.at ns)) (omega arith) ∙ packed_long c.args.dyn_f (drop c.args.at ns) in
    subst P (sym e) c.long_number.ensures.value

pub returns-then-first-dyn_f-clause-value : goal.returns-then-first-dyn_f-clause-value
returns-then-first-dyn_f-clause-value c =
    (c.args.first, packed_one c.args.dyn_f c.args.first (drop c.args.at (nybbles c.args.raster.now)) (omega arith) (omega arith), omega arith, omega (arith, length_nybbles c.args.raster.now))

pub returns-then-at-raster-clause-value : goal.returns-then-at-raster-clause-value
returns-then-at-raster-clause-value c =
    let ns = nybbles c.args.raster.now in
    packed_pair c.args.dyn_f c.args.first (drop c.args.at ns) (omega arith) (omega arith) ∙ pair_none c.args.dyn_f c.args.first ns c.args.at (omega (arith, length_nybbles c.args.raster.now))

pub returns-clause-value : goal.returns-clause-value
returns-clause-value c =
    let ns = nybbles c.args.raster.now in
    let f = c.args.dyn_f in
    let i = c.args.first in
    let at = c.args.at in (
      (i - f - 1) * 16 + get_or ns at 0 + f + 1,
      packed_pair f i (drop at ns) (omega arith) (omega arith) ∙ pair_some f i ns at (omega (arith, length_nybbles c.args.raster.now)),
      omega (arith, c.nybble-low.ensures.value),
      omega (arith, length_nybbles c.args.raster.now),
    )

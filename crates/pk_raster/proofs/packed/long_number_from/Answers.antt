use Rattle.std.proofs.Common.{◌+◌, ◌-◌, ◌*◌, take, drop, arith, ap, sym, ◌∙◌, length-drop, get_or}
use Rattle.std.specs.Prelude.{Some}
use Rattle.pk_raster.specs.Numbers.{nybbles, behind}
use Rattle.pk_raster.proofs.Nybbles.{drop_drop, length_nybbles, short, whole, behind_more, behind_end}
use Rattle.pk_raster.proofs.packed.long_number_from.Goals as goal

pub returns-then-raster-at-clause-value : goal.returns-then-raster-at-clause-value
returns-then-raster-at-clause-value c =
    let ns = nybbles c.args.raster.now in
    short c.args.dyn_f c.args.zeros c.args.first (drop c.args.at ns) (omega (arith, length-drop c.args.at ns, length_nybbles c.args.raster.now))

pub loop-place-init : goal.loop-place-init
loop-place-init c =
    let ns = nybbles c.args.raster.now in
    record { one = omega arith; many = λ h. absurd (omega (arith, h)); read = (c.args.first, (omega arith), ap (λ n. behind c.args.first (take n (drop c.args.at ns))) (omega arith)) }

pub loop-place-preserved : goal.loop-place-preserved
loop-place-preserved c =
    let ns = nybbles c.args.raster.now in
    let old = c.loop-place.invariant.read in
    let one = c.loop-place.invariant.one in
    let place = c.loop-place.place in
    record {
      one = omega (arith, one);
      many = λ h. omega (arith, one);
      read = (
        16 * old.0 + get_or ns place 0,
        omega (arith, old.1, c.nybble.ensures.value),
        sym (behind_more old.0 ns place (c.args.at + c.args.zeros) (omega arith) (omega (arith, length_nybbles c.args.raster.now))) ∙ old.2,
      );
    }

pub returns-clause-positive : goal.returns-clause-positive
returns-clause-positive c = omega (arith, c.loop-place.invariant.many)

pub returns-clause-value : goal.returns-clause-value
returns-clause-value c =
    let ns = nybbles c.args.raster.now in
    let old = c.loop-place.invariant.read in
    let f = c.args.dyn_f in
    let at = c.args.at in
    let k = c.args.zeros in
    let v = sym (behind_end old.0 (nybbles c.args.raster.now) c.loop-place.place (at + k) (omega arith)) ∙ old.2 in (
      behind c.args.first (take k (drop at ns)) + (13 - f) * 16 + f - 15,
      whole f k c.args.first (drop at ns) (omega (arith, length-drop at ns, length_nybbles c.args.raster.now)) ∙ ap (λ xs. Some (behind c.args.first (take k (drop at ns)) + (13 - f) * 16 + f - 15, xs)) (drop_drop at k ns),
      omega (arith, v, old.1),
      omega (arith, length_nybbles c.args.raster.now),
    )

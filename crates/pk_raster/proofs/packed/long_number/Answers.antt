use Rattle.std.proofs.Common.{◌≡◌, ◌+◌, ◌<◌, ◌≢◌, length, drop, arith, ap, sym, ◌∙◌, get_or, subst}
use Rattle.pk_raster.specs.Numbers.{nybbles, long_from, long, Reads, Found}
use Rattle.pk_raster.proofs.Nybbles.{length_nybbles, long_step, long_stop, long_none}
use Rattle.pk_raster.proofs.packed.long_number.Goals as goal

pub returns-then-first-ne0-clause-value : goal.returns-then-first-ne0-clause-value
returns-then-first-ne0-clause-value c =
    let ns = nybbles c.args.raster.now in
    let place = c.loop-place.place in
    let f = c.args.dyn_f in
    let l : place < length ns = omega (arith, length_nybbles c.args.raster.now) in
    let z : get_or ns place 0 ≢ 0 = omega (arith, c.nybble-first.ensures.value) in
    let e : long_from f c.loop-place.zeros c.nybble-first.result (drop (place + 1) ns) ≡ long f 1 (drop c.args.at ns) =
    ap (λ d. long_from f c.loop-place.zeros d (drop (place + 1) ns)) c.nybble-first.ensures.value ∙ sym (long_stop f c.loop-place.zeros ns place l z) ∙ c.loop-place.invariant.same in
    let P : Found → Type 0 = λ found. Reads ns found c.long_number_from.result in
    subst P e c.long_number_from.ensures.value

pub loop-place-preserved : goal.loop-place-preserved
loop-place-preserved c =
    let ns = nybbles c.args.raster.now in
    let place = c.loop-place.place in
    let l : place < length ns = omega (arith, length_nybbles c.args.raster.now) in
    let z : get_or ns place 0 ≡ 0 = omega (arith, c.nybble-first.ensures.value) in
    record { count = omega (arith, c.loop-place.invariant.count); some = omega arith; same = sym (long_step c.args.dyn_f c.loop-place.zeros ns place l z) ∙ c.loop-place.invariant.same }

pub returns-clause-value : goal.returns-clause-value
returns-clause-value c =
    let ns = nybbles c.args.raster.now in
    sym c.loop-place.invariant.same ∙ long_none c.args.dyn_f c.loop-place.zeros ns c.loop-place.place (omega (arith, length_nybbles c.args.raster.now))

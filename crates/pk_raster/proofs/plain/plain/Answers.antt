use Rattle.std.proofs.Common.{rules, ◌≡◌, ℕ, ◌+◌, ◌-◌, ◌*◌, ◌≤◌, length, arith, refl, ◌∙◌, ap, subst, ◌++◌, take, drop}
use Rattle.std.specs.Prelude.{replicate}
use Rattle.std.proofs.Math.Nat.{mul-le-mul_left}
use Rattle.bit_lanes.specs.Bits.{bits}
use Rattle.pk_raster.specs.Filling.{Copied}
use Rattle.bit_lanes.specs.BitLaws.{length_bits}
use Rattle.pk_raster.proofs.Wholes.{taken, plain_length, none_yet, one_more_row, whole}
use Rattle.pk_raster.proofs.plain.plain.Goals as goal

pub returns-then-raster-need-clause-none : goal.returns-then-raster-need-clause-none
returns-then-raster-need-clause-none c = λ ne made p. (let l = plain_length c.args.width c.args.height (bits c.args.raster.now) made p in let b = length_bits c.args.raster.now in omega (arith, l.0, b))

pub returns-then-raster-need-clause-fault : goal.returns-then-raster-need-clause-fault
returns-then-raster-need-clause-fault c = omega (arith, length_bits c.args.raster.now)

pub returns-then-raster-need-ge8-clause-none : goal.returns-then-raster-need-ge8-clause-none
returns-then-raster-need-ge8-clause-none c = λ ne made p. (let l = plain_length c.args.width c.args.height (bits c.args.raster.now) made p in let b = length_bits c.args.raster.now in omega (arith, l.1, b))

pub returns-then-raster-need-ge8-clause-fault : goal.returns-then-raster-need-ge8-clause-fault
returns-then-raster-need-ge8-clause-fault c = omega (arith, length_bits c.args.raster.now)

pub loop-index-init : goal.loop-index-init
loop-index-init c = record { place = omega arith; len = refl; copied = none_yet c.args.width (length c.args.row.now) (bits c.args.raster.now) c.args.rows.now.items c.requires.empty }

pub loop-index-preserved : goal.loop-index-preserved
loop-index-preserved c =
    let n = c.loop-index.index in
    let w = c.args.width in
    let ns = bits c.args.raster.now in
    let inv = c.loop-index.invariant in
    let more : w * (n + 1) ≤ w * c.args.height = mul-le-mul_left w (omega arith) in
    let room : n * w + w ≤ length ns = omega (arith, more, length_bits c.args.raster.now) in
    let fits : 8 * length c.loop-index.row - w ≡ 8 * length c.args.row.now - length (take w (drop (n * w) ns)) = omega (arith, inv.len, taken ns (n * w) w room) in
    let shown = c.align_row.ensures ∙ ap (λ k. take w (drop k ns) ++ replicate {A = ℕ} (8 * length c.loop-index.row - w) 0) inv.place ∙ ap (λ k. take w (drop (n * w) ns) ++ replicate {A = ℕ} k 0) fits in
    record {
      place = omega (arith, inv.place);
      len = search rules;
      copied = one_more_row w n (length c.args.row.now) ns c.loop-index.rows.items c.align_row.new.to c.extend_from_slice.new.self.items inv.copied room shown c.in_ok-extend_from_slice.ensures.items;
    }

pub returns-clause-found : goal.returns-clause-found
returns-clause-found c =
    let C : ℕ → Type 0 = λ k. Copied c.args.width k (length c.args.row.now) (bits c.args.raster.now) c.loop-index.rows.items in
    let e : c.loop-index.index ≡ c.args.height = omega arith in
    whole c.args.width c.args.height (length c.args.row.now) (bits c.args.raster.now) c.loop-index.rows.items (subst C e c.loop-index.invariant.copied) (omega (arith, length_bits c.args.raster.now)) (omega (arith, length_bits c.args.raster.now))

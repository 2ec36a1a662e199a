use Rattle.std.proofs.Common.{rules, ◌≡◌, ◌*◌, ℕ, ℤ, pos, ◌-ℤ◌, to_z, w64, FitsSigned, arith, ap, sym, ◌∙◌}
use Rattle.std.specs.Prelude.{neg_ℤ, unsigned_abs}
use Rattle.std.proofs.lemmas.Int.{ints, to_z-of_z, to_z_pos}
use Rattle.dv_base.specs.Rounding.{Fraction, half_up}
use Rattle.dv_top.proofs.Origin.{rounded_negative, rounded_positive}
use Rattle.dv_top.proofs.setup.pixels.Goals as goal

pub returns-then-distance-lt0-clause-value : goal.returns-then-distance-lt0-clause-value
returns-then-distance-lt0-clause-value c =
    let f : Fraction = record { top = c.args.dpi * 100; bottom = 473628672 } in
    let n = c.near-pixels.result in
    let is = c.near-pixels.ensures.value in
    let small = c.near-pixels.ensures.small in
    let held : FitsSigned w64 c.args.distance = search rules in
    let size = c.unsigned_abs.ensures.value ∙ ap unsigned_abs (to_z-of_z w64 c.args.distance held) in
    let whole : to_z w64 n ≡ pos n = to_z_pos w64 n (omega (arith, small)) in
    let fits : FitsSigned w64 (pos 0 -ℤ to_z w64 n) = rw whole (search rules) in
    let turned : pos 0 -ℤ pos n ≡ neg_ℤ (pos n) = omega (arith, ints) in
    to_z-of_z w64 (pos 0 -ℤ to_z w64 n) fits
    ∙ ap (λ (z : ℤ). pos 0 -ℤ z) whole
    ∙ turned
    ∙ ap (λ (m : ℕ). neg_ℤ (pos m)) (is ∙ ap (half_up f) size)
    ∙ sym (rounded_negative f c.args.distance (let less = c.if-distance-lt0.true in omega (arith, ints, less)))

pub returns-else-distance-lt0-clause-value : goal.returns-else-distance-lt0-clause-value
returns-else-distance-lt0-clause-value c =
    let f : Fraction = record { top = c.args.dpi * 100; bottom = 473628672 } in
    let n = c.near-pixels.result in
    let is = c.near-pixels.ensures.value in
    let small = c.near-pixels.ensures.small in
    let held : FitsSigned w64 c.args.distance = search rules in
    let size = c.unsigned_abs.ensures.value ∙ ap unsigned_abs (to_z-of_z w64 c.args.distance held) in
    let whole : to_z w64 n ≡ pos n = to_z_pos w64 n (omega (arith, small)) in
    whole
    ∙ ap pos (is ∙ ap (half_up f) size)
    ∙ sym (rounded_positive f c.args.distance (λ h. let not_less = c.if-distance-lt0.false in omega (arith, ints, not_less, h)))

use Rattle.std.proofs.Common.{arith, ◌<◌, ◌^◌, ◌≤◌, ◌≡◌, ◌∙◌, ◌*◌, ◌/◌, ◌-◌, ℕ, zero, suc, refl, sym, to_z, of_z, w32, w64, FitsSigned, rules, ap}
use Rattle.std.specs.Prelude.{unsigned_abs}
use Rattle.std.proofs.lemmas.Int.{to_z-of_z}
use Rattle.dv_base.proofs.Products.{powers, whole_fits, sum_fits, sum_is, scaled_is}
use Rattle.dv_base.specs.ScaleLaws.{halvings-least}
use Rattle.dv_base.specs.Scale.{first_byte, other_bytes}
use Rattle.dv_base.proofs.fix_word.scale.Goals as goal

first_is : (c : goal.After-fraction) → c.from-first.result ≡ first_byte c.args.fix
first_is c =
    let fix : FitsSigned w32 c.args.fix = search rules in
    let quotient : FitsSigned w32 c.div_euclid.result = search rules in
    c.from-first.ensures ∙ to_z-of_z w32 c.div_euclid.result quotient ∙ c.div_euclid.ensures ∙ ap first_byte (to_z-of_z w32 c.args.fix fix)

others_are : (c : goal.After-fraction) → unsigned_abs (to_z w32 (of_z w32 c.rem_euclid-others.result)) ≡ other_bytes c.args.fix
others_are c =
    let fix : FitsSigned w32 c.args.fix = search rules in
    let rest : FitsSigned w32 c.rem_euclid-others.result = search rules in
    ap unsigned_abs (to_z-of_z w32 c.rem_euclid-others.result rest ∙ c.rem_euclid-others.ensures.value) ∙ ap other_bytes (to_z-of_z w32 c.args.fix fix)

few : (c : goal.After-fraction) → c.pow-alpha.result ≤ 16
few c = rw c.pow-alpha.ensures ((powers c.halved-size.result.1 c.halved-size.ensures.few).0)

small : (c : goal.After-fraction) → c.from-size.result < 2 ^ 23
small c = omega (arith, c.from-size.ensures, c.halved-size.ensures.small)

beta_is : (times : ℕ) → times ≤ 4 → 2 ^ (4 - times) ≡ 256 / (16 * 2 ^ times)
beta_is zero h = refl
beta_is (suc zero) h = refl
beta_is (suc (suc zero)) h = refl
beta_is (suc (suc (suc zero))) h = refl
beta_is (suc (suc (suc (suc zero)))) h = refl
beta_is (suc (suc (suc (suc (suc n))))) h = absurd (omega (arith, h))

part_is : (c : goal.After-fraction) → c.fraction.result ≡ c.from-size.result * other_bytes c.args.fix / (65536 * (256 / (16 * c.pow-alpha.result)))
part_is c =
    c.fraction.ensures.value
    ∙ ap (λ n. c.from-size.result * n / (65536 * 2 ^ (4 - c.halved-size.result.1))) (others_are c)
    ∙ ap (λ b. c.from-size.result * other_bytes c.args.fix / (65536 * b)) (beta_is c.halved-size.result.1 c.halved-size.ensures.few ∙ ap (λ p. 256 / (16 * p)) (sym c.pow-alpha.ensures))

pub overflow_mul-result-2 : goal.overflow_mul-result-2
overflow_mul-result-2 c =
    let fix : FitsSigned w32 c.args.fix = search rules in
    whole_fits _ c.args.fix _ _ (first_is c) fix (few c) (small c)

pub overflow_add-result : goal.overflow_add-result
overflow_add-result c =
    let fix : FitsSigned w32 c.args.fix = search rules in
    sum_fits _ c.args.fix _ _ _ (first_is c) fix (few c) (small c) c.fraction.ensures.bound

pub returns-clause-least : goal.returns-clause-least
returns-clause-least c = halvings-least c.args.z c.requires.bound

pub returns-clause-value : goal.returns-clause-value
returns-clause-value c =
    let fix : FitsSigned w32 c.args.fix = search rules in
    let fits = sum_fits _ c.args.fix _ _ _ (first_is c) fix (few c) (small c) c.fraction.ensures.bound in
    to_z-of_z w64 _ fits ∙ sum_is _ c.args.fix _ _ _ (first_is c) fix (few c) (small c) c.fraction.ensures.bound
    ∙ scaled_is c.args.fix c.args.z c.halved-size.result.1 _ _ _ c.halved-size.ensures.times c.pow-alpha.ensures (c.from-size.ensures ∙ c.halved-size.ensures.value) (part_is c)

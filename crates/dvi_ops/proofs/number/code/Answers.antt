-- Up to three bytes are a number below 2^24.
use Rattle.std.proofs.Common.{◌≡◌, ◌<◌, ◌^◌, ◌∙◌, ℕ, zero, suc, pos, List, Bool, true, nat_lt, if◌then◌else◌, sym, ap, to_z, w32, arith}
use Rattle.std.proofs.lemmas.Bool.Decides.{nat_tests}
use Rattle.std.proofs.lemmas.Int.{ints}
use Rattle.dv_base.specs.Numbers.{unsigned, signed}
use Rattle.dvi_ops.specs.Spelling.{code}
use Rattle.dvi_ops.proofs.number.code.Goals as goal

few : (n u : ℕ) → n < 4 → u < 256 ^ n → u < 2 ^ 24
few zero u h b = omega (arith, b)
few (suc zero) u h b = omega (arith, b)
few (suc (suc zero)) u h b = omega (arith, b)
few (suc (suc (suc zero))) u h b = omega (arith, b)
few (suc (suc (suc (suc n)))) u h b = absurd (omega (arith, h))

is_few : (n : ℕ) → n < 4 → nat_lt n 4 ≡ true
is_few n h = grind (arith, nat_tests)

without_sign : (n : ℕ) (args : List ℕ) → n < 4 → code n args ≡ pos (unsigned 0 n args)
unfolding code
without_sign n args h = ap (λ (b : Bool). if b then pos (unsigned 0 n args) else signed 0 4 args) (is_few n h)

pub overflow_cast-result : goal.overflow_cast-result
overflow_cast-result c = let small = few c.args.n c.unsigned.result c.if-n-lt4.true c.unsigned.ensures.small in omega (arith, small)

pub returns-then-n-lt4 : goal.returns-then-n-lt4
returns-then-n-lt4 c =
    let small = few c.args.n c.unsigned.result c.if-n-lt4.true c.unsigned.ensures.small in
    let same : to_z w32 c.unsigned.result ≡ pos c.unsigned.result = omega (arith, ints, small) in
    same ∙ ap (λ (u : ℕ). pos u) c.unsigned.ensures.value ∙ sym (without_sign c.args.n c.args.args.now c.if-n-lt4.true)

-- A fraction whose parts are divided by their greatest common divisor.
use Rattle.std.proofs.Common.{◌≡◌, ℕ, zero, suc, ◌*◌, ◌/◌, ◌-◌, ◌^◌, ◌<◌, ◌≤◌, arith, sym, ap, ◌∙◌}
use Rattle.std.proofs.Math.Nat.{lt_of_mul-lt-mul_right, div-le_self, mul-le-mul}
use Rattle.dv_base.specs.Lowest.{gcd}
use Rattle.dv_base.specs.LowestLaws.{top_is, bottom_is}
use Rattle.dv_base.specs.UnitPixels.{IsKept}
use Rattle.dv_base.proofs.Conversions.{kept}

positive_part : (x g y : ℕ) → x * g ≡ y → 0 < y → 0 < x
positive_part zero g y e some = absurd (omega arith)
positive_part (suc x) g y e some = omega arith

-- what is fine, with a common factor, is fine without it
fine_part : (x y g s t : ℕ) → x * g * s < y * g * t → x * s < y * t
fine_part x y g s t fine =
    let less : x * s * g < y * t * g = grind (arith, fine) in
    lt_of_mul-lt-mul_right g less

pub kept_lowest : (t b g : ℕ) → g ≡ gcd t b → 0 < t → 0 < b → t * (2 ^ 31 - 1) < b * 2 ^ 30 → b < 2 ^ 60 → IsKept (t / g) (b / g)
kept_lowest t b g is some positive fine room =
    let top : t / g * g ≡ t = rw is (top_is (kept t b)) in
    let bottom : b / g * g ≡ b = rw is (bottom_is (kept t b)) in
    record {
      some = positive_part (t / g) g t top some;
      fine = record {
        positive = positive_part (b / g) g b bottom positive;
        fine = fine_part (t / g) (b / g) g (2 ^ 31 - 1) (2 ^ 30) (rw (top, bottom) fine);
      };
      room = (let less = div-le_self b g in omega arith);
    }

pub same_lowest : (t b g : ℕ) → g ≡ gcd t b → t / g * b ≡ t * (b / g)
same_lowest t b g is =
    let top : t / g * g ≡ t = rw is (top_is (kept t b)) in
    let bottom : b / g * g ≡ b = rw is (bottom_is (kept t b)) in
    ap (λ n. t / g * n) (sym bottom) ∙ swapped (t / g) (b / g) g ∙ ap (λ n. n * (b / g)) top where
      swapped : (x y z : ℕ) → x * (y * z) ≡ x * z * y
      swapped x y z = grind arith

pub three_positive : (a b c : ℕ) → 0 < a → 0 < b → 0 < c → 0 < a * b * c
three_positive a b c p q r = let all : 1 * 1 * 1 ≤ a * b * c = mul-le-mul (mul-le-mul p q) r in omega arith

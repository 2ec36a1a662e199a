-- Numbers of a few digits.
use Rattle.std.proofs.Common.{◌≡◌, ◌<◌, ◌≤◌, ◌+◌, ◌*◌, ◌-◌, ◌^◌, ℕ, List, [], ◌∷◌, length, take, get_or, Bool, true, false, refl, arith, rules}
use Rattle.std.specs.Char.{is_ascii_digit}
use Rattle.std.specs.Int.{IsInRange}
use Rattle.std.specs.List.{list_all, take_while}
use Rattle.std.specs.Str.Parse.{digits_value}
use Rattle.std.proofs.Math.Numerals.{one-add}
use Rattle.std.proofs.Math.Nat.{mul-le-mul, mul-le-mul_right}
use Rattle.std.proofs.lemmas.Str.{digit_value_digit}
use Rattle.std.proofs.lemmas.Str.Parse.{IsNumeralModel, numerals_by_value, digits_value_short, digits_value-take-le, digit_at}
use Rattle.std.proofs.lemmas.Int.Digits.{digits_value_more}

own : IsNumeralModel (λ ds. list_all is_ascii_digit ds ≡ true) (digits_value 10)
own = numerals_by_value _ (search rules)

pub in_digits : (ds : List ℕ) (i : ℕ) → list_all is_ascii_digit ds ≡ true → i < length ds → IsInRange 48 57 (get_or ds i 0)
in_digits ds i h l = digit_at ds i (own.to ds h) l

pub below_power : (ds : List ℕ) (k : ℕ) → list_all is_ascii_digit ds ≡ true → length ds ≤ k → digits_value 10 ds < 10 ^ k
below_power ds k h few = digits_value_short own ds k h few

pub small_front : (ds : List ℕ) (i : ℕ) → list_all is_ascii_digit ds ≡ true → length ds ≤ 10 → digits_value 10 (take i ds) ≤ 9999999999
small_front ds i h few = omega (arith, digits_value-take-le 10 ds i (omega arith), below_power ds 10 h few)

pub digits_step : (ds : List ℕ) (i : ℕ) → list_all is_ascii_digit ds ≡ true → i < length ds
    → digits_value 10 (take (i + 1) ds) ≡ digits_value 10 (take i ds) * 10 + (get_or ds i 0 - 48)
digits_step ds i h l =
    let r = in_digits ds i h l in
    omega (arith, digits_value_more 10 ds i l, digit_value_digit (get_or ds i 0) r, r.0)

-- what a text begins with are digits
pub digits_in_front : (p : ℕ → Bool) (xs : List ℕ) → list_all p (take_while p xs) ≡ true
digits_in_front p [] = refl
digits_in_front p (x ∷ xs) = by (p x) refl (digits_in_front p xs) where
  by : (b : Bool) → p x ≡ b → list_all p (take_while p xs) ≡ true → list_all p (take_while p (x ∷ xs)) ≡ true
  by true e rest = rw (e, one-add, e) rest
  by false e rest = rw e refl

-- seven digits before the point and six after it are few enough for every unit
pub fits_unit : (w p t r : ℕ) → w < 10 ^ 7 → p < t → t ≤ 10 ^ 6 → r ≤ 14856 → (w * t + p) * 65536 * r < 2 ^ 128
fits_unit w p t r hw hp ht hr =
    let few : w ≤ 10 ^ 7 = omega arith in
    let one : w * t ≤ 10 ^ 7 * 10 ^ 6 = mul-le-mul few ht in
    let sum : w * t + p ≤ 10 ^ 7 * 10 ^ 6 + 10 ^ 6 = omega arith in
    let two : (w * t + p) * 65536 ≤ (10 ^ 7 * 10 ^ 6 + 10 ^ 6) * 65536 = mul-le-mul_right 65536 sum in
    let three : (w * t + p) * 65536 * r ≤ (10 ^ 7 * 10 ^ 6 + 10 ^ 6) * 65536 * 14856 = mul-le-mul two hr in
    omega arith

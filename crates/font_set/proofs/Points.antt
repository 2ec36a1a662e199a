-- Design sizes in DVI units.
use Rattle.std.proofs.Common.{◌≡◌, ℕ, ◌+◌, ◌*◌, ◌/◌, ◌^◌, ◌<◌, ◌≤◌, ℤ, pos, negsuc, ◌+ℤ◌, ◌*ℤ◌, ◌<ℤ◌, FitsSigned, to_z, of_z, w32, arith, refl, ap, sym, ◌∙◌}
use Rattle.std.specs.Prelude.{unsigned_abs}
use Rattle.std.specs.Int.{w128, int_div_euclid}
use Rattle.std.proofs.Common.{Fits}
use lib.Dec.{T}
use lib.Signed.{non_neg}
use Rattle.std.proofs.Math.Nat.{div-lt_iff_lt-mul}
use Rattle.std.proofs.lemmas.Int.{ints, to_z-of_z, unsigned_abs-mul, fits_signed_from_abs}
use Rattle.std.proofs.lemmas.Nat.{mul-le}
use Rattle.std.proofs.Common.{Bool, true, false, ◌&&◌, Option, Some, None}
use Rattle.std.proofs.lemmas.Bool.Decides.{nat_tests}
use Rattle.dv_base.specs.Scale.{scaled}
use Rattle.vf_packets.specs.Font.{LocalFont}
use Rattle.font_set.specs.Key.{Key, IsUnits}
use Rattle.font_set.specs.LocalKey.{local_design, local_key, is_size}

pub fit : (z : ℤ) → unsigned_abs z < 2 ^ 120 → to_z w128 (of_z w128 z) ≡ z
fit z h = to_z-of_z w128 z (fits_signed_from_abs w128 z (omega (arith, h)))

times : (a b : ℤ) (m n : ℕ) → unsigned_abs a ≤ m → unsigned_abs b ≤ n → unsigned_abs (a *ℤ b) ≤ m * n
times a b m n p q = omega (arith, unsigned_abs-mul a b, mul-le (unsigned_abs a) (unsigned_abs b) m n p q)

plus : (a b : ℤ) → unsigned_abs (a +ℤ b) ≤ unsigned_abs a + unsigned_abs b
plus (pos a) (pos b) = omega (arith, ints)
plus (pos a) (negsuc b) = omega (arith, ints)
plus (negsuc a) (pos b) = omega (arith, ints)
plus (negsuc a) (negsuc b) = omega (arith, ints)

module _ (n e d : ℤ) (small_n : unsigned_abs n < 2 ^ 31) (small_e : unsigned_abs e < 2 ^ 31) (small_d : unsigned_abs d ≤ 2 ^ 31) where
  first : unsigned_abs (pos 50800000 *ℤ e) ≤ 50800000 * 2 ^ 31
  first = times (pos 50800000) e 50800000 (2 ^ 31) (omega arith) (omega (arith, small_e))

  second : unsigned_abs (pos 50800000 *ℤ e *ℤ d) ≤ 50800000 * 2 ^ 31 * 2 ^ 31
  second = times (pos 50800000 *ℤ e) d (50800000 * 2 ^ 31) (2 ^ 31) first small_d

  half : unsigned_abs (pos 7578058752 *ℤ n) ≤ 7578058752 * 2 ^ 31
  half = times (pos 7578058752) n 7578058752 (2 ^ 31) (omega arith) (omega (arith, small_n))

  whole : unsigned_abs (pos 15156117504 *ℤ n) ≤ 15156117504 * 2 ^ 31
  whole = times (pos 15156117504) n 15156117504 (2 ^ 31) (omega arith) (omega (arith, small_n))

  pub sum : unsigned_abs (pos 50800000 *ℤ e *ℤ d +ℤ pos 7578058752 *ℤ n) < 2 ^ 94
  sum = omega (arith, plus (pos 50800000 *ℤ e *ℤ d) (pos 7578058752 *ℤ n), second, half)

  left_is : to_z w128 (of_z w128 (pos 50800000 *ℤ to_z w128 (of_z w128 e))) ≡ pos 50800000 *ℤ e
  left_is = ap (λ (z : ℤ). to_z w128 (of_z w128 (pos 50800000 *ℤ z))) (fit e (omega (arith, small_e))) ∙ fit (pos 50800000 *ℤ e) (omega (arith, first))

  product_is : to_z w128 (of_z w128 (pos 50800000 *ℤ to_z w128 (of_z w128 e))) *ℤ to_z w128 (of_z w128 d) ≡ pos 50800000 *ℤ e *ℤ d
  product_is = rw (left_is, fit d (omega (arith, small_d))) refl

  half_is : to_z w128 (of_z w128 (pos 7578058752 *ℤ to_z w128 (of_z w128 n))) ≡ pos 7578058752 *ℤ n
  half_is = ap (λ (z : ℤ). to_z w128 (of_z w128 (pos 7578058752 *ℤ z))) (fit n (omega (arith, small_n))) ∙ fit (pos 7578058752 *ℤ n) (omega (arith, half))

  pub whole_is : to_z w128 (of_z w128 (pos 15156117504 *ℤ to_z w128 (of_z w128 n))) ≡ pos 15156117504 *ℤ n
  whole_is = ap (λ (z : ℤ). to_z w128 (of_z w128 (pos 15156117504 *ℤ z))) (fit n (omega (arith, small_n))) ∙ fit (pos 15156117504 *ℤ n) (omega (arith, whole))

  abbrev product : ℤ
  product = to_z w128 (of_z w128 (pos 50800000 *ℤ to_z w128 (of_z w128 e))) *ℤ to_z w128 (of_z w128 d)

  pub product_fits : FitsSigned w128 product
  product_fits = rw product_is (fits_signed_from_abs w128 (pos 50800000 *ℤ e *ℤ d) (omega (arith, second)))

  abbrev total : ℤ
  total = to_z w128 (of_z w128 product) +ℤ to_z w128 (of_z w128 (pos 7578058752 *ℤ to_z w128 (of_z w128 n)))

  total_is : total ≡ pos 50800000 *ℤ e *ℤ d +ℤ pos 7578058752 *ℤ n
  total_is = rw (to_z-of_z w128 product product_fits, product_is, half_is) refl

  pub total_fits : FitsSigned w128 total
  total_fits = rw total_is (fits_signed_from_abs w128 (pos 50800000 *ℤ e *ℤ d +ℤ pos 7578058752 *ℤ n) (omega (arith, sum)))

  pub design_is : int_div_euclid (to_z w128 (of_z w128 total)) (to_z w128 (of_z w128 (pos 15156117504 *ℤ to_z w128 (of_z w128 n)))) ≡ local_design n e d
  unfolding local_design
  design_is = rw (to_z-of_z w128 total total_fits, total_is, whole_is) refl

quotient_small : (a q : ℕ) → a < 2 ^ 95 → 2 ^ 33 ≤ q → a / q < 2 ^ 62
quotient_small a q l m = (div-lt_iff_lt-mul (omega (arith, m))).1 (omega (arith, l, m))

by_natural : (x : ℤ) (q : ℕ) → unsigned_abs x < 2 ^ 94 → 2 ^ 33 ≤ q → unsigned_abs (int_div_euclid x (pos q)) < 2 ^ 63
by_natural (pos a) q l m = let h = quotient_small a q (omega (arith, ints, l)) m in omega (arith, ints, h)
by_natural (negsuc a) q l m = let h = quotient_small a q (omega (arith, ints, l)) m in omega (arith, ints, h)

pub design_small : (n e d : ℤ) → pos 0 <ℤ n → unsigned_abs n < 2 ^ 31 → unsigned_abs e < 2 ^ 31 → unsigned_abs d ≤ 2 ^ 31 → unsigned_abs (local_design n e d) < 2 ^ 63
unfolding local_design
design_small (pos m) e d p a b l =
    let some : 0 < m = omega (arith, ints, p) in
    by_natural (pos 50800000 *ℤ e *ℤ d +ℤ pos 7578058752 *ℤ pos m) (15156117504 * m) (sum (pos m) e d a b l) (omega (arith, some))
design_small (negsuc m) e d p a b l = absurd (omega (arith, ints, p))

pub below : (z : ℤ) (n : ℕ) → pos 0 <ℤ z → z <ℤ pos n → unsigned_abs z < n
below (pos k) n p l = omega (arith, ints)
below (negsuc k) n p l = omega (arith, ints)

not_minus : (n : ℤ) → pos 0 <ℤ n → pos 15156117504 *ℤ n ≡ negsuc 0 → ⊥
not_minus (pos m) p e = cc
not_minus (negsuc m) p e = omega (arith, ints, p)

pub no_overflow : (n : ℤ) → unsigned_abs n < 2 ^ 31 → pos 0 <ℤ n → of_z w128 (to_z w128 (of_z w128 (pos 15156117504 *ℤ to_z w128 (of_z w128 n)))) ≡ 340282366920938463463374607431768211455 → ⊥
no_overflow n a p e =
    let is = whole_is n n (pos 0) a a (omega arith) in
    let small : unsigned_abs (pos 15156117504 *ℤ n) < 2 ^ 120 = omega (arith, times (pos 15156117504) n 15156117504 (2 ^ 31) (omega arith) (omega (arith, a))) in
    let back : to_z w128 (of_z w128 (pos 15156117504 *ℤ n)) ≡ negsuc 0 = ap (λ (z : ℤ). to_z w128 (of_z w128 z)) (sym is) ∙ ap (λ (x : ℕ). to_z w128 x) e in
    not_minus n p (sym (fit (pos 15156117504 *ℤ n) small) ∙ back)

pub int32 : (z : ℤ) → FitsSigned w32 z → unsigned_abs z ≤ 2 ^ 31
int32 (pos n) fits = omega (arith, ints)
int32 (negsuc n) fits = omega (arith, ints)

-- ---- keys of local fonts

size_units : (z : ℤ) → is_size z ≡ true → (0 < unsigned_abs z) × (unsigned_abs z < 2 ^ 27)
size_units (pos n) e = (grind (arith, nat_tests, e), grind (arith, nat_tests, e))
size_units (negsuc n) e = absurd cc

first_of_both : (a b : Bool) → (a && b) ≡ true → a ≡ true
first_of_both true b e = refl
first_of_both false b e = absurd cc

second_of_both : (a b : Bool) → (a && b) ≡ true → b ≡ true
second_of_both true b e = e
second_of_both false b e = absurd cc

module _ (num den : ℤ) (size : ℕ) (l : LocalFont) (s d : ℤ) (s_is : s ≡ scaled size l.scale) (d_is : d ≡ local_design num den l.design) where
  tests : (b : Bool) → (is_size s && is_size d) ≡ b → (is_size (scaled size l.scale) && is_size (local_design num den l.design)) ≡ b
  tests b e = ap (λ (z : ℤ). is_size z && is_size (local_design num den l.design)) (sym s_is) ∙ ap (λ (z : ℤ). is_size s && is_size z) (sym d_is) ∙ e

  pub key_made : (is_size s && is_size d) ≡ true → local_key num den size l ≡ Some (record { name = l.name; checksum = l.checksum; size = unsigned_abs s; design = unsigned_abs d })
  unfolding local_key
  key_made e =
      rw (tests true e)
      (ap (λ (z : ℤ). (let o : Option Key = Some (record { name = l.name; checksum = l.checksum; size = unsigned_abs z; design = unsigned_abs (local_design num den l.design) }) in o)) (sym s_is)
      ∙ ap (λ (z : ℤ). (let o : Option Key = Some (record { name = l.name; checksum = l.checksum; size = unsigned_abs s; design = unsigned_abs z }) in o)) (sym d_is))

  pub none_made : (is_size s && is_size d) ≡ false → local_key num den size l ≡ None
  unfolding local_key
  none_made e = rw (tests false e) refl

pub both_units : (s d : ℤ) → (is_size s && is_size d) ≡ true → IsUnits (unsigned_abs s) × IsUnits (unsigned_abs d)
both_units s d e = (size_units s (first_of_both (is_size s) (is_size d) e), size_units d (second_of_both (is_size s) (is_size d) e))

-- a size as a number of 32 bits
pub size_fits : (z : ℤ) → is_size z ≡ true → T (non_neg z) × Fits w32 (unsigned_abs z)
size_fits (pos n) e = let u = size_units (pos n) e in (tt, omega (arith, u.1))
size_fits (negsuc n) e = absurd cc

pub first_fits : (s d : ℤ) → (is_size s && is_size d) ≡ true → T (non_neg s) × Fits w32 (unsigned_abs s)
first_fits s d e = size_fits s (first_of_both (is_size s) (is_size d) e)

pub second_fits : (s d : ℤ) → (is_size s && is_size d) ≡ true → T (non_neg d) × Fits w32 (unsigned_abs d)
second_fits s d e = size_fits d (second_of_both (is_size s) (is_size d) e)

-- Bytes that are 0.
use Rattle.std.proofs.Common.{◌≡◌, ℕ, zero, suc, ◌+◌, ◌*◌, ◌/◌, ◌%◌, ◌<◌, ◌≤◌, Bool, true, false, not, cond, inl, inr, refl, sym, ◌∙◌, ap, arith, List, [], ◌∷◌, nat_eq, get_or, map, drop, ◌&&◌}
use Rattle.std.specs.List.{slice_range}
use Rattle.std.specs.Simd.Lanes.{mask_l}
use Rattle.std.specs.Int.{bit_at}
use Rattle.std.proofs.lemmas.Bool.{eqb-true, eq-eqb, cases_Bool, false_from_ne_true, false≢true, true≢false}
use Rattle.std.proofs.Math.Dec.{eqb-suc-zero}
use Rattle.std.proofs.lemmas.Bool.Decides.{eqb_tells}
use Rattle.std.proofs.lemmas.List.Folds.{list_all-append, drop_split}
use Rattle.bit_lanes.specs.Bits.{bits, byte_bits, all_zero}

above : (n : ℕ) → 0 < n → nat_eq n 0 ≡ false
above n h = false_from_ne_true (nat_eq n 0) (λ e. omega (arith, h, eqb-true n 0 e))

double : (n : ℕ) → nat_eq (0 + 2 * n) 0 ≡ nat_eq n 0
double n = elim (eqb_tells n 0) [
  | inl e ↦ ap (λ k. nat_eq (0 + 2 * k) 0) e.1 ∙ sym (ap (λ k. nat_eq k 0) e.1)
  | inr ne ↦ above (0 + 2 * n) (let p : n ≡ 0 → ⊥ = ne.1 in omega (arith, p)) ∙ sym ne.0
]

-- a mask of the lanes that aren't 0
pub mask_zero : (xs : List ℕ) → nat_eq (mask_l (map (λ x. not (nat_eq x 0)) xs)) 0 ≡ all_zero xs
mask_zero [] = refl
mask_zero (zero ∷ xs) = double (mask_l (map (λ x. not (nat_eq x 0)) xs)) ∙ mask_zero xs
mask_zero (suc n ∷ xs) =
    let m = mask_l (map (λ x. not (nat_eq x 0)) xs) in
    let e : nat_eq (suc n) 0 ≡ false = eqb-suc-zero n in
    ap (λ b. nat_eq (cond (not b) 1 0 + 2 * m) 0) e ∙ above (1 + 2 * m) (omega arith) ∙ sym (ap (λ b. b && all_zero xs) e)

-- from one place to the next, where the bytes between them are 0
pub zero_on : (bytes : List ℕ) (at next : ℕ) → at ≤ next → all_zero bytes ≡ all_zero (drop at bytes) → all_zero (slice_range bytes at next) ≡ true → all_zero bytes ≡ all_zero (drop next bytes)
zero_on bytes at next h so e =
    so ∙ ap all_zero (drop_split bytes at next h) ∙ list_all-append (λ x. nat_eq x 0) (slice_range bytes at next) (drop next bytes) ∙ ap (λ b. b && all_zero (drop next bytes)) e

-- and where one of them isn't
pub zero_ends : (bytes : List ℕ) (at next : ℕ) → at ≤ next → all_zero bytes ≡ all_zero (drop at bytes) → all_zero (slice_range bytes at next) ≡ false → all_zero bytes ≡ false
zero_ends bytes at next h so e =
    so ∙ ap all_zero (drop_split bytes at next h) ∙ list_all-append (λ x. nat_eq x 0) (slice_range bytes at next) (drop next bytes) ∙ ap (λ b. b && all_zero (drop next bytes)) e

both : (a b : Bool) → (a && b) ≡ true → (a ≡ true) × (b ≡ true)
both true b e = (refl, e)
both false b e = absurd (false≢true e)

-- a byte is 0 where its bits are
byte_zero : (b : ℕ) → b < 256 → all_zero (byte_bits b) ≡ nat_eq b 0
byte_zero b h = elim (cases_Bool (all_zero (byte_bits b))) [
  | inl t ↦ (
      let a = both (nat_eq (bit_at b 7) 0) _ t in
      let a6 = both (nat_eq (bit_at b 6) 0) _ a.1 in
      let a5 = both (nat_eq (bit_at b 5) 0) _ a6.1 in
      let a4 = both (nat_eq (bit_at b 4) 0) _ a5.1 in
      let a3 = both (nat_eq (bit_at b 3) 0) _ a4.1 in
      let a2 = both (nat_eq (bit_at b 2) 0) _ a3.1 in
      let a1 = both (nat_eq (bit_at b 1) 0) _ a2.1 in
      let a0 = both (nat_eq (bit_at b 0) 0) _ a1.1 in
      let e7 : b / 128 % 2 ≡ 0 = eqb-true (bit_at b 7) 0 a.0 in
      let e6 : b / 64 % 2 ≡ 0 = eqb-true (bit_at b 6) 0 a6.0 in
      let e5 : b / 32 % 2 ≡ 0 = eqb-true (bit_at b 5) 0 a5.0 in
      let e4 : b / 16 % 2 ≡ 0 = eqb-true (bit_at b 4) 0 a4.0 in
      let e3 : b / 8 % 2 ≡ 0 = eqb-true (bit_at b 3) 0 a3.0 in
      let e2 : b / 4 % 2 ≡ 0 = eqb-true (bit_at b 2) 0 a2.0 in
      let e1 : b / 2 % 2 ≡ 0 = eqb-true (bit_at b 1) 0 a1.0 in
      let e0 : b / 1 % 2 ≡ 0 = eqb-true (bit_at b 0) 0 a0.0 in
      t ∙ sym (eq-eqb b 0 (omega (arith, h, e7, e6, e5, e4, e3, e2, e1, e0))))
  | inr f ↦ f ∙ sym (false_from_ne_true (nat_eq b 0) (λ e. true≢false (sym (ap (λ n. all_zero (byte_bits n)) (eqb-true b 0 e)) ∙ f)))
]

pub bits_zero : (bs : List ℕ) → ((k : ℕ) → get_or bs k 0 < 256) → all_zero (bits bs) ≡ all_zero bs
unfolding bits
bits_zero [] h = refl
bits_zero (b ∷ bs) h =
    list_all-append (λ x. nat_eq x 0) (byte_bits b) (bits bs) ∙ ap (λ v. v && all_zero (bits bs)) (byte_zero b (h 0)) ∙ ap (λ v. nat_eq b 0 && v) (bits_zero bs (λ k. h (suc k)))

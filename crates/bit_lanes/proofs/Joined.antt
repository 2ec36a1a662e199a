-- The eight bits of two bytes from one on, as the code computes them.
use Rattle.std.proofs.Common.{◌≡◌, ℕ, suc, ◌+◌, ◌-◌, ◌*◌, ◌/◌, ◌%◌, ◌^◌, ◌<◌, ◌≤◌, inl, inr, sym, ◌∙◌, ap, arith, [], ◌∷◌, get_or, bit_or}
use Rattle.std.proofs.lemmas.Bool.{cases_lt}
use Rattle.std.proofs.Math.Nat.{mod-lt}
use Rattle.std.proofs.lemmas.Nat.{div-add-mod', pow_pos}
use Rattle.std.proofs.lemmas.Nat.Bits.{bit_at_or, bit_at-zero, bit_at-suc, bit_at_above, bit_at_cat_low, bit_at_cat_high}
use Rattle.std.specs.Int.{bit_at}
use Rattle.bit_lanes.specs.Bits.{bit}

unfoldable pub joined : ℕ → ℕ → ℕ → ℕ
joined h l s = bit_or (h * 2 ^ s % 256) (l / 2 / 2 ^ (7 - s))

-- a bit of n << s, in a byte
left_above : (n s i : ℕ) → i < 8 → s ≤ i → bit_at (n * 2 ^ s % 256) i ≡ bit_at n (i - s)
left_above n s i h k =
    sym (bit_at_cat_low (n * 2 ^ s / 256) 8 (n * 2 ^ s % 256) i h) ∙ ap (λ m. bit_at m i) (div-add-mod' (n * 2 ^ s) 256 ∙ (let e : n * 2 ^ s ≡ n * 2 ^ s + 0 = omega arith in e)) ∙ bit_at_cat_high n s 0 i (pow_pos s) k

left_below : (n s i : ℕ) → i < 8 → i < s → bit_at (n * 2 ^ s % 256) i ≡ 0
left_below n s i h k =
    sym (bit_at_cat_low (n * 2 ^ s / 256) 8 (n * 2 ^ s % 256) i h) ∙ ap (λ m. bit_at m i) (div-add-mod' (n * 2 ^ s) 256 ∙ (let e : n * 2 ^ s ≡ n * 2 ^ s + 0 = omega arith in e)) ∙ bit_at_cat_low n s 0 i k ∙ bit_at-zero i

-- a bit of n >> k
right : (n k i : ℕ) → bit_at (n / 2 ^ k) i ≡ bit_at n (i + k)
right n k i =
    let e : i ≡ i + k - k = omega arith in
    ap (bit_at (n / 2 ^ k)) e ∙ sym (bit_at_cat_high (n / 2 ^ k) k (n % 2 ^ k) (i + k) (mod-lt n (pow_pos k)) (omega arith)) ∙ ap (λ m. bit_at m (i + k)) (div-add-mod' n (2 ^ k))

low_bit : (l s j : ℕ) → s < 8 → j < 8 → bit_at (l / 2 / 2 ^ (7 - s)) (7 - j) ≡ bit_at l (15 - j - s)
low_bit l s j h k =
    let e : suc (7 - j + (7 - s)) ≡ 15 - j - s = omega arith in
    right (l / 2) (7 - s) (7 - j) ∙ sym (bit_at-suc l (7 - j + (7 - s))) ∙ ap (bit_at l) e

first : (h l s j : ℕ) → s + j < 8 → bit (h ∷ l ∷ []) (s + j) ≡ bit_at h (7 - j - s)
unfolding bit
first h l s j k =
    let d : (s + j) / 8 ≡ 0 = omega arith in
    let m : 7 - (s + j) % 8 ≡ 7 - j - s = omega arith in
    ap (λ n. bit_at (get_or (h ∷ l ∷ []) n 0) (7 - (s + j) % 8)) d ∙ ap (bit_at h) m

second : (h l s j : ℕ) → s < 8 → j < 8 → 8 ≤ s + j → bit (h ∷ l ∷ []) (s + j) ≡ bit_at l (15 - j - s)
unfolding bit
second h l s j a b k =
    let d : (s + j) / 8 ≡ 1 = omega arith in
    let m : 7 - (s + j) % 8 ≡ 15 - j - s = omega arith in
    ap (λ n. bit_at (get_or (h ∷ l ∷ []) n 0) (7 - (s + j) % 8)) d ∙ ap (bit_at l) m

pub joined_bit : (h l s j : ℕ) → l < 256 → s < 8 → j < 8 → bit_at (joined h l s) (7 - j) ≡ bit (h ∷ l ∷ []) (s + j)
unfolding joined
joined_bit h l s j small a b =
    let o = bit_at_or (h * 2 ^ s % 256) (l / 2 / 2 ^ (7 - s)) (7 - j) in
    let r = low_bit l s j a b in
    elim (cases_lt (s + j) 8) [
      | inl k ↦ (
          let up = left_above h s (7 - j) (omega arith) (omega (arith, k)) in
          let none = bit_at_above l 8 (15 - j - s) small (omega (arith, k)) in
          let f = first h l s j k in
          omega (arith, o, r, up, none, f))
      | inr k ↦ (
          let none = left_below h s (7 - j) (omega arith) (omega (arith, k, b)) in
          let f = second h l s j a b k in
          omega (arith, o, r, none, f))
    ]

use Rattle.std.proofs.Common.{◌≡◌, ℕ, ◌-◌, ◌*◌, ◌/◌, ◌%◌, ◌^◌, ◌<◌, ◌≤◌, ◌∙◌, ap, arith, bit_and, bit_or, min}
use Rattle.std.specs.Int.{bit_at}
use Rattle.std.proofs.lemmas.Nat.Bits.{bit_at_or, bit_at_and, ones_shr, ones_shl, bit_at_ones, bit_at_ones_above, bit_at_mask_inside, bit_at_mask_below, bit_at-lt}

-- the bits from lo up to hi, as the code computes them
unfoldable pub mask : ℕ → ℕ → ℕ
mask from end = bit_and (255 / 2 ^ from) (255 * 2 ^ (8 - end) % 2 ^ 8)

mask_is : (from end : ℕ) → from ≤ 8 → mask from end ≡ bit_and (2 ^ (8 - from) - 1) (2 ^ 8 - 2 ^ (8 - end))
unfolding mask
mask_is from end h =
    let h2 : 8 - end ≤ 8 = omega arith in
    ap (λ n. bit_and n (255 * 2 ^ (8 - end) % 2 ^ 8)) (ones_shr 8 from h) ∙ ap (bit_and (2 ^ (8 - from) - 1)) (ones_shl 8 (8 - end) h2)

mask_at : (from end i : ℕ) → from ≤ 8 → bit_at (mask from end) i ≡ min (bit_at (2 ^ (8 - from) - 1) i) (bit_at (2 ^ 8 - 2 ^ (8 - end)) i)
mask_at from end i h = ap (λ n. bit_at n i) (mask_is from end h) ∙ bit_at_and (2 ^ (8 - from) - 1) (2 ^ 8 - 2 ^ (8 - end)) i

pub inside : (byte from end j : ℕ) → from ≤ j → j < end → end ≤ 8 → bit_at (bit_or byte (mask from end)) (7 - j) ≡ 1
inside byte from end j h k l =
    let a : bit_at (2 ^ (8 - from) - 1) (7 - j) ≡ 1 = bit_at_ones (8 - from) (7 - j) (omega arith) in
    let b : bit_at (2 ^ 8 - 2 ^ (8 - end)) (7 - j) ≡ 1 = bit_at_mask_inside (8 - end) 8 (7 - j) (omega arith) (omega arith) in
    let m = mask_at from end (7 - j) (omega arith) in
    let o = bit_at_or byte (mask from end) (7 - j) in
    let s = bit_at-lt byte (7 - j) in
    omega (arith, a, b, m, o, s)

pub above : (byte from end j : ℕ) → j < from → end ≤ 8 → from < end → bit_at (bit_or byte (mask from end)) (7 - j) ≡ bit_at byte (7 - j)
above byte from end j h l k =
    let a : bit_at (2 ^ (8 - from) - 1) (7 - j) ≡ 0 = bit_at_ones_above (8 - from) (7 - j) (omega arith) in
    let m = mask_at from end (7 - j) (omega arith) in
    let o = bit_at_or byte (mask from end) (7 - j) in
    omega (arith, a, m, o)

pub below : (byte from end j : ℕ) → end ≤ j → j < 8 → from < end → bit_at (bit_or byte (mask from end)) (7 - j) ≡ bit_at byte (7 - j)
below byte from end j h l k =
    let b : bit_at (2 ^ 8 - 2 ^ (8 - end)) (7 - j) ≡ 0 = bit_at_mask_below (8 - end) 8 (7 - j) (omega arith) in
    let m = mask_at from end (7 - j) (omega arith) in
    let o = bit_at_or byte (mask from end) (7 - j) in
    omega (arith, b, m, o)

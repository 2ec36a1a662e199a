-- What the bytes of a code are, and where they stand in four bytes.
use Rattle.std.proofs.Common.{◌≡◌, refl, ℕ, ◌+◌, ◌/◌, ◌%◌, List, [], ◌∷◌, length, take, slice_set, arith, true, false}
use Rattle.std.specs.Prelude.{nat_eq, nat_le, ◌&&◌, ◌||◌}
use Rattle.ps_subset.specs.Strings.{escape}

pub escape_marked : (c : ℕ) → (nat_eq c 40 || nat_eq c 41 || nat_eq c 92) ≡ true → escape c ≡ 92 ∷ c ∷ []
escape_marked c h = rw h refl

pub escape_plain : (c : ℕ) → (nat_eq c 40 || nat_eq c 41 || nat_eq c 92) ≡ false → (nat_le 32 c && nat_le c 126) ≡ true → escape c ≡ c ∷ []
escape_plain c h k = rw (h, k) refl

pub escape_octal : (c : ℕ) → (nat_eq c 40 || nat_eq c 41 || nat_eq c 92) ≡ false → (nat_le 32 c && nat_le c 126) ≡ false → escape c ≡ 92 ∷ (48 + c / 64) ∷ (48 + c / 8 % 8) ∷ (48 + c % 8) ∷ []
escape_octal c h k = rw (h, k) refl

pub one_set : (xs : List ℕ) (a : ℕ) → length xs ≡ 4 → take 1 (slice_set xs 0 a) ≡ a ∷ []
one_set [] a h = absurd (omega (arith, h))
one_set (w ∷ xs) a h = refl

pub two_set : (xs : List ℕ) (a b : ℕ) → length xs ≡ 4 → take 2 (slice_set (slice_set xs 0 a) 1 b) ≡ a ∷ b ∷ []
two_set [] a b h = absurd (omega (arith, h))
two_set (w ∷ []) a b h = absurd (omega (arith, h))
two_set (w ∷ x ∷ xs) a b h = refl

pub four_set : (xs : List ℕ) (a b c d : ℕ) → length xs ≡ 4 → take 4 (slice_set (slice_set (slice_set (slice_set xs 0 a) 1 b) 2 c) 3 d) ≡ a ∷ b ∷ c ∷ d ∷ []
four_set [] a b c d h = absurd (omega (arith, h))
four_set (w ∷ []) a b c d h = absurd (omega (arith, h))
four_set (w ∷ x ∷ []) a b c d h = absurd (omega (arith, h))
four_set (w ∷ x ∷ y ∷ []) a b c d h = absurd (omega (arith, h))
four_set (w ∷ x ∷ y ∷ z ∷ xs) a b c d h = refl

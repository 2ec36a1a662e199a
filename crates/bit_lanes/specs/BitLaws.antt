-- Laws of the bits of bytes.
use Rattle.std.specs.Prelude.{◌≡◌, ℕ, zero, suc, List, [], ◌∷◌, ◌++◌, ◌+◌, ◌-◌, ◌*◌, ◌/◌, ◌%◌, length, drop, replicate}
use Rattle.std.specs.Int.{bit_at}
use Rattle.std.proofs.Common.{refl, sym, ◌∙◌, ap, arith, get_or, get_or-drop}
use Rattle.std.proofs.lemmas.Nat.Bits.{bit_at-zero}
use Rattle.bit_lanes.specs.Bits.{bits, bit}

-- how many bits there are, and each of them by its place
pub length_bits : (bs : List ℕ) → length (bits bs) ≡ 8 * length bs
unfolding bits
length_bits [] = refl
length_bits (b ∷ bs) = let e = length_bits bs in omega (arith, e)

pub at_bits : (bs : List ℕ) (i : ℕ) → get_or (bits bs) i 0 ≡ bit bs i
unfolding bits bit
at_bits [] i = sym (bit_at-zero (7 - i % 8))
at_bits (b ∷ bs) zero = refl
at_bits (b ∷ bs) (suc zero) = refl
at_bits (b ∷ bs) (suc (suc zero)) = refl
at_bits (b ∷ bs) (suc (suc (suc zero))) = refl
at_bits (b ∷ bs) (suc (suc (suc (suc zero)))) = refl
at_bits (b ∷ bs) (suc (suc (suc (suc (suc zero))))) = refl
at_bits (b ∷ bs) (suc (suc (suc (suc (suc (suc zero)))))) = refl
at_bits (b ∷ bs) (suc (suc (suc (suc (suc (suc (suc zero))))))) = refl
at_bits (b ∷ bs) (suc (suc (suc (suc (suc (suc (suc (suc i)))))))) =
    let d : (suc (suc (suc (suc (suc (suc (suc (suc i)))))))) / 8 ≡ suc (i / 8) = omega arith in
    let m : (suc (suc (suc (suc (suc (suc (suc (suc i)))))))) % 8 ≡ i % 8 = omega arith in
    at_bits bs i ∙ ap (λ k. bit_at (get_or (b ∷ bs) k 0) (7 - i % 8)) (sym d) ∙ ap (λ k. bit_at (get_or (b ∷ bs) ((suc (suc (suc (suc (suc (suc (suc (suc i)))))))) / 8) 0) (7 - k)) (sym m)

-- the bits of bytes that follow others, and of bytes 0
pub bits-append : (xs ys : List ℕ) → bits (xs ++ ys) ≡ bits xs ++ bits ys
unfolding bits
bits-append [] ys = refl
bits-append (x ∷ xs) ys = let e = bits-append xs ys in cc

pub bits_zeros : (n : ℕ) → bits (replicate n 0) ≡ replicate (8 * n) 0
unfolding bits
bits_zeros zero = refl
bits_zeros (suc n) =
    let e : 8 * suc n ≡ suc (suc (suc (suc (suc (suc (suc (suc (8 * n)))))))) = omega arith in
    ap (λ xs. 0 ∷ 0 ∷ 0 ∷ 0 ∷ 0 ∷ 0 ∷ 0 ∷ 0 ∷ xs) (bits_zeros n) ∙ sym (ap (λ k. replicate {A = ℕ} k 0) e)

-- the bits of what follows some bytes
pub bit-drop : (n : ℕ) (bs : List ℕ) (i : ℕ) → bit (drop n bs) i ≡ bit bs (8 * n + i)
unfolding bit
bit-drop n bs i =
    let d : (8 * n + i) / 8 ≡ n + i / 8 = omega arith in
    let m : (8 * n + i) % 8 ≡ i % 8 = omega arith in
    ap (λ v. bit_at v (7 - i % 8)) (get_or-drop n bs (i / 8) 0) ∙ ap (λ k. bit_at (get_or bs k 0) (7 - i % 8)) (sym d) ∙ ap (λ k. bit_at (get_or bs ((8 * n + i) / 8) 0) (7 - k)) (sym m)

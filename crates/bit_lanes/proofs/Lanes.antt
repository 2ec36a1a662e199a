-- The bytes of a row, sixteen at a time.
use Rattle.std.proofs.Common.{◌≡◌, ℕ, ◌+◌, ◌-◌, ◌*◌, ◌/◌, ◌%◌, ◌^◌, ◌<◌, ◌≤◌, sym, ◌∙◌, ap, arith, List, [], ◌∷◌, get_or, length, replicate, bit_or}
use Rattle.std.specs.Simd.Lanes.{zip2, chunk, put_chunk}
use Rattle.std.proofs.lemmas.Simd.{length-zip2, length-chunk, get_or-chunk, get_or-zip2, get_or-replicate, length-replicate, get_or-put_chunk_below, get_or-put_chunk_at}
use Rattle.std.specs.Int.{bit_at}
use Rattle.bit_lanes.specs.Bits.{bit}
use Rattle.bit_lanes.specs.Rows.{Shows}
use Rattle.bit_lanes.proofs.Joined.{joined, joined_bit}
use Rattle.bit_lanes.proofs.Laid.{two_bytes, shows_more}

abbrev left : ℕ → ℕ → ℕ
left a b = a * 2 ^ b % 256

abbrev right : ℕ → ℕ → ℕ
right a b = a / 2 ^ b

-- the lanes, as the code computes them
abbrev pub lanes : List ℕ → List ℕ → ℕ → List ℕ
lanes high low s = zip2 bit_or (zip2 left high (replicate 16 s)) (zip2 right (zip2 right low (replicate 16 1)) (replicate 16 (7 - s)))

module _ (high low : List ℕ) (s : ℕ) (h : length high ≡ 16) (l : length low ≡ 16) where
  len_left : length (zip2 left high (replicate 16 s)) ≡ 16
  len_left = length-zip2 left high (replicate 16 s) h ∙ h

  len_half : length (zip2 right low (replicate 16 1)) ≡ 16
  len_half = length-zip2 right low (replicate 16 1) l ∙ l

  len_right : length (zip2 right (zip2 right low (replicate 16 1)) (replicate 16 (7 - s))) ≡ 16
  len_right = length-zip2 right (zip2 right low (replicate 16 1)) (replicate 16 (7 - s)) len_half ∙ len_half

  pub length_lanes : length (lanes high low s) ≡ 16
  length_lanes = length-zip2 bit_or (zip2 left high (replicate 16 s)) (zip2 right (zip2 right low (replicate 16 1)) (replicate 16 (7 - s))) (len_left ∙ sym len_right) ∙ len_left

  byte : (k : ℕ) → k < 16 → get_or (lanes high low s) k 0 ≡ joined (get_or high k 0) (get_or low k 0) s
  unfolding joined
  byte k lt =
      let half : get_or (zip2 right low (replicate 16 1)) k 0 ≡ get_or low k 0 / 2 =
      get_or-zip2 right low (replicate 16 1) k 0 0 0 (omega (arith, lt, l)) (omega (arith, lt, length-replicate {A = ℕ} 16 1)) ∙ ap (right (get_or low k 0)) (get_or-replicate 16 k 1 0 lt) in
      get_or-zip2 bit_or (zip2 left high (replicate 16 s)) (zip2 right (zip2 right low (replicate 16 1)) (replicate 16 (7 - s))) k 0 0 0 (omega (arith, lt, len_left)) (omega (arith, lt, len_right))
      ∙ ap (λ n. bit_or n (get_or (zip2 right (zip2 right low (replicate 16 1)) (replicate 16 (7 - s))) k 0))
      (get_or-zip2 left high (replicate 16 s) k 0 0 0 (omega (arith, lt, h)) (omega (arith, lt, length-replicate {A = ℕ} 16 s)) ∙ ap (left (get_or high k 0)) (get_or-replicate 16 k s 0 lt))
      ∙ ap (bit_or (left (get_or high k 0) s))
      (get_or-zip2 right (zip2 right low (replicate 16 1)) (replicate 16 (7 - s)) k 0 0 0 (omega (arith, lt, len_half)) (omega (arith, lt, length-replicate {A = ℕ} 16 (7 - s)))
      ∙ ap (right (get_or (zip2 right low (replicate 16 1)) k 0)) (get_or-replicate 16 k (7 - s) 0 lt)
      ∙ ap (λ n. right n (7 - s)) half)

-- sixteen bytes more of a row
pub laid : (from : List ℕ) (s at : ℕ) (to : List ℕ) → s < 8 → at + 17 ≤ length from → at + 16 ≤ length to → ((k : ℕ) → get_or from k 0 < 256) → Shows from s at to →
    Shows from s (at + 16) (put_chunk at to (lanes (chunk at 16 from) (chunk (at + 1) 16 from) s))
laid from s at to a held room small shown =
    let high = chunk at 16 from in
    let low = chunk (at + 1) 16 from in
    let h : length high ≡ 16 = length-chunk at 16 from (omega (arith, held)) in
    let l : length low ≡ 16 = length-chunk (at + 1) 16 from (omega (arith, held)) in
    let n = length_lanes high low s h l in
    shows_more from s at 16 to (put_chunk at to (lanes high low s)) shown (λ k lt. get_or-put_chunk_below at to (lanes high low s) k 0 lt)
    (λ k j lt b.
    let e : at + 1 + k ≡ at + k + 1 = omega arith in
    let under : get_or low k 0 ≡ get_or from (at + k + 1) 0 = get_or-chunk (at + 1) 16 from k 0 lt ∙ ap (λ m. get_or from m 0) e in
    ap (λ v. bit_at v (7 - j)) (get_or-put_chunk_at at to (lanes high low s) k 0 (omega (arith, lt, n)) (omega (arith, room, n)) ∙ byte high low s h l k lt)
    ∙ joined_bit (get_or high k 0) (get_or low k 0) s j (omega (arith, under, small (at + k + 1))) a b
    ∙ ap (λ v. bit (v ∷ get_or low k 0 ∷ []) (s + j)) (get_or-chunk at 16 from k 0 lt)
    ∙ two_bytes from (at + k) (get_or low k 0) s j under a b)

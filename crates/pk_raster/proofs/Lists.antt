use Rattle.std.proofs.Common.{◌≡◌, ℕ, ◌-◌, ◌*◌, ◌<◌, ◌≤◌, inl, inr, sym, ◌∙◌, ap, arith, List, ◌++◌, get_or, length, take, drop, replicate, length-append, length-take, length-drop, get_or-drop, get_or-take}
use Rattle.std.proofs.lemmas.Bool.{cases_lt}
use Rattle.std.proofs.lemmas.List.{same_lists, get_or_append_left, get_or-append_right, get_or-replicate, length-replicate, get_or_default}
use Rattle.bit_lanes.specs.Bits.{bits, bit}
use Rattle.bit_lanes.specs.BitLaws.{length_bits, at_bits}

-- a list with ones from start to end, by its places
pub overlaid : (xs ys : List ℕ) (start end : ℕ) → length ys ≡ length xs → start ≤ end → end ≤ length xs →
    ((i : ℕ) → start ≤ i → i < end → get_or ys i 0 ≡ 1) → ((i : ℕ) → i < start → get_or ys i 0 ≡ get_or xs i 0) → ((i : ℕ) → end ≤ i → get_or ys i 0 ≡ get_or xs i 0) →
    ys ≡ take start xs ++ (replicate {A = ℕ} (end - start) 1 ++ drop end xs)
overlaid xs ys start end len order within black before behind =
    let lt : length (take start xs) ≡ start = length-take start xs ∙ omega arith in
    let lr : length (replicate {A = ℕ} (end - start) 1) ≡ end - start = length-replicate {A = ℕ} (end - start) 1 in
    let n : ℕ = 0 in
    let all : length (take start xs ++ (replicate {A = ℕ} (end - start) 1 ++ drop end xs)) ≡ length xs = omega (arith, length-append (take start xs) (replicate {A = ℕ} (end - start) 1 ++ drop end xs), length-append (replicate {A = ℕ} (end - start) 1) (drop end xs), length-drop end xs) in
    let places : (k : ℕ) → k < length ys → get_or ys k 0 ≡ get_or (take start xs ++ (replicate {A = ℕ} (end - start) 1 ++ drop end xs)) k 0 = λ k h.
    elim (cases_lt k start) [
      | inl a ↦ before k a ∙ sym (get_or_append_left (take start xs) (replicate {A = ℕ} (end - start) 1 ++ drop end xs) 0 k (omega (arith, lt, a)) ∙ get_or-take start xs k 0 a)
      | inr a ↦ elim (cases_lt k end) [
        | inl b ↦ black k a b ∙ sym (get_or-append_right (take start xs) (replicate {A = ℕ} (end - start) 1 ++ drop end xs) start k 0 lt a ∙ get_or_append_left (replicate {A = ℕ} (end - start) 1) (drop end xs) 0 (k - start) (omega (arith, lr, a, b)) ∙ get_or-replicate (end - start) (k - start) 1 0 (omega (arith, a, b)))
        | inr b ↦ behind k b ∙ sym (get_or-append_right (take start xs) (replicate {A = ℕ} (end - start) 1 ++ drop end xs) start k 0 lt a ∙ get_or-append_right (replicate {A = ℕ} (end - start) 1) (drop end xs) (end - start) (k - start) 0 lr (omega (arith, a, b)) ∙ get_or-drop end xs (k - start - (end - start)) 0 ∙ ap (λ j. get_or xs j 0) (omega (arith, a, b)))
      ]
    ] in
    same_lists ys (take start xs ++ (replicate {A = ℕ} (end - start) 1 ++ drop end xs)) (len ∙ sym all) (λ k d h. get_or_default ys k d 0 h ∙ places k h ∙ get_or_default (take start xs ++ (replicate {A = ℕ} (end - start) 1 ++ drop end xs)) k 0 d (omega (arith, all, len, h)))

pub whole : (old new : List ℕ) (start end : ℕ) → length new ≡ length old → start ≤ end → end ≤ 8 * length old →
    ((i : ℕ) → start ≤ i → i < end → bit new i ≡ 1) → ((i : ℕ) → i < start → bit new i ≡ bit old i) → ((i : ℕ) → end ≤ i → bit new i ≡ bit old i) →
    bits new ≡ take start (bits old) ++ (replicate {A = ℕ} (end - start) 1 ++ drop end (bits old))
whole old new start end len order within black before behind =
    overlaid (bits old) (bits new) start end (length_bits new ∙ ap (λ n. 8 * n) len ∙ sym (length_bits old)) order (let e = length_bits old in omega (arith, e, within))
    (λ i h k. at_bits new i ∙ black i h k)
    (λ i h. at_bits new i ∙ before i h ∙ sym (at_bits old i))
    (λ i h. at_bits new i ∙ behind i h ∙ sym (at_bits old i))

-- Bits behind a row.
use Rattle.std.proofs.Common.{◌≡◌, ℕ, ◌+◌, ◌-◌, ◌*◌, ◌/◌, ◌%◌, ◌<◌, ◌≤◌, inl, inr, sym, ◌∙◌, ap, arith, List, ◌++◌, get_or, set, length, take, drop, replicate, length-append, length-take, length-drop, get_or-drop, get_or-take, get_or-set_same, get_or-set_other}
use Rattle.std.proofs.lemmas.Bool.{cases_lt, cases_eq}
use Rattle.std.proofs.lemmas.List.{same_lists, get_or_append_left, get_or-append_right, get_or-replicate, length-replicate, get_or_default, get_or_past}
use Rattle.std.proofs.lemmas.Nat.Bits.{bit_at-zero}
use Rattle.std.specs.Int.{bit_at}
use Rattle.bit_lanes.specs.Bits.{bits, bit}
use Rattle.bit_lanes.specs.BitLaws.{length_bits, at_bits}
use Rattle.bit_lanes.specs.Rows.{row_of}
use Rattle.bit_lanes.proofs.Laid.{in_byte}

zeros : (n i : ℕ) → get_or (replicate {A = ℕ} n 0) i 0 ≡ 0
zeros n i = elim (cases_lt i n) [
  | inl h ↦ get_or-replicate n i 0 0 h
  | inr h ↦ get_or_past (replicate {A = ℕ} n 0) i 0 (omega (arith, h, length-replicate {A = ℕ} n 0))
]

module _ (n r : ℕ) (m : List ℕ) (within : n ≤ length m) where
  pub in_front : (i : ℕ) → i < 8 * n → bit (take n m ++ replicate r 0) i ≡ bit m i
  in_front i h =
      let l : i / 8 < n = omega (arith, h) in
      in_byte (take n m ++ replicate {A = ℕ} r 0) i
      ∙ ap (λ v. bit_at v (7 - i % 8)) (get_or_append_left (take n m) (replicate {A = ℕ} r 0) 0 (i / 8) (omega (arith, l, length-take n m, within)) ∙ get_or-take n m (i / 8) 0 l)
      ∙ sym (in_byte m i)

  pub in_back : (i : ℕ) → 8 * n ≤ i → bit (take n m ++ replicate r 0) i ≡ 0
  in_back i h =
      in_byte (take n m ++ replicate {A = ℕ} r 0) i
      ∙ ap (λ v. bit_at v (7 - i % 8)) (get_or-append_right (take n m) (replicate {A = ℕ} r 0) n (i / 8) 0 (omega (arith, length-take n m, within)) (omega (arith, h)) ∙ zeros r (i / 8 - n))
      ∙ bit_at-zero (7 - i % 8)

module _ (to : List ℕ) (w v : ℕ) (within : w / 8 < length to) where
  pub byte_front : ((j : ℕ) → j < w % 8 → bit_at v (7 - j) ≡ bit_at (get_or to (w / 8) 0) (7 - j)) → (i : ℕ) → i < w → bit (set to (w / 8) v) i ≡ bit to i
  byte_front front i h = elim (cases_eq (i / 8) (w / 8)) [
    | inl e ↦ in_byte (set to (w / 8) v) i ∙ ap (λ k. bit_at (get_or (set to (w / 8) v) k 0) (7 - i % 8)) e ∙ ap (λ n. bit_at n (7 - i % 8)) (get_or-set_same to (w / 8) v 0 within)
        ∙ front (i % 8) (omega (arith, h, e)) ∙ ap (λ k. bit_at (get_or to k 0) (7 - i % 8)) (sym e) ∙ sym (in_byte to i)
    | inr ne ↦ in_byte (set to (w / 8) v) i ∙ ap (λ n. bit_at n (7 - i % 8)) (get_or-set_other to (w / 8) (i / 8) v 0 ne) ∙ sym (in_byte to i)
  ]

  pub byte_behind : ((j : ℕ) → w % 8 ≤ j → j < 8 → bit_at v (7 - j) ≡ 0) → (i : ℕ) → w ≤ i → i / 8 ≡ w / 8 → bit (set to (w / 8) v) i ≡ 0
  byte_behind behind i h e =
      in_byte (set to (w / 8) v) i ∙ ap (λ k. bit_at (get_or (set to (w / 8) v) k 0) (7 - i % 8)) e ∙ ap (λ n. bit_at n (7 - i % 8)) (get_or-set_same to (w / 8) v 0 within) ∙ behind (i % 8) (omega (arith, h, e)) (omega arith)

-- a row by its places
pub row_is : (from to : List ℕ) (start w : ℕ) → start + w ≤ 8 * length from → w ≤ 8 * length to → ((i : ℕ) → i < w → bit to i ≡ bit from (start + i)) → ((i : ℕ) → w ≤ i → bit to i ≡ 0) →
    bits to ≡ row_of start w (8 * length to) (bits from)
row_is from to start w held room front behind =
    let room_bits = 8 * length to in
    let xs = take w (drop start (bits from)) in
    let zs = replicate {A = ℕ} (room_bits - w) 0 in
    let lx : length xs ≡ w = length-take w (drop start (bits from)) ∙ omega (arith, length-drop start (bits from), length_bits from, held) in
    let all : length (xs ++ zs) ≡ room_bits = omega (arith, length-append xs zs, lx, length-replicate {A = ℕ} (room_bits - w) 0, room) in
    let places : (k : ℕ) → get_or (bits to) k 0 ≡ get_or (xs ++ zs) k 0 = λ k. at_bits to k ∙ (elim (cases_lt k w) [
      | inl a ↦ front k a ∙ sym (at_bits from (start + k)) ∙ sym (get_or_append_left xs zs 0 k (omega (arith, lx, a)) ∙ get_or-take w (drop start (bits from)) k 0 a ∙ get_or-drop start (bits from) k 0)
      | inr a ↦ behind k a ∙ sym (get_or-append_right xs zs w k 0 lx a ∙ zeros (room_bits - w) (k - w))
    ]) in
    same_lists (bits to) (xs ++ zs) (length_bits to ∙ sym all) (λ k d h. get_or_default (bits to) k d 0 h ∙ places k ∙ get_or_default (xs ++ zs) k 0 d (omega (arith, all, length_bits to, h)))

use Rattle.std.proofs.Common.{◌≡◌, ℕ, ◌+◌, ◌-◌, ◌/◌, ◌%◌, ◌<◌, ◌≤◌, ◌≢◌, ◌⊎◌, inl, inr, sym, ◌∙◌, ap, arith, List, set, get_or, length, get_or-set_same, get_or-set_other}
use Rattle.std.proofs.lemmas.Bool.{cases_eq}
use Rattle.std.specs.Int.{bit_at}
use Rattle.bit_lanes.specs.Bits.{bit}

module _ (row : List ℕ) (k v : ℕ) (within : k < length row) where
  hit : (i : ℕ) → i / 8 ≡ k → bit (set row k v) i ≡ bit_at v (7 - i % 8)
  unfolding bit
  hit i e = ap (λ n. bit_at n (7 - i % 8)) (ap (λ j. get_or (set row k v) j 0) e ∙ get_or-set_same row k v 0 within)

  miss : (i : ℕ) → i / 8 ≢ k → bit (set row k v) i ≡ bit row i
  unfolding bit
  miss i ne = ap (λ n. bit_at n (7 - i % 8)) (get_or-set_other row k (i / 8) v 0 ne)

  same : (i : ℕ) → i / 8 ≡ k → bit row i ≡ bit_at (get_or row k 0) (7 - i % 8)
  unfolding bit
  same i e = ap (λ j. bit_at (get_or row j 0) (7 - i % 8)) e

module _ (row : List ℕ) (at count v : ℕ) (within : at / 8 < length row) (fit : at % 8 + count ≤ 8) where
  pub painted : ((j : ℕ) → at % 8 ≤ j → j < at % 8 + count → bit_at v (7 - j) ≡ 1) → (i : ℕ) → at ≤ i → i < at + count → bit (set row (at / 8) v) i ≡ 1
  painted ones i h k =
      let e : i / 8 ≡ at / 8 = omega arith in
      hit row (at / 8) v within i e ∙ ones (i % 8) (omega arith) (omega arith)

  pub kept : ((j : ℕ) → j < at % 8 → bit_at v (7 - j) ≡ bit_at (get_or row (at / 8) 0) (7 - j)) →
      ((j : ℕ) → at % 8 + count ≤ j → j < 8 → bit_at v (7 - j) ≡ bit_at (get_or row (at / 8) 0) (7 - j)) →
      (i : ℕ) → (i < at) ⊎ (at + count ≤ i) → bit (set row (at / 8) v) i ≡ bit row i
  kept before behind i (inl h) = elim (cases_eq (i / 8) (at / 8)) [
    | inl e ↦ hit row (at / 8) v within i e ∙ before (i % 8) (omega arith) ∙ sym (same row (at / 8) v within i e)
    | inr ne ↦ miss row (at / 8) v within i ne
  ]
  kept before behind i (inr h) = elim (cases_eq (i / 8) (at / 8)) [
    | inl e ↦ hit row (at / 8) v within i e ∙ behind (i % 8) (omega arith) (omega arith) ∙ sym (same row (at / 8) v within i e)
    | inr ne ↦ miss row (at / 8) v within i ne
  ]

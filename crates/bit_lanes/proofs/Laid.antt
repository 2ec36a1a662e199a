-- Rows, byte after byte.
use Rattle.std.proofs.Common.{◌≡◌, ℕ, ◌+◌, ◌-◌, ◌*◌, ◌/◌, ◌%◌, ◌<◌, inl, inr, refl, sym, ◌∙◌, ap, arith, List, [], ◌∷◌, get_or, set, length, get_or-set_same, get_or-set_other}
use Rattle.std.proofs.lemmas.Bool.{cases_lt}
use Rattle.std.specs.Int.{bit_at}
use Rattle.bit_lanes.specs.Bits.{bit}
use Rattle.bit_lanes.specs.Rows.{Shows}

pub two_bytes : (from : List ℕ) (at low s j : ℕ) → low ≡ get_or from (at + 1) 0 → s < 8 → j < 8 → bit (get_or from at 0 ∷ low ∷ []) (s + j) ≡ bit from (8 * at + s + j)
unfolding bit
two_bytes from at low s j e a b =
    let m : 7 - (8 * at + s + j) % 8 ≡ 7 - (s + j) % 8 = omega arith in
    elim (cases_lt (s + j) 8) [
      | inl k ↦ (
          let d : (s + j) / 8 ≡ 0 = omega (arith, k) in
          let f : at ≡ (8 * at + s + j) / 8 = omega (arith, k) in
          ap (λ n. bit_at (get_or (get_or from at 0 ∷ low ∷ []) n 0) (7 - (s + j) % 8)) d ∙ ap (λ n. bit_at (get_or from n 0) (7 - (s + j) % 8)) f ∙ ap (bit_at (get_or from ((8 * at + s + j) / 8) 0)) (sym m))
      | inr k ↦ (
          let d : (s + j) / 8 ≡ 1 = omega (arith, k, a, b) in
          let f : at + 1 ≡ (8 * at + s + j) / 8 = omega (arith, k, a, b) in
          ap (λ n. bit_at (get_or (get_or from at 0 ∷ low ∷ []) n 0) (7 - (s + j) % 8)) d ∙ ap (λ n. bit_at n (7 - (s + j) % 8)) e ∙ ap (λ n. bit_at (get_or from n 0) (7 - (s + j) % 8)) f ∙ ap (bit_at (get_or from ((8 * at + s + j) / 8) 0)) (sym m))
    ]

-- a bit by the byte that it lies in
pub in_byte : (bs : List ℕ) (i : ℕ) → bit bs i ≡ bit_at (get_or bs (i / 8) 0) (7 - i % 8)
unfolding bit
in_byte bs i = refl

-- a row that is the same so far, with more bytes that show what they should
pub shows_more : (from : List ℕ) (s at more : ℕ) (old new : List ℕ) → Shows from s at old → ((k : ℕ) → k < at → get_or new k 0 ≡ get_or old k 0) →
    ((k j : ℕ) → k < more → j < 8 → bit_at (get_or new (at + k) 0) (7 - j) ≡ bit from (8 * (at + k) + s + j)) → Shows from s (at + more) new
shows_more from s at more old new shown same next i h =
    elim (cases_lt i (8 * at)) [
      | inl a ↦ in_byte new i ∙ ap (λ n. bit_at n (7 - i % 8)) (same (i / 8) (omega (arith, a))) ∙ sym (in_byte old i) ∙ shown i a
      | inr a ↦ (
          let k : ℕ = i / 8 - at in
          let e : i / 8 ≡ at + k = omega (arith, a) in
          let f : 8 * (at + k) + s + i % 8 ≡ s + i = omega (arith, a) in
          in_byte new i ∙ ap (λ n. bit_at (get_or new n 0) (7 - i % 8)) e ∙ next k (i % 8) (omega (arith, a, h)) (omega arith) ∙ ap (bit from) f)
    ]

pub shows_none : (from : List ℕ) (s : ℕ) (to : List ℕ) → Shows from s 0 to
shows_none from s to i h = absurd (omega (arith, h))

pub one_byte : (from : List ℕ) (s at : ℕ) (to : List ℕ) (v : ℕ) → at < length to → Shows from s at to → ((j : ℕ) → j < 8 → bit_at v (7 - j) ≡ bit from (8 * at + s + j)) → Shows from s (at + 1) (set to at v)
one_byte from s at to v inside shown next =
    shows_more from s at 1 to (set to at v) shown (λ k h. get_or-set_other to at k v 0 (λ e. omega (arith, h, e)))
    (λ k j h l. let e : at + k ≡ at = omega (arith, h) in ap (λ n. bit_at (get_or (set to at v) n 0) (7 - j)) e ∙ ap (λ n. bit_at n (7 - j)) (get_or-set_same to at v 0 inside) ∙ next j l ∙ ap (λ n. bit from (8 * n + s + j)) (sym e))

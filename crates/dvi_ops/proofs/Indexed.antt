-- Words in order: the pairs that they hold.
use Rattle.std.proofs.Common.{◌≡◌, ◌<◌, ◌≤◌, ◌+◌, ◌/◌, ◌^◌, ◌-ℤ◌, ◌≤ℤ◌, ℕ, zero, suc, ℤ, pos, List, [], ◌∷◌, length, map, get_or, Bool, true, false, nat_lt, arith, refl, sym, ap, ◌∙◌, ltb-true, ltb-false}
use Rattle.std.specs.List.{Contains}
use Rattle.std.specs.List.Sorted.{IsPartitionPoint, IsPartitionedBy, IsNonDecreasing}
use Rattle.std.specs.Prelude.{int_lt}
use Rattle.std.proofs.lemmas.Int.{ints}
use Rattle.std.proofs.lemmas.List.{length-map, get_or_default}
use Rattle.dvi_ops.specs.NumberIndex.{number_at, pair_of, StandsTwice}

-- the number of the pair at a place
pub number_there : (words : List ℕ) (at : ℕ) → at < length words → number_at (map pair_of words) at ≡ (pair_of (get_or words at 0)).0
number_there [] at h = absurd (omega (arith, h))
number_there (w ∷ words) zero h = refl
number_there (w ∷ words) (suc at) h = number_there words at (omega (arith, h))

-- the pair at a place
pair_there : (words : List ℕ) (at : ℕ) (d : ℤ × ℕ) → at < length words → get_or (map pair_of words) at d ≡ pair_of (get_or words at 0)
pair_there [] at d h = absurd (omega (arith, h))
pair_there (w ∷ words) zero d h = refl
pair_there (w ∷ words) (suc at) d h = pair_there words at d (omega (arith, h))

-- the number of a word that stands at a place
pub number_by : (words : List ℕ) (at w : ℕ) → at < length words → w ≡ get_or words at w → number_at (map pair_of words) at ≡ (pair_of w).0
number_by words at w inside is = number_there words at inside ∙ ap (λ (v : ℕ). (pair_of v).0) (get_or_default words at 0 w inside ∙ sym is)

-- words whose numbers are equal have equal upper halves
upper : (v w : ℕ) → (pair_of v).0 ≡ (pair_of w).0 → v / 2 ^ 32 ≡ w / 2 ^ 32
upper v w h = omega (arith, ints, h)

-- the pair that a search finds
pub there : (words : List ℕ) (k : ℤ) (at w : ℕ) → at < length words → w ≡ get_or words at 0 → (pair_of w).0 ≡ k → Contains (map pair_of words) (k, (pair_of w).1)
there words k at w inside is same =
    (at, omega (arith, inside, length-map words pair_of), pair_there words at (k, (pair_of w).1) inside ∙ ap pair_of (sym is) ∙ ap (λ (n : ℤ). (n, (pair_of w).1)) same)

-- words in order have their numbers in order
in_order : (v w : ℕ) → v ≤ w → (pair_of v).0 ≤ℤ (pair_of w).0
in_order v w h = omega (arith, ints, h)

pub searchable : (words : List ℕ) (k : ℤ) → IsNonDecreasing words → IsPartitionedBy (λ w. int_lt (pair_of w).0 k) words
searchable words k up i j d far inside below =
    let low = in_order (get_or words i d) (get_or words j d) (up i j d far inside) in
    grind (arith, ints)

between : (a b k : ℤ) → int_lt a k ≡ false → a ≤ℤ b → b ≡ k → a ≡ k
between a b k above before is = grind (arith, ints)

not_below : (a k : ℤ) → int_lt a k ≡ true → a ≡ k → ⊥
not_below a k below is = grind (arith, ints)

-- Where the first word whose number isn't below k has another number, no word has it.
pub absent : (words : List ℕ) (k : ℤ) (at : ℕ) → IsNonDecreasing words
    → IsPartitionPoint (λ w. int_lt (pair_of w).0 k ≡ true) (λ w. int_lt (pair_of w).0 k ≡ false) words at
    → (at < length words → (pair_of (get_or words at 0)).0 ≡ k → ⊥) → (place : ℕ) → Contains (map pair_of words) (k, place) → ⊥
absent words k at up point other place h = by (nat_lt j at) refl where
  j : ℕ
  j = h.0

  inside : j < length words
  inside = omega (arith, h.1, length-map words pair_of)

  number : (pair_of (get_or words j 0)).0 ≡ k
  number = ap (λ (p : ℤ × ℕ). p.0) (sym (pair_there words j (k, place) inside) ∙ h.2)

  by : (b : Bool) → nat_lt j at ≡ b → ⊥
  by true e = not_below (pair_of (get_or words j 0)).0 k (point.0 j 0 (omega arith) (ltb-true j at e)) number
  by false e =
      let far : at ≤ j = ltb-false j at e in
      let above : int_lt (pair_of (get_or words at 0)).0 k ≡ false = point.1 at 0 (omega arith) (omega (arith, far, inside)) in
      let before : (pair_of (get_or words at 0)).0 ≤ℤ (pair_of (get_or words j 0)).0 = in_order (get_or words at 0) (get_or words j 0) (up at j 0 far inside) in
      other (omega (arith, far, inside)) (between (pair_of (get_or words at 0)).0 (pair_of (get_or words j 0)).0 k above before number)

-- where no two neighbours have one number, no two pairs have
pub apart : (words : List ℕ) → IsNonDecreasing words → (at : ℕ) → length words ≤ at
    → ((i : ℕ) → i + 1 < at → number_at (map pair_of words) i ≡ number_at (map pair_of words) (i + 1) → ⊥) → (k : ℤ) → StandsTwice (map pair_of words) k → ⊥
apart words up at all other k h = other i (omega (arith, next, all)) (first ∙ ap (λ (n : ℕ). pos n -ℤ pos (2 ^ 31)) same ∙ sym second) where
  i : ℕ
  i = h.0

  j : ℕ
  j = h.1

  inside : j < length words
  inside = omega (arith, h.3, length-map words pair_of)

  next : i + 1 < length words
  next = omega (arith, h.2, inside)

  first : number_at (map pair_of words) i ≡ (pair_of (get_or words i 0)).0
  first = number_there words i (omega (arith, next))

  second : number_at (map pair_of words) (i + 1) ≡ (pair_of (get_or words (i + 1) 0)).0
  second = number_there words (i + 1) next

  half : get_or words i 0 / 2 ^ 32 ≡ get_or words j 0 / 2 ^ 32
  half = upper (get_or words i 0) (get_or words j 0) (sym first ∙ (h.4 ∙ sym h.5) ∙ number_there words j inside)

  low : get_or words i 0 ≤ get_or words (i + 1) 0
  low = up i (i + 1) 0 (omega arith) next

  high : get_or words (i + 1) 0 ≤ get_or words j 0
  high = up (i + 1) j 0 (omega (arith, h.2)) inside

  same : get_or words i 0 / 2 ^ 32 ≡ get_or words (i + 1) 0 / 2 ^ 32
  same = omega (arith, half, low, high)

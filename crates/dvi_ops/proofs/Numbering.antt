-- What an index finds of the pairs that it was made of.
use Rattle.std.proofs.Common.{◌≡◌, ◌<◌, ◌≤◌, ◌+◌, ℕ, zero, suc, ℤ, inl, inr, List, [], ◌∷◌, ◌++◌, length, Bool, true, false, if◌then◌else◌, slice_index_or, refl, sym, ap, subst, ◌∙◌, arith}
use Rattle.std.specs.List.{Contains, sum_by}
use Rattle.std.specs.List.Sorted.{IsPermutation}
use Rattle.std.specs.Ordering.{int_eq}
use Rattle.std.proofs.lemmas.Bool.Decides.{Decides-int_eq}
use Rattle.std.proofs.lemmas.List.Sums.{sum_by-cons}
use Rattle.std.proofs.lemmas.List.Sorted.{Contains-permutation, IsPermutation-sym, sum_by-IsPermutation}
use Rattle.dvi_ops.specs.NumberIndex.{number_at, StandsTwice}
use Rattle.dvi_ops.specs.Numbered.{Has, HasTwice, numbered, numbers_in}

-- ---- how many have a number

abbrev one_of : ℤ → ℤ × ℕ → ℕ
one_of k a = if int_eq a.0 k then 1 else 0

abbrev times : ℤ → List (ℤ × ℕ) → ℕ
times k pairs = sum_by (one_of k) pairs

met : (k : ℤ) (a : ℤ × ℕ) (pairs : List (ℤ × ℕ)) → a.0 ≡ k → times k (a ∷ pairs) ≡ 1 + times k pairs
met k a pairs e = sum_by-cons (one_of k) a pairs ∙ ap (λ (b : Bool). (if b then 1 else 0) + times k pairs) ((Decides-int_eq a.0 k).1 e)

missed : (k : ℤ) (a : ℤ × ℕ) (pairs : List (ℤ × ℕ)) → int_eq a.0 k ≡ false → times k (a ∷ pairs) ≡ times k pairs
missed k a pairs e = let n = sum_by-cons (one_of k) a pairs ∙ ap (λ (b : Bool). (if b then 1 else 0) + times k pairs) e in omega (arith, n)

fewer : (k : ℤ) (a : ℤ × ℕ) (pairs : List (ℤ × ℕ)) → times k pairs ≤ times k (a ∷ pairs)
fewer k a pairs = let e = sum_by-cons (one_of k) a pairs in omega (arith, e)

-- among pairs in any order
once_there : (pairs : List (ℤ × ℕ)) (k : ℤ) → 1 ≤ times k pairs → (j : ℕ) × (j < length pairs) × (number_at pairs j ≡ k)
once_there [] k h = absurd (omega (arith, h))
once_there (a ∷ pairs) k h = by (int_eq a.0 k) refl (λ g. once_there pairs k g) where
  by : (b : Bool) → int_eq a.0 k ≡ b → (1 ≤ times k pairs → (j : ℕ) × (j < length pairs) × (number_at pairs j ≡ k)) → (j : ℕ) × (j < length (a ∷ pairs)) × (number_at (a ∷ pairs) j ≡ k)
  by true e more = (0, omega arith, (Decides-int_eq a.0 k).0 e)
  by false e more = let r = more (subst (λ (n : ℕ). 1 ≤ n) (missed k a pairs e) h) in (suc r.0, omega (arith, r.1), r.2)

twice_there : (pairs : List (ℤ × ℕ)) (k : ℤ) → 2 ≤ times k pairs → StandsTwice pairs k
twice_there [] k h = absurd (omega (arith, h))
twice_there (a ∷ pairs) k h = by (int_eq a.0 k) refl (λ g. twice_there pairs k g) where
  by : (b : Bool) → int_eq a.0 k ≡ b → (2 ≤ times k pairs → StandsTwice pairs k) → StandsTwice (a ∷ pairs) k
  by true e more =
      let same = (Decides-int_eq a.0 k).0 e in
      let r = once_there pairs k (omega (arith, h, met k a pairs same)) in
      (0, suc r.0, omega arith, omega (arith, r.1), same, r.2)
  by false e more =
      let r = more (subst (λ (n : ℕ). 2 ≤ n) (missed k a pairs e) h) in
      (suc r.0, suc r.1, omega (arith, r.2), omega (arith, r.3), r.4, r.5)

there_once : (pairs : List (ℤ × ℕ)) (k : ℤ) (j : ℕ) → j < length pairs → number_at pairs j ≡ k → 1 ≤ times k pairs
there_once [] k j l e = absurd (omega (arith, l))
there_once (a ∷ pairs) k zero l e = omega (arith, met k a pairs e)
there_once (a ∷ pairs) k (suc j) l e = omega (arith, there_once pairs k j (omega (arith, l)) e, fewer k a pairs)

there_twice : (pairs : List (ℤ × ℕ)) (k : ℤ) (i j : ℕ) → i < j → j < length pairs → number_at pairs i ≡ k → number_at pairs j ≡ k → 2 ≤ times k pairs
there_twice [] k i j n l e f = absurd (omega (arith, l))
there_twice (a ∷ pairs) k i zero n l e f = absurd (omega (arith, n))
there_twice (a ∷ pairs) k zero (suc j) n l e f = omega (arith, met k a pairs e, there_once pairs k j (omega (arith, l)) f)
there_twice (a ∷ pairs) k (suc i) (suc j) n l e f = omega (arith, there_twice pairs k i j (omega (arith, n)) (omega (arith, l)) e f, fewer k a pairs)

-- among pairs in their order
had_once : (pairs : List (ℤ × ℕ)) (k : ℤ) → 1 ≤ times k pairs → Has (numbers_in pairs) k
had_once [] k h = absurd (omega (arith, h))
had_once (a ∷ pairs) k h = by (int_eq a.0 k) refl (λ g. had_once pairs k g) where
  by : (b : Bool) → int_eq a.0 k ≡ b → (1 ≤ times k pairs → Has (numbers_in pairs) k) → Has (numbers_in (a ∷ pairs)) k
  by true e more = inl ((Decides-int_eq a.0 k).0 e)
  by false e more = inr (more (subst (λ (m : ℕ). 1 ≤ m) (missed k a pairs e) h))

had_twice : (pairs : List (ℤ × ℕ)) (k : ℤ) → 2 ≤ times k pairs → HasTwice (numbers_in pairs) k
had_twice [] k h = absurd (omega (arith, h))
had_twice (a ∷ pairs) k h = by (int_eq a.0 k) refl (λ g. had_twice pairs k g) where
  by : (b : Bool) → int_eq a.0 k ≡ b → (2 ≤ times k pairs → HasTwice (numbers_in pairs) k) → HasTwice (numbers_in (a ∷ pairs)) k
  by true e more = let same = (Decides-int_eq a.0 k).0 e in inl (same, had_once pairs k (omega (arith, h, met k a pairs same)))
  by false e more = inr (more (subst (λ (m : ℕ). 2 ≤ m) (missed k a pairs e) h))

once_had : (pairs : List (ℤ × ℕ)) (k : ℤ) → Has (numbers_in pairs) k → 1 ≤ times k pairs
once_had [] k h = absurd h
once_had (a ∷ pairs) k h =
    elim h [
      | inl e ↦ omega (arith, met k a pairs e)
      | inr g ↦ omega (arith, once_had pairs k g, fewer k a pairs)
    ]

twice_had : (pairs : List (ℤ × ℕ)) (k : ℤ) → HasTwice (numbers_in pairs) k → 2 ≤ times k pairs
twice_had [] k h = absurd h
twice_had (a ∷ pairs) k h =
    elim h [
      | inl e ↦ omega (arith, met k a pairs e.0, once_had pairs k e.1)
      | inr g ↦ omega (arith, twice_had pairs k g, fewer k a pairs)
    ]

-- ---- what an index of any pairs finds

-- a number that stands twice in the index is had twice, and where none does, none is
pub twice_in : (pairs index : List (ℤ × ℕ)) (k : ℤ) → IsPermutation pairs index → StandsTwice index k → HasTwice (numbers_in pairs) k
twice_in pairs index k same h =
    had_twice pairs k (subst (λ (n : ℕ). 2 ≤ n) (sum_by-IsPermutation (one_of k) pairs index same) (there_twice index k h.0 h.1 h.2 h.3 h.4 h.5))

pub once_in : (pairs index : List (ℤ × ℕ)) → IsPermutation pairs index → ((k : ℤ) → StandsTwice index k → ⊥) → (k : ℤ) → HasTwice (numbers_in pairs) k → ⊥
once_in pairs index same none k h =
    none k (twice_there index k (subst (λ (n : ℕ). 2 ≤ n) (sym (sum_by-IsPermutation (one_of k) pairs index same)) (twice_had pairs k h)))

listed : (pairs : List (ℤ × ℕ)) (k : ℤ) → Has (numbers_in pairs) k → (place : ℕ) × Contains pairs (k, place)
listed [] k h = absurd h
listed (a ∷ pairs) k h =
    elim h [
      | inl e ↦ (a.1, (0, omega arith, ap (λ (m : ℤ). (m, a.1)) e))
      | inr g ↦ (let r = listed pairs k g in (r.0, (suc r.1.0, omega (arith, r.1.1), r.1.2)))
    ]

-- a number that isn't in the index is none of them
pub none_in : (pairs index : List (ℤ × ℕ)) (k : ℤ) → IsPermutation pairs index → ((place : ℕ) → Contains index (k, place) → ⊥) → Has (numbers_in pairs) k → ⊥
none_in pairs index k same none h = let r = listed pairs k h in none r.0 (Contains-permutation pairs index (k, r.0) same r.1)

-- a pair in the index is one of them
pub contained_in : (pairs index : List (ℤ × ℕ)) (k : ℤ) (place : ℕ) → IsPermutation pairs index → Contains index (k, place) → Contains pairs (k, place)
contained_in pairs index k place same h = Contains-permutation index pairs (k, place) (IsPermutation-sym pairs index same) h

-- ---- what an index of numbers with the places 0, 1, 2 and so on finds

numbers_in-numbered : (ns : List ℤ) (at : ℕ) → numbers_in (numbered at ns) ≡ ns
numbers_in-numbered [] at = refl
numbers_in-numbered (n ∷ ns) at = ap (λ (l : List ℤ). n ∷ l) (numbers_in-numbered ns (suc at))

pub twice_of : (ns : List ℤ) (index : List (ℤ × ℕ)) (k : ℤ) → IsPermutation (numbered 0 ns) index → StandsTwice index k → HasTwice ns k
twice_of ns index k same h = subst (λ (l : List ℤ). HasTwice l k) (numbers_in-numbered ns 0) (twice_in (numbered 0 ns) index k same h)

pub once_of : (ns : List ℤ) (index : List (ℤ × ℕ)) → IsPermutation (numbered 0 ns) index → ((k : ℤ) → StandsTwice index k → ⊥) → (k : ℤ) → HasTwice ns k → ⊥
once_of ns index same none k h = once_in (numbered 0 ns) index same none k (subst (λ (l : List ℤ). HasTwice l k) (sym (numbers_in-numbered ns 0)) h)

pub none_of : (ns : List ℤ) (index : List (ℤ × ℕ)) (k : ℤ) → IsPermutation (numbered 0 ns) index → ((place : ℕ) → Contains index (k, place) → ⊥) → Has ns k → ⊥
none_of ns index k same none h = none_in (numbered 0 ns) index k same none (subst (λ (l : List ℤ). Has l k) (sym (numbers_in-numbered ns 0)) h)

-- the number that a pair names
stands : (ns : List ℤ) (at : ℕ) (k : ℤ) (place : ℕ) (i : ℕ) → i < length (numbered at ns) → slice_index_or (numbered at ns) i (k, place) ≡ (k, place)
    → (place ≡ at + i) × (i < length ns) × ((d : ℤ) → slice_index_or ns i d ≡ k)
stands [] at k place i l e = absurd (omega (arith, l))
stands (n ∷ ns) at k place zero l e = (let p = ap (λ (a : ℤ × ℕ). a.1) e in omega (arith, p), omega arith, λ d. ap (λ (a : ℤ × ℕ). a.0) e)
stands (n ∷ ns) at k place (suc i) l e = let r = stands ns (suc at) k place i (omega (arith, l)) e in (omega (arith, r.0), omega (arith, r.1), r.2)

pub place_of : (ns : List ℤ) (index : List (ℤ × ℕ)) (k : ℤ) (place : ℕ) → IsPermutation (numbered 0 ns) index → Contains index (k, place)
    → (place < length ns) × ((d : ℤ) → slice_index_or ns place d ≡ k)
place_of ns index k place same h =
    let c = contained_in (numbered 0 ns) index k place same h in
    let s = stands ns 0 k place c.0 c.1 c.2 in
    let here : place ≡ c.0 = omega (arith, s.0) in
    (omega (arith, s.1, here), λ d. ap (λ (i : ℕ). slice_index_or ns i d) here ∙ s.2 d)

-- ---- one number more

numbered_behind : (ns : List ℤ) (at : ℕ) (n : ℤ) → numbered at (ns ++ n ∷ []) ≡ numbered at ns ++ (n, at + length ns) ∷ []
numbered_behind [] at n = ap (λ (m : ℕ). (n, m) ∷ []) (omega arith)
numbered_behind (x ∷ ns) at n =
    ap (λ (l : List (ℤ × ℕ)). (x, at) ∷ l)
    (numbered_behind ns (suc at) n ∙ ap (λ (m : ℕ). numbered (suc at) ns ++ (n, m) ∷ []) (omega arith))

pub numbered_more : (ns : List ℤ) (n : ℤ) (place : ℕ) → length ns ≡ place → numbered 0 ns ++ (n, place) ∷ [] ≡ numbered 0 (ns ++ n ∷ [])
numbered_more ns n place long = sym (numbered_behind ns 0 n ∙ ap (λ (m : ℕ). numbered 0 ns ++ (n, m) ∷ []) (omega (arith, long)))

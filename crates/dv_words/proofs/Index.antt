-- What an index of pages finds.
use Rattle.std.proofs.Common.{◌≡◌, ◌<◌, ◌≤◌, ◌+◌, ℕ, zero, suc, ℤ, pos, List, [], ◌∷◌, length, get_or, Some, None, Bool, true, false, nat_le, nat_lt, ◌&&◌, if◌then◌else◌, arith, refl, sym, ap, ◌∙◌, subst, inl, inr, leb-true, ltb-true, ltb-false, le-leb, zero-add, ◌++◌, length-append}
use Rattle.std.specs.List.{AllWithin}
use Rattle.std.specs.Ordering.{int_cmp, nat_cmp, int_eq, ordering_then, ordering_reverse, is_lt}
use Rattle.std.specs.declared.cmp.Ordering.{Ordering}
use Rattle.std.specs.declared.cmp.Ordering.TheVariants.{Less, Equal, Greater}
use Rattle.std.specs.Cmp.{IsTotalOrder, IsStrictWeakOrder, ranked, int_ranked}
use Rattle.std.proofs.lemmas.Cmp.{int_cmp_total, nat_cmp_total, then_total, on_total, tied_itself}
use Rattle.std.proofs.lemmas.Bool.Decides.{Decides-int_eq}
use Rattle.std.proofs.lemmas.List.{get_or_append_left, get_or_default, get_or_push}
use Rattle.std.proofs.lemmas.List.Sorted.{ranks_by, sorted_far, All-permutation, Contains-permutation}
use Rattle.std.specs.List.Sorted.{IsPermutation, IsSortedBy}
use Rattle.dv_words.specs.Finding.{first_from}
use Rattle.dv_words.specs.PageIndex.{pair_cmp, number_at, IsIndex, IsNear}

false_true : false ≡ true → ⊥
false_true h = cc

-- the head of the list is passed over, or it is found
passed : (place start : ℕ) (w n : ℤ) (ns : List ℤ) → (start ≤ place → n ≡ w → ⊥) → first_from place start w (n ∷ ns) ≡ first_from (suc place) start w ns
passed place start w n ns h = by (nat_le start place) (int_eq n w) refl refl where
  by : (a b : Bool) → nat_le start place ≡ a → int_eq n w ≡ b
      → (if nat_le start place && int_eq n w then Some place else first_from (suc place) start w ns) ≡ first_from (suc place) start w ns
  by true true p q = absurd (h (leb-true start place p) ((Decides-int_eq n w).0 q))
  by true false p q = rw (p, q) refl
  by false b p q = rw p refl

taken : (place start : ℕ) (w n : ℤ) (ns : List ℤ) → start ≤ place → n ≡ w → first_from place start w (n ∷ ns) ≡ Some place
taken place start w n ns h same = rw (le-leb start place h, (Decides-int_eq n w).1 same) refl

pub first_found : (ns : List ℤ) (place start : ℕ) (w : ℤ) (k : ℕ) → k < length ns → start ≤ place + k → get_or ns k (pos 0) ≡ w
    → ((q : ℕ) → q < k → start ≤ place + q → get_or ns q (pos 0) ≡ w → ⊥) → first_from place start w ns ≡ Some (place + k)
first_found [] place start w k inside from is before = absurd (omega arith)
first_found (n ∷ ns) place start w zero inside from is before = taken place start w n ns (omega arith) is ∙ ap (λ (m : ℕ). Some m) (omega arith)
first_found (n ∷ ns) place start w (suc k) inside from is before =
    passed place start w n ns (λ h e. before zero (omega arith) (omega arith) e)
    ∙ first_found ns (suc place) start w k (omega arith) (omega arith) is (λ q l h e. before (suc q) (omega arith) (omega arith) e)
    ∙ ap (λ (m : ℕ). Some m) (omega arith)

pub first_none : (ns : List ℤ) (place start : ℕ) (w : ℤ) → ((q : ℕ) → q < length ns → start ≤ place + q → get_or ns q (pos 0) ≡ w → ⊥)
    → first_from place start w ns ≡ None
first_none [] place start w none = refl
first_none (n ∷ ns) place start w none =
    passed place start w n ns (λ h e. none zero (omega arith) (omega arith) e)
    ∙ first_none ns (suc place) start w (λ q l h e. none (suc q) (omega arith) (omega arith) e)

-- what the order of pairs says
pub total : IsTotalOrder pair_cmp
total = then_total (on_total (λ (t : ℤ × ℕ). t.0) int_cmp_total) (on_total (λ (t : ℤ × ℕ). t.1) nat_cmp_total)

weak : IsStrictWeakOrder (λ (a b : ℤ × ℕ). is_lt (pair_cmp a b))
weak = ranks_by total (λ (t : ℤ × ℕ). t)

tied : (w : ℤ) → int_cmp w w ≡ Equal
tied w = tied_itself int_cmp_total w

-- pairs of one number compare by their places
same_number : (w : ℤ) (p q : ℕ) → pair_cmp (w, p) (w, q) ≡ nat_cmp p q
same_number w p q = rw (tied w) refl

less_place : (w : ℤ) (p q : ℕ) → pair_cmp (w, p) (w, q) ≡ Less → p < q
less_place w p q h = ranked p q Less (sym h ∙ same_number w p q)

greater_place : (w : ℤ) (p q : ℕ) → pair_cmp (w, p) (w, q) ≡ Greater → q < p
greater_place w p q h = ranked p q Greater (sym h ∙ same_number w p q)

not_less_place : (w : ℤ) (p q : ℕ) → is_lt (pair_cmp (w, p) (w, q)) ≡ false → q ≤ p
not_less_place w p q h = by (nat_cmp p q) refl where
  by : (r : Ordering) → nat_cmp p q ≡ r → q ≤ p
  by Less e = absurd (false_true (sym h ∙ ap is_lt (same_number w p q ∙ e)))
  by Equal e = let same : p ≡ q = ranked p q Equal (sym e) in omega arith
  by Greater e = let more : q < p = ranked p q Greater (sym e) in omega arith

equal_pair : (a : ℤ × ℕ) (w : ℤ) (p : ℕ) → pair_cmp a (w, p) ≡ Equal → (a.0 ≡ w) × (a.1 ≡ p)
equal_pair a w p h = by (int_cmp a.0 w) refl h where
  by : (r : Ordering) → int_cmp a.0 w ≡ r → ordering_then r (nat_cmp a.1 p) ≡ Equal → (a.0 ≡ w) × (a.1 ≡ p)
  by Less e k = absurd (cc)
  by Equal e k = (int_ranked a.0 w Equal (sym e), ranked a.1 p Equal (sym k))
  by Greater e k = absurd (cc)

-- a greater pair of another number has a greater number, and then it is greater than each pair of the first
other_number : (a : ℤ × ℕ) (w : ℤ) (p q : ℕ) → pair_cmp a (w, p) ≡ Greater → (a.0 ≡ w → ⊥) → is_lt (pair_cmp (w, q) a) ≡ true
other_number a w p q h other = by (int_cmp a.0 w) refl h where
  by : (r : Ordering) → int_cmp a.0 w ≡ r → ordering_then r (nat_cmp a.1 p) ≡ Greater → is_lt (pair_cmp (w, q) a) ≡ true
  by Less e k = absurd (cc)
  by Equal e k = absurd (other (int_ranked a.0 w Equal (sym e)))
  by Greater e k = rw (int_cmp_total.antisymm w a.0 ∙ ap ordering_reverse e) refl

module _ (numbers : List ℤ) (pairs : List (ℤ × ℕ)) (index : IsIndex numbers pairs) (w : ℤ) (start : ℕ) where
  -- a page with the number from the start on has a pair, and it isn't among those that are less
  pair_of : (at q : ℕ) → AllWithin (λ y. pair_cmp y (w, start) ≡ Less) pairs 0 at → q < length numbers → start ≤ q → number_at numbers q ≡ w
      → (k : ℕ) × (at ≤ k) × (k < length pairs) × ((d : ℤ × ℕ) → get_or pairs k d ≡ (w, q))
  pair_of at q less inside from is =
      let found = index.all q inside in
      let same : (d : ℤ × ℕ) → get_or pairs found.0 d ≡ (w, q) =
      λ d. get_or_default pairs found.0 d (number_at numbers q, q) found.1 ∙ found.2 ∙ ap (λ (n : ℤ). (n, q)) is in
      (found.0, not_before found.0 same, found.1, same)
    where
      not_before : (k : ℕ) → ((d : ℤ × ℕ) → get_or pairs k d ≡ (w, q)) → at ≤ k
      not_before k same = by (nat_lt k at) refl where
        by : (b : Bool) → nat_lt k at ≡ b → at ≤ k
        by false e = ltb-false k at e
        by true e =
            let l : pair_cmp (get_or pairs k (w, q)) (w, start) ≡ Less = less k (w, q) (omega arith) (ltb-true k at e) in
            let short : q < start = less_place w q start (ap (λ (a : ℤ × ℕ). pair_cmp a (w, start)) (sym (same (w, q))) ∙ l) in
            absurd (omega arith)

  pub nowhere_behind : (at : ℕ) → IsNear pairs (w, start) at → length pairs ≤ at → first_from 0 start w numbers ≡ None
  nowhere_behind at (inl equal) out = absurd (omega (arith, equal.0))
  nowhere_behind at (inr between) out = first_none numbers 0 start w (λ q inside from is. none q inside (omega arith) is) where
    none : (q : ℕ) → q < length numbers → start ≤ q → number_at numbers q ≡ w → ⊥
    none q inside from is = let found = pair_of at q between.0 inside from is in omega (arith, found.1, found.2)

  pub here : (at : ℕ) (e : ℤ × ℕ) → IsNear pairs (w, start) at → at < length pairs → e ≡ get_or pairs at e → e.0 ≡ w → first_from 0 start w numbers ≡ Some e.1
  here at e near inside is number = by near where
    place : (e.1 < length numbers) × (number_at numbers e.1 ≡ w)
    place = let P : ℤ × ℕ → Type 0 = λ a. (a.1 < length numbers) × (number_at numbers a.1 ≡ a.0) in
        let known = subst P (sym is) (index.each at e inside) in (known.0, known.1 ∙ number)

    pair : e ≡ (w, e.1)
    pair = ap (λ (n : ℤ). (n, e.1)) number

    by : IsNear pairs (w, start) at → first_from 0 start w numbers ≡ Some e.1
    by (inl equal) =
        let same = equal_pair e w start (ap (λ (a : ℤ × ℕ). pair_cmp a (w, start)) is ∙ equal.1 e) in
        first_found numbers 0 start w e.1 place.0 (omega (arith, same.1)) place.1 (λ q l from k. omega (arith, same.1)) ∙ ap (λ (m : ℕ). Some m) (zero-add e.1)
    by (inr between) =
        let more : pair_cmp e (w, start) ≡ Greater = ap (λ (a : ℤ × ℕ). pair_cmp a (w, start)) is ∙ between.1 at e (omega arith) inside in
        let above : start < e.1 = greater_place w e.1 start (ap (λ (a : ℤ × ℕ). pair_cmp a (w, start)) (sym pair) ∙ more) in
        first_found numbers 0 start w e.1 place.0 (omega arith) place.1 (λ q l from k. before q l (omega arith) k) ∙ ap (λ (m : ℕ). Some m) (zero-add e.1)
      where
        before : (q : ℕ) → q < e.1 → start ≤ q → number_at numbers q ≡ w → ⊥
        before q l from k =
            let found = pair_of at q between.0 (omega (arith, place.0)) from k in
            let far = sorted_far (λ (a b : ℤ × ℕ). is_lt (pair_cmp a b)) weak pairs index.sorted at found.0 e found.1 found.2 in
            let low : e.1 ≤ q = not_less_place w q e.1 (rw (found.3 e, sym is ∙ pair) at far) in
            omega arith

  pub elsewhere : (at : ℕ) (e : ℤ × ℕ) → IsNear pairs (w, start) at → at < length pairs → e ≡ get_or pairs at e → (e.0 ≡ w → ⊥) → first_from 0 start w numbers ≡ None
  elsewhere at e near inside is other = by near where
    by : IsNear pairs (w, start) at → first_from 0 start w numbers ≡ None
    by (inl equal) = absurd (other (equal_pair e w start (ap (λ (a : ℤ × ℕ). pair_cmp a (w, start)) is ∙ equal.1 e)).0)
    by (inr between) = first_none numbers 0 start w (λ q l from k. none q l (omega arith) k) where
      more : pair_cmp e (w, start) ≡ Greater
      more = ap (λ (a : ℤ × ℕ). pair_cmp a (w, start)) is ∙ between.1 at e (omega arith) inside

      none : (q : ℕ) → q < length numbers → start ≤ q → number_at numbers q ≡ w → ⊥
      none q l from k =
          let found = pair_of at q between.0 l from k in
          let far = sorted_far (λ (a b : ℤ × ℕ). is_lt (pair_cmp a b)) weak pairs index.sorted at found.0 e found.1 found.2 in
          let low : is_lt (pair_cmp (w, q) e) ≡ false = rw (found.3 e, sym is) at far in
          false_true (sym low ∙ other_number e w start q more other)

-- pairs that were put down in file order
pub record IsPaired (numbers : List ℤ) (pairs : List (ℤ × ℕ)) (n : ℕ) : Type 0 where
  pub long : length pairs ≡ n
  pub each : (k : ℕ) (d : ℤ × ℕ) → k < n → get_or pairs k d ≡ (number_at numbers k, k)

pub paired_none : (numbers : List ℤ) → IsPaired numbers [] 0
paired_none numbers = record { long = refl; each = λ k d l. absurd (omega arith) }

pub paired_more : (numbers : List ℤ) (pairs : List (ℤ × ℕ)) (n : ℕ) (number : ℤ) → IsPaired numbers pairs n → number ≡ number_at numbers n
    → IsPaired numbers (pairs ++ (number, n) ∷ []) (n + 1)
paired_more numbers pairs n number paired is =
    record { long = length-append pairs ((number, n) ∷ []) ∙ omega (arith, paired.long); each = λ k d l. one k d l (nat_lt k n) refl }
  where
    one : (k : ℕ) (d : ℤ × ℕ) → k < n + 1 → (b : Bool) → nat_lt k n ≡ b → get_or (pairs ++ (number, n) ∷ []) k d ≡ (number_at numbers k, k)
    one k d l true e = let below : k < n = ltb-true k n e in get_or_append_left pairs ((number, n) ∷ []) d k (omega (arith, paired.long)) ∙ paired.each k d below
    one k d l false e =
        let same : k ≡ length pairs = omega (arith, ltb-false k n e, paired.long) in
        ap (λ (m : ℕ). get_or (pairs ++ (number, n) ∷ []) m d) same ∙ get_or_push pairs (number, n) d (length pairs) refl ∙ ap (λ (m : ℤ). (m, n)) is
        ∙ ap (λ (m : ℕ). (number_at numbers m, m)) (sym paired.long ∙ sym same)

pub sorted_pairs : (numbers : List ℤ) (pairs sorted : List (ℤ × ℕ)) → IsPaired numbers pairs (length numbers) → IsPermutation pairs sorted
    → IsSortedBy (λ a b. is_lt (pair_cmp a b)) sorted → IsIndex numbers sorted
sorted_pairs numbers pairs sorted paired same up =
    record {
      sorted = up;
      each = All-permutation (λ a. (a.1 < length numbers) × (number_at numbers a.1 ≡ a.0)) pairs sorted same (λ k d l. one k d (omega (arith, paired.long)));
      all = λ q l. Contains-permutation pairs sorted (number_at numbers q, q) same (q, omega (arith, paired.long), paired.each q (number_at numbers q, q) l);
    }
  where
    one : (k : ℕ) (d : ℤ × ℕ) → k < length numbers → ((get_or pairs k d).1 < length numbers) × (number_at numbers (get_or pairs k d).1 ≡ (get_or pairs k d).0)
    one k d l = let P : ℤ × ℕ → Type 0 = λ a. (a.1 < length numbers) × (number_at numbers a.1 ≡ a.0) in subst P (sym (paired.each k d l)) (l, refl)

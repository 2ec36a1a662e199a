-- Sections that grow page by page are the longest.
use Rattle.std.proofs.Common.{◌≡◌, ◌<◌, ◌≤◌, ◌+◌, ◌-◌, ℕ, zero, suc, Bool, true, false, List, [], ◌∷◌, ◌++◌, length, take, drop, append_assoc, arith, refl, sym, ap, ◌∙◌, subst, ◌⊎◌, inl, inr, ⊎_elim, Option, Some, None}
use Rattle.std.specs.Prelude.{◌&&◌, IsTrue, nat_le, if◌then◌else◌}
use Rattle.std.proofs.lemmas.Bool.{cases_lt, cases_eq, le-leb, lt-leb, leb-true, leb-false}
use Rattle.std.proofs.lemmas.List.{append-nil, length-append}
use Rattle.std.proofs.Math.Seq.{take-append_seam, take-append-add, take-length}
use Rattle.sections.specs.Sections.{is_few, fits, greatest, longest, parted, parts}

-- more pages than there is room for are too many too
pub more_than_few : (most : Option ℕ) (n m : ℕ) → n ≤ m → is_few most n ≡ false → is_few most m ≡ false
more_than_few None n m l e = e
more_than_few (Some most) n m l e = let past = leb-false n most e in lt-leb m most (omega arith)

and_left : (a b : Bool) → a ≡ false → (a && b) ≡ false
and_left a b e = ap (λ x. x && b) e

and_right : (a b : Bool) → b ≡ false → (a && b) ≡ false
and_right true b e = e
and_right false b e = refl

pub and_both : (a b : Bool) → a ≡ true → b ≡ true → (a && b) ≡ true
and_both a b e f = ap (λ x. x && b) e ∙ f

pub from_and : (a b : Bool) → (a && b) ≡ true → (a ≡ true) × (b ≡ true)
from_and true b e = (refl, e)
from_and false b e = absurd cc

module _ {P : Type 0} (weight : List P → ℕ) (budget : ℕ) (most : Option ℕ) where
  -- the greatest is one that fits where none above it does
  pub greatest_is : (pages : List P) (k n : ℕ) → 0 < k → k ≤ n → fits weight budget most pages k ≡ true → ((m : ℕ) → k < m → m ≤ n → fits weight budget most pages m ≡ false)
      → greatest weight budget most pages n ≡ k
  greatest_is pages k zero some l here above = absurd (omega arith)
  greatest_is pages k (suc n) some l here above =
      ⊎_elim
      (λ (is : k ≡ suc n). ap (λ x. if x then suc n else greatest weight budget most pages n) (subst (λ m. fits weight budget most pages m ≡ true) is here) ∙ sym is)
      (λ (other : k ≡ suc n → ⊥).
      ap (λ x. if x then suc n else greatest weight budget most pages n) (above (suc n) (omega arith) (omega arith))
      ∙ greatest_is pages k n some (omega arith) here (λ m p q. above m p (omega arith)))
      (cases_eq k (suc n))

  -- a section's pages passed over
  pub passed : (xs ys : List P) → parted weight budget most (xs ++ ys) (length xs) ≡ parted weight budget most ys 0
  passed [] ys = refl
  passed (x ∷ xs) ys = passed xs ys

  -- the first section, and those of the rest
  pub first_section : (p : P) (xs ys : List P) → longest weight budget most ((p ∷ xs) ++ ys) ≡ length (p ∷ xs)
      → parts weight budget most ((p ∷ xs) ++ ys) ≡ length (p ∷ xs) ∷ parts weight budget most ys
  unfolding parts
  first_section p xs ys e =
      let less : longest weight budget most ((p ∷ xs) ++ ys) - 1 ≡ length xs = ap (λ n. n - 1) e ∙ (let one : length (p ∷ xs) - 1 ≡ length xs = omega arith in one) in
      ap (λ n. n ∷ parted weight budget most (xs ++ ys) (longest weight budget most ((p ∷ xs) ++ ys) - 1)) e
      ∙ ap (λ ns. length (p ∷ xs) ∷ ns) (ap (parted weight budget most (xs ++ ys)) less ∙ passed xs ys)

  fits_whole : (xs ys : List P) → IsTrue (is_few most (length xs)) → weight xs ≤ budget → fits weight budget most (xs ++ ys) (length xs) ≡ true
  fits_whole xs ys few light =
      and_both (is_few most (length xs)) (nat_le (weight (take (length xs) (xs ++ ys))) budget) few
      (le-leb (weight (take (length xs) (xs ++ ys))) budget (subst (λ zs. weight zs ≤ budget) (sym (take-append_seam xs ys)) light))

  -- no page is left
  pub last_section : (p : P) (xs : List P) → IsTrue (is_few most (length (p ∷ xs))) → weight (p ∷ xs) ≤ budget → parts weight budget most (p ∷ xs) ≡ length (p ∷ xs) ∷ []
  unfolding parts
  last_section p xs few light =
      let all = append-nil (p ∷ xs) in
      let whole = subst (λ zs. fits weight budget most zs (length (p ∷ xs)) ≡ true) all (fits_whole (p ∷ xs) [] few light) in
      let is : longest weight budget most ((p ∷ xs) ++ []) ≡ length (p ∷ xs) =
      subst (λ zs. longest weight budget most zs ≡ length (p ∷ xs)) (sym all)
      (greatest_is (p ∷ xs) (length (p ∷ xs)) (length (p ∷ xs)) (omega arith) (omega arith) whole (λ m l q. absurd (omega arith))) in
      subst (λ zs. parts weight budget most zs ≡ length (p ∷ xs) ∷ []) all (first_section p xs [] is)

  module _ (grows : (xs ys : List P) → weight xs ≤ weight (xs ++ ys)) where
    one_more : (xs rest : List P) (p : P) → (xs ++ (p ∷ [])) ++ rest ≡ xs ++ (p ∷ rest)
    one_more xs rest p = append_assoc xs (p ∷ []) rest

    beyond : (xs rest : List P) (p : P) (m : ℕ) → length xs < m → weight (xs ++ (p ∷ [])) ≤ weight (take m (xs ++ (p ∷ rest)))
    beyond xs rest p m h =
        let k : ℕ = m - length xs - 1 in
        let is : m ≡ length xs + suc k = omega arith in
        let whole : take m (xs ++ (p ∷ rest)) ≡ (xs ++ (p ∷ [])) ++ take k rest =
        ap (λ n. take n (xs ++ (p ∷ rest))) is ∙ take-append-add xs (p ∷ rest) (suc k) ∙ sym (one_more xs (take k rest) p) in
        rw whole (grows (xs ++ (p ∷ [])) (take k rest))

    -- the page doesn't fit
    abbrev Full : List P → P → Type 0
    Full xs p = (is_few most (length xs + 1) ≡ false) ⊎ (budget < weight (xs ++ p ∷ []))

    full_above : (xs rest : List P) (p : P) (m : ℕ) → Full xs p → length xs < m → fits weight budget most (xs ++ p ∷ rest) m ≡ false
    full_above xs rest p m (inl many) l =
        and_left (is_few most m) (nat_le (weight (take m (xs ++ p ∷ rest))) budget) (more_than_few most (length xs + 1) m (omega arith) many)
    full_above xs rest p m (inr heavy) l =
        let more = beyond xs rest p m l in
        and_right (is_few most m) (nat_le (weight (take m (xs ++ p ∷ rest))) budget) (lt-leb (weight (take m (xs ++ p ∷ rest))) budget (omega arith))

    -- the open section is as long as it can be
    pub closed_section : (q : P) (xs rest : List P) (p : P) → IsTrue (is_few most (length (q ∷ xs))) → weight (q ∷ xs) ≤ budget
        → (is_few most (length (q ∷ xs) + 1) ≡ false) ⊎ (budget < weight ((q ∷ xs) ++ p ∷ []))
        → parts weight budget most ((q ∷ xs) ++ (p ∷ rest)) ≡ length (q ∷ xs) ∷ parts weight budget most (p ∷ rest)
    closed_section q xs rest p few light full =
        let ys = q ∷ xs in
        first_section q xs (p ∷ rest)
        (greatest_is (ys ++ p ∷ rest) (length ys) (length (ys ++ p ∷ rest)) (omega arith) (omega (arith, length-append ys (p ∷ rest)))
        (fits_whole ys (p ∷ rest) few light) (λ m l q. full_above ys rest p m full l))

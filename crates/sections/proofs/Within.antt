-- Each section is within the budget.
use Rattle.std.proofs.Common.{◌≡◌, ◌<◌, ◌≤◌, ◌+◌, ◌-◌, ⊎_elim, ℕ, zero, suc, Bool, true, false, List, [], ◌∷◌, ◌++◌, length, take, drop, arith, refl, sym, ap, ◌∙◌, subst, Option}
use Rattle.std.specs.Prelude.{◌&&◌, IsTrue, nat_le, if◌then◌else◌}
use Rattle.std.proofs.lemmas.Bool.{le-leb, leb-true, cases_eq}
use Rattle.std.proofs.lemmas.List.{length-drop}
use Rattle.font_set.specs.Fonts.{FontSet}
use Rattle.positions.specs.Mark.{Mark}
use Rattle.sections.specs.Sections.{is_few, fits, greatest, longest, parted, parts, pages_cost, sections}
use Rattle.sections.specs.Laws.{AreWithin, EachWithin}
use Rattle.sections.proofs.Plans.{from_and, and_both}

module _ {P : Type 0} (weight : List P → ℕ) (budget : ℕ) (most : Option ℕ) where
  -- the greatest that fits does, where one does
  pub greatest_fits : (pages : List P) (k n : ℕ) → 0 < k → k ≤ n → fits weight budget most pages k ≡ true
      → (0 < greatest weight budget most pages n) × (greatest weight budget most pages n ≤ n) × (fits weight budget most pages (greatest weight budget most pages n) ≡ true)
  greatest_fits pages k zero some l here = absurd (omega arith)
  greatest_fits pages k (suc n) some l here = by (λ less. greatest_fits pages k n some less here) (fits weight budget most pages (suc n)) refl
    where
      by : (k ≤ n → (0 < greatest weight budget most pages n) × (greatest weight budget most pages n ≤ n) × (fits weight budget most pages (greatest weight budget most pages n) ≡ true))
          → (b : Bool) → fits weight budget most pages (suc n) ≡ b
          → (0 < greatest weight budget most pages (suc n)) × (greatest weight budget most pages (suc n) ≤ suc n) × (fits weight budget most pages (greatest weight budget most pages (suc n)) ≡ true)
      by below true e =
          let is : greatest weight budget most pages (suc n) ≡ suc n = ap (λ x. if x then suc n else greatest weight budget most pages n) e in
          (omega (arith, is), omega (arith, is), subst (λ m. fits weight budget most pages m ≡ true) (sym is) e)
      by below false e =
          let is : greatest weight budget most pages (suc n) ≡ greatest weight budget most pages n = ap (λ x. if x then suc n else greatest weight budget most pages n) e in
          let less : k ≤ n = ⊎_elim (λ (same : k ≡ suc n). absurd (let yes = subst (λ m. fits weight budget most pages m ≡ true) same here in cc)) (λ (ne : k ≡ suc n → ⊥). omega arith) (cases_eq k (suc n)) in
          let r = below less in
          let some_r = r.0 in
          let most_r = r.1 in
          (omega (arith, is, some_r), omega (arith, is, most_r), subst (λ m. fits weight budget most pages m ≡ true) (sym is) r.2)

  pub parted_drop : (k : ℕ) (pages : List P) → parted weight budget most pages k ≡ parts weight budget most (drop k pages)
  unfolding parts
  parted_drop zero pages = refl
  parted_drop (suc k) [] = refl
  parted_drop (suc k) (p ∷ pages) = parted_drop k pages

each_drop : (set : FontSet) (budget k : ℕ) (pages : List (List Mark)) → EachWithin set budget pages → EachWithin set budget (drop k pages)
each_drop set budget zero pages h = h
each_drop set budget (suc k) [] h = h
each_drop set budget (suc k) (p ∷ pages) h = each_drop set budget k pages h.1

drop_pred : (k : ℕ) (p : List Mark) (pages : List (List Mark)) → 0 < k → drop (k - 1) pages ≡ drop k (p ∷ pages)
drop_pred zero p pages l = absurd (omega arith)
drop_pred (suc k) p pages l = let is : suc k - 1 ≡ k = omega arith in ap (λ n. drop n pages) is

within : (set : FontSet) (budget : ℕ) (most : Option ℕ) (n : ℕ) (pages : List (List Mark)) → length pages ≤ n → IsTrue (is_few most 1) → EachWithin set budget pages
    → AreWithin set budget most pages (sections set budget most pages)
unfolding parts
within set budget most n [] l one each = refl
within set budget most zero (p ∷ pages) l one each = absurd (omega arith)
within set budget most (suc n) (p ∷ pages) l one each =
    let ps = p ∷ pages in
    let w = pages_cost set in
    let k = longest w budget most ps in
    let first : fits w budget most ps 1 ≡ true = and_both (is_few most 1) (nat_le (w (take 1 ps)) budget) one (le-leb (w (take 1 ps)) budget each.0) in
    let r = greatest_fits w budget most ps 1 (length ps) (omega arith) (omega arith) first in
    let both = from_and (is_few most k) (nat_le (w (take k ps)) budget) r.2 in
    let some = r.0 in
    let rest : parted w budget most pages (k - 1) ≡ sections set budget most (drop k ps) =
    parted_drop w budget most (k - 1) pages ∙ ap (sections set budget most) (drop_pred k p pages some) in
    let less : length (drop k ps) ≤ n = omega (arith, length-drop k ps, some) in (
      some,
      r.1,
      leb-true (w (take k ps)) budget both.1,
      both.0,
      subst (AreWithin set budget most (drop k ps)) (sym rest) (within set budget most n (drop k ps) less one (each_drop set budget k ps each)),
    )

pub all_within : (set : FontSet) (budget : ℕ) (most : Option ℕ) (pages : List (List Mark)) → IsTrue (is_few most 1) → EachWithin set budget pages
    → AreWithin set budget most pages (sections set budget most pages)
all_within set budget most pages one each = within set budget most (length pages) pages (omega arith) one each

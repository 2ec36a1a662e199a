-- The places that are kept, one page after another.
use Rattle.std.proofs.Common.{◌≡◌, ◌<◌, ◌≤◌, ◌+◌, ◌*◌, ℕ, zero, suc, ℤ, pos, List, [], ◌∷◌, ◌++◌, length, drop, get_or, true, false, ◌&&◌, if◌then◌else◌, arith, refl, sym, ap, ◌∙◌, add-one, append_assoc, length-append, nat_le, leb-true, leb-false}
use Rattle.std.specs.List.{list_any}
use Rattle.std.proofs.lemmas.List.{append-nil, drop_all}
use Rattle.dv_words.specs.Repeated.{IsRepeated}
use Rattle.dv_words.specs.Selection.{covers, keeps, kept_from, times}
use Rattle.dv_words.specs.declared.pages.Parity.{Parity}
use Rattle.dv_words.specs.declared.spans.Span.{Span}

-- what was kept of the pages before a place, and what is kept of the rest, make the whole
abbrev pub IsKept : List ℤ → List Span → Parity → ℕ → List ℕ → Type 0
IsKept numbers spans parity place places = places ++ kept_from place spans parity (drop place numbers) ≡ kept_from 0 spans parity numbers

kept_step : (numbers : List ℤ) (spans : List Span) (parity : Parity) (place i : ℕ) → i < length numbers
    → kept_from place spans parity (drop i numbers)
    ≡ (if list_any (covers place) spans && keeps parity (get_or numbers i (pos 0)) then place ∷ kept_from (suc place) spans parity (drop (i + 1) numbers)
    else kept_from (suc place) spans parity (drop (i + 1) numbers))
kept_step [] spans parity place i h = absurd (omega arith)
kept_step (n ∷ ns) spans parity place zero h = refl
kept_step (n ∷ ns) spans parity place (suc i) h = rw (add-one (suc i)) (rw (add-one i) at (kept_step ns spans parity place i (omega arith)))

module _ (numbers : List ℤ) (spans : List Span) (parity : Parity) (place : ℕ) (places : List ℕ) (inside : place < length numbers)
    (so_far : IsKept numbers spans parity place places) where
  pub kept_one : list_any (covers place) spans ≡ true → keeps parity (get_or numbers place (pos 0)) ≡ true → IsKept numbers spans parity (place + 1) (places ++ place ∷ [])
  kept_one c k =
      append_assoc places (place ∷ []) (kept_from (place + 1) spans parity (drop (place + 1) numbers))
      ∙ ap (λ (xs : List ℕ). places ++ xs) (sym (kept_step numbers spans parity place place inside ∙ rw (c, k) (ap (λ (m : ℕ). place ∷ kept_from m spans parity (drop (place + 1) numbers)) (sym (add-one place)))))
      ∙ so_far

  passed : (list_any (covers place) spans && keeps parity (get_or numbers place (pos 0))) ≡ false → IsKept numbers spans parity (place + 1) places
  passed h =
      ap (λ (xs : List ℕ). places ++ xs) (sym (kept_step numbers spans parity place place inside ∙ rw h (ap (λ (m : ℕ). kept_from m spans parity (drop (place + 1) numbers)) (sym (add-one place)))))
      ∙ so_far

  pub kept_outside : list_any (covers place) spans ≡ false → IsKept numbers spans parity (place + 1) places
  kept_outside c = passed (rw c refl)

  pub kept_other : list_any (covers place) spans ≡ true → keeps parity (get_or numbers place (pos 0)) ≡ false → IsKept numbers spans parity (place + 1) places
  kept_other c k = passed (rw (c, k) refl)

pub kept_all : (numbers : List ℤ) (spans : List Span) (parity : Parity) (place : ℕ) (places : List ℕ) → length numbers ≤ place
    → IsKept numbers spans parity place places → places ≡ kept_from 0 spans parity numbers
kept_all numbers spans parity place places all h =
    sym (append-nil places) ∙ ap (λ (xs : List ℤ). places ++ kept_from place spans parity xs) (sym (drop_all place numbers all)) ∙ h

-- a list that is repeated
pub times-length : (n : ℕ) (xs : List ℕ) → length (times n xs) ≡ n * length xs
times-length zero xs = omega arith
times-length (suc n) xs = length-append xs (times n xs) ∙ rw (times-length n xs) (omega arith)

pub times-nil : (n : ℕ) → times n [] ≡ []
times-nil zero = refl
times-nil (suc n) = times-nil n

pub times-push : (n : ℕ) (xs : List ℕ) → times n xs ++ xs ≡ times (n + 1) xs
times-push zero xs = sym (append-nil xs)
times-push (suc n) xs = append_assoc xs (times n xs) xs ∙ ap (λ (ys : List ℕ). xs ++ ys) (times-push n xs) ∙ rw (add-one n, add-one (suc n)) refl

pub repeated_none : (n : ℕ) (xs : List ℕ) → length xs ≡ 0 → IsRepeated xs n xs
repeated_none n [] h = record { is = sym (times-nil n); few = omega arith }
repeated_none n (x ∷ xs) h = absurd (omega arith)

pub repeated_many : (n : ℕ) (xs : List ℕ) → nat_le (n * length xs) 1000000 ≡ false → 1000000 < length (times n xs)
repeated_many n xs h = rw (times-length n xs) (leb-false (n * length xs) 1000000 h)

pub repeated_all : (n : ℕ) (xs all : List ℕ) → nat_le (n * length xs) 1000000 ≡ true → all ≡ times n xs → IsRepeated xs n all
repeated_all n xs all h is = record { is = is; few = rw (is, times-length n xs) (leb-true (n * length xs) 1000000 h) }

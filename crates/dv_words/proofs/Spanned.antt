-- Windows one after another.
use Rattle.std.proofs.Common.{◌≡◌, ◌<◌, ◌≤◌, ◌+◌, ℕ, zero, suc, ℤ, List, [], ◌∷◌, ◌++◌, length, drop, get_or, Result, Ok, Err, arith, refl, sym, ap, ◌∙◌, add-one, append_assoc}
use Rattle.std.proofs.lemmas.List.{append-nil, drop_all}
use Rattle.dv_words.specs.Selection.{and_then, span_of, spans_of}
use Rattle.dv_words.specs.declared.spans.Span.{Span}
use Rattle.dv_words.specs.declared.spans.Wanted.{Wanted}

abbrev pub behind_all : List Span → Result (List Span) ℤ → Result (List Span) ℤ
behind_all done (Ok spans) = Ok (done ++ spans)
behind_all done (Err number) = Err number

-- the places of the windows so far, and those of the rest, are those of all
abbrev pub IsSpanned : List ℤ → List Wanted → ℕ → List Span → Type 0
IsSpanned numbers wanted i done = spans_of numbers wanted ≡ behind_all done (spans_of numbers (drop i wanted))

pub spanned_none : (numbers : List ℤ) (wanted : List Wanted) → IsSpanned numbers wanted 0 []
spanned_none numbers wanted = by (spans_of numbers wanted) where
  by : (r : Result (List Span) ℤ) → r ≡ behind_all [] r
  by (Ok spans) = refl
  by (Err number) = refl

rest_step : (numbers : List ℤ) (wanted : List Wanted) (i : ℕ) (d : Wanted) → i < length wanted
    → spans_of numbers (drop i wanted) ≡ and_then (span_of numbers (get_or wanted i d)) (spans_of numbers (drop (i + 1) wanted))
rest_step numbers [] i d h = absurd (omega arith)
rest_step numbers (w ∷ ws) zero d h = refl
rest_step numbers (w ∷ ws) (suc i) d h = rw (add-one (suc i)) (rw (add-one i) at (rest_step numbers ws i d (omega arith)))

module _ (numbers : List ℤ) (wanted : List Wanted) (i : ℕ) (done : List Span) (so_far : IsSpanned numbers wanted i done) where
  pub spanned_one : (w : Wanted) (s : Span) → i < length wanted → span_of numbers (get_or wanted i w) ≡ Ok s → IsSpanned numbers wanted (i + 1) (done ++ s ∷ [])
  spanned_one w s inside found =
      let e : spans_of numbers (drop i wanted) ≡ and_then (Ok s) (spans_of numbers (drop (i + 1) wanted)) = rest_step numbers wanted i w inside ∙ rw found refl in
      so_far ∙ ap (behind_all done) e ∙ by (spans_of numbers (drop (i + 1) wanted))
    where
      by : (r : Result (List Span) ℤ) → behind_all done (and_then (Ok s) r) ≡ behind_all (done ++ s ∷ []) r
      by (Ok spans) = let F : List Span → Result (List Span) ℤ = λ xs. Ok xs in ap F (sym (append_assoc done (s ∷ []) spans))
      by (Err number) = refl

  pub spanned_wrong : (w : Wanted) (number : ℤ) → i < length wanted → span_of numbers (get_or wanted i w) ≡ Err number → spans_of numbers wanted ≡ Err number
  spanned_wrong w number inside found =
      let e : spans_of numbers (drop i wanted) ≡ Err number = rest_step numbers wanted i w inside ∙ rw found refl in
      so_far ∙ ap (behind_all done) e

  pub spanned_all : length wanted ≤ i → spans_of numbers wanted ≡ Ok done
  spanned_all out = so_far ∙ rw (drop_all i wanted out, append-nil) refl

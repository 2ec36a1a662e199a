-- The places of the chosen pages.
use Rattle.std.proofs.Common.{◌≡◌, ◌<◌, ◌≤◌, ◌+◌, ◌*◌, ◌/◌, ℕ, ℤ, zero, suc, List, [], ◌∷◌, ◌++◌, length, map, take, reverse, Bool, true, false, ◌&&◌, Option, Some, None, Result, Ok, Err, arith, refl, sym, ap, subst, ◌∙◌}
use Rattle.std.specs.Prelude.{if◌then◌else◌}
use Rattle.std.specs.List.{list_any}
use Rattle.std.proofs.lemmas.List.{append-nil, length-append, length-map, reverse-append}
use Rattle.std.proofs.Math.Nat.{mul-div_cancel_left, suc-mul}
use Rattle.std.proofs.Math.Seq.{take-append_seam}
use Rattle.dvi_doc.specs.Document.{Document}
use Rattle.dvi_doc.specs.Grammar.{IsDoc}
use Rattle.dvi_doc.specs.Laws.{OneDocument}
use Rattle.dvi_doc.specs.View.{IsRead, Outline, ReadDoc, outline}
use Rattle.dv_words.specs.Chosen.{IsCause, IsChosen, numbers_of, number_of}
use Rattle.dv_words.specs.Selection.{covers, kept_from, keeps, limited, spans_of, times, turned, wanted_in}
use Rattle.dv_words.specs.declared.pages.Parity.{Parity}
use Rattle.dv_words.specs.declared.selection.SelectFault.{SelectFault}
use Rattle.dv_words.specs.declared.spans.Span.{Span}
use Rattle.dv_top.specs.Each.{Each}
use Rattle.dv_top.specs.Selecting.{IsChoice, IsNoChoice, Request, numbers_in, once, places_by, places_of}
use Rattle.dv_top.proofs.Lists.{each_as, each_join, each_take}

-- ---- the numbers that were found are the document's

pub numbers_same : OneDocument → (r : ReadDoc) (d : Document) → IsRead r → IsDoc r.bytes d → numbers_of r.pages ≡ numbers_in d
numbers_same one r d (e, is, shows) h = ap numbers_of shows.1 ∙ ap (λ (x : Document). numbers_of (map outline x.pages)) (one r.bytes e d is h)

module _ (asked : Request) where
  abbrev pub ChosenBy : List ℤ → List ℕ → Type 0
  ChosenBy numbers places = IsChosen numbers asked.windows asked.parity asked.limit asked.reversed asked.collated places

  abbrev pub CauseBy : List ℤ → SelectFault → Type 0
  CauseBy numbers fault = IsCause numbers asked.windows asked.parity asked.limit asked.reversed asked.collated fault

  pub places_are : (numbers : List ℤ) (places : List ℕ) → ChosenBy numbers places → places ≡ places_by numbers asked (spans_of numbers (wanted_in asked.windows))
  places_are numbers places c = c.is ∙ sym (ap (places_by numbers asked) c.are)

  pub places_here : OneDocument → (r : ReadDoc) (d : Document) (places : List ℕ) → IsRead r → IsDoc r.bytes d → ChosenBy (numbers_of r.pages) places → places ≡ places_of d asked
  places_here one r d places read is c = places_are (numbers_in d) places (subst (λ (ns : List ℤ). ChosenBy ns places) (numbers_same one r d read is) c)

  pub choice_here : OneDocument → (r : ReadDoc) (d : Document) (places : List ℕ) → IsRead r → IsDoc r.bytes d → ChosenBy (numbers_of r.pages) places → IsChoice d asked
  choice_here one r d places read is c =
      subst (ChosenBy (numbers_in d)) (places_here one r d places read is c) (subst (λ (ns : List ℤ). ChosenBy ns places) (numbers_same one r d read is) c)

  pub no_choice_here : OneDocument → (r : ReadDoc) (d : Document) (fault : SelectFault) → IsRead r → IsDoc r.bytes d → CauseBy (numbers_of r.pages) fault → IsNoChoice d asked fault
  no_choice_here one r d fault read is c = subst (λ (ns : List ℤ). CauseBy ns fault) (numbers_same one r d read is) c

-- ---- they are places of the document

either : (P : ℕ → Type 0) (b : Bool) (x : ℕ) (xs : List ℕ) → P x → Each P xs → Each P (if b then x ∷ xs else xs)
either P true x xs h k = (h, k)
either P false x xs h k = k

kept_below : (place : ℕ) (spans : List Span) (parity : Parity) (ns : List ℤ) → Each (λ k. k < place + length ns) (kept_from place spans parity ns)
kept_below place spans parity [] = tt
kept_below place spans parity (n ∷ ns) =
    either (λ k. k < place + suc (length ns)) (list_any (covers place) spans && keeps parity n) place (kept_from (suc place) spans parity ns) (omega arith)
    (each_as (λ k. k < suc place + length ns) (λ k. k < place + suc (length ns)) (λ k h. omega (arith, h)) (kept_from (suc place) spans parity ns) (kept_below (suc place) spans parity ns))

each_reverse : (P : ℕ → Type 0) (xs : List ℕ) → Each P xs → Each P (reverse xs)
each_reverse P [] h = tt
each_reverse P (x ∷ xs) h = subst (Each P) (sym (reverse-append (x ∷ []) xs)) (each_join P (reverse xs) (x ∷ []) (each_reverse P xs h.1) (h.0, tt))

each_limited : (P : ℕ → Type 0) (limit : Option ℕ) (xs : List ℕ) → Each P xs → Each P (limited limit xs)
each_limited P None xs h = h
each_limited P (Some n) xs h = each_take P n xs h

each_turned : (P : ℕ → Type 0) (reversed : Bool) (xs : List ℕ) → Each P xs → Each P (turned reversed xs)
each_turned P false xs h = h
each_turned P true xs h = each_reverse P xs h

each_times : (P : ℕ → Type 0) (n : ℕ) (xs : List ℕ) → Each P xs → Each P (times n xs)
each_times P zero xs h = tt
each_times P (suc n) xs h = each_join P xs (times n xs) h (each_times P n xs h)

numbers_many : (pages : List Outline) → length (numbers_of pages) ≡ length pages
numbers_many pages = length-map pages number_of

pub places_within : (asked : Request) (pages : List Outline) (places : List ℕ) → ChosenBy asked (numbers_of pages) places → Each (λ k. k < length pages) places
places_within asked pages places c =
    let many = numbers_many pages in
    let base = kept_from 0 c.spans asked.parity (numbers_of pages) in
    let P : ℕ → Type 0 = λ k. k < length pages in
    let below = each_as (λ k. k < 0 + length (numbers_of pages)) P (λ k h. omega (arith, h, many)) base (kept_below 0 c.spans asked.parity (numbers_of pages)) in
    subst (Each P) (sym c.is)
    (each_times P asked.collated (turned asked.reversed (limited asked.limit base)) (each_turned P asked.reversed (limited asked.limit base) (each_limited P asked.limit base below)))

-- ---- before the list is repeated

times_many : (n : ℕ) (xs : List ℕ) → length (times n xs) ≡ n * length xs
times_many zero xs = omega arith
times_many (suc n) xs =
    let both = length-append xs (times n xs) in
    let more = times_many n xs in
    let law = suc-mul n (length xs) in
    omega (arith, both, more, law)

first_time : (n : ℕ) (xs : List ℕ) → 1 ≤ n → take (length (times n xs) / n) (times n xs) ≡ times 1 xs
first_time zero xs h = absurd (omega arith)
first_time (suc n) xs h =
    let many : length (times (suc n) xs) / suc n ≡ length xs = ap (λ (k : ℕ). k / suc n) (times_many (suc n) xs) ∙ mul-div_cancel_left (length xs) (omega arith) in
    ap (λ (k : ℕ). take k (xs ++ times n xs)) many ∙ take-append_seam xs (times n xs) ∙ sym (append-nil xs)

abbrev no_places : List ℕ
no_places = []

take_none : (n : ℕ) → take n no_places ≡ no_places
take_none zero = refl
take_none (suc n) = refl

once_by : (numbers : List ℤ) (asked : Request) (spans : Result (List Span) ℤ) → 1 ≤ asked.collated
    → take (length (places_by numbers asked spans) / asked.collated) (places_by numbers asked spans) ≡ places_by numbers (once asked) spans
once_by numbers asked (Ok spans) h = first_time asked.collated (turned asked.reversed (limited asked.limit (kept_from 0 spans asked.parity numbers))) h
once_by numbers asked (Err number) h = take_none (0 / asked.collated)

pub once_of : (d : Document) (asked : Request) → 1 ≤ asked.collated → take (length (places_of d asked) / asked.collated) (places_of d asked) ≡ places_of d (once asked)
once_of d asked h = once_by (numbers_in d) asked (spans_of (numbers_in d) (wanted_in asked.windows)) h

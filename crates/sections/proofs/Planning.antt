-- A planner that is given one page more.
use Rattle.std.proofs.Common.{◌≡◌, ◌<◌, ◌≤◌, ◌+◌, ◌*◌, ◌-◌, ◌⊎◌, inl, inr, ⊎_elim, ℕ, zero, suc, Bool, true, false, List, [], ◌∷◌, ◌++◌, length, take, drop, get_or, set, arith, append_assoc, refl, sym, ap, ◌∙◌, subst, Option, Some, None}
use Rattle.std.specs.Prelude.{◌||◌, IsTrue, slice_set}
use Rattle.std.proofs.Math.Seq.{drop-append_seam, get_or-append_seam, take-append_seam}
use Rattle.std.specs.List.{sum}
use Rattle.std.proofs.lemmas.List.{append-nil, length-append}
use Rattle.std.proofs.lemmas.List.Sums.{fold-append}
use Rattle.font_set.specs.Fonts.{FontSet}
use Rattle.positions.specs.Mark.{Mark}
use Rattle.sections.specs.Used.{Used, is_used, used_in, HasTaken, Joined}
use Rattle.sections.specs.UsedLaws.{used_both, or_false}
use Rattle.sections.specs.Cost.{cost, marks_cost, glyph_price, total, IsPriced}
use Rattle.sections.specs.Sections.{is_few, parts, all_marks, pages_cost, sections}
use Rattle.sections.specs.Planned.{Planning, IsOpen, IsFresh, IsPlanned, UsesLast, pages_of_last}
use Rattle.sections.specs.Growing.{IsTaken, IsRefused, last_length}
use Rattle.sections.proofs.Costs.{total_same, total_least}
use Rattle.sections.proofs.Plans.{last_section, closed_section}

-- ---- marks of pages

pub marks_both : (xs ys : List (List Mark)) → all_marks (xs ++ ys) ≡ all_marks xs ++ all_marks ys
marks_both [] ys = refl
marks_both (x ∷ xs) ys = ap (λ ms. x ++ ms) (marks_both xs ys) ∙ sym (append_assoc x (all_marks xs) (all_marks ys))

one_page_more : (xs : List (List Mark)) (marks : List Mark) → all_marks (xs ++ marks ∷ []) ≡ all_marks xs ++ marks
one_page_more xs marks = marks_both xs (marks ∷ []) ∙ ap (λ ms. all_marks xs ++ ms) (append-nil marks)

true_or : (a b : Bool) → a ≡ true → (a || b) ≡ true
true_or a b e = ap (λ x. x || b) e

-- more pages cost no less
pub cost_grows : (set : FontSet) (xs ys : List (List Mark)) → pages_cost set xs ≤ pages_cost set (xs ++ ys)
cost_grows set xs ys =
    total_least (glyph_price set) (used_in (all_marks xs)) (used_in (all_marks (xs ++ ys))) (length set.fonts) (λ i c l m e.
    ap (λ ms. used_in ms i c) (marks_both xs ys) ∙ (used_both (all_marks xs) (all_marks ys) i c ∙ true_or (used_in (all_marks xs) i c) (used_in (all_marks ys) i c) e))

-- what was taken costs what the marks cost
pub taken_cost : (set : FontSet) (u : Used) (marks : List Mark) → IsPriced set u → HasTaken u marks → cost set (is_used u) ≡ marks_cost set marks
taken_cost set u marks priced taken =
    total_same (glyph_price set) (glyph_price set) (is_used u) (used_in marks) (length set.fonts) (λ i c l m. refl) (λ i c l m. taken.exactly i c (subst (λ n. i < n) (sym priced.fonts) l) m)

-- a section that takes one page more
joined_taken : (old other new : Used) (xs : List (List Mark)) (marks : List Mark) → other.fonts ≡ old.fonts → Joined old other new → HasTaken old (all_marks xs) → HasTaken other marks → HasTaken new (all_marks (xs ++ marks ∷ []))
joined_taken old other new xs marks fonts joined was more = record {
  exactly = λ id code given small.
      let before : id < old.fonts = subst (λ n. id < n) joined.same.fonts given in
      let theirs : id < other.fonts = subst (λ n. id < n) (sym fonts) before in
      joined.exactly id code before small
      ∙ (ap (λ b. b || is_used other id code) (was.exactly id code before small)
      ∙ (ap (λ b. used_in (all_marks xs) id code || b) (more.exactly id code theirs small)
      ∙ (sym (used_both (all_marks xs) marks id code) ∙ ap (λ ms. used_in ms id code) (sym (one_page_more xs marks)))));
}

same_priced : (set : FontSet) (old new : Used) → IsPriced set old → new.fonts ≡ old.fonts → new.prices ≡ old.prices → IsPriced set new
same_priced set old new p fonts prices = record {
  fonts = fonts ∙ p.fonts;
  prices = λ id code given small. ap (λ ps. get_or ps (id * 256 + code) 0) prices ∙ p.prices id code (subst (λ n. id < n) fonts given) small;
}

-- ---- lists of numbers

last_of : (closed : List ℕ) (n : ℕ) → last_length (closed ++ n ∷ []) ≡ n
last_of closed n =
    let long : length (closed ++ n ∷ []) - 1 ≡ length closed = omega (arith, length-append closed (n ∷ [])) in
    ap (λ i. get_or (closed ++ n ∷ []) i 0) long ∙ get_or-append_seam closed n [] 0

set_seam : (closed : List ℕ) (n m : ℕ) → set (closed ++ n ∷ []) (length closed) m ≡ closed ++ m ∷ []
set_seam [] n m = refl
set_seam (x ∷ closed) n m = ap (λ ns. x ∷ ns) (set_seam closed n m)

set_last : (closed : List ℕ) (n m : ℕ) → set (closed ++ n ∷ []) (length (closed ++ n ∷ []) - 1) m ≡ closed ++ m ∷ []
set_last closed n m =
    let long : length (closed ++ n ∷ []) - 1 ≡ length closed = omega (arith, length-append closed (n ∷ [])) in
    ap (λ i. set (closed ++ n ∷ []) i m) long ∙ set_seam closed n m

sum_more : (closed : List ℕ) (n : ℕ) → sum (closed ++ n ∷ []) ≡ sum closed + n
sum_more closed n = fold-append ◌+◌ 0 closed (n ∷ [])

front_of : (closed : List ℕ) (n : ℕ) → take (length (closed ++ n ∷ []) - 1) (closed ++ n ∷ []) ≡ closed
front_of closed n =
    let long : length (closed ++ n ∷ []) - 1 ≡ length closed = omega (arith, length-append closed (n ∷ [])) in
    ap (λ (i : ℕ). take i (closed ++ n ∷ [])) long ∙ take-append_seam closed (n ∷ [])

-- ---- one page more

joined_cost : (set : FontSet) (old other new : Used) (xs : List (List Mark)) (marks : List Mark) → IsPriced set old → IsPriced set other → Joined old other new → HasTaken old (all_marks xs) → HasTaken other marks
    → cost set (is_used new) ≡ pages_cost set (xs ++ marks ∷ [])
joined_cost set old other new xs marks p q joined was more =
    taken_cost set new (all_marks (xs ++ marks ∷ [])) (same_priced set old new p joined.same.fonts joined.same.prices)
    (joined_taken old other new xs marks (q.fonts ∙ sym p.fonts) joined was more)

abbrev pub grown : Planning → Used → Planning
grown p new = record { budget = p.budget; most = p.most; last = new; lengths = slice_set p.lengths (length p.lengths - 1) (last_length p.lengths + 1) }

abbrev pub begun : Planning → Used → Planning
begun p new = record { budget = p.budget; most = p.most; last = new; lengths = p.lengths ++ 1 ∷ [] }

pub page_joined : (set : FontSet) (p : Planning) (pages : List (List Mark)) (usage new : Used) (marks : List Mark) → IsPlanned set p pages → IsPriced set usage → HasTaken usage marks
    → IsTaken set p.budget p.most (last_length p.lengths) p.last usage new
    → IsPlanned set (grown p new) (pages ++ marks ∷ [])
page_joined set p pages usage new marks planned priced taken t =
    record { priced = same_priced set p.last new planned.priced t.joined.same.fonts t.joined.same.prices; so_far = by planned.so_far }
  where
    by : IsFresh p pages ⊎ IsOpen set p pages → IsFresh (grown p new) (pages ++ marks ∷ []) ⊎ IsOpen set (grown p new) (pages ++ marks ∷ [])
    by (inl fresh) =
        let none : last_length p.lengths ≡ 0 = ap last_length fresh.lengths in
        let some = t.some in
        absurd (omega (arith, none, some))
    by (inr o) =
        let xs = o.last_pages in
        let count : last_length p.lengths ≡ length xs = ap last_length o.lengths ∙ last_of o.closed (length xs) in
        let more : length (xs ++ marks ∷ []) ≡ last_length p.lengths + 1 = length-append xs (marks ∷ []) ∙ ap (λ n. n + 1) (sym count) in
        inr (record {
          closed = o.closed;
          first_pages = o.first_pages;
          last_pages = xs ++ marks ∷ [];
          splits = ap (λ (ps : List (List Mark)). ps ++ marks ∷ []) o.splits ∙ append_assoc o.first_pages xs (marks ∷ []);
          many = o.many;
          lengths =
              ap (λ ns. slice_set ns (length ns - 1) (last_length p.lengths + 1)) o.lengths
              ∙ (set_last o.closed (length xs) (last_length p.lengths + 1) ∙ ap (λ n. o.closed ++ n ∷ []) (sym more));
          some = omega (arith, more);
          light = let light = t.light in let is = joined_cost set p.last usage new xs marks planned.priced priced t.joined o.taken taken in omega (arith, light, is);
          few = subst (λ n. IsTrue (is_few p.most n)) (sym more) t.few;
          taken = joined_taken p.last usage new xs marks (priced.fonts ∙ sym planned.priced.fonts) t.joined o.taken taken;
          closing = λ rest.
              ap (sections set p.budget p.most) (append_assoc pages (marks ∷ []) rest)
              ∙ (o.closing (marks ∷ rest) ∙ ap (λ ps. o.closed ++ sections set p.budget p.most ps) (sym (append_assoc xs (marks ∷ []) rest)));
        })

-- the section before is closed
close : (set : FontSet) (p : Planning) (pages xs : List (List Mark)) (closed : List ℕ) (marks : List Mark) → 0 < length xs → IsTrue (is_few p.most (length xs)) → pages_cost set xs ≤ p.budget
    → (is_few p.most (length xs + 1) ≡ false) ⊎ (p.budget < pages_cost set (xs ++ marks ∷ []))
    → ((rest : List (List Mark)) → sections set p.budget p.most (pages ++ rest) ≡ closed ++ sections set p.budget p.most (xs ++ rest)) → (rest : List (List Mark))
    → sections set p.budget p.most ((pages ++ marks ∷ []) ++ rest) ≡ (closed ++ length xs ∷ []) ++ sections set p.budget p.most ((marks ∷ []) ++ rest)
close set p pages [] closed marks some few light full closing rest = absurd (omega arith)
close set p pages (x ∷ xs) closed marks some few light full closing rest =
    ap (sections set p.budget p.most) (append_assoc pages (marks ∷ []) rest)
    ∙ (closing (marks ∷ rest)
    ∙ (ap (λ ns. closed ++ ns) (closed_section (pages_cost set) p.budget p.most (cost_grows set) x xs rest marks few light full)
    ∙ sym (append_assoc closed (length (x ∷ xs) ∷ []) (sections set p.budget p.most (marks ∷ rest)))))

pub page_begun : (set : FontSet) (p : Planning) (pages : List (List Mark)) (usage new : Used) (marks : List Mark) → IsTrue (is_few p.most 1) → IsPlanned set p pages → IsPriced set usage → IsPriced set new
    → HasTaken usage marks → HasTaken new marks → cost set (is_used usage) ≤ p.budget → IsRefused set p.budget p.most (last_length p.lengths) p.last usage
    → IsPlanned set (begun p new) (pages ++ marks ∷ [])
page_begun set p pages usage new marks room planned priced new_priced taken new_taken light refused = record { priced = new_priced; so_far = by planned.so_far }
  where
    alone : pages_cost set (marks ∷ []) ≤ p.budget
    alone = let is = taken_cost set usage marks priced taken in let nothing : all_marks (marks ∷ []) ≡ marks = append-nil marks in subst (λ ms. marks_cost set ms ≤ p.budget) (sym nothing) (omega (arith, is, light))

    last_taken : HasTaken new (all_marks (marks ∷ []))
    last_taken = subst (HasTaken new) (sym (append-nil marks)) new_taken

    full : (o : IsOpen set p pages) → IsRefused set p.budget p.most (last_length p.lengths) p.last usage → (is_few p.most (length o.last_pages + 1) ≡ false) ⊎ (p.budget < pages_cost set (o.last_pages ++ marks ∷ []))
    full o (inl none) =
        let count : last_length p.lengths ≡ length o.last_pages = ap last_length o.lengths ∙ last_of o.closed (length o.last_pages) in
        let some = o.some in
        absurd (omega (arith, none, count, some))
    full o (inr (inl many)) =
        let count : last_length p.lengths ≡ length o.last_pages = ap last_length o.lengths ∙ last_of o.closed (length o.last_pages) in
        inl (subst (λ n. is_few p.most (n + 1) ≡ false) count many)
    full o (inr (inr heavy)) =
        let is = joined_cost set p.last usage heavy.0 o.last_pages marks planned.priced priced heavy.1 o.taken taken in
        let more = heavy.2 in
        inr (omega (arith, is, more))

    all_closed : (o : IsOpen set p pages) → sum (o.closed ++ length o.last_pages ∷ []) ≡ length pages
    all_closed o =
        let all : length pages ≡ length o.first_pages + length o.last_pages = ap (λ (ps : List (List Mark)). length ps) o.splits ∙ length-append o.first_pages o.last_pages in
        let both : sum (o.closed ++ length o.last_pages ∷ []) ≡ sum o.closed + length o.last_pages = sum_more o.closed (length o.last_pages) in
        let many = o.many in
        omega (arith, all, both, many)

    by : IsFresh p pages ⊎ IsOpen set p pages → IsFresh (begun p new) (pages ++ marks ∷ []) ⊎ IsOpen set (begun p new) (pages ++ marks ∷ [])
    by (inl fresh) = inr (record {
      closed = [];
      first_pages = [];
      last_pages = marks ∷ [];
      splits = ap (λ (ps : List (List Mark)). ps ++ marks ∷ []) fresh.none;
      many = refl;
      lengths = ap (λ ns. ns ++ 1 ∷ []) fresh.lengths;
      some = omega arith;
      light = alone;
      few = room;
      taken = last_taken;
      closing = λ rest. ap (λ ps. sections set p.budget p.most ((ps ++ marks ∷ []) ++ rest)) fresh.none;
    })
    by (inr o) = inr (record {
      closed = o.closed ++ length o.last_pages ∷ [];
      first_pages = pages;
      last_pages = marks ∷ [];
      splits = refl;
      many = all_closed o;
      lengths = ap (λ ns. ns ++ 1 ∷ []) o.lengths;
      some = omega arith;
      light = alone;
      few = room;
      taken = last_taken;
      closing = close set p pages o.last_pages o.closed marks o.some o.few o.light (full o refused) o.closing;
    })

-- ---- no page is left

last_parts : (set : FontSet) (budget : ℕ) (most : Option ℕ) (xs : List (List Mark)) → 0 < length xs → IsTrue (is_few most (length xs)) → pages_cost set xs ≤ budget → sections set budget most xs ≡ length xs ∷ []
last_parts set budget most [] some few light = absurd (omega arith)
last_parts set budget most (x ∷ xs) some few light = last_section (pages_cost set) budget most x xs few light

no_parts : (set : FontSet) (budget : ℕ) (most : Option ℕ) → [] ≡ sections set budget most []
unfolding parts
no_parts set budget most = refl

pub finished : (set : FontSet) (p : Planning) (pages : List (List Mark)) → IsPlanned set p pages → p.lengths ≡ sections set p.budget p.most pages
finished set p pages planned = by planned.so_far
  where
    by : IsFresh p pages ⊎ IsOpen set p pages → p.lengths ≡ sections set p.budget p.most pages
    by (inl fresh) = fresh.lengths ∙ (no_parts set p.budget p.most ∙ ap (sections set p.budget p.most) (sym fresh.none))
    by (inr o) =
        o.lengths
        ∙ (ap (λ ns. o.closed ++ ns) (sym (ap (sections set p.budget p.most) (append-nil o.last_pages) ∙ last_parts set p.budget p.most o.last_pages o.some o.few o.light))
        ∙ (sym (o.closing []) ∙ ap (sections set p.budget p.most) (append-nil pages)))

-- the last section's pages stand behind those of the closed ones
pub last_used : (set : FontSet) (p : Planning) (pages : List (List Mark)) → IsPlanned set p pages → UsesLast p.last p.lengths pages
last_used set p pages planned some = by planned.so_far
  where
    by : IsFresh p pages ⊎ IsOpen set p pages → HasTaken p.last (all_marks (pages_of_last p.lengths pages))
    by (inl fresh) = let none : length p.lengths ≡ 0 = ap (λ (ns : List ℕ). length ns) fresh.lengths in absurd (omega (arith, none, some))
    by (inr o) =
        let front : take (length p.lengths - 1) p.lengths ≡ o.closed = ap (λ (ns : List ℕ). take (length ns - 1) ns) o.lengths ∙ front_of o.closed (length o.last_pages) in
        let behind : pages_of_last p.lengths pages ≡ o.last_pages =
        ap (λ (ns : List ℕ). drop (sum ns) pages) front
        ∙ (ap (λ (n : ℕ). drop n pages) o.many
        ∙ (ap (drop (length o.first_pages)) o.splits ∙ drop-append_seam o.first_pages o.last_pages)) in
        subst (λ (ps : List (List Mark)). HasTaken p.last (all_marks ps)) (sym behind) o.taken

-- What marks cost a printer doesn't depend on the numbers of fonts.
use Rattle.std.proofs.Common.{◌≡◌, ◌≤◌, ◌<◌, ◌+◌, ◌||◌, ◌&&◌, ℕ, zero, suc, arith, Bool, true, false, List, [], ◌∷◌, length, Option, Some, None, refl, sym, ap, subst, ◌∙◌, nat_eq}
use Rattle.std.specs.Prelude.{if◌then◌else◌}
use Rattle.std.specs.Cmp.{unsigned_Decides}
use Rattle.positions.specs.Mark.{Glyph, Mark}
use Rattle.positions.specs.Mark.Mark.{OfGlyph, OfRule, OfSpecial}
use Rattle.font_set.specs.Alike.{HaveTwins, Twin}
use Rattle.font_set.specs.Fonts.{FontSet, State, bitmap_at, bitmap_by, pk_in, place_of, state_at}
use Rattle.font_set.specs.Key.{Key}
use Rattle.font_set.proofs.Ids.{one_key}
use Rattle.font_set.proofs.Sums as sums
use Rattle.font_set.proofs.Sums.{at, at_apart, at_inside, at_is, placed_total}
use Rattle.vf_expand.specs.Alike.{MarkAlike, MarksAlike}
use Rattle.sections.specs.Below.{any_below, sum_below}
use Rattle.sections.specs.Cost.{bitmap_cost, code_cost, font_cost, glyph_price, marks_cost, total}
use Rattle.sections.specs.Used.{is_glyph, used_in}
use Rattle.sections.proofs.Belows.{any_below_same, sum_below_same}
use Rattle.sections.proofs.Costs.{total_none}

sum_total : (f : ℕ → ℕ) (n : ℕ) → sum_below f n ≡ sums.total f n
unfolding sum_below
sum_total f zero = refl
sum_total f (suc n) = ap (λ (x : ℕ). x + f n) (sum_total f n)

test_same : (x y i j : ℕ) → (x ≡ i → y ≡ j) → (y ≡ j → x ≡ i) → nat_eq x i ≡ nat_eq y j
test_same x y i j f g = by (nat_eq x i) (nat_eq y j) refl refl
  where
    by : (m n : Bool) → nat_eq x i ≡ m → nat_eq y j ≡ n → m ≡ n
    by true true e h = refl
    by false false e h = refl
    by true false e h = sym ((unsigned_Decides y j).1 (f ((unsigned_Decides x i).0 e))) ∙ h
    by false true e h = sym e ∙ (unsigned_Decides x i).1 (g ((unsigned_Decides y j).0 h))

same_id : (i k : ℕ) → Some i ≡ Some k → i ≡ k
same_id i k e = cc

both_true : (x y : Bool) → (x && y) ≡ true → x ≡ true
both_true true y e = refl
both_true false y e = absurd cc

module _ (a b : FontSet) (key : Key) (i j : ℕ) (t : Twin a b key i j) where
  glyph_same : (x y : Glyph) (code : ℕ) → MarkAlike a b (OfGlyph x) (OfGlyph y) → is_glyph (OfGlyph x) i code ≡ is_glyph (OfGlyph y) j code
  glyph_same x y code (k, u, s, e) =
      let forth = λ (q : x.font ≡ i). same_id y.font j (sym u.right ∙ ap (place_of b.fonts) (one_key a.fonts k key i (u.left ∙ ap (λ (n : ℕ). Some n) q) t.left) ∙ t.right) in
      let back = λ (q : y.font ≡ j). same_id x.font i (sym u.left ∙ ap (place_of a.fonts) (one_key b.fonts k key j (u.right ∙ ap (λ (n : ℕ). Some n) q) t.right) ∙ t.left) in
      ap (λ (m : Bool). m && nat_eq x.code code) (test_same x.font y.font i j forth back) ∙ ap (λ (n : ℕ). nat_eq y.font j && nat_eq n code) (sym (ap (λ (g : Glyph). g.code) e))

  mark_same : (x y : Mark) (code : ℕ) → MarkAlike a b x y → is_glyph x i code ≡ is_glyph y j code
  mark_same (OfGlyph x) (OfGlyph y) code h = glyph_same x y code h
  mark_same (OfGlyph x) (OfRule y) code h = absurd h
  mark_same (OfGlyph x) (OfSpecial y) code h = absurd h
  mark_same (OfRule x) (OfGlyph y) code h = absurd h
  mark_same (OfRule x) (OfRule y) code h = refl
  mark_same (OfRule x) (OfSpecial y) code h = absurd h
  mark_same (OfSpecial x) (OfGlyph y) code h = absurd h
  mark_same (OfSpecial x) (OfRule y) code h = absurd h
  mark_same (OfSpecial x) (OfSpecial y) code h = refl

  used_same : (ms ns : List Mark) (code : ℕ) → MarksAlike a b ms ns → used_in ms i code ≡ used_in ns j code
  used_same [] [] code h = refl
  used_same [] (n ∷ ns) code h = absurd h
  used_same (m ∷ ms) [] code h = absurd h
  used_same (m ∷ ms) (n ∷ ns) code h = ap (λ (x : Bool). x || used_in ms i code) (mark_same m n code h.0) ∙ ap (λ (x : Bool). is_glyph n j code || x) (used_same ms ns code h.1)

  mark_state : (x y : Mark) (code : ℕ) → MarkAlike a b x y → is_glyph x i code ≡ true → state_at a i ≡ state_at b j
  mark_state (OfGlyph x) (OfGlyph y) code (k, u, s, e) h =
      let q : x.font ≡ i = (unsigned_Decides x.font i).0 (both_true (nat_eq x.font i) (nat_eq x.code code) h) in
      let r : y.font ≡ j = same_id y.font j (sym u.right ∙ ap (place_of b.fonts) (one_key a.fonts k key i (u.left ∙ ap (λ (n : ℕ). Some n) q) t.left) ∙ t.right) in
      ap (state_at a) (sym q) ∙ s ∙ ap (state_at b) r
  mark_state (OfGlyph x) (OfRule y) code h e = absurd h
  mark_state (OfGlyph x) (OfSpecial y) code h e = absurd h
  mark_state (OfRule x) y code h e = absurd cc
  mark_state (OfSpecial x) y code h e = absurd cc

  used_state : (ms ns : List Mark) (code : ℕ) → MarksAlike a b ms ns → used_in ms i code ≡ true → state_at a i ≡ state_at b j
  used_state [] ns code h e = absurd cc
  used_state (m ∷ ms) [] code h e = absurd h
  used_state (m ∷ ms) (n ∷ ns) code h e = by (is_glyph m i code) refl e (λ k. used_state ms ns code h.1 k)
    where
      by : (x : Bool) → is_glyph m i code ≡ x → (x || used_in ms i code) ≡ true → (used_in ms i code ≡ true → state_at a i ≡ state_at b j) → state_at a i ≡ state_at b j
      by true q k rest = mark_state m n code h.0 q
      by false q k rest = rest k

  price_same : (code : ℕ) → state_at a i ≡ state_at b j → glyph_price a i code ≡ glyph_price b j code
  unfolding bitmap_at
  price_same code e = ap (λ (s : State). 160 + bitmap_cost (bitmap_by (pk_in s) code)) e

  code_same : (ms ns : List Mark) → MarksAlike a b ms ns → (code : ℕ) → code_cost (glyph_price a i) (used_in ms i) code ≡ code_cost (glyph_price b j) (used_in ns j) code
  code_same ms ns h code = by (used_in ms i code) refl ∙ ap (λ (x : Bool). if x then glyph_price b j code else 0) (used_same ms ns code h)
    where
      by : (x : Bool) → used_in ms i code ≡ x → (if x then glyph_price a i code else 0) ≡ (if x then glyph_price b j code else 0)
      by true e = price_same code (used_state ms ns code h e)
      by false e = refl

  font_same : (ms ns : List Mark) → MarksAlike a b ms ns → font_cost (glyph_price a i) (used_in ms i) ≡ font_cost (glyph_price b j) (used_in ns j)
  font_same ms ns h =
      ap (λ (x : Bool). if x then 2560 + sum_below (code_cost (glyph_price a i) (used_in ms i)) 256 else 0) (any_below_same (used_in ms i) (used_in ns j) 256 (λ code l. used_same ms ns code h))
      ∙ ap (λ (x : ℕ). if any_below (used_in ns j) 256 then 2560 + x else 0) (sum_below_same (code_cost (glyph_price a i) (used_in ms i)) (code_cost (glyph_price b j) (used_in ns j)) 256 (λ code l. code_same ms ns h code))

-- marks cost no more with the fonts of the one set than with those of the other
pub cost_alike : (a b : FontSet) → HaveTwins a b → (ms ns : List Mark) → MarksAlike a b ms ns → marks_cost a ms ≤ marks_cost b ns
unfolding total
cost_alike a b all ms ns h =
    let w = λ (i : ℕ). font_cost (glyph_price a i) (used_in ms i) in
    let v = λ (j : ℕ). font_cost (glyph_price b j) (used_in ns j) in
    let less : (i : ℕ) → i < length a.fonts → w i ≤ v (at a b all i) = λ i l. one i l in
    let k = placed_total w v (at a b all) (length a.fonts) (length b.fonts) (at_inside a b all) (at_apart a b all) less in
    subst (λ (x : ℕ). x ≤ marks_cost b ns) (sym (sum_total w (length a.fonts))) (subst (λ (x : ℕ). sums.total w (length a.fonts) ≤ x) (sym (sum_total v (length b.fonts))) k)
  where
    one : (i : ℕ) → i < length a.fonts → font_cost (glyph_price a i) (used_in ms i) ≤ font_cost (glyph_price b (at a b all i)) (used_in ns (at a b all i))
    one i l =
        let x = all i l in
        let t : Twin a b x.key i x.id = record { left = x.placed; right = x.there } in
        let same = font_same a b x.key i x.id t ms ns h in
        let place = at_is a b all i x.key x.id x.placed x.there in
        subst (λ (j : ℕ). font_cost (glyph_price a i) (used_in ms i) ≤ font_cost (glyph_price b j) (used_in ns j)) (sym place) (omega (arith, same))

-- no marks cost nothing
pub no_cost : (set : FontSet) → marks_cost set [] ≡ 0
no_cost set = total_none (glyph_price set) (used_in []) (length set.fonts) (λ i c l m. refl)

use Rattle.std.proofs.Common.{◌≡◌, ℕ, ◌+◌, ◌<◌, ◌≤◌, ◌≢◌, refl, sym, ◌∙◌, ap, subst, arith, List, [], ◌∷◌, get_or, length, drop, nat_lt, nat_eq, Bool, true, false, cond}
use Rattle.std.proofs.lemmas.List.{drop_all}
use Rattle.std.proofs.lemmas.Bool.Decides.{nat_tests}
use Rattle.std.specs.Prelude.{None, Some}
use Rattle.pk_raster.specs.Numbers.{packed, Found, Reads}
use Rattle.pk_raster.specs.Runs.{Item, Run, Repeat}
use Rattle.pk_raster.specs.Items.{count_at, as_item, item_at, InRepeat}
use Rattle.pk_raster.specs.Reading.{Takes}
use Rattle.pk_raster.specs.declared.items.Piece.TheVariants as piece
use Rattle.pk_raster.proofs.Nybbles.{ahead}

yes : {A : Type 0} (b : Bool) (x y : A) → b ≡ true → cond b x y ≡ x
yes true x y h = refl
yes false x y h = cc

no_ : {A : Type 0} (b : Bool) (x y : A) → b ≡ false → cond b x y ≡ y
no_ true x y h = cc
no_ false x y h = refl

run_of : (f i : ℕ) (xs : List ℕ) → i ≤ 13 → item_at f (i ∷ xs) ≡ as_item Run (packed f i xs)
unfolding item_at
run_of f i xs h = no_ (nat_eq i 15) _ _ (grind (arith, nat_tests)) ∙ no_ (nat_eq i 14) _ _ (grind (arith, nat_tests))

repeat_of : (f : ℕ) (xs : List ℕ) → item_at f (14 ∷ xs) ≡ as_item Repeat (count_at f xs)
unfolding item_at
repeat_of f xs = refl

one_of : (f : ℕ) (xs : List ℕ) → item_at f (15 ∷ xs) ≡ Some (Repeat 1, xs)
unfolding item_at
one_of f xs = refl

count_small : (f i : ℕ) (xs : List ℕ) → i ≤ 13 → count_at f (i ∷ xs) ≡ packed f i xs
unfolding count_at
count_small f i xs h = no_ (nat_lt 13 i) _ _ (grind (arith, nat_tests))

count_big : (f i : ℕ) (xs : List ℕ) → 13 < i → count_at f (i ∷ xs) ≡ None
unfolding count_at
count_big f i xs h = yes (nat_lt 13 i) _ _ (grind (arith, nat_tests))

not_repeat : (i : ℕ) (xs : List ℕ) → i ≢ 14 → InRepeat (i ∷ xs) → ⊥
unfolding InRepeat
not_repeat i [] ne b = b
not_repeat i (j ∷ xs) ne b = ne b.0

not_inside : (i j : ℕ) (xs : List ℕ) → j ≤ 13 → InRepeat (i ∷ j ∷ xs) → ⊥
unfolding InRepeat
not_inside i j xs h b = omega (arith, b.1, h)

none_of : (make : ℕ → Item) (found : Found) → found ≡ None → as_item make found ≡ None
none_of make found e = ap (as_item make) e

module _ (f : ℕ) (ns : List ℕ) (at : ℕ) where
  pub at_end : length ns ≤ at → (item_at f (drop at ns) ≡ None) × (InRepeat (drop at ns) → ⊥)
  unfolding item_at InRepeat
  at_end h =
      let e = drop_all at ns h in
      let P : List ℕ → Type 0 = λ xs. (item_at f xs ≡ None) × (InRepeat xs → ⊥) in
      subst P (sym e) (refl, λ b. b)

  pub one_at : (i : ℕ) → i ≡ get_or ns at 0 → at < length ns → i ≡ 15 → item_at f (drop at ns) ≡ Some (Repeat 1, drop (at + 1) ns)
  one_at i g h e = ap (item_at f) (ahead ns at h ∙ ap (λ k. k ∷ drop (at + 1) ns) (sym g ∙ e)) ∙ one_of f (drop (at + 1) ns)

  run_at : (i : ℕ) → i ≡ get_or ns at 0 → at < length ns → i ≤ 13 → item_at f (drop at ns) ≡ as_item Run (packed f i (drop (at + 1) ns))
  run_at i g h l = ap (item_at f) (ahead ns at h ∙ ap (λ k. k ∷ drop (at + 1) ns) (sym g)) ∙ run_of f i (drop (at + 1) ns) l

  pub run_found : (i : ℕ) → i ≡ get_or ns at 0 → at < length ns → i ≤ 13 → (count next : ℕ) → Reads ns (packed f i (drop (at + 1) ns)) (Some (count, next)) → 0 < count → Takes f ns at (piece.Run count) next
  run_found i g h l count next r p = record { item = Run r.0; count = r.2; positive = p; found = run_at i g h l ∙ ap (as_item Run) r.1; within = r.3 }

  pub run_none : (i : ℕ) → i ≡ get_or ns at 0 → at < length ns → i ≤ 13 → packed f i (drop (at + 1) ns) ≡ None → (item_at f (drop at ns) ≡ None) × (InRepeat (drop at ns) → ⊥)
  run_none i g h l r = (
    run_at i g h l ∙ ap (as_item Run) r,
    λ b. not_repeat i (drop (at + 1) ns) (omega (arith, l)) (subst InRepeat (ahead ns at h ∙ ap (λ k. k ∷ drop (at + 1) ns) (sym g)) b),
  )

  repeat_at : (i : ℕ) → i ≡ get_or ns at 0 → at < length ns → i ≡ 14 → item_at f (drop at ns) ≡ as_item Repeat (count_at f (drop (at + 1) ns))
  repeat_at i g h e = ap (item_at f) (ahead ns at h ∙ ap (λ k. k ∷ drop (at + 1) ns) (sym g ∙ e)) ∙ repeat_of f (drop (at + 1) ns)

  -- where the raster ends behind a 14
  pub cut_at : (i : ℕ) → i ≡ get_or ns at 0 → at < length ns → i ≡ 14 → length ns ≤ at + 1 → (item_at f (drop at ns) ≡ None) × (InRepeat (drop at ns) → ⊥)
  unfolding count_at InRepeat
  cut_at i g h e l =
      let z = drop_all (at + 1) ns l in (
        repeat_at i g h e ∙ ap (λ xs. as_item Repeat (count_at f xs)) z,
        λ b. (let c : InRepeat (get_or ns at 0 ∷ []) = subst InRepeat (ahead ns at h ∙ ap (λ xs. get_or ns at 0 ∷ xs) z) b in c),
      )

  module _ (i j : ℕ) (gi : i ≡ get_or ns at 0) (gj : j ≡ get_or ns (at + 1) 0) (h : at + 1 < length ns) (e : i ≡ 14) where
    two : drop at ns ≡ i ∷ j ∷ drop (at + 2) ns
    two = ahead ns at (omega arith) ∙ ap (λ k. k ∷ drop (at + 1) ns) (sym gi)
        ∙ ap (λ xs. i ∷ xs) (ahead ns (at + 1) h ∙ ap (λ k. k ∷ drop (at + 1 + 1) ns) (sym gj) ∙ ap (λ k. j ∷ drop k ns) (omega arith))

    at_two : item_at f (drop at ns) ≡ as_item Repeat (count_at f (j ∷ drop (at + 2) ns))
    at_two = ap (item_at f) (two ∙ ap (λ k. k ∷ j ∷ drop (at + 2) ns) e) ∙ repeat_of f (j ∷ drop (at + 2) ns)

    pub inside_repeat : 13 < j → (item_at f (drop at ns) ≡ None) × InRepeat (drop at ns)
    unfolding InRepeat
    inside_repeat l = (at_two ∙ ap (as_item Repeat) (count_big f j (drop (at + 2) ns) l), subst InRepeat (sym two) (e, l))

    pub repeat_found : j ≤ 13 → (count next : ℕ) → Reads ns (packed f j (drop (at + 2) ns)) (Some (count, next)) → 0 < count → Takes f ns at (piece.Repeat count) next
    repeat_found l count next r p = record { item = Repeat r.0; count = r.2; positive = p; found = at_two ∙ ap (as_item Repeat) (count_small f j (drop (at + 2) ns) l ∙ r.1); within = r.3 }

    pub repeat_none : j ≤ 13 → packed f j (drop (at + 2) ns) ≡ None → (item_at f (drop at ns) ≡ None) × (InRepeat (drop at ns) → ⊥)
    repeat_none l r = (at_two ∙ ap (as_item Repeat) (count_small f j (drop (at + 2) ns) l ∙ r), λ b. not_inside i j (drop (at + 2) ns) l (subst InRepeat two b))

-- Checksums that don't agree, as a test and as a fact; and the lines of fonts, one font further.
use Rattle.std.proofs.Common.{◌≡◌, ◌+◌, ℕ, zero, suc, Bool, true, false, List, [], ◌∷◌, ◌++◌, Option, Some, None, map, refl, sym, ap, ◌∙◌, arith, rules, inl, inr, add-one}
use Rattle.std.specs.Prelude.{◌⊎◌, ◌↔◌, ◌≢◌, ◌&&◌, ◌||◌, IsTrue, not, nat_eq, if◌then◌else◌}
use Rattle.std.proofs.lemmas.Bool.Decides.{nat_tests}
use Rattle.std.proofs.lemmas.List.{append-nil, map-append}
use Rattle.tfm_widths.specs.Widths.{Table}
use Rattle.pk_raster.specs.Font.{Font}
use Rattle.font_set.specs.Fonts.{Differ, FontSet, IsMismatched, Mismatches, PkDiffers, State, key_at, state_at}
use Rattle.sections.specs.Below.{those_below}
use Rattle.dv_top.specs.Warnings.{checksum_line, differ, is_mismatched, mismatches, pk_differs}

differ_is : (a b : ℕ) → differ a b ≡ true → Differ a b
differ_is a b e = (grind (arith, nat_tests), grind (arith, nat_tests), grind (arith, nat_tests))

differ_isnt : (a b : ℕ) → Differ a b → differ a b ≡ true
differ_isnt a b (x, y, z) = grind (arith, nat_tests)

either : (b c : Bool) → (b || c) ≡ true → (b ≡ true) ⊎ (c ≡ true)
either true c e = inl refl
either false c e = inr e

either_left : (b c : Bool) → b ≡ true → (b || c) ≡ true
either_left true c e = refl
either_left false c e = absurd cc

either_right : (b c : Bool) → c ≡ true → (b || c) ≡ true
either_right true c e = refl
either_right false c e = e

pk_is : (tfm : Table) (pk : Option Font) → pk_differs tfm pk ≡ true → PkDiffers tfm pk
pk_is tfm None e = absurd cc
pk_is tfm (Some pk) e = differ_is tfm.checksum pk.checksum e

pk_isnt : (tfm : Table) (pk : Option Font) → PkDiffers tfm pk → pk_differs tfm pk ≡ true
pk_isnt tfm None h = absurd h
pk_isnt tfm (Some pk) h = differ_isnt tfm.checksum pk.checksum h

one_of : {A B C D : Type 0} → (A → C) → (B → D) → A ⊎ B → C ⊎ D
one_of f g (inl a) = inl (f a)
one_of f g (inr b) = inr (g b)

joined : {C D : Type 0} (b c : Bool) → (C → b ≡ true) → (D → c ≡ true) → C ⊎ D → (b || c) ≡ true
joined b c f g (inl x) = either_left b c (f x)
joined b c f g (inr y) = either_right b c (g y)

mismatches_is : (key : ℕ) (s : State) → mismatches key s ≡ true → Mismatches key s
mismatches_is key State.Known e = absurd cc
mismatches_is key (State.Real tfm pk) e = one_of (differ_is key tfm.checksum) (pk_is tfm pk) (either (differ key tfm.checksum) (pk_differs tfm pk) e)
mismatches_is key (State.Virtual tfm vf) e = one_of (differ_is key tfm.checksum) (differ_is tfm.checksum vf.checksum) (either (differ key tfm.checksum) (differ tfm.checksum vf.checksum) e)

mismatches_isnt : (key : ℕ) (s : State) → Mismatches key s → mismatches key s ≡ true
mismatches_isnt key State.Known h = absurd h
mismatches_isnt key (State.Real tfm pk) h = joined (differ key tfm.checksum) (pk_differs tfm pk) (differ_isnt key tfm.checksum) (pk_isnt tfm pk) h
mismatches_isnt key (State.Virtual tfm vf) h = joined (differ key tfm.checksum) (differ tfm.checksum vf.checksum) (differ_isnt key tfm.checksum) (differ_isnt tfm.checksum vf.checksum) h

same_tests : (b c : Bool) → (b ≡ true → c ≡ true) → (c ≡ true → b ≡ true) → b ≡ c
same_tests true c f g = sym (f refl)
same_tests false true f g = g refl
same_tests false false f g = refl

pub mismatch_is : (set : FontSet) (id : ℕ) (b : Bool) → IsTrue b ↔ IsMismatched set id → b ≡ is_mismatched set id
mismatch_is set id b h =
    same_tests b (is_mismatched set id)
    (λ e. mismatches_isnt (key_at set id).checksum (state_at set id) (h.0 e))
    (λ e. h.1 (mismatches_is (key_at set id).checksum (state_at set id) e))

-- ---- lines

pub no_lines : (set : FontSet) → map (checksum_line set) (those_below (is_mismatched set) 0) ≡ []
unfolding those_below
no_lines set = refl

below_next : (test : ℕ → Bool) (n : ℕ) → those_below test (suc n) ≡ those_below test n ++ (if test n then n ∷ [] else [])
unfolding those_below
below_next test n = refl

abbrev pub line_if : (set : FontSet) (n : ℕ) (b : Bool) → List (List ℕ)
line_if set n true = checksum_line set n ∷ []
line_if set n false = []

one_line : (set : FontSet) (n : ℕ) (b : Bool) → map (checksum_line set) (if b then n ∷ [] else []) ≡ line_if set n b
one_line set n true = refl
one_line set n false = refl

pub next_lines : (set : FontSet) (n : ℕ) (b : Bool) → is_mismatched set n ≡ b → map (checksum_line set) (those_below (is_mismatched set) (n + 1)) ≡ map (checksum_line set) (those_below (is_mismatched set) n) ++ line_if set n b
next_lines set n b e =
    ap (λ k. map (checksum_line set) (those_below (is_mismatched set) k)) (add-one n)
    ∙ ap (map (checksum_line set)) (below_next (is_mismatched set) n)
    ∙ map-append (checksum_line set) (those_below (is_mismatched set) n) (if is_mismatched set n then n ∷ [] else [])
    ∙ ap (λ l. map (checksum_line set) (those_below (is_mismatched set) n) ++ l) (ap (λ t. map (checksum_line set) (if t then n ∷ [] else [])) e ∙ one_line set n b)

pub next_line : (set : FontSet) (n : ℕ) → is_mismatched set n ≡ true → map (checksum_line set) (those_below (is_mismatched set) (n + 1)) ≡ map (checksum_line set) (those_below (is_mismatched set) n) ++ checksum_line set n ∷ []
next_line set n e = next_lines set n true e

pub same_lines : (set : FontSet) (n : ℕ) → is_mismatched set n ≡ false → map (checksum_line set) (those_below (is_mismatched set) (n + 1)) ≡ map (checksum_line set) (those_below (is_mismatched set) n)
same_lines set n e = next_lines set n false e ∙ append-nil (map (checksum_line set) (those_below (is_mismatched set) n))

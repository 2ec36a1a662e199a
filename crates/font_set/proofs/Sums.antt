-- What is counted in one set is counted in another, where each of its fonts has one of its own there.
use Rattle.std.proofs.Common.{◌≡◌, ◌≤◌, ◌<◌, ◌+◌, ℕ, zero, suc, arith, List, [], ◌∷◌, length, Option, Some, None, Bool, true, false, refl, sym, ap, subst, ◌∙◌, nat_eq, nat_lt}
use Rattle.std.specs.Prelude.{slice_get, if◌then◌else◌}
use Rattle.std.specs.Cmp.{unsigned_Decides}
use Rattle.std.proofs.lemmas.Bool.Decides.{nat_tests}
use Rattle.std.proofs.lemmas.List.Sums.{sum_by-cons}
use Rattle.font_set.specs.Key.{Key}
use Rattle.font_set.specs.Fonts.{State, Entry, FontSet, place_of, key_at, state_in, state_at, IsLoaded, raster_bytes, raster_bytes_in}
use Rattle.font_set.specs.Alike.{HaveTwins}
use Rattle.font_set.proofs.Alike.{key_is}
use Rattle.font_set.proofs.Ids.{id_below, one_key}

-- ---- sums

abbrev pub total : (ℕ → ℕ) → ℕ → ℕ
total w zero = 0
total w (suc n) = total w n + w n

abbrev pub without : (ℕ → ℕ) → ℕ → ℕ → ℕ
without w j i = if nat_eq i j then 0 else w i

without_other : (w : ℕ → ℕ) (j i : ℕ) → (i ≡ j → ⊥) → without w j i ≡ w i
without_other w j i other = by (nat_eq i j) refl
  where
    by : (b : Bool) → nat_eq i j ≡ b → (if b then 0 else w i) ≡ w i
    by true e = absurd (other ((unsigned_Decides i j).0 e))
    by false e = refl

without_this : (w : ℕ → ℕ) (j i : ℕ) → i ≡ j → without w j i ≡ 0
without_this w j i same = by (nat_eq i j) ((unsigned_Decides i j).1 same)
  where
    by : (b : Bool) → b ≡ true → (if b then 0 else w i) ≡ 0
    by true e = refl
    by false e = absurd cc

same_total : (w v : ℕ → ℕ) (n : ℕ) → ((i : ℕ) → i < n → w i ≡ v i) → total w n ≡ total v n
same_total w v zero f = refl
same_total w v (suc n) f =
    let h = same_total w v n (λ i l. f i (omega arith)) in
    ap (λ (x : ℕ). x + w n) h ∙ ap (λ (x : ℕ). total v n + x) (f n (omega arith))

-- one of the numbers apart
apart_from : (w : ℕ → ℕ) (n j : ℕ) → j < n → total w n ≡ total (without w j) n + w j
apart_from w zero j l = absurd (omega arith)
apart_from w (suc n) j l = by (λ below. apart_from w n j below) (nat_eq n j) refl
  where
    not_last : (t : Bool) → nat_lt j n ≡ t → (n ≡ j → ⊥) → j < n
    not_last true e other = grind (arith, nat_tests)
    not_last false e other = let same : n ≡ j = grind (arith, nat_tests) in absurd (other same)

    by : (j < n → total w n ≡ total (without w j) n + w j) → (b : Bool) → nat_eq n j ≡ b → total w n + w n ≡ (total (without w j) n + without w j n) + w j
    by further true e =
        let same : n ≡ j = (unsigned_Decides n j).0 e in
        let rest = same_total (without w j) w n (λ i k. without_other w j i (λ (q : i ≡ j). omega (arith, k, q, same))) in
        let here = without_this w j n same in
        let last : w n ≡ w j = ap w same in
        omega (arith, rest, here, last)
    by further false e =
        let other : n ≡ j → ⊥ = λ (q : n ≡ j). let t : true ≡ false = sym ((unsigned_Decides n j).1 q) ∙ e in cc in
        let h = further (not_last (nat_lt j n) refl other) in
        let here = without_other w j n other in
        omega (arith, h, here)

-- Each number has a place of its own among others, and one as large stands there.
pub placed_total : (w v f : ℕ → ℕ) (n m : ℕ) → ((i : ℕ) → i < n → f i < m) → ((i k : ℕ) → i < n → k < n → f i ≡ f k → i ≡ k) → ((i : ℕ) → i < n → w i ≤ v (f i)) → total w n ≤ total v m
placed_total w v f zero m inside apart less = omega arith
placed_total w v f (suc n) m inside apart less =
    let j = f n in
    let h = placed_total w (without v j) f n m (λ i l. inside i (omega arith)) (λ i k l o e. apart i k (omega arith) (omega arith) e)
    (λ i l. subst (λ (x : ℕ). w i ≤ x) (sym (without_other v j (f i) (λ e. let same : i ≡ n = apart i n (omega arith) (omega arith) e in omega (arith, l, same)))) (less i (omega arith))) in
    let s = apart_from v m j (inside n (omega arith)) in
    let last = less n (omega arith) in
    let all : total w n + w n ≤ total v m = omega (arith, h, s, last) in
    all

abbrev one_each : ℕ → ℕ
one_each i = 1

ones : (n : ℕ) → total one_each n ≡ n
ones zero = refl
ones (suc n) = ap (λ (x : ℕ). x + 1) (ones n) ∙ omega arith

-- ---- the bitmaps of a set

unfoldable bytes_at : FontSet → ℕ → ℕ
bytes_at set i = raster_bytes_in (state_at set i)

abbrev listed : List Entry → ℕ → ℕ
listed es i = raster_bytes_in (state_in (slice_get es i))

first_apart : (w : ℕ → ℕ) (n : ℕ) → total w (suc n) ≡ w 0 + total (λ i. w (suc i)) n
first_apart w zero = omega arith
first_apart w (suc n) = ap (λ (x : ℕ). x + w (suc n)) (first_apart w n) ∙ omega arith

listed_total : (es : List Entry) → raster_bytes es ≡ total (listed es) (length es)
unfolding raster_bytes
listed_total [] = refl
listed_total (e ∷ es) =
    sum_by-cons (λ (x : Entry). raster_bytes_in x.state) e es
    ∙ ap (λ (x : ℕ). raster_bytes_in e.state + x) (listed_total es)
    ∙ sym (first_apart (listed (e ∷ es)) (length es))

bytes_total : (set : FontSet) → raster_bytes set.fonts ≡ total (bytes_at set) (length set.fonts)
unfolding bytes_at state_at
bytes_total set = listed_total set.fonts

-- ---- fonts of one set in another

abbrev or_zero : Option ℕ → ℕ
or_zero None = 0
or_zero (Some i) = i

same_id : (i k : ℕ) → Some i ≡ Some k → i ≡ k
same_id i k e = cc

module _ (a b : FontSet) (all : HaveTwins a b) where
  -- its id there
  abbrev pub at : ℕ → ℕ
  at i = or_zero (place_of b.fonts (key_at a i))

  pub at_is : (i : ℕ) (key : Key) (j : ℕ) → place_of a.fonts key ≡ Some i → place_of b.fonts key ≡ Some j → at i ≡ j
  at_is i key j e q = ap (λ (k : Key). or_zero (place_of b.fonts k)) (key_is a key i e) ∙ ap or_zero q

  pub at_inside : (i : ℕ) → i < length a.fonts → at i < length b.fonts
  at_inside i l =
      let x = all i l in
      subst (λ (n : ℕ). n < length b.fonts) (sym (at_is i x.key x.id x.placed x.there)) (id_below b.fonts x.key x.id x.there)

  -- a font whose id there is that of a key has that key
  at_key : (i : ℕ) (key : Key) (j : ℕ) → i < length a.fonts → place_of b.fonts key ≡ Some j → at i ≡ j → place_of a.fonts key ≡ Some i
  at_key i key j l q e =
      let x = all i l in
      let id : x.id ≡ j = sym (at_is i x.key x.id x.placed x.there) ∙ e in
      let same : x.key ≡ key = one_key b.fonts x.key key j (x.there ∙ ap (λ (n : ℕ). Some n) id) q in
      ap (place_of a.fonts) (sym same) ∙ x.placed

  pub at_apart : (i k : ℕ) → i < length a.fonts → k < length a.fonts → at i ≡ at k → i ≡ k
  at_apart i k l o e =
      let y = all k o in
      let q = at_key i y.key y.id l y.there (e ∙ at_is k y.key y.id y.placed y.there) in
      same_id i k (sym q ∙ y.placed)

  -- a key that the other set knows beside these is one more
  pub one_more : (key : Key) (j : ℕ) → place_of a.fonts key ≡ None → place_of b.fonts key ≡ Some j → length a.fonts < length b.fonts
  one_more key j none there =
      let n = length a.fonts in
      let m = length b.fonts in
      let h = placed_total one_each (without one_each j) at n m at_inside at_apart
      (λ i l. subst (λ (x : ℕ). 1 ≤ x) (sym (without_other one_each j (at i) (λ e. nothing (sym none ∙ at_key i key j l there e)))) (omega arith)) in
      let s = apart_from one_each m j (id_below b.fonts key j there) in
      omega (arith, h, s, ones n, ones m)
    where
      nothing : {i : ℕ} → None ≡ Some i → ⊥
      nothing e = cc

  -- the bitmaps of these, and of one that isn't loaded, are not more than those of the other set
  pub bytes_more : (key : Key) (i j : ℕ) → place_of a.fonts key ≡ Some i → place_of b.fonts key ≡ Some j → (IsLoaded (state_at a i) → ⊥) → raster_bytes a.fonts + raster_bytes_in (state_at b j) ≤ raster_bytes b.fonts
  unfolding bytes_at
  bytes_more key i j here there unread =
      let n = length a.fonts in
      let m = length b.fonts in
      let h = placed_total (bytes_at a) (without (bytes_at b) j) at n m at_inside at_apart less in
      let s = apart_from (bytes_at b) m j (id_below b.fonts key j there) in
      omega (arith, h, s, bytes_total a, bytes_total b)
    where
      no_bytes : (s : State) → (IsLoaded s → ⊥) → raster_bytes_in s ≡ 0
      no_bytes State.Known u = refl
      no_bytes (State.Real tfm pk) u = absurd (u tt)
      no_bytes (State.Virtual tfm vf) u = absurd (u tt)

      different : (k i : ℕ) → k ≡ i → nat_eq k i ≡ false → ⊥
      different k i p e = let t : true ≡ false = sym ((unsigned_Decides k i).1 p) ∙ e in cc

      by : (k : ℕ) → k < length a.fonts → (t : Bool) → nat_eq k i ≡ t → bytes_at a k ≤ without (bytes_at b) j (at k)
      by k l true e =
          let same : k ≡ i = (unsigned_Decides k i).0 e in
          let zero : bytes_at a k ≡ 0 = ap (bytes_at a) same ∙ no_bytes (state_at a i) unread in
          subst (λ (x : ℕ). x ≤ without (bytes_at b) j (at k)) (sym zero) (omega arith)
      by k l false e =
          let x = all k l in
          let id = at_is k x.key x.id x.placed x.there in
          let other = λ (q : at k ≡ j). let p = same_id k i (sym (at_key k key j l there q) ∙ here) in different k i p e in
          let large : bytes_at a k ≤ bytes_at b (at k) = subst (λ (y : ℕ). bytes_at a k ≤ bytes_at b y) (sym id) x.bytes in
          subst (λ (y : ℕ). bytes_at a k ≤ y) (sym (without_other (bytes_at b) j (at k) other)) large

      less : (k : ℕ) → k < length a.fonts → bytes_at a k ≤ without (bytes_at b) j (at k)
      less k l = by k l (nat_eq k i) refl

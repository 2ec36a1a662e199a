use Rattle.std.proofs.Common.{◌≡◌, ℕ, zero, suc, ◌+◌, ◌-◌, ◌/◌, ◌<◌, ◌≤◌, refl, sym, ◌∙◌, ap, subst, arith, List, [], ◌∷◌, ◌++◌, length, length-append, append_assoc, zero-add}
use Rattle.std.proofs.lemmas.List.{length-replicate, append-nil}
use Rattle.std.proofs.lemmas.Bool.Decides.{nat_tests}
use Rattle.std.specs.Prelude.{replicate}
use Rattle.std.proofs.Math.Nat.{div-eq_of_lt}
use Rattle.std.specs.List.{concat, AllByRecursion}
use Rattle.pk_raster.specs.Runs.{Item, Run, Repeat, colours, where_same, repeats, Single, repeated, Makes}
use Rattle.pk_raster.specs.Filling.{more, Goes}
use Rattle.pk_raster.proofs.Rows.{repeats_next, repeats_none, single_back, single_next, repeated_same, replicate_add, cut}

more_none : (r : ℕ → ℕ) (i : ℕ) → more 0 r i ≡ r i
unfolding more
more_none r zero = zero-add (r 0)
more_none r (suc i) = refl

more_same : (g : ℕ) (r s : ℕ → ℕ) → ((i : ℕ) → r i ≡ s i) → (i : ℕ) → more g r i ≡ more g s i
unfolding more
more_same g r s h zero = ap (λ n. g + n) (h 0)
more_same g r s h (suc i) = h (suc i)

pub start : (w c : ℕ) (items : List Item) (rows : List (List ℕ)) → Makes w c items rows → Goes w c [] 0 items rows
start w c items rows m = record {
  base = m.base;
  joined = m.joined;
  wide = m.wide;
  single = m.single;
  once = λ h. absurd (omega (arith, h));
  all = m.all ∙ repeated_same _ _ m.base (λ i. sym (more_none (repeats w 0 items) i));
}

pub finish : (w c : ℕ) (items : List Item) (rows : List (List ℕ)) → Goes w c [] 0 items rows → Makes w c items rows
finish w c items rows m = record {
  base = m.base;
  joined = m.joined;
  wide = m.wide;
  single = m.single;
  all = m.all ∙ repeated_same _ _ m.base (λ i. more_none (repeats w 0 items) i);
}

-- ---- a repeat

pub below_w : (p w : ℕ) → p < w → p / w ≡ 0
below_w p w h = div-eq_of_lt h

zero_place : (i n : ℕ) → where_same 0 (suc i) n ≡ 0
zero_place i n = grind (arith, nat_tests)

pub gives_zero : (w p n : ℕ) (is : List Item) → p < w → repeats w p (Repeat n ∷ is) 0 ≡ n + repeats w p is 0
unfolding repeats
gives_zero w p n is h = ap (λ q. where_same q 0 n + repeats w p is 0) (below_w p w h)

gives_suc : (w p n : ℕ) (is : List Item) (i : ℕ) → p < w → repeats w p (Repeat n ∷ is) (suc i) ≡ repeats w p is (suc i)
unfolding repeats
gives_suc w p n is i h = ap (λ q. where_same q (suc i) n + repeats w p is (suc i)) (below_w p w h) ∙ ap (λ k. k + repeats w p is (suc i)) (zero_place i n) ∙ zero-add (repeats w p is (suc i))

more_gives : (w p n : ℕ) (is : List Item) → p < w → (i : ℕ) → more 0 (repeats w p (Repeat n ∷ is)) i ≡ more n (repeats w p is) i
unfolding more
more_gives w p n is h zero = zero-add (repeats w p (Repeat n ∷ is) 0) ∙ gives_zero w p n is h
more_gives w p n is h (suc i) = gives_suc w p n is i h

pub repeat_on : (w c n : ℕ) (part : List ℕ) (is : List Item) (rows : List (List ℕ)) → length part < w → Goes w c part 0 (Repeat n ∷ is) rows → Goes w c part n is rows
unfolding colours Single
repeat_on w c n part is rows h g = record {
  base = g.base;
  joined = g.joined;
  wide = g.wide;
  single = g.single.1;
  once = λ k. ap (repeats w (length part) is) (sym (below_w (length part) w h)) ∙ g.single.0;
  all = g.all ∙ repeated_same _ _ g.base (more_gives w (length part) n is h);
}

pub repeat_back : (w c n : ℕ) (part : List ℕ) (is : List Item) (rows : List (List ℕ)) → length part < w → 0 < n → Goes w c part n is rows → Goes w c part 0 (Repeat n ∷ is) rows
unfolding colours Single
repeat_back w c n part is rows h l g = record {
  base = g.base;
  joined = g.joined;
  wide = g.wide;
  single = (ap (repeats w (length part) is) (below_w (length part) w h) ∙ g.once l, g.single);
  once = λ k. absurd (omega (arith, k));
  all = g.all ∙ repeated_same _ _ g.base (λ i. sym (more_gives w (length part) n is h i));
}

pub repeat_twice : (w c g n : ℕ) (part : List ℕ) (is : List Item) (rows : List (List ℕ)) → length part < w → 0 < g → 0 < n → Goes w c part g (Repeat n ∷ is) rows → ⊥
repeat_twice w c g n part is rows h l k r = let e = r.once l in let f = gives_zero w (length part) n is h in omega (arith, e, f, k)

-- ---- a run inside a row

pub longer : (part : List ℕ) (n c : ℕ) → length (part ++ replicate n c) ≡ length part + n
longer part n c = length-append part (replicate n c) ∙ ap (λ k. length part + k) (length-replicate n c)

pub inside : (w c g n : ℕ) (part : List ℕ) (is : List Item) (rows : List (List ℕ)) → Goes w c part g (Run n ∷ is) rows → Goes w (1 - c) (part ++ replicate n c) g is rows
unfolding colours Single repeats
inside w c g n part is rows r =
    let e = sym (longer part n c) in
    let S : ℕ → Type 0 = λ p. Single w p is in
    let O : ℕ → Type 0 = λ p. 0 < g → repeats w p is 0 ≡ 0 in
    record {
      base = r.base;
      joined = r.joined ∙ sym (append_assoc part (replicate n c) (colours (1 - c) is));
      wide = r.wide;
      single = subst S e r.single;
      once = subst O e r.once;
      all = r.all ∙ ap (λ p. repeated (more g (repeats w p is)) r.base) e;
    }

pub inside_back : (w c g n : ℕ) (part : List ℕ) (is : List Item) (rows : List (List ℕ)) → Goes w (1 - c) (part ++ replicate n c) g is rows → Goes w c part g (Run n ∷ is) rows
unfolding colours Single repeats
inside_back w c g n part is rows r =
    let e = longer part n c in
    let S : ℕ → Type 0 = λ p. Single w p is in
    let O : ℕ → Type 0 = λ p. 0 < g → repeats w p is 0 ≡ 0 in
    record {
      base = r.base;
      joined = r.joined ∙ append_assoc part (replicate n c) (colours (1 - c) is);
      wide = r.wide;
      single = subst S e r.single;
      once = subst O e r.once;
      all = r.all ∙ ap (λ p. repeated (more g (repeats w p is)) r.base) e;
    }

-- ---- a run that fills the row

-- the first row of a list of whole rows, cut off
front_row : (w : ℕ) (base : List (List ℕ)) (xs ys : List ℕ) → 0 < w → length xs ≡ w → concat base ≡ xs ++ ys → AllByRecursion (λ row. length row ≡ w) base →
    (rest : List (List ℕ)) × (base ≡ xs ∷ rest) × (concat rest ≡ ys) × AllByRecursion (λ row. length row ≡ w) rest
front_row w [] xs ys h l e a = absurd (omega (arith, ap length e, length-append xs ys, l, h))
front_row w (row ∷ rest) xs ys h l e a =
    let r = cut row (concat rest) xs ys (a.0 ∙ sym l) e in
    (rest, ap (λ v. v ∷ rest) r.0, r.1, a.1)

-- the pixels of a run in two parts
parts : (part : List ℕ) (c m n : ℕ) (is : List Item) → m ≤ n → part ++ colours c (Run n ∷ is) ≡ (part ++ replicate m c) ++ colours c (Run (n - m) ∷ is)
unfolding colours
parts part c m n is h =
    let e = replicate_add m (n - m) c in
    let s : n ≡ m + (n - m) = omega arith in
    ap (λ k. part ++ (replicate k c ++ colours (1 - c) is)) s ∙ ap (λ xs. part ++ (xs ++ colours (1 - c) is)) e
    ∙ ap (λ xs. part ++ xs) (append_assoc (replicate m c) (replicate (n - m) c) (colours (1 - c) is))
    ∙ sym (append_assoc part (replicate m c) (replicate (n - m) c ++ colours (1 - c) is))

module _ (w c g m n : ℕ) (part : List ℕ) (is : List Item) (h : 0 < w) (fills : length part + m ≡ w) (k : m ≤ n) where
  to_next : (i : ℕ) → repeats w (length part) (Run n ∷ is) (suc i) ≡ repeats w 0 (Run (n - m) ∷ is) i
  unfolding repeats
  to_next i = ap (λ q. repeats w q is (suc i)) (omega (arith, fills, k)) ∙ repeats_next w h (0 + (n - m)) is i

  to_first : repeats w (length part) (Run n ∷ is) 0 ≡ 0
  unfolding repeats
  to_first = ap (λ q. repeats w q is 0) (omega (arith, fills, k)) ∙ repeats_none w h (n - m) is

  counts : (i : ℕ) → more 0 (repeats w 0 (Run (n - m) ∷ is)) i ≡ repeats w (length part) (Run n ∷ is) (suc i)
  counts i = more_none (repeats w 0 (Run (n - m) ∷ is)) i ∙ sym (to_next i)

  pub single_on : Single w (length part) (Run n ∷ is) → Single w 0 (Run (n - m) ∷ is)
  unfolding Single
  single_on s =
      let P : ℕ → Type 0 = λ q. Single w q is in
      let e : length part + n ≡ w + (0 + (n - m)) = omega (arith, fills, k) in
      single_next w h (0 + (n - m)) is (subst P e s)

  single_from : Single w 0 (Run (n - m) ∷ is) → Single w (length part) (Run n ∷ is)
  unfolding Single
  single_from s =
      let P : ℕ → Type 0 = λ q. Single w q is in
      let e : w + (0 + (n - m)) ≡ length part + n = omega (arith, fills, k) in
      subst P e (single_back w h (0 + (n - m)) is s)

  first_count : more g (repeats w (length part) (Run n ∷ is)) 0 ≡ g
  unfolding more
  first_count = let e = to_first in omega (arith, e)

  spread : (rest : List (List ℕ)) → repeated (more g (repeats w (length part) (Run n ∷ is))) ((part ++ replicate m c) ∷ rest) ≡ replicate (1 + g) (part ++ replicate m c) ++ repeated (more 0 (repeats w 0 (Run (n - m) ∷ is))) rest
  unfolding repeated more
  spread rest =
      ap (λ q. replicate (1 + q) (part ++ replicate m c) ++ repeated (λ i. repeats w (length part) (Run n ∷ is) (suc i)) rest) first_count
      ∙ ap (λ xs. replicate (1 + g) (part ++ replicate m c) ++ xs) (repeated_same _ _ rest (λ i. sym (counts i)))

  pub full : (rows : List (List ℕ)) → Goes w c part g (Run n ∷ is) rows → (rest : List (List ℕ)) × (rows ≡ replicate (1 + g) (part ++ replicate m c) ++ rest) × Goes w c [] 0 (Run (n - m) ∷ is) rest
  full rows r =
      let f = front_row w r.base (part ++ replicate m c) (colours c (Run (n - m) ∷ is)) h (longer part m c ∙ fills) (r.joined ∙ parts part c m n is k) r.wide in (
        repeated (more 0 (repeats w 0 (Run (n - m) ∷ is))) f.0,
        r.all ∙ ap (repeated (more g (repeats w (length part) (Run n ∷ is)))) f.1 ∙ spread f.0,
        record { base = f.0; joined = f.2; wide = f.3; single = single_on r.single; once = λ l. absurd (omega (arith, l)); all = refl },
      )

  pub full_back : (rest : List (List ℕ)) → Goes w c [] 0 (Run (n - m) ∷ is) rest → Goes w c part g (Run n ∷ is) (replicate (1 + g) (part ++ replicate m c) ++ rest)
  full_back rest r =
      record {
        base = (part ++ replicate m c) ∷ r.base;
        joined = ap (λ xs. (part ++ replicate m c) ++ xs) r.joined ∙ sym (parts part c m n is k);
        wide = (longer part m c ∙ fills, r.wide);
        single = single_from r.single;
        once = λ l. to_first;
        all = ap (λ xs. replicate (1 + g) (part ++ replicate m c) ++ xs) r.all ∙ sym (spread r.base);
      }

-- ---- the end

pub ended : (w c : ℕ) → Goes w c [] 0 [] []
unfolding colours Single repeated
ended w c = record { base = []; joined = refl; wide = tt; single = tt; once = λ l. absurd (omega (arith, l)); all = refl }

pub no_rows : (w c g : ℕ) (part : List ℕ) (rows : List (List ℕ)) → 0 < w → length part < w → Goes w c part g [] rows → rows ≡ []
unfolding colours repeated
no_rows w c g part rows h l r = none r.base r.wide (r.joined ∙ append-nil part) r.all
  where
    none : (base : List (List ℕ)) → AllByRecursion (λ row. length row ≡ w) base → concat base ≡ part → rows ≡ repeated (more g (repeats w (length part) [])) base → rows ≡ []
    none [] a e q = q
    none (row ∷ rest) a e q = absurd (omega (arith, ap length e, length-append row (concat rest), a.0, l))

repeated_long : (f : ℕ → ℕ) (row : List ℕ) (rest : List (List ℕ)) → 1 + f 0 ≤ length (repeated f (row ∷ rest))
unfolding repeated
repeated_long f row rest = omega (arith, length-append (replicate (1 + f 0) row) (repeated (λ i. f (suc i)) rest), length-replicate (1 + f 0) row)

first_more : (g : ℕ) (r : ℕ → ℕ) → g ≤ more g r 0
unfolding more
first_more g r = omega arith

-- a row that is begun is made
pub at_least : (w c g : ℕ) (part : List ℕ) (is : List Item) (rows : List (List ℕ)) → 0 < length part → Goes w c part g is rows → 1 + g ≤ length rows
at_least w c g part is rows h r = go r.base r.joined r.all
  where
    go : (base : List (List ℕ)) → concat base ≡ part ++ colours c is → rows ≡ repeated (more g (repeats w (length part) is)) base → 1 + g ≤ length rows
    go [] e q = absurd (omega (arith, ap length e, length-append part (colours c is), h))
    go (row ∷ rest) e q = omega (arith, ap length q, repeated_long (more g (repeats w (length part) is)) row rest, first_more g (repeats w (length part) is))

pub at_least_some : (w c g : ℕ) (part : List ℕ) (is : List Item) (rows : List (List ℕ)) → 0 < length rows → Goes w c part g is rows → 1 + g ≤ length rows
unfolding repeated
at_least_some w c g part is rows h r = go r.base r.all
  where
    go : (base : List (List ℕ)) → rows ≡ repeated (more g (repeats w (length part) is)) base → 1 + g ≤ length rows
    go [] q = absurd (omega (arith, ap length q, h))
    go (row ∷ rest) q = omega (arith, ap length q, repeated_long (more g (repeats w (length part) is)) row rest, first_more g (repeats w (length part) is))

use Rattle.std.proofs.Common.{◌≡◌, ℕ, ◌+◌, ◌*◌, ◌<◌, ◌≤◌, inl, inr, refl, sym, ◌∙◌, ap, subst, arith, List, [], ◌∷◌, ◌++◌, length, drop, length-append, append_assoc, zero-add}
use Rattle.std.specs.Prelude.{Option, None, Some}
use Rattle.std.proofs.Math.Nat.{mul-le-mul_left}
use Rattle.pk_raster.specs.declared.board.Board.{Board}
use Rattle.pk_raster.specs.declared.board.RasterFault.{RasterFault}
use Rattle.pk_raster.specs.declared.board.RasterFault.TheVariants as fault
use Rattle.pk_raster.specs.Runs.{Item, Run, Repeat, Single, repeats}
use Rattle.pk_raster.specs.Items.{item_at, Spells}
use Rattle.pk_raster.specs.Runs.{pixels}
use Rattle.pk_raster.specs.Reading.{Misses}
use Rattle.pk_raster.specs.Filling.{Goes}
use Rattle.pk_raster.specs.Progress.{Left, Reached, Refuses}
use Rattle.pk_raster.specs.Raster.{FaultIs}
use Rattle.pk_raster.proofs.Goes.{no_rows, repeat_on, repeat_back, repeat_twice, gives_zero, at_least_some, below_w}

pub Spells-append : (f : ℕ) (xs : List ℕ) (is : List Item) (rest : List ℕ) (js : List Item) (more : List ℕ) → Spells f xs is rest → Spells f rest js more → Spells f xs (is ++ js) more
unfolding Spells
Spells-append f xs [] rest js more s t = let P : List ℕ → Type 0 = λ ys. Spells f ys js more in subst P (sym s) t
Spells-append f xs (i ∷ is) rest js more s t = (s.0, s.1, Spells-append f s.0 is rest js more s.2 t)

pub spells_one : (f : ℕ) (xs : List ℕ) (i : Item) (more : List ℕ) → item_at f xs ≡ Some (i, more) → Spells f xs (i ∷ []) more
unfolding Spells
spells_one f xs i more e = (more, e, refl)

pub pixels-append : (w : ℕ) (is js : List Item) → pixels w (is ++ js) ≡ pixels w is + pixels w js
unfolding pixels
pixels-append w [] js = sym (zero-add (pixels w js))
pixels-append w (Run n ∷ is) js = let e = pixels-append w is js in omega (arith, e)
pixels-append w (Repeat n ∷ is) js = let e = pixels-append w is js in omega (arith, e)

pub pixels_run : (w n : ℕ) (is : List Item) → pixels w (Run n ∷ is) ≡ n + pixels w is
unfolding pixels
pixels_run w n is = refl

pub pixels_repeat : (w n : ℕ) (is : List Item) → pixels w (Repeat n ∷ is) ≡ n * w + pixels w is
unfolding pixels
pixels_repeat w n is = refl

pub pixels_none : (w : ℕ) → pixels w [] ≡ 0
unfolding pixels
pixels_none w = refl

same_item : (i j : Item) (xs ys : List ℕ) → ◌≡◌ {A = Option (Item × List ℕ)} (Some (i, xs)) (Some (j, ys)) → (j ≡ i) × (ys ≡ xs)
same_item i j xs ys e = let p : ◌≡◌ {A = Item × List ℕ} (i, xs) (j, ys) = cc in (sym (ap (λ (x : Item × List ℕ). x.0) p), sym (ap (λ (x : Item × List ℕ). x.1) p))

-- what is left behind an item
pub record Next (f c w : ℕ) (more : List ℕ) (i : Item) (part : List ℕ) (g : ℕ) (rows : List (List ℕ)) : Type 0 where
  pub items : List Item
  pub spare : List ℕ
  pub spelled : Spells f more items spare
  pub few : length spare ≤ 1
  pub goes : Goes w c part g (i ∷ items) rows
  pub whole : pixels w (i ∷ items) + g * w + length part ≡ length rows * w

module _ (f c w g : ℕ) (xs part : List ℕ) (rows : List (List ℕ)) (some : 0 < length rows) (below : length part < w) (l : Left f c w xs part g rows) where
  nonempty : (items : List Item) → Goes w c part g items rows → items ≡ [] → ⊥
  nonempty items goes e =
      let G : List Item → Type 0 = λ is. Goes w c part g is rows in
      let n = no_rows w c g part rows (omega arith) below (subst G e goes) in
      omega (arith, ap length n, some)

  pub next : (i : Item) (more : List ℕ) → item_at f xs ≡ Some (i, more) → Next f c w more i part g rows
  unfolding Spells
  next i more e = go l.items l.spelled l.goes l.whole
    where
      go : (items : List Item) → Spells f xs items l.spare → Goes w c part g items rows → pixels w items + g * w + length part ≡ length rows * w → Next f c w more i part g rows
      go [] s goes q = absurd (nonempty [] goes refl)
      go (j ∷ is) s goes q =
          let o = same_item i j more s.0 (sym e ∙ s.1) in
          let S : List ℕ → Type 0 = λ ys. Spells f ys is l.spare in
          let G : Item → Type 0 = λ k. Goes w c part g (k ∷ is) rows in
          let Q : Item → Type 0 = λ k. pixels w (k ∷ is) + g * w + length part ≡ length rows * w in
          record { items = is; spare = l.spare; spelled = subst S o.1 s.2; few = l.few; goes = subst G o.0 goes; whole = subst Q o.0 q }

  pub nothing : item_at f xs ≡ None → ⊥
  unfolding Spells
  nothing e = go l.items l.spelled l.goes
    where
      go : (items : List Item) → Spells f xs items l.spare → Goes w c part g items rows → ⊥
      go [] s goes = nonempty [] goes refl
      go (j ∷ is) s goes = let q : ◌≡◌ {A = Option (Item × List ℕ)} None (Some (j, s.0)) = sym e ∙ s.1 in cc

pub onto : (f : ℕ) (xs : List ℕ) (i : Item) (more : List ℕ) (is : List Item) (spare : List ℕ) → item_at f xs ≡ Some (i, more) → Spells f more is spare → Spells f xs (i ∷ is) spare
unfolding Spells
onto f xs i more is spare e s = (more, e, s)

single_on : (w n p : ℕ) (is : List Item) → p < w → Single w p (Repeat n ∷ is) → Single w p is × (0 < n → repeats w p is 0 ≡ 0)
unfolding Single
single_on w n p is h s = (s.1, λ k. ap (repeats w p is) (sym (below_w p w h)) ∙ s.0)

-- ---- the loop

module _ (f c0 w h : ℕ) (ns : List ℕ) (at c : ℕ) (b : Board) (r : Reached f c0 w h ns at c b) (room : b.repeat < b.left) (below : b.filled < b.width) where
  pub part_below : length r.now < w
  part_below = let s = r.shows.filled in omega (arith, s, r.width, below)

  pub rest_rows : (rows rest : List (List ℕ)) → length rows ≡ h → rows ≡ r.made ++ rest → length rest ≡ b.left
  rest_rows rows rest l e = omega (arith, l, ap length e, length-append r.made rest, r.left)

  -- a refusal, from what cannot be behind the place
  pub refuse : (e : RasterFault) → FaultIs f w h ns e → ((rest : List (List ℕ)) → length rest ≡ b.left → Left f c w (drop at ns) r.now b.repeat rest → ⊥) → Refuses f c0 w h ns e
  refuse e says none = record { says = says; none = λ ne rows l k. (let a = r.ahead rows l k in none a.0 (rest_rows rows a.0 k a.1) a.2) }

  pub short_sum : pixels w r.done < h * w
  short_sum =
      let s = r.sum in
      let e : h ≡ length r.made + b.left = omega (arith, r.left) in
      let q : w * (length r.made + b.repeat + 1) ≤ w * h = mul-le-mul_left w (omega (arith, e, room)) in
      omega (arith, s, q, part_below)

  pub missed : (e : RasterFault) → Misses f (drop at ns) e → Refuses f c0 w h ns e
  missed fault.RunsShort m = refuse fault.RunsShort (r.done, drop at ns, r.spelled, m.0, m.1, short_sum) (λ rest k l. nothing f c w b.repeat (drop at ns) r.now rest (omega (arith, k, room)) part_below l m.0)
  missed fault.RepeatTwice m = refuse fault.RepeatTwice (r.done, drop at ns, r.spelled, inr (short_sum, m.1)) (λ rest k l. nothing f c w b.repeat (drop at ns) r.now rest (omega (arith, k, room)) part_below l m.0)
  missed fault.RunsPast m = absurd m
  missed fault.BadLength m = absurd m
  missed fault.OutOfMemory m = absurd m

  module _ (n : ℕ) (to : ℕ) (some : 0 < n) (within : to ≤ length ns) where
    module _ (e : item_at f (drop at ns) ≡ Some (Repeat n, drop to ns)) where
      spelled : Spells f ns (r.done ++ Repeat n ∷ []) (drop to ns)
      spelled = Spells-append f ns r.done (drop at ns) (Repeat n ∷ []) (drop to ns) r.spelled (spells_one f (drop at ns) (Repeat n) (drop to ns) e)

      sum : pixels w (r.done ++ Repeat n ∷ []) ≡ (length r.made + b.repeat) * w + length r.now + n * w
      sum = let p = pixels-append w r.done (Repeat n ∷ []) in let q = pixels_repeat w n [] in let z = pixels_none w in omega (arith, p, q, z, r.sum)

      alone : repeats w (length r.now) (Repeat n ∷ []) 0 ≡ 0 → ⊥
      alone o = omega (arith, o, gives_zero w (length r.now) n [] part_below, some)

      pub twice : 0 < b.repeat → Refuses f c0 w h ns fault.RepeatTwice
      twice g = refuse fault.RepeatTwice (r.done ++ Repeat n ∷ [], drop to ns, spelled, inl (n, (r.done, refl, short_sum), λ s. alone ((r.single (Repeat n ∷ []) s).1 g)))
          (λ rest k l. (let x = next f c w b.repeat (drop at ns) r.now rest (omega (arith, k, room)) part_below l (Repeat n) (drop to ns) e in
          repeat_twice w c b.repeat n r.now x.items rest part_below g some x.goes))

      pub repeat_past : b.repeat ≡ 0 → b.left ≤ n → Refuses f c0 w h ns fault.RunsPast
      repeat_past z m =
          let q : w * b.left ≤ w * n = mul-le-mul_left w m in
          let t : h * w ≡ (length r.made + b.left) * w = ap (λ k. k * w) (omega (arith, r.left)) in
          refuse fault.RunsPast (r.done ++ Repeat n ∷ [], drop to ns, spelled, inr (n, (r.done, refl, short_sum), (let s = sum in omega (arith, s, q, t))))
          (λ rest k l. (let x = next f c w b.repeat (drop at ns) r.now rest (omega (arith, k, room)) part_below l (Repeat n) (drop to ns) e in
          let G : ℕ → Type 0 = λ g. Goes w c r.now g (Repeat n ∷ x.items) rest in
          let y = repeat_on w c n r.now x.items rest part_below (subst G z x.goes) in
          omega (arith, at_least_some w c n r.now x.items rest (omega (arith, k, room)) y, k, m)))

      pub repeated_on : b.repeat ≡ 0 → n < b.left → Reached f c0 w h ns to c (record b { repeat = n })
      repeated_on z m = record {
        now = r.now;
        made = r.made;
        shows = record { row = r.shows.row; rows = r.shows.rows; filled = r.shows.filled; below = r.shows.below; fits = r.shows.fits };
        left = r.left;
        done = r.done ++ Repeat n ∷ [];
        spelled = spelled;
        sum = (let s = sum in let t : (length r.made + b.repeat) * w ≡ (length r.made + 0) * w = ap (λ k. (length r.made + k) * w) z in omega (arith, s, t));
        ahead = λ rows l k. (let a = r.ahead rows l k in
            let len = rest_rows rows a.0 k a.1 in
            let x = next f c w b.repeat (drop at ns) r.now a.0 (omega (arith, len, room)) part_below a.2 (Repeat n) (drop to ns) e in
            let G : ℕ → Type 0 = λ g. Goes w c r.now g (Repeat n ∷ x.items) a.0 in
            let y = repeat_on w c n r.now x.items a.0 part_below (subst G z x.goes) in
            let q = x.whole in
            let t : b.repeat * w ≡ 0 * w = ap (λ j. j * w) z in
            let p = pixels_repeat w n x.items in
            (a.0, a.1, record { items = x.items; spare = x.spare; spelled = x.spelled; few = x.few; goes = y; whole = omega (arith, q, t, p) }));
        back = λ rest l. r.back rest (
            let G : ℕ → Type 0 = λ g. Goes w c r.now g (Repeat n ∷ l.items) rest in
            let t : b.repeat * w ≡ 0 * w = ap (λ j. j * w) z in
            let p = pixels_repeat w n l.items in
            let q = l.whole in
            record {
              items = Repeat n ∷ l.items;
              spare = l.spare;
              spelled = onto f (drop at ns) (Repeat n) (drop to ns) l.items l.spare e l.spelled;
              few = l.few;
              goes = subst G (sym z) (repeat_back w c n r.now l.items rest part_below some l.goes);
              whole = omega (arith, q, t, p);
            });
        single = λ is s. (let o = r.single (Repeat n ∷ is) (subst (Single w 0) (append_assoc r.done (Repeat n ∷ []) is) s) in single_on w n (length r.now) is part_below o.0);
        width = r.width;
        closed = λ k. absurd (omega (arith, k, room));
        within = within;
        room = λ k. m;
      }

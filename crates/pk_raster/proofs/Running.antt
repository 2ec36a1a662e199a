use Rattle.std.proofs.Common.{◌≡◌, ℕ, ◌+◌, ◌-◌, ◌*◌, ◌^◌, ◌<◌, ◌≤◌, inl, refl, sym, ◌∙◌, ap, subst, arith, List, [], ◌∷◌, ◌++◌, length, drop, min, length-append, append_assoc}
use Rattle.std.proofs.Common.{Bool, true, false}
use mathlib.Core.Bool.{not}
use Rattle.std.specs.Prelude.{Some}
use Rattle.std.proofs.Math.Nat.{mul-le-mul_left}
use Rattle.pk_raster.specs.declared.board.Board.{Board}
use Rattle.pk_raster.specs.declared.board.RasterFault.{RasterFault}
use Rattle.pk_raster.specs.declared.board.RasterFault.TheVariants as fault
use Rattle.pk_raster.specs.declared.items.Piece.TheVariants as piece
use Rattle.pk_raster.specs.Runs.{Item, Run, Repeat, Single}
use Rattle.pk_raster.specs.Items.{item_at, Spells}
use Rattle.pk_raster.specs.Runs.{pixels}
use Rattle.pk_raster.specs.Reading.{IsItem, Takes}
use Rattle.pk_raster.specs.Filling.{Ran, Passes, PastIs}
use Rattle.pk_raster.specs.Bits.{colour}
use Rattle.pk_raster.specs.Progress.{Left, Reached, Refuses}
use Rattle.pk_raster.proofs.Reaching.{Spells-append, spells_one, pixels-append, pixels_run, pixels_none, next, onto, refuse, part_below, rest_rows, short_sum}

-- what a read item is
pub record Found (f : ℕ) (ns : List ℕ) (at to k : ℕ) (make : ℕ → Item) : Type 0 where
  pub n : ℕ
  pub count : k ≡ min n (2 ^ 40)
  pub item : item_at f (drop at ns) ≡ Some (make n, drop to ns)

pub run_taken : (f : ℕ) (ns : List ℕ) (at to k : ℕ) → Takes f ns at (piece.Run k) to → Found f ns at to k Run
run_taken f ns at to k t = go t.item t.count t.found
  where
    go : (i : Item) → IsItem (piece.Run k) i → item_at f (drop at ns) ≡ Some (i, drop to ns) → Found f ns at to k Run
    go (Run n) e g = record { n = n; count = e; item = g }
    go (Repeat n) e g = absurd e

pub repeat_taken : (f : ℕ) (ns : List ℕ) (at to k : ℕ) → Takes f ns at (piece.Repeat k) to → Found f ns at to k Repeat
repeat_taken f ns at to k t = go t.item t.count t.found
  where
    go : (i : Item) → IsItem (piece.Repeat k) i → item_at f (drop at ns) ≡ Some (i, drop to ns) → Found f ns at to k Repeat
    go (Run n) e g = absurd e
    go (Repeat n) e g = record { n = n; count = e; item = g }

-- below the cap the count is the number
pub exact : (f : ℕ) (ns : List ℕ) (at to k : ℕ) (make : ℕ → Item) → k < 2 ^ 40 → Found f ns at to k make → item_at f (drop at ns) ≡ Some (make k, drop to ns)
exact f ns at to k make h t =
    let e : t.n ≡ k = (let q = t.count in omega (arith, q, h)) in
    let P : ℕ → Type 0 = λ n. item_at f (drop at ns) ≡ Some (make n, drop to ns) in
    subst P e t.item

module _ (f c0 h : ℕ) (ns : List ℕ) (at c : ℕ) (b : Board) (r : Reached f c0 b.width h ns at c b) (room : b.repeat < b.left) (below : b.filled < b.width)
    (n to : ℕ) (within : to ≤ length ns) (e : item_at f (drop at ns) ≡ Some (Run n, drop to ns)) where
  spelled : Spells f ns (r.done ++ Run n ∷ []) (drop to ns)
  spelled = Spells-append f ns r.done (drop at ns) (Run n ∷ []) (drop to ns) r.spelled (spells_one f (drop at ns) (Run n) (drop to ns) e)

  sum : pixels b.width (r.done ++ Run n ∷ []) ≡ (length r.made + b.repeat) * b.width + length r.now + n
  sum = let p = pixels-append b.width r.done (Run n ∷ []) in let q = pixels_run b.width n [] in let z = pixels_none b.width in omega (arith, p, q, z, r.sum)

  pub run_long : h * b.width < 2 ^ 40 → 2 ^ 40 ≤ n → Refuses f c0 b.width h ns fault.RunsPast
  run_long l m = refuse f c0 b.width h ns at c b r room below fault.RunsPast (r.done ++ Run n ∷ [], drop to ns, spelled, inl (n, (r.done, refl, short_sum f c0 b.width h ns at c b r room below), (let s = sum in omega (arith, s, l, m))))
      (λ rest k left. (let x = next f c b.width b.repeat (drop at ns) r.now rest (omega (arith, k, room)) (part_below f c0 b.width h ns at c b r room below) left (Run n) (drop to ns) e in
      let p = pixels_run b.width n x.items in
      let q = x.whole in
      let t : length rest * b.width ≡ b.left * b.width = ap (λ j. j * b.width) k in
      let u : b.width * b.left ≤ b.width * h = mul-le-mul_left b.width (omega (arith, r.left)) in
      omega (arith, p, q, t, u, l, m)))

  run_past : Passes c n b r.now → Refuses f c0 b.width h ns fault.RunsPast
  run_past past = refuse f c0 b.width h ns at c b r room below fault.RunsPast
      (r.done ++ Run n ∷ [], drop to ns, spelled, inl (n, (r.done, refl, short_sum f c0 b.width h ns at c b r room below), (let s = sum in let t : h * b.width ≡ (length r.made + b.left) * b.width = ap (λ k. k * b.width) (omega (arith, r.left)) in let q = past.sum in omega (arith, s, t, q))))
      (λ rest k left. (let x = next f c b.width b.repeat (drop at ns) r.now rest (omega (arith, k, room)) (part_below f c0 b.width h ns at c b r room below) left (Run n) (drop to ns) e in
      omega (arith, past.none x.items rest x.goes, k)))

  pub lay_refused : (z : RasterFault) → PastIs c n b r.now z → Refuses f c0 b.width h ns z
  lay_refused fault.RunsPast p = run_past p
  lay_refused fault.RunsShort p = absurd p
  lay_refused fault.RepeatTwice p = absurd p
  lay_refused fault.BadLength p = absurd p
  lay_refused fault.OutOfMemory p = record { says = tt; none = λ ne. absurd (ne refl) }

  pub run_on : (new : Board) → Ran c n b r.now r.made new → (new.left ≡ 0 → (new.filled ≡ 0) × (new.repeat ≡ 0)) → (0 < new.left → new.repeat < new.left) → Reached f c0 b.width h ns to (1 - c) new
  run_on new ran closed more = record {
    now = ran.now;
    made = r.made ++ ran.news;
    shows = ran.shows;
    left = omega (arith, length-append r.made ran.news, ran.left, r.left);
    done = r.done ++ Run n ∷ [];
    spelled = spelled;
    sum = (let s = sum in let q = ran.sum in let t : (length (r.made ++ ran.news) + new.repeat) * b.width ≡ (length r.made + length ran.news + new.repeat) * b.width = ap (λ j. (j + new.repeat) * b.width) (length-append r.made ran.news) in omega (arith, s, q, t));
    ahead = λ rows l k. (let a = r.ahead rows l k in
        let len = rest_rows f c0 b.width h ns at c b r room below rows a.0 k a.1 in
        let x = next f c b.width b.repeat (drop at ns) r.now a.0 (omega (arith, len, room)) (part_below f c0 b.width h ns at c b r room below) a.2 (Run n) (drop to ns) e in
        let y = ran.ahead x.items a.0 x.goes in
        let t : length a.0 * b.width ≡ (length ran.news + length y.0) * b.width = ap (λ j. length j * b.width) y.1 ∙ ap (λ j. j * b.width) (length-append ran.news y.0) in (
          y.0,
          a.1 ∙ ap (λ v. r.made ++ v) y.1 ∙ sym (append_assoc r.made ran.news y.0),
          record {
            items = x.items;
            spare = x.spare;
            spelled = x.spelled;
            few = x.few;
            goes = y.2;
            whole = (let p = pixels_run b.width n x.items in let q = x.whole in let s = ran.sum in omega (arith, p, q, s, t));
          },
        ));
    back = λ rest l. (
        let t : length (ran.news ++ rest) * b.width ≡ (length ran.news + length rest) * b.width = ap (λ j. j * b.width) (length-append ran.news rest) in
        let L : List (List ℕ) → Type 0 = λ rows. Left f c0 b.width ns [] 0 rows in
        subst L (sym (append_assoc r.made ran.news rest)) (r.back (ran.news ++ rest) (record {
          items = Run n ∷ l.items;
          spare = l.spare;
          spelled = onto f (drop at ns) (Run n) (drop to ns) l.items l.spare e l.spelled;
          few = l.few;
          goes = ran.back l.items rest l.goes;
          whole = (let p = pixels_run b.width n l.items in let q = l.whole in let s = ran.sum in omega (arith, p, q, s, t));
        })));
    single = λ is s. (let o = r.single (Run n ∷ is) (subst (Single b.width 0) (append_assoc r.done (Run n ∷ []) is) s) in ran.single is o.0 o.1);
    width = ran.width;
    closed = closed;
    within = within;
    room = more;
  }

pub small_left : (f c0 w h : ℕ) (ns : List ℕ) (at c : ℕ) (b : Board) → Reached f c0 w h ns at c b → b.filled < b.width → h * w < 2 ^ 40 → b.left < 2 ^ 40
small_left f c0 w h ns at c b r below l =
    let p : b.left * 1 ≤ b.left * w = mul-le-mul_left b.left (omega (arith, r.width, below)) in
    let q : w * b.left ≤ w * h = mul-le-mul_left w (omega (arith, r.left)) in
    omega (arith, p, q, l)

pub colour_not : (x : Bool) → 1 - colour x ≡ colour (not x)
colour_not true = refl
colour_not false = refl

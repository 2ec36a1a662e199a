use Rattle.std.proofs.Common.{◌≡◌, ℕ, ◌+◌, ◌-◌, ◌*◌, ◌<◌, ◌≤◌, ◌≢◌, refl, sym, ◌∙◌, ap, subst, arith, List, [], ◌∷◌, length, drop, length-append}
use Rattle.std.proofs.lemmas.List.{append-nil, nil_from_length}
use Rattle.std.specs.Prelude.{replicate}
use Rattle.std.specs.List.{flat_map}
use Rattle.pk_raster.specs.declared.board.Board.{Board}
use Rattle.pk_raster.specs.declared.board.RasterFault.{RasterFault}
use Rattle.pk_raster.specs.declared.board.RasterFault.TheVariants as fault
use Rattle.bit_lanes.specs.Bits.{bits}
use Rattle.pk_raster.specs.Bits.{padded}
use Rattle.pk_raster.specs.Runs.{Item}
use Rattle.pk_raster.specs.Items.{Spells}
use Rattle.pk_raster.specs.Runs.{pixels}
use Rattle.pk_raster.specs.Filling.{Goes, IsFresh}
use Rattle.pk_raster.specs.Progress.{Left, Reached, Refuses}
use Rattle.pk_raster.specs.Raster.{IsRaster, FaultIs}
use Rattle.pk_raster.proofs.Goes.{start, finish, ended}
use Rattle.bit_lanes.specs.BitLaws.{bits_zeros}
use Rattle.pk_raster.proofs.Reaching.{pixels_none}
use Rattle.pk_raster.proofs.Positive.{some_pixels}

bits_nil : bits [] ≡ []
unfolding bits
bits_nil = refl

spells_nil : (f : ℕ) (ns : List ℕ) → Spells f ns [] ns
unfolding Spells
spells_nil f ns = refl

pub fresh : (f c : ℕ) (ns : List ℕ) (b : Board) → IsFresh b → Reached f c b.width b.left ns 0 c b
fresh f c ns b x = record {
  now = [];
  made = [];
  shows = record {
    row = ap bits x.row ∙ bits_zeros (length b.row.items) ∙ (let e : 8 * length b.row.items ≡ 8 * length b.row.items - 0 = omega arith in ap (λ j. replicate {A = ℕ} j 0) e);
    rows = ap bits x.rows ∙ bits_nil;
    filled = x.filled;
    below = omega (arith, x.filled, x.wide);
    fits = x.fits;
  };
  left = omega arith;
  done = [];
  spelled = spells_nil f ns;
  sum = (let t : (0 + b.repeat) * b.width ≡ 0 * b.width = ap (λ j. j * b.width) (omega (arith, x.repeat)) in let p = pixels_none b.width in omega (arith, t, p));
  ahead = λ rows l k. (let L : ℕ → Type 0 = λ g. Left f c b.width ns [] g rows in (rows, refl, subst L (sym x.repeat) l));
  back = λ rest l. (let L : ℕ → Type 0 = λ g. Left f c b.width ns [] g rest in subst L x.repeat l);
  single = λ is s. (s, λ k. absurd (omega (arith, k, x.repeat)));
  width = refl;
  closed = λ z. absurd (omega (arith, z, x.some));
  within = omega arith;
  room = λ k. omega (arith, x.repeat, k);
}

pub raster_left : (f c w h : ℕ) (ns : List ℕ) (rows : List (List ℕ)) → IsRaster f c w h ns rows → Left f c w ns [] 0 rows
raster_left f c w h ns rows x = record {
  items = x.items;
  spare = x.spare;
  spelled = x.spelled;
  few = x.few;
  goes = start w c x.items rows x.makes;
  whole = (let q = x.whole in let t : length rows * w ≡ h * w = ap (λ j. j * w) x.height in omega (arith, q, t));
}

left_raster : (f c w h : ℕ) (ns : List ℕ) (rows : List (List ℕ)) → length rows ≡ h → Left f c w ns [] 0 rows → IsRaster f c w h ns rows
left_raster f c w h ns rows k x = record {
  items = x.items;
  spare = x.spare;
  spelled = x.spelled;
  few = x.few;
  makes = finish w c x.items rows x.goes;
  height = k;
  whole = (let q = x.whole in let t : length rows * w ≡ h * w = ap (λ j. j * w) k in omega (arith, q, t));
}

pub refused : (f c w h : ℕ) (ns : List ℕ) (e : RasterFault) → Refuses f c w h ns e → e ≢ fault.OutOfMemory → (rows : List (List ℕ)) → IsRaster f c w h ns rows → ⊥
refused f c w h ns e r ne rows x = r.none ne rows (raster_left f c w h ns rows x) x.height

over : (f w : ℕ) (xs : List ℕ) (items : List Item) (spare : List ℕ) → 0 < w → Spells f xs items spare → length spare ≤ 1 → pixels w items ≡ 0 → length xs ≤ 1
unfolding Spells
over f w xs [] spare pos s few p = omega (arith, ap length s, few)
over f w xs (i ∷ is) spare pos s few p = absurd (omega (arith, some_pixels f w xs i s.0 is pos s.1, p))

module _ (f c0 w h : ℕ) (ns : List ℕ) (at c : ℕ) (b : Board) (r : Reached f c0 w h ns at c b) (done : b.left ≡ 0) where
  part_none : length r.now ≡ 0
  part_none = let s = r.shows.filled in omega (arith, s, (r.closed done).0)

  none_due : b.repeat ≡ 0
  none_due = (r.closed done).1

  height : length r.made ≡ h
  height = omega (arith, done, r.left)

  nothing_left : length (drop at ns) ≤ 1 → Left f c w (drop at ns) r.now b.repeat []
  nothing_left few =
      let n : [] ≡ r.now = sym (nil_from_length r.now part_none) in
      let G : List ℕ → ℕ → Type 0 = λ p g. Goes w c p g [] [] in
      record {
        items = [];
        spare = drop at ns;
        spelled = spells_nil f (drop at ns);
        few = few;
        goes = subst (λ p. G p b.repeat) n (subst (G []) (sym none_due) (ended w c));
        whole = (let p = pixels_none w in let t : b.repeat * w ≡ 0 * w = ap (λ j. j * w) none_due in let l = part_none in omega (arith, p, t, l));
      }

  pub found : (size : ℕ) → length b.row.items ≡ size → length (drop at ns) ≤ 1 → (rows : List (List ℕ)) × IsRaster f c0 w h ns rows × (bits b.rows.items ≡ flat_map (padded (8 * size)) rows)
  found size e few =
      let R : List (List ℕ) → Type 0 = λ rows. Left f c0 w ns [] 0 rows in
      (r.made, left_raster f c0 w h ns r.made height (subst R (append-nil r.made) (r.back [] (nothing_left few))), r.shows.rows ∙ ap (λ j. flat_map (padded (8 * j)) r.made) e)

  pub unused : 1 < length (drop at ns) → FaultIs f w h ns fault.BadLength
  unused l = (r.done, drop at ns, r.spelled, (let s = r.sum in let t : (length r.made + b.repeat) * w ≡ h * w = ap (λ j. j * w) (omega (arith, height, none_due)) in let p = part_none in omega (arith, s, t, p)), l)

  pub no_raster : 0 < w → 1 < length (drop at ns) → (rows : List (List ℕ)) → IsRaster f c0 w h ns rows → ⊥
  no_raster pos l rows x =
      let a = r.ahead rows (raster_left f c0 w h ns rows x) x.height in
      let z : length a.0 ≡ 0 = omega (arith, ap length a.1, length-append r.made a.0, height, x.height) in
      let t : length a.0 * w ≡ 0 * w = ap (λ j. j * w) z in
      let q = a.2.whole in
      let o = over f w (drop at ns) a.2.items a.2.spare pos a.2.spelled a.2.few (omega (arith, q, t)) in
      omega (arith, o, l)

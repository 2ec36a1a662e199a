use Rattle.std.proofs.Common.{◌≡◌, ℕ, zero, suc, ◌+◌, ◌*◌, ◌<◌, ◌≤◌, refl, sym, ◌∙◌, ap, arith, List, [], ◌∷◌, ◌++◌, length, take, drop, length-append, length-take, length-drop}
use Rattle.std.proofs.lemmas.List.{append-nil, take-append-drop}
use Rattle.std.proofs.lemmas.List.Concat.{flat_map-append}
use Rattle.std.proofs.lemmas.List.Folds.{concat-append}
use Rattle.std.specs.List.{concat, flat_map, AllByRecursion}
use Rattle.bit_lanes.specs.Bits.{bits}
use Rattle.pk_raster.specs.Bits.{padded}
use Rattle.pk_raster.specs.Raster.{IsPlain}
use Rattle.pk_raster.specs.Filling.{Copied}
use Rattle.bit_lanes.specs.BitLaws.{bits-append}

pub taken : (xs : List ℕ) (start n : ℕ) → start + n ≤ length xs → length (take n (drop start xs)) ≡ n
taken xs start n h = length-take n (drop start xs) ∙ (let e = length-drop start xs in omega (arith, e, h))

pub length_rows : (w : ℕ) (rows : List (List ℕ)) → AllByRecursion (λ row. length row ≡ w) rows → length (concat rows) ≡ length rows * w
length_rows w [] a = omega arith
length_rows w (row ∷ rows) a = let e = length_rows w rows a.1 in omega (arith, e, a.0, length-append row (concat rows))

pub plain_length : (w h : ℕ) (given : List ℕ) (rows : List (List ℕ)) → IsPlain w h given rows → (h * w ≤ length given) × (length given < h * w + 8)
plain_length w h given rows p =
    let e = ap length p.joined in
    let l = length_rows w rows p.wide in
    let a = length-append (concat rows) p.spare in
    let t : length rows * w ≡ h * w = ap (λ k. k * w) p.height in
    let f = p.few in
    (omega (arith, e, l, a, t), omega (arith, e, l, a, t, f))

all_push : (w : ℕ) (rows : List (List ℕ)) (row : List ℕ) → AllByRecursion (λ r. length r ≡ w) rows → length row ≡ w → AllByRecursion (λ r. length r ≡ w) (rows ++ row ∷ [])
all_push w [] row a e = (e, tt)
all_push w (r ∷ rows) row a e = (a.0, all_push w rows row a.1 e)

refl_nil : (n : ℕ) → ◌≡◌ {A = List ℕ} [] (take n [])
refl_nil zero = refl
refl_nil (suc n) = refl

take_sum : (a b : ℕ) (xs : List ℕ) → take a xs ++ take b (drop a xs) ≡ take (a + b) xs
take_sum zero b xs = ap (λ k. take k xs) (omega arith)
take_sum (suc a) zero [] = refl_nil (suc a + 0)
take_sum (suc a) (suc b) [] = refl_nil (suc a + suc b)
take_sum (suc a) b (x ∷ xs) = let e : suc a + b ≡ suc (a + b) = omega arith in ap (λ ys. x ∷ ys) (take_sum a b xs) ∙ sym (ap (λ n. take n (x ∷ xs)) e)

pub none_yet : (w stride : ℕ) (given bytes : List ℕ) → bytes ≡ [] → Copied w 0 stride given bytes
unfolding bits
none_yet w stride given bytes e = record { made = []; joined = (let z : 0 ≡ 0 * w = omega arith in ap (λ k. take k given) z); wide = tt; count = refl; shown = ap bits e }

pub one_more_row : (w n stride : ℕ) (given bytes row next : List ℕ) → Copied w n stride given bytes → n * w + w ≤ length given →
    bits row ≡ padded (8 * stride) (take w (drop (n * w) given)) → next ≡ bytes ++ row → Copied w (n + 1) stride given next
one_more_row w n stride given bytes row next c h shown e =
    let new : List ℕ = take w (drop (n * w) given) in
    record {
      made = c.made ++ new ∷ [];
      joined = concat-append c.made (new ∷ []) ∙ ap (λ xs. xs ++ (new ++ [])) c.joined ∙ ap (λ xs. take (n * w) given ++ xs) (append-nil new) ∙ take_sum (n * w) w given ∙ (let z : n * w + w ≡ (n + 1) * w = omega arith in ap (λ k. take k given) z);
      wide = all_push w c.made new c.wide (taken given (n * w) w h);
      count = length-append c.made (new ∷ []) ∙ ap (λ k. k + 1) c.count;
      shown = ap bits e ∙ bits-append bytes row ∙ ap (λ xs. xs ++ bits row) c.shown ∙ ap (λ xs. flat_map (padded (8 * stride)) c.made ++ xs) (shown ∙ sym (append-nil (padded (8 * stride) new))) ∙ sym (flat_map-append (padded (8 * stride)) c.made (new ∷ []));
    }

pub whole : (w h stride : ℕ) (given bytes : List ℕ) → Copied w h stride given bytes → h * w ≤ length given → length given < h * w + 8 → (made : List (List ℕ)) × IsPlain w h given made × (bits bytes ≡ flat_map (padded (8 * stride)) made)
whole w h stride given bytes c l m = (
  c.made,
  record {
    spare = drop (h * w) given;
    joined = ap (λ xs. xs ++ drop (h * w) given) c.joined ∙ take-append-drop (h * w) given;
    wide = c.wide;
    height = c.count;
    few = omega (arith, length-drop (h * w) given, m);
  },
  c.shown,
)

-- A raster draws its rows in one way.
use Rattle.std.proofs.Common.{◌≡◌, ℕ, zero, suc, ◌*◌, ◌<◌, ⊎_elim, refl, sym, ◌∙◌, ap, subst, arith, List, [], ◌∷◌, length}
use Rattle.std.specs.List.{concat, AllByRecursion}
use Rattle.std.proofs.lemmas.Bool.{cases_eq}
use Rattle.std.proofs.lemmas.Option.{same_Some}
use Rattle.bit_lanes.specs.Bits.{bits}
use Rattle.pk_raster.specs.Numbers.{nybbles}
use Rattle.pk_raster.specs.Runs.{Item, Makes, pixels, repeated, repeats, colours}
use Rattle.pk_raster.specs.Items.{Spells}
use Rattle.pk_raster.specs.Raster.{IsRaster, IsPlain}
use Rattle.pk_raster.specs.Glyph.{Draws, dyn_f, first_colour}
use Rattle.pk_raster.proofs.Rows.{cut}
use Rattle.pk_raster.proofs.Wholes.{length_rows}
use Rattle.pk_raster.proofs.Positive.{some_pixels}
use Rattle.pk_raster.proofs.Reaching.{pixels-append, pixels_none}

-- rows of one width are told by their pixels
pub wide_one : (w : ℕ) → 0 < w → (xs ys : List (List ℕ)) → AllByRecursion (λ row. length row ≡ w) xs → AllByRecursion (λ row. length row ≡ w) ys → concat xs ≡ concat ys → xs ≡ ys
wide_one w some [] [] a b e = refl
wide_one w some [] (y ∷ ys) a b e = absurd (let l = length_rows w (y ∷ ys) b in let z = ap length e in omega (arith, l, z, some))
wide_one w some (x ∷ xs) [] a b e = absurd (let l = length_rows w (x ∷ xs) a in let z = ap length e in omega (arith, l, z, some))
wide_one w some (x ∷ xs) (y ∷ ys) a b e =
    let both = cut x (concat xs) y (concat ys) (a.0 ∙ sym b.0) e in
    ap (λ r. r ∷ xs) both.0 ∙ ap (λ rs. y ∷ rs) (wide_one w some xs ys a.1 b.1 both.1)

-- nybbles spell the items of so many pixels in one way
pub items_one : (f w : ℕ) → 0 < w → (ns : List ℕ) (is js : List Item) (s t : List ℕ) → Spells f ns is s → Spells f ns js t → pixels w is ≡ pixels w js → is ≡ js
unfolding Spells
items_one f w some ns [] [] s t a b e = refl
items_one f w some ns [] (j ∷ js) s t a b e = absurd (let p = some_pixels f w ns j b.0 js some b.1 in omega (arith, p, e, pixels_none w))
items_one f w some ns (i ∷ is) [] s t a b e = absurd (let p = some_pixels f w ns i a.0 is some a.1 in omega (arith, p, e, pixels_none w))
items_one f w some ns (i ∷ is) (j ∷ js) s t a b e =
    let same : ◌≡◌ {A = Item × List ℕ} (i, a.0) (j, b.0) = same_Some _ _ (sym a.1 ∙ b.1) in
    let item : i ≡ j = ap (λ (p : Item × List ℕ). p.0) same in
    let more : a.0 ≡ b.0 = ap (λ (p : Item × List ℕ). p.1) same in
    let first : pixels w (i ∷ []) ≡ pixels w (j ∷ []) = ap (λ k. pixels w (k ∷ [])) item in
    let rest : pixels w is ≡ pixels w js = omega (arith, e, first, pixels-append w (i ∷ []) is, pixels-append w (j ∷ []) js) in
    ap (λ k. k ∷ is) item ∙ ap (λ ks. j ∷ ks) (items_one f w some b.0 is js s t (subst (λ xs. Spells f xs is s) more a.2) b.2 rest)

-- items make one list of rows
pub makes_one : (w c : ℕ) → 0 < w → (is js : List Item) (rows others : List (List ℕ)) → is ≡ js → Makes w c is rows → Makes w c js others → rows ≡ others
makes_one w c some is js rows others e a b =
    let joined : concat a.base ≡ concat b.base = a.joined ∙ ap (colours c) e ∙ sym b.joined in
    let base = wide_one w some a.base b.base a.wide b.wide joined in
    a.all ∙ ap (λ (ks : List Item). repeated (repeats w 0 ks) a.base) e ∙ ap (repeated (repeats w 0 js)) base ∙ sym b.all

raster_one : (f c w h : ℕ) → 0 < w → (ns : List ℕ) (rows others : List (List ℕ)) → IsRaster f c w h ns rows → IsRaster f c w h ns others → rows ≡ others
raster_one f c w h some ns rows others a b =
    makes_one w c some a.items b.items rows others (items_one f w some ns a.items b.items a.spare b.spare a.spelled b.spelled (a.whole ∙ sym b.whole)) a.makes b.makes

plain_one : (w h : ℕ) → 0 < w → (given : List ℕ) (rows others : List (List ℕ)) → IsPlain w h given rows → IsPlain w h given others → rows ≡ others
plain_one w h some given rows others a b =
    let count : length rows * w ≡ length others * w = ap (λ n. n * w) (a.height ∙ sym b.height) in
    let long : length (concat rows) ≡ length (concat others) = length_rows w rows a.wide ∙ count ∙ sym (length_rows w others b.wide) in
    wide_one w some rows others a.wide b.wide (cut (concat rows) a.spare (concat others) b.spare long (a.joined ∙ sym b.joined)).0

some_wide : (w h : ℕ) → 0 < h * w → 0 < w
some_wide zero h some = absurd (omega arith)
some_wide (suc w) h some = omega arith

pub draws_one : (flag w h : ℕ) (given : List ℕ) (rows others : List (List ℕ)) → Draws flag w h given rows → Draws flag w h given others → rows ≡ others
draws_one flag w h given rows others a b =
    ⊎_elim
    (λ z. (a.blank z).1 ∙ sym (b.blank z).1)
    (λ nz. (let some : 0 < h * w = omega (arith, nz) in
    ⊎_elim
    (λ e. plain_one w h (some_wide w h some) (bits given) rows others (a.plain some e) (b.plain some e))
    (λ ne. raster_one (dyn_f flag) (first_colour flag) w h (some_wide w h some) (nybbles given) rows others (a.runs some ne) (b.runs some ne))
    (cases_eq (dyn_f flag) 14)))
    (cases_eq (h * w) 0)

-- The bitmap of a glyph: its size, and rows without pixels.
use Rattle.std.proofs.Common.{◌≡◌, ℕ, zero, suc, ◌-◌, ◌*◌, ◌/◌, ◌%◌, ◌^◌, ◌<◌, ◌≤◌, refl, sym, ◌∙◌, ap, subst, arith, List, [], ◌++◌, nat_eq}
use Rattle.std.specs.Prelude.{replicate}
use Rattle.std.specs.List.{flat_map}
use Rattle.std.proofs.Math.Nat.{mul-le-mul_left}
use Rattle.std.proofs.lemmas.Bool.Decides.{nat_tests}
use Rattle.bit_lanes.specs.Bits.{bits}
use Rattle.pk_raster.specs.Bits.{padded, colour}
use Rattle.pk_raster.specs.Glyph.{stride, bitmap_bytes, first_colour, Draws, Pads}

-- a bitmap that is kept has few pixels
pub few_pixels : (w h : ℕ) → bitmap_bytes w h ≤ 65535 → h * w < 2 ^ 40
few_pixels w h l =
    let s : w ≤ 8 * stride w = omega arith in
    let m : h * w ≤ h * (8 * stride w) = mul-le-mul_left h s in
    omega (arith, m, l)

-- and short rows, where it has a row
pub short_rows : (w h : ℕ) → 0 < h → bitmap_bytes w h ≤ 65535 → stride w < 2 ^ 58
short_rows w h k l =
    let m : stride w * 1 ≤ stride w * h = mul-le-mul_left (stride w) k in
    omega (arith, m, l)

empty_rows : (n : ℕ) (h : ℕ) → n ≡ 0 → flat_map (padded n) (replicate h []) ≡ []
empty_rows n zero e = refl
empty_rows n (suc h) e = (let z : n - 0 ≡ 0 = omega (arith, e) in ap (λ k. replicate {A = ℕ} k 0 ++ flat_map (padded n) (replicate h [])) z) ∙ empty_rows n h e

-- the rows of a glyph without pixels have no bytes
pub no_bytes : (w h : ℕ) → h * w ≡ 0 → Pads w (replicate h []) []
unfolding bits
no_bytes w zero e = refl
no_bytes zero (suc h) e = sym (empty_rows (8 * stride 0) (suc h) refl)
no_bytes (suc w) (suc h) e = absurd (omega (arith, e))

-- the colour of the first run
pub first_run : (flag : ℕ) → colour (nat_eq (flag / 8 % 2) 1) ≡ first_colour flag
first_run flag = grind (arith, nat_tests)

-- a glyph without pixels is drawn by no bytes
pub blank_drawn : (flag w h : ℕ) (given bytes : List ℕ) → h * w ≡ 0 → given ≡ [] → bytes ≡ [] → (rows : List (List ℕ)) × Draws flag w h given rows × Pads w rows bytes
blank_drawn flag w h given bytes z g b =
    let P : List ℕ → Type 0 = λ xs. Pads w (replicate h []) xs in
    (replicate h [], record { blank = λ _. (g, refl); plain = λ k _. absurd (omega (arith, z, k)); runs = λ k _. absurd (omega (arith, z, k)) }, subst P (sym b) (no_bytes w h z))

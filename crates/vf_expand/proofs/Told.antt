-- Characters that leave a place within reach.
use Rattle.std.proofs.Common.{◌≡◌, ◌≤◌, ◌<◌, ◌^◌, ◌∙◌, inl, inr, ℤ, pos, ◌+ℤ◌, ◌≤ℤ◌, Some, refl, sym, ap, subst, ℕ, to_z, of_z, w64, arith}
use Rattle.std.specs.Prelude.{unsigned_abs}
use Rattle.std.proofs.lemmas.Int.{ints, clamps}
use Rattle.dv_base.specs.Brought.{brought}
use Rattle.dv_base.specs.Excess.{IsReach, Tells, excess}
use Rattle.dv_base.specs.Rounding.{Fraction, IsFine}
use Rattle.dv_base.specs.RoundingLaws.{rounded-bound}
use Rattle.dv_base.proofs.Excess.{excess_sum, told_sum, stays}
use Rattle.positions.specs.Place.{Place, IsPlace}
use Rattle.positions.specs.Drift.{IsDrift, near, pixels_behind}
use Rattle.positions.proofs.Moves.{advanced-some}
use Rattle.vf_expand.specs.Causes.{IsLarge}
use Rattle.vf_expand.specs.Grid.{Grid}
use Rattle.vf_expand.specs.Marks.{past_char}
use Rattle.vf_expand.specs.Wide.{IsWide}
use Rattle.vf_expand.specs.declared.grid.Wide.{Wide}

-- what is told behind a character, where it is small
pub told_behind : (f : Fraction) (h hh w n told e reach drift : ℤ) → IsReach f drift reach → Tells told (excess f h hh) → Tells e (excess f w n) → unsigned_abs (told +ℤ e) ≤ unsigned_abs reach → told +ℤ e ≡ excess f (h +ℤ w) (hh +ℤ n)
told_behind f h hh w n told e reach drift is t u small = told_sum told e (excess f h hh) (excess f w n) t u (omega (arith, small, is.most)) ∙ sym (excess_sum f h w hh n)

pixels_stay : (f : Fraction) (h hh n drift reach : ℤ) → 0 < f.bottom → pos 0 ≤ℤ drift → IsReach f drift reach → unsigned_abs (excess f h (hh +ℤ n)) ≤ unsigned_abs reach → hh +ℤ n ≡ pixels_behind f drift h hh n
unfolding pixels_behind near brought
pixels_stay f h hh n drift reach some up is small = sym (stays f h (hh +ℤ n) drift reach some up is small)

pub past_within : (g : Grid) (p : Place) (w : Wide) (reach : ℤ) → IsDrift g.drift → IsReach g.across g.drift reach → IsWide g w → (IsLarge (p.h +ℤ w.width) → ⊥) → unsigned_abs (excess g.across (p.h +ℤ w.width) (p.hh +ℤ w.pixels)) ≤ unsigned_abs reach
    → past_char g w.width p ≡ Some (record p { h = p.h +ℤ w.width; hh = p.hh +ℤ w.pixels })
past_within g p w reach drift is wide fits small =
    rw (← wide.pixels) (advanced-some g.across g.drift p w.width w.pixels (p.h +ℤ w.width) (p.hh +ℤ w.pixels) refl (omega (arith, fits)) (pixels_stay g.across (p.h +ℤ w.width) p.hh w.pixels g.drift reach wide.fine.positive drift.0 is small))

pub pixels_small : (g : Grid) (h hh n reach : ℤ) → IsFine g.across → IsDrift g.drift → IsReach g.across g.drift reach → unsigned_abs h < 2 ^ 31 → unsigned_abs (excess g.across h (hh +ℤ n)) ≤ unsigned_abs reach → unsigned_abs (hh +ℤ n) < 2 ^ 32
unfolding brought
pixels_small g h hh n reach fine drift is small near =
    let same = stays g.across h (hh +ℤ n) g.drift reach fine.positive drift.0 is near in
    let bound = rounded-bound g.across fine h in
    omega (arith, ints, clamps, same, bound, small, drift.0, drift.1)

pub told_size : (a x : ℤ) → Tells a x → unsigned_abs a ≤ 2 ^ 61
told_size a x (inl h) = omega (arith, ints, h.0, h.1)
told_size a x (inr h) = omega (arith, ints, h.1)

-- Behind a character, where what is told is within reach: the excess, the place, and that its numbers aren't too large.
pub record Within (g : Grid) (p : Place) (w : Wide) (told reach : ℤ) : Type 0 where
  pub same : told +ℤ w.excess ≡ excess g.across (p.h +ℤ w.width) (p.hh +ℤ w.pixels)
  pub past : past_char g w.width p ≡ Some (record p { h = p.h +ℤ w.width; hh = p.hh +ℤ w.pixels })
  pub small : unsigned_abs (told +ℤ w.excess) ≤ unsigned_abs reach
  pub size : unsigned_abs (p.h +ℤ w.width) < 2 ^ 31
  pub pixels : unsigned_abs (p.hh +ℤ w.pixels) < 2 ^ 32

pub within : (g : Grid) (p : Place) (w : Wide) (told reach : ℤ) → IsDrift g.drift → IsReach g.across g.drift reach → IsWide g w → Tells told (excess g.across p.h p.hh) → (IsLarge (p.h +ℤ w.width) → ⊥) → unsigned_abs (told +ℤ w.excess) ≤ unsigned_abs reach → Within g p w told reach
within g p w told reach drift is wide t fits small =
    let same = told_behind g.across p.h p.hh w.width w.pixels told w.excess reach g.drift is t wide.excess small in
    let near : unsigned_abs (excess g.across (p.h +ℤ w.width) (p.hh +ℤ w.pixels)) ≤ unsigned_abs reach = subst (λ (z : ℤ). unsigned_abs z ≤ unsigned_abs reach) same small in
    let size : unsigned_abs (p.h +ℤ w.width) < 2 ^ 31 = omega (arith, fits) in
    record { same = same; small = small; past = past_within g p w reach drift is wide fits near; size = size; pixels = pixels_small g (p.h +ℤ w.width) p.hh w.pixels reach wide.fine drift is size near }

-- ---- in 64 bits

sum_is : (x y : ℤ) → unsigned_abs x ≤ 2 ^ 61 → unsigned_abs y ≤ 2 ^ 61 → to_z w64 (of_z w64 (to_z w64 (of_z w64 x) +ℤ to_z w64 (of_z w64 y))) ≡ x +ℤ y
sum_is x y a b = omega (arith, ints, a, b)

same_is : (x : ℤ) → unsigned_abs x < 2 ^ 39 → to_z w64 (of_z w64 x) ≡ x
same_is x a = omega (arith, ints, a)

-- the sums of a place's numbers with a width are what they are
pub numbers : (p : Place) (w n : ℤ) → IsPlace p → unsigned_abs w < 2 ^ 32 → unsigned_abs n < 2 ^ 32
    → (let q : Place = record { h = to_z w64 (of_z w64 (to_z w64 (of_z w64 p.h) +ℤ to_z w64 (of_z w64 w))); v = to_z w64 (of_z w64 p.v); hh = to_z w64 (of_z w64 (to_z w64 (of_z w64 p.hh) +ℤ to_z w64 (of_z w64 n))); vv = to_z w64 (of_z w64 p.vv); w = to_z w64 (of_z w64 p.w); x = to_z w64 (of_z w64 p.x); y = to_z w64 (of_z w64 p.y); z = to_z w64 (of_z w64 p.z) } in q) ≡ record p { h = p.h +ℤ w; hh = p.hh +ℤ n }
numbers p w n i a b =
    rw (sum_is p.h w (omega (arith, i.h)) (omega (arith, a)), sum_is p.hh n (omega (arith, i.hh)) (omega (arith, b)), same_is p.v (omega (arith, i.v)), same_is p.vv (omega (arith, i.vv)), same_is p.w i.w, same_is p.x i.x, same_is p.y i.y, same_is p.z i.z) refl

-- where the sum of what is told is tested
pub within_test : (g : Grid) (p : Place) (w : Wide) (told reach : ℤ) (a b : ℕ) → IsDrift g.drift → IsReach g.across g.drift reach → IsWide g w → Tells told (excess g.across p.h p.hh) → (IsLarge (p.h +ℤ w.width) → ⊥)
    → a ≡ unsigned_abs (to_z w64 (of_z w64 (to_z w64 (of_z w64 told) +ℤ to_z w64 (of_z w64 w.excess)))) → b ≡ unsigned_abs (to_z w64 (of_z w64 reach)) → a ≤ b → Within g p w told reach
within_test g p w told reach a b drift is wide t fits ae be test =
    let sum = sum_is told w.excess (told_size told _ t) (told_size w.excess _ wide.excess) in
    let most : to_z w64 (of_z w64 reach) ≡ reach = omega (arith, ints, is.most) in
    within g p w told reach drift is wide t fits (omega (arith, ae ∙ ap unsigned_abs sum, be ∙ ap unsigned_abs most, test))

pub sum_told : (g : Grid) (w : Wide) (told x : ℤ) → IsWide g w → Tells told x → to_z w64 (of_z w64 (to_z w64 (of_z w64 told) +ℤ to_z w64 (of_z w64 w.excess))) ≡ told +ℤ w.excess
sum_told g w told x wide t = sum_is told w.excess (told_size told x t) (told_size w.excess _ wide.excess)

pub told_there : (g : Grid) (p : Place) (w : Wide) (told reach z : ℤ) → IsReach g.across g.drift reach → Within g p w told reach → z ≡ told +ℤ w.excess → Tells z (excess g.across (p.h +ℤ w.width) (p.hh +ℤ w.pixels))
told_there g p w told reach z is x e =
    let small : unsigned_abs (excess g.across (p.h +ℤ w.width) (p.hh +ℤ w.pixels)) ≤ unsigned_abs reach = subst (λ (y : ℤ). unsigned_abs y ≤ unsigned_abs reach) x.same x.small in
    inl (omega (arith, small, is.most), e ∙ x.same)

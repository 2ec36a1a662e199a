-- The definitions of moves, against what the code tests and computes.
use Rattle.std.proofs.Common.{◌≡◌, ◌^◌, ◌<◌, ◌≤◌, true, false, ℤ, ◌+ℤ◌, ◌-ℤ◌, ◌≤ℤ◌, pos, Some, None, Result, Ok, Err, OnErr, to_z, of_z, w64, arith, refl}
use Rattle.std.specs.Prelude.{unsigned_abs}
use Rattle.std.proofs.lemmas.Bool.Decides.{nat_tests}
use Rattle.std.proofs.lemmas.Int.{ints, clamps, to_z-of_z, fits_signed_from_abs}
use Rattle.dv_base.specs.Rounding.{Fraction, IsFine, rounded}
use Rattle.dv_base.specs.Brought.{brought}
use Rattle.dv_base.specs.RoundingLaws.{rounded-bound}
use Rattle.positions.specs.Place.{Place}
use Rattle.positions.specs.Drift.{fits, pixels_behind, pixels_after, is_large_across, is_large_down, advanced, right, down}

fits-true : (place : ℤ) → unsigned_abs place < 2 ^ 31 → fits place ≡ true
fits-true place small = grind (arith, nat_tests)

fits-false : (place : ℤ) → 2 ^ 31 ≤ unsigned_abs place → fits place ≡ false
fits-false place large = grind (arith, nat_tests)

pub to_z-small : (n : ℤ) → unsigned_abs n < 2 ^ 40 → to_z w64 (of_z w64 n) ≡ n
to_z-small n small = to_z-of_z w64 n (fits_signed_from_abs w64 n (omega arith))

-- what is brought near the pixels of a place is no larger than they may be
pub brought-bound : (f : Fraction) → IsFine f → (e place n p : ℤ) → pos 0 ≤ℤ e → e ≤ℤ pos 1000 → unsigned_abs place < 2 ^ 31 → p ≡ brought (rounded f place) e n → unsigned_abs p < 2 ^ 32
unfolding brought
brought-bound f fine e place n p some few small is = omega (arith, ints, clamps, is, rounded-bound f fine place)

-- the code's result, and its place behind the move
pub advanced-some : (f : Fraction) (e : ℤ) (p : Place) (width pixels h hh : ℤ) → h ≡ p.h +ℤ width → unsigned_abs h < 2 ^ 31 → hh ≡ pixels_behind f e h p.hh pixels → advanced f e p width pixels ≡ Some (record p { h = h; hh = hh })
unfolding advanced
advanced-some f e p width pixels h hh there small across = rw (across, there, fits-true (p.h +ℤ width) (rw there at small)) refl

pub advanced-none : (f : Fraction) (e : ℤ) (p : Place) (width pixels : ℤ) → 2 ^ 31 ≤ unsigned_abs (p.h +ℤ width) → advanced f e p width pixels ≡ None
unfolding advanced
advanced-none f e p width pixels large = rw (fits-false (p.h +ℤ width) large) refl

pub right-some : (f : Fraction) (e space : ℤ) (p : Place) (q h hh : ℤ) → h ≡ p.h +ℤ q → unsigned_abs h < 2 ^ 31 → hh ≡ pixels_after f e (is_large_across space q) h p.hh q → right f e space p q ≡ Some (record p { h = h; hh = hh })
unfolding right
right-some f e space p q h hh there small across = rw (across, there, fits-true (p.h +ℤ q) (rw there at small)) refl

pub right-none : (f : Fraction) (e space : ℤ) (p : Place) (q : ℤ) → 2 ^ 31 ≤ unsigned_abs (p.h +ℤ q) → right f e space p q ≡ None
unfolding right
right-none f e space p q large = rw (fits-false (p.h +ℤ q) large) refl

pub down-some : (f : Fraction) (e space : ℤ) (p : Place) (q v vv : ℤ) → v ≡ p.v +ℤ q → unsigned_abs v < 2 ^ 31 → vv ≡ pixels_after f e (is_large_down space q) v p.vv q → down f e space p q ≡ Some (record p { v = v; vv = vv })
unfolding down
down-some f e space p q v vv there small across = rw (across, there, fits-true (p.v +ℤ q) (rw there at small)) refl

pub down-none : (f : Fraction) (e space : ℤ) (p : Place) (q : ℤ) → 2 ^ 31 ≤ unsigned_abs (p.v +ℤ q) → down f e space p q ≡ None
unfolding down
down-none f e space p q large = rw (fits-false (p.v +ℤ q) large) refl

-- what holds anyway holds at an error
pub on_err : {T E P : Type 0} (r : Result T E) → P → OnErr r P
on_err (Ok v) p = tt
on_err (Err e) p = p

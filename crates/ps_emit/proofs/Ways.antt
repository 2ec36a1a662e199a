-- The tests of equality of two numbers, and the moves that they choose.
use Rattle.std.proofs.Common.{◌≡◌, refl, true, false, arith, ap}
use Rattle.std.specs.Prelude.{ℤ, ◌-ℤ◌, ◌++◌, pos, negsuc, codes, Some, None}
use Rattle.std.proofs.lemmas.Bool.Decides.{nat_tests}
use Rattle.ps_subset.specs.Fraction.{same_ℤ}
use Rattle.ps_subset.specs.Prolog.{line}
use Rattle.ps_subset.specs.Lines.{signed_field}
use Rattle.ps_subset.specs.Items.{to_line, move_line, row_end, stretch_end}

pub same_yes : (a b : ℤ) → a ≡ b → same_ℤ a b ≡ true
same_yes (pos a) (pos b) h = let e : a ≡ b = grind (arith, h) in grind (arith, nat_tests)
same_yes (negsuc a) (negsuc b) h = let e : a ≡ b = grind (arith, h) in grind (arith, nat_tests)
same_yes (pos a) (negsuc b) h = absurd (grind (arith, h))
same_yes (negsuc a) (pos b) h = absurd (grind (arith, h))

pub same_no : (a b : ℤ) → (a ≡ b → ⊥) → same_ℤ a b ≡ false
same_no (pos a) (pos b) h = let off : a ≡ b → ⊥ = λ e. h (ap pos e) in grind (arith, nat_tests)
same_no (negsuc a) (negsuc b) h = let off : a ≡ b → ⊥ = λ e. h (ap negsuc e) in grind (arith, nat_tests)
same_no (pos a) (negsuc b) h = refl
same_no (negsuc a) (pos b) h = refl

-- the moves from a pixel that is known
module _ (x y x' y' : ℤ) where
  pub goes_across : y ≡ y' → (x ≡ x' → ⊥) → move_line (record { x = x; y = y; font = None; delta = pos 0; lost = false }) x' y' ≡ signed_field (x' -ℤ x) ++ line (codes "w")
  goes_across e n = rw (same_yes y y' e, same_no x x' n) refl

  pub goes_down : (y ≡ y' → ⊥) → x ≡ x' → move_line (record { x = x; y = y; font = None; delta = pos 0; lost = false }) x' y' ≡ signed_field (y' -ℤ y) ++ line (codes "x")
  goes_down n e = rw (same_no y y' n, same_yes x x' e) refl

  pub goes_to : (y ≡ y' → ⊥) → (x ≡ x' → ⊥) → move_line (record { x = x; y = y; font = None; delta = pos 0; lost = false }) x' y' ≡ to_line x' y'
  goes_to n k = rw (same_no y y' n, same_no x x' k) refl

pub in_row : (delta x y x' y' : ℤ) → y ≡ y' → stretch_end delta x y (Some (x', y')) ≡ row_end delta (x' -ℤ x)
in_row delta x y x' y' e = rw (same_yes y y' e) refl

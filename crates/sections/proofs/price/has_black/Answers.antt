use Rattle.std.proofs.Common.{◌≡◌, ℕ, Bool, true, false, not, List, [], ◌∷◌, nat_eq, refl, ap, ◌∙◌, ◌&&◌, ◌||◌}
use Rattle.bit_lanes.specs.Bits.{all_zero}
use Rattle.sections.specs.Cost.{has_black}
use Rattle.sections.proofs.price.has_black.Goals as goal

not_both : (a b : Bool) → not (a && b) ≡ (not a || not b)
not_both true b = refl
not_both false b = refl

some_black : (rows : List ℕ) → not (all_zero rows) ≡ has_black rows
some_black [] = refl
some_black (b ∷ rows) = not_both (nat_eq b 0) (all_zero rows) ∙ ap (λ v. not (nat_eq b 0) || v) (some_black rows)

pub returns : goal.returns
returns c = ap not c.is_blank.ensures.of_bytes ∙ some_black c.args.rows.now

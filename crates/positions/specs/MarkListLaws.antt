-- Lists that grow at their end.
use Rattle.std.specs.Prelude.{◌≡◌, List, [], ◌++◌}
use Rattle.std.proofs.Common.{append_assoc, ◌∙◌, ap}
use Rattle.std.proofs.lemmas.Grind.{common_steps}
use Rattle.std.proofs.Common.{arith}
use Rattle.positions.specs.Mark.{Mark}

pub took_none : (list : List Mark) → list ≡ list ++ []
took_none list = grind (arith, common_steps)

pub took_both : (a b c xs ys : List Mark) → b ≡ a ++ xs → c ≡ b ++ ys → c ≡ a ++ (xs ++ ys)
took_both a b c xs ys first second = second ∙ ap (λ l. l ++ ys) first ∙ append_assoc a xs ys

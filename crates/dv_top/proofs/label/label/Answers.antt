use Rattle.std.proofs.Common.{◌≡◌, rules, sym, get_or, w32, pos, arith, List, [], ◌∷◌, refl, ℤ}
use Rattle.std.specs.Prelude.{FitsSigned}
use Rattle.std.proofs.lemmas.Int.{ints, to_z-of_z}
use Rattle.dv_top.specs.Printing.{label_of}
use Rattle.dv_top.proofs.label.label.Goals as goal

label_first : (counts : List ℤ) → label_of counts ≡ get_or counts 0 (pos 0)
label_first [] = refl
label_first (c ∷ cs) = refl

pub returns-clause-value : goal.returns-clause-value
returns-clause-value c =
    let fits : FitsSigned w32 (get_or c.args.page.now.counts 0 (pos 0)) = search rules in
    rw (to_z-of_z w32 (get_or c.args.page.now.counts 0 (pos 0)) fits) (sym (label_first c.args.page.now.counts))

pub returns-clause-small : goal.returns-clause-small
returns-clause-small c =
    let fits : FitsSigned w32 (get_or c.args.page.now.counts 0 (pos 0)) = search rules in
    rw (label_first c.args.page.now.counts) (omega (arith, ints, fits))

use Rattle.std.proofs.Common.{ap, ◌∙◌, subst, List, ℕ, ◌++◌}
use Rattle.std.specs.Prelude.{codes}
use Rattle.dv_base.specs.Tray.{Says}
use Rattle.dv_top.specs.Escaped.{escaped}
use Rattle.dv_top.proofs.warnings.say_special.Goals as goal

pub returns : goal.returns
returns g c =
    let seen = g.T.Tray.seen in
    subst (λ (text : List ℕ). Says text (seen c.args.tray.now) (seen c.say.new.self))
    (c.as_slice.ensures ∙ c.escape.ensures ∙ ap (λ (l : List ℕ). l ++ escaped c.args.head.now) (c.text.ensures.value ∙ ap (λ (l : List ℕ). l ++ codes "texdvi: warning: special ") c.new-line.ensures))
    c.say.ensures

use Rattle.std.proofs.Common.{◌≡◌, ap, ◌∙◌, subst, List, ℕ, ◌++◌}
use Rattle.std.specs.Prelude.{codes}
use Rattle.dv_base.specs.Tray.{Says}
use Rattle.font_set.specs.Fonts.{key_at}
use Rattle.dv_top.proofs.warnings.say_checksum.Goals as goal

pub returns : goal.returns
returns g c =
    let seen = g.T.Tray.seen in
    let name : c.as_bytes.result.now ≡ (key_at c.args.fonts.now c.args.id).name = c.as_bytes.ensures.value ∙ c.as_str.ensures.value ∙ ap (λ k. k.name) c.key.ensures.value in
    let front : c.text.new.self ≡ codes "texdvi: warning: checksum " = c.text.ensures.value ∙ ap (λ (l : List ℕ). l ++ codes "texdvi: warning: checksum ") c.new-line.ensures in
    subst (λ (text : List ℕ). Says text (seen c.args.tray.now) (seen c.say.new.self)) (c.as_slice.ensures ∙ c.text-2.ensures.value ∙ (λ i. front i ++ name i)) c.say.ensures

use Rattle.std.proofs.Common.{ℕ, Option, Some, ap, sym, subst}
use Rattle.dvi_doc.specs.declared.font.FontKey.{FontKey}
use Rattle.font_set.specs.Views.{key_of}
use Rattle.font_set.specs.Search.{LearntFirst}
use Rattle.font_set.specs.Gains.{Gains}
use Rattle.font_set.specs.Search.{IsKeyOf}
use Rattle.font_set.proofs.Gaining.{learnt_gains}
use Rattle.font_set.proofs.States.{learn_states}
use Rattle.font_set.proofs.fonts.Fonts.know_first.Goals as goal

pub returns-in_ok-id-in-Some-clause-learnt : goal.returns-in_ok-id-in-Some-clause-learnt
returns-in_ok-id-in-Some-clause-learnt c =
    let e = c.in_ok-id-in-Some.ensures in
    subst (λ (o : Option FontKey). LearntFirst c.args.self.now c.know.new.self o (Some c.number.result)) (sym c.in-Some.is)
    (e.learnt, learn_states c.args.self.now c.know.new.self (key_of c.in-Some.key) e.learns, c.in_ok-id-in-Some.id, ap (λ (n : ℕ). Some n) c.number.ensures.value, e.id)

pub returns-in_ok-id-in-Some-clause-gains : goal.returns-in_ok-id-in-Some-clause-gains
returns-in_ok-id-in-Some-clause-gains c =
    let e = c.in_ok-id-in-Some.ensures in
    λ held.
    subst (λ (o : Option FontKey). Gains held c.args.self.now c.know.new.self (λ i. ⊥) (IsKeyOf o)) (sym c.in-Some.is)
    (learnt_gains held c.args.self.now c.know.new.self (key_of c.in-Some.key) e.learns e.learnt)

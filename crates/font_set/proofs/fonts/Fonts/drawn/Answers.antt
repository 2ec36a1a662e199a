use Rattle.std.proofs.Common.{refl, ap, sym, ◌∙◌}
use Rattle.font_set.specs.Stored.{state_of}
use Rattle.font_set.proofs.Steps.{on_ok, if_err}
use Rattle.font_set.proofs.Showing.{shown_real, shown_virtual, no_packet, unloaded, look_fault, there}
use Rattle.font_set.proofs.fonts.Fonts.drawn.Goals as goal

pub returns-in-Known-clause-ok : goal.returns-in-Known-clause-ok
returns-in-Known-clause-ok c = absurd (unloaded c.args.self.now c.args.id (ap state_of (sym c.in-Known.is) ∙ c.font.ensures.value) c.requires.loaded)

pub returns-in-Real-clause-ok : goal.returns-in-Real-clause-ok
returns-in-Real-clause-ok c =
    on_ok c.has_bitmap.result (λ b. shown_real c.args.self.now c.args.id c.args.code c.in-Real.tfm c.in-Real.pk (ap state_of (sym c.in-Real.is) ∙ c.font.ensures.value) c.requires.wide b) c.has_bitmap.ensures.ok

pub returns-in-Real-clause-fault : goal.returns-in-Real-clause-fault
returns-in-Real-clause-fault c =
    if_err c.has_bitmap.result (look_fault c.args.self.now c.args.id c.args.code c.in-Real.tfm c.in-Real.pk (ap state_of (sym c.in-Real.is) ∙ c.font.ensures.value)) c.has_bitmap.ensures.fault

pub returns-in-Some-clause-ok : goal.returns-in-Some-clause-ok
returns-in-Some-clause-ok c =
    shown_virtual c.args.self.now c.args.id c.args.code c.in-Virtual.tfm c.in-Virtual.vf (ap state_of (sym c.in-Virtual.is) ∙ c.font.ensures.value) c.requires.wide (there _ _ c.in-Some.ensures.0)

pub returns-in-None-clause-fault : goal.returns-in-None-clause-fault
returns-in-None-clause-fault c =
    let p = no_packet c.args.self.now c.args.id c.args.code c.in-Virtual.tfm c.in-Virtual.vf (ap state_of (sym c.in-Virtual.is) ∙ c.font.ensures.value) c.in-None.ensures in
    (refl, refl, p.0, p.1)

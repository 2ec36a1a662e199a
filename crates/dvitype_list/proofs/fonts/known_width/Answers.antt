use Rattle.std.proofs.Common.{w64}
use Rattle.std.proofs.lemmas.Int.{to_z-of_z}
use Rattle.std.proofs.Common.{◌∙◌}
use Rattle.dvitype_list.proofs.Widening.{selected_given, known_told, nowhere_told}
use Rattle.dvitype_list.proofs.fonts.known_width.Goals as goal

pub width_at-requires : goal.width_at-requires
width_at-requires c = record { given = selected_given c.args.fonts.now c.in-Some.selected c.requires.given.0 (rw c.in-Some.is at c.requires.given.1) }

pub returns-in-Some-clause-value : goal.returns-in-Some-clause-value
returns-in-Some-clause-value c = λ key h.
    (rw (to_z-of_z w64 c.args.z c.ranges.z) at c.width_at.ensures.value) ∙ known_told c.args.fonts.now c.in-Some.selected key c.args.z (rw c.in-Some.is at h)

pub returns-in-None-clause-value : goal.returns-in-None-clause-value
returns-in-None-clause-value c = λ key h. nowhere_told c.args.fonts.now key c.args.z (rw c.in-None.is at h)

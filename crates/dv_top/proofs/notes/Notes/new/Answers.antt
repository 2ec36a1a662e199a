use Rattle.std.proofs.Common.{refl, map, ◌∙◌}
use Rattle.dv_base.specs.FileName.{text_of}
use Rattle.dv_top.specs.Noted.{names_noted}
use Rattle.dv_top.proofs.GoingOn.{nothing_noted}
use Rattle.dv_top.proofs.notes.Notes.new.Goals as goal

pub returns-clause-none : goal.returns-clause-none
returns-clause-none c =
    nothing_noted _ _ refl refl refl refl refl c.in_ok-usage.ensures.none refl
    (c.in_ok-note_names.ensures ∙ (λ i. names_noted (map text_of (c.new-headers.ensures.items i)) (c.as_slice.ensures i))) c.new-2.ensures

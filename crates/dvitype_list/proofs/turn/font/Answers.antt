use Rattle.std.proofs.Common.{refl, w64}
use Rattle.std.proofs.lemmas.Int.{to_z-of_z}
use Rattle.dvitype_list.proofs.Turning.{font_knew, font_stops}
use Rattle.dvitype_list.proofs.turn.font.Goals as goal

pub returns-in-Ok-clause-ok : goal.returns-in-Ok-clause-ok
returns-in-Ok-clause-ok c = λ f st h.
    font_knew f c.args.doc.now.fonts c.args.fonts.now c.select.new.fonts c.args.state.now _ c.args.k c.in-Ok.selected st
    (rw (to_z-of_z w64 c.args.k c.ranges.k) at c.in-Ok.ensures.ok) h refl refl refl

pub returns-in-Err-clause-fault : goal.returns-in-Err-clause-fault
returns-in-Err-clause-fault c = λ f old new st h.
    font_stops f c.args.doc.now.fonts c.args.fonts.now c.select.new.fonts old new c.args.at c.args.k st h.known c.in-Err.fault
    (rw (to_z-of_z w64 c.args.k c.ranges.k) at c.in-Err.ensures.fault)

use Rattle.std.proofs.Common.{w64}
use Rattle.std.proofs.lemmas.Int.{to_z-of_z}
use Rattle.dv_base.specs.declared.font_id.Spot.TheVariants as spot
use Rattle.dvitype_list.proofs.Widening.{any_self, none_selected, selected_fault, selected_given, selected_ok}
use Rattle.dvitype_list.proofs.fonts.width.Goals as goal

pub read_width-requires : goal.read_width-requires
read_width-requires g c = record { given = selected_given c.args.fonts.now c.in-Some.selected c.requires.given.0 (rw c.in-Some.is at c.requires.given.1) }

pub returns-in-Some-clause-ok : goal.returns-in-Some-clause-ok
returns-in-Some-clause-ok g c = λ key h. selected_ok c.args.fonts.now c.read_width.new.fonts c.in-Some.selected key c.args.z c.read_width.result c.read_width.ensures.gains.extends (rw c.in-Some.is at h) (rw (to_z-of_z w64 c.args.z c.ranges.z) at c.read_width.ensures.ok)

pub returns-in-Some-clause-fault : goal.returns-in-Some-clause-fault
returns-in-Some-clause-fault g c = λ key h.
    let told = g.S.Shelf.told in
    selected_fault c.args.fonts.now c.read_width.new.fonts (told c.args.shelf.now) (told c.read_width.new.shelf) c.in-Some.selected key c.args.z (spot.Page c.args.at) c.read_width.result c.read_width.ensures.gains.extends (rw c.in-Some.is at h) (rw (to_z-of_z w64 c.args.z c.ranges.z) at c.read_width.ensures.fault)

pub returns-in-None-clause-fault : goal.returns-in-None-clause-fault
returns-in-None-clause-fault g c = λ key h.
    let told = g.S.Shelf.told in
    none_selected c.args.fonts.now (told c.args.shelf.now) (told c.args.shelf.now) key c.args.z c.args.at (rw c.in-None.is at h)

pub returns-in-None-clause-gains : goal.returns-in-None-clause-gains
returns-in-None-clause-gains g c = any_self _ c.args.fonts.now

use Rattle.dvi_ops.specs.View.{view}
use Rattle.dvitype_list.specs.Widths.{setting}
use Rattle.dvitype_list.proofs.Going.{cut_listed, went}
use Rattle.dvitype_list.proofs.listing.quick_command.Goals as goal

pub returns-in-Ok-clause-ok : goal.returns-in-Ok-clause-ok
returns-in-Ok-clause-ok g c = λ begun text st h k.
    let scene = c.args.scene.now in
    let set = c.args.fonts.now in
    went (setting scene.conv scene.doc.now.fonts set) scene.detail (record { place = c.args.at; command = view c.args.cmd.now }) st set c.quick_turn.new.state begun (g.T.Tray.seen c.detail_line.new.tray) _ text
    (c.if-not-quick_turn.ensures scene.doc.now.fonts st k) (c.in-Ok.ensures.ok begun text h)

pub returns-in-Err-clause-cut : goal.returns-in-Err-clause-cut
returns-in-Err-clause-cut g c = λ begun text st h k.
    let scene = c.args.scene.now in
    let set = c.args.fonts.now in
    cut_listed (setting scene.conv scene.doc.now.fonts set) set begun (g.T.Tray.seen c.detail_line.new.tray) text scene.detail (record { place = c.args.at; command = view c.args.cmd.now }) st c.quick_turn.new.state
    (c.if-not-quick_turn.ensures scene.doc.now.fonts st k) (c.in-Err.ensures.cut begun text h)

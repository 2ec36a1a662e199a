use Rattle.dvi_ops.specs.View.{view}
use Rattle.dvitype_list.specs.Widths.{setting}
use Rattle.dvitype_list.proofs.Going.{turn_failed, unlisted, went}
use Rattle.dvitype_list.proofs.listing.command.Goals as goal

pub returns-in-Err-clause-fault : goal.returns-in-Err-clause-fault
returns-in-Err-clause-fault g c = λ begun text st h k.
    let scene = c.args.scene.now in
    let set = c.turn.new.fonts in
    let told = g.S.Shelf.told in
    turn_failed (setting scene.conv scene.doc.now.fonts set) set (told c.args.shelf.now) (told c.turn.new.shelf) begun (g.T.Tray.seen c.args.tray.now) _ text scene.detail (record { place = c.args.at; command = view c.args.cmd.now }) st c.in-Err.fault
    (c.in-Err.ensures.fault st k) h

pub returns-in-Ok-clause-ok : goal.returns-in-Ok-clause-ok
returns-in-Ok-clause-ok g c = λ begun text st h k.
    let scene = c.args.scene.now in
    let set = c.turn.new.fonts in
    went (setting scene.conv scene.doc.now.fonts set) scene.detail (record { place = c.args.at; command = view c.args.cmd.now }) st set c.turn.new.state begun (g.T.Tray.seen c.detail_line.new.tray) _ text (c.in_default.ensures.ok st k) (c.in-Ok.ensures.ok begun text h)

pub returns-in-Err-detail_line-clause-fault : goal.returns-in-Err-detail_line-clause-fault
returns-in-Err-detail_line-clause-fault g c = λ begun text st h k.
    let scene = c.args.scene.now in
    let set = c.turn.new.fonts in
    let told = g.S.Shelf.told in
    unlisted (setting scene.conv scene.doc.now.fonts set) set (told c.args.shelf.now) (told c.turn.new.shelf) begun (g.T.Tray.seen c.detail_line.new.tray) c.detail_line.new.out.kept.items text scene.detail (record { place = c.args.at; command = view c.args.cmd.now }) st
    c.turn.new.state (c.in_default.ensures.ok st k) (c.in-Err-detail_line.ensures.cut begun text h)

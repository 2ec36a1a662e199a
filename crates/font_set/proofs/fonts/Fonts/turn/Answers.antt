use Rattle.font_set.specs.declared.turn.Turn.{Turn}
use Rattle.font_set.proofs.Turning.{reads, stops}
use Rattle.font_set.proofs.fonts.Fonts.turn.Goals as goal

pub returns-in-Ok-clause-read : goal.returns-in-Ok-clause-read
returns-in-Ok-clause-read c =
    let t : Turn = record { next = c.asked_at-asked.result.1; does = c.in-Ok.does } in
    let e = c.asked_at-asked.ensures in
    let cmd = e.command in
    reads c.one_spelling.ensures c.args.sheet.now c.args.self.now c.args.place.now t c.asked_at-asked.result.0 cmd.0 c.requires.inside c.requires.placed e.further e.within cmd.1 cmd.2 c.in-Ok.ensures.does

pub returns-in-Err-clause-fault : goal.returns-in-Err-clause-fault
returns-in-Err-clause-fault c =
    let e = c.asked_at-asked.ensures in
    let cmd = e.command in
    stops c.one_spelling.ensures c.args.sheet.now c.args.self.now c.args.place.now c.asked_at-asked.result.1 c.asked_at-asked.result.0 cmd.0 c.in-Err.fault c.requires.inside c.requires.placed e.further e.within cmd.1 cmd.2 c.in-Err.ensures.fault

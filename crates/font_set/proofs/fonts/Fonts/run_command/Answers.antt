use Rattle.std.proofs.lemmas.Result.{err_from_is_err_and}
use Rattle.font_set.proofs.Steps.{placed, step_fault}
use Rattle.font_set.proofs.fonts.Fonts.run_command.Goals as goal

pub turn-requires-clause-placed : goal.turn-requires-clause-placed
turn-requires-clause-placed g c = placed c.args.sheet.now c.requires.found.0 c.args.self.now c.args.agenda.now.met c.args.place.now c.args.agenda.now.places c.requires.found.1

pub returns-in_err-turn-clause-fault : goal.returns-in_err-turn-clause-fault
returns-in_err-turn-clause-fault g c =
    let q = err_from_is_err_and c.from_residual.result c.from_residual.ensures.1 in
    rw (q.1, q.2) (step_fault c.args.sheet.now c.requires.found.0 c.args.self.now c.args.agenda.now.met c.args.place.now c.args.agenda.now.places c.in_err-turn.field-0.0 c.in_err-turn.ensures.fault c.requires.found.1 (g.S.Shelf.told c.args.shelf.now) (g.S.Shelf.told c.args.shelf.now))

pub returns-in-Selects-clause-gains : goal.returns-in-Selects-clause-gains
returns-in-Selects-clause-gains g c = c.select.ensures.gains (g.S.Shelf.told c.args.shelf.now).held

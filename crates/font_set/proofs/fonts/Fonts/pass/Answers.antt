use Rattle.font_set.proofs.Steps.{pass_step}
use Rattle.font_set.proofs.fonts.Fonts.pass.Goals as goal

pub returns-clause-steps : goal.returns-clause-steps
returns-clause-steps c =
    pass_step c.args.sheet.now c.args.place.now c.moved.result c.args.turn.now c.args.self.now c.args.agenda.now c.push.new.self
    c.requires.read c.requires.does c.moved.ensures c.in_ok-push.ensures.places c.in_ok-push.ensures.met

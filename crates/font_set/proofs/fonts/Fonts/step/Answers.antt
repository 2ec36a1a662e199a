use Rattle.font_set.proofs.Steps.{placed, on_ok}
use Rattle.font_set.proofs.Skimming.{found_on, step_on, left_step}
use Rattle.font_set.proofs.fonts.Fonts.step.Goals as goal

pub skimmed-at-requires-clause-placed : goal.skimmed-at-requires-clause-placed
skimmed-at-requires-clause-placed g c = placed c.args.sheet.now c.requires.found.0 c.args.self.now c.args.agenda.now.met c.args.place.now c.args.agenda.now.places c.requires.found.1

pub returns-then-ahead-clause-steps : goal.returns-then-ahead-clause-steps
returns-then-ahead-clause-steps g c =
    let set = c.args.self.now in
    let todo = c.args.agenda.now in
    let skim = c.skimmed-at.ensures in
    step_on c.one_spelling.ensures c.args.sheet.now c.args.place.now c.moved-ahead.result skim.passed.0 c.skimmed-at.result set set todo todo skim.passed.1 skim.further c.moved-ahead.ensures
    (left_step c.args.sheet.now c.moved-ahead.result set todo c.if-ahead.true)

pub run_command-requires-clause-found : goal.run_command-requires-clause-found
run_command-requires-clause-found g c =
    let found = c.requires.found in
    let skim = c.skimmed-at.ensures in (
      found.0,
      found_on c.one_spelling.ensures c.args.sheet.now found.0 c.args.self.now c.args.agenda.now.met c.args.place.now c.moved-ahead.result c.args.agenda.now.places skim.passed.0 c.skimmed-at.result skim.passed.1 c.moved-ahead.ensures found.1,
    )

pub returns-clause-steps : goal.returns-clause-steps
returns-clause-steps g c =
    let skim = c.skimmed-at.ensures in
    on_ok c.run_command.result
    (λ steps. step_on c.one_spelling.ensures c.args.sheet.now c.args.place.now c.moved-ahead.result skim.passed.0 c.skimmed-at.result c.args.self.now c.run_command.new.self c.args.agenda.now c.run_command.new.agenda skim.passed.1 skim.further c.moved-ahead.ensures steps)
    c.run_command.ensures.steps

use Rattle.font_set.proofs.Steps.{placed, if_ok}
use Rattle.font_set.proofs.Skimming.{found_on, step_on, left_step}
use Rattle.font_set.proofs.fonts.Fonts.advance.Goals as goal

pub skimmed-at-requires-clause-placed : goal.skimmed-at-requires-clause-placed
skimmed-at-requires-clause-placed c = placed c.args.sheet.now c.requires.found.0 c.args.self.now c.args.agenda.now.met c.args.place.now c.args.agenda.now.places c.requires.found.1

pub returns-then-ahead-clause-steps : goal.returns-then-ahead-clause-steps
returns-then-ahead-clause-steps c = λ yes.
    let set = c.args.self.now in
    let todo = c.args.agenda.now in
    let skim = c.skimmed-at.ensures in
    step_on c.one_spelling.ensures c.args.sheet.now c.args.place.now c.moved-ahead.result skim.passed.0 c.skimmed-at.result set set todo todo skim.passed.1 skim.further c.moved-ahead.ensures
    (left_step c.args.sheet.now c.moved-ahead.result set todo c.if-ahead.true)

pub run_quick-requires-clause-found : goal.run_quick-requires-clause-found
run_quick-requires-clause-found c =
    let found = c.requires.found in
    let skim = c.skimmed-at.ensures in (
      found.0,
      found_on c.one_spelling.ensures c.args.sheet.now found.0 c.args.self.now c.args.agenda.now.met c.args.place.now c.moved-ahead.result c.args.agenda.now.places skim.passed.0 c.skimmed-at.result skim.passed.1 c.moved-ahead.ensures found.1,
    )

pub returns-clause-steps : goal.returns-clause-steps
returns-clause-steps c =
    let skim = c.skimmed-at.ensures in
    if_ok c.run_quick.result
    (λ ran steps yes. step_on c.one_spelling.ensures c.args.sheet.now c.args.place.now c.moved-ahead.result skim.passed.0 c.skimmed-at.result c.args.self.now c.args.self.now c.args.agenda.now c.run_quick.new.agenda skim.passed.1 skim.further c.moved-ahead.ensures (steps yes))
    c.run_quick.ensures.steps

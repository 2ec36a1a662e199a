use Rattle.sections.specs.Cost.{IsPriced}
use Rattle.sections.proofs.tests.take.Given as goal

abbrev pub invariant-loop-code : goal.invariant-loop-code
invariant-loop-code l = IsPriced l.fonts l.usage

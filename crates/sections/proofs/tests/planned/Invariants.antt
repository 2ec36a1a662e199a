use Rattle.std.proofs.Common.{◌≡◌}
use Rattle.sections.specs.Cost.{IsPriced}
use Rattle.sections.specs.Planned.{pages_given}
use Rattle.sections.proofs.tests.planned.Given as goal

abbrev pub invariant-loop-page : goal.invariant-loop-page
invariant-loop-page l =
    record {
      usage : IsPriced l.fonts l.usage;
      last : IsPriced l.fonts l.planner.last;
      given : l.number ≡ pages_given l.planner;
    }

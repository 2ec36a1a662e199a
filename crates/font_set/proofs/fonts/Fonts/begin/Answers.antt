use Rattle.std.proofs.Common.{ℕ, List, Option, ap, sym, subst}
use Rattle.dvi_ops.specs.Placed.{Lexes}
use Rattle.font_set.specs.Programs.{Named}
use Rattle.font_set.specs.Locals.{FirstAnswer}
use Rattle.font_set.specs.Search.{program_or, bytes_or}
use Rattle.font_set.proofs.Showing.{empty_lexed, empty_first, begins, has_program}
use Rattle.font_set.proofs.fonts.Fonts.begin.Goals as goal

pub returns-in_default-clause-lexed : goal.returns-in_default-clause-lexed
returns-in_default-clause-lexed c = empty_lexed c.args.self.now c.args.id c.args.code c.in_default.ensures.value

pub returns-in_default-clause-first : goal.returns-in_default-clause-first
returns-in_default-clause-first c = empty_first c.args.self.now c.args.id c.args.code c.in_default.ensures.value

pub returns-in-Ok-clause-lexed : goal.returns-in-Ok-clause-lexed
returns-in-Ok-clause-lexed c =
    let b = begins c.one_reading.ensures c.args.self.now c.args.id c.args.code c.in-Some.bytes.now c.in-Some.ensures.value c.in-Some.ensures.commands in
    subst (λ (bs : List ℕ). Lexes 0 bs (program_or c.args.self.now c.args.id c.args.code).commands) (sym (ap bytes_or c.in-Some.ensures.value)) b.spelled

pub returns-in-Ok-clause-first : goal.returns-in-Ok-clause-first
returns-in-Ok-clause-first c =
    let b = begins c.one_reading.ensures c.args.self.now c.args.id c.args.code c.in-Some.bytes.now c.in-Some.ensures.value c.in-Some.ensures.commands in
    subst (λ (o : Option Named). FirstAnswer o c.in-Ok.first) (sym b.first) c.in-Ok.ensures.key

pub returns-in-Err-clause-fault : goal.returns-in-Err-clause-fault
returns-in-Err-clause-fault c =
    let p = has_program c.one_reading.ensures c.args.self.now c.args.id c.args.code c.in-Some.bytes.now c.in-Some.ensures.value c.in-Some.ensures.commands in
    (p.0, p.1, c.in-Err.ensures.bad)

use Rattle.std.proofs.Common.{◌++◌, List, ℕ, sym, subst}
use Rattle.dvi_ops.specs.View.{view}
use Rattle.dvi_ops.specs.Shortest.{IsShortest, end_text}
use Rattle.dvi_ops.proofs.Least.{shortest_spelling}
use Rattle.dvi_ops.proofs.put.put_cmd.Goals as goal

pub returns-clause-least : goal.returns-clause-least
returns-clause-least c =
    let cmd = view c.args.cmd.now in
    subst (λ (front : List ℕ). IsShortest cmd (front ++ end_text cmd)) (sym c.put_front.ensures.value) (shortest_spelling cmd c.put_front.ensures.room)

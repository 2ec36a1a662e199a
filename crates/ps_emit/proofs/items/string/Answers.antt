use Rattle.std.proofs.Common.{rules, ◌++◌, take, ap, ◌∙◌, get_or, append_assoc}
use Rattle.std.specs.Prelude.{codes}
use Rattle.ps_subset.specs.Strings.{escape, escapes}
use Rattle.ps_emit.proofs.Codes.{escapes_more}
use Rattle.ps_emit.proofs.items.string.Goals as goal

pub loop-c-preserved : goal.loop-c-preserved
loop-c-preserved c =
    let before = c.args.out.now in
    let more = escapes_more c.args.codes.now c.loop-c.c-index (search rules) in
    record {
      value =
          c.code.ensures.value ∙ ap (λ l. l ++ escape (get_or c.args.codes.now c.loop-c.c-index 0)) c.loop-c.invariant.value
          ∙ append_assoc before (codes "(" ++ escapes (take c.loop-c.c-index c.args.codes.now)) (escape (get_or c.args.codes.now c.loop-c.c-index 0))
          ∙ ap (λ l. before ++ (codes "(" ++ l)) more;
      len = search rules;
    }

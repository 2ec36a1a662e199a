use Rattle.std.proofs.Common.{rules}
use Rattle.std.proofs.lemmas.Result.{err_from_is_err_and}
use Rattle.dvi_ops.specs.View.{def_view}
use Rattle.font_set.proofs.Gaining.{learnt_gains}
use Rattle.dvitype_list.proofs.Widening.{any_learnt, few_keys, learned_of, not_learned_of}
use Rattle.dvitype_list.proofs.fonts.learn.Goals as goal

pub returns-in_err-id-clause-fault : goal.returns-in_err-id-clause-fault
returns-in_err-id-clause-fault c =
    let p = err_from_is_err_and c.from_residual.result c.from_residual.ensures.1 in
    rw (p.1, p.2) (not_learned_of c.args.fonts.now (def_view c.args.font.now) c.of-key.result _ c.of-key.ensures c.in_err-id.ensures.fault)

pub returns-clause-ok : goal.returns-clause-ok
returns-clause-ok c =
    learned_of c.args.fonts.now c.know.new.self (def_view c.args.font.now) c.of-key.result _ c.of-key.ensures c.in_ok-id.ensures.id (search rules) c.in_ok-id.ensures.learnt.learns
    (few_keys c.know.new.self c.count-few.result c.count-few.ensures.value c.count-few.ensures.few)

pub returns-clause-gains : goal.returns-clause-gains
returns-clause-gains c = λ held. any_learnt held c.args.fonts.now c.know.new.self _ _ (learnt_gains held c.args.fonts.now c.know.new.self _ c.in_ok-id.ensures.learns c.in_ok-id.ensures.learnt)

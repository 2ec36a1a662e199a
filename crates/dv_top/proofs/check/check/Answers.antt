use Rattle.std.proofs.lemmas.Result.{err_from_is_err_and}
use Rattle.dv_words.specs.JobView.{print_view}
use Rattle.dv_top.proofs.Drafted.{same_limits}
use Rattle.dv_top.proofs.check.check.Goals as goal

pub returns-in_err-check_pages-clause-reason : goal.returns-in_err-check_pages-clause-reason
returns-in_err-check_pages-clause-reason c = λ pages are.
    let p = err_from_is_err_and c.from_residual-in_err-check_pages.result c.from_residual-in_err-check_pages.ensures.1 in
    rw (p.1, p.2) (c.in_err-check_pages.ensures.reason pages are)

pub returns-clause-noted : goal.returns-clause-noted
returns-clause-noted c = λ pages are. c.in_ok-check_pages.ensures.noted pages are (print_view c.args.job.now) c.in_ok-notes.ensures.none

pub returns-clause-drafted : goal.returns-clause-drafted
returns-clause-drafted c = λ pages are. same_limits c.args.fonts.now c.args.job.now.memory c.args.job.now.per_section c.in_ok-draft.draft c.check_pages.new.draft _ _ c.in_ok-draft.ensures (c.in_ok-check_pages.ensures.drafted pages are)

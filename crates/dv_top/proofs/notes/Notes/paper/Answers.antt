use Rattle.std.proofs.Common.{◌≡◌, sym, ap, subst, ◌∙◌, ℤ, Option}
use Rattle.std.specs.Option.{option_or, unwrap_or}
use Rattle.dv_top.specs.Noted.{HasNoted}
use Rattle.dv_top.specs.Papers.{IsSmallPaper, letter, paper_of}
use Rattle.dv_top.proofs.SmallPapers.{paper_small, paper_value}
use Rattle.dv_top.proofs.notes.Notes.paper.Goals as goal

pub returns-clause-small : goal.returns-clause-small
returns-clause-small c = λ job pages noted small.
    let n = subst (λ v. HasNoted job v pages) (sym c.self.view_is) noted in
    let value : c.unwrap_or.result ≡ paper_of job.paper pages =
    c.unwrap_or.ensures ∙ ap (λ (o : Option (ℤ × ℤ)). unwrap_or o letter) (c.or.ensures ∙ ap (λ (o : Option (ℤ × ℤ)). option_or o c.self.inside.paper) n.words)
    ∙ paper_value job.paper c.self.inside.paper pages n.paper in
    subst IsSmallPaper (sym value) (paper_small job.paper pages small)

use Rattle.std.proofs.Common.{ap, sym, subst, ◌∙◌}
use Rattle.sections.specs.Planned.{IsPlanned, Planning}
use Rattle.sections.proofs.Planning.{finished, last_used}
use Rattle.sections.proofs.planner.Planner.into_parts.Goals as goal

pub returns : goal.returns
returns c =
    let u = c.self.inside in
    let whole : Planning = record { budget = u.budget; most = u.most; last = u.last; lengths = u.lengths.items } in
    record {
      plan = λ set pages h. ap (λ (p : Planning). p.lengths) c.self.view_is ∙ finished set c.args.self pages h;
      last = λ set pages h. last_used set whole pages (subst (λ (p : Planning). IsPlanned set p pages) (sym c.self.view_is) h);
      usage = ap (λ (p : Planning). p.last) c.self.view_is;
    }

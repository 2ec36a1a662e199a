use Rattle.std.proofs.Common.{◌≡◌, ◌≤◌, ◌+◌, ◌-◌, ◌++◌, ◌∷◌, [], ℕ, List, length, arith, sym, ap, subst, ◌∙◌}
use Rattle.std.specs.Prelude.{slice_set}
use Rattle.sections.specs.Planned.{Planning, IsPlanned}
use Rattle.sections.specs.Used.{is_used}
use Rattle.sections.specs.Cost.{cost}
use Rattle.sections.specs.Growing.{IsTaken, IsRefused, last_length}
use Rattle.sections.proofs.Planning.{page_joined, page_begun}
use Rattle.sections.proofs.planner.Planner.page.Goals as goal

pub returns-then-joins-clause-planned : goal.returns-then-joins-clause-planned
returns-then-joins-clause-planned c = λ pages marks planned taken.
    let set = c.args.fonts.now in
    let u = c.self.inside in
    let ns = u.lengths.items in
    let before : Planning = record { budget = u.budget; most = u.most; last = u.last; lengths = ns } in
    let kept = c.reserve.ensures.items in
    let count : c.last_count-count.result ≡ last_length ns = c.last_count-count.ensures ∙ ap last_length (c.deref.ensures.value ∙ kept) in
    let at : c.len-at.result ≡ length ns = c.len-at.ensures ∙ (c.reserve.new.self.ok.0 ∙ ap length kept) in
    let is : IsTaken set u.budget u.most (last_length ns) u.last c.args.usage.now c.joins.new.last =
    subst (λ n. IsTaken set u.budget u.most n u.last c.args.usage.now c.joins.new.last) count
    (subst (λ n. IsTaken set n u.most c.last_count-count.result u.last c.args.usage.now c.joins.new.last) c.from-have.ensures c.if-joins.ensures.may) in
    let e : slice_set c.reserve.new.self.items (c.len-at.result - 1) (c.last_count-count.result + 1) ≡ slice_set ns (length ns - 1) (last_length ns + 1) =
    ap (λ ms. slice_set ms (c.len-at.result - 1) (c.last_count-count.result + 1)) kept
    ∙ (ap (λ n. slice_set ns (n - 1) (c.last_count-count.result + 1)) at ∙ ap (λ n. slice_set ns (length ns - 1) (n + 1)) count) in
    subst (λ (ms : List ℕ). IsPlanned set (record { budget = u.budget; most = u.most; last = c.joins.new.last; lengths = ms }) (pages ++ marks ∷ [])) (sym e)
    (page_joined set before pages c.args.usage.now c.joins.new.last marks (subst (λ (p : Planning). IsPlanned set p pages) (sym c.self.view_is) planned) c.requires.priced taken is)

pub returns-else-joins-clause-planned : goal.returns-else-joins-clause-planned
returns-else-joins-clause-planned c = λ pages marks planned taken.
    let set = c.args.fonts.now in
    let u = c.self.inside in
    let ns = u.lengths.items in
    let before : Planning = record { budget = u.budget; most = u.most; last = u.last; lengths = ns } in
    let kept = c.reserve.ensures.items in
    let count : c.last_count-count.result ≡ last_length ns = c.last_count-count.ensures ∙ ap last_length (c.deref.ensures.value ∙ kept) in
    let refused : IsRefused set u.budget u.most (last_length ns) u.last c.args.usage.now =
    subst (λ n. IsRefused set u.budget u.most n u.last c.args.usage.now) count
    (subst (λ n. IsRefused set n u.most c.last_count-count.result u.last c.args.usage.now) c.from-have.ensures c.if-joins.ensures.may) in
    let need = c.cost-need.ensures in
    let have = c.from-have.ensures in
    let small = c.if-need-have.false in
    let light : cost set (is_used c.args.usage.now) ≤ u.budget = omega (arith, need, have, small) in
    let e : c.push_reserved.new.self.items ≡ ns ++ 1 ∷ [] = c.push_reserved.ensures.items ∙ ap (λ ms. ms ++ 1 ∷ []) kept in
    subst (λ (ms : List ℕ). IsPlanned set (record { budget = u.budget; most = u.most; last = c.begin.new.last; lengths = ms }) (pages ++ marks ∷ [])) (sym e)
    (page_begun set before pages c.args.usage.now c.begin.new.last marks c.self.invariant (subst (λ (p : Planning). IsPlanned set p pages) (sym c.self.view_is) planned) c.requires.priced c.begin.ensures.priced
    taken (c.begin.ensures.taken marks taken) light refused)

use Rattle.std.proofs.Common.{◌≤◌, ◌+◌, ◌*◌, ◌∙◌, ℕ, false, length, slice_index_or, arith, sym, ap}
use Rattle.font_set.specs.Found.{Todo}
use Rattle.font_set.proofs.Growing.{mark_read}
use Rattle.font_set.proofs.Padding.{padded_read, padded_past, not_below}
use Rattle.font_set.proofs.agenda.Agenda.has_met.Goals as goal

pub returns-then-at-len : goal.returns-then-at-len
returns-then-at-len c =
    let vs = c.self.inside.met.items in
    let at = c.number.result * 256 + c.args.code in
    sym (mark_read vs at c.index.result.now (omega (arith, c.len.ensures, c.if-at-len.true)) c.index.ensures)
    ∙ sym (padded_read vs at) ∙ ap (λ (t : Todo). slice_index_or t.met at false) c.self.view_is
    ∙ ap (λ (n : ℕ). slice_index_or c.args.self.now.met (n * 256 + c.args.code) false) c.number.ensures.value

pub returns-else-at-len : goal.returns-else-at-len
returns-else-at-len c =
    let vs = c.self.inside.met.items in
    let at = c.number.result * 256 + c.args.code in
    let far : length vs ≤ at = omega (arith, c.len.ensures, c.if-at-len.false) in
    not_below at c.len.result c.if-at-len.false ∙ sym (padded_past vs at far) ∙ ap (λ (t : Todo). slice_index_or t.met at false) c.self.view_is
    ∙ ap (λ (n : ℕ). slice_index_or c.args.self.now.met (n * 256 + c.args.code) false) c.number.ensures.value

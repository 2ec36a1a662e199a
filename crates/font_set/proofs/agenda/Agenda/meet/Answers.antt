use Rattle.std.proofs.Common.{◌<◌, ◌+◌, ◌*◌, ◌∙◌, ℕ, List, Bool, true, length, slice_set, arith, ap}
use Rattle.font_set.specs.Found.{Todo}
use Rattle.font_set.proofs.Padding.{padded_length, padded_set}
use Rattle.font_set.proofs.agenda.Agenda.meet.Goals as goal

pub returns-in_err-widen-clause-within : goal.returns-in_err-widen-clause-within
returns-in_err-widen-clause-within c =
    omega (arith, c.ranges.code.fits, c.number.ensures.value, c.number.ensures.bound, padded_length c.self.inside.met.items c.self.invariant, ap (λ (t : Todo). length t.met) c.self.view_is)

pub returns-clause-met : goal.returns-clause-met
returns-clause-met c =
    let at = c.number.result * 256 + c.args.code in
    let inside : at < length c.widen.new.met.items = omega (arith, c.ranges.code.fits, c.in_ok-widen.ensures.enough) in
    padded_set c.widen.new.met.items at inside ∙ ap (λ (vs : List Bool). slice_set vs at true) (c.in_ok-widen.ensures.same ∙ ap (λ (t : Todo). t.met) c.self.view_is)
    ∙ ap (λ (n : ℕ). slice_set c.args.self.now.met (n * 256 + c.args.code) true) c.number.ensures.value

pub returns-clause-within : goal.returns-clause-within
returns-clause-within c =
    omega (arith, c.ranges.code.fits, c.number.ensures.value, c.number.ensures.bound, padded_length c.self.inside.met.items c.self.invariant, ap (λ (t : Todo). length t.met) c.self.view_is)

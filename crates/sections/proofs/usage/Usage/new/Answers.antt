use Rattle.std.proofs.Common.{refl, arith, ◌∙◌}
use Rattle.sections.proofs.Marking.{kept_none}
use Rattle.sections.proofs.usage.Usage.new.Goals as goal

pub invariant_of-result : goal.invariant_of-result
invariant_of-result c =
    let count = c.count-count.ensures.value in
    let few = c.count-count.ensures.few in
    let used = c.in_ok-used.ensures.many in
    let taken = c.in_ok-taken.ensures.many in
    let prices = c.in_ok-prices.ensures.many in
    let room = c.in_ok-reserve.ensures.ok in
    kept_none _ (omega (arith, used, few)) (omega (arith, used, count, prices)) (omega (arith, used, taken)) c.in_ok-prices.ensures.bound c.in_ok-taken.ensures.none c.in_ok-used.ensures.none
    (c.in_ok-reserve.ensures.items ∙ c.new-places.ensures.items) (c.in_ok-reserve.ensures.len ∙ c.new-places.ensures.len) (omega (arith, taken, room)) refl

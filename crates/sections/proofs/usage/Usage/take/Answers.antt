use Rattle.std.proofs.Common.{◌≡◌, ◌<◌, ◌+◌, ◌*◌, ◌/◌, Bool, true, false, length, get_or, arith, sym, subst, ◌∙◌, ap}
use Rattle.std.proofs.lemmas.List.{get_or_default}
use Rattle.sections.specs.Used.{Used}
use Rattle.sections.specs.Cost.{font_step}
use Rattle.sections.specs.Kept.{IsKept}
use Rattle.sections.specs.declared.usage.Usage.TheInside.{Inside}
use Rattle.sections.proofs.Marking.{room_for_one, kept_more, cost_fits, inside_taken, inside_fonts}
use Rattle.sections.proofs.usage.Usage.take.Goals as goal

pub push_reserved-requires : goal.push_reserved-requires
push_reserved-requires c =
    let u = c.self.inside in
    let k = c.self.invariant in
    let given = subst (λ (v : Used). c.args.place < v.fonts * 256) (sym c.self.view_is) c.requires.given in
    let less = inside_taken u c.args.place k given in
    let before : get_or u.taken.items c.args.place false ≡ false = get_or_default u.taken.items c.args.place false c.index.result.now less ∙ (sym c.index.ensures ∙ c.if-index.false) in
    let count = k.count in
    let room = k.room in
    omega (arith, count, room, room_for_one u.taken.items c.args.place less before)

pub overflow_add-self : goal.overflow_add-self
overflow_add-self c =
    let u = c.self.inside in
    let k = c.self.invariant in
    let p = c.args.place in
    let given = subst (λ (v : Used). p < v.fonts * 256) (sym c.self.view_is) c.requires.given in
    let less = inside_taken u p k given in
    let font = inside_fonts u p k given in
    let marks = get_or_default u.fonts.items (p / 256) false c.index-2.result.now font ∙ sym c.index-2.ensures in
    let price = get_or_default u.prices.items p 0 c.index-3.result.now (subst (λ n. p < n) (k.taken ∙ sym k.prices) less) ∙ sym c.index-3.ensures in
    omega (arith, cost_fits u c.added-added.result (p / 256) p k (c.added-added.ensures ∙ sym (ap (λ b. font_step b + get_or u.prices.items p 0) marks ∙ ap (λ n. font_step c.index-2.result.now + n) price)))

pub invariant_of-self : goal.invariant_of-self
invariant_of-self c =
    let u = c.self.inside in
    let k = c.self.invariant in
    let p = c.args.place in
    let given = subst (λ (v : Used). p < v.fonts * 256) (sym c.self.view_is) c.requires.given in
    let less = inside_taken u p k given in
    let font = inside_fonts u p k given in
    let before : get_or u.taken.items p false ≡ false = get_or_default u.taken.items p false c.index.result.now less ∙ (sym c.index.ensures ∙ c.if-index.false) in
    let marks = get_or_default u.fonts.items (p / 256) false c.index-2.result.now font ∙ sym c.index-2.ensures in
    let price = get_or_default u.prices.items p 0 c.index-3.result.now (subst (λ n. p < n) (k.taken ∙ sym k.prices) less) ∙ sym c.index-3.ensures in
    kept_more u p c.push_reserved.new.self c.added-added.result k less before c.push_reserved.ensures.items c.push_reserved.ensures.len c.push_reserved.ensures.capacity
    (c.added-added.ensures ∙ sym (ap (λ b. font_step b + get_or u.prices.items p 0) marks ∙ ap (λ n. font_step c.index-2.result.now + n) price))

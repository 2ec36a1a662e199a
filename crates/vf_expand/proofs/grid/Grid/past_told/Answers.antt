use Rattle.std.proofs.Common.{◌∙◌, ◌+ℤ◌, sym, ap, subst, to_z, of_z, w64, rules, Some, arith}
use Rattle.std.proofs.lemmas.Int.{ints, to_z-of_z}
use Rattle.dv_base.specs.Excess.{Tells, excess}
use Rattle.positions.specs.Place.{Place, IsPlace}
use Rattle.positions.specs.Drift.{IsDrift}
use Rattle.vf_expand.specs.Grid.{Grid}
use Rattle.vf_expand.proofs.Told.{numbers, told_size, sum_told, told_there, within_test}
use Rattle.vf_expand.proofs.grid.Grid.past_told.Goals as goal

pub invariant_of-here : goal.invariant_of-here
invariant_of-here c =
    let p = c.args.here.now in
    let w = c.args.wide.now in
    let drift = subst (λ (g : Grid). IsDrift g.drift) c.self.view_is c.self.invariant in
    let is = within_test c.args.self.now p w c.args.told c.args.reach _ _ drift c.requires.reach c.requires.wide c.requires.told c.requires.fits c.unsigned_abs.ensures.value c.unsigned_abs-2.ensures.value c.if-unsigned_abs.true in
    let there = numbers _ w.width w.pixels c.here.invariant c.requires.wide.width_bound c.requires.wide.pixels_bound ∙ ap (λ (x : Place). record x { h = x.h +ℤ w.width; hh = x.hh +ℤ w.pixels }) c.here.view_is in
    let i = subst IsPlace c.here.view_is c.here.invariant in
    subst IsPlace (sym there) (record { h = is.size; v = i.v; hh = is.pixels; vv = i.vv; w = i.w; x = i.x; y = i.y; z = i.z })

pub returns-then-unsigned_abs-clause-past : goal.returns-then-unsigned_abs-clause-past
returns-then-unsigned_abs-clause-past c =
    let p = c.args.here.now in
    let w = c.args.wide.now in
    let drift = subst (λ (g : Grid). IsDrift g.drift) c.self.view_is c.self.invariant in
    let is = within_test c.args.self.now p w c.args.told c.args.reach _ _ drift c.requires.reach c.requires.wide c.requires.told c.requires.fits c.unsigned_abs.ensures.value c.unsigned_abs-2.ensures.value c.if-unsigned_abs.true in
    let there = numbers _ w.width w.pixels c.here.invariant c.requires.wide.width_bound c.requires.wide.pixels_bound ∙ ap (λ (x : Place). record x { h = x.h +ℤ w.width; hh = x.hh +ℤ w.pixels }) c.here.view_is in
    is.past ∙ ap Some (sym there)

pub returns-then-unsigned_abs-clause-told : goal.returns-then-unsigned_abs-clause-told
returns-then-unsigned_abs-clause-told c =
    let p = c.args.here.now in
    let w = c.args.wide.now in
    let drift = subst (λ (g : Grid). IsDrift g.drift) c.self.view_is c.self.invariant in
    let is = within_test c.args.self.now p w c.args.told c.args.reach _ _ drift c.requires.reach c.requires.wide c.requires.told c.requires.fits c.unsigned_abs.ensures.value c.unsigned_abs-2.ensures.value c.if-unsigned_abs.true in
    let there = numbers _ w.width w.pixels c.here.invariant c.requires.wide.width_bound c.requires.wide.pixels_bound ∙ ap (λ (x : Place). record x { h = x.h +ℤ w.width; hh = x.hh +ℤ w.pixels }) c.here.view_is in
    subst (λ (x : Place). Tells (to_z w64 (of_z w64 (to_z w64 (of_z w64 c.args.told) +ℤ to_z w64 (of_z w64 w.excess)))) (excess c.args.self.now.across x.h x.hh)) (sym there)
    (told_there c.args.self.now p w c.args.told c.args.reach _ c.requires.reach is (sum_told c.args.self.now w c.args.told _ c.requires.wide c.requires.told))

pub returns-clause-told : goal.returns-clause-told
returns-clause-told c = let h = c.excess.ensures in search (rules, to_z-of_z, h)

pub overflow_add-sum : goal.overflow_add-sum
overflow_add-sum c =
    let told = told_size c.args.told _ c.requires.told in
    let more = told_size c.args.wide.now.excess _ c.requires.wide.excess in
    omega (arith, ints, told, more)

use Rattle.std.proofs.Common.{◌∷◌, sym, subst}
use Rattle.font_set.specs.Found.{Todo, FoundAt}
use Rattle.std.proofs.lemmas.Result.{err_from_is_err_and}
use Rattle.font_set.specs.LoadFaults.{MustKnow, MustLoad}
use Rattle.font_set.proofs.Gaining.{gains_self}
use Rattle.font_set.proofs.Telling.{fault_before}
use Rattle.font_set.proofs.Steps.{page_gains, keeps_on, keeps_self, still_found, start_found, left_found, end_found, end_covers, end_order, end_loads}
use Rattle.font_set.proofs.fonts.Fonts.search.Goals as goal

pub loop-place-init : goal.loop-place-init
loop-place-init g c =
    let told = g.S.Shelf.told c.args.shelf.now in (
      start_found c.args.sheet.now c.args.self.now c.first_place.result c.in_ok-agenda.agenda (record { short = c.requires.short; lexed = c.requires.lexed; none = c.requires.none }) c.first_place.ensures
          c.in_ok-agenda.ensures.places c.in_ok-agenda.ensures.none,
      gains_self told.held c.args.self.now (MustLoad c.args.self.now c.args.sheet.now.page) (MustKnow c.args.self.now c.args.sheet.now.page),
      keeps_self told,
    )

pub loop-place-preserved-then-place : goal.loop-place-preserved-then-place
loop-place-preserved-then-place g c = (
  left_found c.args.sheet.now c.args.self.now c.loop-place.self c.loop-place.agenda c.next.new.self c.in-Some.place c.in-Some.ensures.place c.in-Some.ensures.met c.if-place.true c.loop-place.invariant.0,
  c.loop-place.invariant.1,
  c.loop-place.invariant.2,
)

pub loop-place-preserved-then-ran : goal.loop-place-preserved-then-ran
loop-place-preserved-then-ran g c =
    let steps = c.in_ok-ran.ensures.steps c.if-ran.true in (
      steps.found c.args.self.now (still_found c.args.sheet.now c.args.self.now c.loop-place.self c.loop-place.agenda c.next.new.self c.in-Some.place c.in-Some.ensures.place c.in-Some.ensures.met c.loop-place.invariant.0),
      c.loop-place.invariant.1,
      c.loop-place.invariant.2,
    )

pub step-requires-clause-found : goal.step-requires-clause-found
step-requires-clause-found g c =
    let same = c.in_ok-ran.ensures.same c.if-ran.false in (
      c.args.self.now,
      subst (λ (a : Todo). FoundAt c.args.sheet.now c.args.self.now c.loop-place.self a.met (c.in-Some.place ∷ a.places)) (sym same)
          (still_found c.args.sheet.now c.args.self.now c.loop-place.self c.loop-place.agenda c.next.new.self c.in-Some.place c.in-Some.ensures.place c.in-Some.ensures.met c.loop-place.invariant.0),
    )

pub loop-place-preserved : goal.loop-place-preserved
loop-place-preserved g c =
    let before = g.S.Shelf.told c.args.shelf.now in
    let now = g.S.Shelf.told c.loop-place.shelf in
    let steps = c.in_ok-step.ensures.steps in (
      steps.found c.args.self.now
          (subst (λ (a : Todo). FoundAt c.args.sheet.now c.args.self.now c.loop-place.self a.met (c.in-Some.place ∷ a.places)) (sym (c.in_ok-ran.ensures.same c.if-ran.false))
          (still_found c.args.sheet.now c.args.self.now c.loop-place.self c.loop-place.agenda c.next.new.self c.in-Some.place c.in-Some.ensures.place c.in-Some.ensures.met c.loop-place.invariant.0)),
      page_gains before.held now.held c.args.sheet.now.page c.args.self.now c.loop-place.self c.step.new.self (let k = c.loop-place.invariant.2 in k.held_same) c.loop-place.invariant.1 c.in_ok-step.ensures.gains,
      keeps_on before now (g.S.Shelf.told c.step.new.shelf) c.loop-place.invariant.2 c.in_ok-step.ensures.keeps,
    )

pub returns-in_err-step-clause-gains : goal.returns-in_err-step-clause-gains
returns-in_err-step-clause-gains g c =
    let before = g.S.Shelf.told c.args.shelf.now in
    let now = g.S.Shelf.told c.loop-place.shelf in
    let k = c.loop-place.invariant.2 in
    page_gains before.held now.held c.args.sheet.now.page c.args.self.now c.loop-place.self c.step.new.self k.held_same c.loop-place.invariant.1 c.in_err-step.ensures.gains

pub returns-in_err-step-clause-fault : goal.returns-in_err-step-clause-fault
returns-in_err-step-clause-fault g c =
    let before = g.S.Shelf.told c.args.shelf.now in
    let now = g.S.Shelf.told c.loop-place.shelf in
    let new = g.S.Shelf.told c.step.new.shelf in
    let q = err_from_is_err_and c.from_residual-in_err-step.result c.from_residual-in_err-step.ensures.1 in
    rw (q.1, q.2) (fault_before c.step.new.self c.args.sheet.now.page before now new c.loop-place.invariant.2 c.in_err-step.field-0.0 c.in_err-step.ensures.fault)

pub returns-in_err-step-clause-keeps : goal.returns-in_err-step-clause-keeps
returns-in_err-step-clause-keeps g c =
    keeps_on (g.S.Shelf.told c.args.shelf.now) (g.S.Shelf.told c.loop-place.shelf) (g.S.Shelf.told c.step.new.shelf) c.loop-place.invariant.2 c.in_err-step.ensures.keeps

pub returns-clause-covers : goal.returns-clause-covers
returns-clause-covers g c =
    end_covers c.args.sheet.now c.args.self.now c.loop-place.self c.loop-place.agenda.met
    (end_found c.args.sheet.now c.args.self.now c.loop-place.self c.loop-place.agenda c.in_default.ensures.place.0 c.loop-place.invariant.0)

pub returns-clause-order : goal.returns-clause-order
returns-clause-order g c =
    end_order c.args.sheet.now c.args.self.now c.loop-place.self c.loop-place.agenda.met
    (end_found c.args.sheet.now c.args.self.now c.loop-place.self c.loop-place.agenda c.in_default.ensures.place.0 c.loop-place.invariant.0)

pub returns-clause-loads : goal.returns-clause-loads
returns-clause-loads g c =
    end_loads c.args.sheet.now c.args.self.now c.loop-place.self c.loop-place.agenda.met
    (end_found c.args.sheet.now c.args.self.now c.loop-place.self c.loop-place.agenda c.in_default.ensures.place.0 c.loop-place.invariant.0)

use Rattle.std.proofs.Common.{ℕ, Some, sym, ap, subst, ◌∙◌}
use Rattle.font_set.specs.Fonts.{FontSet}
use Rattle.font_set.specs.LoadFaults.{FontFaultIs, LoadFaultIs}
use Rattle.font_set.specs.declared.fault.LoadFault.{LoadFault}
use Rattle.font_set.specs.Search.{moves}
use Rattle.font_set.specs.Views.{key_of}
use Rattle.font_set.proofs.States.{learn_states}
use Rattle.std.proofs.lemmas.Result.{err_from_is_err_and}
use Rattle.font_set.proofs.Gaining.{learnt_gains}
use Rattle.font_set.proofs.Steps.{select_step, selected_here, select_gains, select_fault}
use Rattle.font_set.proofs.fonts.Fonts.select.Goals as goal

pub returns-clause-steps : goal.returns-clause-steps
returns-clause-steps c =
    select_step c.args.sheet.now c.args.place.now c.moved.result c.args.turn.now c.args.key.now c.in_ok-id.id c.args.self.now c.know.new.self c.args.agenda.now c.push.new.self
    c.requires.read c.requires.does c.in_ok-id.ensures.learnt (learn_states c.args.self.now c.know.new.self (key_of c.args.key.now) c.in_ok-id.ensures.learns) c.in_ok-id.ensures.id
    (c.moved.ensures ∙ ap (λ (n : ℕ). moves c.args.place.now c.args.turn.now.next (Some n)) c.number.ensures.value) c.in_ok-push.ensures.places c.in_ok-push.ensures.met

pub returns-in_err-push-clause-gains : goal.returns-in_err-push-clause-gains
returns-in_err-push-clause-gains c =
    let e = c.in_ok-id.ensures in
    let now = c.args.self.now in
    let must = selected_here c.args.sheet.now c.requires.found.0 now c.args.agenda.now.met c.args.place.now c.args.agenda.now.places c.args.turn.now c.args.key.now c.requires.read c.requires.does c.requires.found.1 in
    λ held. select_gains held c.args.sheet.now.page now c.know.new.self (key_of c.args.key.now) must (learnt_gains held now c.know.new.self (key_of c.args.key.now) e.learns e.learnt)

pub returns-clause-gains : goal.returns-clause-gains
returns-clause-gains c =
    let e = c.in_ok-id.ensures in
    let now = c.args.self.now in
    let must = selected_here c.args.sheet.now c.requires.found.0 now c.args.agenda.now.met c.args.place.now c.args.agenda.now.places c.args.turn.now c.args.key.now c.requires.read c.requires.does c.requires.found.1 in
    λ held. select_gains held c.args.sheet.now.page now c.know.new.self (key_of c.args.key.now) must (learnt_gains held now c.know.new.self (key_of c.args.key.now) e.learns e.learnt)

pub returns-in_err-id-clause-fault : goal.returns-in_err-id-clause-fault
returns-in_err-id-clause-fault c =
    let now = c.args.self.now in
    let page = c.args.sheet.now.page in
    let f = c.in_err-id.field-0.0 in
    let must = selected_here c.args.sheet.now c.requires.found.0 now c.args.agenda.now.met c.args.place.now c.args.agenda.now.places c.args.turn.now c.args.key.now c.requires.read c.requires.does c.requires.found.1 in
    let q = err_from_is_err_and c.from_residual.result c.from_residual.ensures.1 in
    rw q.1
    (λ a b.
    subst (λ (e : LoadFault). LoadFaultIs c.know.new.self page a b e) (sym q.2)
    (subst (λ (s : FontSet). FontFaultIs s page a b f) (sym c.in_err-id.ensures.same) (select_fault page now (key_of c.args.key.now) f must c.in_err-id.ensures.fault a b)))

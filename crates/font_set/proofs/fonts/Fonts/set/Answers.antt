use Rattle.std.proofs.Common.{◌≡◌, ℕ, ℤ, Some, sym, ap, subst, ◌∙◌, ◌<◌, length, arith, OnOk, IfErr, FitsSigned, w64, rules}
use Rattle.std.proofs.lemmas.Int.{to_z-of_z}
use Rattle.dv_base.specs.declared.font_id.Spot.{Spot}
use Rattle.font_set.specs.LoadFaults.{InFrame, SetsNowhere}
use Rattle.font_set.specs.Found.{WasMet, Meets}
use Rattle.font_set.specs.Gains.{Gains}
use Rattle.font_set.specs.Search.{MeetFault, BeginsIn}
use Rattle.font_set.proofs.Telling.{met_gains}
use Rattle.font_set.proofs.Steps.{placed, font_below, skip_step, meet_step, nowhere_fault, set_here, meet_fault, on_ok, if_err}
use Rattle.font_set.proofs.fonts.Fonts.set.Goals as goal

pub returns-in_default-clause-fault : goal.returns-in_default-clause-fault
returns-in_default-clause-fault g c =
    subst (λ (x : Spot). InFrame c.args.self.now c.args.sheet.now.page x SetsNowhere) (sym c.spot.ensures)
    (nowhere_fault c.args.sheet.now c.requires.found.0 c.args.self.now c.args.agenda.now.met c.args.place.now c.args.agenda.now.places c.args.turn.now c.args.z c.requires.read c.requires.does c.in_default.is c.requires.found.1)

pub spot-requires : goal.spot-requires
spot-requires g c =
    let p = placed c.args.sheet.now c.requires.found.0 c.args.self.now c.args.agenda.now.met c.args.place.now c.args.agenda.now.places c.requires.found.1 in
    let short = p.short in
    let further = c.requires.read.further in
    let within = c.requires.read.within in
    record { given = p.given; short = omega (arith, short, further, within) }

pub numbered-id-requires : goal.numbered-id-requires
numbered-id-requires g c =
    record { given = font_below c.args.sheet.now c.requires.found.0 c.args.self.now c.args.agenda.now.met c.args.place.now c.args.agenda.now.places c.in-Some.number c.requires.found.1 c.in-Some.is }

pub meet-requires : goal.meet-requires
meet-requires g c =
    record {
      given = subst (λ (n : ℕ). n < length c.args.self.now.fonts) (sym c.numbered-id.ensures)
          (font_below c.args.sheet.now c.requires.found.0 c.args.self.now c.args.agenda.now.met c.args.place.now c.args.agenda.now.places c.in-Some.number c.requires.found.1 c.in-Some.is);
    }

pub returns-then-was_met-clause-steps : goal.returns-then-was_met-clause-steps
returns-then-was_met-clause-steps g c =
    let fits : FitsSigned w64 c.args.z = search rules in
    let w = subst (λ (z : ℤ). WasMet c.push.new.self.met c.numbered-id.result z) (to_z-of_z w64 c.args.z fits) c.if-was_met.ensures in
    skip_step c.args.sheet.now c.args.place.now c.moved.result c.args.turn.now c.args.z c.numbered-id.result w.0 c.args.self.now c.args.agenda.now c.push.new.self
    c.requires.read c.requires.does (c.in-Some.is ∙ ap (λ (n : ℕ). Some n) (sym c.numbered-id.ensures)) w.1 w.2 w.3 c.moved.ensures c.in_ok-push.ensures.places c.in_ok-push.ensures.met

pub returns-clause-steps : goal.returns-clause-steps
returns-clause-steps g c =
    let fits : FitsSigned w64 c.args.z = search rules in
    let z_is = to_z-of_z w64 c.args.z fits in
    let place = placed c.args.sheet.now c.requires.found.0 c.args.self.now c.args.agenda.now.met c.args.place.now c.args.agenda.now.places c.requires.found.1 in
    let meets = subst (λ (z : ℤ). OnOk c.meet.result (Meets c.args.self.now c.meet.new.self c.numbered-id.result z c.push.new.self c.meet.new.agenda)) z_is c.meet.ensures.meets in
    let unmet = subst (λ (z : ℤ). WasMet c.push.new.self.met c.numbered-id.result z → ⊥) z_is c.if-was_met.ensures in
    on_ok c.meet.result (λ m.
    meet_step c.args.sheet.now c.args.place.now c.moved.result c.args.turn.now c.args.z c.numbered-id.result c.args.self.now c.meet.new.self c.args.agenda.now c.push.new.self c.meet.new.agenda
    c.requires.read c.requires.does (c.in-Some.is ∙ ap (λ (n : ℕ). Some n) (sym c.numbered-id.ensures)) unmet place.given m c.moved.ensures c.in_ok-push.ensures.places c.in_ok-push.ensures.met) meets

pub returns-clause-gains : goal.returns-clause-gains
returns-clause-gains g c =
    let fits : FitsSigned w64 c.args.z = search rules in
    let held = (g.S.Shelf.told c.args.shelf.now).held in
    let now = c.args.self.now in
    let new = c.meet.new.self in
    let id = c.numbered-id.result in
    let here = set_here c.args.sheet.now c.requires.found.0 now c.args.agenda.now.met c.args.place.now c.args.agenda.now.places c.args.turn.now id c.args.z
    c.requires.read c.requires.does (c.in-Some.is ∙ ap (λ (n : ℕ). Some n) (sym c.numbered-id.ensures)) c.requires.found.1 in
    met_gains held now new c.args.sheet.now.page id c.args.z here
    (subst (λ (z : ℤ). Gains held now new (λ i. i ≡ id) (BeginsIn new id z)) (to_z-of_z w64 c.args.z fits) c.meet.ensures.gains)

pub returns-clause-fault : goal.returns-clause-fault
returns-clause-fault g c =
    let fits : FitsSigned w64 c.args.z = search rules in
    let before = g.S.Shelf.told c.args.shelf.now in
    let behind = g.S.Shelf.told c.meet.new.shelf in
    let now = c.args.self.now in
    let new = c.meet.new.self in
    let id = c.numbered-id.result in
    let here = set_here c.args.sheet.now c.requires.found.0 now c.args.agenda.now.met c.args.place.now c.args.agenda.now.places c.args.turn.now id c.args.z
    c.requires.read c.requires.does (c.in-Some.is ∙ ap (λ (n : ℕ). Some n) (sym c.numbered-id.ensures)) c.requires.found.1 in
    let gains = c.meet.ensures.gains in
    let fault = subst (λ (z : ℤ). IfErr c.meet.result (MeetFault new id z before behind)) (to_z-of_z w64 c.args.z fits) c.meet.ensures.fault in
    if_err c.meet.result (λ e h. meet_fault c.args.sheet.now.page now new id c.args.z before behind e gains.extends here h) fault

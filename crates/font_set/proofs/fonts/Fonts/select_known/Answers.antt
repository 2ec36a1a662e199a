use Rattle.std.proofs.Common.{◌∙◌, ◌∷◌, ℕ, Some, ap, refl}
use Rattle.font_set.specs.Found.{Todo}
use Rattle.font_set.specs.Search.{moves}
use Rattle.font_set.specs.Views.{key_of}
use Rattle.font_set.specs.declared.turn.Turn.{Turn}
use Rattle.font_set.specs.declared.turn.Does.TheVariants as does
use Rattle.font_set.proofs.Learning.{learnt_old}
use Rattle.font_set.proofs.Steps.{placed, select_step}
use Rattle.font_set.proofs.fonts.Fonts.select_known.Goals as goal

pub known_at-requires-clause-placed : goal.known_at-requires-clause-placed
known_at-requires-clause-placed c = placed c.args.sheet.now c.requires.found.0 c.args.self.now c.args.agenda.now.met c.args.place.now c.args.agenda.now.places c.requires.found.1

pub returns-clause-steps : goal.returns-clause-steps
returns-clause-steps c = λ ran.
    let now = c.args.self.now in
    let e = c.in-Some.ensures.selects in
    let next = c.in-Some.found.1 in
    let id = c.in-Some.found.0 in
    let t : Turn = record { next = next; does = does.Selects e.0 } in
    let same = c.known_at.ensures.same in
    select_step c.args.sheet.now c.args.place.now c.moved.result t e.0 id now now c.args.agenda.now c.push.new.self
    e.1 refl (learnt_old now (key_of e.0) id e.2) (λ i. refl) e.2
    (c.moved.ensures ∙ ap (λ (n : ℕ). moves c.args.place.now next (Some n)) c.number.ensures.value)
    (c.in_ok-push.ensures.places ∙ ap (λ (a : Todo). c.moved.result ∷ a.places) same) (c.in_ok-push.ensures.met ∙ ap (λ (a : Todo). a.met) same)

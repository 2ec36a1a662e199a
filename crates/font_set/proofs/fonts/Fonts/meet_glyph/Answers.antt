use Rattle.std.proofs.Common.{◌≡◌, ◌∷◌, ◌∙◌, ap, sym, refl, ℕ, List, None}
use Rattle.font_set.specs.declared.agenda.Home.TheVariants as home
use Rattle.font_set.specs.declared.agenda.Place.{Place}
use Rattle.font_set.specs.declared.turn.Turn.{Turn}
use Rattle.font_set.specs.declared.turn.Does.TheVariants as does
use Rattle.std.specs.Prelude.{pos, ◌+◌}
use Rattle.font_set.proofs.Glyphs.{glyph_step}
use Rattle.font_set.proofs.Steps.{placed, font_below}
use Rattle.font_set.proofs.fonts.Fonts.meet_glyph.Goals as goal

pub glyph_at-requires-clause-placed : goal.glyph_at-requires-clause-placed
glyph_at-requires-clause-placed c = placed c.args.sheet.now c.requires.found.0 c.args.self.now c.args.agenda.now.met c.args.place.now c.args.agenda.now.places c.requires.found.1

pub glyph_at-requires-clause-below : goal.glyph_at-requires-clause-below
glyph_at-requires-clause-below c = λ id font. font_below c.args.sheet.now c.requires.found.0 c.args.self.now c.args.agenda.now.met c.args.place.now c.args.agenda.now.places id c.requires.found.1 font

pub returns-clause-steps : goal.returns-clause-steps
returns-clause-steps c = λ met.
    let s = c.args.sheet.now in
    let p = c.args.place.now in
    let now = c.args.self.now in
    let a = c.args.agenda.now in
    let id = c.in-Some.found.0 in
    let code = c.in-Some.found.1 in
    let e = c.in-Some.ensures in
    let t : Turn = record { next = p.at + 1; does = does.Sets (pos code) } in
    let here = placed s c.requires.found.0 now a.met p a.places c.requires.found.1 in
    let top : ℕ → Place = λ n. record { home = home.Packet n code; at = 0; end = 0; font = None } in
    let places : c.push-2.new.self.places ≡ top id ∷ c.push.new.self.places =
    c.in_ok-push-2.ensures.places ∙ ap (λ (n : ℕ). top n ∷ c.meet.new.self.places) c.number.ensures.value ∙ ap (λ (ps : List Place). top id ∷ ps) c.in_ok-meet.ensures.places in
    glyph_step s p c.moved.result t id code now a c.push.new.self c.push-2.new.self e.reads refl e.font e.small here.given (sym c.has_met.ensures ∙ c.if-has_met.false) e.shown e.real
    c.moved.ensures c.in_ok-push.ensures.places c.in_ok-push.ensures.met (c.in_ok-push-2.ensures.met ∙ c.in_ok-meet.ensures.met) c.in_ok-meet.ensures.within places

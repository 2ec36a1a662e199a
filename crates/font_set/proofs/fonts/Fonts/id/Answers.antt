use Rattle.std.proofs.Common.{rules, ◌≡◌, Some, None, sym, ap, ◌∙◌}
use Rattle.font_set.specs.Fonts.{FontSet, place_of}
use Rattle.font_set.specs.Views.{key_of}
use Rattle.font_set.proofs.Ids.{id_below}
use Rattle.font_set.proofs.Keys.{place_is}
use Rattle.font_set.proofs.fonts.Fonts.id.Goals as goal

pub returns-in_err-place-clause-value : goal.returns-in_err-place-clause-value
returns-in_err-place-clause-value c =
    let none : c.from_residual.result ≡ None = search rules in
    none ∙ c.in_err-place.ensures.index ∙ sym (place_is c.args.key.now c.self.inside.table.entries)
    ∙ ap (λ (s : FontSet). place_of s.fonts (key_of c.args.key.now)) c.self.view_is

pub returns-clause-value : goal.returns-clause-value
returns-clause-value c =
    ap Some c.id_at.ensures ∙ c.in_ok-place.ensures.index ∙ sym (place_is c.args.key.now c.self.inside.table.entries)
    ∙ ap (λ (s : FontSet). place_of s.fonts (key_of c.args.key.now)) c.self.view_is

pub returns-clause-given : goal.returns-clause-given
returns-clause-given c = id_below c.args.self.now.fonts (key_of c.args.key.now) c.id_at.result (sym (returns-clause-value c))

use Rattle.std.proofs.Common.{◌≡◌, ◌≤◌, ◌∙◌, ℕ, List, length, Some, arith, refl, sym, ap, subst, rules, FitsSigned, w64}
use Rattle.std.specs.Prelude.{slice_range}
use Rattle.std.proofs.lemmas.Int.{to_z-of_z}
use Rattle.dvi_ops.specs.Command.Command.{Fnt}
use Rattle.dvi_ops.specs.Spelling.{Spell}
use Rattle.dvi_ops.specs.View.{def_view, view}
use Rattle.font_set.specs.Fonts.{FontSet, place_of}
use Rattle.font_set.specs.Found.{PageBytes}
use Rattle.font_set.specs.Programs.{key_in, key_by}
use Rattle.font_set.specs.Search.{bytes_of, fonts_of}
use Rattle.font_set.specs.declared.agenda.Home.{Home}
use Rattle.font_set.specs.declared.turn.Asked.TheVariants as asked
use Rattle.font_set.specs.declared.turn.Turn.{Turn}
use Rattle.font_set.specs.declared.turn.Does.TheVariants as does
use Rattle.font_set.proofs.Hints.{kept_key}
use Rattle.font_set.proofs.Turning.{reads}
use Rattle.font_set.proofs.fonts.Fonts.known_at.Goals as goal

pub returns-clause-selects : goal.returns-clause-selects
returns-clause-selects c =
    let s = c.args.sheet.now in
    let p = c.args.place.now in
    let bytes = c.sheet.inside.bytes.now in
    let def = def_view c.in_ok-font.font in
    let k = c.in-Fnt.k in
    let id = c.in_ok-id.id in
    let next = c.in-Ok.next in
    let fonts = ap (λ (f : FontSet). place_of f.fonts (key_by def)) c.self.view_is in
    let kept = kept_key c.self.inside.table.entries (key_by def) id c.self.invariant.2.each (fonts ∙ sym c.in_ok-id.ensures.value) in
    let key = kept.0 in
    let t : Turn = record { next = next; does = does.Selects key } in
    let same : bytes_of c.args.self.now s.bytes p.home ≡ bytes = ap (bytes_of c.args.self.now s.bytes) c.in-Page.is ∙ sym (ap (λ (q : PageBytes). q.bytes) c.sheet.view_is) in
    let found = c.in-Ok.ensures.found in
    let spelled : Spell (Fnt k) (slice_range bytes p.at next) = subst (λ x. Spell (view x) (slice_range bytes p.at next)) c.in-Fnt.is found.2 in
    let ends : next ≤ p.end = omega (arith, found.1, c.requires.placed.ends, ap length same) in
    let fits : FitsSigned w64 k = search rules in
    let named : key_in s.page.scope.fonts k ≡ Some (key_by def) = ap (key_in s.page.scope.fonts) (sym (to_z-of_z w64 k fits)) ∙ c.in_ok-font.ensures.found in (
      key,
      reads c.one_spelling.ensures s c.args.self.now p t (asked.Font k) (Fnt k) c.requires.inside c.requires.placed found.0 ends
          (subst (λ (bs : List ℕ). Spell (Fnt k) (slice_range bs p.at next)) (sym same) spelled) refl
          (key, refl, ap (λ (h : Home). key_in (fonts_of c.args.self.now s.page h) k) c.in-Page.is ∙ named ∙ ap Some kept.1, kept.2),
      ap (place_of c.args.self.now.fonts) (sym kept.1) ∙ sym c.in_ok-id.ensures.value,
    )

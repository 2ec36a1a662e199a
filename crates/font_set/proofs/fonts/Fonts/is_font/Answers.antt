use Rattle.std.proofs.Common.{◌≡◌, ◌≤◌, ◌∙◌, List, length, Some, slice_get, sym, ap, subst, arith, true≢false}
use Rattle.std.proofs.lemmas.List.{length-map}
use Rattle.dvi_ops.specs.View.{def_view}
use Rattle.font_set.specs.Fonts.{Entry, FontSet, place_of}
use Rattle.font_set.specs.Programs.{key_by}
use Rattle.font_set.specs.Stored.{entry_of, entries_of}
use Rattle.font_set.proofs.Hints.{own_place}
use Rattle.font_set.proofs.Ids.{id_below, one_key}
use Rattle.font_set.proofs.fonts.Fonts.is_font.Goals as goal

pub returns-then-len-number : goal.returns-then-len-number
returns-then-len-number c =
    let ps = c.self.inside.table.entries in
    let long : length c.args.self.now.fonts ≡ length ps = ap (λ (s : FontSet). length s.fonts) (sym c.self.view_is) ∙ length-map ps entry_of in
    let far : length c.args.self.now.fonts ≤ c.args.id = omega (arith, c.len.ensures.len, c.number.ensures.value, c.if-len-number.true, long) in (
      λ is. absurd (true≢false (sym is)),
      λ placed. let near = id_below c.args.self.now.fonts (key_by (def_view c.args.font.now)) c.args.id placed in absurd (omega (arith, far, near)),
    )

pub returns : goal.returns
returns c =
    let m = c.self.inside.table in
    let key = key_by (def_view c.args.font.now) in
    let fonts : entries_of m.entries ≡ c.args.self.now.fonts = ap (λ (s : FontSet). s.fonts) c.self.view_is in
    let e = entry_of (c.entry.result.0.now, c.entry.result.1.now) in
    let stands : slice_get (entries_of m.entries) c.args.id ≡ Some e = subst (λ (es : List Entry). slice_get es c.args.id ≡ Some e) (sym fonts) c.entry.ensures.value in
    let own : place_of c.args.self.now.fonts e.key ≡ Some c.args.id = subst (λ (es : List Entry). place_of es e.key ≡ Some c.args.id) fonts (own_place m c.args.id e c.len.ensures.unique stands) in (
      λ is. ap (place_of c.args.self.now.fonts) (sym (c.is_key_by.ensures.0 is)) ∙ own,
      λ placed. c.is_key_by.ensures.1 (one_key c.args.self.now.fonts e.key key c.args.id own placed),
    )

use Rattle.std.proofs.Common.{◌≡◌, ◌<◌, List, length, Some, None, refl, sym, ap, subst, ◌∙◌}
use Rattle.std.specs.Option.{is_some}
use Rattle.std.proofs.lemmas.List.{length-map}
use Rattle.font_set.specs.Fonts.{Entry, FontSet, place_of, learn, raster_bytes}
use Rattle.font_set.specs.Growth.{Learnt}
use Rattle.font_set.specs.Stored.{entry_of, entries_of, AreStored, HaveWanted}
use Rattle.font_set.specs.Views.{key_of}
use Rattle.font_set.proofs.Ids.{id_below}
use Rattle.font_set.proofs.Keys.{place_is, learn_old, put_last}
use Rattle.font_set.proofs.Learning.{learnt_old, learnt_new, bytes_push, stored_learn, wanted_learn, not_full}
use Rattle.font_set.proofs.fonts.Fonts.know.Goals as goal

pub returns-in-Some-clause-id : goal.returns-in-Some-clause-id
returns-in-Some-clause-id c =
    ap (λ (s : FontSet). place_of s.fonts (key_of c.args.key.now)) (sym c.self.view_is)
    ∙ place_is c.args.key.now c.self.inside.table.entries ∙ sym c.in-Some.ensures.index ∙ ap Some (sym c.id_at.ensures)

pub returns-in-Some-clause-learns : goal.returns-in-Some-clause-learns
returns-in-Some-clause-learns c =
    let e =
    ap (λ (s : FontSet). place_of s.fonts (key_of c.args.key.now)) (sym c.self.view_is)
    ∙ place_is c.args.key.now c.self.inside.table.entries ∙ sym c.in-Some.ensures.index in
    ap (λ (es : List Entry). (let s : FontSet = record { units = c.args.self.now.units; want = c.args.self.now.want; fonts = es } in s)) (learn_old c.args.self.now.fonts (key_of c.args.key.now) c.in-Some.place e)

pub returns-in-Some-clause-learnt : goal.returns-in-Some-clause-learnt
returns-in-Some-clause-learnt c =
    learnt_old c.args.self.now (key_of c.args.key.now) c.in-Some.place
    (ap (λ (s : FontSet). place_of s.fonts (key_of c.args.key.now)) (sym c.self.view_is)
    ∙ place_is c.args.key.now c.self.inside.table.entries ∙ sym c.in-Some.ensures.index)

pub returns-then-place-clause-fault : goal.returns-then-place-clause-fault
returns-then-place-clause-fault c = (
  ap (λ (s : FontSet). length s.fonts) (sym c.self.view_is) ∙ length-map c.self.inside.table.entries entry_of ∙ sym c.len-place.ensures.len ∙ c.if-place.true,
  ap (λ (s : FontSet). place_of s.fonts (key_of c.args.key.now)) (sym c.self.view_is) ∙ place_is c.args.key.now c.self.inside.table.entries
      ∙ sym c.get_index_of.ensures.index ∙ c.in_default.is,
)

pub invariant_of-self : goal.invariant_of-self
invariant_of-self c =
    let old = c.self.inside.table in
    let none = sym c.in_default.is ∙ c.get_index_of.ensures.index in
    let found = ap is_some (sym c.in_default.is) ∙ c.get_index_of.ensures.found in
    let last = put_last old c.insert.new.self.entries c.args.key.now c.args.key.now refl none found c.in-Ok.ensures.entries in
    let absent : place_of (entries_of old.entries) (key_of c.args.key.now) ≡ None = place_is c.args.key.now old.entries ∙ sym none in
    let long : length (entries_of old.entries) ≡ length old.entries = length-map old.entries entry_of in
    let inv = c.self.invariant in
    let less : length (entries_of old.entries) < 1000 = not_full (length (entries_of old.entries)) inv.2.few (λ e. c.if-place.false (c.len-place.ensures.len ∙ sym long ∙ e)) in (
      inv.0,
      inv.1,
      subst AreStored (sym last.0) (stored_learn (entries_of old.entries) (key_of c.args.key.now) absent c.requires.key less inv.2),
      inv.3 ∙ sym (bytes_push (entries_of old.entries) (key_of c.args.key.now) absent) ∙ ap raster_bytes (sym last.0),
      subst (HaveWanted c.self.inside.want) (sym last.0) (wanted_learn c.self.inside.want (entries_of old.entries) (key_of c.args.key.now) absent inv.4),
    )

pub returns-in-Ok-clause-id : goal.returns-in-Ok-clause-id
returns-in-Ok-clause-id c =
    let old = c.self.inside.table in
    let none = sym c.in_default.is ∙ c.get_index_of.ensures.index in
    let found = ap is_some (sym c.in_default.is) ∙ c.get_index_of.ensures.found in
    let last = put_last old c.insert.new.self.entries c.args.key.now c.args.key.now refl none found c.in-Ok.ensures.entries in
    last.1 ∙ ap Some (sym (c.id_at-in-Ok.ensures ∙ c.len-place.ensures.len))

pub returns-in-Ok-clause-learns : goal.returns-in-Ok-clause-learns
returns-in-Ok-clause-learns c =
    let old = c.self.inside.table in
    let none = sym c.in_default.is ∙ c.get_index_of.ensures.index in
    let found = ap is_some (sym c.in_default.is) ∙ c.get_index_of.ensures.found in
    let last = put_last old c.insert.new.self.entries c.args.key.now c.args.key.now refl none found c.in-Ok.ensures.entries in
    ap (λ (es : List Entry). (let s : FontSet = record { units = c.self.inside.units; want = c.self.inside.want; fonts = es } in s)) last.0
    ∙ ap (λ (s : FontSet). (let t : FontSet = record { units = s.units; want = s.want; fonts = learn s.fonts (key_of c.args.key.now) } in t)) c.self.view_is

pub returns-in-Ok-clause-learnt : goal.returns-in-Ok-clause-learnt
returns-in-Ok-clause-learnt c =
    let old = c.self.inside.table in
    let none = sym c.in_default.is ∙ c.get_index_of.ensures.index in
    let absent = ap (λ (s : FontSet). place_of s.fonts (key_of c.args.key.now)) (sym c.self.view_is) ∙ place_is c.args.key.now old.entries ∙ sym none in
    subst (λ (s : FontSet). Learnt c.args.self.now s (key_of c.args.key.now)) (sym (returns-in-Ok-clause-learns c)) (learnt_new c.args.self.now (key_of c.args.key.now) absent)

pub returns-in-Some-clause-given : goal.returns-in-Some-clause-given
returns-in-Some-clause-given c = id_below c.args.self.now.fonts (key_of c.args.key.now) c.id_at.result (returns-in-Some-clause-id c)

pub returns-in-Ok-clause-given : goal.returns-in-Ok-clause-given
returns-in-Ok-clause-given c = id_below (entries_of c.insert.new.self.entries) (key_of c.args.key.now) c.id_at-in-Ok.result (returns-in-Ok-clause-id c)

use Rattle.std.proofs.Common.{◌≡◌, ◌<◌, ◌≤◌, ◌+◌, ◌^◌, ℕ, List, length, slice_get, sym, ap, subst, ◌∙◌}
use Rattle.font_set.specs.Files.{with_state}
use Rattle.font_set.specs.Fonts.{State, Entry, FontSet, state_at, state_in, raster_bytes, raster_bytes_in}
use Rattle.font_set.specs.Stored.{AreStored, HasWanted, HaveWanted, entries_of, state_of}
use Rattle.font_set.proofs.Loading.{entries_set, stored_set, set_bytes, wanted_set}
use Rattle.font_set.proofs.fonts.Fonts.keep.Goals as goal

pub invariant_of-self : goal.invariant_of-self
unfolding state_at
invariant_of-self c =
    let ps = c.self.inside.table.entries in
    let es = entries_of ps in
    let s = state_of c.args.font in
    let n = c.number.result in
    let inv = c.self.invariant in
    let back = sym c.self.view_is in
    let is = sym c.number.ensures.value in
    let less : n < length es = subst (λ (i : ℕ). i < length es) is (subst (λ (t : FontSet). c.args.id < length t.fonts) back c.requires.given) in
    let known : state_in (slice_get es n) ≡ State.Known =
    subst (λ (i : ℕ). state_in (slice_get es i) ≡ State.Known) is (subst (λ (t : FontSet). state_in (slice_get t.fonts c.args.id) ≡ State.Known) back c.requires.known) in
    let room : raster_bytes es + raster_bytes_in s ≤ 2 ^ 30 = subst (λ (t : FontSet). raster_bytes t.fonts + raster_bytes_in s ≤ 2 ^ 30) back c.requires.room in
    let same = sym (entries_set ps n c.args.font) in (
      inv.0,
      inv.1,
      subst AreStored same (stored_set es n s less known c.requires.sound room inv.2),
      ap (λ (b : ℕ). b + c.raster_bytes.result) inv.3 ∙ ap (λ (b : ℕ). raster_bytes es + b) c.raster_bytes.ensures ∙ sym (set_bytes es n s less known) ∙ ap raster_bytes same,
      subst (HaveWanted c.self.inside.want) same (wanted_set c.self.inside.want es n s (subst (λ (t : FontSet). HasWanted t.want s) back c.requires.wanted) inv.4),
    )

pub returns : goal.returns
returns c =
    let ps = c.self.inside.table.entries in
    let s = state_of c.args.font in
    ap (λ (es : List Entry). (let t : FontSet = record { units = c.self.inside.units; want = c.self.inside.want; fonts = es } in t)) (entries_set ps c.number.result c.args.font)
    ∙ ap (λ (i : ℕ). (let t : FontSet = record { units = c.self.inside.units; want = c.self.inside.want; fonts = with_state (entries_of ps) i s } in t)) c.number.ensures.value
    ∙ ap (λ (u : FontSet). (let t : FontSet = record { units = u.units; want = u.want; fonts = with_state u.fonts c.args.id s } in t)) c.self.view_is

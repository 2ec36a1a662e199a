use Rattle.std.proofs.Common.{rules, ◌≡◌, length, sym, ap, subst, ◌∙◌}
use Rattle.dv_base.specs.Shelf.{WhereHeld}
use Rattle.font_set.specs.Key.{Key}
use Rattle.font_set.specs.Fonts.{State, FontSet, state_at, key_at}
use Rattle.font_set.specs.FontOf.{FontOf, Loads}
use Rattle.font_set.specs.Growth.{Loaded}
use Rattle.font_set.specs.Stored.{state_of}
use Rattle.font_set.proofs.Loading.{loads_new, loads_same, loaded_new, set_length}
use Rattle.font_set.proofs.fonts.Fonts.load.Goals as goal

pub returns-in-Real-clause-ok : goal.returns-in-Real-clause-ok
unfolding state_at
returns-in-Real-clause-ok g c =
    let l : Loaded c.args.self.now c.args.self.now c.args.id = search rules in
    loads_same (g.S.Shelf.told c.args.shelf.now).held c.args.self.now.units c.args.self.now.want c.args.self.now.fonts c.args.id l.loaded

pub returns-clause-ok : goal.returns-clause-ok
unfolding state_at key_at
returns-clause-ok g c =
    let set = c.args.self.now in
    let held = (g.S.Shelf.told c.args.shelf.now).held in
    let read = c.in_ok-font.ensures.font in
    let known : state_at set c.args.id ≡ State.Known = search rules in
    let tells = subst (λ (k : Key). WhereHeld held (λ h. FontOf h set.units set.want k (state_of c.in_ok-font.font))) c.key.ensures.value read.tells in
    subst (λ (s : FontSet). Loads held set.units set.want set.fonts s.fonts c.args.id) (sym c.keep.ensures)
    (loads_new held set.units set.want set.fonts c.args.id (state_of c.in_ok-font.font) c.requires.given known read.loaded tells)

pub returns-clause-loaded : goal.returns-clause-loaded
returns-clause-loaded g c =
    let set = c.args.self.now in
    let known : state_at set c.args.id ≡ State.Known = search rules in
    subst (λ (s : FontSet). Loaded set s c.args.id) (sym c.keep.ensures)
    (loaded_new set c.args.id (state_of c.in_ok-font.font) c.requires.given known c.in_ok-font.ensures.font.loaded)

pub returns-clause-count : goal.returns-clause-count
returns-clause-count g c =
    ap (λ (s : FontSet). length s.fonts) c.keep.ensures ∙ set_length c.args.self.now.fonts c.args.id (state_of c.in_ok-font.font)

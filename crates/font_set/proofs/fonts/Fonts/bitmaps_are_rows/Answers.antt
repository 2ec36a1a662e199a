use Rattle.std.proofs.Common.{◌≤◌, ℕ, length, Some, ◌≡◌, subst}
use Rattle.pk_raster.specs.Font.{Bitmap}
use Rattle.pk_raster.specs.Laws.{AreRows}
use Rattle.font_set.specs.Fonts.{FontSet, bitmap_at, state_at}
use Rattle.font_set.specs.Stored.{HasWanted, entries_of}
use Rattle.font_set.proofs.Looks.{all_rows, all_wanted}
use Rattle.font_set.proofs.fonts.Fonts.bitmaps_are_rows.Goals as goal

pub returns-clause-few : goal.returns-clause-few
returns-clause-few c =
    let stored = c.self.invariant.2 in
    subst (λ (s : FontSet). length s.fonts ≤ 1000) c.self.view_is stored.few

pub returns-clause-wanted : goal.returns-clause-wanted
returns-clause-wanted c =
    let set : FontSet = record { units = c.self.inside.units; want = c.self.inside.want; fonts = entries_of c.self.inside.table.entries } in
    subst (λ (s : FontSet). (id : ℕ) → HasWanted s.want (state_at s id)) c.self.view_is (all_wanted set c.self.invariant.4)

pub returns-clause-rows : goal.returns-clause-rows
returns-clause-rows c =
    let set : FontSet = record { units = c.self.inside.units; want = c.self.inside.want; fonts = entries_of c.self.inside.table.entries } in
    subst (λ (s : FontSet). (id code : ℕ) (bitmap : Bitmap) → bitmap_at s id code ≡ Some bitmap → AreRows bitmap) c.self.view_is (all_rows set c.self.invariant.2)

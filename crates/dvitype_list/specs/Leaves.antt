-- What a listing leaves.
use Rattle.std.specs.Prelude.{◌≡◌, ℕ, Option}
use Rattle.dv_base.specs.Shelf.{Told, Contents, WhereHeld}
use Rattle.dv_base.specs.Tray.{Seen, WhereTold, Appends, AppendsFront}
use Rattle.dvi_ops.specs.Placed.{Placed}
use Rattle.font_set.specs.Fonts.{FontSet, key_at, state_at, IsLoaded}
use Rattle.font_set.specs.FontOf.{FontOf}
use Rattle.dvitype_list.specs.Standing.{Standing, Setting}
use Rattle.dvitype_list.specs.Listing.{Run}
use Rattle.dvitype_list.specs.Listing.Course.{Ends, Stops}
use Rattle.dvitype_list.specs.Causes.{IsStop}
use Rattle.dvitype_list.specs.Gathered.{Cut}
use Rattle.dvitype_list.specs.declared.fault.ListFault.{ListFault}
use Rattle.dvitype_list.specs.declared.fault.ListFault.TheVariants as fault

-- each font that is loaded is what the files of its key tell
abbrev pub AreOfFiles : Option Contents → FontSet → Type 0
AreOfFiles held set = (id : ℕ) → IsLoaded (state_at set id) → WhereHeld held (λ h. FontOf h set.units set.want (key_at set id) (state_at set id))

-- All commands were run, and the whole listing was written.
pub record IsListed (r : Run) (old new : Seen) : Type 0 where
  pub standing : Standing
  pub ends : r.course ≡ Ends standing
  pub written : WhereTold (Appends r.text) old.outputs new.outputs

-- The listing ends before a command for which the fault is the cause, and its lines up to there were written.
pub record StopsAt (r : Run) (s : Setting) (set : FontSet) (told_old told_new : Told) (old new : Seen) (e : ListFault) : Type 0 where
  pub command : Placed
  pub standing : Standing
  pub stops : r.course ≡ Stops command standing
  pub why : IsStop s set told_old told_new command standing e
  pub written : WhereTold (Appends r.text) old.outputs new.outputs

-- What a fault leaves: where the tray failed or memory was refused, a front of the listing was written.
abbrev pub EndsEarly : Run → Setting → FontSet → Told → Told → Seen → Seen → ListFault → Type 0
EndsEarly r s set told_old told_new old new fault.WriteFault = Cut old new r.text
EndsEarly r s set told_old told_new old new fault.OutOfMemory = WhereTold (AppendsFront r.text) old.outputs new.outputs
EndsEarly r s set told_old told_new old new e = StopsAt r s set told_old told_new old new e

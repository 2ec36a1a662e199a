-- The output of a job of dvitype as it was begun. No public clause cites this module.
use Rattle.std.specs.Prelude.{◌≡◌, codes}
use Rattle.dv_base.specs.Tray.{BeginGives, Seen}
use Rattle.dv_base.specs.declared.tray.Begun.TheVariants as begun

pub record HasBegun (old new : Seen) : Type 0 where
  pub gives : BeginGives (codes "-") begun.Ready old new
  pub messages : new.messages ≡ old.messages

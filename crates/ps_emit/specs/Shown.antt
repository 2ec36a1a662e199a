-- What contracts see of an emitter: its tray, the loan of that tray, what it was made with, what went out of it, and what it keeps of the page.
use Rattle.std.specs.Prelude.{◌≡◌, Bool}
use Rattle.std.specs.Borrow.{GName}
use Rattle.std.proofs.Common.{◌∙◌}
use Rattle.dv_base.specs.declared.tray.Tray.{Ghosts}
use Rattle.font_set.specs.Fonts.{FontSet}
use Rattle.ps_emit.specs.Sheet.{Sheet}
use Rattle.ps_emit.specs.Written.{Out}
use Rattle.ps_emit.specs.declared.emitter.Emitter.{Emitter}

abbrev pub tray_of : {T : Type 0} {G : Ghosts T} → Emitter T G → T
tray_of e = e.tray.now

-- whoever lent the tray finds it, when the emitter is gone, as the emitter left it: the loan is the same one from call to call
abbrev pub loan_of : {T : Type 0} {G : Ghosts T} → Emitter T G → GName
loan_of e = e.tray.ghost_name

-- the fonts of the run
abbrev pub fonts_of : {T : Type 0} {G : Ghosts T} → Emitter T G → FontSet
fonts_of e = e.fonts.now

-- whether it writes structured comments, and whether it passes literal specials on
abbrev pub comments_of : {T : Type 0} {G : Ghosts T} → Emitter T G → Bool
comments_of e = e.comments

abbrev pub pass_of : {T : Type 0} {G : Ghosts T} → Emitter T G → Bool
pass_of e = e.pass_ps

-- what its tray shows, and how many bytes the tray has taken from it
abbrev pub out_of : {T : Type 0} {G : Ghosts T} → Emitter T G → Out
out_of {T} {G} e = record { seen = G.seen e.tray.now; count = e.bytes }

-- the pen behind the lines that were written, and the stretch that is still open
abbrev pub sheet_of : {T : Type 0} {G : Ghosts T} → Emitter T G → Sheet
sheet_of e = e.sheet

-- The emitter holds the same tray and is as it was made.
pub record Holds {T : Type 0} {G : Ghosts T} (old new : Emitter T G) : Type 0 where
  pub loan_same : loan_of new ≡ loan_of old
  pub fonts_same : fonts_of new ≡ fonts_of old
  pub comments_same : comments_of new ≡ comments_of old
  pub pass_same : pass_of new ≡ pass_of old

pub holds_more : {T : Type 0} {G : Ghosts T} (a b c : Emitter T G) → Holds a b → Holds b c → Holds a c
holds_more a b c f g = record {
  loan_same = g.loan_same ∙ f.loan_same;
  fonts_same = g.fonts_same ∙ f.fonts_same;
  comments_same = g.comments_same ∙ f.comments_same;
  pass_same = g.pass_same ∙ f.pass_same;
}

-- What contracts see of a writer: its tray, the loan of that tray, the fonts, what went out, how much went in, and the place on the page.
use Rattle.std.specs.Prelude.{◌≡◌, ℕ, ℤ}
use Rattle.std.specs.Borrow.{GName}
use Rattle.std.proofs.Common.{◌∙◌}
use Rattle.dv_base.specs.declared.tray.Tray.{Ghosts}
use Rattle.font_set.specs.Fonts.{FontSet}
use Rattle.dvicopy_out.specs.Marked.{Pen}
use Rattle.dvicopy_out.specs.Sent.{Out}
use Rattle.dvicopy_out.specs.declared.writer.Writer.{Writer}

abbrev pub tray_of : {T : Type 0} {G : Ghosts T} → Writer T G → T
tray_of w = w.tray.now

-- whoever lent the tray finds it, when the writer is gone, as the writer left it
abbrev pub loan_of : {T : Type 0} {G : Ghosts T} → Writer T G → GName
loan_of w = w.tray.ghost_name

abbrev pub fonts_of : {T : Type 0} {G : Ghosts T} → Writer T G → FontSet
fonts_of w = w.fonts.now

abbrev pub out_of : {T : Type 0} {G : Ghosts T} → Writer T G → Out
out_of {T} {G} w = record { seen = G.seen w.tray.now; waiting = w.waiting.now.items }

-- how many bytes went in, the place of the last bop or -1, and the place on the page
abbrev pub place_of : {T : Type 0} {G : Ghosts T} → Writer T G → ℕ
place_of w = w.place

abbrev pub last_of : {T : Type 0} {G : Ghosts T} → Writer T G → ℤ
last_of w = w.last

abbrev pub pen_of : {T : Type 0} {G : Ghosts T} → Writer T G → Pen
pen_of w = w.pen

-- The writer holds the same tray and has the same fonts.
pub record Holds {T : Type 0} {G : Ghosts T} (old new : Writer T G) : Type 0 where
  pub loan_same : loan_of new ≡ loan_of old
  pub fonts_same : fonts_of new ≡ fonts_of old

pub holds_more : {T : Type 0} {G : Ghosts T} (a b c : Writer T G) → Holds a b → Holds b c → Holds a c
holds_more a b c f g = record { loan_same = g.loan_same ∙ f.loan_same; fonts_same = g.fonts_same ∙ f.fonts_same }

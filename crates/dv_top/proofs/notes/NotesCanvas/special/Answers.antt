use Rattle.std.proofs.Common.{sym, subst}
use Rattle.dv_top.specs.Headers.{IsShortName}
use Rattle.dv_top.proofs.Named.{special_short}
use Rattle.dv_top.proofs.notes.NotesCanvas.special.Goals as goal

pub note_header-requires : goal.note_header-requires
note_header-requires c = subst IsShortName (sym c.read_special-special.ensures) (special_short c.args.mark.now.bytes.now)

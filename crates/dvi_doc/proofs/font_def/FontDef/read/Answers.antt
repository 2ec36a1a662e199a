use Rattle.std.proofs.Common.{◌∙◌, sym, slice_range}
use Rattle.dvi_ops.specs.Command.Command.{FntDef}
use Rattle.dvi_ops.specs.Defined.{defined}
use Rattle.dvi_doc.specs.Order.{SpelledTo}
use Rattle.dvi_doc.proofs.Standing.{definition_there}
use Rattle.dvi_doc.proofs.font_def.FontDef.read.Goals as goal

pub returns : goal.returns
returns c =
    let bytes = c.args.bytes.now in
    let at = c.args.self.now.at in
    let end = c.in-Some.end in
    let s : SpelledTo bytes at end (FntDef (defined (slice_range bytes at end))) = c.in-Some.ensures in
    c.definition_of.ensures ∙ sym (definition_there bytes at end (defined (slice_range bytes at end)) s)

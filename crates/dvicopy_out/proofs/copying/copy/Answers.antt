use Rattle.std.proofs.Common.{rules, w32, subst, sym}
use Rattle.std.specs.Prelude.{FitsSigned}
use Rattle.std.proofs.lemmas.Int.{to_z-of_z}
use Rattle.vf_expand.specs.Grid.{Grid}
use Rattle.dv_base.specs.FileName.{text_of}
use Rattle.dvicopy_out.specs.Leaves.{copy_of}
use Rattle.dvicopy_out.specs.Made.{IsMeasured}
use Rattle.dvicopy_out.proofs.Ending.{copy_fails, on_ok}
use Rattle.dvicopy_out.proofs.copying.copy.Goals as goal

pub write_copy-requires-clause-measured : goal.write_copy-requires-clause-measured
write_copy-requires-clause-measured g c =
    subst (λ (h : Grid). IsMeasured h c.args.fonts.now c.args.doc.now c.args.pages.now c.in-Ok.measured) (sym c.measure_copy.ensures.kept) c.in-Ok.ensures.measured

pub returns-in-Ok-clause-copied : goal.returns-in-Ok-clause-copied
returns-in-Ok-clause-copied g c =
    let hm : FitsSigned w32 c.args.mag = search rules in
    simp (to_z-of_z w32 c.args.mag hm, c.measure_copy.ensures.kept) at c.write_copy.ensures.copied

pub returns-in-Ok-clause-ready : goal.returns-in-Ok-clause-ready
returns-in-Ok-clause-ready g c = on_ok c.write_copy.result c.in-Ok.ensures.measured.ready

pub returns-in-Ok-clause-short : goal.returns-in-Ok-clause-short
returns-in-Ok-clause-short g c =
    let hm : FitsSigned w32 c.args.mag = search rules in
    simp (to_z-of_z w32 c.args.mag hm, c.measure_copy.ensures.kept) at c.write_copy.ensures.short

pub returns-in-Ok-clause-made : goal.returns-in-Ok-clause-made
returns-in-Ok-clause-made g c =
    let hm : FitsSigned w32 c.args.mag = search rules in
    simp (to_z-of_z w32 c.args.mag hm, c.measure_copy.ensures.kept) at c.write_copy.ensures.made

pub returns-in-Ok-clause-fails : goal.returns-in-Ok-clause-fails
returns-in-Ok-clause-fails g c =
    let seen = g.T.Tray.seen in
    let hm : FitsSigned w32 c.args.mag = search rules in
    copy_fails c.args.walker.now.grid c.args.fonts.now c.args.doc.now c.args.pages.now (text_of c.args.name.now) (copy_of c.args.walker.now.grid c.args.fonts.now c.args.doc.now c.args.pages.now c.args.mag) (seen c.args.tray.now) (seen c.write_copy.new.tray) c.write_copy.result
    (simp (to_z-of_z w32 c.args.mag hm, c.measure_copy.ensures.kept) at c.write_copy.ensures.fails)

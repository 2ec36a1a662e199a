use Rattle.std.proofs.Common.{rules, ℤ, refl, subst, sym, w32}
use Rattle.std.specs.Prelude.{FitsSigned}
use Rattle.std.proofs.lemmas.Int.{to_z-of_z}
use Rattle.dv_base.specs.FileName.{text_of}
use Rattle.font_set.specs.Fonts.{FontSet}
use Rattle.dvicopy_out.specs.Leaves.{Copied, WriteFails, copy_of}
use Rattle.dvicopy_out.specs.Made.{IsMade}
use Rattle.dv_top.specs.Spoken.{SaysAll}
use Rattle.dv_top.specs.Warnings.{checksum_lines}
use Rattle.dv_top.proofs.CopyDone.{failed, finished, made_at, no_walk_fault}
use Rattle.dv_top.proofs.CopyPages.{covered_places}
use Rattle.dv_top.proofs.PagesAt.{pages_here}
use Rattle.dv_top.proofs.copy.copy_walked.Goals as goal

pub write_copy-requires-clause-covered : goal.write_copy-requires-clause-covered
write_copy-requires-clause-covered g c =
    let r = c.args.doc.now in
    let are = pages_here c.one_document.ensures r c.requires.read.0 c.args.places.now c.requires.read c.requires.read.1 c.requires.within in
    covered_places c.one_document.ensures c.pages_by_place.ensures r c.requires.read c.args.fonts.now c.args.places.now _ are c.requires.within (c.requires.covers _ are)

pub of_copy-requires : goal.of_copy-requires
of_copy-requires g c =
    let seen = g.T.Tray.seen in
    no_walk_fault _ _ (seen c.say_checksums.new.tray) (seen c.write_copy.new.tray) c.in-Err.fault c.in-Err.ensures.fails

pub returns-in-Ok-clause-leaves : goal.returns-in-Ok-clause-leaves
returns-in-Ok-clause-leaves g c = λ told later w k.
    let seen = g.T.Tray.seen in
    let fits : FitsSigned w32 c.args.mag = search rules in
    let same = to_z-of_z w32 c.args.mag fits in
    finished c.one_document.ensures c.pages_by_place.ensures w c.args.doc.now c.args.places.now c.args.walker.now c.args.fonts.now c.args.mag c.requires.read c.requires.within k c.copies_are_documents.ensures c.copies_keep_pages.ensures
    c.copies_define_real_fonts.ensures c.copies_keep_marks.ensures c.cuts_hold_first_pages.ensures later (seen c.args.tray.now) (seen c.say_checksums.new.tray) (seen c.write_copy.new.tray) (text_of c.args.job.now.output) refl
    (subst (λ (s : FontSet). SaysAll (checksum_lines s) (seen c.args.tray.now) (seen c.say_checksums.new.tray)) (sym k.fonts) c.say_checksums.ensures) (subst (λ (m : ℤ). IsMade c.args.walker.now.grid c.args.fonts.now c.args.doc.now c.args.places.now m) same c.in-Ok.ensures.made)
    (subst (λ (m : ℤ). Copied (text_of c.args.job.now.output) (copy_of c.args.walker.now.grid c.args.fonts.now c.args.doc.now c.args.places.now m) (seen c.say_checksums.new.tray) (seen c.write_copy.new.tray)) same c.in-Ok.ensures.copied)

pub returns-in-Err-clause-leaves : goal.returns-in-Err-clause-leaves
returns-in-Err-clause-leaves g c = λ told later w k.
    let seen = g.T.Tray.seen in
    let fits : FitsSigned w32 c.args.mag = search rules in
    let same = to_z-of_z w32 c.args.mag fits in
    failed c.one_document.ensures c.pages_by_place.ensures w c.args.doc.now c.args.places.now c.args.walker.now c.args.fonts.now c.args.mag c.requires.read c.requires.within k c.copies_are_documents.ensures c.copies_keep_pages.ensures
    c.copies_define_real_fonts.ensures c.copies_keep_marks.ensures c.cuts_hold_first_pages.ensures later (seen c.args.tray.now) (seen c.say_checksums.new.tray) (seen c.write_copy.new.tray) (text_of c.args.job.now.output) c.in-Err.fault c.of_copy.result refl
    (subst (λ (s : FontSet). SaysAll (checksum_lines s) (seen c.args.tray.now) (seen c.say_checksums.new.tray)) (sym k.fonts) c.say_checksums.ensures) c.of_copy.ensures (λ f. subst (λ (m : ℤ). IsMade c.args.walker.now.grid c.args.fonts.now c.args.doc.now c.args.places.now m) same (made_at c.write_copy.result c.in-Err.fault c.in-Err.is c.write_copy.ensures.made f))
    (subst (λ (m : ℤ). WriteFails (text_of c.args.job.now.output) (copy_of c.args.walker.now.grid c.args.fonts.now c.args.doc.now c.args.places.now m) (seen c.say_checksums.new.tray) (seen c.write_copy.new.tray) c.in-Err.fault) same
    c.in-Err.ensures.fails)

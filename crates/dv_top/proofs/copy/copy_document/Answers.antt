use Rattle.std.proofs.Common.{rules, w32, refl, sym, ap, subst, ◌∙◌, inl}
use Rattle.std.specs.Prelude.{FitsSigned}
use Rattle.std.proofs.lemmas.Int.{to_z-of_z}
use Rattle.std.proofs.lemmas.Result.{err_from_is_err_and}
use Rattle.dv_base.specs.declared.units.Units.{Units}
use Rattle.dv_words.specs.JobView.{copy_view}
use Rattle.vf_expand.specs.Grid.{Grid}
use Rattle.dvicopy_out.specs.Made.{IsMeasured}
use Rattle.dv_top.specs.Copying.{asked_of, picked}
use Rattle.dv_top.specs.declared.outcome.Outcome.TheVariants as outcome
use Rattle.dv_top.proofs.CopyRefused.{is_here, no_fonts_for, no_marks, no_pixels, refused, sound_expands, walkable_of, walker_here}
use Rattle.dv_top.proofs.Once.{all_pages}
use Rattle.dv_top.proofs.copy.copy_document.Goals as goal

pub returns-in_err-scale-clause-leaves : goal.returns-in_err-scale-clause-leaves
returns-in_err-scale-clause-leaves g c = λ told s kept same.
    let shelf = g.S.Shelf.told in
    let seen = g.T.Tray.seen in
    let job = copy_view c.args.job.now in
    let r = c.args.doc.now in
    let one = c.one_document.ensures in
    let is = is_here job told s r one c.requires.read same in
    let d = s.source.doc in
    let p = err_from_is_err_and c.from_residual.result c.from_residual.ensures.1 in
    rw (p.1, p.2)
    (refused job told (shelf c.args.shelf.now) (seen c.args.tray.now) c.in_err-scale.field-0.0 (no_pixels job told s r one c.requires.read same (shelf c.args.shelf.now) c.in_err-scale.field-0.0 (c.in_err-scale.ensures.cause d is)))

pub returns-in_err-fonts-clause-leaves : goal.returns-in_err-fonts-clause-leaves
returns-in_err-fonts-clause-leaves g c = λ told s kept same.
    let shelf = g.S.Shelf.told in
    let seen = g.T.Tray.seen in
    let job = copy_view c.args.job.now in
    let r = c.args.doc.now in
    let places = c.args.places.now in
    let one = c.one_document.ensures in
    let is = is_here job told s r one c.requires.read same in
    let d = s.source.doc in
    let p = err_from_is_err_and c.from_residual-in_err-fonts.result c.from_residual-in_err-fonts.ensures.1 in
    let are = all_pages one r d places (asked_of job) c.requires.read is c.requires.within (c.requires.chosen d is) in
    let scale = c.in_ok-scale.ensures.units d is in
    let fails = c.in_err-fonts.ensures.reason _ are in
    rw (p.1, p.2)
    (refused job told (shelf c.load.new.shelf) (seen c.args.tray.now) c.in_err-fonts.field-0.0
    (no_fonts_for job told s r one c.requires.read same c.in_ok-scale.scale.units scale (shelf c.args.shelf.now) kept fails.0 fails.1 (shelf c.load.new.shelf) c.in_err-fonts.field-0.0 fails.2))

pub returns-in_err-walker-clause-leaves : goal.returns-in_err-walker-clause-leaves
returns-in_err-walker-clause-leaves g c = λ told s kept same.
    let shelf = g.S.Shelf.told in
    let seen = g.T.Tray.seen in
    let job = copy_view c.args.job.now in
    let p = err_from_is_err_and c.from_residual-in_err-walker.result c.from_residual-in_err-walker.ensures.1 in
    rw (p.1, p.2) (refused job told (shelf c.load.new.shelf) (seen c.args.tray.now) outcome.OutOfMemory (inl refl))

pub returns-in_err-measured-clause-leaves : goal.returns-in_err-measured-clause-leaves
returns-in_err-measured-clause-leaves g c = λ told s kept same.
    let shelf = g.S.Shelf.told in
    let seen = g.T.Tray.seen in
    let job = copy_view c.args.job.now in
    let r = c.args.doc.now in
    let places = c.args.places.now in
    let one = c.one_document.ensures in
    let is = is_here job told s r one c.requires.read same in
    let d = s.source.doc in
    let p = err_from_is_err_and c.from_residual-in_err-measured.result c.from_residual-in_err-measured.ensures.1 in
    let are = all_pages one r d places (asked_of job) c.requires.read is c.requires.within (c.requires.chosen d is) in
    let scale = c.in_ok-scale.ensures.units d is in
    let grid = walker_here d job c.in_ok-walker.walker _ _ _ c.in_ok-walker.ensures (search rules) scale.0 c.in_ok-scale.ensures.conv in
    rw (p.1, p.2)
    (refused job told (shelf c.load.new.shelf) (seen c.args.tray.now) c.in_err-measured.field-0.0
    (no_marks job told s r one c.requires.read same c.in_ok-scale.scale.units scale (shelf c.args.shelf.now) kept c.in_ok-fonts.fonts (c.in_ok-fonts.ensures.gains _ are) (c.in_ok-fonts.ensures.covers _ are) c.in_ok-walker.walker.grid grid (shelf c.load.new.shelf)
    c.in_err-measured.field-0.0 (c.in_err-measured.ensures.reason _ are)))

pub returns-clause-leaves : goal.returns-clause-leaves
returns-clause-leaves g c = λ told s kept same.
    let shelf = g.S.Shelf.told in
    let job = copy_view c.args.job.now in
    let r = c.args.doc.now in
    let places = c.args.places.now in
    let one = c.one_document.ensures in
    let is = is_here job told s r one c.requires.read same in
    let d = s.source.doc in
    let are = all_pages one r d places (asked_of job) c.requires.read is c.requires.within (c.requires.chosen d is) in
    let scale = c.in_ok-scale.ensures.units d is in
    let grid = walker_here d job c.in_ok-walker.walker _ _ _ c.in_ok-walker.ensures (search rules) scale.0 c.in_ok-scale.ensures.conv in
    let sound = c.in_ok-measured.ensures.sound _ are in
    let numbered = c.in_ok-fonts.ensures.numbered _ are (sound_expands c.expanding.ensures c.in_ok-walker.walker.grid c.in_ok-fonts.fonts r.fonts (picked d job) sound) in
    let w = walkable_of job told s r one c.requires.read same c.in_ok-scale.scale.units scale (shelf c.args.shelf.now) kept c.in_ok-fonts.fonts (c.in_ok-fonts.ensures.gains _ are) (c.in_ok-fonts.ensures.covers _ are) c.in_ok-walker.walker.grid grid numbered sound
    (c.in_ok-measured.ensures.few _ are) in
    let fits : FitsSigned w32 c.magnification-mag.result = search rules in
    c.copy_walked.ensures.leaves told (shelf c.load.new.shelf) w
    (record {
      bytes = same;
      fonts = refl;
      grid = c.walk_pages.ensures.kept ∙ grid;
      places_are = c.requires.chosen d is;
      mag_is = to_z-of_z w32 c.magnification-mag.result fits ∙ c.magnification-mag.ensures ∙ ap (λ (u : Units). u.mag) scale.0;
    })

pub copy_walked-requires-clause-measured : goal.copy_walked-requires-clause-measured
copy_walked-requires-clause-measured g c =
    subst (λ (h : Grid). IsMeasured h c.in_ok-fonts.fonts c.args.doc.now c.args.places.now c.in_ok-measured.measured) (sym c.walk_pages.ensures.kept) c.in_ok-measured.ensures.measured

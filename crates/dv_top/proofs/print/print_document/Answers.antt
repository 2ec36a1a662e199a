use Rattle.std.proofs.Common.{rules, ◌/◌, arith, length, take, refl, sym, ap, subst, ◌∙◌, inl}
use Rattle.std.proofs.lemmas.Result.{err_from_is_err_and}
use Rattle.dv_base.specs.UnitPixels.{pixels_of_one}
use Rattle.vf_expand.specs.Grid.{Grid}
use Rattle.vf_expand.specs.Page.{Walk}
use Rattle.dv_words.specs.JobView.{print_view}
use Rattle.font_set.proofs.Steps.{keeps_on}
use Rattle.dv_top.specs.Covered.{chosen_marks}
use Rattle.dv_top.specs.Each.{Each}
use Rattle.dv_top.specs.Planning.{HasDrafted}
use Rattle.dv_top.specs.Printing.{chosen, grid_of, marks_of_each, request_of}
use Rattle.dv_top.specs.Writing.{IsReady, IsWalkable}
use Rattle.dv_top.proofs.Ended.{covered_of, fonts_here, is_here, no_fonts_for, no_marks, no_pixels, no_pixels_down, rasters_of, ready_expands, refused_undone, walker_grid}
use Rattle.dv_top.proofs.Headed.{no_headers}
use Rattle.dv_top.proofs.HeldFiles.{each_before}
use Rattle.dv_top.proofs.MadeJob.{marked}
use Rattle.dv_top.proofs.NotedPages.{noted_here}
use Rattle.dv_top.proofs.Once.{once_pages, once_within, walkable}
use Rattle.dv_top.proofs.PagesAt.{front_of}
use Rattle.dv_top.proofs.print.print_document.Goals as goal

pub returns-in_err-across-clause-leaves : goal.returns-in_err-across-clause-leaves
returns-in_err-across-clause-leaves g c = λ told s kept same.
    let shelf = g.S.Shelf.told in
    let seen = g.T.Tray.seen in
    let job = print_view c.args.job.now in
    let r = c.args.doc.now in
    let places = c.args.places.now in
    let one = c.one_document.ensures in
    let is = is_here job told s r one c.requires.read same in
    let d = s.source.doc in
    let p = err_from_is_err_and c.from_residual.result c.from_residual.ensures.1 in
    rw (p.1, p.2)
    (refused_undone job told (shelf c.args.shelf.now) (seen c.args.tray.now) c.in_err-across.field-0.0 (no_pixels job told s r one c.requires.read same (shelf c.args.shelf.now) c.in_err-across.field-0.0 (c.in_err-across.ensures.cause d is)))

pub returns-in_err-down-clause-leaves : goal.returns-in_err-down-clause-leaves
returns-in_err-down-clause-leaves g c = λ told s kept same.
    let shelf = g.S.Shelf.told in
    let seen = g.T.Tray.seen in
    let job = print_view c.args.job.now in
    let r = c.args.doc.now in
    let places = c.args.places.now in
    let one = c.one_document.ensures in
    let is = is_here job told s r one c.requires.read same in
    let d = s.source.doc in
    let p = err_from_is_err_and c.from_residual-in_err-down.result c.from_residual-in_err-down.ensures.1 in
    let scale = c.in_ok-across.ensures.units d is in
    rw (p.1, p.2)
    (refused_undone job told (shelf c.args.shelf.now) (seen c.args.tray.now) c.in_err-down.field-0.0
    (no_pixels_down job told s r one c.requires.read same (shelf c.args.shelf.now) c.in_err-down.field-0.0 c.in_ok-across.across.units scale (c.in_err-down.ensures.cause d is)))

pub load-requires-clause-within : goal.load-requires-clause-within
load-requires-clause-within g c =
    let shelf = g.S.Shelf.told in
    let seen = g.T.Tray.seen in
    let job = print_view c.args.job.now in
    let r = c.args.doc.now in
    let places = c.args.places.now in
    let one = c.one_document.ensures in
    once_within one r c.requires.read.0 places (request_of job) c.requires.read c.requires.read.1 c.requires.within (c.requires.chosen c.requires.read.0 c.requires.read.1)

pub returns-in_err-fonts-clause-leaves : goal.returns-in_err-fonts-clause-leaves
returns-in_err-fonts-clause-leaves g c = λ told s kept same.
    let shelf = g.S.Shelf.told in
    let seen = g.T.Tray.seen in
    let job = print_view c.args.job.now in
    let r = c.args.doc.now in
    let places = c.args.places.now in
    let one = c.one_document.ensures in
    let is = is_here job told s r one c.requires.read same in
    let d = s.source.doc in
    let p = err_from_is_err_and c.from_residual-in_err-fonts.result c.from_residual-in_err-fonts.ensures.1 in
    let are = once_pages one r d places (request_of job) c.requires.read is c.requires.within (c.requires.chosen d is) c.requires.job.collated in
    let scale = c.in_ok-across.ensures.units d is in
    let scale_down = c.in_ok-down.ensures.units d is in
    let fails = c.in_err-fonts.ensures.reason _ are in
    rw (p.1, p.2)
    (refused_undone job told (shelf c.load.new.shelf) (seen c.args.tray.now) c.in_err-fonts.field-0.0
    (no_fonts_for job told s r one c.requires.read same c.in_ok-across.across.units c.in_ok-down.down.units scale scale_down (shelf c.args.shelf.now) kept fails.0 fails.1 (shelf c.load.new.shelf) c.in_err-fonts.field-0.0 fails.2))

pub returns-in_err-walker-clause-leaves : goal.returns-in_err-walker-clause-leaves
returns-in_err-walker-clause-leaves g c = λ told s kept same.
    let shelf = g.S.Shelf.told in
    let seen = g.T.Tray.seen in
    let job = print_view c.args.job.now in
    let r = c.args.doc.now in
    let places = c.args.places.now in
    let one = c.one_document.ensures in
    let p = err_from_is_err_and c.from_residual-in_err-walker.result c.from_residual-in_err-walker.ensures.1 in
    rw (p.1, p.2) (refused_undone job told (shelf c.load.new.shelf) (seen c.args.tray.now) _ (inl refl))

pub check-requires-clause-within : goal.check-requires-clause-within
check-requires-clause-within g c =
    once_within c.one_document.ensures c.args.doc.now c.requires.read.0 c.args.places.now (request_of (print_view c.args.job.now)) c.requires.read c.requires.read.1 c.requires.within (c.requires.chosen c.requires.read.0 c.requires.read.1)

pub check-requires-clause-rasters : goal.check-requires-clause-rasters
check-requires-clause-rasters g c =
    let d = c.requires.read.0 in
    let is = c.requires.read.1 in
    let are = once_pages c.one_document.ensures c.args.doc.now d c.args.places.now (request_of (print_view c.args.job.now)) c.requires.read is c.requires.within (c.requires.chosen d is) c.requires.job.collated in
    let gains = c.in_ok-fonts.ensures.gains _ are in
    rasters_of c.in_ok-fonts.fonts gains.extends.want c.bitmaps_are_rows.ensures.wanted

pub check-requires-clause-some : goal.check-requires-clause-some
check-requires-clause-some g c = c.requires.job.per_section

pub check-requires-clause-across : goal.check-requires-clause-across
check-requires-clause-across g c =
    let d = c.requires.read.0 in
    let is = c.requires.read.1 in
    let are = once_pages c.one_document.ensures c.args.doc.now d c.args.places.now (request_of (print_view c.args.job.now)) c.requires.read is c.requires.within (c.requires.chosen d is) c.requires.job.collated in
    let gains = c.in_ok-fonts.ensures.gains _ are in
    ap (λ (w : Walk). w.grid.across) c.in_ok-walker.ensures ∙ c.in_ok-across.ensures.conv ∙ ap pixels_of_one (sym gains.extends.units)

pub returns-in_err-looked-clause-leaves : goal.returns-in_err-looked-clause-leaves
returns-in_err-looked-clause-leaves g c = λ told s kept same.
    let shelf = g.S.Shelf.told in
    let seen = g.T.Tray.seen in
    let job = print_view c.args.job.now in
    let r = c.args.doc.now in
    let places = c.args.places.now in
    let one = c.one_document.ensures in
    let is = is_here job told s r one c.requires.read same in
    let d = s.source.doc in
    let p = err_from_is_err_and c.from_residual-in_err-looked.result c.from_residual-in_err-looked.ensures.1 in
    let are = once_pages one r d places (request_of job) c.requires.read is c.requires.within (c.requires.chosen d is) c.requires.job.collated in
    let scale = c.in_ok-across.ensures.units d is in
    let scale_down = c.in_ok-down.ensures.units d is in
    let grid = walker_grid d job c.in_ok-walker.walker _ _ _ _ _ c.in_ok-walker.ensures (search rules) scale.0 scale_down.0 c.in_ok-across.ensures.conv c.in_ok-down.ensures.conv in
    rw (p.1, p.2)
    (refused_undone job told (shelf c.load.new.shelf) (seen c.args.tray.now) c.in_err-looked.field-0.0
    (no_marks job told s r one c.requires.read same c.in_ok-across.across.units c.in_ok-down.down.units scale scale_down (shelf c.args.shelf.now) kept c.in_ok-fonts.fonts (c.in_ok-fonts.ensures.gains _ are) (c.in_ok-fonts.ensures.covers _ are)
    c.in_ok-walker.walker.grid grid (shelf c.load.new.shelf) c.in_err-looked.field-0.0 (c.in_err-looked.ensures.reason _ are)))

pub print_ready-requires-clause-walkable : goal.print_ready-requires-clause-walkable
print_ready-requires-clause-walkable g c =
    let d = c.requires.read.0 in
    let is = c.requires.read.1 in
    let asked = request_of (print_view c.args.job.now) in
    let are = once_pages c.one_document.ensures c.args.doc.now d c.args.places.now asked c.requires.read is c.requires.within (c.requires.chosen d is) c.requires.job.collated in
    subst (λ (g : Grid). IsWalkable c.args.doc.now c.args.places.now g c.in_ok-fonts.fonts) (sym c.check.ensures.kept)
    (walkable c.one_document.ensures c.args.doc.now d c.args.places.now asked c.requires.read is c.requires.within (c.requires.chosen d is) c.in_ok-walker.walker.grid c.in_ok-fonts.fonts (let short = c.requires.short in omega (arith, short)) (c.in_ok-looked.ensures.ready _ are))

pub print_ready-requires-clause-noted : goal.print_ready-requires-clause-noted
print_ready-requires-clause-noted g c =
    let d = c.requires.read.0 in
    let is = c.requires.read.1 in
    let are = once_pages c.one_document.ensures c.args.doc.now d c.args.places.now (request_of (print_view c.args.job.now)) c.requires.read is c.requires.within (c.requires.chosen d is) c.requires.job.collated in
    (_, c.in_ok-looked.ensures.noted _ are)

pub print_ready-requires-clause-given : goal.print_ready-requires-clause-given
print_ready-requires-clause-given g c = c.in_ok-looked.ensures.given

pub print_ready-requires-clause-drafted : goal.print_ready-requires-clause-drafted
print_ready-requires-clause-drafted g c = λ pages are.
    let n = length c.args.places.now / c.args.job.now.collated in
    subst (λ (h : Grid). HasDrafted c.in_ok-fonts.fonts c.args.job.now.memory c.args.job.now.per_section c.in_ok-looked.looked.draft (marks_of_each h c.in_ok-fonts.fonts c.args.doc.now.fonts (take n pages))) (sym c.check.ensures.kept)
    (c.in_ok-looked.ensures.drafted (take n pages) (front_of c.args.doc.now c.args.places.now pages n are))

pub returns-in_err-headers-clause-leaves : goal.returns-in_err-headers-clause-leaves
returns-in_err-headers-clause-leaves g c = λ told s kept same.
    let shelf = g.S.Shelf.told in
    let seen = g.T.Tray.seen in
    let job = print_view c.args.job.now in
    let r = c.args.doc.now in
    let places = c.args.places.now in
    let one = c.one_document.ensures in
    let is = is_here job told s r one c.requires.read same in
    let d = s.source.doc in
    let p = err_from_is_err_and c.from_residual-in_err-headers.result c.from_residual-in_err-headers.ensures.1 in
    let are = once_pages one r d places (request_of job) c.requires.read is c.requires.within (c.requires.chosen d is) c.requires.job.collated in
    let scale = c.in_ok-across.ensures.units d is in
    let scale_down = c.in_ok-down.ensures.units d is in
    let grid = walker_grid d job c.in_ok-walker.walker _ _ _ _ _ c.in_ok-walker.ensures (search rules) scale.0 scale_down.0 c.in_ok-across.ensures.conv c.in_ok-down.ensures.conv in
    let fonts = fonts_here job told s r one c.requires.read same in
    let cov = covered_of job told s r one c.requires.read same c.in_ok-across.across.units c.in_ok-down.down.units scale scale_down (shelf c.args.shelf.now) kept c.in_ok-fonts.fonts (c.in_ok-fonts.ensures.gains _ are) (c.in_ok-fonts.ensures.covers _ are) in
    let noted = noted_here job c.in_ok-looked.looked.notes c.in_ok-fonts.fonts c.in_ok-walker.walker.grid (grid_of d job) r.fonts d.fonts (chosen d job) grid fonts (c.in_ok-looked.ensures.noted _ are) in
    rw (p.1, p.2)
    (refused_undone job told (shelf c.headers_of.new.shelf) (seen c.args.tray.now) c.in_err-headers.field-0.0
    (no_headers job told (shelf c.load.new.shelf) (shelf c.headers_of.new.shelf) (marked job told cov c.in_ok-walker.walker.grid r.fonts grid fonts (c.in_ok-looked.ensures.ready _ are)) c.in_err-headers.field-0.0
    (keeps_on _ _ _ kept c.in_ok-fonts.ensures.keeps) (c.in_err-headers.ensures.cause job (chosen_marks cov) noted)))

pub returns-clause-leaves : goal.returns-clause-leaves
returns-clause-leaves g c = λ told s kept same.
    let shelf = g.S.Shelf.told in
    let job = print_view c.args.job.now in
    let r = c.args.doc.now in
    let places = c.args.places.now in
    let one = c.one_document.ensures in
    let is = is_here job told s r one c.requires.read same in
    let d = s.source.doc in
    let are = once_pages one r d places (request_of job) c.requires.read is c.requires.within (c.requires.chosen d is) c.requires.job.collated in
    let scale = c.in_ok-across.ensures.units d is in
    let scale_down = c.in_ok-down.ensures.units d is in
    let grid = walker_grid d job c.in_ok-walker.walker _ _ _ _ _ c.in_ok-walker.ensures (search rules) scale.0 scale_down.0 c.in_ok-across.ensures.conv c.in_ok-down.ensures.conv in
    let ready = c.in_ok-looked.ensures.ready _ are in
    let fonts = fonts_here job told s r one c.requires.read same in
    let cov = covered_of job told s r one c.requires.read same c.in_ok-across.across.units c.in_ok-down.down.units scale scale_down (shelf c.args.shelf.now) kept c.in_ok-fonts.fonts (c.in_ok-fonts.ensures.gains _ are) (c.in_ok-fonts.ensures.covers _ are) in
    let noted = noted_here job c.in_ok-looked.looked.notes c.in_ok-fonts.fonts c.in_ok-walker.walker.grid (grid_of d job) r.fonts d.fonts (chosen d job) grid fonts (c.in_ok-looked.ensures.noted _ are) in
    c.print_ready.ensures.leaves told (shelf c.headers_of.new.shelf) cov
    (record {
      bytes = same;
      fonts = refl;
      grid = c.check.ensures.kept ∙ grid;
      places_are = c.requires.chosen d is;
      ready = subst (λ (g : Grid). Each (IsReady g c.in_ok-fonts.fonts r.fonts) (chosen d job)) (sym c.check.ensures.kept) ready;
      steps = c.in_ok-looked.ensures.few _ are;
      numbered = c.in_ok-fonts.ensures.numbered _ are (ready_expands c.expanding.ensures c.in_ok-walker.walker.grid c.in_ok-fonts.fonts r.fonts (chosen d job) ready);
    })
    noted
    (record {
      few = c.in_ok-headers.ensures.few job (chosen_marks cov) noted;
      held = each_before told (shelf c.load.new.shelf) _ _ (keeps_on _ _ _ kept c.in_ok-fonts.ensures.keeps) (c.in_ok-headers.ensures.held job (chosen_marks cov) noted);
    })

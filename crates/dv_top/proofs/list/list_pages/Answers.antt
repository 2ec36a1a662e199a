use Rattle.std.proofs.Common.{ap, ◌∙◌}
use Rattle.dv_words.specs.JobView.{list_view}
use Rattle.font_set.specs.Fonts.{FontSet}
use Rattle.dv_top.proofs.ListEnds.{ended, finished, is_here, names_given}
use Rattle.dv_top.proofs.list.list_pages.Goals as goal

pub returns-in-Ok-clause-leaves : goal.returns-in-Ok-clause-leaves
returns-in-Ok-clause-leaves g c = λ told s before kept same begun.
    let shelf = g.S.Shelf.told in
    let seen = g.T.Tray.seen in
    let job = list_view c.args.job.now in
    let r = c.args.doc.now in
    let one = c.one_document.ensures in
    let is = is_here job told s r one c.requires.read same in
    let d = s.source.doc in
    finished job told s r one c.requires.read same c.args.scale.now.units (c.requires.units d is) (shelf c.args.shelf.now) kept c.args.scale.now.conv c.requires.conv c.args.places.now (c.requires.chosen d is) c.list.new.fonts
    (c.list.ensures.units.0 ∙ ap (λ (x : FontSet). x.units) c.new-fonts.ensures) c.list.ensures.units.1 c.list.ensures.files (shelf c.list.new.shelf) before (seen c.args.tray.now) (seen c.list.new.tray) begun c.list.ensures.keeps
    (c.in-Ok.ensures.ok d is)

pub of_list-requires : goal.of_list-requires
of_list-requires g c = names_given _ _ _ _ _ _ _ c.in-Err.fault (c.in-Err.ensures.fault c.requires.read.0 c.requires.read.1)

pub returns-clause-leaves : goal.returns-clause-leaves
returns-clause-leaves g c = λ told s before kept same begun.
    let shelf = g.S.Shelf.told in
    let seen = g.T.Tray.seen in
    let job = list_view c.args.job.now in
    let r = c.args.doc.now in
    let one = c.one_document.ensures in
    let is = is_here job told s r one c.requires.read same in
    let d = s.source.doc in
    ended job told s r one c.requires.read same c.args.scale.now.units (c.requires.units d is) (shelf c.args.shelf.now) kept c.args.scale.now.conv c.requires.conv c.args.places.now (c.requires.chosen d is) c.list.new.fonts
    (c.list.ensures.units.0 ∙ ap (λ (x : FontSet). x.units) c.new-fonts.ensures) c.list.ensures.units.1 c.list.ensures.files (shelf c.list.new.shelf) c.of_list.result c.in-Err.fault before (seen c.args.tray.now) (seen c.list.new.tray)
    begun c.list.ensures.keeps c.of_list.ensures (c.in-Err.ensures.fault d is)

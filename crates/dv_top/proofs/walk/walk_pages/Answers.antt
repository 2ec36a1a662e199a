use Rattle.std.proofs.Common.{arith, inr}
use Rattle.dv_top.proofs.CopyPages.{covered_places, names_given, same_counts, sound_places, stops_pages, stops_some}
use Rattle.dv_top.proofs.PagesAt.{pages_here}
use Rattle.dv_top.proofs.walk.walk_pages.Goals as goal

pub measure_copy-requires-clause-covered : goal.measure_copy-requires-clause-covered
measure_copy-requires-clause-covered c =
    let r = c.args.doc.now in
    let are = pages_here c.one_document.ensures r c.requires.read.0 c.args.places.now c.requires.read c.requires.read.1 c.requires.within in
    covered_places c.one_document.ensures c.pages_by_place.ensures r c.requires.read c.args.fonts.now c.args.places.now _ are c.requires.within (c.requires.covers _ are)

pub of_walk-requires : goal.of_walk-requires
of_walk-requires c =
    let r = c.args.doc.now in
    let are = pages_here c.one_document.ensures r c.requires.read.0 c.args.places.now c.requires.read c.requires.read.1 c.requires.within in
    names_given c.args.walker.now.grid c.args.fonts.now r.fonts _ c.in-Err.fault
    (stops_some c.one_document.ensures c.pages_by_place.ensures r c.requires.read c.args.fonts.now c.args.walker.now.grid c.args.places.now _ are c.in-Err.fault c.in-Err.ensures.cause)

pub returns-in-Ok-clause-sound : goal.returns-in-Ok-clause-sound
returns-in-Ok-clause-sound c = λ pages are.
    sound_places c.one_document.ensures c.pages_by_place.ensures c.args.doc.now c.requires.read c.args.fonts.now c.args.walker.now.grid c.args.places.now pages are c.in-Ok.ensures.measured.ready

pub returns-in-Ok-clause-few : goal.returns-in-Ok-clause-few
returns-in-Ok-clause-few c = λ pages are.
    let same = same_counts c.one_document.ensures c.pages_by_place.ensures c.args.doc.now c.requires.read c.args.fonts.now c.args.places.now pages are in
    omega (arith, same, c.in-Ok.ensures.measured.few)

pub returns-in-Err-clause-reason : goal.returns-in-Err-clause-reason
returns-in-Err-clause-reason c = λ pages are.
    inr (
      c.in-Err.fault,
      c.of_walk.ensures,
      stops_pages c.one_document.ensures c.pages_by_place.ensures c.args.doc.now c.requires.read c.args.fonts.now c.args.walker.now.grid c.args.places.now pages are c.in-Err.fault c.in-Err.ensures.cause,
    )

use Rattle.std.proofs.Common.{◌<◌, arith, length}
use Rattle.font_set.proofs.Steps.{keeps_on}
use Rattle.dv_top.proofs.Lists.{at_place, each_all, each_at, take_all}
use Rattle.dv_top.proofs.Loaded.{gains_all, load_given, page_covers, page_gains, page_orders, page_reason}
use Rattle.dv_top.proofs.PagesAt.{here, many_pages}
use Rattle.dv_top.proofs.load.load_pages.Goals as goal

pub load_page-requires-clause-page : goal.load_page-requires-clause-page
load_page-requires-clause-page g c = each_at (λ place. place < length c.args.doc.now.pages) c.args.places.now c.loop-place.place-index _ (at_place c.args.places.now c.loop-place.place-index 0 c.loop-place-test.true) c.requires.within

pub of_load-requires : goal.of_load-requires
of_load-requires g c = let told = g.S.Shelf.told in load_given c.load_page.new.self _ (told c.loop-place.shelf) (told c.load_page.new.shelf) c.in-Err.fault c.in-Err.ensures.fault

pub returns-in-Err-clause-gains : goal.returns-in-Err-clause-gains
returns-in-Err-clause-gains g c = λ pages are.
    let told = g.S.Shelf.told in
    let h = here c.args.doc.now c.args.places.now pages c.loop-place.place-index _ are (at_place c.args.places.now c.loop-place.place-index 0 c.loop-place-test.true) in
    let same = c.pages_by_place.ensures c.args.doc.now _ h.page c.requires.read h.is in
    gains_all (told c.args.shelf.now) c.args.doc.now.fonts pages _ c.args.fonts.now c.load_page.new.self
    (page_gains (told c.args.shelf.now) (told c.loop-place.shelf) (told c.load_page.new.shelf) c.args.doc.now.fonts pages c.loop-place.place-index h.page c.args.fonts.now c.loop-place.fonts c.load_page.new.self _ h.at same c.loop-place.invariant.keeps
    (c.loop-place.invariant.gains pages are) c.load_page.ensures.gains)

pub returns-in-Err-clause-reason : goal.returns-in-Err-clause-reason
returns-in-Err-clause-reason g c = λ pages are.
    let told = g.S.Shelf.told in
    let h = here c.args.doc.now c.args.places.now pages c.loop-place.place-index _ are (at_place c.args.places.now c.loop-place.place-index 0 c.loop-place-test.true) in
    let same = c.pages_by_place.ensures c.args.doc.now _ h.page c.requires.read h.is in
    page_reason (told c.args.shelf.now) (told c.loop-place.shelf) (told c.load_page.new.shelf) c.args.doc.now.fonts pages c.loop-place.place-index h.page c.args.fonts.now c.loop-place.fonts c.load_page.new.self _ h.at same c.loop-place.invariant.keeps
    c.in-Err.fault c.of_load.result c.of_load.ensures c.in-Err.ensures.fault

pub loop-place-preserved : goal.loop-place-preserved
loop-place-preserved g c =
    let told = g.S.Shelf.told in
    record {
      covers = λ pages are.
          let h = here c.args.doc.now c.args.places.now pages c.loop-place.place-index _ are (at_place c.args.places.now c.loop-place.place-index 0 c.loop-place-test.true) in
          let same = c.pages_by_place.ensures c.args.doc.now _ h.page c.requires.read h.is in
          page_covers (told c.args.shelf.now) (told c.loop-place.shelf) (told c.load_page.new.shelf) c.args.doc.now.fonts pages c.loop-place.place-index h.page c.args.fonts.now c.loop-place.fonts c.load_page.new.self _ h.at same c.loop-place.invariant.keeps
          c.covers_later.ensures c.load_page.ensures.gains.extends (c.loop-place.invariant.covers pages are) c.in_default.ensures.covers;
      gains = λ pages are.
          let h = here c.args.doc.now c.args.places.now pages c.loop-place.place-index _ are (at_place c.args.places.now c.loop-place.place-index 0 c.loop-place-test.true) in
          let same = c.pages_by_place.ensures c.args.doc.now _ h.page c.requires.read h.is in
          page_gains (told c.args.shelf.now) (told c.loop-place.shelf) (told c.load_page.new.shelf) c.args.doc.now.fonts pages c.loop-place.place-index h.page c.args.fonts.now c.loop-place.fonts c.load_page.new.self _ h.at same c.loop-place.invariant.keeps
          (c.loop-place.invariant.gains pages are) c.load_page.ensures.gains;
      orders = λ pages are.
          let h = here c.args.doc.now c.args.places.now pages c.loop-place.place-index _ are (at_place c.args.places.now c.loop-place.place-index 0 c.loop-place-test.true) in
          let same = c.pages_by_place.ensures c.args.doc.now _ h.page c.requires.read h.is in
          page_orders (told c.args.shelf.now) (told c.loop-place.shelf) (told c.load_page.new.shelf) c.args.doc.now.fonts pages c.loop-place.place-index h.page c.args.fonts.now c.loop-place.fonts c.load_page.new.self _ h.at same c.loop-place.invariant.keeps
          c.order_of_tree.ensures c.load_page.ensures.gains.extends (c.loop-place.invariant.orders pages are) c.in_default.ensures.order c.in_default.ensures.covers;
      keeps = keeps_on _ _ _ c.loop-place.invariant.keeps c.load_page.ensures.keeps;
    }

pub returns-clause-covers : goal.returns-clause-covers
returns-clause-covers g c = λ pages are.
    each_all _ pages c.loop-place.place-index (let many = many_pages c.args.doc.now c.args.places.now pages are in omega (arith, many, c.loop-place-test.false)) (c.loop-place.invariant.covers pages are)

pub returns-clause-gains : goal.returns-clause-gains
returns-clause-gains g c = λ pages are. let told = g.S.Shelf.told in gains_all (told c.args.shelf.now) c.args.doc.now.fonts pages c.loop-place.place-index c.args.fonts.now c.loop-place.fonts (c.loop-place.invariant.gains pages are)

pub returns-clause-orders : goal.returns-clause-orders
returns-clause-orders g c = λ pages are.
    let few = (let many = many_pages c.args.doc.now c.args.places.now pages are in take_all pages c.loop-place.place-index (omega (arith, many, c.loop-place-test.false))) in
    rw few at (c.loop-place.invariant.orders pages are)

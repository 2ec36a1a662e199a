use Rattle.std.proofs.Common.{[], ◌∷◌, ◌<◌, ◌+◌, ◌++◌, ℕ, List, length, take, drop, get_or, arith, ap, sym}
use Rattle.std.proofs.lemmas.List.{take_all, take_more}
use Rattle.std.proofs.lemmas.List.Elements.{All-get_or}
use Rattle.dv_base.specs.TrayLaws.{kept_start, kept_more}
use Rattle.font_set.proofs.Steps.{keeps_on}
use Rattle.dvitype_list.specs.Listing.{pages_run}
use Rattle.dvitype_list.specs.Widths.{setting}
use Rattle.dvitype_list.proofs.Going.{gathered_here, keeps_none}
use Rattle.dvitype_list.proofs.Paged.{one_split, pages_more, pages_start, pages_stop}
use Rattle.dvitype_list.proofs.Runs.{ran_is}
use Rattle.dvitype_list.proofs.Widening.{any_held, any_on, any_self}
use Rattle.dvitype_list.proofs.listing.pages.Goals as goal

pub loop-place-init : goal.loop-place-init
loop-place-init g c =
    record {
      keeps = kept_start _;
      shelf = keeps_none _;
      gains = any_self _ _;
      stands = c.requires.stands;
      goes = λ d is begun text st h k. pages_start _ _ d.pages st _ _ begun _ _ text k h;
    }

pub page-requires-clause-begun : goal.page-requires-clause-begun
page-requires-clause-begun g c = omega (arith, c.loop-place.invariant.keeps.begun_same, c.requires.begun)

pub page-requires-clause-page : goal.page-requires-clause-page
page-requires-clause-page g c = All-get_or (λ (place : ℕ). place < length c.args.scene.now.doc.now.pages) c.args.places.now c.loop-place.place-index 0 c.loop-place-test.true c.requires.pages

pub page-requires-clause-stands : goal.page-requires-clause-stands
page-requires-clause-stands g c = c.loop-place.invariant.stands

pub returns-in-Err-clause-fault : goal.returns-in-Err-clause-fault
returns-in-Err-clause-fault g c = λ d is begun text st h k.
    let scene = c.args.scene.now in
    let ds = scene.doc.now.fonts in
    let told = g.S.Shelf.told in
    let i = c.loop-place.place-index in
    let places = c.args.places.now in
    let r = c.loop-place.invariant.goes d is begun text st h k in
    pages_stop scene.conv ds c.loop-place.fonts c.page.new.fonts c.page.ensures.gains.extends scene.detail d.pages (take i places) (get_or places i 0) (drop (i + 1) places) places st r.behind
    (told c.args.shelf.now) (told c.loop-place.shelf) (told c.page.new.shelf) begun (g.T.Tray.seen c.page.new.tray) _ text c.in-Err.fault c.loop-place.invariant.shelf (one_split places i c.loop-place-test.true) r.ends
    (c.in-Err.ensures.fault d is begun (text ++ (pages_run (setting scene.conv ds c.loop-place.fonts) scene.detail d.pages (take i places) st).text) r.behind r.gathered r.stands)

pub returns-in-Err-clause-gains : goal.returns-in-Err-clause-gains
returns-in-Err-clause-gains g c = any_on _ c.args.fonts.now c.loop-place.fonts c.page.new.fonts c.loop-place.invariant.gains (any_held _ _ _ _ c.loop-place.invariant.shelf.held_same c.page.ensures.gains)

pub returns-in-Err-clause-shelf : goal.returns-in-Err-clause-shelf
returns-in-Err-clause-shelf g c = keeps_on _ _ _ c.loop-place.invariant.shelf c.page.ensures.shelf

pub returns-in-Err-clause-keeps : goal.returns-in-Err-clause-keeps
returns-in-Err-clause-keeps g c = kept_more _ _ _ c.loop-place.invariant.keeps c.page.ensures.keeps

pub loop-place-preserved : goal.loop-place-preserved
loop-place-preserved g c =
    let scene = c.args.scene.now in
    let ds = scene.doc.now.fonts in
    let seen = g.T.Tray.seen in
    let i = c.loop-place.place-index in
    let places = c.args.places.now in
    let inv = c.loop-place.invariant in
    let late = setting scene.conv ds c.page.new.fonts in
    let e = c.requires.read in
    let more = c.in_default.ensures.ok e.0 e.1 (seen c.loop-place.tray) _ inv.stands.0 (gathered_here _ _) inv.stands.1 in
    record {
      keeps = kept_more _ _ _ inv.keeps c.page.ensures.keeps;
      shelf = keeps_on _ _ _ inv.shelf c.page.ensures.shelf;
      gains = any_on _ c.args.fonts.now c.loop-place.fonts c.page.new.fonts inv.gains (any_held _ _ _ _ inv.shelf.held_same c.page.ensures.gains);
      stands = (more.behind, more.stands);
      goes = λ d is begun text st h k.
          let r = inv.goes d is begun text st h k in
          ran_is (pages_run late scene.detail d.pages (take i places ++ get_or places i 0 ∷ []) st) (pages_run late scene.detail d.pages (take (i + 1) places) st) c.page.new.fonts c.page.new.state begun (seen c.page.new.tray) _ text
          (ap (λ (xs : List ℕ). pages_run late scene.detail d.pages xs st) (sym (take_more places i 0 c.loop-place-test.true)))
          (pages_more scene.conv ds c.loop-place.fonts c.page.new.fonts c.page.ensures.gains.extends scene.detail d.pages (take i places) (get_or places i 0) st c.loop-place.state c.page.new.state begun (seen c.loop-place.tray) (seen c.page.new.tray) _ _ text r
          (c.in_default.ensures.ok d is begun (text ++ (pages_run (setting scene.conv ds c.loop-place.fonts) scene.detail d.pages (take i places) st).text) r.behind r.gathered r.stands));
    }

pub returns-clause-ok : goal.returns-clause-ok
returns-clause-ok g c = λ d is begun text st h k.
    let scene = c.args.scene.now in
    let places = c.args.places.now in
    let s = setting scene.conv scene.doc.now.fonts c.loop-place.fonts in
    ran_is (pages_run s scene.detail d.pages (take c.loop-place.place-index places) st) (pages_run s scene.detail d.pages places st) c.loop-place.fonts c.loop-place.state begun _ _ text
    (ap (λ (xs : List ℕ). pages_run s scene.detail d.pages xs st) (take_all c.loop-place.place-index places c.loop-place-test.false)) (c.loop-place.invariant.goes d is begun text st h k)

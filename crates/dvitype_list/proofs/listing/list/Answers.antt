use Rattle.std.proofs.Common.{◌≡◌, ◌∙◌, [], ℤ, nat_eq, rules, subst, w64, to_z, of_z}
use Rattle.std.specs.Prelude.{IfErr, OnOk}
use Rattle.dvitype_list.specs.Kept.{Failed, Finished}
use Rattle.dvitype_list.specs.Listing.{listing, magnification_of}
use Rattle.dvitype_list.specs.Widths.{setting}
use Rattle.dvitype_list.proofs.Ending.{of_files, refused, start_stands}
use Rattle.dvitype_list.proofs.Widening.{any_self}
use Rattle.dvitype_list.proofs.listing.list.Goals as goal

pub returns-in_err-out-clause-fault : goal.returns-in_err-out-clause-fault
returns-in_err-out-clause-fault g c = λ d is.
    let told = g.S.Shelf.told c.args.shelf.now in
    let s = setting c.args.conv.now c.args.doc.now.fonts c.args.fonts.now in
    refused c.from_residual.result (listing s (nat_eq c.args.job.now.detail 1) d (magnification_of c.args.doc.now.head c.args.job.now.mag) c.args.pages.now) s c.args.fonts.now told told (g.T.Tray.seen c.args.tray.now) c.from_residual.ensures.1

pub returns-in_err-out-clause-files : goal.returns-in_err-out-clause-files
returns-in_err-out-clause-files g c = of_files _ c.args.fonts.now c.args.fonts.now c.requires.none (any_self _ _)

pub returns-in_err-state-clause-fault : goal.returns-in_err-state-clause-fault
returns-in_err-state-clause-fault g c = λ d is.
    let told = g.S.Shelf.told c.args.shelf.now in
    let s = setting c.args.conv.now c.args.doc.now.fonts c.args.fonts.now in
    refused c.from_residual-in_err-state.result (listing s (nat_eq c.args.job.now.detail 1) d (magnification_of c.args.doc.now.head c.args.job.now.mag) c.args.pages.now) s c.args.fonts.now told told (g.T.Tray.seen c.args.tray.now) c.from_residual-in_err-state.ensures.1

pub returns-in_err-state-clause-files : goal.returns-in_err-state-clause-files
returns-in_err-state-clause-files g c = of_files _ c.args.fonts.now c.args.fonts.now c.requires.none (any_self _ _)

pub gather-gathered-requires-clause-none : goal.gather-gathered-requires-clause-none
gather-gathered-requires-clause-none g c = let e = c.in_ok-state.ensures in start_stands c.args.fonts.now c.in_ok-state.state c.requires.none e.0 e.1 e.2

pub returns-clause-files : goal.returns-clause-files
returns-clause-files g c = of_files _ c.args.fonts.now _ c.requires.none c.gather-gathered.ensures.gains

pub returns-clause-ok : goal.returns-clause-ok
returns-clause-ok g c = λ d is.
    let r = c.args.doc.now in
    let job = c.args.job.now in
    let first = g.T.Tray.seen c.args.tray.now in
    let now = g.T.Tray.seen c.gather-gathered.new.tray in
    let s = setting c.args.conv.now r.fonts c.gather-gathered.new.fonts in
    let mag = c.magnification-mag.result in
    let same : to_z w64 (of_z w64 mag) ≡ mag = search rules in
    c.finish.ensures.ok (listing s (nat_eq job.detail 1) d (magnification_of r.head job.mag) c.args.pages.now) first
    (subst (λ (m : ℤ). OnOk c.gather-gathered.result (Finished (listing s (nat_eq job.detail 1) d m c.args.pages.now) first now c.gather-gathered.new.out.kept.items [])) (same ∙ c.magnification-mag.ensures) (c.gather-gathered.ensures.ok d is))

pub returns-clause-fault : goal.returns-clause-fault
returns-clause-fault g c = λ d is.
    let r = c.args.doc.now in
    let job = c.args.job.now in
    let told = g.S.Shelf.told in
    let first = g.T.Tray.seen c.args.tray.now in
    let now = g.T.Tray.seen c.gather-gathered.new.tray in
    let set = c.gather-gathered.new.fonts in
    let s = setting c.args.conv.now r.fonts set in
    let mag = c.magnification-mag.result in
    let same : to_z w64 (of_z w64 mag) ≡ mag = search rules in
    c.finish.ensures.fault (listing s (nat_eq job.detail 1) d (magnification_of r.head job.mag) c.args.pages.now) s set (told c.args.shelf.now) (told c.gather-gathered.new.shelf) first
    (subst (λ (m : ℤ). OnOk c.gather-gathered.result (Finished (listing s (nat_eq job.detail 1) d m c.args.pages.now) first now c.gather-gathered.new.out.kept.items [])) (same ∙ c.magnification-mag.ensures) (c.gather-gathered.ensures.ok d is))
    (subst (λ (m : ℤ). IfErr c.gather-gathered.result (Failed (listing s (nat_eq job.detail 1) d m c.args.pages.now) s set (told c.args.shelf.now) (told c.gather-gathered.new.shelf) first now c.gather-gathered.new.out.kept.items [])) (same ∙ c.magnification-mag.ensures)
    (c.gather-gathered.ensures.fault d is))

use Rattle.std.proofs.Common.{w64, ◌++◌, ◌∙◌, [], length}
use Rattle.std.proofs.lemmas.Int.{to_z-of_z}
use Rattle.std.proofs.lemmas.List.{append-nil}
use Rattle.dvitype_list.specs.Listing.{pages_run}
use Rattle.dvitype_list.specs.Standing.{page_start}
use Rattle.dvitype_list.specs.Texts.{font_lines, head_text}
use Rattle.dvitype_list.specs.Widths.{setting}
use Rattle.dvitype_list.proofs.Gathering.{gathered_is, gathered_start}
use Rattle.dvitype_list.proofs.Paged.{all_done, done_cut, head_cut, head_is, pages_cut}
use Rattle.dvitype_list.proofs.listing.gather.Goals as goal

pub returns-in-Err-clause-fault : goal.returns-in-Err-clause-fault
returns-in-Err-clause-fault g c = λ d is.
    let scene = c.args.scene.now in
    let r = scene.doc.now in
    let seen = g.T.Tray.seen in
    head_cut (setting scene.conv r.fonts c.args.fonts.now) scene.detail d c.args.mag c.args.places.now (seen c.args.tray.now) (seen c.head_lines.new.tray) (head_text r.head c.args.mag (length r.pages)) (font_lines r.fonts)
    (head_is c.one_document.ensures r d c.args.mag c.requires.read is) ((rw (to_z-of_z w64 c.args.mag c.ranges.mag) at c.in-Err.ensures.cut) (seen c.args.tray.now) [] (gathered_start _ _ c.requires.start))

pub returns-in-Err-font_lines-clause-fault : goal.returns-in-Err-font_lines-clause-fault
returns-in-Err-font_lines-clause-fault g c = λ d is.
    let scene = c.args.scene.now in
    let r = scene.doc.now in
    let seen = g.T.Tray.seen in
    let head = head_text r.head c.args.mag (length r.pages) in
    let ok = (rw (to_z-of_z w64 c.args.mag c.ranges.mag) at c.in_default.ensures.ok) (seen c.args.tray.now) [] (gathered_start _ _ c.requires.start) in
    head_cut (setting scene.conv r.fonts c.args.fonts.now) scene.detail d c.args.mag c.args.places.now (seen c.args.tray.now) (seen c.font_lines.new.tray) (head ++ font_lines r.fonts) []
    (append-nil (head ++ font_lines r.fonts) ∙ head_is c.one_document.ensures r d c.args.mag c.requires.read is) (c.in-Err-font_lines.ensures.cut (seen c.args.tray.now) head ok)

pub returns-in-Err-pages-clause-fault : goal.returns-in-Err-pages-clause-fault
returns-in-Err-pages-clause-fault g c = λ d is.
    let scene = c.args.scene.now in
    let r = scene.doc.now in
    let seen = g.T.Tray.seen in
    let first = seen c.args.tray.now in
    let mag = c.args.mag in
    let head = head_text r.head mag (length r.pages) in
    let front = head_text d.head mag (length d.pages) ++ font_lines d.fonts in
    let ok = (rw (to_z-of_z w64 mag c.ranges.mag) at c.in_default.ensures.ok) first [] (gathered_start _ _ c.requires.start) in
    let gathered = gathered_is first (seen c.font_lines.new.tray) c.font_lines.new.out.kept.items (head ++ font_lines r.fonts) front (head_is c.one_document.ensures r d mag c.requires.read is) (c.in_default-font_lines.ensures.ok first head ok) in
    let s = setting scene.conv r.fonts c.pages.new.fonts in
    let told = g.S.Shelf.told in
    pages_cut s scene.detail d mag c.args.places.now c.pages.new.fonts (told c.args.shelf.now) (told c.pages.new.shelf) first (seen c.pages.new.tray) c.pages.new.out.kept.items c.in-Err-pages.fault
    (c.in-Err-pages.ensures.fault d is first front (page_start []) gathered c.requires.none)

pub returns-in-Ok-clause-ok : goal.returns-in-Ok-clause-ok
returns-in-Ok-clause-ok g c = λ d is.
    let scene = c.args.scene.now in
    let r = scene.doc.now in
    let seen = g.T.Tray.seen in
    let first = seen c.args.tray.now in
    let mag = c.args.mag in
    let head = head_text r.head mag (length r.pages) in
    let front = head_text d.head mag (length d.pages) ++ font_lines d.fonts in
    let ok = (rw (to_z-of_z w64 mag c.ranges.mag) at c.in_default.ensures.ok) first [] (gathered_start _ _ c.requires.start) in
    let gathered = gathered_is first (seen c.font_lines.new.tray) c.font_lines.new.out.kept.items (head ++ font_lines r.fonts) front (head_is c.one_document.ensures r d mag c.requires.read is) (c.in_default-font_lines.ensures.ok first head ok) in
    let s = setting scene.conv r.fonts c.pages.new.fonts in
    let ran = c.in_default-pages.ensures.ok d is first front (page_start []) gathered c.requires.none in
    all_done s scene.detail d mag c.args.places.now first (seen c.done_line.new.tray) c.done_line.new.out.kept.items ran.behind ran.ends
    (c.in-Ok.ensures.ok first (front ++ (pages_run s scene.detail d.pages c.args.places.now (page_start [])).text) ran.gathered)

pub returns-in-Err-done_line-clause-fault : goal.returns-in-Err-done_line-clause-fault
returns-in-Err-done_line-clause-fault g c = λ d is.
    let scene = c.args.scene.now in
    let r = scene.doc.now in
    let seen = g.T.Tray.seen in
    let first = seen c.args.tray.now in
    let mag = c.args.mag in
    let head = head_text r.head mag (length r.pages) in
    let front = head_text d.head mag (length d.pages) ++ font_lines d.fonts in
    let ok = (rw (to_z-of_z w64 mag c.ranges.mag) at c.in_default.ensures.ok) first [] (gathered_start _ _ c.requires.start) in
    let gathered = gathered_is first (seen c.font_lines.new.tray) c.font_lines.new.out.kept.items (head ++ font_lines r.fonts) front (head_is c.one_document.ensures r d mag c.requires.read is) (c.in_default-font_lines.ensures.ok first head ok) in
    let s = setting scene.conv r.fonts c.pages.new.fonts in
    let ran = c.in_default-pages.ensures.ok d is first front (page_start []) gathered c.requires.none in
    done_cut s scene.detail d mag c.args.places.now first (seen c.done_line.new.tray) ran.behind ran.ends
    (c.in-Err-done_line.ensures.cut first (front ++ (pages_run s scene.detail d.pages c.args.places.now (page_start [])).text) ran.gathered)

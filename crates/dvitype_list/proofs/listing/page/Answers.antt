use Rattle.std.proofs.Common.{◌+◌, ◌++◌, [], get_or, arith}
use Rattle.dvi_doc.specs.declared.page.Page.{Page}
use Rattle.dvi_ops.specs.Command.Command.{Eop}
use Rattle.font_set.proofs.Steps.{keeps_on}
use Rattle.vf_expand.proofs.Paging.{short_of}
use Rattle.dvitype_list.specs.Kept.{Failed}
use Rattle.dvitype_list.specs.Listing.{commands_run, one_run, page_run}
use Rattle.std.specs.Prelude.{slice_get}
use Rattle.dvitype_list.specs.Standing.{page_start}
use Rattle.dvitype_list.specs.Texts.{page_line}
use Rattle.dvitype_list.specs.Turns.{turned}
use Rattle.dvitype_list.specs.Widths.{setting}
use Rattle.dvitype_list.proofs.Gathering.{if_err, on_ok}
use Rattle.dvitype_list.proofs.Going.{gathered_here}
use Rattle.dvitype_list.proofs.Paged.{begun_stands, eop_failed, found, found_commands, found_eop, found_line, inside_failed, line_cut, page_ran, pages_few}
use Rattle.dvitype_list.proofs.Widening.{any_held, any_on}
use Rattle.dvitype_list.proofs.listing.page.Goals as goal

-- (what an index past the end would give)
abbrev none : Page
none = record { at = 0; first = 0; eop = 0; counts = [] }

pub page_line-requires-clause-few : goal.page_line-requires-clause-few
page_line-requires-clause-few g c = let few = pages_few c.args.scene.now.doc.now c.requires.read in omega (arith, few, c.requires.short, c.requires.page)

pub returns-in-Err-clause-fault : goal.returns-in-Err-clause-fault
returns-in-Err-clause-fault g c = λ d is begun text st h k.
    let scene = c.args.scene.now in
    let r = scene.doc.now in
    let i = c.args.place in
    let set = c.args.fonts.now in
    let told = g.S.Shelf.told c.args.shelf.now in
    let x = get_or c.pages.result.now i none in
    let body = c.body-body.result.now in
    let f = found c.one_document.ensures r d i c.pages.result.now none body c.requires.read is c.pages.ensures c.body-body.ensures.commands in
    line_cut (setting scene.conv r.fonts set) set told told scene.detail i f.page st.known (slice_get d.pages i) f.there (page_line (i + 1) x.at x.counts) (found_line r d i x body f) begun (g.T.Tray.seen c.page_line.new.tray) c.page_line.new.out.kept.items text
    (c.in-Err.ensures.cut begun text h)

pub commands-requires-clause-short : goal.commands-requires-clause-short
commands-requires-clause-short g c =
    let short = short_of c.args.scene.now.doc.now c.args.place c.pages.result.now none c.body-body.result.now c.pages.ensures c.body-body.ensures.bytes in
    omega (arith, short, c.requires.short)

pub commands-requires-clause-commands : goal.commands-requires-clause-commands
commands-requires-clause-commands g c =
    let r = c.args.scene.now.doc.now in
    let d = c.requires.read.0 in
    let x = get_or c.pages.result.now c.args.place none in
    let body = c.body-body.result.now in
    found_commands r d c.args.place x body (found c.one_document.ensures r d c.args.place c.pages.result.now none body c.requires.read c.requires.read.1 c.pages.ensures c.body-body.ensures.commands)

pub commands-requires-clause-stands : goal.commands-requires-clause-stands
commands-requires-clause-stands g c =
    let st = c.requires.stands.0 in
    (page_start st.known, begun_stands c.args.fonts.now c.args.state.now c.begin.new.self st c.begin.ensures.pos c.begin.ensures.font c.begin.ensures.saved c.requires.stands.1)

pub returns-in-Err-commands-clause-fault : goal.returns-in-Err-commands-clause-fault
returns-in-Err-commands-clause-fault g c = λ d is begun text st h k.
    let scene = c.args.scene.now in
    let r = scene.doc.now in
    let i = c.args.place in
    let set = c.commands.new.fonts in
    let told = g.S.Shelf.told in
    let x = get_or c.pages.result.now i none in
    let body = c.body-body.result.now in
    let line = page_line (i + 1) x.at x.counts in
    let f = found c.one_document.ensures r d i c.pages.result.now none body c.requires.read is c.pages.ensures c.body-body.ensures.commands in
    let start = begun_stands c.args.fonts.now c.args.state.now c.begin.new.self st c.begin.ensures.pos c.begin.ensures.font c.begin.ensures.saved k in
    inside_failed (setting scene.conv r.fonts set) set (told c.args.shelf.now) (told c.commands.new.shelf) scene.detail i f.page st.known (slice_get d.pages i) f.there line (found_line r d i x body f) begun (g.T.Tray.seen c.commands.new.tray) c.commands.new.out.kept.items text
    c.in-Err-commands.fault (c.in-Err-commands.ensures.fault begun (text ++ line) (page_start st.known) f.page.commands (c.in_default.ensures.ok begun text h) start f.lexed)

pub command-requires-clause-stands : goal.command-requires-clause-stands
command-requires-clause-stands g c =
    let r = c.args.scene.now.doc.now in
    let d = c.requires.read.0 in
    let st = c.requires.stands.0 in
    let f = found c.one_document.ensures r d c.args.place c.pages.result.now none c.body-body.result.now c.requires.read c.requires.read.1 c.pages.ensures c.body-body.ensures.commands in
    let start = begun_stands c.args.fonts.now c.args.state.now c.begin.new.self st c.begin.ensures.pos c.begin.ensures.font c.begin.ensures.saved c.requires.stands.1 in
    let ran = c.in_default-commands.ensures.ok (g.T.Tray.seen c.page_line.new.tray) c.page_line.new.out.kept.items (page_start st.known) f.page.commands (gathered_here (g.T.Tray.seen c.page_line.new.tray) c.page_line.new.out.kept.items) start f.lexed in
    (ran.behind, ran.stands)

pub returns-clause-ok : goal.returns-clause-ok
returns-clause-ok g c = λ d is begun text st h k.
    let scene = c.args.scene.now in
    let r = scene.doc.now in
    let i = c.args.place in
    let seen = g.T.Tray.seen in
    let early = c.commands.new.fonts in
    let late = c.command.new.fonts in
    let x = get_or c.pages.result.now i none in
    let body = c.body-body.result.now in
    let line = page_line (i + 1) x.at x.counts in
    let f = found c.one_document.ensures r d i c.pages.result.now none body c.requires.read is c.pages.ensures c.body-body.ensures.commands in
    let start = begun_stands c.args.fonts.now c.args.state.now c.begin.new.self st c.begin.ensures.pos c.begin.ensures.font c.begin.ensures.saved k in
    let ran = c.in_default-commands.ensures.ok begun (text ++ line) (page_start st.known) f.page.commands (c.in_default.ensures.ok begun text h) start f.lexed in
    on_ok c.command.result
    (λ w. page_ran scene.conv r.fonts early late c.command.ensures.gains.extends scene.detail i f.page st.known (slice_get d.pages i) line x.eop c.commands.new.state c.command.new.state begun (seen c.commands.new.tray) (seen c.command.new.tray)
    c.commands.new.out.kept.items c.command.new.out.kept.items text f.there (found_line r d i x body f) (found_eop r d i x body f) ran w)
    (c.command.ensures.ok begun ((text ++ line) ++ (commands_run (setting scene.conv r.fonts early) scene.detail f.page.commands (page_start st.known)).text) ran.behind ran.gathered ran.stands)

pub returns-clause-fault : goal.returns-clause-fault
returns-clause-fault g c = λ d is begun text st h k.
    let scene = c.args.scene.now in
    let r = scene.doc.now in
    let i = c.args.place in
    let seen = g.T.Tray.seen in
    let told = g.S.Shelf.told in
    let early = c.commands.new.fonts in
    let late = c.command.new.fonts in
    let two = setting scene.conv r.fonts late in
    let x = get_or c.pages.result.now i none in
    let body = c.body-body.result.now in
    let line = page_line (i + 1) x.at x.counts in
    let f = found c.one_document.ensures r d i c.pages.result.now none body c.requires.read is c.pages.ensures c.body-body.ensures.commands in
    let start = begun_stands c.args.fonts.now c.args.state.now c.begin.new.self st c.begin.ensures.pos c.begin.ensures.font c.begin.ensures.saved k in
    let ran = c.in_default-commands.ensures.ok begun (text ++ line) (page_start st.known) f.page.commands (c.in_default.ensures.ok begun text h) start f.lexed in
    let before = (text ++ line) ++ (commands_run (setting scene.conv r.fonts early) scene.detail f.page.commands (page_start st.known)).text in
    if_err (Failed (one_run scene.detail (record { place = x.eop; command = Eop }) ran.behind (turned two Eop ran.behind)) two late (told c.commands.new.shelf) (told c.command.new.shelf) begun (seen c.command.new.tray) c.command.new.out.kept.items before)
    (Failed (page_run two scene.detail i (slice_get d.pages i) st.known) two late (told c.args.shelf.now) (told c.command.new.shelf) begun (seen c.command.new.tray) c.command.new.out.kept.items text) c.command.result
    (λ e w. eop_failed scene.conv r.fonts early late c.command.ensures.gains.extends scene.detail i f.page st.known (slice_get d.pages i) line x.eop ran.behind (told c.args.shelf.now) (told c.commands.new.shelf) (told c.command.new.shelf) begun
    (seen c.command.new.tray) c.command.new.out.kept.items text e c.commands.ensures.shelf f.there (found_line r d i x body f) (found_eop r d i x body f) ran.ends w)
    (c.command.ensures.fault begun before ran.behind ran.gathered ran.stands)

pub returns-clause-gains : goal.returns-clause-gains
returns-clause-gains g c = any_on _ c.args.fonts.now c.commands.new.fonts c.command.new.fonts c.commands.ensures.gains (any_held _ _ _ _ c.commands.ensures.shelf.held_same c.command.ensures.gains)

pub returns-clause-shelf : goal.returns-clause-shelf
returns-clause-shelf g c = keeps_on _ _ _ c.commands.ensures.shelf c.command.ensures.shelf

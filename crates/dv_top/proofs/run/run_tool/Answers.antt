use Rattle.std.proofs.Common.{arith, map}
use Rattle.std.specs.String.{string_bytes}
use Rattle.dv_top.specs.Message.{message_of}
use Rattle.dv_top.proofs.Complete.{complete}
use Rattle.dv_top.proofs.CopyComplete.{copies_all}
use Rattle.dv_top.proofs.ListComplete.{lists_all}
use Rattle.dv_top.proofs.Said.{line_faults}
use Rattle.dv_top.proofs.run.run_tool.Goals as goal

pub returns-clause-later : goal.returns-clause-later
returns-clause-later g c =
    let seen = g.T.Tray.seen in
    let same = line_faults (message_of c.run_words-outcome.result) (seen c.run_words-outcome.new.tray) (seen c.say.new.tray) c.say.ensures in
    omega (arith, same, c.run_words-outcome.ensures.later)

pub returns-clause-complete : goal.returns-clause-complete
returns-clause-complete g c =
    let told = g.S.Shelf.told in
    let seen = g.T.Tray.seen in
    let words = map string_bytes c.args.words.now in
    let before = told c.args.shelf.now in
    let later = told c.run_words-outcome.new.shelf in
    let old = seen c.args.tray.now in
    let between = seen c.run_words-outcome.new.tray in
    let new = seen c.say.new.tray in
    let o = c.run_words-outcome.result in
    let leaves = c.run_words-outcome.ensures.leaves in (
      complete c.one_document.ensures c.one_font.ensures c.can_be_had.ensures c.one_job.ensures words before later old between new o leaves c.say.ensures,
      copies_all c.one_document.ensures c.one_font.ensures c.can_be_had.ensures c.one_job.ensures words before later old between new o leaves c.say.ensures,
      lists_all c.one_document.ensures c.one_font.ensures c.one_job.ensures words before later old between new o leaves c.say.ensures,
    )

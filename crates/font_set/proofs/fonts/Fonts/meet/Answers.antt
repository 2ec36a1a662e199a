use Rattle.std.proofs.Common.{sym, ◌∙◌, FitsSigned, w64, rules}
use Rattle.std.proofs.lemmas.Int.{to_z-of_z}
use Rattle.font_set.proofs.States.{loads_only}
use Rattle.font_set.proofs.Gaining.{loaded_gains}
use Rattle.font_set.proofs.Telling.{load_gains, meet_gains}
use Rattle.font_set.proofs.fonts.Fonts.meet.Goals as goal

pub returns-clause-meets : goal.returns-clause-meets
returns-clause-meets g c =
    let fits : FitsSigned w64 c.args.z = search rules in
    let code = c.in_ok-code.ensures.code in
    record {
      mid = c.load.new.self;
      code = c.in_ok-code.code;
      sets = sym (to_z-of_z w64 c.args.z fits) ∙ code.0;
      small = code.1;
      loaded = c.in_ok-load.ensures.loaded;
      others = loads_only _ _ _ c.args.self.now c.load.new.self c.args.id c.in_ok-load.ensures.ok;
      shown = c.in_ok-code.ensures.shown;
      opens = c.in_ok-open_packet.ensures.opens;
    }

pub returns-in_err-code-clause-gains : goal.returns-in_err-code-clause-gains
returns-in_err-code-clause-gains g c =
    let held = (g.S.Shelf.told c.args.shelf.now).held in
    load_gains held c.args.self.now c.load.new.self c.args.id c.args.z (loaded_gains held c.args.self.now c.load.new.self c.args.id c.in_ok-load.ensures.ok c.in_ok-load.ensures.loaded)

pub returns-in_err-open_packet-clause-gains : goal.returns-in_err-open_packet-clause-gains
returns-in_err-open_packet-clause-gains g c =
    let fits : FitsSigned w64 c.args.z = search rules in
    let held = (g.S.Shelf.told c.args.shelf.now).held in
    let code = c.in_ok-code.ensures.code in
    meet_gains held c.args.self.now c.load.new.self c.open_packet.new.self c.args.id c.in_ok-code.code c.args.z (sym (to_z-of_z w64 c.args.z fits) ∙ code.0)
    (loaded_gains held c.args.self.now c.load.new.self c.args.id c.in_ok-load.ensures.ok c.in_ok-load.ensures.loaded) (c.in_err-open_packet.ensures.gains held)

pub returns-clause-gains : goal.returns-clause-gains
returns-clause-gains g c =
    let fits : FitsSigned w64 c.args.z = search rules in
    let held = (g.S.Shelf.told c.args.shelf.now).held in
    let code = c.in_ok-code.ensures.code in
    meet_gains held c.args.self.now c.load.new.self c.open_packet.new.self c.args.id c.in_ok-code.code c.args.z (sym (to_z-of_z w64 c.args.z fits) ∙ code.0)
    (loaded_gains held c.args.self.now c.load.new.self c.args.id c.in_ok-load.ensures.ok c.in_ok-load.ensures.loaded) (c.in_ok-open_packet.ensures.gains held)

use Rattle.dvitype_list.proofs.Widening.{load_gains}
use Rattle.dvitype_list.proofs.fonts.load.Goals as goal

pub returns-in-Known-clause-gains : goal.returns-in-Known-clause-gains
returns-in-Known-clause-gains g c =
    let told = g.S.Shelf.told in
    load_gains c.load.result (told c.args.shelf.now).held c.args.fonts.now c.load.new.self c.args.id c.load.ensures.ok c.load.ensures.loaded c.load.ensures.same

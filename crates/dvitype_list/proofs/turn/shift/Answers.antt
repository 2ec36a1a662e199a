use Rattle.std.proofs.Common.{◌≡◌, refl, rules, w64, to_z, of_z}
use Rattle.dvi_ops.specs.View.{view}
use Rattle.dvitype_list.proofs.Turning.{shift_turned, shift_stops, stands_placed}
use Rattle.dvitype_list.proofs.turn.shift.Goals as goal

pub returns-in-Ok-clause-ok : goal.returns-in-Ok-clause-ok
returns-in-Ok-clause-ok c = λ set ds st h.
    let space : to_z w64 (of_z w64 c.space.result) ≡ c.space.result = search rules in
    record {
      behind = _;
      is =
          shift_turned c.args.conv.now ds set (view c.args.cmd.now) st c.args.state.now c.space.result c.requires.plain h c.space.ensures.value c.plain.new.pos
          (rw space at c.in-Ok.ensures.ok);
      stands = stands_placed set c.args.state.now _ st h refl refl;
    }

pub returns-in-Err-clause-fault : goal.returns-in-Err-clause-fault
returns-in-Err-clause-fault c = λ set ds old new st h. shift_stops c.args.conv.now ds set (view c.args.cmd.now) st c.args.state.now c.space.result c.requires.plain h c.space.ensures.value old new c.args.at c.in-Err.ensures.large

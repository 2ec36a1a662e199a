use Rattle.std.proofs.Common.{◌≡◌, refl, rules, w64, to_z, of_z}
use Rattle.dvi_ops.specs.View.{view}
use Rattle.dvitype_list.proofs.Turning.{shift_turned, stands_placed}
use Rattle.dvitype_list.proofs.quick.shift.Goals as goal

pub returns-in-Ok : goal.returns-in-Ok
returns-in-Ok c = λ set ds st h.
    let space : to_z w64 (of_z w64 c.space.result) ≡ c.space.result = search rules in
    record {
      behind = _;
      is =
          shift_turned c.args.conv.now ds set (view c.args.cmd.now) st c.args.state.now c.space.result c.requires.plain h c.space.ensures.value c.plain.new.pos
          (rw space at c.in-Ok.ensures.ok);
      stands = stands_placed set c.args.state.now _ st h refl refl;
    }

pub returns-in-Err : goal.returns-in-Err
returns-in-Err c = λ set ds st h. h

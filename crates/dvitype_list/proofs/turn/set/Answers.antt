use Rattle.std.proofs.Common.{◌≡◌, refl, rules, w64, to_z, of_z}
use Rattle.std.proofs.lemmas.Int.{to_z-of_z}
use Rattle.dvitype_list.proofs.Turning.{set_turned, set_passed, set_stops, stands_moved}
use Rattle.dvitype_list.proofs.turn.set.Goals as goal

pub returns-in-Ok-past_char-clause-ok : goal.returns-in-Ok-past_char-clause-ok
returns-in-Ok-past_char-clause-ok g c = λ ds st h.
    let e = rw (to_z-of_z w64 c.args.z c.ranges.z) at (c.in-Ok.ensures.ok st.font h.font) in
    let width : to_z w64 (of_z w64 c.in-Ok.width) ≡ c.in-Ok.width = search rules in
    record {
      behind = _;
      is = set_turned c.args.conv.now ds c.width.new.fonts st c.args.z c.in-Ok.width c.args.state.now.pos c.past_char.new.pos h.place e (rw width at c.in-Ok-past_char.ensures.ok);
      stands = stands_moved c.args.fonts.now c.width.new.fonts c.args.state.now _ st c.width.ensures.gains.extends c.width.ensures.keys h refl refl;
    }

pub returns-in-Err-past_char-clause-fault : goal.returns-in-Err-past_char-clause-fault
returns-in-Err-past_char-clause-fault g c = λ ds st h.
    let told = g.S.Shelf.told in
    let e = rw (to_z-of_z w64 c.args.z c.ranges.z) at (c.in-Ok.ensures.ok st.font h.font) in
    let width : to_z w64 (of_z w64 c.in-Ok.width) ≡ c.in-Ok.width = search rules in
    set_passed c.args.conv.now ds c.width.new.fonts (told c.args.shelf.now) (told c.width.new.shelf) c.args.at st c.args.z c.in-Ok.width c.args.state.now.pos h.place e
    (rw width at c.in-Err-past_char.ensures.large)

pub returns-in-Err-clause-fault : goal.returns-in-Err-clause-fault
returns-in-Err-clause-fault g c = λ ds st h.
    let told = g.S.Shelf.told in
    set_stops c.args.conv.now ds c.width.new.fonts (told c.args.shelf.now) (told c.width.new.shelf) c.args.at c.args.z st c.in-Err.fault
    (rw (to_z-of_z w64 c.args.z c.ranges.z) at (c.in-Err.ensures.fault st.font h.font))

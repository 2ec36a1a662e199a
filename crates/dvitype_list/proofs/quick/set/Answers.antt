use Rattle.std.proofs.Common.{◌≡◌, ◌∙◌, refl, rules, sym, w64, to_z, of_z}
use Rattle.std.proofs.lemmas.Int.{to_z-of_z}
use Rattle.dvitype_list.proofs.Turning.{set_turned, stands_placed}
use Rattle.dvitype_list.proofs.quick.set.Goals as goal

pub returns-in-Ok : goal.returns-in-Ok
returns-in-Ok c = λ ds st h.
    let e = rw (to_z-of_z w64 c.args.z c.ranges.z) at (c.in-Some.ensures.value st.font h.font) in
    let width : to_z w64 (of_z w64 c.in-Some.width) ≡ c.in-Some.width = search rules in
    record {
      behind = _;
      is = set_turned c.args.conv.now ds c.args.fonts.now st c.args.z c.in-Some.width c.args.state.now.pos c.past_char.new.pos h.place (sym e) (rw width at c.in-Ok.ensures.ok);
      stands = stands_placed c.args.fonts.now c.args.state.now _ st h refl refl;
    }

pub returns-in-Err : goal.returns-in-Err
returns-in-Err c = λ ds st h. record { place = h.place ∙ sym c.in-Err.ensures.stays; font = h.font; pushes = h.pushes; known = h.known }

pub returns-in_default : goal.returns-in_default
returns-in_default c = λ ds st h. h

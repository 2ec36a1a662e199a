use Rattle.std.proofs.Common.{w64}
use Rattle.std.proofs.lemmas.Int.{to_z-of_z}
use Rattle.dvitype_list.proofs.Turning.{put_turned, put_stops}
use Rattle.dvitype_list.proofs.Widening.{stands_later}
use Rattle.dvitype_list.proofs.turn.put.Goals as goal

pub returns-in-Ok-clause-ok : goal.returns-in-Ok-clause-ok
returns-in-Ok-clause-ok g c = λ f ds st h.
    let e = rw (to_z-of_z w64 c.args.z c.ranges.z) at (c.in-Ok.ensures.ok st.font h.font) in
    record {
      behind = st;
      is = put_turned f ds c.width.new.fonts st c.args.z _ e;
      stands = stands_later c.args.fonts.now c.width.new.fonts c.args.state.now st c.width.ensures.gains.extends c.width.ensures.keys h;
    }

pub returns-in-Err-clause-fault : goal.returns-in-Err-clause-fault
returns-in-Err-clause-fault g c = λ f ds st h.
    let told = g.S.Shelf.told in
    put_stops f ds c.width.new.fonts (told c.args.shelf.now) (told c.width.new.shelf) c.args.at c.args.z st c.in-Err.fault (rw (to_z-of_z w64 c.args.z c.ranges.z) at (c.in-Err.ensures.fault st.font h.font))

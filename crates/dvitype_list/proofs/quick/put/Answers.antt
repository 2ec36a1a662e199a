use Rattle.std.proofs.Common.{w64, sym}
use Rattle.std.proofs.lemmas.Int.{to_z-of_z}
use Rattle.dvitype_list.proofs.Turning.{put_turned}
use Rattle.dvitype_list.proofs.quick.put.Goals as goal

pub returns-in-Some : goal.returns-in-Some
returns-in-Some c = λ f ds st h.
    let e = rw (to_z-of_z w64 c.args.z c.ranges.z) at (c.in-Some.ensures.value st.font h.font) in
    record { behind = st; is = put_turned f ds c.args.fonts.now st c.args.z _ (sym e); stands = h }

pub returns-in-None : goal.returns-in-None
returns-in-None c = λ f ds st h. h

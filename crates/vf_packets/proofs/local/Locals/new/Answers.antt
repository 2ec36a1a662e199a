use Rattle.std.proofs.Common.{refl, subst, rules, List, FitsSigned, w64}
use Rattle.std.proofs.lemmas.Int.{to_z-of_z}
use Rattle.dvi_ops.proofs.Numbering.{twice_of, once_of}
use Rattle.std.specs.Prelude.{map}
use Rattle.vf_packets.specs.Font.{numbers_of}
use Rattle.vf_packets.specs.LocalViews.{local_view}
use Rattle.vf_packets.specs.declared.local.Local.{Local}
use Rattle.vf_packets.proofs.Numbered.{IsIndex}
use Rattle.vf_packets.proofs.local.Locals.new.Goals as goal

pub returns-in-Some-clause-fault : goal.returns-in-Some-clause-fault
returns-in-Some-clause-fault c =
    let fits : FitsSigned w64 c.in-Some.k = search rules in
    let same = subst (λ (l : List Local). IsIndex l c.in_ok-index.index) c.deref.ensures.value c.in_ok-index.ensures in
    rw (to_z-of_z w64 c.in-Some.k fits) (twice_of (numbers_of (map local_view c.args.fonts.items)) c.in_ok-index.index c.in-Some.k same c.in-Some.ensures)

pub returns-clause-found : goal.returns-clause-found
returns-clause-found c =
    let same = subst (λ (l : List Local). IsIndex l c.in_ok-index.index) c.deref.ensures.value c.in_ok-index.ensures in
    (refl, once_of (numbers_of (map local_view c.args.fonts.items)) c.in_ok-index.index same c.in_default.ensures)

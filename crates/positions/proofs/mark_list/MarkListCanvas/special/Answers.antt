use Rattle.std.proofs.Common.{refl, FitsSigned, w64, rules}
use Rattle.std.proofs.lemmas.Int.{to_z-of_z}
use Rattle.positions.proofs.Lists.{marks_of-push}
use Rattle.positions.proofs.mark_list.MarkListCanvas.special.Goals as goal

pub returns-clause-ok : goal.returns-clause-ok
returns-clause-ok c =
    let x : FitsSigned w64 c.args.mark.now.x = search rules in
    let y : FitsSigned w64 c.args.mark.now.y = search rules in
    let h : FitsSigned w64 c.args.mark.now.h = search rules in
    let v : FitsSigned w64 c.args.mark.now.v = search rules in
    rw (← c.self.view_is, c.in_ok-push.ensures.items, marks_of-push, c.in_ok-bytes.ensures.items) (simp to_z-of_z refl)

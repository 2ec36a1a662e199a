use Rattle.std.proofs.Common.{sym, ap, ◌∙◌, subst, rules, w64, List, ℕ, Option}
use Rattle.std.specs.Prelude.{FitsSigned}
use Rattle.std.proofs.lemmas.Int.{to_z-of_z}
use Rattle.positions.specs.Mark.{Special}
use Rattle.ps_emit.specs.Shown.{out_of, sheet_of}
use Rattle.ps_emit.specs.Sheet.{special_lines, special_sheet}
use Rattle.ps_emit.specs.Written.{Writes}
use Rattle.ps_emit.proofs.Takes.{one_taken, one_refused, none_taken}
use Rattle.ps_emit.proofs.emitter.EmitterCanvas.special.Goals as goal

pub returns-in-Some-clause-ok : goal.returns-in-Some-clause-ok
returns-in-Some-clause-ok g c =
    let e = c.args.self.now in
    let x : FitsSigned w64 c.args.mark.now.x = search rules in
    let y : FitsSigned w64 c.args.mark.now.y = search rules in
    let p : Special = record { bytes = c.args.mark.now.bytes.now; x = c.args.mark.now.x; y = c.args.mark.now.y; h = c.args.mark.now.h; v = c.args.mark.now.v } in
    one_taken e c.pass.new.self _ c.pass.result
    (subst (λ (o : Option (List ℕ)). Writes (special_lines (sheet_of e) p o) (out_of e) (out_of c.pass.new.self) c.pass.result) (sym c.in-Some.ensures)
    (rw (to_z-of_z w64 c.args.mark.now.x x, to_z-of_z w64 c.args.mark.now.y y) at c.pass.ensures.writes))
    c.pass.ensures.holds
    ((rw (to_z-of_z w64 c.args.mark.now.x x, to_z-of_z w64 c.args.mark.now.y y) at c.pass.ensures.sheet) ∙ ap (special_sheet (sheet_of e) p) (sym c.in-Some.ensures))

pub returns-in-Some-clause-err : goal.returns-in-Some-clause-err
returns-in-Some-clause-err g c =
    let e = c.args.self.now in
    let x : FitsSigned w64 c.args.mark.now.x = search rules in
    let y : FitsSigned w64 c.args.mark.now.y = search rules in
    let p : Special = record { bytes = c.args.mark.now.bytes.now; x = c.args.mark.now.x; y = c.args.mark.now.y; h = c.args.mark.now.h; v = c.args.mark.now.v } in
    one_refused e c.pass.new.self _ c.pass.result
    (subst (λ (o : Option (List ℕ)). Writes (special_lines (sheet_of e) p o) (out_of e) (out_of c.pass.new.self) c.pass.result) (sym c.in-Some.ensures)
    (rw (to_z-of_z w64 c.args.mark.now.x x, to_z-of_z w64 c.args.mark.now.y y) at c.pass.ensures.writes))
    c.pass.ensures.holds

pub returns-in-None-clause-ok : goal.returns-in-None-clause-ok
returns-in-None-clause-ok g c = none_taken _ _ c.in-None.ensures

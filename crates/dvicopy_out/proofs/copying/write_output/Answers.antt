use Rattle.std.proofs.Common.{rules, w32, ◌≡◌, [], List, ℕ, sym, ap, subst, ◌∙◌}
use Rattle.std.specs.Prelude.{FitsSigned, OnOk, OnErr}
use Rattle.dv_base.specs.Causes.{Rose}
use Rattle.dv_base.specs.Tray.{Appends, AppendsFront, KeepsNames, Seen, WhereTold}
use Rattle.std.proofs.lemmas.Int.{to_z-of_z}
use Rattle.dvicopy_out.specs.Leaves.{copy_of}
use Rattle.dvicopy_out.specs.Sent.{Out}
use Rattle.dvicopy_out.specs.Shown.{out_of}
use Rattle.dvicopy_out.proofs.Sending.{output_all, output_front, output_keeps, output_rose}
use Rattle.dvicopy_out.proofs.copying.write_output.Goals as goal

pub returns-clause-all : goal.returns-clause-all
returns-clause-all g c =
    let loan = sym (c.write_all_of.ensures.holds.loan_same ∙ c.new-writer.ensures.loan) in
    let hm : FitsSigned w32 c.args.mag = search rules in
    let sends = simp (to_z-of_z w32 c.args.mag hm) at c.write_all_of.ensures.sends in
    let text : List ℕ = copy_of c.args.walker.now.grid c.args.fonts.now c.args.doc.now c.args.pages.now c.args.mag in
    let x : Out = out_of {T = g.row.T.Denot} {G = g.T.Tray} c.new-writer.result in
    let y : Out = out_of {T = g.row.T.Denot} {G = g.T.Tray} c.write_all_of.new.writer in
    let e : x.waiting ≡ [] = ap (λ (o : Out). o.waiting) c.new-writer.ensures.out in
    let was : Seen = g.T.Tray.seen c.args.tray.now in
    let now : Seen = g.T.Tray.seen c.write_all_of.new.writer.tray.now in
    let seen : x.seen ≡ was = ap (λ (o : Out). o.seen) c.new-writer.ensures.out in
    let fact : OnOk c.write_all_of.result (WhereTold (Appends text) was.outputs now.outputs) = subst (λ (s : Seen). OnOk c.write_all_of.result (WhereTold (Appends text) s.outputs now.outputs)) seen (output_all text x y c.write_all_of.result e c.write_all_of.ensures.none sends) in
    search rules

pub returns-clause-front : goal.returns-clause-front
returns-clause-front g c =
    let loan = sym (c.write_all_of.ensures.holds.loan_same ∙ c.new-writer.ensures.loan) in
    let hm : FitsSigned w32 c.args.mag = search rules in
    let sends = simp (to_z-of_z w32 c.args.mag hm) at c.write_all_of.ensures.sends in
    let text : List ℕ = copy_of c.args.walker.now.grid c.args.fonts.now c.args.doc.now c.args.pages.now c.args.mag in
    let x : Out = out_of {T = g.row.T.Denot} {G = g.T.Tray} c.new-writer.result in
    let y : Out = out_of {T = g.row.T.Denot} {G = g.T.Tray} c.write_all_of.new.writer in
    let e : x.waiting ≡ [] = ap (λ (o : Out). o.waiting) c.new-writer.ensures.out in
    let was : Seen = g.T.Tray.seen c.args.tray.now in
    let now : Seen = g.T.Tray.seen c.write_all_of.new.writer.tray.now in
    let seen : x.seen ≡ was = ap (λ (o : Out). o.seen) c.new-writer.ensures.out in
    let fact : OnErr c.write_all_of.result (WhereTold (AppendsFront text) was.outputs now.outputs) = subst (λ (s : Seen). OnErr c.write_all_of.result (WhereTold (AppendsFront text) s.outputs now.outputs)) seen (output_front text x y c.write_all_of.result e sends) in
    search rules

pub returns-clause-failed : goal.returns-clause-failed
returns-clause-failed g c =
    let loan = sym (c.write_all_of.ensures.holds.loan_same ∙ c.new-writer.ensures.loan) in
    let hm : FitsSigned w32 c.args.mag = search rules in
    let sends = simp (to_z-of_z w32 c.args.mag hm) at c.write_all_of.ensures.sends in
    let text : List ℕ = copy_of c.args.walker.now.grid c.args.fonts.now c.args.doc.now c.args.pages.now c.args.mag in
    let x : Out = out_of {T = g.row.T.Denot} {G = g.T.Tray} c.new-writer.result in
    let y : Out = out_of {T = g.row.T.Denot} {G = g.T.Tray} c.write_all_of.new.writer in
    let e : x.waiting ≡ [] = ap (λ (o : Out). o.waiting) c.new-writer.ensures.out in
    let was : Seen = g.T.Tray.seen c.args.tray.now in
    let now : Seen = g.T.Tray.seen c.write_all_of.new.writer.tray.now in
    let seen : x.seen ≡ was = ap (λ (o : Out). o.seen) c.new-writer.ensures.out in
    let fact : OnErr c.write_all_of.result (Rose was.faults now.faults) = subst (λ (s : Seen). OnErr c.write_all_of.result (Rose s.faults now.faults)) seen (output_rose text x y c.write_all_of.result sends) in
    search rules

pub returns-clause-keeps : goal.returns-clause-keeps
returns-clause-keeps g c =
    let loan = sym (c.write_all_of.ensures.holds.loan_same ∙ c.new-writer.ensures.loan) in
    let hm : FitsSigned w32 c.args.mag = search rules in
    let sends = simp (to_z-of_z w32 c.args.mag hm) at c.write_all_of.ensures.sends in
    let text : List ℕ = copy_of c.args.walker.now.grid c.args.fonts.now c.args.doc.now c.args.pages.now c.args.mag in
    let x : Out = out_of {T = g.row.T.Denot} {G = g.T.Tray} c.new-writer.result in
    let y : Out = out_of {T = g.row.T.Denot} {G = g.T.Tray} c.write_all_of.new.writer in
    let e : x.waiting ≡ [] = ap (λ (o : Out). o.waiting) c.new-writer.ensures.out in
    let was : Seen = g.T.Tray.seen c.args.tray.now in
    let now : Seen = g.T.Tray.seen c.write_all_of.new.writer.tray.now in
    let seen : x.seen ≡ was = ap (λ (o : Out). o.seen) c.new-writer.ensures.out in
    let fact : KeepsNames was now = subst (λ (s : Seen). KeepsNames s now) seen (output_keeps text x y c.write_all_of.result sends) in
    search rules

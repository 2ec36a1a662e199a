use Rattle.std.proofs.Common.{rules, w32, ◌≡◌, ◌<◌, ◌≤◌, ◌+◌, ◌-◌, ◌^◌, ℕ, List, arith, subst, sym, ap, ◌∙◌, length, inr}
use Rattle.std.specs.Prelude.{FitsSigned}
use Rattle.std.proofs.lemmas.Int.{to_z-of_z}
use Rattle.dv_base.specs.Tray.{Appends, AppendsFront, Seen, WhereTold}
use Rattle.vf_expand.specs.Grid.{Grid}
use Rattle.vf_expand.specs.Page.{Walk}
use Rattle.dvicopy_out.specs.Copies.{Page, Work, filling, front_commands}
use Rattle.dvicopy_out.specs.Leaves.{Copied, CopiedFront, copy_of, work_of}
use Rattle.dvicopy_out.specs.Numbered.{definitions}
use Rattle.dvicopy_out.specs.Pages.{copy_pages}
use Rattle.dvicopy_out.specs.Spelled.{spelled}
use Rattle.dvicopy_out.proofs.Ending.{copied_front, copied_whole, is_long, is_short, untouched}
use Rattle.dvicopy_out.proofs.Making.{made}
use Rattle.dvicopy_out.proofs.Rows.{all_ten}
use Rattle.dvicopy_out.proofs.copying.write_copy.Goals as goal

pub returns-then-is_too_long-clause-fails : goal.returns-then-is_too_long-clause-fails
returns-then-is_too_long-clause-fails g c =
    let r = c.args.doc.now in
    let set = c.args.fonts.now in
    let grid = c.args.walker.now.grid in
    let ks = c.args.pages.now in
    let mag = c.args.mag in
    let w : Work = work_of r set mag in
    let ps : List Page = copy_pages grid set r ks in
    let bytes = c.bytes.result in
    let hm : FitsSigned w32 mag = search rules in
    let front = simp (to_z-of_z w32 mag hm) at c.in-Ok.ensures.bytes in
    let defs = c.in-Ok.ensures.definitions in
    let around : c.around.result ≡ length (spelled (front_commands w)) + length (spelled (definitions set)) = c.around.ensures ∙ (λ i. length (front i) + length (defs i)) in
    let ten = all_ten grid set r ks c.requires.measured.ready in
    (is_long w ps bytes ten (c.bytes.ensures ∙ c.requires.measured.bytes_are) (subst (λ (k : ℕ). 2 ^ 31 - 1 < (k + bytes + 35) + length (filling (k + bytes + 35))) around c.if-is_too_long.ensures), untouched (g.T.Tray.seen c.args.tray.now))

pub write_output-requires-clause-room : goal.write_output-requires-clause-room
write_output-requires-clause-room g c =
    let r = c.args.doc.now in
    let set = c.args.fonts.now in
    let grid = c.args.walker.now.grid in
    let ks = c.args.pages.now in
    let mag = c.args.mag in
    let w : Work = work_of r set mag in
    let ps : List Page = copy_pages grid set r ks in
    let bytes = c.bytes.result in
    let hm : FitsSigned w32 mag = search rules in
    let front = simp (to_z-of_z w32 mag hm) at c.in-Ok.ensures.bytes in
    let defs = c.in-Ok.ensures.definitions in
    let around : c.around.result ≡ length (spelled (front_commands w)) + length (spelled (definitions set)) = c.around.ensures ∙ (λ i. length (front i) + length (defs i)) in
    let ten = all_ten grid set r ks c.requires.measured.ready in
    let short : length (copy_of grid set r ks mag) < 2 ^ 31 = is_short w ps bytes ten (c.bytes.ensures ∙ c.requires.measured.bytes_are) (subst (λ (k : ℕ). (k + bytes + 35) + length (filling (k + bytes + 35)) ≤ 2 ^ 31 - 1) around c.if-is_too_long.ensures) in
    let grids : c.reset.new.self.grid ≡ grid = ap (λ (x : Walk). x.grid) c.reset.ensures in
    rw (to_z-of_z w32 mag hm) (subst (λ (h : Grid). length (copy_of h set r ks mag) < 2 ^ 31) (sym grids) short)

pub returns-in-Ok-write_output-clause-copied : goal.returns-in-Ok-write_output-clause-copied
returns-in-Ok-write_output-clause-copied g c =
    let r = c.args.doc.now in
    let set = c.args.fonts.now in
    let grid = c.args.walker.now.grid in
    let ks = c.args.pages.now in
    let mag = c.args.mag in
    let w : Work = work_of r set mag in
    let ps : List Page = copy_pages grid set r ks in
    let bytes = c.bytes.result in
    let hm : FitsSigned w32 mag = search rules in
    let front = simp (to_z-of_z w32 mag hm) at c.in-Ok.ensures.bytes in
    let defs = c.in-Ok.ensures.definitions in
    let around : c.around.result ≡ length (spelled (front_commands w)) + length (spelled (definitions set)) = c.around.ensures ∙ (λ i. length (front i) + length (defs i)) in
    let ten = all_ten grid set r ks c.requires.measured.ready in
    let grids : c.reset.new.self.grid ≡ grid = ap (λ (x : Walk). x.grid) c.reset.ensures in
    let seen = g.T.Tray.seen in
    let x : Seen = seen c.args.tray.now in
    let y : Seen = seen c.begin.new.self in
    let z : Seen = seen c.write_output.new.tray in
    let text : List ℕ = copy_of grid set r ks mag in
    let gives = c.in-Ready.ensures.gives in
    let all0 = simp (to_z-of_z w32 mag hm) at c.in-Ok-write_output.ensures.all in
    let all = subst (λ (h : Grid). WhereTold (Appends (copy_of h set r ks mag)) y.outputs z.outputs) grids all0 in
    subst (λ (n : List ℕ). Copied n text x z) c.as_str.ensures.value
    (copied_whole c.as_str.result.now text x y z gives.0 gives.1 gives.2 c.in-Ready.ensures.messages all c.in-Ok-write_output.ensures.keeps)

pub returns-in-Ok-write_output-clause-short : goal.returns-in-Ok-write_output-clause-short
returns-in-Ok-write_output-clause-short g c =
    let r = c.args.doc.now in
    let set = c.args.fonts.now in
    let grid = c.args.walker.now.grid in
    let ks = c.args.pages.now in
    let mag = c.args.mag in
    let w : Work = work_of r set mag in
    let ps : List Page = copy_pages grid set r ks in
    let bytes = c.bytes.result in
    let hm : FitsSigned w32 mag = search rules in
    let front = simp (to_z-of_z w32 mag hm) at c.in-Ok.ensures.bytes in
    let defs = c.in-Ok.ensures.definitions in
    let around : c.around.result ≡ length (spelled (front_commands w)) + length (spelled (definitions set)) = c.around.ensures ∙ (λ i. length (front i) + length (defs i)) in
    let ten = all_ten grid set r ks c.requires.measured.ready in
    let short : length (copy_of grid set r ks mag) < 2 ^ 31 = is_short w ps bytes ten (c.bytes.ensures ∙ c.requires.measured.bytes_are) (subst (λ (k : ℕ). (k + bytes + 35) + length (filling (k + bytes + 35)) ≤ 2 ^ 31 - 1) around c.if-is_too_long.ensures) in
    short

pub returns-clause-fails : goal.returns-clause-fails
returns-clause-fails g c =
    let r = c.args.doc.now in
    let set = c.args.fonts.now in
    let grid = c.args.walker.now.grid in
    let ks = c.args.pages.now in
    let mag = c.args.mag in
    let w : Work = work_of r set mag in
    let ps : List Page = copy_pages grid set r ks in
    let bytes = c.bytes.result in
    let hm : FitsSigned w32 mag = search rules in
    let front = simp (to_z-of_z w32 mag hm) at c.in-Ok.ensures.bytes in
    let defs = c.in-Ok.ensures.definitions in
    let around : c.around.result ≡ length (spelled (front_commands w)) + length (spelled (definitions set)) = c.around.ensures ∙ (λ i. length (front i) + length (defs i)) in
    let ten = all_ten grid set r ks c.requires.measured.ready in
    let grids : c.reset.new.self.grid ≡ grid = ap (λ (x : Walk). x.grid) c.reset.ensures in
    let seen = g.T.Tray.seen in
    let x : Seen = seen c.args.tray.now in
    let y : Seen = seen c.begin.new.self in
    let z : Seen = seen c.write_output.new.tray in
    let text : List ℕ = copy_of grid set r ks mag in
    let gives = c.in-Ready.ensures.gives in
    let front0 = simp (to_z-of_z w32 mag hm) at c.in-Err.ensures.front in
    let front1 = subst (λ (h : Grid). WhereTold (AppendsFront (copy_of h set r ks mag)) y.outputs z.outputs) grids front0 in
    let rose = c.in-Err.ensures.failed in
    let same = gives.3 in (
      omega (arith, rose, same),
      inr (subst (λ (n : List ℕ). CopiedFront n text x z) c.as_str.ensures.value
          (copied_front c.as_str.result.now text x y z gives.0 gives.1 gives.2 c.in-Ready.ensures.messages front1 c.in-Err.ensures.keeps)),
    )

pub returns-in-Failed-clause-made : goal.returns-in-Failed-clause-made
returns-in-Failed-clause-made g c =
    let set = c.args.fonts.now in
    let mag = c.args.mag in
    let w : Work = work_of c.args.doc.now set mag in
    let hm : FitsSigned w32 mag = search rules in
    let front = simp (to_z-of_z w32 mag hm) at c.in-Ok.ensures.bytes in
    let defs = c.in-Ok.ensures.definitions in
    let around : c.around.result ≡ length (spelled (front_commands w)) + length (spelled (definitions set)) = c.around.ensures ∙ (λ i. length (front i) + length (defs i)) in
    made c.args.walker.now.grid set c.args.doc.now c.args.pages.now mag c.bytes.result c.around.result c.requires.measured.ready c.requires.measured.few c.requires.measured.put
    (record { num = c.numbers_fit.ensures.num; den = c.numbers_fit.ensures.den; comment = c.numbers_fit.ensures.comment; tall = c.numbers_fit.ensures.tall; wide = c.numbers_fit.ensures.wide })
    hm c.in-Ok.ensures.few c.in-Ok.ensures.keys (c.bytes.ensures ∙ c.requires.measured.bytes_are) around c.if-is_too_long.ensures

pub returns-in-Ok-write_output-clause-made : goal.returns-in-Ok-write_output-clause-made
returns-in-Ok-write_output-clause-made g c =
    let set = c.args.fonts.now in
    let mag = c.args.mag in
    let w : Work = work_of c.args.doc.now set mag in
    let hm : FitsSigned w32 mag = search rules in
    let front = simp (to_z-of_z w32 mag hm) at c.in-Ok.ensures.bytes in
    let defs = c.in-Ok.ensures.definitions in
    let around : c.around.result ≡ length (spelled (front_commands w)) + length (spelled (definitions set)) = c.around.ensures ∙ (λ i. length (front i) + length (defs i)) in
    made c.args.walker.now.grid set c.args.doc.now c.args.pages.now mag c.bytes.result c.around.result c.requires.measured.ready c.requires.measured.few c.requires.measured.put
    (record { num = c.numbers_fit.ensures.num; den = c.numbers_fit.ensures.den; comment = c.numbers_fit.ensures.comment; tall = c.numbers_fit.ensures.tall; wide = c.numbers_fit.ensures.wide })
    hm c.in-Ok.ensures.few c.in-Ok.ensures.keys (c.bytes.ensures ∙ c.requires.measured.bytes_are) around c.if-is_too_long.ensures

pub returns-clause-made : goal.returns-clause-made
returns-clause-made g c =
    let set = c.args.fonts.now in
    let mag = c.args.mag in
    let w : Work = work_of c.args.doc.now set mag in
    let hm : FitsSigned w32 mag = search rules in
    let front = simp (to_z-of_z w32 mag hm) at c.in-Ok.ensures.bytes in
    let defs = c.in-Ok.ensures.definitions in
    let around : c.around.result ≡ length (spelled (front_commands w)) + length (spelled (definitions set)) = c.around.ensures ∙ (λ i. length (front i) + length (defs i)) in
    made c.args.walker.now.grid set c.args.doc.now c.args.pages.now mag c.bytes.result c.around.result c.requires.measured.ready c.requires.measured.few c.requires.measured.put
    (record { num = c.numbers_fit.ensures.num; den = c.numbers_fit.ensures.den; comment = c.numbers_fit.ensures.comment; tall = c.numbers_fit.ensures.tall; wide = c.numbers_fit.ensures.wide })
    hm c.in-Ok.ensures.few c.in-Ok.ensures.keys (c.bytes.ensures ∙ c.requires.measured.bytes_are) around c.if-is_too_long.ensures

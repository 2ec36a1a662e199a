use Rattle.std.proofs.Common.{◌≡◌, List, [], ◌∷◌, ℕ, ap, sym, ◌∙◌, subst}
use Rattle.dv_top.specs.Spoken.{SaysAll, says_more, says_none, says_one}
use Rattle.dv_top.specs.Warnings.{checksum_line, is_mismatched}
use Rattle.dv_top.proofs.Mismatched.{next_line, no_lines, same_lines}
use Rattle.dv_top.proofs.warnings.say_checksums.Goals as goal
use Rattle.dv_top.proofs.warnings.say_checksums.Goals.{then-is_mismatched, else-is_mismatched}

pub loop-number-init : goal.loop-number-init
loop-number-init g c =
    let seen = g.T.Tray.seen in
    subst (λ (ls : List (List ℕ)). SaysAll ls (seen c.args.tray.now) (seen c.args.tray.now)) (sym (no_lines c.args.fonts.now)) (says_none (seen c.args.tray.now))

pub loop-number-preserved : goal.loop-number-preserved
loop-number-preserved g c =
    let seen = g.T.Tray.seen in
    let set = c.args.fonts.now in
    let n = c.loop-number.number in
    let same : c.in-Some.id ≡ n = c.in-Some.ensures.0 in
    let test : c.is_mismatched.result ≡ is_mismatched set n = c.is_mismatched.ensures ∙ ap (is_mismatched set) same in
    elim c.if-is_mismatched.branch [
      | then-is_mismatched w ↦
          rw w.tray-is
          (subst (λ (ls : List (List ℕ)). SaysAll ls (seen c.args.tray.now) (seen w.say_checksum.new.tray)) (sym (next_line set n (sym test ∙ w.if-is_mismatched.true)))
          (says_more _ (checksum_line set n ∷ []) _ _ _ c.loop-number.invariant
          (subst (λ (k : ℕ). SaysAll (checksum_line set k ∷ []) (seen c.loop-number.tray) (seen w.say_checksum.new.tray)) same (says_one _ _ _ w.say_checksum.ensures))))
      | else-is_mismatched w ↦
          rw w.tray-is (subst (λ (ls : List (List ℕ)). SaysAll ls (seen c.args.tray.now) (seen c.loop-number.tray)) (sym (same_lines set n (sym test ∙ w.if-is_mismatched.false))) c.loop-number.invariant)
    ]

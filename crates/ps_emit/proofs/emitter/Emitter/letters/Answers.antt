use Rattle.std.proofs.Common.{refl, sym, ◌∙◌, subst, ◌+◌, [], ◌∷◌, arith}
use Rattle.std.specs.Prelude.{if◌then◌else◌}
use Rattle.sections.specs.Below.{those_below}
use Rattle.sections.specs.Used.{is_used}
use Rattle.ps_subset.specs.FontText.{letter_lines}
use Rattle.ps_emit.specs.Letters.{letters_of}
use Rattle.ps_emit.specs.Shown.{out_of, fonts_of, holds_more}
use Rattle.ps_emit.specs.Written.{Wrote, Cut, wrote_nothing, wrote_more, cut_later, cut_longer, cut_writes}
use Rattle.ps_emit.proofs.FontLines.{none_below, letters_next, letters_rest}
use Rattle.ps_emit.proofs.emitter.Emitter.letters.Goals as goal

pub loop-number-init : goal.loop-number-init
loop-number-init g c =
    let e = c.args.self.now in
    record {
      begun = c.requires.begun;
      given = c.requires.given;
      wrote = subst (λ cs. Wrote (letter_lines (letters_of (fonts_of e) c.args.id cs)) (out_of e) (out_of e)) (sym (none_below (is_used c.args.usage.now c.args.id))) (wrote_nothing (out_of e) e.fits);
      holds = record { loan_same = refl; fonts_same = refl; comments_same = refl; pass_same = refl };
      sheet = refl;
    }

pub loop-number-preserved : goal.loop-number-preserved
loop-number-preserved g c =
    let e = c.args.self.now in
    let inv = c.loop-number.invariant in
    let n = c.loop-number.number in
    let test = is_used c.args.usage.now c.args.id in
    let step = c.in_ok-used_letter.ensures in
    let fonts = inv.holds.fonts_same in
    let wrote : Wrote (letter_lines (letters_of (fonts_of e) c.args.id (if test n then (n ∷ []) else []))) (out_of c.loop-number.self) (out_of c.used_letter.new.self) =
    subst (λ set. Wrote (letter_lines (letters_of set c.args.id (if test n then (n ∷ []) else []))) (out_of c.loop-number.self) (out_of c.used_letter.new.self)) fonts step.writes in
    record {
      begun = rw (step.writes.keeps.begun_same) inv.begun;
      given = rw (step.holds.fonts_same) inv.given;
      wrote = subst (λ bs. Wrote bs (out_of e) (out_of c.used_letter.new.self)) (letters_next (fonts_of e) c.args.id test n) (wrote_more _ _ _ _ _ inv.wrote wrote);
      holds = holds_more _ _ _ inv.holds step.holds;
      sheet = step.sheet ∙ inv.sheet;
    }

pub returns-in_err-used_letter-clause-writes : goal.returns-in_err-used_letter-clause-writes
returns-in_err-used_letter-clause-writes g c =
    let e = c.args.self.now in
    let inv = c.loop-number.invariant in
    let n = c.loop-number.number in
    let test = is_used c.args.usage.now c.args.id in
    let fonts = inv.holds.fonts_same in
    let cut : Cut (letter_lines (letters_of (fonts_of e) c.args.id (if test n then (n ∷ []) else []))) (out_of c.loop-number.self) (out_of c.used_letter.new.self) =
    subst (λ set. Cut (letter_lines (letters_of set c.args.id (if test n then (n ∷ []) else []))) (out_of c.loop-number.self) (out_of c.used_letter.new.self)) fonts c.in_err-used_letter.ensures.writes in
    let front : Cut (letter_lines (letters_of (fonts_of e) c.args.id (those_below test (n + 1)))) (out_of e) (out_of c.used_letter.new.self) =
    subst (λ bs. Cut bs (out_of e) (out_of c.used_letter.new.self)) (letters_next (fonts_of e) c.args.id test n) (cut_later _ _ _ _ _ inv.wrote cut) in
    let rest = letters_rest (fonts_of e) c.args.id test (n + 1) 256 (omega (arith, c.loop-number-test.true)) in
    cut_writes _ _ _ _ c.from_residual.ensures.0 (subst (λ bs. Cut bs (out_of e) (out_of c.used_letter.new.self)) rest.1 (cut_longer _ rest.0 _ _ front))

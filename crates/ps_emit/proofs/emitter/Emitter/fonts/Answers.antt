use Rattle.std.proofs.Common.{refl, sym, ◌∙◌, subst, ◌+◌, [], ◌∷◌, length, ℕ, arith}
use Rattle.std.specs.Prelude.{if◌then◌else◌}
use Rattle.sections.specs.Below.{any_below, those_below}
use Rattle.sections.specs.Used.{is_used}
use Rattle.ps_subset.specs.FontText.{fonts_lines}
use Rattle.ps_emit.specs.Letters.{some_fonts}
use Rattle.ps_emit.specs.Shown.{out_of, fonts_of, holds_more}
use Rattle.ps_emit.specs.Written.{Wrote, Cut, wrote_nothing, wrote_more, cut_later, cut_longer, cut_writes}
use Rattle.ps_emit.proofs.FontLines.{none_below, fonts_next, fonts_rest}
use Rattle.ps_emit.proofs.emitter.Emitter.fonts.Goals as goal

pub loop-number-init : goal.loop-number-init
loop-number-init g c =
    let e = c.args.self.now in
    let used = is_used c.args.usage.now in
    record {
      begun = c.requires.begun;
      same = c.requires.same;
      wrote = subst (λ cs. Wrote (fonts_lines (some_fonts (fonts_of e) used cs)) (out_of e) (out_of e)) (sym (none_below (λ id. any_below (used id) 256))) (wrote_nothing (out_of e) e.fits);
      holds = record { loan_same = refl; fonts_same = refl; comments_same = refl; pass_same = refl };
      sheet = refl;
    }

pub loop-number-preserved : goal.loop-number-preserved
loop-number-preserved g c =
    let e = c.args.self.now in
    let inv = c.loop-number.invariant in
    let n = c.loop-number.number in
    let used = is_used c.args.usage.now in
    let test = λ (id : ℕ). any_below (used id) 256 in
    let step = c.in_ok-used_font.ensures in
    let fonts = inv.holds.fonts_same in
    let wrote : Wrote (fonts_lines (some_fonts (fonts_of e) used (if test n then (n ∷ []) else []))) (out_of c.loop-number.self) (out_of c.used_font.new.self) =
    subst (λ set. Wrote (fonts_lines (some_fonts set used (if test n then (n ∷ []) else []))) (out_of c.loop-number.self) (out_of c.used_font.new.self)) fonts step.writes in
    record {
      begun = rw (step.writes.keeps.begun_same) inv.begun;
      same = rw (step.holds.fonts_same) inv.same;
      wrote = subst (λ bs. Wrote bs (out_of e) (out_of c.used_font.new.self)) (fonts_next (fonts_of e) used test n) (wrote_more _ _ _ _ _ inv.wrote wrote);
      holds = holds_more _ _ _ inv.holds step.holds;
      sheet = step.sheet ∙ inv.sheet;
    }

pub returns-in_err-used_font-clause-writes : goal.returns-in_err-used_font-clause-writes
returns-in_err-used_font-clause-writes g c =
    let e = c.args.self.now in
    let inv = c.loop-number.invariant in
    let n = c.loop-number.number in
    let used = is_used c.args.usage.now in
    let test = λ (id : ℕ). any_below (used id) 256 in
    let fonts = inv.holds.fonts_same in
    let cut : Cut (fonts_lines (some_fonts (fonts_of e) used (if test n then (n ∷ []) else []))) (out_of c.loop-number.self) (out_of c.used_font.new.self) =
    subst (λ set. Cut (fonts_lines (some_fonts set used (if test n then (n ∷ []) else []))) (out_of c.loop-number.self) (out_of c.used_font.new.self)) fonts c.in_err-used_font.ensures.writes in
    let front : Cut (fonts_lines (some_fonts (fonts_of e) used (those_below test (n + 1)))) (out_of e) (out_of c.used_font.new.self) =
    subst (λ bs. Cut bs (out_of e) (out_of c.used_font.new.self)) (fonts_next (fonts_of e) used test n) (cut_later _ _ _ _ _ inv.wrote cut) in
    let rest = fonts_rest (fonts_of e) used test (n + 1) (length (fonts_of e).fonts) (omega (arith, c.loop-number-test.true, c.count-count.ensures.value)) in
    cut_writes _ _ _ _ c.from_residual.ensures.0 (subst (λ bs. Cut bs (out_of e) (out_of c.used_font.new.self)) rest.1 (cut_longer _ rest.0 _ _ front))

use Rattle.std.proofs.Common.{◌≡◌, ◌++◌, ◌∷◌, [], ℕ, length, get_or, max, arith, refl, sym, ap, ◌∙◌, pos, to_z, of_z, w64, rules}
use Rattle.std.proofs.lemmas.List.{get_or_default}
use Rattle.dv_words.specs.Selection.{keeps}
use Rattle.dv_words.proofs.Kept.{kept_one, kept_outside, kept_other, kept_all}
use Rattle.dv_words.proofs.Reach.{far_below-zero, stop_step, is_outside, is_inside}
use Rattle.dv_words.proofs.selection.kept.Goals as goal

pub loop-place-init : goal.loop-place-init
loop-place-init c = record { kept = rw c.new-places.ensures.items refl; reach = sym (far_below-zero c.args.spans.now) }

pub loop-place-preserved-then-stop-place : goal.loop-place-preserved-then-stop-place
loop-place-preserved-then-stop-place c =
    let p = c.loop-place.place in
    let value : c.larger-stop.result ≡ max (get_or c.in_ok-far.far.items p 0) c.loop-place.stop =
    c.larger-stop.ensures ∙ ap (λ (m : ℕ). max m c.loop-place.stop) (c.index.ensures ∙ get_or_default c.in_ok-far.far.items p c.index.result.now 0 (omega (arith, c.in_ok-far.ensures.long, c.loop-place-test.true))) in
    record {
      kept =
          kept_outside c.args.numbers.now c.args.spans.now c.args.parity p c.loop-place.places.items c.loop-place-test.true c.loop-place.invariant.kept
          (is_outside (length c.args.numbers.now) c.args.spans.now c.in_ok-far.far.items c.in_ok-far.ensures p c.loop-place.stop c.loop-place-test.true c.loop-place.invariant.reach (omega (arith, value, c.if-stop-place.true)));
      reach = value ∙ stop_step (length c.args.numbers.now) c.args.spans.now c.in_ok-far.far.items c.in_ok-far.ensures p c.loop-place.stop c.loop-place-test.true c.loop-place.invariant.reach;
    }

pub loop-place-preserved-then-not-keeps : goal.loop-place-preserved-then-not-keeps
loop-place-preserved-then-not-keeps c =
    let same : to_z w64 (of_z w64 (get_or c.args.numbers.now c.loop-place.place (pos 0))) ≡ get_or c.args.numbers.now c.loop-place.place (pos 0) = search rules in
    let p = c.loop-place.place in
    let value : c.larger-stop.result ≡ max (get_or c.in_ok-far.far.items p 0) c.loop-place.stop =
    c.larger-stop.ensures ∙ ap (λ (m : ℕ). max m c.loop-place.stop) (c.index.ensures ∙ get_or_default c.in_ok-far.far.items p c.index.result.now 0 (omega (arith, c.in_ok-far.ensures.long, c.loop-place-test.true))) in
    record {
      kept =
          kept_other c.args.numbers.now c.args.spans.now c.args.parity p c.loop-place.places.items c.loop-place-test.true c.loop-place.invariant.kept
          (is_inside (length c.args.numbers.now) c.args.spans.now c.in_ok-far.far.items c.in_ok-far.ensures p c.loop-place.stop c.loop-place-test.true c.loop-place.invariant.reach (omega (arith, value, c.if-stop-place.false)))
          (ap (keeps c.args.parity) (sym same) ∙ sym c.keeps.ensures ∙ c.if-not-keeps.true);
      reach = value ∙ stop_step (length c.args.numbers.now) c.args.spans.now c.in_ok-far.far.items c.in_ok-far.ensures p c.loop-place.stop c.loop-place-test.true c.loop-place.invariant.reach;
    }

pub loop-place-preserved : goal.loop-place-preserved
loop-place-preserved c =
    let same : to_z w64 (of_z w64 (get_or c.args.numbers.now c.loop-place.place (pos 0))) ≡ get_or c.args.numbers.now c.loop-place.place (pos 0) = search rules in
    let p = c.loop-place.place in
    let value : c.larger-stop.result ≡ max (get_or c.in_ok-far.far.items p 0) c.loop-place.stop =
    c.larger-stop.ensures ∙ ap (λ (m : ℕ). max m c.loop-place.stop) (c.index.ensures ∙ get_or_default c.in_ok-far.far.items p c.index.result.now 0 (omega (arith, c.in_ok-far.ensures.long, c.loop-place-test.true))) in
    let pushed : c.push_place.new.places.items ≡ c.loop-place.places.items ++ p ∷ [] = c.in_ok-push_place.ensures in
    record {
      kept =
          rw pushed (kept_one c.args.numbers.now c.args.spans.now c.args.parity p c.loop-place.places.items c.loop-place-test.true c.loop-place.invariant.kept
          (is_inside (length c.args.numbers.now) c.args.spans.now c.in_ok-far.far.items c.in_ok-far.ensures p c.loop-place.stop c.loop-place-test.true c.loop-place.invariant.reach (omega (arith, value, c.if-stop-place.false)))
          (ap (keeps c.args.parity) (sym same) ∙ sym c.keeps.ensures ∙ c.if-not-keeps.false));
      reach = value ∙ stop_step (length c.args.numbers.now) c.args.spans.now c.in_ok-far.far.items c.in_ok-far.ensures p c.loop-place.stop c.loop-place-test.true c.loop-place.invariant.reach;
    }

pub returns : goal.returns
returns c = kept_all c.args.numbers.now c.args.spans.now c.args.parity c.loop-place.place c.loop-place.places.items c.loop-place-test.false c.loop-place.invariant.kept

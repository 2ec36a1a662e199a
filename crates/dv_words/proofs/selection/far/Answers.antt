use Rattle.std.proofs.Common.{◌≡◌, ℕ, get_or, take, max, arith, ap, ◌∙◌}
use Rattle.std.proofs.lemmas.List.{get_or_default, take_more}
use Rattle.dv_words.specs.declared.spans.Span.{Span}
use Rattle.dv_words.proofs.Reach.{far_more, far_same}
use Rattle.dv_words.proofs.selection.far.Goals as goal

pub loop-span-preserved-then-count-span : goal.loop-span-preserved-then-count-span
loop-span-preserved-then-count-span c =
    let none : Span = record { start = 0; stop = 0 } in
    rw (take_more c.args.spans.now c.loop-span.span-index none c.loop-span-test.true)
    (far_same c.args.count (take c.loop-span.span-index c.args.spans.now) (get_or c.args.spans.now c.loop-span.span-index none) c.loop-span.far.items c.loop-span.invariant c.if-count-span.true)

pub loop-span-preserved : goal.loop-span-preserved
loop-span-preserved c =
    let none : Span = record { start = 0; stop = 0 } in
    let s = get_or c.args.spans.now c.loop-span.span-index none in
    let value : c.larger.result ≡ max (get_or c.loop-span.far.items s.start 0) s.stop =
    c.larger.ensures ∙ ap (λ (m : ℕ). max m s.stop) (c.index.ensures ∙ get_or_default c.loop-span.far.items s.start c.index.result.now 0 (omega (arith, c.loop-span.invariant.long, c.if-count-span.false))) in
    rw (take_more c.args.spans.now c.loop-span.span-index none c.loop-span-test.true, value)
    (far_more c.args.count (take c.loop-span.span-index c.args.spans.now) s c.loop-span.far.items c.loop-span.invariant c.if-count-span.false)

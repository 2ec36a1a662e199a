use Rattle.std.proofs.Common.{◌≡◌, ℕ, length, arith, sym, ap, ◌∙◌}
use Rattle.dv_words.specs.Selection.{times}
use Rattle.dv_words.proofs.Kept.{repeated_none, repeated_all, repeated_many, times-push}
use Rattle.dv_words.proofs.selection.repeated.Goals as goal

pub returns-then-is_empty-clause-places : goal.returns-then-is_empty-clause-places
returns-then-is_empty-clause-places c =
    let none : length c.args.places.items ≡ 0 = grind arith in
    repeated_none c.args.collated c.args.places.items none

pub returns-then-not-may_repeat-clause-fault : goal.returns-then-not-may_repeat-clause-fault
returns-then-not-may_repeat-clause-fault c = repeated_many c.args.collated c.args.places.items (rw c.deref.ensures.value at (sym c.if-not-may_repeat.ensures))

pub loop-round-init : goal.loop-round-init
loop-round-init c = c.new-all.ensures.items

pub loop-round-preserved : goal.loop-round-preserved
loop-round-preserved c =
    c.in_ok-append.ensures ∙ rw (c.deref-in-loop-round.ensures.value, c.loop-round.invariant) (times-push c.loop-round._round c.args.places.items)

pub returns-clause-places : goal.returns-clause-places
returns-clause-places c =
    let all : c.loop-round._round ≡ c.args.collated = omega arith in
    repeated_all c.args.collated c.args.places.items c.loop-round.all.items (rw c.deref.ensures.value at (sym c.if-not-may_repeat.ensures)) (c.loop-round.invariant ∙ ap (λ (n : ℕ). times n c.args.places.items) all)

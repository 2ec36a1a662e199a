-- Where so many pages were walked over that no number is left for another, the slots are emptied.
use Rattle.std.proofs.Common.{arith, rules}
use Rattle.std.specs.Prelude.{vec_len}
use Rattle.vf_expand.specs.Past.{AreOfPages, AreStartsOfPages}
use Rattle.vf_expand.proofs.Kept.{none_met, none_started, later_met, later_started, not_met, not_started}
use Rattle.vf_expand.proofs.met.Glyphs.clear.Goals as goal

met : (c : goal.After-fill-then-self) → AreOfPages 0 c.fill.new.self.items
met c = none_met (vec_len c.args.self.now.met) c.nothing.result c.fill.new.self.items c.nothing.ensures (c.fill.ensures.items (λ y e. search rules))

started : (c : goal.After-fill-then-self) → AreStartsOfPages 0 c.fill-then-self.new.self.items
started c = none_started (vec_len c.args.self.now.starts) c.fill-then-self.new.self.items (c.fill-then-self.ensures.items (λ y e. search rules))

pub invariant_of-self : goal.invariant_of-self
invariant_of-self c = record {
  begun = omega arith;
  slots = search rules;
  few = search rules;
  past = later_met 0 1 c.fill.new.self.items (omega arith) (met c);
  starts_past = later_started 0 1 c.fill-then-self.new.self.items (omega arith) (started c);
}

pub returns-then-self : goal.returns-then-self
returns-then-self c = λ g set. record {
  each = not_met g set 1 0 c.fill.new.self.items (omega arith) (met c.before);
  starts = not_started set 1 0 c.fill-then-self.new.self.items (omega arith) (started c.before);
}

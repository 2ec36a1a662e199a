use Rattle.std.proofs.Common.{◌≡◌, ◌+◌, ◌-◌, ◌*◌, ◌/◌, length, ap, ◌∙◌, inl, inr, arith}
use Rattle.std.proofs.lemmas.Bool.{cases_lt}
use Rattle.bit_lanes.specs.Bits.{bit}
use Rattle.bit_lanes.proofs.Cleared.{in_front, in_back}
use Rattle.bit_lanes.proofs.behind.clear_behind.Goals as goal

pub returns-clause-front : goal.returns-clause-front
returns-clause-front c i h =
    let n = c.div_ceil.result in
    let m = c.clear_in_byte.new.to in
    let up : n ≡ (c.args.width + 7) / 8 = omega arith in
    ap (λ xs. bit xs i) c.clear_bytes.ensures ∙ in_front n (length m - n) m (omega arith) i (omega (arith, h, up)) ∙ c.clear_in_byte.ensures.front i h

pub returns-clause-behind : goal.returns-clause-behind
returns-clause-behind c i h =
    let n = c.div_ceil.result in
    let m = c.clear_in_byte.new.to in
    let up : n ≡ (c.args.width + 7) / 8 = omega arith in
    ap (λ xs. bit xs i) c.clear_bytes.ensures ∙ elim (cases_lt i (8 * n)) [
      | inl a ↦ in_front n (length m - n) m (omega arith) i a ∙ c.clear_in_byte.ensures.behind i h (omega (arith, up, a))
      | inr a ↦ in_back n (length m - n) m (omega arith) i a
    ]

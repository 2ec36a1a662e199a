use Rattle.std.proofs.Common.{◌≡◌, ℕ, ◌*◌, ◌/◌, ◌%◌, ◌^◌, ◌-◌, refl, sym, ap, ◌∙◌, bit_or, rules}
use Rattle.std.specs.Int.{bit_at}
use Rattle.bit_lanes.proofs.Joined.{joined, joined_bit}
use Rattle.bit_lanes.proofs.window.window.Goals as goal

opened : (h l s : ℕ) → joined h l s ≡ bit_or (h * 2 ^ s % 256) (l / 2 / 2 ^ (7 - s))
unfolding joined
opened h l s = refl

pub returns : goal.returns
returns c j h =
    ap (λ n. bit_at n (7 - j)) (sym (opened c.args.high c.args.low c.args.shift)) ∙ joined_bit c.args.high c.args.low c.args.shift j (search rules) c.requires h

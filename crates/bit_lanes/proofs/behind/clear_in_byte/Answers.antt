use Rattle.std.proofs.Common.{arith}
use Rattle.bit_lanes.proofs.Cleared.{byte_front, byte_behind}
use Rattle.bit_lanes.proofs.behind.clear_in_byte.Goals as goal

pub returns-then-width-gt0-clause-front : goal.returns-then-width-gt0-clause-front
returns-then-width-gt0-clause-front c i h = byte_front c.args.to.now c.args.width c.front_bits.result (omega arith) c.front_bits.ensures.front i h

pub returns-then-width-gt0-clause-behind : goal.returns-then-width-gt0-clause-behind
returns-then-width-gt0-clause-behind c i h l = byte_behind c.args.to.now c.args.width c.front_bits.result (omega arith) c.front_bits.ensures.behind i h (omega (arith, h, l))

use Rattle.std.proofs.Common.{◌<◌, ℕ, get_or}
use Rattle.bit_lanes.proofs.Lanes.{laid}
use Rattle.bit_lanes.proofs.align.lay_lanes.Goals as goal

pub returns-clause-shown : goal.returns-clause-shown
returns-clause-shown c =
    let small : (k : ℕ) → get_or c.args.from.now k 0 < 256 = λ k. (c.type_inv.from k).fits in
    laid c.args.from.now c.args.shift c.args.at c.args.to.now c.requires.shift c.requires.held c.requires.room small c.requires.shown

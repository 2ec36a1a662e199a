-- The size of the length is rounded, and the sign put back.
use Rattle.std.proofs.Common.{◌≡◌, arith}
use Rattle.std.specs.Prelude.{unsigned_abs}
use Rattle.std.proofs.lemmas.Int.{ints, to_z-of_z}
use Rattle.dv_base.proofs.Conversions.{kept, kept-fine, round_below, round_above, rounds}
use Rattle.dv_base.proofs.conv.Conv.round.Goals as goal

pub returns-then-x-lt0 : goal.returns-then-x-lt0
returns-then-x-lt0 c =
    let f = kept c.self.inside.top c.self.inside.bottom in
    let fine = kept-fine _ _ c.self.invariant in
    let size : c.from-length.result ≡ unsigned_abs c.args.x = grind (arith, to_z-of_z) in
    let all = rounds f c.args.self.now c.self.view_is fine c.args.x _ (round_below f fine c.args.x c.from-length.result c.quotient-pixels.result c.quotient-pixels.ensures c.requires size (omega (arith, ints))) in
    record { value = all.0; nearest = all.1; fine = all.2; bound = all.3 }

pub returns-else-x-lt0 : goal.returns-else-x-lt0
returns-else-x-lt0 c =
    let f = kept c.self.inside.top c.self.inside.bottom in
    let fine = kept-fine _ _ c.self.invariant in
    let size : c.from-length.result ≡ unsigned_abs c.args.x = grind (arith, to_z-of_z) in
    let all = rounds f c.args.self.now c.self.view_is fine c.args.x _ (round_above f fine c.args.x c.from-length.result c.quotient-pixels.result c.quotient-pixels.ensures c.requires size (omega (arith, ints))) in
    record { value = all.0; nearest = all.1; fine = all.2; bound = all.3 }

-- The size of the length is divided, and the sign put back.
use Rattle.std.proofs.Common.{◌≡◌, arith}
use Rattle.std.specs.Prelude.{unsigned_abs}
use Rattle.std.proofs.lemmas.Int.{ints, to_z-of_z}
use Rattle.dv_base.proofs.Conversions.{kept, kept-fine, ceil_below, ceil_above, ceils, ceil_some}
use Rattle.dv_base.proofs.conv.Conv.ceil.Goals as goal

pub returns-then-x-lt0 : goal.returns-then-x-lt0
returns-then-x-lt0 c =
    let f = kept c.self.inside.top c.self.inside.bottom in
    let fine = kept-fine _ _ c.self.invariant in
    let size : c.from-length.result ≡ unsigned_abs c.args.x = grind (arith, to_z-of_z) in
    let all = ceils f c.args.self.now c.self.view_is fine c.args.x _ (ceil_below f fine c.args.x c.from-length.result c.quotient.result c.quotient.ensures c.requires size (omega (arith, ints))) in
    record { value = all.0; least = all.1; fine = all.2; bound = all.3; some = ceil_some _ _ c.args.self.now c.self.view_is c.self.invariant c.args.x _ all.1 }

pub returns-else-x-lt0 : goal.returns-else-x-lt0
returns-else-x-lt0 c =
    let f = kept c.self.inside.top c.self.inside.bottom in
    let fine = kept-fine _ _ c.self.invariant in
    let size : c.from-length.result ≡ unsigned_abs c.args.x = grind (arith, to_z-of_z) in
    let all = ceils f c.args.self.now c.self.view_is fine c.args.x _ (ceil_above f fine c.args.x c.from-length.result c.quotient-else-x-lt0.result c.quotient-else-x-lt0.ensures c.requires size (omega (arith, ints))) in
    record { value = all.0; least = all.1; fine = all.2; bound = all.3; some = ceil_some _ _ c.args.self.now c.self.view_is c.self.invariant c.args.x _ all.1 }

use Rattle.std.proofs.Common.{arith, ◌≡◌, ◌*◌, ℕ, length}
use Rattle.std.proofs.lemmas.List.{nil_from_length}
use Rattle.std.proofs.lemmas.Bool.Decides.{nat_tests}
use Rattle.pk_raster.proofs.Drawn.{blank_drawn}
use Rattle.pk_raster.proofs.glyph.draw.Goals as goal
use Rattle.pk_raster.proofs.glyph.draw.Goals.{then-sizes-eq0-via-then-sizes-eq0, then-sizes-eq0-via-else-sizes-eq0+then-sizes-eq0-2}

no_width : (w h : ℕ) → w ≡ 0 → h * w ≡ 0
no_width w h e = grind (arith, e)

no_height : (w h : ℕ) → h ≡ 0 → h * w ≡ 0
no_height w h e = grind (arith, e)

pub returns-then-is_empty-clause-found : goal.returns-then-is_empty-clause-found
returns-then-is_empty-clause-found c =
    let w = c.args.sizes.now.w in
    let h = c.args.sizes.now.h in
    let z : h * w ≡ 0 = elim c.then-sizes-eq0.branch [ then-sizes-eq0-via-then-sizes-eq0 b ↦ no_width w h b.if-sizes-eq0.true | then-sizes-eq0-via-else-sizes-eq0+then-sizes-eq0-2 b ↦ no_height w h b.if-sizes-eq0-2.true ] in
    let n : length c.args.raster.now ≡ 0 = grind (arith, nat_tests) in
    blank_drawn c.args.flag w h c.args.raster.now c.new.result.items z (nil_from_length c.args.raster.now n) c.new.ensures.items

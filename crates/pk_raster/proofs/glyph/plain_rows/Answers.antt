use Rattle.std.proofs.Common.{◌∙◌, ap, ◌*◌, rules, length, ◌≡◌}
use Rattle.std.specs.List.{flat_map}
use Rattle.pk_raster.specs.Bits.{padded}
use Rattle.pk_raster.specs.Glyph.{stride}
use Rattle.pk_raster.proofs.Drawn.{few_pixels}
use Rattle.pk_raster.proofs.glyph.plain_rows.Goals as goal

pub plain-requires-clause-limit : goal.plain-requires-clause-limit
plain-requires-clause-limit c = few_pixels c.args.w c.args.h c.requires.small

pub returns-clause-found : goal.returns-clause-found
returns-clause-found c =
    let f = c.in_ok-plain.ensures.found in
    let e : length c.deref_mut.result.now ≡ stride c.args.w = search rules in
    (f.0, f.1, f.2 ∙ ap (λ k. flat_map (padded (8 * k)) f.0) e)

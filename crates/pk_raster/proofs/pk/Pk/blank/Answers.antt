use Rattle.std.proofs.Common.{rules, ◌≡◌, ap}
use Rattle.std.specs.Prelude.{replicate}
use Rattle.pk_raster.specs.declared.pk.Entry.TheVariants as entry
use Rattle.pk_raster.proofs.Kept.{none_kept}
use Rattle.pk_raster.proofs.pk.Pk.blank.Goals as goal

pub returns : goal.returns
returns c =
    let e : c.in_ok-vec.field-0.items ≡ replicate 256 entry.None = search rules in
    ap (λ gs. record { checksum = c.args.checksum; glyphs = gs }) (none_kept c.new.result.items c.in_ok-vec.field-0.items e)

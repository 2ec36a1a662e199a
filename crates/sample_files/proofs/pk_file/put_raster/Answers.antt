use Rattle.std.proofs.Common.{[], ◌∷◌}
use Rattle.sample_files.specs.Bitmaps.{raster}
use Rattle.sample_files.proofs.Counts.{begun, grown, raster_more, raster_none}
use Rattle.sample_files.proofs.pk_file.put_raster.Goals as goal

pub loop-place-init : goal.loop-place-init
loop-place-init c = begun _ _ (raster_none _)

pub loop-place-preserved : goal.loop-place-preserved
loop-place-preserved c =
    grown _ (raster c.args.glyph c.loop-place.place) (c.octet.result ∷ []) _ _ _ c.loop-place.invariant c.in_ok-push.ensures.items
    (let e = raster_more c.args.glyph c.loop-place.place in cc)

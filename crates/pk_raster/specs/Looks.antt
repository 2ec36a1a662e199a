-- What a look at a font answers.
use Rattle.std.specs.Prelude.{◌≡◌, ℕ}
use Rattle.pk_raster.specs.Font.{Font, Known, glyph_at}
use Rattle.pk_raster.specs.Font.Known.{Nothing, Large, Bits}
use Rattle.pk_raster.specs.declared.pk.Look.{Look}
use Rattle.pk_raster.specs.declared.pk.Look.TheVariants as look

abbrev pub told : Look → Known
told look.None = Nothing
told (look.TooBig bytes) = Large bytes
told (look.Here g) = Bits (record { w = g.w; h = g.h; hoff = g.hoff; voff = g.voff; rows = g.rows.now })

-- The look tells what the font has for the code.
abbrev pub Shows : Look → Font → ℕ → Type 0
Shows answer font code = told answer ≡ glyph_at font code

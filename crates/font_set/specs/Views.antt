-- What contracts see of keys and glyphs of the code.
use Rattle.dv_base.specs.FileName.{text_of}
use Rattle.dvi_doc.specs.declared.font.FontKey.{FontKey}
use Rattle.pk_raster.specs.Font.{Bitmap}
use Rattle.pk_raster.specs.declared.pk.Glyph.{Glyph}
use Rattle.font_set.specs.Key.{Key}
use Rattle.font_set.specs.Fonts.{State}
use Rattle.font_set.specs.declared.want.Kind.{Kind}
use Rattle.font_set.specs.declared.want.Kind.TheVariants as kind

abbrev pub key_of : FontKey → Key
key_of k = record { name = text_of k.name; checksum = k.checksum; size = k.size; design = k.design }

abbrev pub kind_of : State → Kind
kind_of State.Known = kind.Known
kind_of (State.Real tfm pk) = kind.Real
kind_of (State.Virtual tfm vf) = kind.Virtual

abbrev pub bitmap_of : Glyph → Bitmap
bitmap_of g = record { w = g.w; h = g.h; hoff = g.hoff; voff = g.voff; rows = g.rows.now }

-- Which outcome tells of a fault: it has the fault's name and its fields, with the names of fonts in place of their numbers.
use Rattle.std.specs.Prelude.{◌≡◌, ℕ}
use Rattle.dv_base.specs.FileName.{text_of}
use Rattle.dv_base.specs.declared.font_id.Spot.{Spot}
use Rattle.dv_base.specs.declared.font_id.Spot.TheVariants as spot
use Rattle.dv_base.specs.declared.name.FileName.{FileName}
use Rattle.dv_base.specs.declared.site.Site.{Site}
use Rattle.dv_base.specs.declared.site.Site.TheVariants as site
use Rattle.positions.specs.declared.canvas.NoFault.{NoFault}
use Rattle.font_set.specs.Fonts.{FontSet, key_at}
use Rattle.font_set.specs.declared.fault.FontFault.{FontFault}
use Rattle.font_set.specs.declared.fault.FontFault.TheVariants as font
use Rattle.font_set.specs.declared.fault.LoadFault.{LoadFault}
use Rattle.font_set.specs.declared.fault.LoadFault.TheVariants as load
use Rattle.vf_expand.specs.declared.fault.WalkFault.{WalkFault}
use Rattle.vf_expand.specs.declared.fault.WalkFault.TheVariants as walk
use Rattle.dv_top.specs.declared.outcome.Outcome.{Outcome}
use Rattle.dv_top.specs.declared.outcome.Outcome.TheVariants as outcome

-- this is the name of the font with that number
abbrev pub IsNameOf : FontSet → ℕ → FileName → Type 0
IsNameOf set id name = text_of name ≡ (key_at set id).name

-- the site is the same place as the spot
abbrev pub SamePlace : FontSet → Spot → Site → Type 0
SamePlace set (spot.Page at) (site.Page place) = at ≡ place
SamePlace set (spot.Packet id code at) (site.Packet font char place) = IsNameOf set id font × (code ≡ char) × (at ≡ place)
SamePlace set _ _ = ⊥

-- (want of memory is told by an outcome of its own)
abbrev pub FontTells : FontFault → Outcome → Type 0
FontTells (font.Missing file) (outcome.Missing name) = name ≡ file
FontTells (font.FileTooLong file) (outcome.FileTooLong name) = name ≡ file
FontTells (font.ReadFault file) (outcome.ReadFault name) = name ≡ file
FontTells (font.Tfm file e) (outcome.BadTfm name kind) = (name ≡ file) × (kind ≡ e)
FontTells (font.Pk file e) (outcome.BadPk name kind) = (name ≡ file) × (kind ≡ e)
FontTells (font.Vf file e) (outcome.BadVf name kind) = (name ≡ file) × (kind ≡ e)
FontTells font.TooManyFonts outcome.TooManyFonts = Unit {0}
FontTells (font.BadSize parts) (outcome.BadSize name size design) = (name ≡ parts.name) × (size ≡ parts.size) × (design ≡ parts.design)
FontTells font.RasterSpace outcome.RasterSpace = Unit {0}
FontTells font.OutOfMemory outcome.OutOfMemory = Unit {0}
FontTells _ _ = ⊥

abbrev pub LoadTells : FontSet → LoadFault → Outcome → Type 0
LoadTells set (load.UndefinedFont spot) (outcome.UndefinedFont site) = SamePlace set spot site
LoadTells set (load.NoFont spot) (outcome.NoFont site) = SamePlace set spot site
LoadTells set (load.NoChar id z) (outcome.NoChar font code) = IsNameOf set id font × (code ≡ z)
LoadTells set (load.NoPacket id c) (outcome.NoPacket font code) = IsNameOf set id font × (code ≡ c)
LoadTells set (load.NoGlyph id c) (outcome.NoGlyph font code) = IsNameOf set id font × (code ≡ c)
LoadTells set (load.GlyphTooBig id c n) (outcome.GlyphTooBig font code bytes) = IsNameOf set id font × (code ≡ c) × (bytes ≡ n)
LoadTells set (load.Font f) o = FontTells f o
LoadTells set _ _ = ⊥

abbrev pub WalkTells : FontSet → WalkFault NoFault → Outcome → Type 0
WalkTells set (walk.StackUnder spot) (outcome.StackUnder site) = SamePlace set spot site
WalkTells set (walk.StackLeft spot) (outcome.StackLeft site) = SamePlace set spot site
WalkTells set (walk.StackDeep spot) (outcome.StackDeep site) = SamePlace set spot site
WalkTells set (walk.Overflow spot) (outcome.Overflow site) = SamePlace set spot site
WalkTells set (walk.NestDeep id c) (outcome.NestDeep font code) = IsNameOf set id font × (code ≡ c)
WalkTells set walk.TooManySteps outcome.TooManySteps = Unit {0}
WalkTells set _ _ = ⊥

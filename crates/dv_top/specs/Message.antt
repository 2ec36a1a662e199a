-- The line that a run says of an outcome: its name, and each of its fields behind a space.
use Rattle.std.specs.Prelude.{ℕ, List, ◌∷◌, ◌++◌, Option, Some, None, codes, decimal}
use Rattle.std.specs.Fmt.{signed_decimal}
use Rattle.std.specs.Option.{option_map}
use Rattle.dv_base.specs.FileName.{text_of}
use Rattle.dv_base.specs.declared.site.Site.{Site}
use Rattle.dv_base.specs.declared.site.Site.TheVariants as site
use Rattle.dv_base.specs.declared.units.Units.{Units}
use Rattle.dvi_doc.specs.declared.fault.DocFault.{DocFault}
use Rattle.dvi_doc.specs.declared.fault.DocFault.TheVariants as fault
use Rattle.tfm_widths.specs.declared.fault.TfmFault.{TfmFault}
use Rattle.tfm_widths.specs.declared.fault.TfmFault.TheVariants as tfm
use Rattle.pk_raster.specs.declared.fault.PkFault.{PkFault}
use Rattle.pk_raster.specs.declared.fault.PkFault.TheVariants as pk
use Rattle.vf_packets.specs.declared.fault.VfFault.{VfFault}
use Rattle.vf_packets.specs.declared.fault.VfFault.TheVariants as vf
use Rattle.dv_top.specs.declared.outcome.Outcome.{Outcome}
use Rattle.dv_top.specs.declared.outcome.Outcome.TheVariants as outcome

-- a name and numbers
abbrev pub named : List ℕ → List ℕ → List ℕ
named name value = name ++ 32 ∷ value

abbrev pub fault_text : DocFault → List ℕ
fault_text fault.NoPreamble = codes "NoPreamble"
fault_text (fault.BadId at) = named (codes "BadId") (decimal at)
fault_text fault.NoTrailer = codes "NoTrailer"
fault_text (fault.BadPostPointer at) = named (codes "BadPostPointer") (decimal at)
fault_text (fault.BadBackPointer at) = named (codes "BadBackPointer") (decimal at)
fault_text (fault.BadOrder at) = named (codes "BadOrder") (decimal at)
fault_text (fault.Undefined at) = named (codes "Undefined") (decimal at)
fault_text (fault.Short at) = named (codes "Short") (decimal at)
fault_text (fault.FontTwice k) = named (codes "FontTwice") (signed_decimal k)
fault_text (fault.FontDiffers k) = named (codes "FontDiffers") (signed_decimal k)
fault_text (fault.BadName k) = named (codes "BadName") (signed_decimal k)
fault_text (fault.BadSize k) = named (codes "BadSize") (signed_decimal k)
fault_text (fault.PageCount found told) = named (codes "PageCount") (named (decimal found) (decimal told))
fault_text fault.PostDiffers = codes "PostDiffers"
fault_text fault.OutOfMemory = codes "OutOfMemory"

abbrev pub tfm_text : TfmFault → List ℕ
tfm_text tfm.Short = codes "Short"
tfm_text tfm.BadLengths = codes "BadLengths"
tfm_text (tfm.BadWidth i) = named (codes "BadWidth") (decimal i)
tfm_text (tfm.BadIndex c) = named (codes "BadIndex") (decimal c)
tfm_text tfm.OutOfMemory = codes "OutOfMemory"

abbrev pub pk_text : PkFault → List ℕ
pk_text pk.BadPreamble = codes "BadPreamble"
pk_text (pk.Undefined at) = named (codes "Undefined") (decimal at)
pk_text (pk.Short at) = named (codes "Short") (decimal at)
pk_text pk.NoPost = codes "NoPost"
pk_text (pk.Twice c) = named (codes "Twice") (decimal c)
pk_text (pk.BadLength c) = named (codes "BadLength") (decimal c)
pk_text (pk.RunsShort c) = named (codes "RunsShort") (decimal c)
pk_text (pk.RunsPast c) = named (codes "RunsPast") (decimal c)
pk_text (pk.RepeatTwice c) = named (codes "RepeatTwice") (decimal c)
pk_text pk.Space = codes "Space"
pk_text pk.OutOfMemory = codes "OutOfMemory"

abbrev pub vf_text : VfFault → List ℕ
vf_text vf.BadPreamble = codes "BadPreamble"
vf_text (vf.BadOrder at) = named (codes "BadOrder") (decimal at)
vf_text (vf.Short at) = named (codes "Short") (decimal at)
vf_text (vf.BadOp c) = named (codes "BadOp") (decimal c)
vf_text (vf.Twice c) = named (codes "Twice") (decimal c)
vf_text (vf.FontTwice k) = named (codes "FontTwice") (signed_decimal k)
vf_text (vf.BadName k) = named (codes "BadName") (signed_decimal k)
vf_text vf.NoPost = codes "NoPost"
vf_text vf.OutOfMemory = codes "OutOfMemory"

abbrev pub site_text : Site → List ℕ
site_text (site.Page at) = named (codes "page") (decimal at)
site_text (site.Packet font code at) = named (codes "packet") (named (text_of font) (named (decimal code) (decimal at)))

abbrev pub units_text : Units → List ℕ
units_text u = named (signed_decimal u.num) (named (signed_decimal u.den) (named (signed_decimal u.mag) (signed_decimal u.dpi)))

-- what is said of an outcome; nothing where all was done
abbrev pub outcome_text : Outcome → Option (List ℕ)
outcome_text outcome.Done = None
outcome_text (outcome.BadDvi kind) = Some (named (codes "BadDvi") (fault_text kind))
outcome_text (outcome.BadTfm name kind) = Some (named (codes "BadTfm") (named (text_of name) (tfm_text kind)))
outcome_text (outcome.BadPk name kind) = Some (named (codes "BadPk") (named (text_of name) (pk_text kind)))
outcome_text (outcome.BadVf name kind) = Some (named (codes "BadVf") (named (text_of name) (vf_text kind)))
outcome_text (outcome.Missing name) = Some (named (codes "Missing") (text_of name))
outcome_text (outcome.FileTooLong name) = Some (named (codes "FileTooLong") (text_of name))
outcome_text (outcome.UndefinedFont spot) = Some (named (codes "UndefinedFont") (site_text spot))
outcome_text (outcome.NoFont spot) = Some (named (codes "NoFont") (site_text spot))
outcome_text (outcome.StackUnder spot) = Some (named (codes "StackUnder") (site_text spot))
outcome_text (outcome.StackLeft spot) = Some (named (codes "StackLeft") (site_text spot))
outcome_text (outcome.StackDeep spot) = Some (named (codes "StackDeep") (site_text spot))
outcome_text (outcome.Overflow spot) = Some (named (codes "Overflow") (site_text spot))
outcome_text (outcome.NoChar font code) = Some (named (codes "NoChar") (named (text_of font) (signed_decimal code)))
outcome_text (outcome.NoPacket font code) = Some (named (codes "NoPacket") (named (text_of font) (decimal code)))
outcome_text (outcome.NoGlyph font code) = Some (named (codes "NoGlyph") (named (text_of font) (decimal code)))
outcome_text (outcome.NestDeep font code) = Some (named (codes "NestDeep") (named (text_of font) (decimal code)))
outcome_text (outcome.GlyphTooBig font code bytes) = Some (named (codes "GlyphTooBig") (named (text_of font) (named (decimal code) (decimal bytes))))
outcome_text (outcome.BadSize font size design) = Some (named (codes "BadSize") (named (text_of font) (named (signed_decimal size) (signed_decimal design))))
outcome_text (outcome.BadConv units) = Some (named (codes "BadConv") (units_text units))
outcome_text (outcome.NoSuchPage number) = Some (named (codes "NoSuchPage") (signed_decimal number))
outcome_text outcome.TooManyPages = Some (codes "TooManyPages")
outcome_text (outcome.PageTooBig page need have) = Some (named (codes "PageTooBig") (named (decimal page) (named (decimal need) (decimal have))))
outcome_text outcome.TooManyHeaders = Some (codes "TooManyHeaders")
outcome_text outcome.CopyTooLong = Some (codes "CopyTooLong")
outcome_text outcome.TooManyFonts = Some (codes "TooManyFonts")
outcome_text outcome.TooManySteps = Some (codes "TooManySteps")
outcome_text outcome.RasterSpace = Some (codes "RasterSpace")
outcome_text (outcome.BadWords index) = Some (named (codes "BadWords") (decimal index))
outcome_text (outcome.ReadFault name) = Some (named (codes "ReadFault") (text_of name))
outcome_text outcome.WriteFault = Some (codes "WriteFault")
outcome_text outcome.OutOfMemory = Some (codes "OutOfMemory")

-- the whole line
abbrev pub message_of : Outcome → Option (List ℕ)
message_of o = option_map (λ text. codes "texdvi: " ++ text) (outcome_text o)

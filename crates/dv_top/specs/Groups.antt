-- What an outcome names. No public clause cites this module.
use Rattle.dv_top.specs.declared.message.Group.{Group}
use Rattle.dv_top.specs.declared.message.Group.TheVariants.{OfFile, OfFont, OfOther, OfPlace}
use Rattle.dv_top.specs.declared.outcome.Outcome.{Outcome}
use Rattle.dv_top.specs.declared.outcome.Outcome.TheVariants as outcome

abbrev pub group_of : Outcome → Group
group_of (outcome.BadTfm name kind) = OfFile
group_of (outcome.BadPk name kind) = OfFile
group_of (outcome.BadVf name kind) = OfFile
group_of (outcome.Missing name) = OfFile
group_of (outcome.FileTooLong name) = OfFile
group_of (outcome.ReadFault name) = OfFile
group_of (outcome.UndefinedFont spot) = OfPlace
group_of (outcome.NoFont spot) = OfPlace
group_of (outcome.StackUnder spot) = OfPlace
group_of (outcome.StackLeft spot) = OfPlace
group_of (outcome.StackDeep spot) = OfPlace
group_of (outcome.Overflow spot) = OfPlace
group_of (outcome.NoChar font code) = OfFont
group_of (outcome.NoPacket font code) = OfFont
group_of (outcome.NoGlyph font code) = OfFont
group_of (outcome.NestDeep font code) = OfFont
group_of (outcome.GlyphTooBig font code bytes) = OfFont
group_of (outcome.BadSize font size design) = OfFont
group_of _ = OfOther

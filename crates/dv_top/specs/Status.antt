-- The exit status of each outcome: 1 where the input is to blame.
use Rattle.std.specs.Prelude.{ℕ}
use Rattle.dv_top.specs.declared.outcome.Outcome.{Outcome}
use Rattle.dv_top.specs.declared.outcome.Outcome.TheVariants as outcome

abbrev pub status_of : Outcome → ℕ
status_of outcome.Done = 0
status_of (outcome.BadDvi kind) = 1
status_of (outcome.BadTfm name kind) = 1
status_of (outcome.BadPk name kind) = 1
status_of (outcome.BadVf name kind) = 1
status_of (outcome.Missing name) = 1
status_of (outcome.FileTooLong name) = 1
status_of (outcome.UndefinedFont spot) = 1
status_of (outcome.NoFont spot) = 1
status_of (outcome.StackUnder spot) = 1
status_of (outcome.StackLeft spot) = 1
status_of (outcome.StackDeep spot) = 1
status_of (outcome.Overflow spot) = 1
status_of (outcome.NoChar font code) = 1
status_of (outcome.NoPacket font code) = 1
status_of (outcome.NoGlyph font code) = 1
status_of (outcome.NestDeep font code) = 1
status_of (outcome.GlyphTooBig font code bytes) = 1
status_of (outcome.BadSize font size design) = 1
status_of (outcome.BadConv units) = 1
status_of (outcome.NoSuchPage number) = 1
status_of outcome.TooManyPages = 1
status_of (outcome.PageTooBig page need have) = 1
status_of outcome.TooManyHeaders = 1
status_of outcome.CopyTooLong = 1
status_of outcome.TooManyFonts = 1
status_of outcome.TooManySteps = 1
status_of outcome.RasterSpace = 1
status_of (outcome.BadWords index) = 2
status_of (outcome.ReadFault name) = 3
status_of outcome.WriteFault = 4
status_of outcome.OutOfMemory = 5

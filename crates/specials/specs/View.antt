-- What contracts see of the code's specials.
use Rattle.specials.specs.Special.{Meaning}
use Rattle.specials.specs.Special.Meaning.{Paper, BadPaper, Header, Literal, Unknown}
use Rattle.specials.specs.declared.special.Special.{Special}
use Rattle.specials.specs.declared.special.Special.TheVariants as the

abbrev pub special_view : Special → Meaning
special_view (the.Paper w h) = Paper w h
special_view the.BadPaper = BadPaper
special_view (the.Header name) = Header name.now
special_view (the.Literal text) = Literal text.now
special_view the.Unknown = Unknown

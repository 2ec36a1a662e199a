-- What contracts see of a name: its bytes.
use Rattle.std.specs.Prelude.{ℕ, List}
use Rattle.dv_base.specs.declared.name.FileName.{FileName}

abbrev pub text_of : FileName → List ℕ
text_of name = name.text.bytes

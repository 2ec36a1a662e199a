-- What contracts see of a front: all of its bytes, and those of the definitions alone.
use Rattle.std.specs.Prelude.{ℕ, List, drop}
use Rattle.dvicopy_out.specs.declared.front.Front.{Front}

abbrev pub bytes_of : Front → List ℕ
bytes_of f = f.bytes.items

abbrev pub definitions_of : Front → List ℕ
definitions_of f = drop f.behind f.bytes.items

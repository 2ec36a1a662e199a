-- The space of the font that the code has selected. (No public clause cites this module.)
use Rattle.std.specs.Prelude.{ℤ, pos, Option, Some, None}
use Rattle.dvitype_list.specs.declared.state.Selected.{Selected}

abbrev pub space_by : Option Selected → ℤ
space_by None = pos 0
space_by (Some f) = f.space

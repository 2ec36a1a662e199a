use Rattle.std.proofs.Common.{◌<◌, ℕ, slice_index_or}
use Rattle.dv_base.specs.FontName.{IsNameByte}
use Rattle.dv_base.proofs.name.is_font_name.Given as goal

abbrev pub invariant-loop-byte : goal.invariant-loop-byte
invariant-loop-byte l = (k : ℕ) (d : ℕ) → k < l.byte-index → IsNameByte (slice_index_or l.name k d)

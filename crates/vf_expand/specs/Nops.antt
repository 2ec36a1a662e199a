-- Nops that stand one behind another.
use Rattle.std.specs.Prelude.{◌≤◌, ◌<◌, ◌+◌, ℕ, List, slice_range}
use Rattle.dvi_ops.specs.Command.Command.{Nop}
use Rattle.dvi_ops.specs.Spelling.{Spell}

-- each byte from a place on, up to another, is a nop
abbrev pub AreNops : List ℕ → ℕ → ℕ → Type 0
AreNops bytes start end = (at : ℕ) → start ≤ at → at < end → Spell Nop (slice_range bytes at (at + 1))

use Rattle.std.proofs.Common.{arith}
use Rattle.dvi_ops.proofs.Defining.{bytes_of}
use Rattle.dvi_ops.proofs.definition.definition_of.Goals as goal

pub overflow_sub-bytes : goal.overflow_sub-bytes
overflow_sub-bytes c = let b = bytes_of c.args.bytes.now c.requires in grind (arith, b.0, b.1, b.2, b.3)

pub read_def-requires-clause-low : goal.read_def-requires-clause-low
read_def-requires-clause-low c = let b = bytes_of c.args.bytes.now c.requires in grind (arith, b.0, b.1, b.2, b.3)

pub read_def-requires-clause-high : goal.read_def-requires-clause-high
read_def-requires-clause-high c = let b = bytes_of c.args.bytes.now c.requires in grind (arith, b.0, b.1, b.2, b.3)

pub read_def-requires-clause-room : goal.read_def-requires-clause-room
read_def-requires-clause-room c = let b = bytes_of c.args.bytes.now c.requires in grind (arith, b.0, b.1, b.2, b.3)

use Rattle.std.proofs.Common.{◌-◌, ◌≤◌, length, drop}
use Rattle.vf_packets.specs.Programs.{ProgramFrom}
use Rattle.vf_packets.proofs.program.is_program.Given as goal

abbrev pub invariant-commands : goal.invariant-commands
invariant-commands l = record {
  within : l.at ≤ length l.bytes;
  ahead : ProgramFrom 0 l.bytes → ProgramFrom l.at (drop l.at l.bytes);
  back : ProgramFrom l.at (drop l.at l.bytes) → ProgramFrom 0 l.bytes;
}

abbrev pub decreases-commands : goal.decreases-commands
decreases-commands l = length l.bytes - l.at

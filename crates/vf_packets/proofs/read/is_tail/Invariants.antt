use Rattle.std.proofs.Common.{◌≡◌, ◌≤◌, ◌<◌, ℕ, slice_index}
use Rattle.vf_packets.proofs.read.is_tail.Given as goal

abbrev pub invariant-loop-place : goal.invariant-loop-place
invariant-loop-place l = (i : ℕ) → l.at ≤ i → i < l.place → slice_index l.bytes i ≡ 248

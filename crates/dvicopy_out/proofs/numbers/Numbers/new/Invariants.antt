use Rattle.std.proofs.Common.{◌≡◌, ◌<◌, ◌≤◌, ℕ, length}
use Rattle.std.specs.Prelude.{slice_index}
use Rattle.dvicopy_out.specs.Numbered.{number_of}
use Rattle.dvicopy_out.proofs.numbers.Numbers.new.Given as goal

abbrev pub invariant-loop-place : goal.invariant-loop-place
invariant-loop-place l = record {
  table : (id : ℕ) → id < l.place → slice_index l.table id ≡ number_of l.fonts id;
  next : l.next ≡ number_of l.fonts l.place;
  few : l.next ≤ l.place;
  long : length l.table ≡ 1000;
}

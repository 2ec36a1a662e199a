use Rattle.std.proofs.Common.{◌≡◌, ◌++◌, take}
use Rattle.std.specs.List.{AllByRecursion}
use Rattle.dvicopy_out.specs.Numbered.{definitions_from}
use Rattle.dvicopy_out.specs.Spelled.{spelled}
use Rattle.dvicopy_out.specs.Writable.{IsPutFont}
use Rattle.dvicopy_out.proofs.front.append_definitions.Given as goal

abbrev pub invariant-loop-place : goal.invariant-loop-place
invariant-loop-place l = record {
  bytes : l.bytes.items ≡ l.fn.bytes.items ++ spelled (definitions_from 0 (take l.place l.fonts.fonts));
  keys : AllByRecursion IsPutFont (take l.place l.fonts.fonts);
}

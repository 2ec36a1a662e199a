use Rattle.std.proofs.Common.{map}
use Rattle.std.specs.String.{string_bytes}
use Rattle.dv_words.specs.Views.{draft_view}
use Rattle.dv_words.proofs.Taking.{IsRead}
use Rattle.dv_words.proofs.read.read_job.Given as goal

abbrev pub invariant-loop-index : goal.invariant-loop-index
invariant-loop-index l = IsRead l.tool (map string_bytes l.words) l.index l.waits (draft_view l.draft)

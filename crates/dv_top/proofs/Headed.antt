-- Headers that can't be had, as a reason.
use Rattle.std.proofs.Common.{◌≡◌, ◌<◌, ℕ, List, length, subst, inl, inr}
use Rattle.std.specs.List.{Contains}
use Rattle.dv_base.specs.Shelf.{Keeps, Told}
use Rattle.dv_words.specs.Jobs.{PrintJob}
use Rattle.dv_top.specs.Covered.{Marked}
use Rattle.dv_top.specs.Headers.{HeadersFail}
use Rattle.dv_top.specs.Reasons.{Reason, Refuses, most_header, most_headers, names_for}
use Rattle.dv_top.specs.declared.outcome.Outcome.{Outcome}
use Rattle.dv_top.proofs.HeldFiles.{unread_before}

pub no_headers : (job : PrintJob) (told b later : Told) (marked : Marked job told) (o : Outcome) → Keeps told b → HeadersFail (names_for marked.covered) b later o → Refuses job told later o
no_headers job told b later marked o keeps (inl (e, many)) = inr (Reason.ManyHeaders marked, e, many)
no_headers job told b later marked o keeps (inr (inl e)) = inl e
no_headers job told b later marked o keeps (inr (inr (name, among, (why, tells, holds)))) =
    inr (Reason.NoHeader marked name why, tells, (among, unread_before name most_header told b later keeps why holds))

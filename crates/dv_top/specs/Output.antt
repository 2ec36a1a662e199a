-- What is asked before the output of a job is begun, and what writing it leaves. No public clause cites this module.
use Rattle.std.specs.Prelude.{◌≡◌, ◌≤◌, ◌⊎◌, ℕ, List, length, map, Option, Some, None, Result, MatchResult}
use Rattle.dv_base.specs.Causes.{Rose}
use Rattle.dv_base.specs.Shelf.{Told}
use Rattle.dv_base.specs.Tray.{Seen}
use Rattle.dvi_doc.specs.View.{ReadDoc}
use Rattle.dv_words.specs.Jobs.{PrintJob}
use Rattle.font_set.specs.Fonts.{FontSet}
use Rattle.vf_expand.specs.Page.{Walk, pages_count}
use Rattle.dv_top.specs.Covered.{Covered, IsNumbered, doc_of, set_of}
use Rattle.dv_top.specs.Each.{Each}
use Rattle.dv_top.specs.Headers.{HeldEach}
use Rattle.dv_top.specs.Outputs.{LeavesOutput, WroteFront}
use Rattle.dv_top.specs.Printable.{IsFront, Printable, Shows, owed_for, printout_for, text_for}
use Rattle.dv_top.specs.Printed.{IsCountOf}
use Rattle.dv_top.specs.Printing.{chosen, grid_of, most_steps, plan_of, request_of}
use Rattle.dv_top.specs.Reasons.{most_headers, names_for}
use Rattle.dv_top.specs.Selecting.{places_of}
use Rattle.dv_top.specs.Writing.{IsReady}
use Rattle.dv_top.specs.declared.outcome.Outcome.{Outcome}
use Rattle.dv_top.specs.declared.outcome.Outcome.TheVariants as outcome
use Rattle.dv_top.specs.declared.print.Printout.{Printout}
use Rattle.dv_top.specs.declared.write.Parts.{Parts}

-- The chosen pages of a job, whose fonts are covered, were looked at: they are ready, their commands are few, and the fonts are numbered in
-- their order.
pub record IsLookedAt {job : PrintJob} {told : Told} (c : Covered job told) (doc : ReadDoc) (places : List ℕ) (walk : Walk) (set : FontSet) : Type 0 where
  pub bytes : c.sources.selected.source.input.bytes ≡ doc.bytes
  pub fonts : set_of c ≡ set
  pub grid : walk.grid ≡ grid_of (doc_of c) job
  pub places_are : places ≡ places_of (doc_of c) (request_of job)
  pub ready : Each (IsReady walk.grid set doc.fonts) (chosen (doc_of c) job)
  pub steps : pages_count set doc.fonts (chosen (doc_of c) job) ≤ most_steps
  pub numbered : IsNumbered set doc.fonts (chosen (doc_of c) job)

-- The headers of a job are not too many, and these are held.
pub record IsHeaded {job : PrintJob} {told : Told} (c : Covered job told) (headers : List (List ℕ)) : Type 0 where
  pub few : length (names_for c) ≤ most_headers
  pub held : HeldEach told (names_for c) headers

module _ {job : PrintJob} {told : Told} (p : Printable job told) where
  -- What was read, found and put together is that of the printable job.
  pub record IsWritable (doc : ReadDoc) (parts : Parts) (walk : Walk) (set : FontSet) : Type 0 where
    pub bytes : p.covered.sources.selected.source.input.bytes ≡ doc.bytes
    pub fonts : set_of p.covered ≡ set
    pub grid : walk.grid ≡ grid_of (doc_of p.covered) job
    pub places : parts.places.now ≡ places_of (doc_of p.covered) (request_of job)
    pub headers : map (λ h. h.items) parts.headers.items ≡ p.headers
    pub plan : parts.plan ≡ plan_of job set p.pages
    pub setup : parts.setup ≡ p.setup

  -- the whole text was written
  pub record IsWritten (old new : Seen) (n : Printout) : Type 0 where
    pub shows : Shows (text_for p) (printout_for p) (owed_for p)
    pub left : LeavesOutput job.output (Some (text_for p)) old new
    pub lines : new.messages ≡ old.messages
    pub counts : IsCountOf job told p n

  -- a front of it was written, or nothing begun, since the tray failed
  pub record IsUnwritten (old new : Seen) (o : Outcome) : Type 0 where
    pub tells : o ≡ outcome.WriteFault
    pub written : Option (List ℕ)
    pub front : WroteFront (text_for p) (IsFront (text_for p) (printout_for p) (owed_for p)) written
    pub left : LeavesOutput job.output written old new
    pub lines : new.messages ≡ old.messages
    pub rose : Rose old.faults new.faults

  -- nothing was begun for want of memory
  pub record IsUnbegun (old new : Seen) (o : Outcome) : Type 0 where
    pub tells : o ≡ outcome.OutOfMemory
    pub left : LeavesOutput job.output None old new
    pub lines : new.messages ≡ old.messages

  abbrev pub Prints : Seen → Seen → Result Printout Outcome → Type 0
  Prints old new result = MatchResult result (λ n. IsWritten old new n) (λ o. IsUnwritten old new o ⊎ IsUnbegun old new o)

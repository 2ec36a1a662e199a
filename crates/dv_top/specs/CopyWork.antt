-- What is asked before a copy is written, and what that leaves. No public clause cites this module.
use Rattle.std.specs.Prelude.{◌≡◌, ℕ, ℤ, List, Some}
use Rattle.dv_base.specs.Shelf.{Told}
use Rattle.positions.specs.Mark.{Mark}
use Rattle.dvi_ops.specs.Command.{Definition}
use Rattle.dvi_doc.specs.Document.{PageOf}
use Rattle.dvi_doc.specs.View.{ReadDoc}
use Rattle.dv_words.specs.Jobs.{CopyJob}
use Rattle.font_set.specs.Fonts.{FontSet}
use Rattle.vf_expand.specs.Grid as grid
use Rattle.vf_expand.specs.Grid.{Grid}
use Rattle.vf_expand.specs.Page.{IsShallowPage, Walk, page_marks}
use Rattle.dvicopy_out.specs.declared.fault.CopyFault.{CopyFault}
use Rattle.dvicopy_out.specs.declared.fault.CopyFault.TheVariants as fault
use Rattle.dv_top.specs.Copying.{asked_of, copy_grid}
use Rattle.dv_top.specs.Copyable.{Walkable}
use Rattle.dv_top.specs.Scaled.{magnified}
use Rattle.dv_top.specs.Selecting.{places_of}
use Rattle.dv_top.specs.Wanted.{doc_of, set_of}
use Rattle.dv_top.specs.declared.outcome.Outcome.{Outcome}
use Rattle.dv_top.specs.declared.outcome.Outcome.TheVariants as outcome

-- A page that was walked over: its marks are defined, and no push is too deep.
pub record IsSound (g : Grid) (set : FontSet) (ds : List Definition) (p : PageOf) : Type 0 where
  pub marks : List Mark
  pub state : grid.State
  pub defined : page_marks g set ds p.commands ≡ Some (marks, state)
  pub shallow : IsShallowPage g set ds p.commands

-- What was read of a job and walked over is this document, these places, this grid and these fonts.
pub record IsWalked {job : CopyJob} {told : Told} (w : Walkable job told) (doc : ReadDoc) (places : List ℕ) (walk : Walk) (set : FontSet) (mag : ℤ) : Type 0 where
  pub bytes : (w.covered).supplied.wanted.source.input.bytes ≡ doc.bytes
  pub fonts : set_of w.covered ≡ set
  pub grid : walk.grid ≡ copy_grid (doc_of w.covered) job
  pub places_are : places ≡ places_of (doc_of w.covered) (asked_of job)
  pub mag_is : mag ≡ magnified (doc_of w.covered).head.mag job.mag

-- the outcome of a copy that failed; no walk did
abbrev pub CopyTells : CopyFault → Outcome → Type 0
CopyTells (fault.Walk e) o = ⊥
CopyTells fault.CopyTooLong o = o ≡ outcome.CopyTooLong
CopyTells fault.WriteFault o = o ≡ outcome.WriteFault
CopyTells fault.OutOfMemory o = o ≡ outcome.OutOfMemory

-- not a fault of a walk
abbrev pub IsNoWalk : CopyFault → Type 0
IsNoWalk (fault.Walk e) = ⊥
IsNoWalk _ = Unit {0}

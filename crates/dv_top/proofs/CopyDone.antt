-- What was read of a job of dvicopy and walked over is what its copy is made of; and how a copy ends.
use Rattle.std.proofs.Common.{◌≡◌, ◌<◌, ◌^◌, ℕ, ℤ, List, ◌++◌, length, take, refl, sym, ap, subst, ◌∙◌, Result, Ok, Err}
use Rattle.std.proofs.Math.Seq.{take-append_seam}
use Rattle.dv_base.specs.Shelf.{Told}
use Rattle.dv_base.specs.Tray.{Seen}
use Rattle.dvi_ops.specs.Command.{Definition, Preamble, Postamble}
use Rattle.dvi_doc.specs.Document.{Document, document_of}
use Rattle.dvi_doc.specs.Grammar.{IsDoc}
use Rattle.dvi_doc.specs.Laws.{OneDocument}
use Rattle.dvi_doc.specs.View.{IsRead, ReadDoc}
use Rattle.dv_words.specs.Jobs.{CopyJob}
use Rattle.font_set.specs.Fonts.{FontSet}
use Rattle.vf_expand.specs.Grid.{Grid}
use Rattle.vf_expand.specs.Page.{Walk}
use Rattle.dvicopy_out.specs.Copies.{Page, Work, file}
use Rattle.dvicopy_out.specs.AsDocument.{file_of}
use Rattle.dvicopy_out.specs.Cuts.{CutsHoldFirstPages}
use Rattle.dvicopy_out.specs.Keyed.{CopyKeepsMarks, copy_document}
use Rattle.dvicopy_out.specs.Leaves.{Copied, WriteFails, copy_of, work_of}
use Rattle.dvicopy_out.specs.Made.{IsMade, WhereBegun}
use Rattle.dvicopy_out.specs.Pages.{copy_pages}
use Rattle.dvicopy_out.specs.RealFonts.{CopyDefinesReal}
use Rattle.dvicopy_out.specs.Units.{AreOf, CopyKeepsPages, Serves}
use Rattle.dvicopy_out.specs.Writable.{CopyIsDocument, IsPutCopy}
use Rattle.dvicopy_out.specs.declared.fault.CopyFault.{CopyFault}
use Rattle.dvicopy_out.specs.declared.fault.CopyFault.TheVariants as fault
use Rattle.dvicopy_out.proofs.Walked.{ByPlace}
use Rattle.dv_top.specs.Copied.{Leaves}
use Rattle.dv_top.specs.Copyable.{IsCopy, IsFront, SameMarks, Walkable, copy_for, pages_for, warnings_for, work_for}
use Rattle.dv_top.specs.Copying.{asked_of, copied_pages, copy_grid, picked}
use Rattle.dv_top.specs.CopyWork.{CopyTells, IsNoWalk, IsWalked}
use Rattle.dv_top.specs.Each.{Each}
use Rattle.dv_top.specs.Selecting.{ArePages}
use Rattle.dv_top.specs.Spoken.{SaysAll}
use Rattle.dv_top.specs.Wanted.{doc_of, set_of}
use Rattle.dv_top.specs.declared.outcome.Outcome.{Outcome}
use Rattle.dv_top.specs.declared.outcome.Outcome.TheVariants as outcome
use Rattle.dv_top.proofs.CopyLeft.{long, unwritten, wanting, whole}
use Rattle.dv_top.proofs.CopyMeant.{is_copy}
use Rattle.dv_top.proofs.CopyPages.{same_copies, same_marks}
use Rattle.dv_top.proofs.Once.{all_pages}

-- no fault of a walk
pub no_walk_fault : (name bytes : List ℕ) (a b : Seen) (e : CopyFault) → WriteFails name bytes a b e → IsNoWalk e
no_walk_fault name bytes a b (fault.Walk f) h = absurd h
no_walk_fault name bytes a b fault.CopyTooLong h = tt
no_walk_fault name bytes a b fault.WriteFault h = tt
no_walk_fault name bytes a b fault.OutOfMemory h = tt

module _ (one : OneDocument) (law : ByPlace) {job : CopyJob} {told : Told} (w : Walkable job told) (r : ReadDoc) (places : List ℕ) (walk : Walk) (set : FontSet) (mag : ℤ) (read : IsRead r) (within : Each (λ k. k < length r.pages) places) (k : IsWalked w r places walk set mag) where
  abbrev Doc : Document
  Doc = doc_of w.covered

  is : IsDoc r.bytes Doc
  is = subst (λ (b : List ℕ). IsDoc b Doc) k.bytes (w.covered).supplied.wanted.source.is

  same_doc : read.0 ≡ Doc
  same_doc = one r.bytes read.0 Doc read.1 is

  head : r.head ≡ (doc_of w.covered).head
  head = read.2.0 ∙ ap (λ (d : Document). d.head) same_doc

  tail : r.tail ≡ (doc_of w.covered).tail
  tail = read.2.2 ∙ ap (λ (d : Document). d.tail) same_doc

  fonts : r.fonts ≡ (doc_of w.covered).fonts
  fonts = read.2.3 ∙ ap (λ (d : Document). d.fonts) same_doc

  pub are : ArePages r places (picked (doc_of w.covered) job)
  are = all_pages one r Doc places (asked_of job) read is within k.places_are

  pages_same : copy_pages walk.grid set r places ≡ pages_for w
  pages_same =
      same_copies one law r read set walk.grid places (picked Doc job) are
      ∙ ap (λ (g : Grid). copied_pages g set r.fonts (picked Doc job)) k.grid
      ∙ ap (λ (s : FontSet). copied_pages (copy_grid Doc job) s r.fonts (picked Doc job)) (sym k.fonts)
      ∙ ap (λ (ds : List Definition). copied_pages (copy_grid Doc job) (set_of w.covered) ds (picked Doc job)) fonts

  abbrev a_work : Preamble → Postamble → ℤ → FontSet → Work
  a_work h t m s = record { head = h; tail = t; mag = m; set = s }

  work_same : work_of r set mag ≡ work_for w
  work_same =
      ap (λ (h : Preamble). a_work h r.tail mag set) head
      ∙ ap (λ (t : Postamble). a_work (doc_of w.covered).head t mag set) tail
      ∙ ap (λ (m : ℤ). a_work (doc_of w.covered).head (doc_of w.covered).tail m set) k.mag_is
      ∙ ap (λ (s : FontSet). a_work (doc_of w.covered).head (doc_of w.covered).tail (work_for w).mag s) (sym k.fonts)

  -- the copy of what was read is the copy of the job
  pub copy_same : copy_of walk.grid set r places mag ≡ copy_for w
  copy_same = ap (λ (x : Work). file x (copy_pages walk.grid set r places)) work_same ∙ ap (λ (ps : List Page). file (work_for w) ps) pages_same

  module _ (document : CopyIsDocument) (keeps : CopyKeepsPages) (defines : CopyDefinesReal) (holds : CopyKeepsMarks) (cuts : CutsHoldFirstPages) where
    put_here : IsMade walk.grid set r places mag → IsPutCopy (work_for w) (pages_for w)
    put_here made = subst (λ (ps : List Page). IsPutCopy (work_for w) ps) pages_same (subst (λ (x : Work). IsPutCopy x (copy_pages walk.grid set r places)) work_same made.put)

    of_here : IsMade walk.grid set r places mag → AreOf (set_of w.covered) (pages_for w)
    of_here made = subst (AreOf (set_of w.covered)) pages_same (subst (λ (s : FontSet). AreOf s (copy_pages walk.grid set r places)) (sym k.fonts) made.of_set)

    -- what a front of it is
    front_is : IsMade walk.grid set r places mag → (written missing : List ℕ) → copy_for w ≡ written ++ missing → IsFront w written
    front_is made written missing splits =
        record {
          missing = missing;
          splits = splits;
          pages = λ other g serves front rest read whole lexes.
              cuts (work_for w) (pages_for w) (put_here made) (of_here made) other g serves (length written) front rest read
              (ap (λ (bs : List ℕ). take (length written) bs) splits ∙ take-append_seam written missing ∙ whole) lexes;
        }

    -- what the copy means, once it can be made
    pub meant : IsMade walk.grid set r places mag → IsCopy w (copy_for w)
    meant made =
        is_copy w document keeps defines (put_here made) (of_here made)
        (λ other h serves still.
        let copy = copy_document walk.grid set r places mag in
        let same : copy ≡ document_of (file_of (work_for w) (pages_for w)) = λ i. document_of (file_of (work_same i) (pages_same i)) in
        let there : SameMarks h other set copy.fonts copy.pages r.fonts (picked (doc_of w.covered) job) =
        same_marks one law r read set h other copy.fonts places (picked (doc_of w.covered) job) copy.pages are (holds walk.grid set r places mag made other (subst (λ (s : FontSet). Serves s other) k.fonts serves) h still) in
        subst (λ (d : Document). SameMarks h other (set_of w.covered) d.fonts d.pages (doc_of w.covered).fonts (picked (doc_of w.covered) job)) same
        (subst (λ (ds : List Definition). SameMarks h other (set_of w.covered) copy.fonts copy.pages ds (picked (doc_of w.covered) job)) fonts
        (subst (λ (s : FontSet). SameMarks h other s copy.fonts copy.pages r.fonts (picked (doc_of w.covered) job)) (sym k.fonts) there)))

    pub short : IsMade walk.grid set r places mag → length (copy_for w) < 2 ^ 31
    short made = subst (λ (bs : List ℕ). length bs < 2 ^ 31) copy_same (made.put).short

    -- a copy that was written
    pub finished : (later : Told) (a b c : Seen) (name : List ℕ) → name ≡ job.output → SaysAll (warnings_for w) a b → IsMade walk.grid set r places mag → Copied name (copy_of walk.grid set r places mag) b c → Leaves job told later a c outcome.Done
    finished later a b c name called said made done =
        whole w later a b c said (subst (λ (bs : List ℕ). Copied job.output bs b c) copy_same (subst (λ (n : List ℕ). Copied n (copy_of walk.grid set r places mag) b c) called done)) (short made) (meant made)

    -- a copy that failed
    pub failed : (later : Told) (a b c : Seen) (name : List ℕ) (e : CopyFault) (o : Outcome) → name ≡ job.output → SaysAll (warnings_for w) a b → CopyTells e o → ((e ≡ fault.WriteFault) → IsMade walk.grid set r places mag)
        → WriteFails name (copy_of walk.grid set r places mag) b c e → Leaves job told later a c o
    failed later a b c name e o called said tells made h =
        by e tells made (subst (λ (n : List ℕ). WriteFails n (copy_for w) b c e) called (subst (λ (bs : List ℕ). WriteFails name bs b c e) copy_same h))
      where
        by : (f : CopyFault) → CopyTells f o → ((f ≡ fault.WriteFault) → IsMade walk.grid set r places mag) → WriteFails job.output (copy_for w) b c f → Leaves job told later a c o
        by (fault.Walk f) t m h = absurd t
        by fault.CopyTooLong t m h = subst (Leaves job told later a c) (sym t) (long w later a b c said h.0 h.1)
        by fault.WriteFault t m h = subst (Leaves job told later a c) (sym t) (unwritten w later a b c said h.0 h.1 (short (m refl)) (meant (m refl)) (front_is (m refl)))
        by fault.OutOfMemory t m h = subst (Leaves job told later a c) (sym t) (wanting w later a b c said h)

-- the fault that is told is the one of the tray
pub made_at : {X P : Type 0} (r : Result X CopyFault) (e : CopyFault) → r ≡ Err e → WhereBegun P r → (e ≡ fault.WriteFault) → P
made_at (Ok x) e is h f = absurd cc
made_at {X} {P} (Err g) e is h f =
    let same : g ≡ fault.WriteFault = (let one : g ≡ e = cc in one) ∙ f in
    by g same h
  where
    by : (g : CopyFault) → g ≡ fault.WriteFault → (let r : Result X CopyFault = Err g in WhereBegun P r) → P
    by (fault.Walk x) s h = absurd cc
    by fault.CopyTooLong s h = absurd cc
    by fault.WriteFault s h = h
    by fault.OutOfMemory s h = absurd cc

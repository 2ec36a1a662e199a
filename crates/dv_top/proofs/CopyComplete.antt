-- What can be copied is copied: each other end of a run has a reason, and none of the reasons is there.
use Rattle.std.proofs.Common.{◌≡◌, ◌<◌, ◌≤◌, ◌+◌, ◌⊎◌, ℕ, zero, suc, List, [], ◌∷◌, length, Option, Some, None, arith, refl, sym, ap, subst, ◌∙◌, inl, inr}
use Rattle.std.specs.Prelude.{slice_get}
use Rattle.std.specs.List.{sum_by}
use Rattle.std.proofs.lemmas.List.Sums.{sum_by-cons}
use Rattle.dv_base.specs.Causes.{Rose}
use Rattle.dv_base.specs.Shelf.{Contents, Told}
use Rattle.dv_base.specs.Tray.{Seen}
use Rattle.dv_base.specs.UnitPixels.{IsUsable}
use Rattle.dv_base.specs.declared.units.Units.{Units}
use Rattle.dvi_ops.specs.Command.{Definition}
use Rattle.dvi_doc.specs.Document.{Document, PageOf}
use Rattle.dvi_doc.specs.Grammar.{IsDoc}
use Rattle.dvi_doc.specs.Laws.{OneDocument}
use Rattle.dv_words.specs.Jobs.{CopyJob, Job}
use Rattle.dv_words.specs.Jobs.Job.{Copying}
use Rattle.dv_words.specs.Words.{Asks}
use Rattle.font_set.specs.Alike.{AreRight, OneFontOf, WhatCanBeHadIsHad}
use Rattle.font_set.specs.FontOf.{FontOf}
use Rattle.font_set.specs.Fonts.{Entry, FontSet, IsLoaded, State, key_at, raster_bytes, raster_bytes_in, state_at, state_in}
use Rattle.font_set.specs.Key.{Key}
use Rattle.font_set.specs.declared.want.Want.{Want}
use Rattle.font_set.specs.declared.want.Want.TheVariants as wants
use Rattle.vf_expand.specs.Page.{IsShallowPage, pages_count}
use Rattle.dv_top.specs.Completeness.{IsDoneOrRefused}
use Rattle.dv_top.specs.Copied as copied_job
use Rattle.dv_top.specs.Copied.{End, Leaves, Means, RoseFor}
use Rattle.dv_top.specs.Copies.{CopiesAll, PlainCopy, ServeCopy}
use Rattle.dv_top.specs.Copying.{asked_of, copy_grid, copy_units, picked}
use Rattle.dv_top.specs.CopyReasons as reasons
use Rattle.dv_top.specs.CopyReasons.{Holds, Reason}
use Rattle.dv_top.specs.Each.{Each}
use Rattle.dv_top.specs.Lines.{SaysLine}
use Rattle.dv_top.specs.Message.{message_of}
use Rattle.dv_top.specs.Printing.{IsMarked, most_steps}
use Rattle.dv_top.specs.Reading.{Source, most_input}
use Rattle.dv_top.specs.Selecting.{IsChoice}
use Rattle.dv_top.specs.Wanted.{doc_of, set_of}
use Rattle.dv_top.specs.WholeRun.{JobLeaves, WordsLeave}
use Rattle.dv_top.specs.declared.outcome.Outcome.{Outcome}
use Rattle.dv_top.proofs.Complete.{OneJob, file_read, held_same, load_tells, not_wrong, select_done}
use Rattle.dv_top.proofs.Said.{line_faults}
use Rattle.dv_top.proofs.Served.{Serving, no_load, no_stop}

-- ---- no bitmaps, no bytes

state_bytes : (contents : Contents) (units : Units) (key : Key) (s : State) → (IsLoaded s → FontOf contents units wants.Packets key s) → raster_bytes_in s ≡ 0
state_bytes contents units key State.Known h = refl
state_bytes contents units key (State.Real tfm None) h = refl
state_bytes contents units key (State.Real tfm (Some pk)) h = absurd (let e = (h tt).2 in cc)
state_bytes contents units key (State.Virtual tfm vf) h = refl

each_bytes : (es : List Entry) → ((i : ℕ) → raster_bytes_in (state_in (slice_get es i)) ≡ 0) → sum_by (λ (e : Entry). raster_bytes_in e.state) es ≡ 0
each_bytes [] h = refl
each_bytes (e ∷ es) h =
    let here : raster_bytes_in e.state ≡ 0 = h 0 in
    let rest = each_bytes es (λ i. h (suc i)) in
    omega (arith, here, rest, sum_by-cons (λ (e : Entry). raster_bytes_in e.state) e es)

no_bytes : (contents : Contents) (fonts : FontSet) → AreRight contents fonts → fonts.want ≡ wants.Packets → raster_bytes fonts.fonts ≡ 0
unfolding raster_bytes state_at
no_bytes contents fonts right wanted =
    each_bytes fonts.fonts
    (λ i. state_bytes contents fonts.units (key_at fonts i) (state_in (slice_get fonts.fonts i)) (λ l. subst (λ (w : Want). FontOf contents fonts.units w (key_at fonts i) (state_in (slice_get fonts.fonts i))) wanted (right i l)))

serving_copy : (contents : Contents) (units : Units) (ds : List Definition) (pages : List PageOf) (fonts : FontSet) → ServeCopy contents units ds pages fonts → Serving wants.Packets contents units ds pages fonts
serving_copy contents units ds pages fonts s =
    let none = no_bytes contents fonts s.right s.wanted in
    record { same = s.same; wanted = s.wanted; right = s.right; covers = s.covers; few = s.few; room = omega (arith, none) }

-- ---- no reason

same_doc : OneDocument → (job : CopyJob) (told : Told) (plain : PlainCopy job told) (source : Source job.input told) → source.doc ≡ plain.doc
same_doc one job told plain source =
    let bytes : source.input.bytes ≡ plain.bytes = held_same told.held plain.contents job.input plain.bytes source.input.bytes plain.tells plain.held source.input.held in
    one plain.bytes source.doc plain.doc (subst (λ (b : List ℕ). IsDoc b source.doc) bytes source.is) plain.is

-- What a plain job says of the document that the run has read, which is the same.
record PlainOf (job : CopyJob) (told : Told) (plain : PlainCopy job told) (d : Document) : Type 0 where
  serve : Serving wants.Packets plain.contents (copy_units d job) d.fonts (picked d job) plain.fonts
  marked : Each (IsMarked (copy_grid d job) plain.fonts d.fonts) (picked d job)
  shallow : Each (λ (p : PageOf). IsShallowPage (copy_grid d job) plain.fonts d.fonts p.commands) (picked d job)
  steps : pages_count plain.fonts d.fonts (picked d job) ≤ most_steps

plain_own : (job : CopyJob) (told : Told) (plain : PlainCopy job told) → PlainOf job told plain plain.doc
plain_own job told plain =
    record {
      serve = serving_copy plain.contents (copy_units plain.doc job) (plain.doc).fonts (picked plain.doc job) plain.fonts plain.serve;
      marked = plain.marked;
      shallow = plain.shallow;
      steps = plain.steps;
    }

plain_of : OneDocument → (job : CopyJob) (told : Told) (plain : PlainCopy job told) (source : Source job.input told) → PlainOf job told plain source.doc
plain_of one job told plain source = subst (PlainOf job told plain) (sym (same_doc one job told plain source)) (plain_own job told plain)

no_reason : OneDocument → OneFontOf → WhatCanBeHadIsHad → (job : CopyJob) (told later : Told) (plain : PlainCopy job told) → (Rose told.faults later.faults → ⊥) → (r : Reason job told) (o : Outcome) → reasons.Tells job told r o → Holds job told later r → IsDoneOrRefused o
no_reason one law had job told later plain shelf (Reason.NoInput why) o tells h = absurd (file_read told later plain.contents job.input plain.bytes most_input plain.tells plain.held plain.few shelf why h)
no_reason one law had job told later plain shelf (Reason.NoDocument input kind) o tells h =
    let bytes : input.bytes ≡ plain.bytes = held_same told.held plain.contents job.input plain.bytes input.bytes plain.tells plain.held input.held in
    absurd (h.0 plain.doc (subst (λ (b : List ℕ). IsDoc b plain.doc) (sym bytes) plain.is))
no_reason one law had job told later plain shelf (Reason.NoPages source fault) o tells h =
    select_done source.doc (asked_of job) fault o (subst (λ (d : Document). IsChoice d (asked_of job)) (sym (same_doc one job told plain source)) plain.choice) h tells
no_reason one law had job told later plain shelf (Reason.NoPixels s) o tells h =
    absurd (h (subst (λ (d : Document). IsUsable (copy_units d job)) (sym (same_doc one job told plain s.source)) plain.usable))
no_reason one law had job told later plain shelf (Reason.NoFonts s fault) o tells h =
    let d = s.wanted.source.doc in
    let x = plain_of one job told plain s.wanted.source in
    load_tells s.set fault o (no_load law told plain.contents plain.tells wants.Packets (copy_units d job) d.fonts (picked d job) s.set plain.fonts s.fonts x.serve had later shelf fault h) tells
no_reason one law had job told later plain shelf (Reason.NoMarks c fault) o tells h =
    let s = c.supplied in
    let d = s.wanted.source.doc in
    let x = plain_of one job told plain s.wanted.source in
    absurd (no_stop law told plain.contents plain.tells wants.Packets (copy_units d job) d.fonts (picked d job) s.set plain.fonts s.fonts x.serve (copy_grid d job) c.covers x.marked x.shallow x.steps fault h)

-- ---- the whole run

ends_done : OneDocument → OneFontOf → WhatCanBeHadIsHad → (job : CopyJob) (told later : Told) (old new : Seen) (o : Outcome) (plain : PlainCopy job told) → (Rose told.faults later.faults → ⊥) → (Rose old.faults new.faults → ⊥) → (e : End job told) (written : Option (List ℕ)) (said : List (List ℕ))
    → copied_job.Tells job told e o → Means job told later e written said → RoseFor job told e old new → IsDoneOrRefused o
ends_done one law had job told later old new o plain shelf tray End.Finished written said tells means rose = subst IsDoneOrRefused (sym tells) tt
ends_done one law had job told later old new o plain shelf tray End.Unwritten written said tells means rose = absurd (tray rose)
ends_done one law had job told later old new o plain shelf tray End.Wanting written said tells means rose = subst IsDoneOrRefused (sym tells) tt
ends_done one law had job told later old new o plain shelf tray End.TooLong written said tells (w, long, none, warned) rose = absurd (let few = plain.short w in omega (arith, few, long))
ends_done one law had job told later old new o plain shelf tray (End.Refused r) written said tells means rose = no_reason one law had job told later plain shelf r o tells means.2

job_done : OneDocument → OneFontOf → WhatCanBeHadIsHad → (job : CopyJob) (told later : Told) (old new : Seen) (o : Outcome) → PlainCopy job told → (Rose told.faults later.faults → ⊥) → (Rose old.faults new.faults → ⊥) → Leaves job told later old new o → IsDoneOrRefused o
job_done one law had job told later old new o plain shelf tray h = ends_done one law had job told later old new o plain shelf tray h.end h.written h.said h.tells h.means h.rose

words_done : OneDocument → OneFontOf → WhatCanBeHadIsHad → OneJob → (words : List (List ℕ)) (told later : Told) (old new : Seen) (o : Outcome) (job : CopyJob) → Asks words (Copying job) → PlainCopy job told → (Rose told.faults later.faults → ⊥) → (Rose old.faults new.faults → ⊥)
    → WordsLeave words told later old new o → IsDoneOrRefused o
words_done one law had jobs words told later old new o job is plain shelf tray (inl (inl e, same, none)) = subst IsDoneOrRefused (sym e) tt
words_done one law had jobs words told later old new o job is plain shelf tray (inl (inr (index, e, wrong), same, none)) = absurd (not_wrong words index (Copying job, is) wrong.here)
words_done one law had jobs words told later old new o job is plain shelf tray (inr (other, there, leaves)) = by other (jobs words other (Copying job) there is) leaves
  where
    by : (x : Job) → x ≡ Copying job → JobLeaves x told later old new o → IsDoneOrRefused o
    by x e h = job_done one law had job told later old new o plain shelf tray (subst (λ (j : Job). JobLeaves j told later old new o) e h)

pub copies_all : OneDocument → OneFontOf → WhatCanBeHadIsHad → OneJob → (words : List (List ℕ)) (told later : Told) (old between new : Seen) (o : Outcome) → WordsLeave words told later old between o → SaysLine (message_of o) between new → CopiesAll words told later old new o
copies_all one law had jobs words told later old between new o leaves line job is plain shelf tray =
    words_done one law had jobs words told later old between o job is plain shelf (λ rose. tray (subst (λ (n : ℕ). Rose old.faults n) (sym (line_faults (message_of o) between new line)) rose)) leaves

-- What can be listed is listed: each other end of a run has a reason, and none of the reasons is there.
use Rattle.std.proofs.Common.{◌≡◌, ℕ, List, Option, Some, sym, subst, ◌∙◌, inl, inr}
use Rattle.std.specs.Prelude.{nat_eq}
use Rattle.dv_base.specs.Causes.{Rose}
use Rattle.dv_base.specs.Shelf.{Contents, Told}
use Rattle.dv_base.specs.Tray.{Seen}
use Rattle.dv_base.specs.UnitPixels.{IsUsable, pixels_of_one}
use Rattle.dvi_doc.specs.Document.{Document}
use Rattle.dvi_doc.specs.Grammar.{IsDoc}
use Rattle.dvi_doc.specs.Laws.{OneDocument}
use Rattle.dv_words.specs.Jobs.{Job, ListJob}
use Rattle.dv_words.specs.Jobs.Job.{Listing}
use Rattle.dv_words.specs.Words.{Asks}
use Rattle.font_set.specs.Alike.{Alike, AreRight, OneFontOf}
use Rattle.font_set.specs.Fonts.{FontSet}
use Rattle.dvitype_list.specs.Leaves.{AreOfFiles}
use Rattle.dvitype_list.specs.Listing.{Course, magnification_of}
use Rattle.dvitype_list.specs.declared.fault.ListFault.{ListFault}
use Rattle.dv_top.specs.Completeness.{IsDoneOrRefused}
use Rattle.dv_top.specs.Lines.{SaysLine}
use Rattle.dv_top.specs.Listable.{EndsAt, IsWhole, Listable, listed_request, listed_units, listing_with}
use Rattle.dv_top.specs.Listed as listed
use Rattle.dv_top.specs.Listed.{End, Leaves, Means, RoseFor}
use Rattle.dv_top.specs.Lists.{ListsAll, Plain}
use Rattle.dv_top.specs.Message.{message_of}
use Rattle.dv_top.specs.NotListed as reasons
use Rattle.dv_top.specs.NotListed.{Holds, Reason}
use Rattle.dv_top.specs.Reading.{Source, most_input}
use Rattle.dv_top.specs.Selecting.{IsChoice, places_of}
use Rattle.dv_top.specs.WholeRun.{JobLeaves, WordsLeave}
use Rattle.dv_top.specs.declared.outcome.Outcome.{Outcome}
use Rattle.dv_top.proofs.Complete.{OneJob, file_read, held_same, not_wrong, select_done}
use Rattle.dv_top.proofs.ListBeside.{Beside, listings_beside}
use Rattle.dv_top.proofs.ListServed.{agree, no_stop}
use Rattle.dv_top.proofs.Said.{line_faults}

same_doc : OneDocument → (job : ListJob) (told : Told) (plain : Plain job told) (source : Source job.input told) → source.doc ≡ plain.doc
same_doc one job told plain source =
    let bytes : source.input.bytes ≡ plain.bytes = held_same told.held plain.contents job.input plain.bytes source.input.bytes plain.tells plain.held source.input.held in
    one plain.bytes source.doc plain.doc (subst (λ (b : List ℕ). IsDoc b source.doc) bytes source.is) plain.is

-- What a plain job says of the document that the run has read, which is the same.
record PlainOf (job : ListJob) (fonts : FontSet) (d : Document) : Type 0 where
  choice : IsChoice d (listed_request job)
  usable : IsUsable (listed_units d job)
  same : fonts.units ≡ listed_units d job
  whole : IsWhole (listing_with d job fonts)

plain_of : OneDocument → (job : ListJob) (told : Told) (plain : Plain job told) (source : Source job.input told) → PlainOf job plain.fonts source.doc
plain_of one job told plain source =
    subst (PlainOf job plain.fonts) (sym (same_doc one job told plain source)) (record { choice = plain.choice; usable = plain.usable; same = plain.same; whole = plain.whole })

right_of : (told : Told) (contents : Contents) (set : FontSet) → told.held ≡ Some contents → AreOfFiles told.held set → AreRight contents set
right_of told contents set tells files = subst (λ (o : Option Contents). AreOfFiles o set) tells files

-- ---- no reason

-- the listing of the run doesn't end early
no_end : OneDocument → OneFontOf → (job : ListJob) (told later : Told) (plain : Plain job told) → (Rose told.faults later.faults → ⊥) → (l : Listable job told) (e : ListFault) → EndsAt l later e → ⊥
no_end one law job told later plain shelf l e h =
    let d = l.selected.source.doc in
    let x = plain_of one job told plain l.selected.source in
    let alike : Alike plain.contents l.set plain.fonts =
    record { units = l.units ∙ sym x.same; want = l.wanted ∙ sym plain.wanted; left = right_of told plain.contents l.set plain.tells l.files; right = plain.right } in
    let pixels = pixels_of_one (listed_units d job) in
    let beside =
    listings_beside pixels d.fonts l.set plain.fonts (agree law plain.contents l.set plain.fonts alike l.wanted) (nat_eq job.detail 1) d (magnification_of d.head job.mag) (places_of d (listed_request job)) x.whole.standing x.whole.ends in
    no_stop law plain.contents l.set plain.fonts alike l.wanted told later plain.tells shelf pixels d.fonts h.command h.standing e (subst (λ (c : Course). Beside pixels d.fonts l.set plain.fonts c x.whole.standing) h.stops beside) h.why

no_reason : OneDocument → (job : ListJob) (told later : Told) (plain : Plain job told) → (Rose told.faults later.faults → ⊥) → (r : Reason job told) (o : Outcome) → reasons.Tells job told r o → Holds job told later r → IsDoneOrRefused o
no_reason one job told later plain shelf (Reason.NoInput why) o tells h = absurd (file_read told later plain.contents job.input plain.bytes most_input plain.tells plain.held plain.few shelf why h)
no_reason one job told later plain shelf (Reason.NoDocument input kind) o tells h =
    let bytes : input.bytes ≡ plain.bytes = held_same told.held plain.contents job.input plain.bytes input.bytes plain.tells plain.held input.held in
    absurd (h.0 plain.doc (subst (λ (b : List ℕ). IsDoc b plain.doc) (sym bytes) plain.is))
no_reason one job told later plain shelf (Reason.NoPages source fault) o tells h = select_done source.doc (listed_request job) fault o (plain_of one job told plain source).choice h tells
no_reason one job told later plain shelf (Reason.NoPixels s) o tells h = absurd (h (plain_of one job told plain s.source).usable)

-- ---- the whole run

ends_done : OneDocument → OneFontOf → (job : ListJob) (told later : Told) (old new : Seen) (o : Outcome) (plain : Plain job told) → (Rose told.faults later.faults → ⊥) → (Rose old.faults new.faults → ⊥) → (e : End job told) (written : Option (List ℕ))
    → listed.Tells job told e o → Means job told later e written → RoseFor job told e old new → IsDoneOrRefused o
ends_done one law job told later old new o plain shelf tray (End.Finished l) written tells means rose = subst IsDoneOrRefused (sym tells) tt
ends_done one law job told later old new o plain shelf tray (End.Stopped l e) written tells means rose = absurd (no_end one law job told later plain shelf l e means.0)
ends_done one law job told later old new o plain shelf tray (End.Unwritten l) written tells means rose = absurd (tray rose)
ends_done one law job told later old new o plain shelf tray End.Wanting written tells means rose = subst IsDoneOrRefused (sym tells) tt
ends_done one law job told later old new o plain shelf tray (End.Refused r) written tells means rose = no_reason one job told later plain shelf r o tells means.1

words_done : OneDocument → OneFontOf → OneJob → (words : List (List ℕ)) (told later : Told) (old new : Seen) (o : Outcome) (job : ListJob) → Asks words (Listing job) → Plain job told → (Rose told.faults later.faults → ⊥) → (Rose old.faults new.faults → ⊥)
    → WordsLeave words told later old new o → IsDoneOrRefused o
words_done one law jobs words told later old new o job is plain shelf tray (inl (inl e, same, none)) = subst IsDoneOrRefused (sym e) tt
words_done one law jobs words told later old new o job is plain shelf tray (inl (inr (index, e, wrong), same, none)) = absurd (not_wrong words index (Listing job, is) wrong.here)
words_done one law jobs words told later old new o job is plain shelf tray (inr (other, there, leaves)) = by other (jobs words other (Listing job) there is) leaves
  where
    by : (x : Job) → x ≡ Listing job → JobLeaves x told later old new o → IsDoneOrRefused o
    by x e h =
        let l : Leaves job told later old new o = subst (λ (j : Job). JobLeaves j told later old new o) e h in
        ends_done one law job told later old new o plain shelf tray l.end l.written l.tells l.means l.rose

pub lists_all : OneDocument → OneFontOf → OneJob → (words : List (List ℕ)) (told later : Told) (old between new : Seen) (o : Outcome) → WordsLeave words told later old between o → SaysLine (message_of o) between new → ListsAll words told later old new o
lists_all one law jobs words told later old between new o leaves line job is plain shelf tray =
    words_done one law jobs words told later old between o job is plain shelf (λ rose. tray (subst (λ (n : ℕ). Rose old.faults n) (sym (line_faults (message_of o) between new line)) rose)) leaves

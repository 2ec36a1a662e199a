-- What can be printed is printed: each other end of a run has a reason, and none of the reasons is there.
use Rattle.std.proofs.Common.{◌≡◌, ◌<◌, ◌≤◌, ◌+◌, ◌⊎◌, ℕ, ℤ, zero, suc, List, [], ◌∷◌, ◌++◌, length, take, drop, Option, Some, None, Result, Ok, Err, Bool, true, false, arith, refl, sym, ap, subst, ◌∙◌, inl, inr}
use Rattle.std.specs.Prelude.{slice_get}
use Rattle.std.specs.List.{Contains}
use Rattle.std.proofs.lemmas.List.{append-nil, take-append-drop}
use Rattle.dv_base.specs.Causes.{Rose}
use Rattle.dv_base.specs.Shelf.{Contents, IsLong, Told, WhereHeld}
use Rattle.dv_base.specs.Tray.{Seen}
use Rattle.dv_base.specs.UnitPixels.{IsUsable}
use Rattle.positions.specs.Mark.{Mark}
use Rattle.dvi_doc.specs.Document.{Document, PageOf}
use Rattle.dvi_doc.specs.Grammar.{IsDoc}
use Rattle.dvi_doc.specs.Laws.{OneDocument}
use Rattle.dv_words.specs.Chosen.{IsCause}
use Rattle.dv_words.specs.Jobs.{Job, PrintJob}
use Rattle.dv_words.specs.Jobs.Job.{Printing}
use Rattle.dv_words.specs.Selection.{chosen as chosen_places, limited, kept_from, spans_of, times, turned, wanted_in}
use Rattle.dv_words.specs.Words.{Accepted, Asks}
use Rattle.dv_words.specs.declared.selection.SelectFault.{SelectFault}
use Rattle.dv_words.specs.declared.selection.SelectFault.TheVariants as select
use Rattle.dv_words.specs.declared.spans.Span.{Span}
use Rattle.font_set.specs.Alike.{OneFontOf, WhatCanBeHadIsHad}
use Rattle.font_set.specs.Fonts.{FontSet}
use Rattle.font_set.specs.declared.fault.FontFault.{FontFault}
use Rattle.font_set.specs.declared.fault.FontFault.TheVariants as font
use Rattle.font_set.specs.declared.fault.LoadFault.{LoadFault}
use Rattle.font_set.specs.declared.fault.LoadFault.TheVariants as load
use Rattle.font_set.specs.declared.want.Want.TheVariants as wants
use Rattle.vf_expand.specs.Page.{IsShallowPage, pages_count}
use Rattle.sections.specs.Cost.{marks_cost}
use Rattle.dv_top.specs.Completeness.{IsDoneOrRefused, IsHeldWithin, Plain, PrintsAll, Serve, headers_with, marks_with}
use Rattle.dv_top.specs.Covered.{Covered, Marked, doc_of, set_of}
use Rattle.dv_top.specs.Each.{Each}
use Rattle.dv_top.specs.Lines.{SaysLine}
use Rattle.dv_top.specs.Message.{message_of}
use Rattle.dv_top.specs.Printed as printed_job
use Rattle.dv_top.specs.Printed.{End, Leaves, Means, RoseFor}
use Rattle.dv_top.specs.Printing.{IsMarked, chosen, grid_of, marks_of_each, most_steps, printed, request_of, units_across, units_down}
use Rattle.dv_top.specs.Reading.{Input, Source, Unread, UnreadHolds, most_input}
use Rattle.dv_top.specs.Reasons as reasons
use Rattle.dv_top.specs.Reasons.{Holds, IsTooBig, Reason, most_header, most_headers}
use Rattle.dv_top.specs.Selecting.{IsChoice, IsNoChoice, Request, SelectTells, numbers_in, once, pages_at, places_by, put_page}
use Rattle.dv_top.specs.Tells.{FontTells, LoadTells}
use Rattle.dv_top.specs.WholeRun.{JobLeaves, WordsLeave}
use Rattle.dv_top.specs.declared.outcome.Outcome.{Outcome}
use Rattle.dv_top.specs.declared.outcome.Outcome.TheVariants as outcome
use Rattle.dv_top.proofs.Lists.{each_at, same_some}
use Rattle.dv_top.proofs.Said.{line_faults}
use Rattle.dv_top.proofs.Served.{all_light, no_load, no_stop, same_headers, serving}

-- ---- words

pub not_wrong : (words : List (List ℕ)) (index : ℕ) → Accepted words → (index < length words) × (((rest : List (List ℕ)) × Accepted (take (index + 1) words ++ rest)) → ⊥) ⊎ (index ≡ length words) × (Accepted words → ⊥) → ⊥
not_wrong words index h (inl (inside, none)) = none (drop (index + 1) words, subst Accepted (sym (take-append-drop (index + 1) words)) h)
not_wrong words index h (inr (ends, none)) = none h

-- ---- files

pub held_same : (told : Option Contents) (contents : Contents) (name bytes other : List ℕ) → told ≡ Some contents → contents name ≡ Some bytes → WhereHeld told (λ held. held name ≡ Some other) → other ≡ bytes
held_same told contents name bytes other tells here held =
    let there : contents name ≡ Some other = subst (λ t. WhereHeld t (λ h. h name ≡ Some other)) tells held in
    same_some other bytes (sym there ∙ here)

held_some : (told : Option Contents) (contents : Contents) (name bytes : List ℕ) → told ≡ Some contents → contents name ≡ Some bytes → WhereHeld told (λ held. held name ≡ None) → ⊥
held_some told contents name bytes tells here held =
    let there : contents name ≡ None = subst (λ t. WhereHeld t (λ h. h name ≡ None)) tells held in
    let e : Some bytes ≡ None = sym here ∙ there in cc

held_short : (told : Option Contents) (contents : Contents) (name bytes : List ℕ) (limit : ℕ) → told ≡ Some contents → contents name ≡ Some bytes → length bytes ≤ limit → WhereHeld told (λ held. IsLong limit (held name)) → ⊥
held_short told contents name bytes limit tells here few held =
    let there : IsLong limit (contents name) = subst (λ t. WhereHeld t (λ h. IsLong limit (h name))) tells held in
    let long : limit < length bytes = subst (IsLong limit) here there in
    omega (arith, few, long)

-- a file that is held within its limit is read where the shelf has no fault
pub file_read : (told later : Told) (contents : Contents) (name bytes : List ℕ) (limit : ℕ) → told.held ≡ Some contents → contents name ≡ Some bytes → length bytes ≤ limit → (Rose told.faults later.faults → ⊥) → (why : Unread) → UnreadHolds name limit told later why → ⊥
file_read told later contents name bytes limit tells held few shelf Unread.Absent h = held_some told.held contents name bytes tells held h.1
file_read told later contents name bytes limit tells held few shelf Unread.Long h = held_short told.held contents name bytes limit tells held few h.1
file_read told later contents name bytes limit tells held few shelf Unread.Failed h = shelf h

same_doc : OneDocument → (job : PrintJob) (told : Told) (plain : Plain job told) (source : Source job.input told) → source.doc ≡ plain.doc
same_doc one job told plain source =
    let bytes : source.input.bytes ≡ plain.bytes = held_same told.held plain.contents job.input plain.bytes source.input.bytes plain.tells plain.held source.input.held in
    one plain.bytes source.doc plain.doc (subst (λ (b : List ℕ). IsDoc b source.doc) bytes source.is) plain.is

each_contains : (P : List ℕ → Type 0) (names : List (List ℕ)) (name : List ℕ) → Each P names → Contains names name → P name
each_contains P [] name each (i, l, e) = absurd (omega (arith, l))
each_contains P (n ∷ ns) name each (zero, l, e) = subst P e each.0
each_contains P (n ∷ ns) name each (suc i, l, e) = each_contains P ns name each.1 (i, omega (arith, l), e)

-- ---- pages

pages_join : (P : PageOf → Type 0) (pages : List PageOf) (xs ys : List ℕ) → Each P (pages_at pages xs) → Each P (pages_at pages ys) → Each P (pages_at pages (xs ++ ys))
pages_join P pages [] ys h k = k
pages_join P pages (x ∷ xs) ys h k = by (slice_get pages x) (λ a. pages_join P pages xs ys a k) h
  where
    by : (o : Option PageOf) → (Each P (pages_at pages xs) → Each P (pages_at pages (xs ++ ys))) → Each P (put_page o (pages_at pages xs)) → Each P (put_page o (pages_at pages (xs ++ ys)))
    by None f h = f h
    by (Some p) f h = (h.0, f h.1)

pages_times : (P : PageOf → Type 0) (pages : List PageOf) (n : ℕ) (xs : List ℕ) → Each P (pages_at pages xs) → Each P (pages_at pages (times n xs))
pages_times P pages zero xs h = tt
pages_times P pages (suc n) xs h = pages_join P pages xs (times n xs) h (pages_times P pages n xs h)

-- what is so of the chosen pages is so of those that are printed
each_printed : (P : PageOf → Type 0) (doc : Document) (job : PrintJob) → Each P (chosen doc job) → Each P (printed doc job)
each_printed P doc job h = by (spans_of (numbers_in doc) (wanted_in job.windows)) h
  where
    by : (r : Result (List Span) ℤ) → Each P (pages_at doc.pages (places_by (numbers_in doc) (once (request_of job)) r)) → Each P (pages_at doc.pages (places_by (numbers_in doc) (request_of job) r))
    by (Ok spans) h =
        let base = turned job.reverse (limited job.limit (kept_from 0 spans job.parity (numbers_in doc))) in
        pages_times P doc.pages job.collated base (subst (λ (xs : List ℕ). Each P (pages_at doc.pages xs)) (append-nil base) h)
    by (Err number) h = h

ok_err : {A B : Type 0} (r : Result A B) (x : A) (y : B) → r ≡ Ok x → r ≡ Err y → ⊥
ok_err (Ok a) x y e f = cc
ok_err (Err b) x y e f = cc

same_ok : (r : Result (List Span) ℤ) (x y : List Span) → r ≡ Ok x → r ≡ Ok y → x ≡ y
same_ok (Ok a) x y e f =
    let l : a ≡ x = cc in
    let r : a ≡ y = cc in
    sym l ∙ r
same_ok (Err b) x y e f = absurd cc

pub select_done : (doc : Document) (asked : Request) (fault : SelectFault) (o : Outcome) → IsChoice doc asked → IsNoChoice doc asked fault → SelectTells fault o → IsDoneOrRefused o
select_done doc asked (select.NoSuchPage number) o choice cause tells = absurd (ok_err (spans_of (numbers_in doc) (wanted_in asked.windows)) choice.spans number choice.are cause)
select_done doc asked select.TooManyPages o choice cause tells =
    let same : cause.spans ≡ choice.spans = same_ok (spans_of (numbers_in doc) (wanted_in asked.windows)) cause.spans choice.spans cause.are choice.are in
    let count = ap (λ (xs : List Span). length (chosen_places (numbers_in doc) xs asked.parity asked.limit asked.reversed asked.collated)) same in
    let here = ap length choice.is in
    absurd (omega (arith, cause.many, choice.few, count, here))
select_done doc asked select.OutOfMemory o choice cause tells = subst IsDoneOrRefused (sym tells) tt

-- ---- what tells of want of memory

memory_tells : (f : FontFault) (o : Outcome) → f ≡ font.OutOfMemory → FontTells f o → IsDoneOrRefused o
memory_tells f o e h = by o (subst (λ (x : FontFault). FontTells x o) e h)
  where
    by : (o : Outcome) → FontTells font.OutOfMemory o → IsDoneOrRefused o
    by outcome.OutOfMemory k = tt
    by _ k = absurd k

pub load_tells : (set : FontSet) (fault : LoadFault) (o : Outcome) → fault ≡ load.Font font.OutOfMemory → LoadTells set fault o → IsDoneOrRefused o
load_tells set fault o e h = memory_tells font.OutOfMemory o refl (subst (λ (x : LoadFault). LoadTells set x o) e h)

-- ---- no reason

-- What a plain job says of the document that the run has read, which is the same.
record PlainOf (job : PrintJob) (told : Told) (plain : Plain job told) (d : Document) : Type 0 where
  serve : Serve plain.contents (units_across d job) d.fonts (chosen d job) plain.fonts
  marked : Each (IsMarked (grid_of d job) plain.fonts d.fonts) (chosen d job)
  shallow : Each (λ (p : PageOf). IsShallowPage (grid_of d job) plain.fonts d.fonts p.commands) (chosen d job)
  steps : pages_count plain.fonts d.fonts (chosen d job) ≤ most_steps
  few_headers : length (headers_with d job plain.fonts) ≤ most_headers
  headers : Each (IsHeldWithin plain.contents most_header) (headers_with d job plain.fonts)
  light : Each (λ (ms : List Mark). marks_cost plain.fonts ms ≤ job.memory) (marks_with d job plain.fonts (printed d job))

plain_own : (job : PrintJob) (told : Told) (plain : Plain job told) → PlainOf job told plain plain.doc
plain_own job told plain =
    record { serve = plain.serve; marked = plain.marked; shallow = plain.shallow; steps = plain.steps; few_headers = plain.few_headers; headers = plain.headers; light = plain.light }

plain_of : OneDocument → (job : PrintJob) (told : Told) (plain : Plain job told) (source : Source job.input told) → PlainOf job told plain source.doc
plain_of one job told plain source = subst (PlainOf job told plain) (sym (same_doc one job told plain source)) (plain_own job told plain)

-- the headers are the same with the fonts of the run
headers_here : OneDocument → OneFontOf → (job : PrintJob) (told : Told) (plain : Plain job told) (m : Marked job told) → reasons.names_for m.covered ≡ headers_with (doc_of m.covered) job plain.fonts
headers_here one law job told plain m =
    let s = m.covered.sources in
    let d = s.selected.source.doc in
    let x = plain_of one job told plain s.selected.source in
    same_headers law told plain.contents plain.tells wants.Rasters (units_across d job) d.fonts (chosen d job) s.set plain.fonts s.fonts (serving x.serve) (grid_of d job) job.headers (chosen d job) m.defined x.marked

no_reason : OneDocument → OneFontOf → WhatCanBeHadIsHad → (job : PrintJob) (told later : Told) (plain : Plain job told) → (Rose told.faults later.faults → ⊥) → (r : Reason job told) (o : Outcome) → reasons.Tells job told r o → Holds job told later r → IsDoneOrRefused o
no_reason one law had job told later plain shelf (Reason.NoInput why) o tells h = absurd (file_read told later plain.contents job.input plain.bytes most_input plain.tells plain.held plain.few shelf why h)
no_reason one law had job told later plain shelf (Reason.NoDocument input kind) o tells h =
    let bytes : input.bytes ≡ plain.bytes = held_same told.held plain.contents job.input plain.bytes input.bytes plain.tells plain.held input.held in
    absurd (h.0 plain.doc (subst (λ (b : List ℕ). IsDoc b plain.doc) (sym bytes) plain.is))
no_reason one law had job told later plain shelf (Reason.NoPages source fault) o tells h =
    select_done source.doc (request_of job) fault o (subst (λ (d : Document). IsChoice d (request_of job)) (sym (same_doc one job told plain source)) plain.choice) h tells
no_reason one law had job told later plain shelf (Reason.NoPixels s units) o tells (inl h) =
    absurd (h.1 (subst IsUsable (sym (h.0 ∙ ap (λ (d : Document). units_across d job) (same_doc one job told plain s.source))) plain.usable))
no_reason one law had job told later plain shelf (Reason.NoPixels s units) o tells (inr h) =
    absurd (h.2 (subst IsUsable (sym (h.1 ∙ ap (λ (d : Document). units_down d job) (same_doc one job told plain s.source))) plain.usable_down))
no_reason one law had job told later plain shelf (Reason.NoFonts s fault) o tells h =
    let d = s.selected.source.doc in
    let x = plain_of one job told plain s.selected.source in
    load_tells s.set fault o (no_load law told plain.contents plain.tells wants.Rasters (units_across d job) d.fonts (chosen d job) s.set plain.fonts s.fonts (serving x.serve) had later shelf fault h) tells
no_reason one law had job told later plain shelf (Reason.NoMarks c fault) o tells h =
    let s = c.sources in
    let d = s.selected.source.doc in
    let x = plain_of one job told plain s.selected.source in
    absurd (no_stop law told plain.contents plain.tells wants.Rasters (units_across d job) d.fonts (chosen d job) s.set plain.fonts s.fonts (serving x.serve) (grid_of d job) c.covers x.marked x.shallow x.steps fault h)
no_reason one law had job told later plain shelf (Reason.ManyHeaders m) o tells h =
    let x = plain_of one job told plain m.covered.sources.selected.source in
    let many : most_headers < length (headers_with (doc_of m.covered) job plain.fonts) = subst (λ (ns : List (List ℕ)). most_headers < length ns) (headers_here one law job told plain m) h in
    absurd (omega (arith, many, x.few_headers))
no_reason one law had job told later plain shelf (Reason.NoHeader m name why) o tells h =
    let x = plain_of one job told plain m.covered.sources.selected.source in
    let among : Contains (headers_with (doc_of m.covered) job plain.fonts) name = subst (λ (ns : List (List ℕ)). Contains ns name) (headers_here one law job told plain m) h.0 in
    let file = each_contains (IsHeldWithin plain.contents most_header) (headers_with (doc_of m.covered) job plain.fonts) name x.headers among in
    absurd (file_read told later plain.contents name file.bytes most_header plain.tells file.held file.few shelf why h.1)
no_reason one law had job told later plain shelf (Reason.NoRoom m page need have) o tells h =
    let s = m.covered.sources in
    let d = s.selected.source.doc in
    let x = plain_of one job told plain s.selected.source in
    let marked = each_printed (IsMarked (grid_of d job) plain.fonts d.fonts) d job x.marked in
    let light = all_light law told plain.contents plain.tells wants.Rasters (units_across d job) d.fonts (chosen d job) s.set plain.fonts s.fonts (serving x.serve) (grid_of d job) job.memory (printed d job) marked x.light in
    let here = each_at (λ (ms : List Mark). marks_cost s.set ms ≤ job.memory) (marks_of_each (grid_of d job) s.set d.fonts (printed d job)) h.before h.marks h.at light in
    absurd (omega (arith, here, h.costs, h.has, h.above))

-- ---- the whole run

ends_done : OneDocument → OneFontOf → WhatCanBeHadIsHad → (job : PrintJob) (told later : Told) (old new : Seen) (o : Outcome) (plain : Plain job told) → (Rose told.faults later.faults → ⊥) → (Rose old.faults new.faults → ⊥) → (e : End job told) (written : Option (List ℕ)) (said : List (List ℕ))
    → printed_job.Tells job told e o → Means job told later e written said → RoseFor job told e old new → IsDoneOrRefused o
ends_done one law had job told later old new o plain shelf tray End.Finished written said tells means rose = subst IsDoneOrRefused (sym tells) tt
ends_done one law had job told later old new o plain shelf tray End.Unwritten written said tells means rose = absurd (tray rose)
ends_done one law had job told later old new o plain shelf tray End.Wanting written said tells means rose = subst IsDoneOrRefused (sym tells) tt
ends_done one law had job told later old new o plain shelf tray (End.Refused r) written said tells means rose = no_reason one law had job told later plain shelf r o tells means.2

job_done : OneDocument → OneFontOf → WhatCanBeHadIsHad → (job : PrintJob) (told later : Told) (old new : Seen) (o : Outcome) → Plain job told → (Rose told.faults later.faults → ⊥) → (Rose old.faults new.faults → ⊥) → Leaves job told later old new o → IsDoneOrRefused o
job_done one law had job told later old new o plain shelf tray h = ends_done one law had job told later old new o plain shelf tray h.end h.written h.said h.tells h.means h.rose

-- words ask for one job
abbrev pub OneJob : Type 0
OneJob = (words : List (List ℕ)) (a b : Job) → Asks words a → Asks words b → a ≡ b

words_done : OneDocument → OneFontOf → WhatCanBeHadIsHad → OneJob → (words : List (List ℕ)) (told later : Told) (old new : Seen) (o : Outcome) (job : PrintJob) → Asks words (Printing job) → Plain job told → (Rose told.faults later.faults → ⊥) → (Rose old.faults new.faults → ⊥)
    → WordsLeave words told later old new o → IsDoneOrRefused o
words_done one law had jobs words told later old new o job is plain shelf tray (inl (inl e, same, none)) = subst IsDoneOrRefused (sym e) tt
words_done one law had jobs words told later old new o job is plain shelf tray (inl (inr (index, e, wrong), same, none)) = absurd (not_wrong words index (Printing job, is) wrong.here)
words_done one law had jobs words told later old new o job is plain shelf tray (inr (other, there, leaves)) = by other (jobs words other (Printing job) there is) leaves
  where
    by : (x : Job) → x ≡ Printing job → JobLeaves x told later old new o → IsDoneOrRefused o
    by x e h = job_done one law had job told later old new o plain shelf tray (subst (λ (j : Job). JobLeaves j told later old new o) e h)

pub complete : OneDocument → OneFontOf → WhatCanBeHadIsHad → OneJob → (words : List (List ℕ)) (told later : Told) (old between new : Seen) (o : Outcome) → WordsLeave words told later old between o → SaysLine (message_of o) between new → PrintsAll words told later old new o
complete one law had jobs words told later old between new o leaves line job is plain shelf tray =
    words_done one law had jobs words told later old between o job is plain shelf (λ rose. tray (subst (λ (n : ℕ). Rose old.faults n) (sym (line_faults (message_of o) between new line)) rose)) leaves

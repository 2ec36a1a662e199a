-- A text that prints pages in sections has the events that it owes, and so has each cut of it.
use Rattle.std.proofs.Common.{◌≡◌, refl, sym, subst, ℕ, zero, suc, ◌<◌, List, [], ◌∷◌, Some, arith}
use Rattle.std.specs.Prelude.{codes}
use Rattle.ps_subset.specs.Token as token
use Rattle.ps_subset.specs.State.{Machine, entry}
use Rattle.ps_subset.specs.Run.{start, events}
use Rattle.ps_subset.specs.Prolog.{line}
use Rattle.ps_subset.specs.Job.{Job, points}
use Rattle.ps_subset.specs.Conditions.{number, prolog_state}
use Rattle.ps_subset.specs.FontConditions.{HasFontArrays}
use Rattle.ps_subset.specs.Printout.{Printout, text_of, events_of, sections_lines, sections_events, IsGoodText}
use Rattle.ps_subset.specs.Blocks.{headers_lines, headers_events, AllShort}
use Rattle.ps_subset.specs.Laws.{EventsOfPrintout, EventsOfCutPrintout}
use Rattle.ps_subset.proofs.Open.{machine_open}
use Rattle.ps_subset.proofs.Steps.{◌▸◌, done, end_goes}
use Rattle.ps_subset.proofs.Reading.{end_reads}
use Rattle.ps_subset.proofs.Runs.{Runs, Runs-append, Runs-events, nothing_runs, events_of_prefix}
use Rattle.ps_subset.proofs.Comments.{head_runs, comment_runs}
use Rattle.ps_subset.proofs.Setup.{prolog_runs, setup_runs, setup_state, setup_entries, setup_knows, setup_top, setup_job, setup_copies}
use Rattle.ps_subset.proofs.PageItems.{block_runs}
use Rattle.ps_subset.proofs.Ready.{IsReady}
use Rattle.ps_subset.proofs.Sections.{sections_run}

setup_arrays : (copies : ℕ) (j : Job) → HasFontArrays 3 4 5 (setup_state copies j).store (1 ∷ 0 ∷ [])
unfolding machine_open
setup_arrays copies j = record { FM_stands = refl; FX_stands = refl; EN_stands = refl; FM_is = refl }

setup_delta : (j : Job) → entry (codes "delta") (setup_entries j (points j.height)) ≡ Some (number 0)
unfolding entry
setup_delta j = refl

-- the setup leaves a state that is ready
setup_ready : (copies : ℕ) (j : Job) → IsReady j copies 2 1002 2 3 4 5 1 (0 ∷ []) 1200 (setup_entries j (points j.height)) [] (setup_state copies j)
setup_ready copies j = record {
  knows = setup_knows copies j;
  arrays = setup_arrays copies j;
  top = setup_top copies j;
  free = omega arith;
  delta = setup_delta j;
  job = setup_job copies j;
  frame = refl;
  fonts = refl;
  stand = tt;
  copies_are = setup_copies copies j;
  operands_room = omega arith;
  old_operands = refl;
  old_dictionaries = refl;
  stack_room = omega arith;
  saves_room = omega arith;
  pushed_room = omega arith;
  nobody = refl;
}

headers_run : (hs : List (List ℕ)) (m : Machine) → AllShort hs → Runs (headers_lines hs) m m (headers_events hs)
headers_run [] m all = nothing_runs m
headers_run (h ∷ hs) m all = Runs-append (block_runs h m all.0) (headers_run hs m all.1)

text_runs : (t : Printout) (copies : ℕ) → t.copies ≡ suc copies → IsGoodText t → (m : Machine) × Runs (text_of t) start m (events_of t)
text_runs t copies is good =
    let j = t.job in
    let few : suc copies < 65536 = subst (λ n. n < 65536) is good.copies in
    let set = setup_state t.copies j in
    let ready = subst (λ n. IsReady j n 2 1002 2 3 4 5 1 (0 ∷ []) 1200 (setup_entries j (points j.height)) [] set) is (setup_ready t.copies j) in
    let sections : (made : ℕ) × Runs (sections_lines t.comments t.sections) set (record set { saves_made = made }) (sections_events t.comments t.copies j t.sections) =
    subst (λ n. (made : ℕ) × Runs (sections_lines t.comments t.sections) set (record set { saves_made = made }) (sections_events t.comments n j t.sections)) (sym is)
    (sections_run j good.job copies few t.comments set t.sections good.sections ready refl) in
    let last = record set { saves_made = sections.0 } in
    let closed = record last { dictionaries = 0 ∷ [] } in
    let end : Runs (line (codes "end")) last closed [] = record { tokens = token.Name (codes "end") ∷ []; reads = end_reads; goes = end_goes ready.knows refl ▸ done } in
    let comment = comment_runs t.comments in (
      closed,
      Runs-append (head_runs t.head start good.head) (Runs-append (comment (codes "%%BeginProlog") start refl refl) (Runs-append prolog_runs (Runs-append (headers_run t.headers prolog_state good.headers) (Runs-append (comment (codes "%%EndProlog") prolog_state refl refl)
          (Runs-append (comment (codes "%%BeginSetup") prolog_state refl refl) (Runs-append (setup_runs t.copies j good.copies good.job) (Runs-append (comment (codes "%%EndSetup") set refl refl)
          (Runs-append sections.1 (Runs-append (comment (codes "%%Trailer") last refl refl) (Runs-append end (comment (codes "%%EOF") closed refl refl))))))))))),
    )

pub events_of_printout : EventsOfPrintout
events_of_printout t good = go t.copies refl
  where
    go : (n : ℕ) → t.copies ≡ n → events (text_of t) ≡ Some (events_of t)
    go zero is = absurd (omega (arith, good.copies_some))
    go (suc n) is = Runs-events (text_runs t n is good).1

pub events_of_cut_printout : EventsOfCutPrintout
events_of_cut_printout t good xs ys cut =
    events_of_prefix xs ys (events_of t) (subst (λ bytes. events bytes ≡ Some (events_of t)) cut (events_of_printout t good))

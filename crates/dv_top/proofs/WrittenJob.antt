-- A job that can be printed: its text, and what writing it leaves.
use Rattle.std.proofs.Common.{◌≡◌, ◌<◌, ◌≤◌, ◌+◌, ◌-◌, ◌^◌, min, ℕ, ℤ, List, [], ◌∷◌, ◌++◌, length, map, take, drop, Option, Some, None, Result, Ok, Err, arith, refl, sym, ap, subst, ◌∙◌, inl, inr}
use Rattle.std.specs.Prelude.{unsigned_abs}
use Rattle.std.proofs.lemmas.List.{take-append-drop}
use Rattle.dv_base.specs.Shelf.{Told}
use Rattle.dv_base.specs.Tray.{Appends, BeginGives, Begins, Output, Seen, WhereTold, append_last}
use Rattle.dv_base.specs.declared.tray.Begun.TheVariants as begun
use Rattle.dvi_ops.specs.Command.{Definition}
use Rattle.dvi_doc.specs.Document.{Document, PageOf}
use Rattle.dvi_doc.specs.Grammar.{IsDoc}
use Rattle.dvi_doc.specs.Laws.{OneDocument}
use Rattle.dvi_doc.specs.View.{IsRead, ReadDoc}
use Rattle.dv_words.specs.Jobs.{PrintJob}
use Rattle.pk_raster.specs.Font.{Bitmap}
use Rattle.pk_raster.specs.Laws.{AreRows}
use Rattle.font_set.specs.Fonts.{FontSet, bitmap_at}
use Rattle.vf_expand.specs.Grid.{Grid}
use Rattle.vf_expand.specs.Page.{Walk}
use Rattle.ps_subset.specs.Blocks.{AllShort}
use Rattle.ps_emit.specs.Laws.{AllGoodPages, CutTextShows, CutTextSpares, IsGoodSet, IsGoodSetup, IsGoodWork, TextShows, TextSpares}
use Rattle.ps_emit.specs.Pages.{PrintedPage, bytes_of_job}
use Rattle.ps_emit.specs.Written.{counted}
use Rattle.ps_emit.specs.declared.setup.Setup.{Setup}
use Rattle.dv_top.specs.Asked.{IsGoodJob}
use Rattle.dv_top.specs.Covered.{doc_of, set_of}
use Rattle.dv_top.specs.Each.{Each}
use Rattle.dv_top.specs.Headers.{HeldEach}
use Rattle.dv_top.specs.Output.{IsUnbegun, IsUnwritten, IsWritable, IsWritten, Prints}
use Rattle.dv_top.specs.Outputs.{AddsLines, AddsOutput, LeavesLines, LeavesOutput}
use Rattle.dv_top.specs.Printable.{Printable, text_for, warnings_for, work_for}
use Rattle.dv_top.specs.Printed.{End, Finishes, Leaves, LeavesBy}
use Rattle.dv_top.specs.Printing.{IsSetupOf, grid_of, in_sections, plan_of, printed, printed_from}
use Rattle.dv_top.specs.Reasons.{names_for}
use Rattle.dv_top.specs.Selecting.{ArePages, pages_at}
use Rattle.dv_top.specs.Spoken.{SaysAll}
use Rattle.dv_top.specs.Writing.{IsReady, IsWalkable}
use Rattle.dv_top.specs.Wrote.{CutSeen, WroteSeen}
use Rattle.dv_top.specs.declared.outcome.Outcome.{Outcome}
use Rattle.dv_top.specs.declared.outcome.Outcome.TheVariants as outcome
use Rattle.dv_top.specs.declared.print.Printout.{Printout}
use Rattle.dv_top.specs.declared.write.Parts.{Parts}
use Rattle.dv_top.proofs.Origin.{origin_small}
use Rattle.dv_top.proofs.PagesAt.{many_pages, pages_here}
use Rattle.dv_top.proofs.WrittenPages.{all_printed, printed_good, sections_good}

-- a job that is good makes a good setup
good_setup : (job : PrintJob) (paper : ℤ × ℤ) (pages : ℕ) (s : Setup) → pages < 2 ^ 32 → unsigned_abs s.paper.0 < 2 ^ 63 → unsigned_abs s.paper.1 < 2 ^ 63 → IsGoodJob job → IsSetupOf job paper pages s → IsGoodSetup s
good_setup job paper pages s few width height good is =
    record {
      title = rw is.title good.visible;
      pages = omega (arith, few, is.pages_all);
      width = width;
      height = height;
      across_low = omega (arith, is.across, good.across_low);
      across_high = omega (arith, is.across, good.across_high);
      down_low = omega (arith, is.down, good.down_low);
      down_high = omega (arith, is.down, good.down_high);
      origin_x = rw is.origin_x (origin_small job.offset.0 job.dpi.0 good.offset_x good.across_high);
      origin_y = rw is.origin_y (origin_small job.offset.1 job.dpi.1 good.offset_y good.down_high);
      copies_some = omega (arith, is.copies, good.copies_some);
      copies_few = omega (arith, is.copies, good.copies_few);
    }

good_set : (set : FontSet) → length set.fonts ≤ 1000 → ((id code : ℕ) (bitmap : Bitmap) → bitmap_at set id code ≡ Some bitmap → AreRows bitmap) → IsGoodSet set
good_set set few rows = record { few = few; rows = rows }

headers_short : (told : Told) (names headers : List (List ℕ)) → HeldEach told names headers → AllShort headers
headers_short told [] [] h = tt
headers_short told [] (b ∷ bs) h = absurd h
headers_short told (n ∷ ns) [] h = absurd h
headers_short told (n ∷ ns) (b ∷ bs) h = (let few = h.0.0 in omega (arith, few), headers_short told ns bs h.1)

-- the fonts that were found are the document's
pub fonts_same : OneDocument → (r : ReadDoc) (d : Document) → IsRead r → IsDoc r.bytes d → r.fonts ≡ d.fonts
fonts_same one r d (e, is, shows) h = shows.3 ∙ ap (λ (x : Document). x.fonts) (one r.bytes e d is h)

-- what is known of a job that can be written
pub record Known {job : PrintJob} {told : Told} (p : Printable job told) (r : ReadDoc) (parts : Parts) (walk : Walk) (set : FontSet) : Type 0 where
  pub pages : List PageOf
  pub are : ArePages r parts.places.now pages
  pub printed_are : printed_from walk.grid set r.fonts 1 pages ≡ Some p.pages
  pub text : bytes_of_job job.comments parts.setup (record { headers = map (λ h. h.items) parts.headers.items; fonts = set; pass = job.pass_ps; sections = in_sections parts.plan p.pages }) ≡ text_for p
  pub many : length parts.places.now ≡ length p.pages
  pub sections_many : length parts.plan ≡ length (plan_of job (set_of p.covered) p.pages)
  pub good : IsGoodWork p.setup (work_for p)

printed_many : (g : Grid) (set : FontSet) (ds : List Definition) (n : ℕ) (ps : List PageOf) (pages : List PrintedPage) → n + length ps < 2 ^ 32 → Each (IsReady g set ds) ps → printed_from g set ds n ps ≡ Some pages → length pages ≡ length ps
printed_many g set ds n ps pages few h e =
    let all = all_printed g set ds n ps few h in
    ap length (some_same pages all.pages (sym e ∙ all.printed)) ∙ all.many
  where
    some_same : (x y : List PrintedPage) → Some x ≡ Some y → x ≡ y
    some_same x y k = cc

pub known : OneDocument → {job : PrintJob} {told : Told} (p : Printable job told) (r : ReadDoc) (parts : Parts) (walk : Walk) (set : FontSet) → IsGoodJob job → IsWalkable r parts.places.now walk.grid set → length parts.places.now ≤ 1000000 → length set.fonts ≤ 1000
    → ((id code : ℕ) (bitmap : Bitmap) → bitmap_at set id code ≡ Some bitmap → AreRows bitmap) → unsigned_abs parts.setup.paper.0 < 2 ^ 63 → unsigned_abs parts.setup.paper.1 < 2 ^ 63
    → IsWritable p r parts walk set → Known p r parts walk set
known one {job} {told} p r parts walk set job_good w few small rows width height is =
    let d = doc_of p.covered in
    let doc : IsDoc r.bytes d = subst (λ (b : List ℕ). IsDoc b d) is.bytes p.covered.sources.selected.source.is in
    let pages = printed d job in
    let are : ArePages r parts.places.now pages = subst (λ (ks : List ℕ). ArePages r parts.places.now (pages_at d.pages ks)) is.places (pages_here one r d parts.places.now w.read doc w.within) in
    let fonts = fonts_same one r d w.read doc in
    let printed_are : printed_from walk.grid set r.fonts 1 pages ≡ Some p.pages =
    ap (λ (g : Grid). printed_from g set r.fonts 1 pages) is.grid
    ∙ ap (λ (a : FontSet). printed_from (grid_of d job) a r.fonts 1 pages) (sym is.fonts)
    ∙ ap (λ (ds : List Definition). printed_from (grid_of d job) (set_of p.covered) ds 1 pages) fonts
    ∙ p.are in
    let ready = w.ready pages are in
    let count = many_pages r parts.places.now pages are in
    let limit : 1 + length pages < 2 ^ 32 = omega (arith, few, count) in
    let all = printed_many walk.grid set r.fonts 1 pages p.pages limit ready printed_are in
    let text : (s : Setup) (hs : List (List ℕ)) (a : FontSet) (ns : List ℕ) → List ℕ = λ s hs a ns. bytes_of_job job.comments s (record { headers = hs; fonts = a; pass = job.pass_ps; sections = in_sections ns p.pages }) in
    let hs = map (λ h. h.items) parts.headers.items in
    let fit = subst (λ (a : FontSet). IsGoodSet a) (sym is.fonts) (good_set set small rows) in
    record {
      pages = pages;
      are = are;
      printed_are = printed_are;
      text =
          ap (λ (s : Setup). text s hs set parts.plan) is.setup
          ∙ ap (λ (xs : List (List ℕ)). text p.setup xs set parts.plan) is.headers
          ∙ ap (λ (ns : List ℕ). text p.setup p.headers set ns) is.plan
          ∙ ap (λ (a : FontSet). text p.setup p.headers a (plan_of job a p.pages)) (sym is.fonts);
      many = count ∙ sym all;
      sections_many = ap length is.plan ∙ ap (λ (a : FontSet). length (plan_of job a p.pages)) (sym is.fonts);
      good =
          record {
            setup =
                good_setup job _ (length p.pages) p.setup (omega (arith, limit, all)) (subst (λ (s : Setup). unsigned_abs s.paper.0 < 2 ^ 63) is.setup width)
                (subst (λ (s : Setup). unsigned_abs s.paper.1 < 2 ^ 63) is.setup height) job_good p.asked;
            headers = headers_short told (names_for p.covered) p.headers p.held;
            fonts = fit;
            pages =
                sections_good (set_of p.covered) (plan_of job (set_of p.covered) p.pages) p.pages
                (subst (λ (a : FontSet). AllGoodPages a p.pages) (sym is.fonts) (printed_good walk.grid set r.fonts 1 pages p.pages limit ready printed_are));
          };
    }

-- ---- outputs

append_begun : (os : List Output) (name text : List ℕ) → append_last (os ++ record { name = name; bytes = [] } ∷ []) text ≡ os ++ record { name = name; bytes = text } ∷ []
append_begun [] name text = refl
append_begun (o ∷ []) name text = refl
append_begun (o ∷ p ∷ os) name text = ap (λ (xs : List Output). o ∷ xs) (append_begun (p ∷ os) name text)

adds : (o p q : Option (List Output)) (name text : List ℕ) → WhereTold (Begins name) o p → WhereTold (Appends text) p q → WhereTold (AddsOutput name text) o q
adds o p None name text f g = tt
adds None None (Some qs) name text f g = absurd g
adds (Some os) None (Some qs) name text f g = absurd g
adds None (Some ps) (Some qs) name text f g = absurd f
adds (Some os) (Some ps) (Some qs) name text f g = g ∙ ap (λ (xs : List Output). append_last xs text) f ∙ append_begun os name text

-- ---- what writing leaves

module _ {job : PrintJob} {told : Told} (p : Printable job told) (r : ReadDoc) (parts : Parts) (walk : Walk) (set : FontSet) (k : Known p r parts walk set) (name : List ℕ) (named : name ≡ job.output) (a b c : Seen) where
  abbrev Text : List ℕ
  Text = bytes_of_job job.comments parts.setup (record { headers = map (λ h. h.items) parts.headers.items; fonts = set; pass = job.pass_ps; sections = in_sections parts.plan p.pages })

  -- the whole text went out
  pub written_whole : TextShows → TextSpares → BeginGives name begun.Ready a b → b.messages ≡ a.messages → WroteSeen Text b c → (n : Printout) → n.pages ≡ length parts.places.now → n.sections ≡ length parts.plan → n.bytes ≡ counted 0 (length Text)
      → IsWritten p a c n
  written_whole shows spares f messages w n pages sections bytes =
      let wrote = subst (λ text. WhereTold (Appends text) b.outputs c.outputs) k.text w.bytes in
      let run = shows job.comments p.setup (work_for p) k.good in
      record {
        shows = record { all = run.0; run = run.1; same = run.2; spares = spares job.comments p.setup (work_for p) k.good run.0 run.1 };
        left =
            subst (λ nm. LeavesOutput nm (Some (text_for p)) a c) named
            (adds a.outputs b.outputs c.outputs name (text_for p) f.0 wrote, w.keeps.begun_same ∙ f.1, w.keeps.last_same ∙ f.2);
        lines = w.keeps.messages_same ∙ messages;
        counts = record { pages = pages ∙ k.many; sections = sections ∙ k.sections_many; bytes = bytes ∙ ap (λ (t : List ℕ). counted 0 (length t)) k.text };
      }

  -- a front of it did
  pub written_front : TextShows → CutTextShows → TextSpares → CutTextSpares → BeginGives name begun.Ready a b → b.messages ≡ a.messages → CutSeen Text b c → IsUnwritten p a c outcome.WriteFault
  written_front whole shows once spares f messages w =
      let front = take w.taken (text_for p) in
      let rest = drop w.taken (text_for p) in
      let splits : text_for p ≡ front ++ rest = sym (take-append-drop w.taken (text_for p)) in
      let wrote = subst (λ text. WhereTold (Appends (take w.taken text)) b.outputs c.outputs) k.text w.bytes in
      let run = shows job.comments p.setup (work_for p) k.good front rest splits in
      let all = whole job.comments p.setup (work_for p) k.good in
      let so_far = spares job.comments p.setup (work_for p) k.good front rest run.0 splits run.2 in
      record {
        tells = refl;
        written = Some front;
        front = record { missing = rest; splits = splits; so_far = run.0; later = run.1; run = run.2; first = run.3; spares = record { texts_later = so_far.0.0; texts = so_far.0.1; glyphs_later = so_far.1.0; glyphs = so_far.1.1; once = (once job.comments p.setup (work_for p) k.good all.0 all.1).once } };
        left =
            subst (λ nm. LeavesOutput nm (Some front) a c) named
            (adds a.outputs b.outputs c.outputs name front f.0 wrote, w.keeps.begun_same ∙ f.1, w.keeps.last_same ∙ f.2);
        lines = w.keeps.messages_same ∙ messages;
        rose = let rose = w.rose in let same = f.3 in omega (arith, rose, same);
      }

-- nothing was begun, since the tray failed
pub written_none : {job : PrintJob} {told : Told} (p : Printable job told) (name : List ℕ) (a b : Seen) → BeginGives name begun.Failed a b → b.messages ≡ a.messages → IsUnwritten p a b outcome.WriteFault
written_none p name a b f messages = record { tells = refl; written = None; front = tt; left = (f.1, f.2, f.3); lines = messages; rose = f.0 }

-- or memory was refused
pub begun_none : {job : PrintJob} {told : Told} (p : Printable job told) (name : List ℕ) (a b : Seen) → BeginGives name begun.OutOfMemory a b → b.messages ≡ a.messages → IsUnbegun p a b outcome.OutOfMemory
begun_none p name a b f messages = record { tells = refl; left = (f.0, f.1, f.2); lines = messages }

-- ---- with the warnings that were said before

left_later : (name : List ℕ) (written : Option (List ℕ)) (lines : List (List ℕ)) (a b c : Seen) → SaysAll lines a b → LeavesOutput name written b c → LeavesOutput name written a c
left_later name None lines a b c s h = (h.0 ∙ s.outputs_same, h.1 ∙ s.begun_same, h.2 ∙ s.last_same)
left_later name (Some written) lines a b c s h =
    (subst (λ (o : Option (List Output)). WhereTold (AddsOutput name written) o c.outputs) s.outputs_same h.0, h.1 ∙ ap (λ (n : ℕ). min (n + 1) (2 ^ 64 - 1)) s.begun_same, h.2)

lines_later : (lines : List (List ℕ)) (a b c : Seen) → SaysAll lines a b → c.messages ≡ b.messages → LeavesLines lines a c
lines_later lines a b c s h = subst (λ (m : Option (List (List ℕ))). WhereTold (AddsLines lines) a.messages m) (sym h) s.messages_more

pub prints_leave : {job : PrintJob} {told : Told} (p : Printable job told) (later : Told) (a b c : Seen) (result : Result Printout Outcome) → SaysAll (warnings_for p) a b → Prints p b c result → LeavesBy job told later a c result
prints_leave {job} {told} p later a b c (Ok n) s w =
    record {
      print = p;
      shows = w.shows;
      left = left_later job.output (Some (text_for p)) (warnings_for p) a b c s w.left;
      lines = lines_later (warnings_for p) a b c s w.lines;
      counts = w.counts;
    }
prints_leave {job} {told} p later a b c (Err o) s (inl w) =
    record {
      leaves =
          record {
            end = End.Unwritten;
            tells = w.tells;
            written = w.written;
            said = warnings_for p;
            means = (p, w.front, refl);
            left = left_later job.output w.written (warnings_for p) a b c s w.left;
            lines = lines_later (warnings_for p) a b c s w.lines;
            rose = let rose = w.rose in let same = s.faults_same in omega (arith, rose, same);
          };
      undone = tt;
    }
prints_leave {job} {told} p later a b c (Err o) s (inr w) =
    record {
      leaves =
          record {
            end = End.Wanting;
            tells = w.tells;
            written = None;
            said = warnings_for p;
            means = (refl, inr (p, refl));
            left = left_later job.output None (warnings_for p) a b c s w.left;
            lines = lines_later (warnings_for p) a b c s w.lines;
            rose = tt;
          };
      undone = tt;
    }

-- a job that is finished leaves what its outcome says
pub finished_leaves : (job : PrintJob) (told later : Told) (a b : Seen) (n : Printout) → Finishes job told a b n → Leaves job told later a b outcome.Done
finished_leaves job told later a b n f =
    record {
      end = End.Finished;
      tells = refl;
      written = Some (text_for f.print);
      said = warnings_for f.print;
      means = (f.print, refl, refl, f.shows);
      left = f.left;
      lines = f.lines;
      rose = tt;
    }

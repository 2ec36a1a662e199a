-- Pages and sections have the events that they owe, and lead back to where they began.
use Rattle.std.proofs.Common.{◌≡◌, refl, ap, sym, ◌∙◌, subst, ℕ, zero, suc, ◌+◌, ◌<◌, List, [], ◌∷◌, ◌++◌, length, Some, None, arith, Bool, true, false}
use Rattle.std.specs.Prelude.{codes, pos, slice_get, slice_set, bytes_eq, ◌-◌, if◌then◌else◌}
use Rattle.std.proofs.lemmas.List.{append-nil}
use Rattle.ps_subset.specs.Fraction.{whole, negative, over, is_zero}
use Rattle.ps_subset.specs.State.{Object, Number, Save, Entry, Cell, Entries, Machine, Shown, entry, with_entry, held_glyphs, in_order}
use Rattle.ps_subset.specs.GraphicsEffects.{point, first_frame}
use Rattle.ps_subset.specs.Prolog.{line}
use Rattle.ps_subset.specs.Job.{Job, IsGoodJob, points, per_pixel}
use Rattle.ps_subset.specs.Conditions.{copy, number, put_entry, saved_as, page_frame, page_begun}
use Rattle.ps_subset.specs.Fonts.{font_name}
use Rattle.ps_subset.specs.Printout.{Page, Section, page_comment, pages_lines, section_lines, sections_lines, pages_events, section_events, sections_events, IsGoodPage, AllGoodPages, IsGoodSection, AllGoodSections}
use Rattle.ps_subset.specs.Items.{first_pen, lines_from, items_events}
use Rattle.ps_subset.specs.FontText.{fonts_events, fonts_held}
use Rattle.ps_subset.proofs.Fractions.{over-whole, lowest-some, negative-some}
use Rattle.ps_subset.proofs.Dictionaries.{HasProlog-put, meaning_kept, takes_any, put_stands, bytes_same}
use Rattle.ps_subset.proofs.Equality.{same_number}
use Rattle.ps_subset.proofs.Steps.{◌▸◌, done}
use Rattle.ps_subset.proofs.Pages.{bop_goes, eop_goes, bos_goes, eos_goes}
use Rattle.ps_subset.proofs.Pixels.{pixel_is}
use Rattle.ps_subset.proofs.Reading.{bos_reads, bop_reads, eop_reads, eos_reads}
use Rattle.ps_subset.proofs.Runs.{Runs, Runs-append, nothing_runs}
use Rattle.ps_subset.proofs.Comments.{comment_runs, page_note}
use Rattle.ps_subset.proofs.Stands.{Placed, fonts_of, directory, NoFont, held_is}
use Rattle.ps_subset.proofs.PageItems.{OnSheet, at_pen, items_run}
use Rattle.ps_subset.proofs.Ways.{delta_free}
use Rattle.ps_subset.proofs.Ready.{IsReady-put, SI_other, SS_other, IsReady}
use Rattle.ps_subset.proofs.SectionFonts.{fonts_run}
use Rattle.ps_subset.specs.Token as token

-- a value that is there is put again
with_entry_same : (key : List ℕ) (v : Object) (es : List Entry) → entry key es ≡ Some v → with_entry key v es ≡ es
unfolding entry with_entry
with_entry_same key v [] h = absurd (grind arith)
with_entry_same key v (e ∷ es) h = go (bytes_eq e.key key) refl h (λ k. with_entry_same key v es k)
  where
    first : e.key ≡ key → e.value ≡ v → record { key = key; value = v } ∷ es ≡ e ∷ es
    first k w = λ i. record { key = sym k i; value = sym w i } ∷ es

    go : (b : Bool) → bytes_eq e.key key ≡ b → (if b then Some e.value else entry key es) ≡ Some v → (entry key es ≡ Some v → with_entry key v es ≡ es) → (if b then (record { key = key; value = v } ∷ es) else (e ∷ with_entry key v es)) ≡ e ∷ es
    go true q k ih = first (bytes_same e.key key q) (grind (arith, k))
    go false q k ih = ap (λ l. e ∷ l) (ih k)

slice_set_same : {A : Type 0} (xs : List A) (i : ℕ) (x : A) → slice_get xs i ≡ Some x → slice_set xs i x ≡ xs
slice_set_same [] i x h = absurd (grind arith)
slice_set_same (a ∷ xs) zero x h = let e : x ≡ a = grind (arith, h) in ap (λ y. y ∷ xs) e
slice_set_same (a ∷ xs) (suc i) x h = ap (λ l. a ∷ l) (slice_set_same xs i x h)

put_same : (store : List Cell) (d room : ℕ) (es : List Entry) (key : List ℕ) (v : Object) → slice_get store d ≡ Some (Entries room es) → entry key es ≡ Some v → put_entry store d room es key v ≡ store
put_same store d room es key v here h = ap (λ l. slice_set store d (Entries room l)) (with_entry_same key v es h) ∙ slice_set_same store d (Entries room es) here

-- the state as a page leaves it, after so many saves
abbrev pub fresh : Machine → ℕ → Machine
fresh m made = record m { graphics = record m.graphics { frame = first_frame; place = None }; saves_made = made }

no_key_is_font : (key : List ℕ) (ps : List Placed) → ((id : ℕ) → bytes_eq key (font_name id) ≡ false) → NoFont key ps
no_key_is_font key [] h = tt
no_key_is_font key (p ∷ ps) h = (h p.font.id, no_key_is_font key ps h)

module _ (j : Job) (good : IsGoodJob j) where
  across_is : over (whole (pos 72)) (whole (pos j.across)) ≡ Some (per_pixel j.across)
  across_is = over-whole (pos 72) j.across good.across_some

  down_is : over (whole (pos 72)) (whole (pos j.down)) ≡ Some (per_pixel j.down)
  down_is = over-whole (pos 72) j.down good.down_some

  across_some : is_zero (per_pixel j.across) ≡ false
  across_some = lowest-some 72 j.across (omega arith)

  down_some : is_zero (negative (per_pixel j.down)) ≡ false
  down_some = negative-some (per_pixel j.down) (lowest-some 72 j.down (omega arith))

  module _ (copies : ℕ) (few : suc copies < 65536) {matrix fm fx en d : ℕ} {below : List ℕ} {room : ℕ} {es : List Entry} {ps : List Placed} where
    -- a page, without its comment, leads back to where it began
    page_body : {saves keys : ℕ} (m : Machine) (p : Page) → IsGoodPage (fonts_of ps) p → IsReady j (suc copies) (suc saves) (suc keys) matrix fm fx en d below room es ps m →
        Runs (line (codes "bop") ++ (lines_from first_pen p.items ++ line (codes "eop"))) m (fresh m (suc m.saves_made)) (items_events j p.items ++ Shown (suc copies) (in_order (fonts_held (fonts_of ps))) ∷ [])
    page_body m p fine r =
        let si = Save m.saves_made in
        let apart = no_key_is_font (codes "SI") ps (λ id. refl) in
        let r1 = IsReady-put m (codes "SI") si SI_other apart r in
        let b = page_begun d room es m (points j.height) (per_pixel j.across) (per_pixel j.down) (whole j.origin_x) (whole j.origin_y) in
        let es1 = with_entry (codes "SI") si es in
        let sheet : OnSheet j matrix d below room es1 ps b = record {
          knows = r1.knows;
          top = r1.top;
          delta_fits = rw r1.delta refl;
          stand = r1.stand;
          no_delta = no_key_is_font (codes "delta") ps (λ id. refl);
          frame = ap (λ f. page_frame f (points j.height) (per_pixel j.across) (per_pixel j.down) (whole j.origin_x) (whole j.origin_y)) r.frame;
          pushable = r.pushed_room;
          nobody = r.nobody;
          operands_room = omega (arith, r.operands_room);
        } in
        let place = ap (λ f. point (page_frame f (points j.height) (per_pixel j.across) (per_pixel j.down) (whole j.origin_x) (whole j.origin_y)) (whole (pos 0)) (whole (pos 0))) r.frame ∙ pixel_is j good (pos 0) (pos 0) in
        let store_is = sym (put_same b.store d room es1 (codes "delta") (number 0) r1.top.stands r1.delta) in
        let first = at_pen j d room es1 ps b first_pen in
        let bop : Runs (line (codes "bop")) m first [] =
        subst (λ n. Runs (line (codes "bop")) m n []) (λ i. record b { store = store_is i; graphics = record b.graphics { place = Some (place i) } })
        (record {
          tokens = token.Name (codes "bop") ∷ [];
          reads = bop_reads;
          goes = bop_goes r.knows r.top (takes_any (codes "SI") room es (omega (arith, r.free))) r.job across_is down_is across_some down_some (omega (arith, r.operands_room)) (omega (arith, r.saves_room)) ▸ done;
        }) in
        let items = items_run j good matrix d below room es1 ps b sheet first_pen p.items (omega arith) (omega arith) fine.items in
        let last = at_pen j d room es1 ps b items.0 in
        let delta = Number (whole (items.0).delta) in
        let knows = HasProlog-put b.store d room es1 (codes "delta") delta r1.top.stands m.dictionaries delta_free r1.knows in
        let si_stands = meaning_kept b.store d room es1 (codes "delta") delta r1.top.stands (codes "SI") m.dictionaries refl ∙ put_stands (codes "SI") si r.top in
        let eop : Runs (line (codes "eop")) last (fresh m (suc m.saves_made)) (Shown (suc copies) (in_order (held_glyphs m.fonts m.store)) ∷ []) = record {
          tokens = token.Name (codes "eop") ∷ [];
          reads = eop_reads;
          goes = eop_goes {id = m.saves_made} {c = copy m} {cs = m.saves} knows si_stands (rw (same_number m.saves_made)) r.old_operands r.old_dictionaries r.knows r.copies_are few (omega (arith, r.operands_room)) ▸ done;
        } in
        let held = ap (λ fs. in_order (held_glyphs fs m.store)) r.fonts ∙ ap in_order (held_is d m.store m.dictionaries ps r.stand) in
        let shown : Runs (line (codes "eop")) last (fresh m (suc m.saves_made)) (Shown (suc copies) (in_order (fonts_held (fonts_of ps))) ∷ []) =
        subst (λ h. Runs (line (codes "eop")) last (fresh m (suc m.saves_made)) (Shown (suc copies) h ∷ [])) held eop in
        Runs-append bop (Runs-append items.1 shown)

    -- what holds before a page holds before the next one
    ready_again : {saves keys : ℕ} (m : Machine) (made : ℕ) → IsReady j (suc copies) saves keys matrix fm fx en d below room es ps m → IsReady j (suc copies) saves keys matrix fm fx en d below room es ps (fresh m made)
    ready_again m made r = record {
      knows = r.knows;
      arrays = r.arrays;
      top = r.top;
      free = r.free;
      delta = r.delta;
      job = r.job;
      frame = refl;
      fonts = r.fonts;
      stand = r.stand;
      copies_are = r.copies_are;
      operands_room = r.operands_room;
      old_operands = r.old_operands;
      old_dictionaries = r.old_dictionaries;
      stack_room = r.stack_room;
      saves_room = r.saves_room;
      pushed_room = r.pushed_room;
      nobody = r.nobody;
    }

    pages_run : {saves keys : ℕ} (comments : Bool) (m : Machine) (pages : List Page) → AllGoodPages (fonts_of ps) pages → IsReady j (suc copies) (suc saves) (suc keys) matrix fm fx en d below room es ps m →
        Runs (pages_lines comments pages) (fresh m m.saves_made) (fresh m (m.saves_made + length pages)) (pages_events comments (suc copies) j (fonts_of ps) pages)
    pages_run comments m [] all r =
        let e : m.saves_made ≡ m.saves_made + 0 = omega arith in
        subst (λ made. Runs [] (fresh m m.saves_made) (fresh m made) []) e (nothing_runs (fresh m m.saves_made))
    pages_run comments m (p ∷ pages) all r =
        let here = fresh m m.saves_made in
        let after = fresh m (suc m.saves_made) in
        let note = comment_runs comments (page_comment p) here refl (page_note p.label p.number (all.0).label (all.0).number) in
        let rest = pages_run comments after pages all.1 (ready_again m (suc m.saves_made) r) in
        let e : suc m.saves_made + length pages ≡ m.saves_made + length (p ∷ pages) = omega arith in
        subst (λ made. Runs (pages_lines comments (p ∷ pages)) here (fresh m made) (pages_events comments (suc copies) j (fonts_of ps) (p ∷ pages))) e
        (Runs-append (Runs-append note (page_body here p all.0 (ready_again m m.saves_made r))) rest)

  -- a section, from a state without a place, leads back to it
  section_runs : (copies : ℕ) (few : suc copies < 65536) {matrix fm fx en d : ℕ} {below : List ℕ} {room : ℕ} {es : List Entry} (comments : Bool) (m : Machine) (s : Section) → IsGoodSection s → IsReady j (suc copies) 2 1002 matrix fm fx en d below room es [] m → m.graphics ≡ record m.graphics { frame = first_frame; place = None } →
      (made : ℕ) × Runs (section_lines comments s) m (record m { saves_made = made }) (section_events comments (suc copies) j s)
  section_runs copies few {matrix} {fm} {fx} {en} {d} {below} {room} {es} comments m s fine r plain =
      let ss = Save m.saves_made in
      let es1 = with_entry (codes "SS") ss es in
      let b = saved_as (codes "SS") d room es m in
      let put = IsReady-put m (codes "SS") ss SS_other tt r in
      let ready : IsReady j (suc copies) 1 1001 matrix fm fx en d below room es1 [] b = record {
        knows = put.knows;
        arrays = put.arrays;
        top = put.top;
        free = put.free;
        delta = put.delta;
        job = put.job;
        frame = put.frame;
        fonts = put.fonts;
        stand = tt;
        copies_are = put.copies_are;
        operands_room = put.operands_room;
        old_operands = put.old_operands;
        old_dictionaries = put.old_dictionaries;
        stack_room = put.stack_room;
        saves_room = omega (arith, r.saves_room);
        pushed_room = put.pushed_room;
        nobody = put.nobody;
      } in
      let keys = 1000 - length s.fonts in
      let split : 1001 ≡ length s.fonts + suc keys = omega (arith, fine.few) in
      let fonts = fonts_run s.fonts 0 (suc keys) es1 [] b fine.fonts tt (subst (λ n. IsReady j (suc copies) 1 n matrix fm fx en d below room es1 [] b) split ready) in
      let held : fonts_of fonts.placed ≡ s.fonts = fonts.fonts_are in
      let full = record b { store = fonts.store; fonts = directory fonts.placed } in
      let pages = pages_run copies few comments full s.pages (subst (λ fs. AllGoodPages fs s.pages) (sym held) fine.pages) fonts.ready in
      let begin_plain : full ≡ fresh full full.saves_made = λ i. record full { graphics = plain i } in
      let pages_here : Runs (pages_lines comments s.pages) full (fresh full (full.saves_made + length s.pages)) (pages_events comments (suc copies) j s.fonts s.pages) =
      subst (λ fs. Runs (pages_lines comments s.pages) full (fresh full (full.saves_made + length s.pages)) (pages_events comments (suc copies) j fs s.pages)) held
      (subst (λ n. Runs (pages_lines comments s.pages) n (fresh full (full.saves_made + length s.pages)) (pages_events comments (suc copies) j (fonts_of fonts.placed) s.pages)) (sym begin_plain) pages) in
      let bos : Runs (line (codes "bos")) m b [] = record {
        tokens = token.Name (codes "bos") ∷ [];
        reads = bos_reads;
        goes = bos_goes r.knows r.top (takes_any (codes "SS") room es (omega (arith, r.free))) (omega (arith, r.operands_room)) (omega (arith, r.saves_room)) ▸ done;
      } in
      let last = fresh full (full.saves_made + length s.pages) in
      let stands = fonts.section_stands ∙ put_stands (codes "SS") ss r.top in
      let eos : Runs (line (codes "eos")) last (record m { saves_made = full.saves_made + length s.pages }) [] = record {
        tokens = token.Name (codes "eos") ∷ [];
        reads = eos_reads;
        goes = eos_goes {id = m.saves_made} {c = copy m} {cs = m.saves} fonts.ready.knows stands (rw (same_number m.saves_made)) r.old_operands r.old_dictionaries (omega (arith, r.operands_room)) ▸ done;
      } in
      let events_are : fonts_events s.fonts ++ (pages_events comments (suc copies) j s.fonts s.pages ++ []) ≡ section_events comments (suc copies) j s = ap (λ l. fonts_events s.fonts ++ l) (append-nil (pages_events comments (suc copies) j s.fonts s.pages)) in
      let whole_section = Runs-append bos (Runs-append fonts.runs (Runs-append pages_here eos)) in
      (full.saves_made + length s.pages, subst (λ es'. Runs (section_lines comments s) m (record m { saves_made = full.saves_made + length s.pages }) es') events_are whole_section)

  pub sections_run : (copies : ℕ) (few : suc copies < 65536) {matrix fm fx en d : ℕ} {below : List ℕ} {room : ℕ} {es : List Entry} (comments : Bool) (m : Machine) (ss : List Section) → AllGoodSections ss → IsReady j (suc copies) 2 1002 matrix fm fx en d below room es [] m → m.graphics ≡ record m.graphics { frame = first_frame; place = None } →
      (made : ℕ) × Runs (sections_lines comments ss) m (record m { saves_made = made }) (sections_events comments (suc copies) j ss)
  sections_run copies few comments m [] all r plain = (m.saves_made, nothing_runs m)
  sections_run copies few {matrix} {fm} {fx} {en} {d} {below} {room} {es} comments m (s ∷ ss) all r plain =
      let one = section_runs copies few comments m s all.0 r plain in
      let next = record m { saves_made = one.0 } in
      let ready : IsReady j (suc copies) 2 1002 matrix fm fx en d below room es [] next = record {
        knows = r.knows;
        arrays = r.arrays;
        top = r.top;
        free = r.free;
        delta = r.delta;
        job = r.job;
        frame = r.frame;
        fonts = r.fonts;
        stand = tt;
        copies_are = r.copies_are;
        operands_room = r.operands_room;
        old_operands = r.old_operands;
        old_dictionaries = r.old_dictionaries;
        stack_room = r.stack_room;
        saves_room = r.saves_room;
        pushed_room = r.pushed_room;
        nobody = r.nobody;
      } in
      let rest = sections_run copies few comments next ss all.1 ready plain in
      (rest.0, Runs-append one.1 rest.1)

-- The fonts of a section are made, one after another.
use Rattle.std.proofs.Common.{◌≡◌, refl, ap, sym, ◌∙◌, subst, ℕ, suc, ◌+◌, ◌<◌, ◌≤◌, ◌^◌, List, [], ◌∷◌, ◌++◌, length, Some, arith, false, append_assoc}
use Rattle.std.specs.Prelude.{codes, slice_get, bytes_eq}
use Rattle.std.proofs.Math.ListN.{length-set}
use Rattle.std.proofs.lemmas.List.{append-nil}
use Rattle.ps_subset.specs.State.{Dictionary, Entry, Cell, Entries, Elements, Machine, FontMade, with_entry}
use Rattle.ps_subset.specs.StoreEffects.{all_below}
use Rattle.ps_subset.specs.FontEffects.{with_font}
use Rattle.ps_subset.specs.Run.{meaning_in}
use Rattle.ps_subset.specs.Job.{Job}
use Rattle.ps_subset.specs.Conditions.{put_entry}
use Rattle.ps_subset.specs.Fonts.{Font, font_name}
use Rattle.ps_subset.specs.FontConditions.{IsFont, AllHeld}
use Rattle.ps_subset.specs.FontText.{font_lines, fonts_lines, letters_events, fonts_events, AllGoodLetters, AllGoodFonts}
use Rattle.ps_subset.proofs.Dictionaries.{meaning_kept, takes_any, put_stands}
use Rattle.ps_subset.proofs.Stores.{slice_get-some, Keeps-grown, meaning_keeps}
use Rattle.ps_subset.proofs.Runs.{Runs, Runs-append, nothing_runs}
use Rattle.ps_subset.proofs.Stands.{Placed, fonts_of, directory, Stands, AllStand, NoFont}
use Rattle.ps_subset.proofs.FontLines.{made_cells, made_table, made_is, made_table_is, made_held, made_glyphs, codes_fit, font_runs}
use Rattle.ps_subset.proofs.Ready.{IsReady-put, IsReady-grown, font_other, fonts_apart, IsReady}

-- The numbers of the fonts that are there are below a limit.
abbrev AllBelow : ℕ → List Placed → Type 0
AllBelow limit [] = Unit {0}
AllBelow limit (p ∷ ps) = (p.font.id < limit) × AllBelow limit ps

pub no_font : (id : ℕ) (ps : List Placed) → id < 2 ^ 64 → AllBelow id ps → (d : ℕ) (store : List Cell) (ds : List ℕ) → AllStand d ps store ds → NoFont (font_name id) ps
no_font id [] small below d store ds all = tt
no_font id (p ∷ ps) small below d store ds all =
    (fonts_apart id p.font.id small (omega (arith, (all.0).small)) (λ e. absurd (omega (arith, e, below.0))), no_font id ps small below.1 d store ds all.1)

pub with_font-new : (id n : ℕ) (f : Font) (ps : List Placed) → f.id ≡ id → id < 2 ^ 64 → AllBelow id ps → (d : ℕ) (store : List Cell) (ds : List ℕ) → AllStand d ps store ds → with_font (font_name id) n (directory ps) ≡ directory (ps ++ record { font = f; at = n } ∷ [])
with_font-new id n f [] is small below d store ds all = ap (λ k. record { key = font_name k; dictionary = n } ∷ []) (sym is)
with_font-new id n f (p ∷ ps) is small below d store ds all =
    rw (fonts_apart p.font.id id (omega (arith, (all.0).small)) small (λ e. absurd (omega (arith, e, below.0)))) (ap (λ l. record { key = font_name p.font.id; dictionary = p.at } ∷ l) (with_font-new id n f ps is small below.1 d store ds all.1))

pub AllStand-append : (d : ℕ) (store : List Cell) (ds : List ℕ) (ps : List Placed) (p : Placed) → AllStand d ps store ds → Stands d p store ds → AllStand d (ps ++ p ∷ []) store ds
AllStand-append d store ds [] p all one = (one, tt)
AllStand-append d store ds (q ∷ ps) p all one = (all.0, AllStand-append d store ds ps p all.1 one)

pub AllBelow-append : (least limit : ℕ) (ps : List Placed) (p : Placed) → least ≤ limit → AllBelow least ps → p.font.id < limit → AllBelow limit (ps ++ p ∷ [])
AllBelow-append least limit [] p le all one = (one, tt)
AllBelow-append least limit (q ∷ ps) p le all one = (omega (arith, all.0, le), AllBelow-append least limit ps p le all.1 one)

pub AllBelow-more : (least limit : ℕ) (ps : List Placed) → least ≤ limit → AllBelow least ps → AllBelow limit ps
AllBelow-more least limit [] le all = tt
AllBelow-more least limit (q ∷ ps) le all = (omega (arith, all.0, le), AllBelow-more least limit ps le all.1)

pub fonts_of-append : (ps : List Placed) (p : Placed) → fonts_of (ps ++ p ∷ []) ≡ fonts_of ps ++ p.font ∷ []
fonts_of-append [] p = refl
fonts_of-append (q ∷ ps) p = ap (λ l. q.font ∷ l) (fonts_of-append ps p)

abbrev pub new : Machine → Font → Placed
new m f = record { font = f; at = length m.store }

abbrev pub with_new : ℕ → ℕ → List Entry → ℕ → ℕ → ℕ → Machine → Font → Machine
with_new d room es fm fx en m f = record m {
  store = put_entry m.store d room es (font_name f.id) (Dictionary (length m.store)) ++ made_cells (length m.store) fm fx en f;
  fonts = with_font (font_name f.id) (length m.store) m.fonts;
}

module _ {j : Job} {copies saves keys matrix fm fx en d : ℕ} {below : List ℕ} {room : ℕ} {es : List Entry} {ps : List Placed} (m : Machine) (f : Font) (small : f.id < 2 ^ 63) (good : AllGoodLetters 0 f.letters) where
  -- a font more
  pub IsReady-font : AllBelow f.id ps → IsReady j copies saves (suc keys) matrix fm fx en d below room es ps m →
      IsReady j copies saves keys matrix fm fx en d below room (with_entry (font_name f.id) (Dictionary (length m.store)) es) (ps ++ new m f ∷ []) (with_new d room es fm fx en m f)
  IsReady-font before r =
      let n = length m.store in
      let key = font_name f.id in
      let wide : f.id < 2 ^ 64 = omega (arith, small) in
      let other = font_other f.id wide in
      let apart = no_font f.id ps wide before d m.store m.dictionaries r.stand in
      let s1 = put_entry m.store d room es key (Dictionary n) in
      let m1 = record m { store = s1 } in
      let r1 = IsReady-put m key (Dictionary n) other apart r in
      let r2 = IsReady-grown m1 (made_cells n fm fx en f) r1 in
      let same : length s1 ≡ n = length-set m.store d (Entries room (with_entry key (Dictionary n) es)) in
      let less = slice_get-some m.store d (Entries room es) r.top.stands in
      let is = subst (λ k. IsFont key k (suc k) (s1 ++ made_cells k fm fx en f)) same (made_is s1 fm fx en f r1.arrays.FM_is) in
      let held = subst (λ k. AllHeld (suc k) f.letters (s1 ++ made_cells k fm fx en f)) same (made_held s1 fm fx en f good) in
      let table = subst (λ k. slice_get (s1 ++ made_cells k fm fx en f) (suc k) ≡ Some (Elements (made_table k f))) same (made_table_is s1 fm fx en f) in
      let stands : Stands d (new m f) (with_new d room es fm fx en m f).store m.dictionaries = record {
        name_is = meaning_keeps (Keeps-grown s1 (made_cells n fm fx en f)) m.dictionaries key r1.old_dictionaries ∙ put_stands key (Dictionary n) r.top;
        apart = λ e. absurd (omega (arith, less, e));
        font_is = is;
        letters = held;
        all = record { table = made_table n f; table_is = table; held = made_glyphs n f good };
        codes_fit = codes_fit f.letters 0 good;
        small = small;
      } in
      record {
        knows = r2.knows;
        arrays = r2.arrays;
        top = r2.top;
        free = r2.free;
        delta = r2.delta;
        job = r2.job;
        frame = r2.frame;
        fonts = ap (with_font key n) r.fonts ∙ with_font-new f.id n f ps refl wide before d m.store m.dictionaries r.stand;
        stand = AllStand-append d (with_new d room es fm fx en m f).store m.dictionaries ps (new m f) r2.stand stands;
        copies_are = r2.copies_are;
        operands_room = r2.operands_room;
        old_operands = r2.old_operands;
        old_dictionaries = r2.old_dictionaries;
        stack_room = r2.stack_room;
        saves_room = r2.saves_room;
        pushed_room = r2.pushed_room;
        nobody = r2.nobody;
      }

  pub font_makes : AllBelow f.id ps → IsReady j copies saves (suc keys) matrix fm fx en d below room es ps m → Runs (font_lines f) m (with_new d room es fm fx en m f) (letters_events f.letters ++ FontMade (font_name f.id) ∷ [])
  font_makes before r =
      font_runs m f small good r.knows r.arrays r.top (takes_any (font_name f.id) room es (omega (arith, r.free))) r.old_dictionaries r.stack_room (omega (arith, r.operands_room))

  -- what stands for another name stays
  pub still_stands : AllBelow f.id ps → IsReady j copies saves (suc keys) matrix fm fx en d below room es ps m → (name : List ℕ) → bytes_eq (font_name f.id) name ≡ false → meaning_in (with_new d room es fm fx en m f).store m.dictionaries name ≡ meaning_in m.store m.dictionaries name
  still_stands before r name off =
      let n = length m.store in
      let key = font_name f.id in
      let s1 = put_entry m.store d room es key (Dictionary n) in
      let old = ap (λ k. all_below k m.dictionaries) (length-set m.store d (Entries room (with_entry key (Dictionary n) es))) ∙ r.old_dictionaries in
      meaning_keeps (Keeps-grown s1 (made_cells n fm fx en f)) m.dictionaries name old ∙ meaning_kept m.store d room es key (Dictionary n) r.top.stands name m.dictionaries off

-- the fonts of a section, one after another
pub record FontsMade (j : Job) (copies saves keys matrix fm fx en d : ℕ) (below : List ℕ) (room : ℕ) (ps : List Placed) (m : Machine) (fs : List Font) : Type 0 where
  pub store : List Cell
  pub entries : List Entry
  pub placed : List Placed
  pub fonts_are : fonts_of placed ≡ fonts_of ps ++ fs
  pub runs : Runs (fonts_lines fs) m (record m { store = store; fonts = directory placed }) (fonts_events fs)
  pub ready : IsReady j copies saves keys matrix fm fx en d below room entries placed (record m { store = store; fonts = directory placed })
  pub section_stands : meaning_in store m.dictionaries (codes "SS") ≡ meaning_in m.store m.dictionaries (codes "SS")

pub fonts_run : {j : Job} {copies saves matrix fm fx en d : ℕ} {below : List ℕ} {room : ℕ} (fs : List Font) (least keys : ℕ) (es : List Entry) (ps : List Placed) (m : Machine) → AllGoodFonts least fs → AllBelow least ps → IsReady j copies saves (length fs + keys) matrix fm fx en d below room es ps m → FontsMade j copies saves keys matrix fm fx en d below room ps m fs
fonts_run {j} {copies} {saves} {matrix} {fm} {fx} {en} {d} {below} {room} [] least keys es ps m all before r =
    let same : record m { fonts = directory ps } ≡ m = λ i. record m { fonts = sym r.fonts i } in
    record {
      store = m.store;
      entries = es;
      placed = ps;
      fonts_are = sym (append-nil (fonts_of ps));
      runs = subst (λ n. Runs [] m n []) (sym same) (nothing_runs m);
      ready = subst (λ n. IsReady j copies saves n matrix fm fx en d below room es ps (record m { fonts = directory ps })) zero_keys (subst (IsReady j copies saves (0 + keys) matrix fm fx en d below room es ps) (sym same) r);
      section_stands = refl;
    }
  where
    zero_keys : 0 + keys ≡ keys
    zero_keys = omega arith
fonts_run {j} {copies} {saves} {matrix} {fm} {fx} {en} {d} {below} {room} (f ∷ fs) least keys es ps m all before r =
    let one : suc (length fs) + keys ≡ suc (length fs + keys) = omega arith in
    let r' = subst (λ n. IsReady j copies saves n matrix fm fx en d below room es ps m) one r in
    let earlier = AllBelow-more least f.id ps all.0 before in
    let p = new m f in
    let next = with_new d room es fm fx en m f in
    let ready = IsReady-font m f all.1 all.2 earlier r' in
    let first = font_makes m f all.1 all.2 earlier r' in
    let rest = fonts_run fs (f.id + 1) keys (with_entry (font_name f.id) (Dictionary (length m.store)) es) (ps ++ p ∷ []) next all.3 (AllBelow-append f.id (f.id + 1) ps p (omega arith) earlier (omega arith)) ready in
    record {
      store = rest.store;
      entries = rest.entries;
      placed = rest.placed;
      fonts_are = rest.fonts_are ∙ ap (λ l. l ++ fs) (fonts_of-append ps p) ∙ append_assoc (fonts_of ps) (f ∷ []) fs;
      runs = Runs-append first rest.runs;
      ready = rest.ready;
      section_stands = rest.section_stands ∙ still_stands m f all.1 all.2 earlier r' (codes "SS") refl;
    }

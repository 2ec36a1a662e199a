-- A font is begun, its glyphs are put, it is ended and set: the laws of FB, D, E and F.
use Rattle.std.proofs.Common.{◌≡◌, refl, ap, ◌∙◌, subst, ℕ, suc, ◌+◌, ◌<◌, ◌≤◌, List, [], ◌∷◌, ◌++◌, length, Some, None, arith, true, append_assoc}
use Rattle.std.specs.Prelude.{codes, slice_get, slice_set, replicate}
use Rattle.std.proofs.lemmas.List.{length-append}
use Rattle.ps_subset.specs.Token as token
use Rattle.ps_subset.specs.Token.{Token, Body, Then, End}
use Rattle.ps_subset.specs.State.{Object, Literal, Array, Dictionary, Null, Entry, Cell, Elements, Entries, Machine, PutArray, FontMade, entry, with_entry, entries_of}
use Rattle.ps_subset.specs.StoreEffects.{all_below, holds_key}
use Rattle.ps_subset.specs.FontEffects.{with_font}
use Rattle.ps_subset.specs.StackEffects.{rolled}
use Rattle.ps_subset.specs.Run.{Value, meaning_in}
use Rattle.ps_subset.specs.Leads.{Meets}
use Rattle.ps_subset.specs.Conditions.{HasProlog, OnTop, TakesKey, put_entry, number, name, procedure}
use Rattle.ps_subset.specs.FontConditions.{HasFontArrays, font_cells}
use Rattle.ps_subset.proofs.Dictionaries.{IsFree, HasProlog-put, slice_get-set_other}
use Rattle.ps_subset.proofs.Steps.{◌▸◌, done, number_goes, literal_goes, procedure_goes, name_goes, value_goes, end_goes}
use Rattle.ps_subset.proofs.FontSteps.{dict_goes, array_goes, begin_goes, roll_goes, put_goes, index_goes, definefont_goes, setfont_goes}
use Rattle.ps_subset.proofs.Rules.{N_goes, S_goes, A_goes}
use Rattle.ps_subset.proofs.Stores.{slice_get-at, slice_set-at, slice_get-some, Keeps-grown, meaning_keeps, HasProlog-keeps, AllFree, meaning_under, HasProlog-under}

pub FontType_free : IsFree (codes "FontType")
unfolding entry
FontType_free = record { no_name = refl; no_operator = refl; no_truth = refl; no_matrix = refl }

pub FontMatrix_free : IsFree (codes "FontMatrix")
unfolding entry
FontMatrix_free = record { no_name = refl; no_operator = refl; no_truth = refl; no_matrix = refl }

pub FontBBox_free : IsFree (codes "FontBBox")
unfolding entry
FontBBox_free = record { no_name = refl; no_operator = refl; no_truth = refl; no_matrix = refl }

pub Encoding_free : IsFree (codes "Encoding")
unfolding entry
Encoding_free = record { no_name = refl; no_operator = refl; no_truth = refl; no_matrix = refl }

pub BuildChar_free : IsFree (codes "BuildChar")
unfolding entry
BuildChar_free = record { no_name = refl; no_operator = refl; no_truth = refl; no_matrix = refl }

pub GA_free : IsFree (codes "GA")
unfolding entry
GA_free = record { no_name = refl; no_operator = refl; no_truth = refl; no_matrix = refl }

pub FID_free : IsFree (codes "FID")
unfolding entry
FID_free = record { no_name = refl; no_operator = refl; no_truth = refl; no_matrix = refl }

-- In a store whose old part keeps what the names stand for, with a new dictionary on top.
module _ (store : List Cell) (ds : List ℕ) (room : ℕ) (es : List Entry) (more : List Cell) (old : all_below (length store) ds ≡ true) where
  abbrev wide : List Cell
  wide = store ++ Entries room es ∷ more

  pub meaning_beside : (name : List ℕ) → meaning_in wide ds name ≡ meaning_in store ds name
  meaning_beside name = meaning_keeps (Keeps-grown store (Entries room es ∷ more)) ds name old

  pub meaning_above : (name : List ℕ) → entry name es ≡ None → meaning_in wide (length store ∷ ds) name ≡ meaning_in store ds name
  meaning_above name h = meaning_under wide (length store) room es (slice_get-at store (Entries room es) more) ds name h ∙ meaning_beside name

  pub HasProlog-beside : {matrix : ℕ} → HasProlog matrix store ds → HasProlog matrix wide ds
  HasProlog-beside {matrix} k = HasProlog-keeps (Keeps-grown store (Entries room es ∷ more)) old (slice_get-some store matrix _ k.matrix_is) k

  pub HasProlog-above : {matrix : ℕ} → AllFree es → HasProlog matrix store ds → HasProlog matrix wide (length store ∷ ds)
  HasProlog-above all k = HasProlog-under wide (length store) room es (slice_get-at store (Entries room es) more) all (HasProlog-beside k)

-- N into the dictionary on top, where that is the first of the new cells
new_N_goes : {levels nest matrix : ℕ} {m : Machine} (k : HasProlog matrix m.store m.dictionaries) (store : List Cell) (room : ℕ) (es : List Entry) (more : List Cell) (ds : List ℕ) {key : List ℕ} {v : Object} {rest : List Object} → m.store ≡ store ++ Entries room es ∷ more → m.dictionaries ≡ length store ∷ ds → TakesKey key room es → m.operands ≡ v ∷ Literal key ∷ rest →
    Meets (suc levels) nest (token.Name (codes "N")) m (record m { operands = rest; store = store ++ Entries room (with_entry key v es) ∷ more }) []
new_N_goes {levels} {nest} {m = m} k store room es more ds {key} {v} {rest} is top fits h =
    let on : OnTop (length store) ds room es m.store m.dictionaries = record { top = top; stands = ap (λ s. slice_get s (length store)) is ∙ slice_get-at store (Entries room es) more } in
    subst (λ s. Meets (suc levels) nest (token.Name (codes "N")) m (record m { operands = rest; store = s }) [])
    (ap (λ s. slice_set s (length store) (Entries room (with_entry key v es))) is ∙ slice_set-at store (Entries room es) (Entries room (with_entry key v es)) more)
    (N_goes k on fits h)

-- an array behind the new cells
new_array_goes : {levels nest matrix : ℕ} {m : Machine} (k : HasProlog matrix m.store m.dictionaries) (store cells : List Cell) (n a : ℕ) {rest : List Object} → m.store ≡ store ++ cells → length store + length cells ≡ a → n < 65536 → m.operands ≡ number n ∷ rest →
    Meets levels nest (token.Name (codes "array")) m (record m { operands = Array a ∷ rest; store = store ++ (cells ++ Elements (replicate n Null) ∷ []) }) []
new_array_goes {levels} {nest} {m = m} k store cells n a {rest} is at few h =
    subst (λ (q : ℕ × List Cell). Meets levels nest (token.Name (codes "array")) m (record m { operands = Array q.0 ∷ rest; store = q.1 }) [])
    (λ i. ((ap length is ∙ length-append store cells ∙ at) i, (ap (λ s. s ++ Elements (replicate n Null) ∷ []) is ∙ append_assoc store cells (Elements (replicate n Null) ∷ [])) i))
    (array_goes k n few h)

-- FB: a font's dictionary and its empty array of glyphs are made, and the dictionary is begun and left.
pub FB_goes : {levels nest matrix fm fx en : ℕ} {m : Machine} (k : HasProlog matrix m.store m.dictionaries) → HasFontArrays fm fx en m.store m.dictionaries → all_below (length m.store) m.dictionaries ≡ true → length m.dictionaries < 19 → length m.operands + 3 ≤ 500 →
    Meets (suc (suc levels)) nest (token.Name (codes "FB")) m (record m { operands = Dictionary (length m.store) ∷ m.operands; dictionaries = length m.store ∷ m.dictionaries; store = m.store ++ font_cells fm fx en (suc (length m.store)) }) []
unfolding entry with_entry
FB_goes {matrix = matrix} {fm} {fx} {en} {m} k a old few room =
    let s = m.store in
    let ds = m.dictionaries in
    let d = length m.store in
    let e1 : List Entry = record { key = codes "FontType"; value = number 3 } ∷ [] in
    let e2 : List Entry = record { key = codes "FontType"; value = number 3 } ∷ record { key = codes "FontMatrix"; value = Array fm } ∷ [] in
    let e3 : List Entry = record { key = codes "FontType"; value = number 3 } ∷ record { key = codes "FontMatrix"; value = Array fm } ∷ record { key = codes "FontBBox"; value = Array fx } ∷ [] in
    let e4 : List Entry =
    record { key = codes "FontType"; value = number 3 } ∷ record { key = codes "FontMatrix"; value = Array fm } ∷ record { key = codes "FontBBox"; value = Array fx } ∷ record { key = codes "Encoding"; value = Array en } ∷ [] in
    let e5 : List Entry =
    record { key = codes "FontType"; value = number 3 } ∷ record { key = codes "FontMatrix"; value = Array fm } ∷ record { key = codes "FontBBox"; value = Array fx } ∷ record { key = codes "Encoding"; value = Array en } ∷
    record { key = codes "BuildChar"; value = procedure (name (codes "CB") ∷ []) } ∷ [] in
    let k0 = HasProlog-beside s ds 8 [] [] old k in
    let k1 = HasProlog-above s ds 8 [] [] old tt k in
    let k2 = HasProlog-above s ds 8 e1 [] old (FontType_free, tt) k in
    let k3 = HasProlog-above s ds 8 e2 [] old (FontType_free, (FontMatrix_free, tt)) k in
    let k4 = HasProlog-above s ds 8 e3 [] old (FontType_free, (FontMatrix_free, (FontBBox_free, tt))) k in
    let k5 = HasProlog-above s ds 8 e4 [] old (FontType_free, (FontMatrix_free, (FontBBox_free, (Encoding_free, tt)))) k in
    let k6 = HasProlog-above s ds 8 e5 [] old (FontType_free, (FontMatrix_free, (FontBBox_free, (Encoding_free, (BuildChar_free, tt))))) k in
    let k7 = HasProlog-above s ds 8 e5 (Elements (replicate 256 Null) ∷ []) old (FontType_free, (FontMatrix_free, (FontBBox_free, (Encoding_free, (BuildChar_free, tt))))) k in
    name_goes (k.names_stand (codes "FB") _ refl) (
    number_goes (omega arith)
    ▸ dict_goes k 8 (omega arith) refl
    ▸ A_goes k0 refl (omega arith)
    ▸ begin_goes k0 refl few
    ▸ literal_goes (omega arith)
    ▸ number_goes (omega arith)
    ▸ new_N_goes k1 s 8 [] [] ds refl refl refl refl
    ▸ literal_goes (omega arith)
    ▸ value_goes (meaning_above s ds 8 e1 [] old (codes "FM") refl ∙ a.FM_stands) (λ q n. refl) (omega arith)
    ▸ new_N_goes k2 s 8 e1 [] ds refl refl refl refl
    ▸ literal_goes (omega arith)
    ▸ value_goes (meaning_above s ds 8 e2 [] old (codes "FX") refl ∙ a.FX_stands) (λ q n. refl) (omega arith)
    ▸ new_N_goes k3 s 8 e2 [] ds refl refl refl refl
    ▸ literal_goes (omega arith)
    ▸ value_goes (meaning_above s ds 8 e3 [] old (codes "EN") refl ∙ a.EN_stands) (λ q n. refl) (omega arith)
    ▸ new_N_goes k4 s 8 e3 [] ds refl refl refl refl
    ▸ literal_goes (omega arith)
    ▸ procedure_goes (omega arith)
    ▸ new_N_goes k5 s 8 e4 [] ds refl refl refl refl
    ▸ literal_goes (omega arith)
    ▸ number_goes (omega arith)
    ▸ new_array_goes k6 s (Entries 8 e5 ∷ []) 256 (suc d) refl (omega arith) (omega arith) refl
    ▸ new_N_goes k7 s 8 e5 (Elements (replicate 256 Null) ∷ []) ds refl refl refl refl
    ▸ done)

-- D: an array is put at its code into the array of glyphs that GA stands for.
pub D_goes : {levels nest matrix glyphs : ℕ} {m : Machine} {p : ℕ} {xs rest : List Object} (code : ℕ) (k : HasProlog matrix m.store m.dictionaries) → m.operands ≡ Array p ∷ number code ∷ rest → meaning_in m.store m.dictionaries (codes "GA") ≡ Value (Array glyphs) → slice_get m.store glyphs ≡ Some (Elements xs) → code < length xs → length m.operands + 3 ≤ 500 →
    Meets (suc levels) nest (token.Name (codes "D")) m (record m { operands = rest; store = slice_set m.store glyphs (Elements (slice_set xs code (Array p))) }) (PutArray code ∷ [])
unfolding entry
D_goes {glyphs = glyphs} {rest = rest} code k h table is less room =
    name_goes (k.names_stand (codes "D") _ refl) (
    value_goes table (λ q n. refl) (omega arith)
    ▸ number_goes (omega arith)
    ▸ number_goes (omega arith)
    ▸ roll_goes k 3 1 (omega arith) (omega arith) refl (omega (arith, ap length h))
    ▸ put_goes k code (ap (λ l. rolled 3 1 (Array glyphs ∷ l)) h) is less
    ▸ done)

-- E: the dictionary on top is ended, becomes the font of its key, and stands for the key in the dictionary that is on top then.
pub E_goes : {levels nest matrix f d room' : ℕ} {below : List ℕ} {es' : List Entry} {m : Machine} {room : ℕ} {es : List Entry} {key : List ℕ} {rest : List Object} (k : HasProlog matrix m.store m.dictionaries) → HasProlog matrix m.store (d ∷ below) → m.dictionaries ≡ f ∷ d ∷ below → m.operands ≡ Dictionary f ∷ Literal key ∷ rest → slice_get m.store f ≡ Some (Entries room es) → TakesKey (codes "FID") room es → slice_get m.store d ≡ Some (Entries room' es') → (f ≡ d → ⊥) → TakesKey key room' es' → length m.operands + 1 ≤ 500 →
    Meets (suc (suc levels)) nest (token.Name (codes "E")) m
    (record m { operands = rest; dictionaries = d ∷ below; store = put_entry (put_entry m.store f room es (codes "FID") (Literal key)) d room' es' key (Dictionary f); fonts = with_font key f m.fonts }) (FontMade key ∷ [])
unfolding entry
E_goes {f = f} {d} {room'} {below} {es'} {m} {room} {es} {key} {rest} k k' dictionaries h here fits there apart takes long =
    let made = HasProlog-put m.store f room es (codes "FID") (Literal key) here (d ∷ below) FID_free k' in
    let on : OnTop d below room' es' (put_entry m.store f room es (codes "FID") (Literal key)) (d ∷ below) =
    record { top = refl; stands = slice_get-set_other m.store f d (Entries room (with_entry (codes "FID") (Literal key) es)) apart ∙ there } in
    name_goes (k.names_stand (codes "E") _ refl) (
    end_goes k dictionaries
    ▸ number_goes (omega arith)
    ▸ index_goes k' 1 (omega arith) refl (ap (λ l. slice_get l 1) h)
    ▸ S_goes k' (ap (λ l. Literal key ∷ l) h)
    ▸ definefont_goes k' refl here fits
    ▸ N_goes made on takes refl
    ▸ done)

-- F: a font is set
pub F_goes : {levels nest matrix d : ℕ} {m : Machine} {rest : List Object} (k : HasProlog matrix m.store m.dictionaries) → m.operands ≡ Dictionary d ∷ rest → holds_key (entry (codes "FID") (entries_of (slice_get m.store d))) ≡ true →
    Meets (suc levels) nest (token.Name (codes "F")) m (record m { operands = rest; graphics = record m.graphics { font = Some d } }) []
unfolding entry
F_goes k h e = name_goes (k.names_stand (codes "F") _ refl) (setfont_goes k h e ▸ done)

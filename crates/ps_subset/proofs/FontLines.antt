-- The lines of a font make it, and put its glyphs.
use Rattle.std.proofs.Common.{◌≡◌, refl, ap, sym, ◌∙◌, subst, ℕ, zero, suc, ◌+◌, ◌<◌, ◌≤◌, ◌^◌, List, [], ◌∷◌, ◌++◌, length, Some, arith, Bool, true, false, append_assoc}
use Rattle.std.specs.Prelude.{codes, ℤ, pos, ◌-ℤ◌, neg_ℤ, nat_abs, nat_lt, slice_get, slice_set, replicate, if◌then◌else◌, ◌&&◌}
use Rattle.std.proofs.lemmas.List.{append-nil, length-append, length-set}
use Rattle.std.proofs.lemmas.Int.{ints}
use Rattle.ps_subset.specs.Token as token
use Rattle.ps_subset.specs.Token.{Token, body_of}
use Rattle.ps_subset.specs.Reading.{reading_after, tokens_from, next, begin}
use Rattle.ps_subset.specs.State.{Object, Literal, Array, Dictionary, Null, Entry, Cell, Elements, Entries, Machine, PutArray, FontMade, entry, with_entry, is_glyph, glyphs_from}
use Rattle.ps_subset.specs.StoreEffects.{all_below}
use Rattle.ps_subset.specs.FontEffects.{with_font}
use Rattle.ps_subset.specs.Run.{Value, meaning_in, nests}
use Rattle.ps_subset.specs.Prolog.{line}
use Rattle.ps_subset.specs.Job.{IsInRange}
use Rattle.ps_subset.specs.Leads.{Goes}
use Rattle.ps_subset.specs.Conditions.{HasProlog, OnTop, TakesKey, put_entry, font_matrix_cell}
use Rattle.ps_subset.specs.Fonts.{printed, Letter, Font, font_name, IsGoodGlyph, letter_codes, AllBytes}
use Rattle.ps_subset.specs.FontConditions.{glyph_elements, shift_cell, IsFont, HoldsLetter, AllHeld, HasFontArrays, font_entries}
use Rattle.ps_subset.specs.FontText.{letter_line, letter_lines, font_lines, letters_events, letters_held, AllGoodLetters}
use Rattle.ps_subset.proofs.Dictionaries.{slice_get-set_same, slice_get-set_other}
use Rattle.ps_subset.proofs.Steps.{nat_lt_yes, ◌▸◌, done, number_goes, literal_goes, procedure_goes, true_goes}
use Rattle.ps_subset.proofs.FontSteps.{open_goes, close_goes}
use Rattle.ps_subset.proofs.FontLaws.{FB_goes, D_goes, E_goes, HasProlog-above, HasProlog-beside, FontType_free, FontMatrix_free, FontBBox_free, Encoding_free, BuildChar_free, GA_free}
use Rattle.ps_subset.proofs.Stores.{slice_get-at, slice_get-next, slice_get-grown, slice_get-some, slice_set-at, slice_set-next, slice_set-before, Keeps-grown, meaning_keeps, HasProlog-keeps, below_more, AllFree}
use Rattle.ps_subset.proofs.Pages.{top_value}
use Rattle.ps_subset.proofs.Reading.{Reads, Reads-append, closed_reads, D_reads, E_reads, FB_reads}
use Rattle.ps_subset.proofs.Numbers.{number_reads, signed_reads}
use Rattle.ps_subset.proofs.Hex.{rows_procedure_reads}
use Rattle.ps_subset.proofs.FontWords.{opened_reads, closed_number_reads, font_literal_reads}
use Rattle.ps_subset.proofs.Runs.{Runs, Runs-append, nothing_runs}

-- the tokens of a glyph's line
abbrev letter_tokens : Letter → List Token
letter_tokens l =
    let g = printed l.glyph in
    token.Number (pos l.code) ∷ token.Name (codes "[") ∷ token.Number (pos g.columns) ∷ token.Number (pos g.rows) ∷ token.Name (codes "true") ∷ token.Name (codes "[") ∷
    token.Number (pos 1) ∷ token.Number (pos 0) ∷ token.Number (pos 0) ∷ token.Number (pos 1) ∷ token.Number g.hoff ∷ token.Number g.voff ∷ token.Name (codes "]") ∷
    token.Procedure (body_of (token.Text g.bytes ∷ [])) ∷ token.Number g.width ∷ token.Number (pos 0) ∷
    token.Number (neg_ℤ g.hoff) ∷ token.Number (neg_ℤ g.voff) ∷ token.Number (pos g.columns -ℤ g.hoff) ∷ token.Number (pos g.rows -ℤ g.voff) ∷ token.Name (codes "]") ∷ token.Name (codes "D") ∷ []

matrix_begins_reads : Reads (codes "true[1 0 0 1 ") (token.Name (codes "true") ∷ token.Name (codes "[") ∷ token.Number (pos 1) ∷ token.Number (pos 0) ∷ token.Number (pos 0) ∷ token.Number (pos 1) ∷ [])
unfolding tokens_from reading_after next begin
matrix_begins_reads = subst (Reads (codes "true[1 0 0 1 ")) refl (closed_reads (codes "true[1 0 0 1 ") refl)

zero_reads : Reads (codes "0 ") (token.Number (pos 0) ∷ [])
unfolding tokens_from reading_after next begin
zero_reads = subst (Reads (codes "0 ")) refl (closed_reads (codes "0 ") refl)

negative_range : (z : ℤ) → nat_abs z < 2 ^ 32 → IsInRange (neg_ℤ z)
negative_range z h = omega (arith, ints)

box_range : (n : ℕ) (z : ℤ) → n < 2 ^ 32 → nat_abs z < 2 ^ 32 → IsInRange (pos n -ℤ z)
box_range n z hn hz = omega (arith, ints)

letter_reads : (l : Letter) → l.code < 256 → IsGoodGlyph (printed l.glyph) → Reads (letter_line l) (letter_tokens l)
letter_reads l few good =
    let g = printed l.glyph in
    Reads-append (opened_reads l.code (omega arith))
    (Reads-append (number_reads g.columns (omega (arith, good.columns)))
    (Reads-append (number_reads g.rows (omega (arith, good.rows)))
    (Reads-append matrix_begins_reads
    (Reads-append (signed_reads g.hoff (omega (arith, good.hoff)))
    (Reads-append (closed_number_reads g.voff (omega (arith, good.voff)))
    (Reads-append (rows_procedure_reads 32 g.bytes good.are_bytes good.short)
    (Reads-append (signed_reads g.width good.width)
    (Reads-append zero_reads
    (Reads-append (signed_reads (neg_ℤ g.hoff) (negative_range g.hoff good.hoff))
    (Reads-append (signed_reads (neg_ℤ g.voff) (negative_range g.voff good.voff))
    (Reads-append (signed_reads (pos g.columns -ℤ g.hoff) (box_range g.columns g.hoff good.columns good.hoff))
    (Reads-append (closed_number_reads (pos g.rows -ℤ g.voff) (box_range g.rows g.voff good.rows good.voff)) D_reads))))))))))))

-- a glyph's line, where GA stands for an array of the store
letter_goes : {levels nest matrix glyphs : ℕ} {m : Machine} {xs : List Object} (l : Letter) (k : HasProlog matrix m.store m.dictionaries) → all_below (length m.store) m.dictionaries ≡ true → meaning_in m.store m.dictionaries (codes "GA") ≡ Value (Array glyphs) → slice_get m.store glyphs ≡ Some (Elements xs) → l.code < length xs → length m.operands + 20 ≤ 500 →
    Goes (suc levels) nest (letter_tokens l) m
    (record m { store = slice_set ((m.store ++ shift_cell (printed l.glyph) ∷ []) ++ Elements (glyph_elements (printed l.glyph) (length m.store)) ∷ []) glyphs (Elements (slice_set xs l.code (Array (length (m.store ++ shift_cell (printed l.glyph) ∷ []))))) }) (PutArray l.code ∷ [])
letter_goes {matrix = matrix} {glyphs} {m} {xs} l k old table is less room =
    let g = printed l.glyph in
    let s1 = m.store ++ shift_cell g ∷ [] in
    let c2 = Elements (glyph_elements g (length m.store)) in
    let n1 = length-append m.store (shift_cell g ∷ []) in
    let old1 = below_more (length m.store) (length s1) m.dictionaries (omega (arith, n1)) old in
    let at : matrix < length m.store = slice_get-some m.store matrix _ k.matrix_is in
    let k1 = HasProlog-keeps (Keeps-grown m.store (shift_cell g ∷ [])) old at k in
    let k2 = HasProlog-keeps (Keeps-grown s1 (c2 ∷ [])) old1 (omega (arith, at, n1)) k1 in
    let table2 = meaning_keeps (Keeps-grown s1 (c2 ∷ [])) m.dictionaries (codes "GA") old1 ∙ meaning_keeps (Keeps-grown m.store (shift_cell g ∷ [])) m.dictionaries (codes "GA") old ∙ table in
    let is2 = slice_get-grown s1 (c2 ∷ []) glyphs (Elements xs) (slice_get-grown m.store (shift_cell g ∷ []) glyphs (Elements xs) is) in
    number_goes (omega arith)
    ▸ open_goes k (omega arith)
    ▸ number_goes (omega arith)
    ▸ number_goes (omega arith)
    ▸ true_goes k (omega arith)
    ▸ open_goes k (omega arith)
    ▸ number_goes (omega arith)
    ▸ number_goes (omega arith)
    ▸ number_goes (omega arith)
    ▸ number_goes (omega arith)
    ▸ number_goes (omega arith)
    ▸ number_goes (omega arith)
    ▸ close_goes k refl
    ▸ procedure_goes (omega arith)
    ▸ number_goes (omega arith)
    ▸ number_goes (omega arith)
    ▸ number_goes (omega arith)
    ▸ number_goes (omega arith)
    ▸ number_goes (omega arith)
    ▸ number_goes (omega arith)
    ▸ close_goes k1 refl
    ▸ D_goes l.code k2 refl table2 is2 less (omega arith)
    ▸ done

-- the table of glyphs, and the cells behind it, as the lines leave them, where the next cell is at a
abbrev pub filled : ℕ → List Object → List Letter → List Object
filled a xs [] = xs
filled a xs (l ∷ ls) = filled (a + 2) (slice_set xs l.code (Array (a + 1))) ls

abbrev pub letter_cells : ℕ → List Letter → List Cell
letter_cells a [] = []
letter_cells a (l ∷ ls) = shift_cell (printed l.glyph) ∷ Elements (glyph_elements (printed l.glyph) a) ∷ letter_cells (a + 2) ls

-- the state while a font is made in a store
abbrev pub making : Machine → List ℕ → List Entry → List Object → List Cell → Machine
making m key es xs cells = record m {
  operands = Dictionary (length m.store) ∷ Literal key ∷ m.operands;
  dictionaries = length m.store ∷ m.dictionaries;
  store = m.store ++ Entries 8 es ∷ Elements xs ∷ cells;
}

all_free : (fm fx en glyphs : ℕ) → AllFree (font_entries fm fx en glyphs)
all_free fm fx en glyphs = (FontType_free, (FontMatrix_free, (FontBBox_free, (Encoding_free, (BuildChar_free, (GA_free, tt))))))

-- two more cells, and an element changed
grows : (s cells : List Cell) (e c1 c2 : Cell) (xs ys : List Object) → slice_set (((s ++ e ∷ Elements xs ∷ cells) ++ c1 ∷ []) ++ c2 ∷ []) (suc (length s)) (Elements ys) ≡ s ++ e ∷ Elements ys ∷ (cells ++ c1 ∷ c2 ∷ [])
grows s cells e c1 c2 xs ys =
    ap (λ l. slice_set l (suc (length s)) (Elements ys)) (append_assoc (s ++ e ∷ Elements xs ∷ cells) (c1 ∷ []) (c2 ∷ []) ∙ append_assoc s (e ∷ Elements xs ∷ cells) (c1 ∷ c2 ∷ [])) ∙
    slice_set-next s e (Elements xs) (Elements ys) (cells ++ c1 ∷ c2 ∷ [])

module _ (matrix fm fx en : ℕ) (m : Machine) (key : List ℕ) (k : HasProlog matrix m.store m.dictionaries) (old : all_below (length m.store) m.dictionaries ≡ true) (room : length m.operands + 30 ≤ 500) where
  letter_runs : (l : Letter) (xs : List Object) (cells : List Cell) (a : ℕ) → length (m.store ++ Entries 8 (font_entries fm fx en (suc (length m.store))) ∷ Elements xs ∷ cells) ≡ a → l.code < 256 → l.code < length xs → IsGoodGlyph (printed l.glyph) →
      Runs (letter_line l) (making m key (font_entries fm fx en (suc (length m.store))) xs cells) (making m key (font_entries fm fx en (suc (length m.store))) (slice_set xs l.code (Array (a + 1))) (cells ++ shift_cell (printed l.glyph) ∷ Elements (glyph_elements (printed l.glyph) a) ∷ [])) (PutArray l.code ∷ [])
  unfolding entry
  letter_runs l xs cells a is few less good =
      let s = m.store in
      let g = printed l.glyph in
      let es = font_entries fm fx en (suc (length m.store)) in
      let before = making m key es xs cells in
      let here = before.store in
      let above = HasProlog-above s m.dictionaries 8 es (Elements xs ∷ cells) old (all_free fm fx en (suc (length s))) k in
      let n = length-append s (Entries 8 es ∷ Elements xs ∷ cells) in
      let old' : all_below (length here) (length s ∷ m.dictionaries) ≡ true = below_wide (length s) (length here) m.dictionaries (omega (arith, n)) old in
      let on : OnTop (length s) m.dictionaries 8 es here (length s ∷ m.dictionaries) = record { top = refl; stands = slice_get-at s (Entries 8 es) (Elements xs ∷ cells) } in
      let goes = letter_goes {m = before} {xs = xs} l above old' (top_value (codes "GA") on refl) (slice_get-next s (Entries 8 es) (Elements xs) cells) less (omega arith) in
      let n1 = length-append here (shift_cell g ∷ []) in
      let p : length (here ++ shift_cell g ∷ []) ≡ a + 1 = omega (arith, n1, is) in
      record {
        tokens = letter_tokens l;
        reads = letter_reads l few good;
        goes =
            subst (λ q. Goes 100 nests (letter_tokens l) before (record before { store = q }) (PutArray l.code ∷ []))
            ((λ i. slice_set ((here ++ shift_cell g ∷ []) ++ Elements (glyph_elements g (is i)) ∷ []) (suc (length s)) (Elements (slice_set xs l.code (Array (p i))))) ∙
            grows s cells (Entries 8 es) (shift_cell g) (Elements (glyph_elements g a)) xs (slice_set xs l.code (Array (a + 1)))) goes;
      }
    where
      below_wide : (n limit : ℕ) (ds : List ℕ) → n < limit → all_below n ds ≡ true → all_below limit (n ∷ ds) ≡ true
      below_wide n limit ds less h = rw (nat_lt_yes n limit less, below_more n limit ds (omega arith) h) refl

  pub letters_run : (ls : List Letter) (least : ℕ) (xs : List Object) (cells : List Cell) (a : ℕ) → length (m.store ++ Entries 8 (font_entries fm fx en (suc (length m.store))) ∷ Elements xs ∷ cells) ≡ a → length xs ≡ 256 → AllGoodLetters least ls →
      Runs (letter_lines ls) (making m key (font_entries fm fx en (suc (length m.store))) xs cells) (making m key (font_entries fm fx en (suc (length m.store))) (filled a xs ls) (cells ++ letter_cells a ls)) (letters_events ls)
  letters_run [] least xs cells a is long all = subst (λ cs. Runs [] (making m key (font_entries fm fx en (suc (length m.store))) xs cells) (making m key (font_entries fm fx en (suc (length m.store))) xs cs) []) (sym (append-nil cells)) (nothing_runs (making m key (font_entries fm fx en (suc (length m.store))) xs cells))
  letters_run (l ∷ ls) least xs cells a is long all =
      let s = m.store in
      let e = Entries 8 (font_entries fm fx en (suc (length m.store))) in
      let c1 = shift_cell (printed l.glyph) in
      let c2 = Elements (glyph_elements (printed l.glyph) a) in
      let ys = slice_set xs l.code (Array (a + 1)) in
      let first = letter_runs l xs cells a is all.1 (omega (arith, all.1, long)) all.2 in
      let n = length-append s (e ∷ Elements xs ∷ cells) in
      let n1 = length-append s (e ∷ Elements ys ∷ (cells ++ c1 ∷ c2 ∷ [])) in
      let n2 = length-append cells (c1 ∷ c2 ∷ []) in
      let rest = letters_run ls (l.code + 1) ys (cells ++ c1 ∷ c2 ∷ []) (a + 2) (omega (arith, n, n1, n2, is)) (length-set xs l.code (Array (a + 1)) ∙ long) all.3 in
      let last = making m key (font_entries fm fx en (suc (length m.store))) (filled (a + 2) ys ls) in
      subst (λ cs. Runs (letter_lines (l ∷ ls)) (making m key (font_entries fm fx en (suc (length m.store))) xs cells) (last cs) (letters_events (l ∷ ls))) (append_assoc cells (c1 ∷ c2 ∷ []) (letter_cells (a + 2) ls)) (Runs-append first rest)

-- What the cells say. Letters of smaller codes stay.
filled_keeps : (ls : List Letter) (least a : ℕ) (xs : List Object) (i : ℕ) → AllGoodLetters least ls → i < least → slice_get (filled a xs ls) i ≡ slice_get xs i
filled_keeps [] least a xs i all less = refl
filled_keeps (l ∷ ls) least a xs i all less =
    filled_keeps ls (l.code + 1) (a + 2) (slice_set xs l.code (Array (a + 1))) i all.3 (omega (arith, all.0)) ∙
    slice_get-set_other xs l.code i (Array (a + 1)) (λ e. absurd (omega (arith, all.0, e)))

-- a store has these cells from a place on
pub record HasCells (a : ℕ) (cells store : List Cell) : Type 0 where
  pub by : (i : ℕ) (c : Cell) → slice_get cells i ≡ Some c → slice_get store (a + i) ≡ Some c

cells_behind : (base cells : List Cell) (a : ℕ) → length base ≡ a → HasCells a cells (base ++ cells)
cells_behind base cells a is = record { by = λ i c h. subst (λ n. slice_get (base ++ cells) (n + i) ≡ Some c) is (go base i c h) }
  where
    go : (base : List Cell) (i : ℕ) (c : Cell) → slice_get cells i ≡ Some c → slice_get (base ++ cells) (length base + i) ≡ Some c
    go [] i c h = let e : i ≡ 0 + i = omega arith in subst (λ n. slice_get cells n ≡ Some c) e h
    go (b ∷ bs) i c h = let e : suc (length bs + i) ≡ suc (length bs) + i = omega arith in subst (λ n. slice_get (b ∷ (bs ++ cells)) n ≡ Some c) e (go bs i c h)

some_at : {A : Type 0} (xs : List A) (i : ℕ) → i < length xs → (x : A) × (slice_get xs i ≡ Some x)
some_at [] i h = absurd (omega arith)
some_at (x ∷ xs) zero h = (x, refl)
some_at (x ∷ xs) (suc i) h = some_at xs i (omega arith)

letters_stand : (ls : List Letter) (least a glyphs : ℕ) (xs table : List Object) (store : List Cell) → AllGoodLetters least ls → length xs ≡ 256 → slice_get store glyphs ≡ Some (Elements table) → ((i : ℕ) → least ≤ i → slice_get table i ≡ slice_get (filled a xs ls) i) → HasCells a (letter_cells a ls) store → AllHeld glyphs ls store
letters_stand [] least a glyphs xs table store all long is same cells = tt
letters_stand (l ∷ ls) least a glyphs xs table store all long is same cells =
    let ys = slice_set xs l.code (Array (a + 1)) in
    let was = some_at xs l.code (omega (arith, all.1, long)) in
    let kept = filled_keeps ls (l.code + 1) (a + 2) ys l.code all.3 (omega arith) in
    let held : HoldsLetter glyphs l store = record {
      table = table;
      place = a + 1;
      matrix = a;
      table_is = is;
      at = same l.code all.0 ∙ kept ∙ slice_get-set_same xs l.code was.0 (Array (a + 1)) was.1;
      is = cells.by 1 (Elements (glyph_elements (printed l.glyph) a)) refl;
      matrix_is = (let e : a + 0 ≡ a = omega arith in subst (λ n. slice_get store n ≡ Some (shift_cell (printed l.glyph))) e (cells.by 0 (shift_cell (printed l.glyph)) refl));
    } in
    let later : HasCells (a + 2) (letter_cells (a + 2) ls) store = record {
      by = λ i c h. (let e : a + suc (suc i) ≡ a + 2 + i = omega arith in subst (λ n. slice_get store n ≡ Some c) e (cells.by (suc (suc i)) c h));
    } in
    (held, all.2, letters_stand ls (l.code + 1) (a + 2) glyphs ys table store all.3 (length-set xs l.code (Array (a + 1)) ∙ long) is (λ i le. same i (omega (arith, le, all.0))) later)

-- the glyphs that the table holds
NullFrom : ℕ → List Object → Type 0
NullFrom n xs = (i : ℕ) → n ≤ i → i < length xs → slice_get xs i ≡ Some Null

no_glyphs : (key : List ℕ) (code : ℕ) (xs : List Object) → NullFrom 0 xs → glyphs_from key code xs ≡ []
unfolding NullFrom
no_glyphs key code [] nulls = refl
no_glyphs key code (x ∷ xs) nulls =
    let first : x ≡ Null = inside (nulls 0 (omega arith) (omega arith)) in
    rw first (no_glyphs key (code + 1) xs (λ i le less. nulls (suc i) (omega arith) (omega arith)))
  where
    inside : Some x ≡ Some Null → x ≡ Null
    inside h = grind (arith, h)

one_more : (key : List ℕ) (base c p : ℕ) (xs : List Object) → NullFrom c xs → c < length xs → base + c < 256 → glyphs_from key base (slice_set xs c (Array p)) ≡ glyphs_from key base xs ++ record { key = key; code = base + c } ∷ []
unfolding NullFrom
one_more key base c p [] nulls less few = absurd (omega arith)
one_more key base zero p (x ∷ xs) nulls less few =
    let first : x ≡ Null = inside (nulls 0 (omega arith) (omega arith)) in
    let e : base + 0 ≡ base = omega arith in
    let none = no_glyphs key (base + 1) xs (λ i le l. nulls (suc i) (omega arith) (omega arith)) in
    let fits : base < 256 = omega arith in
    rw (first, e, nat_lt_yes base 256 fits, none) refl
  where
    inside : Some x ≡ Some Null → x ≡ Null
    inside h = grind (arith, h)
one_more key base (suc c) p (x ∷ xs) nulls less few =
    let e : base + 1 + c ≡ base + suc c = omega arith in
    let ih = one_more key (base + 1) c p xs (λ i le l. nulls (suc i) (omega (arith, le)) (omega (arith, l))) (omega (arith, less)) (omega (arith, few)) in
    go (is_glyph x && nat_lt base 256) (ih ∙ ap (λ n. glyphs_from key (base + 1) xs ++ record { key = key; code = n } ∷ []) e)
  where
    go : (b : Bool) → glyphs_from key (base + 1) (slice_set xs c (Array p)) ≡ glyphs_from key (base + 1) xs ++ record { key = key; code = base + suc c } ∷ [] →
        (if b then (record { key = key; code = base } ∷ glyphs_from key (base + 1) (slice_set xs c (Array p))) else glyphs_from key (base + 1) (slice_set xs c (Array p))) ≡
        (if b then (record { key = key; code = base } ∷ glyphs_from key (base + 1) xs) else glyphs_from key (base + 1) xs) ++ record { key = key; code = base + suc c } ∷ []
    go true q = ap (λ l. record { key = key; code = base } ∷ l) q
    go false q = q

still_null : (c p : ℕ) (xs : List Object) (least : ℕ) → least ≤ c → NullFrom least xs → NullFrom (c + 1) (slice_set xs c (Array p))
unfolding NullFrom
still_null c p xs least le nulls = λ i far less.
    slice_get-set_other xs c i (Array p) (λ e. absurd (omega (arith, far, e))) ∙ nulls i (omega (arith, far, le)) (omega (arith, less, length-set xs c (Array p)))

later : (c least : ℕ) (xs : List Object) → least ≤ c → NullFrom least xs → NullFrom c xs
unfolding NullFrom
later c least xs le nulls = λ i far less. nulls i (omega (arith, far, le)) less

held_of : (key : List ℕ) (ls : List Letter) (least a : ℕ) (xs : List Object) → AllGoodLetters least ls → length xs ≡ 256 → NullFrom least xs → glyphs_from key 0 (filled a xs ls) ≡ glyphs_from key 0 xs ++ letters_held key ls
held_of key [] least a xs all long nulls = sym (append-nil (glyphs_from key 0 xs))
held_of key (l ∷ ls) least a xs all long nulls =
    let ys = slice_set xs l.code (Array (a + 1)) in
    let zero_code : 0 + l.code ≡ l.code = omega arith in
    let null_there : NullFrom l.code xs = later l.code least xs all.0 nulls in
    held_of key ls (l.code + 1) (a + 2) ys all.3 (length-set xs l.code (Array (a + 1)) ∙ long) (still_null l.code (a + 1) xs least all.0 nulls) ∙
    ap (λ h. h ++ letters_held key ls) (one_more key 0 l.code (a + 1) xs null_there (omega (arith, all.1, long)) (omega (arith, all.1)) ∙ ap (λ n. glyphs_from key 0 xs ++ record { key = key; code = n } ∷ []) zero_code) ∙
    append_assoc (glyphs_from key 0 xs) (record { key = key; code = l.code } ∷ []) (letters_held key ls)

nulls_at : (n i : ℕ) → i < n → slice_get (replicate n Null) i ≡ Some Null
nulls_at zero i h = absurd (omega arith)
nulls_at (suc n) zero h = refl
nulls_at (suc n) (suc i) h = nulls_at n i (omega arith)

all_null : NullFrom 0 (replicate 256 Null)
unfolding NullFrom
all_null = λ i le less. nulls_at 256 i (omega (arith, less, length_nulls))
  where
    length_nulls : length (replicate 256 Null) ≡ 256
    length_nulls = refl

-- a font as its lines leave it, where its dictionary is at n
abbrev pub made_table : ℕ → Font → List Object
made_table n f = filled (n + 2) (replicate 256 Null) f.letters

abbrev pub made_entries : ℕ → ℕ → ℕ → ℕ → Font → List Entry
made_entries n fm fx en f = with_entry (codes "FID") (Literal (font_name f.id)) (font_entries fm fx en (suc n))

abbrev pub made_cells : ℕ → ℕ → ℕ → ℕ → Font → List Cell
made_cells n fm fx en f = Entries 8 (made_entries n fm fx en f) ∷ Elements (made_table n f) ∷ letter_cells (n + 2) f.letters

pub made_is : (s : List Cell) (fm fx en : ℕ) (f : Font) → slice_get s fm ≡ Some font_matrix_cell → IsFont (font_name f.id) (length s) (suc (length s)) (s ++ made_cells (length s) fm fx en f)
unfolding entry with_entry
made_is s fm fx en f matrix = record {
  matrix = fm;
  room = 8;
  entries = made_entries (length s) fm fx en f;
  dictionary_is = slice_get-at s (Entries 8 (made_entries (length s) fm fx en f)) (Elements (made_table (length s) f) ∷ letter_cells (length s + 2) f.letters);
  type_is = refl;
  matrix_stands = refl;
  matrix_is = slice_get-grown s (made_cells (length s) fm fx en f) fm font_matrix_cell matrix;
  key_is = refl;
  build_is = refl;
  glyphs_are = refl;
}

made_behind : (s : List Cell) (fm fx en : ℕ) (f : Font) → HasCells (length s + 2) (letter_cells (length s + 2) f.letters) (s ++ made_cells (length s) fm fx en f)
made_behind s fm fx en f =
    let two : List Cell = Entries 8 (made_entries (length s) fm fx en f) ∷ Elements (made_table (length s) f) ∷ [] in
    let n = length-append s two in
    subst (HasCells (length s + 2) (letter_cells (length s + 2) f.letters)) (append_assoc s two (letter_cells (length s + 2) f.letters))
    (cells_behind (s ++ two) (letter_cells (length s + 2) f.letters) (length s + 2) (omega (arith, n)))

pub made_table_is : (s : List Cell) (fm fx en : ℕ) (f : Font) → slice_get (s ++ made_cells (length s) fm fx en f) (suc (length s)) ≡ Some (Elements (made_table (length s) f))
made_table_is s fm fx en f = slice_get-next s (Entries 8 (made_entries (length s) fm fx en f)) (Elements (made_table (length s) f)) (letter_cells (length s + 2) f.letters)

pub made_held : (s : List Cell) (fm fx en : ℕ) (f : Font) → AllGoodLetters 0 f.letters → AllHeld (suc (length s)) f.letters (s ++ made_cells (length s) fm fx en f)
made_held s fm fx en f good =
    letters_stand f.letters 0 (length s + 2) (suc (length s)) (replicate 256 Null) (made_table (length s) f) (s ++ made_cells (length s) fm fx en f) good refl
    (made_table_is s fm fx en f) (λ i le. refl) (made_behind s fm fx en f)

pub made_glyphs : (n : ℕ) (f : Font) → AllGoodLetters 0 f.letters → glyphs_from (font_name f.id) 0 (made_table n f) ≡ letters_held (font_name f.id) f.letters
made_glyphs n f good = held_of (font_name f.id) f.letters 0 (n + 2) (replicate 256 Null) good refl all_null ∙ ap (λ l. l ++ letters_held (font_name f.id) f.letters) (no_glyphs (font_name f.id) 0 (replicate 256 Null) all_null)

pub codes_fit : (ls : List Letter) (least : ℕ) → AllGoodLetters least ls → AllBytes (letter_codes ls)
codes_fit [] least all = tt
codes_fit (l ∷ ls) least all = (all.1, codes_fit ls (l.code + 1) all.3)

FID_fits : (fm fx en glyphs : ℕ) → TakesKey (codes "FID") 8 (font_entries fm fx en glyphs)
unfolding entry
FID_fits fm fx en glyphs = refl

-- the lines of a font, where its name is no key yet
pub font_runs : {matrix fm fx en d room : ℕ} {below : List ℕ} {es : List Entry} (m : Machine) (f : Font) → f.id < 2 ^ 63 → AllGoodLetters 0 f.letters → HasProlog matrix m.store m.dictionaries → HasFontArrays fm fx en m.store m.dictionaries → OnTop d below room es m.store m.dictionaries → TakesKey (font_name f.id) room es → all_below (length m.store) m.dictionaries ≡ true → length m.dictionaries < 19 → length m.operands + 40 ≤ 500 →
    Runs (font_lines f) m (record m { store = put_entry m.store d room es (font_name f.id) (Dictionary (length m.store)) ++ made_cells (length m.store) fm fx en f; fonts = with_font (font_name f.id) (length m.store) m.fonts }) (letters_events f.letters ++ FontMade (font_name f.id) ∷ [])
font_runs {matrix} {fm} {fx} {en} {d} {room} {below} {es} m f small good k arrays on takes old few long =
    let s = m.store in
    let key = font_name f.id in
    let n = length s in
    let own = font_entries fm fx en (suc n) in
    let nulls = replicate 256 Null in
    let literal = font_literal_reads f.id (omega (arith, small)) in
    let begins : Runs ((codes "/" ++ (key ++ codes " ")) ++ line (codes "FB")) m (making m key own nulls []) [] = record {
      tokens = token.Literal key ∷ token.Name (codes "FB") ∷ [];
      reads = Reads-append literal FB_reads;
      goes = literal_goes (omega arith) ▸ FB_goes k arrays old few (omega arith) ▸ done;
    } in
    let size = length-append s (Entries 8 own ∷ Elements nulls ∷ []) in
    let letters = letters_run matrix fm fx en m key k old (omega (arith, long)) f.letters 0 nulls [] (n + 2) (omega (arith, size)) refl good in
    let table = filled (n + 2) nulls f.letters in
    let cells = letter_cells (n + 2) f.letters in
    let full = making m key own table cells in
    let top_less = slice_get-some s d (Entries room es) on.stands in
    let above = HasProlog-above s m.dictionaries 8 own (Elements table ∷ cells) old (all_free fm fx en (suc n)) k in
    let beside = HasProlog-beside s m.dictionaries 8 own (Elements table ∷ cells) old k in
    let dictionary = slice_get-at s (Entries 8 own) (Elements table ∷ cells) in
    let there = slice_get-grown s (Entries 8 own ∷ Elements table ∷ cells) d (Entries room es) on.stands in
    let ended = E_goes {m = full} above (subst (HasProlog matrix full.store) on.top beside) (ap (λ l. n ∷ l) on.top) refl dictionary (FID_fits fm fx en (suc n)) there (λ e. absurd (omega (arith, top_less, e))) takes (omega (arith, long)) in
    let store_is = ap (λ q. put_entry q d room es key (Dictionary n)) (slice_set-at s (Entries 8 own) (Entries 8 (with_entry (codes "FID") (Literal key) own)) (Elements table ∷ cells)) ∙ slice_set-before s (made_cells n fm fx en f) d (Entries room (with_entry key (Dictionary n) es)) top_less in
    let ends : Runs (line (codes "E")) full (record m { store = put_entry s d room es key (Dictionary n) ++ made_cells n fm fx en f; fonts = with_font key n m.fonts }) (FontMade key ∷ []) = record {
      tokens = token.Name (codes "E") ∷ [];
      reads = E_reads;
      goes = subst (λ (q : List ℕ × List Cell). Goes 100 nests (token.Name (codes "E") ∷ []) full (record m { dictionaries = q.0; store = q.1; fonts = with_font key n m.fonts }) (FontMade key ∷ [])) (λ i. (sym on.top i, store_is i)) (ended ▸ done);
    } in
    subst (λ bytes. Runs bytes m (record m { store = put_entry s d room es key (Dictionary n) ++ made_cells n fm fx en f; fonts = with_font key n m.fonts }) (letters_events f.letters ++ FontMade key ∷ []))
    (append_assoc (codes "/" ++ (key ++ codes " ")) (line (codes "FB")) (letter_lines f.letters ++ line (codes "E")))
    (Runs-append begins (Runs-append letters ends))

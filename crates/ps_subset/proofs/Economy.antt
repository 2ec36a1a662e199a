-- The strings and the glyphs of a printout, told from its events.
use Rattle.std.proofs.Common.{◌≡◌, refl, ap, sym, ◌∙◌, subst, ℕ, ◌+◌, ◌<◌, ◌^◌, List, [], ◌∷◌, ◌++◌, Bool, true, false, Some, arith, append_assoc}
use Rattle.std.specs.Prelude.{ℤ, codes, ◌+ℤ◌, bytes_eq}
use Rattle.std.proofs.lemmas.List.{append-nil}
use Rattle.ps_subset.specs.State.{Event, Note, Block, PutArray, FontMade, TextShown, Mask, Shown, Character, in_order}
use Rattle.ps_subset.specs.MaskEffects.{mask_events}
use Rattle.ps_subset.specs.Run.{events}
use Rattle.ps_subset.specs.Job.{Job}
use Rattle.ps_subset.specs.Lines.{comment_events, head_events}
use Rattle.ps_subset.specs.Blocks.{headers_events}
use Rattle.ps_subset.specs.Fonts.{Letter, Font, font_name, letter_masks, string_masks, letter_codes, has_black}
use Rattle.ps_subset.specs.FontText.{letters_events, fonts_events, letters_held, fonts_held, AllGoodLetters, AllGoodFonts}
use Rattle.ps_subset.specs.Items as item
use Rattle.ps_subset.specs.Items.{Item, Stretch, Rule, item_events, items_events}
use Rattle.ps_subset.specs.Printout.{Page, Section, Printout, page_comment, page_events, pages_events, sections_events, events_of, AllGoodSections}
use Rattle.ps_subset.specs.Marks.{only_texts, stretch_texts}
use Rattle.ps_subset.specs.Economy.{page_texts, characters_of, put_glyphs, pages_stretches, sections_stretches, sections_glyphs, IsApart, AllApart, AllOnce, EconomyOfPrintout, EconomyOfCut}
use Rattle.ps_subset.proofs.Marks.{strings_of_items}
use Rattle.ps_subset.proofs.Ready.{fonts_apart}
use Rattle.ps_subset.proofs.Dictionaries.{bytes_refl}
use Rattle.ps_subset.proofs.Runs.{events_of_prefix}
use Rattle.ps_subset.proofs.Printouts.{events_of_printout}

-- events that end no page, put no glyph and make no font
abbrev pub Calm : List Event → Type 0
Calm [] = Unit {0}
Calm (Note l ∷ es) = Calm es
Calm (Block l ∷ es) = Calm es
Calm (TextShown key text place ∷ es) = Calm es
Calm (Mask by p c w h r ∷ es) = Calm es
Calm (PutArray i ∷ es) = ⊥
Calm (FontMade key ∷ es) = ⊥
Calm (Shown copies glyphs ∷ es) = ⊥

Calm-append : (xs ys : List Event) → Calm xs → Calm ys → Calm (xs ++ ys)
Calm-append [] ys f g = g
Calm-append (Note l ∷ xs) ys f g = Calm-append xs ys f g
Calm-append (Block l ∷ xs) ys f g = Calm-append xs ys f g
Calm-append (TextShown key text place ∷ xs) ys f g = Calm-append xs ys f g
Calm-append (Mask by p c w h r ∷ xs) ys f g = Calm-append xs ys f g
Calm-append (PutArray i ∷ xs) ys f g = absurd f
Calm-append (FontMade key ∷ xs) ys f g = absurd f
Calm-append (Shown copies glyphs ∷ xs) ys f g = absurd f

calm_texts : (so_far xs ys : List Event) → Calm xs → page_texts so_far (xs ++ ys) ≡ page_texts (so_far ++ only_texts xs) ys
calm_texts so_far [] ys f = ap (λ l. page_texts l ys) (sym (append-nil so_far))
calm_texts so_far (Note l ∷ xs) ys f = calm_texts so_far xs ys f
calm_texts so_far (Block l ∷ xs) ys f = calm_texts so_far xs ys f
calm_texts so_far (TextShown key text place ∷ xs) ys f =
    calm_texts (so_far ++ TextShown key text place ∷ []) xs ys f ∙ ap (λ l. page_texts l ys) (append_assoc so_far (TextShown key text place ∷ []) (only_texts xs))
calm_texts so_far (Mask by p c w h r ∷ xs) ys f = calm_texts so_far xs ys f
calm_texts so_far (PutArray i ∷ xs) ys f = absurd f
calm_texts so_far (FontMade key ∷ xs) ys f = absurd f
calm_texts so_far (Shown copies glyphs ∷ xs) ys f = absurd f

calm_puts : (waiting : List ℕ) (xs ys : List Event) → Calm xs → put_glyphs waiting (xs ++ ys) ≡ put_glyphs waiting ys
calm_puts waiting [] ys f = refl
calm_puts waiting (Note l ∷ xs) ys f = calm_puts waiting xs ys f
calm_puts waiting (Block l ∷ xs) ys f = calm_puts waiting xs ys f
calm_puts waiting (TextShown key text place ∷ xs) ys f = calm_puts waiting xs ys f
calm_puts waiting (Mask by p c w h r ∷ xs) ys f = calm_puts waiting xs ys f
calm_puts waiting (PutArray i ∷ xs) ys f = absurd f
calm_puts waiting (FontMade key ∷ xs) ys f = absurd f
calm_puts waiting (Shown copies glyphs ∷ xs) ys f = absurd f

-- comments, blocks and the items of a page are such events
comment_calm : (comments : Bool) (l : List ℕ) → Calm (comment_events comments l)
comment_calm true l = tt
comment_calm false l = tt

comment_silent : (comments : Bool) (l : List ℕ) → only_texts (comment_events comments l) ≡ []
comment_silent true l = refl
comment_silent false l = refl

head_calm : (cs : List (List ℕ)) → Calm (head_events cs)
head_calm [] = tt
head_calm (c ∷ cs) = head_calm cs

head_silent : (cs : List (List ℕ)) → only_texts (head_events cs) ≡ []
head_silent [] = refl
head_silent (c ∷ cs) = head_silent cs

headers_calm : (hs : List (List ℕ)) → Calm (headers_events hs)
headers_calm [] = tt
headers_calm (h ∷ hs) = headers_calm hs

headers_silent : (hs : List (List ℕ)) → only_texts (headers_events hs) ≡ []
headers_silent [] = refl
headers_silent (h ∷ hs) = headers_silent hs

letter_calm : (j : Job) (key : List ℕ) (x y : ℤ) (l : Letter) → Calm (letter_masks j key x y l)
letter_calm j key x y l = go (has_black l.glyph) _ _ _ _ _ _
  where
    go : (b : Bool) (by : _) (p c : _) (w h : ℕ) (r : List ℕ) → Calm (mask_events b (Mask by p c w h r))
    go true by p c w h r = tt
    go false by p c w h r = tt

string_calm : (j : Job) (key : List ℕ) (x y : ℤ) (ls : List Letter) → Calm (string_masks j key x y ls)
string_calm j key x y [] = tt
string_calm j key x y (l ∷ ls) = Calm-append (letter_masks j key x y l) (string_masks j key (x +ℤ l.glyph.width) y ls) (letter_calm j key x y l) (string_calm j key (x +ℤ l.glyph.width) y ls)

item_calm : (j : Job) (i : Item) → Calm (item_events j i)
item_calm j (Stretch id ls x y) = string_calm j (font_name id) x y ls
item_calm j (Rule columns rows x y) = tt
item_calm j (item.Block bytes x y) = tt

items_calm : (j : Job) (is : List Item) → Calm (items_events j is)
items_calm j [] = tt
items_calm j (i ∷ is) = Calm-append (item_events j i) (items_events j is) (item_calm j i) (items_calm j is)

-- events without a string, where no string waits
quiet_texts : (xs ys : List Event) → Calm xs → only_texts xs ≡ [] → page_texts [] (xs ++ ys) ≡ page_texts [] ys
quiet_texts xs ys calm silent = calm_texts [] xs ys calm ∙ ap (λ l. page_texts l ys) silent

-- fonts
letters_texts : (ls : List Letter) (ys : List Event) → page_texts [] (letters_events ls ++ ys) ≡ page_texts [] ys
letters_texts [] ys = refl
letters_texts (l ∷ ls) ys = letters_texts ls ys

fonts_texts : (fs : List Font) (ys : List Event) → page_texts [] (fonts_events fs ++ ys) ≡ page_texts [] ys
fonts_texts [] ys = refl
fonts_texts (f ∷ fs) ys =
    ap (page_texts []) (append_assoc (letters_events f.letters ++ FontMade (font_name f.id) ∷ []) (fonts_events fs) ys ∙ append_assoc (letters_events f.letters) (FontMade (font_name f.id) ∷ []) (fonts_events fs ++ ys)) ∙
    letters_texts f.letters (FontMade (font_name f.id) ∷ (fonts_events fs ++ ys)) ∙ fonts_texts fs ys

characters-append : (key xs ys : List ℕ) → characters_of key (xs ++ ys) ≡ characters_of key xs ++ characters_of key ys
characters-append key [] ys = refl
characters-append key (x ∷ xs) ys = ap (λ l. record { key = key; code = x } ∷ l) (characters-append key xs ys)

held_codes : (key : List ℕ) (ls : List Letter) → characters_of key (letter_codes ls) ≡ letters_held key ls
held_codes key [] = refl
held_codes key (l ∷ ls) = ap (λ cs. record { key = key; code = l.code } ∷ cs) (held_codes key ls)

letters_puts : (waiting : List ℕ) (ls : List Letter) (key : List ℕ) (ys : List Event) → put_glyphs waiting (letters_events ls ++ FontMade key ∷ ys) ≡ characters_of key (waiting ++ letter_codes ls) ++ put_glyphs [] ys
letters_puts waiting [] key ys = ap (λ cs. characters_of key cs ++ put_glyphs [] ys) (sym (append-nil waiting))
letters_puts waiting (l ∷ ls) key ys =
    letters_puts (waiting ++ l.code ∷ []) ls key ys ∙ ap (λ cs. characters_of key cs ++ put_glyphs [] ys) (append_assoc waiting (l.code ∷ []) (letter_codes ls))

fonts_puts : (fs : List Font) (ys : List Event) → put_glyphs [] (fonts_events fs ++ ys) ≡ fonts_held fs ++ put_glyphs [] ys
fonts_puts [] ys = refl
fonts_puts (f ∷ fs) ys =
    let key = font_name f.id in
    ap (put_glyphs []) (append_assoc (letters_events f.letters ++ FontMade key ∷ []) (fonts_events fs) ys ∙ append_assoc (letters_events f.letters) (FontMade key ∷ []) (fonts_events fs ++ ys)) ∙
    letters_puts [] f.letters key (fonts_events fs ++ ys) ∙
    (λ i. held_codes key f.letters i ++ fonts_puts fs ys i) ∙
    sym (append_assoc (letters_held key f.letters) (fonts_held fs) (put_glyphs [] ys))

-- pages
module _ (comments : Bool) (copies : ℕ) (j : Job) where
  page_tells : (fonts : List Font) (p : Page) (ys : List Event) → page_texts [] (page_events comments copies j fonts p ++ ys) ≡ stretch_texts j p.items ∷ page_texts [] ys
  page_tells fonts p ys =
      let note = comment_events comments (page_comment p) in
      let last = Shown copies (in_order (fonts_held fonts)) in
      ap (page_texts []) (append_assoc note (items_events j p.items ++ last ∷ []) ys ∙ ap (λ l. note ++ l) (append_assoc (items_events j p.items) (last ∷ []) ys)) ∙
      quiet_texts note (items_events j p.items ++ last ∷ ys) (comment_calm comments (page_comment p)) (comment_silent comments (page_comment p)) ∙
      calm_texts [] (items_events j p.items) (last ∷ ys) (items_calm j p.items) ∙ ap (λ l. l ∷ page_texts [] ys) (strings_of_items j p.items)

  page_puts : (fonts : List Font) (p : Page) (ys : List Event) → put_glyphs [] (page_events comments copies j fonts p ++ ys) ≡ put_glyphs [] ys
  page_puts fonts p ys =
      let note = comment_events comments (page_comment p) in
      let last = Shown copies (in_order (fonts_held fonts)) in
      ap (put_glyphs []) (append_assoc note (items_events j p.items ++ last ∷ []) ys ∙ ap (λ l. note ++ l) (append_assoc (items_events j p.items) (last ∷ []) ys)) ∙
      calm_puts [] note (items_events j p.items ++ last ∷ ys) (comment_calm comments (page_comment p)) ∙ calm_puts [] (items_events j p.items) (last ∷ ys) (items_calm j p.items)

  pages_tell : (fonts : List Font) (ps : List Page) (ys : List Event) → page_texts [] (pages_events comments copies j fonts ps ++ ys) ≡ pages_stretches j ps ++ page_texts [] ys
  pages_tell fonts [] ys = refl
  pages_tell fonts (p ∷ ps) ys =
      let rest = pages_events comments copies j fonts ps in
      ap (page_texts []) (append_assoc (page_events comments copies j fonts p) rest ys) ∙ page_tells fonts p (rest ++ ys) ∙ ap (λ l. stretch_texts j p.items ∷ l) (pages_tell fonts ps ys)

  pages_put : (fonts : List Font) (ps : List Page) (ys : List Event) → put_glyphs [] (pages_events comments copies j fonts ps ++ ys) ≡ put_glyphs [] ys
  pages_put fonts [] ys = refl
  pages_put fonts (p ∷ ps) ys =
      let rest = pages_events comments copies j fonts ps in
      ap (put_glyphs []) (append_assoc (page_events comments copies j fonts p) rest ys) ∙ page_puts fonts p (rest ++ ys) ∙ pages_put fonts ps ys

  sections_tell : (ss : List Section) (ys : List Event) → page_texts [] (sections_events comments copies j ss ++ ys) ≡ sections_stretches j ss ++ page_texts [] ys
  sections_tell [] ys = refl
  sections_tell (s ∷ ss) ys =
      let fonts = fonts_events s.fonts in
      let pages = pages_events comments copies j s.fonts s.pages in
      let rest = sections_events comments copies j ss in
      ap (page_texts []) (append_assoc (fonts ++ pages) rest ys ∙ append_assoc fonts pages (rest ++ ys)) ∙ fonts_texts s.fonts (pages ++ (rest ++ ys)) ∙ pages_tell s.fonts s.pages (rest ++ ys) ∙
      ap (λ l. pages_stretches j s.pages ++ l) (sections_tell ss ys) ∙ sym (append_assoc (pages_stretches j s.pages) (sections_stretches j ss) (page_texts [] ys))

  sections_put : (ss : List Section) (ys : List Event) → put_glyphs [] (sections_events comments copies j ss ++ ys) ≡ sections_glyphs ss ++ put_glyphs [] ys
  sections_put [] ys = refl
  sections_put (s ∷ ss) ys =
      let fonts = fonts_events s.fonts in
      let pages = pages_events comments copies j s.fonts s.pages in
      let rest = sections_events comments copies j ss in
      ap (put_glyphs []) (append_assoc (fonts ++ pages) rest ys ∙ append_assoc fonts pages (rest ++ ys)) ∙ fonts_puts s.fonts (pages ++ (rest ++ ys)) ∙
      ap (λ l. fonts_held s.fonts ++ l) (pages_put s.fonts s.pages (rest ++ ys) ∙ sections_put ss ys) ∙ sym (append_assoc (fonts_held s.fonts) (sections_glyphs ss) (put_glyphs [] ys))

-- no glyph of a font twice, and fonts of different names
later_codes : (key : List ℕ) (code least : ℕ) (ls : List Letter) → AllGoodLetters least ls → code < least → IsApart (record { key = key; code = code }) (letters_held key ls)
later_codes key code least [] all less = tt
later_codes key code least (l ∷ ls) all less =
    let apart : code ≡ l.code → ⊥ = λ e. absurd (omega (arith, e, all.0, less)) in
    ((λ e. apart (ap (λ (c : Character). c.code) e)), later_codes key code (l.code + 1) ls all.3 (omega (arith, all.0, less)))

letters_apart : (key : List ℕ) (least : ℕ) (ls : List Letter) → AllGoodLetters least ls → AllApart (letters_held key ls)
letters_apart key least [] all = tt
letters_apart key least (l ∷ ls) all = (later_codes key l.code (l.code + 1) ls all.3 (omega arith), letters_apart key (l.code + 1) ls all.3)

IsApart-append : (c : Character) (xs ys : List Character) → IsApart c xs → IsApart c ys → IsApart c (xs ++ ys)
IsApart-append c [] ys f g = g
IsApart-append c (x ∷ xs) ys f g = (f.0, IsApart-append c xs ys f.1 g)

other_font : (key key' : List ℕ) (code : ℕ) (ls : List Letter) → (key ≡ key' → ⊥) → IsApart (record { key = key; code = code }) (letters_held key' ls)
other_font key key' code [] differ = tt
other_font key key' code (l ∷ ls) differ = ((λ e. differ (ap (λ (c : Character). c.key) e)), other_font key key' code ls differ)

names_differ : (a b : ℕ) → a < 2 ^ 63 → b < 2 ^ 63 → a < b → font_name a ≡ font_name b → ⊥
names_differ a b ha hb less e =
    let off = fonts_apart a b (omega (arith, ha)) (omega (arith, hb)) (λ q. absurd (omega (arith, q, less))) in
    true_false (sym (bytes_refl (font_name a)) ∙ ap (λ k. bytes_eq (font_name a) k) e ∙ off)
  where
    true_false : true ≡ false → ⊥
    true_false h = absurd (grind (arith, h))

later_fonts : (id code least : ℕ) (fs : List Font) → id < 2 ^ 63 → AllGoodFonts least fs → id < least → IsApart (record { key = font_name id; code = code }) (fonts_held fs)
later_fonts id code least [] small all less = tt
later_fonts id code least (f ∷ fs) small all less =
    IsApart-append (record { key = font_name id; code = code }) (letters_held (font_name f.id) f.letters) (fonts_held fs)
    (other_font (font_name id) (font_name f.id) code f.letters (names_differ id f.id small all.1 (omega (arith, all.0, less)))) (later_fonts id code (f.id + 1) fs small all.3 (omega (arith, all.0, less)))

one_font : (id : ℕ) (ls : List Letter) (fs : List Font) → id < 2 ^ 63 → AllGoodFonts (id + 1) fs → AllApart (letters_held (font_name id) ls) → AllApart (fonts_held fs) → AllApart (letters_held (font_name id) ls ++ fonts_held fs)
one_font id [] fs small all f g = g
one_font id (l ∷ ls) fs small all f g =
    (IsApart-append (record { key = font_name id; code = l.code }) (letters_held (font_name id) ls) (fonts_held fs) f.0 (later_fonts id l.code (id + 1) fs small all (omega arith)), one_font id ls fs small all f.1 g)

fonts_once : (least : ℕ) (fs : List Font) → AllGoodFonts least fs → AllApart (fonts_held fs)
fonts_once least [] all = tt
fonts_once least (f ∷ fs) all = one_font f.id f.letters fs all.1 all.3 (letters_apart (font_name f.id) 0 f.letters all.2) (fonts_once (f.id + 1) fs all.3)

all_once : (ss : List Section) → AllGoodSections ss → AllOnce ss
all_once [] all = tt
all_once (s ∷ ss) all = (fonts_once 0 s.fonts (all.0).fonts, all_once ss all.1)

-- the whole text
module _ (t : Printout) where
  note : List ℕ → List Event
  note l = comment_events t.comments l

  tail : List Event
  tail = comment_events t.comments (codes "%%Trailer") ++ comment_events t.comments (codes "%%EOF")

  pub texts_are : page_texts [] (events_of t) ≡ sections_stretches t.job t.sections
  unfolding note tail
  texts_are =
      let go = λ (l : List ℕ) (ys : List Event). quiet_texts (comment_events t.comments l) ys (comment_calm t.comments l) (comment_silent t.comments l) in
      quiet_texts (head_events t.head) _ (head_calm t.head) (head_silent t.head) ∙ go (codes "%%BeginProlog") _ ∙ quiet_texts (headers_events t.headers) _ (headers_calm t.headers) (headers_silent t.headers) ∙
      go (codes "%%EndProlog") _ ∙ go (codes "%%BeginSetup") _ ∙ go (codes "%%EndSetup") _ ∙ sections_tell t.comments t.copies t.job t.sections tail ∙
      ap (λ l. sections_stretches t.job t.sections ++ l) (go (codes "%%Trailer") (comment_events t.comments (codes "%%EOF")) ∙ last t.comments) ∙ append-nil (sections_stretches t.job t.sections)
    where
      last : (comments : Bool) → page_texts [] (comment_events comments (codes "%%EOF")) ≡ []
      last true = refl
      last false = refl

  pub glyphs_are : put_glyphs [] (events_of t) ≡ sections_glyphs t.sections
  unfolding note tail
  glyphs_are =
      let go = λ (l : List ℕ) (ys : List Event). calm_puts [] (comment_events t.comments l) ys (comment_calm t.comments l) in
      calm_puts [] (head_events t.head) _ (head_calm t.head) ∙ go (codes "%%BeginProlog") _ ∙ calm_puts [] (headers_events t.headers) _ (headers_calm t.headers) ∙
      go (codes "%%EndProlog") _ ∙ go (codes "%%BeginSetup") _ ∙ go (codes "%%EndSetup") _ ∙ sections_put t.comments t.copies t.job t.sections tail ∙
      ap (λ l. sections_glyphs t.sections ++ l) (go (codes "%%Trailer") (comment_events t.comments (codes "%%EOF")) ∙ last t.comments) ∙ append-nil (sections_glyphs t.sections)
    where
      last : (comments : Bool) → put_glyphs [] (comment_events comments (codes "%%EOF")) ≡ []
      last true = refl
      last false = refl

pub economy_of_printout : EconomyOfPrintout
economy_of_printout t good es h =
    let same : events_of t ≡ es = some_same (sym (events_of_printout t good) ∙ h) in
    record { texts = ap (page_texts []) (sym same) ∙ texts_are t; glyphs = ap (put_glyphs []) (sym same) ∙ glyphs_are t; once = all_once t.sections good.sections }
  where
    some_same : {xs ys : List Event} → Some xs ≡ Some ys → xs ≡ ys
    some_same e = grind (arith, e)

-- the first events tell the first of both
texts_first : (so_far xs ys : List Event) → (later : List (List Event)) × (page_texts so_far (xs ++ ys) ≡ page_texts so_far xs ++ later)
texts_first so_far [] ys = (page_texts so_far ys, refl)
texts_first so_far (Shown copies glyphs ∷ xs) ys = let rest = texts_first [] xs ys in (rest.0, ap (λ l. so_far ∷ l) rest.1)
texts_first so_far (TextShown key text place ∷ xs) ys = texts_first (so_far ++ TextShown key text place ∷ []) xs ys
texts_first so_far (Note l ∷ xs) ys = texts_first so_far xs ys
texts_first so_far (Block l ∷ xs) ys = texts_first so_far xs ys
texts_first so_far (Mask by p c w h r ∷ xs) ys = texts_first so_far xs ys
texts_first so_far (PutArray i ∷ xs) ys = texts_first so_far xs ys
texts_first so_far (FontMade key ∷ xs) ys = texts_first so_far xs ys

glyphs_first : (waiting : List ℕ) (xs ys : List Event) → (later : List Character) × (put_glyphs waiting (xs ++ ys) ≡ put_glyphs waiting xs ++ later)
glyphs_first waiting [] ys = (put_glyphs waiting ys, refl)
glyphs_first waiting (PutArray i ∷ xs) ys = glyphs_first (waiting ++ i ∷ []) xs ys
glyphs_first waiting (FontMade key ∷ xs) ys =
    let rest = glyphs_first [] xs ys in (rest.0, ap (λ l. characters_of key waiting ++ l) rest.1 ∙ sym (append_assoc (characters_of key waiting) (put_glyphs [] xs) rest.0))
glyphs_first waiting (Shown copies glyphs ∷ xs) ys = glyphs_first waiting xs ys
glyphs_first waiting (TextShown key text place ∷ xs) ys = glyphs_first waiting xs ys
glyphs_first waiting (Note l ∷ xs) ys = glyphs_first waiting xs ys
glyphs_first waiting (Block l ∷ xs) ys = glyphs_first waiting xs ys
glyphs_first waiting (Mask by p c w h r ∷ xs) ys = glyphs_first waiting xs ys

pub economy_of_cut : EconomyOfCut
economy_of_cut t good xs ys so_far cut h =
    let p = events_of_prefix xs ys (events_of t) (subst (λ bytes. events bytes ≡ Some (events_of t)) cut (events_of_printout t good)) in
    let same : p.0 ≡ so_far = some_same (sym p.2 ∙ h) in
    let whole : events_of t ≡ so_far ++ p.1 = p.3 ∙ ap (λ es. es ++ p.1) same in
    let texts = texts_first [] so_far p.1 in
    let glyphs = glyphs_first [] so_far p.1 in
    ((texts.0, sym (texts_are t) ∙ ap (page_texts []) whole ∙ texts.1), (glyphs.0, sym (glyphs_are t) ∙ ap (put_glyphs []) whole ∙ glyphs.1))
  where
    some_same : {xs ys : List Event} → Some xs ≡ Some ys → xs ≡ ys
    some_same e = grind (arith, e)

-- The items of a page's marks owe what the marks owe, and a writer that takes mark after mark writes their lines.
use Rattle.std.proofs.Common.{◌≡◌, refl, ap, sym, ◌∙◌, ℕ, List, [], ◌∷◌, ◌++◌, length, Option, Some, None, arith, Bool, true, false, append_assoc}
use Rattle.std.specs.Prelude.{ℤ, ◌+ℤ◌, ◌-ℤ◌, ◌&&◌, nat_eq, nat_lt, if◌then◌else◌, option_map}
use Rattle.std.proofs.lemmas.List.{append-nil}
use Rattle.std.proofs.lemmas.Bool.Decides.{nat_tests}
use Rattle.ps_subset.specs.Fraction.{same_ℤ}
use Rattle.ps_subset.specs.State.{Event, Note, Block, PutArray, FontMade, TextShown, Mask, Shown}
use Rattle.ps_subset.specs.MaskEffects.{mask_events, rows_mark}
use Rattle.ps_subset.specs.Job.{Job, pixel_place, per_pixel, rule_mask}
use Rattle.ps_subset.specs.Fonts.{Letter, font_name, letter_masks, string_masks, string_end, letter_codes}
use Rattle.ps_subset.specs.Items.{Item, Stretch, Rule, Pen, first_pen, item_lines, pen_behind, next_place, lines_from, items_events}
use Rattle.ps_subset.specs.Items as item
use Rattle.ps_subset.specs.Marks.{Mark, Glyph, Bar, Passed, Open, goes_on, opened, joined, closed, flushed, grouped, marks_events, without_texts, ItemsOfMarks, Sheet, first_sheet, closing, pen_closed, is_continued, written, with_letter, behind, all_written, behind_all, LinesOfMarks, kept, kept_goes_on, kept_closing, kept_pen, kept_begun, with_code, WritesByCodes, MarksInParts, only_texts, StringsOfItems}
use Rattle.ps_subset.proofs.Numbers.{and_left, and_right}
use Rattle.ps_subset.proofs.PageItems.{same_is}
use Rattle.ps_subset.proofs.Stands.{length_codes}

pub texts-append : (xs ys : List Event) → without_texts (xs ++ ys) ≡ without_texts xs ++ without_texts ys
texts-append [] ys = refl
texts-append (TextShown key codes place ∷ xs) ys = texts-append xs ys
texts-append (Note l ∷ xs) ys = ap (λ es. Note l ∷ es) (texts-append xs ys)
texts-append (Block l ∷ xs) ys = ap (λ es. Block l ∷ es) (texts-append xs ys)
texts-append (PutArray i ∷ xs) ys = ap (λ es. PutArray i ∷ es) (texts-append xs ys)
texts-append (FontMade k ∷ xs) ys = ap (λ es. FontMade k ∷ es) (texts-append xs ys)
texts-append (Mask by p c w h r ∷ xs) ys = ap (λ es. Mask by p c w h r ∷ es) (texts-append xs ys)
texts-append (Shown n g ∷ xs) ys = ap (λ es. Shown n g ∷ es) (texts-append xs ys)

letter_kept : (j : Job) (key : List ℕ) (x y : ℤ) (l : Letter) → without_texts (letter_masks j key x y l) ≡ letter_masks j key x y l
letter_kept j key x y l = go (rows_mark l.glyph.columns l.glyph.rows l.glyph.bytes) _ _ _ _ _ _
  where
    go : (b : Bool) (by : _) (p c : _) (w h : ℕ) (r : List ℕ) → without_texts (mask_events b (Mask by p c w h r)) ≡ mask_events b (Mask by p c w h r)
    go true by p c w h r = refl
    go false by p c w h r = refl

string_kept : (j : Job) (key : List ℕ) (x y : ℤ) (ls : List Letter) → without_texts (string_masks j key x y ls) ≡ string_masks j key x y ls
string_kept j key x y [] = refl
string_kept j key x y (l ∷ ls) =
    texts-append (letter_masks j key x y l) (string_masks j key (x +ℤ l.glyph.width) y ls) ∙
    (λ i. letter_kept j key x y l i ++ string_kept j key (x +ℤ l.glyph.width) y ls i)

string-append : (j : Job) (key : List ℕ) (x y : ℤ) (ls : List Letter) (l : Letter) → string_masks j key x y (ls ++ l ∷ []) ≡ string_masks j key x y ls ++ letter_masks j key (string_end x ls) y l
string-append j key x y [] l = append-nil (letter_masks j key x y l)
string-append j key x y (k ∷ ls) l =
    ap (λ es. letter_masks j key x y k ++ es) (string-append j key (x +ℤ k.glyph.width) y ls l) ∙
    sym (append_assoc (letter_masks j key x y k) (string_masks j key (x +ℤ k.glyph.width) y ls) (letter_masks j key (string_end (x +ℤ k.glyph.width) ls) y l))

abbrev open_masks : Job → Option Open → List Event
open_masks j None = []
open_masks j (Some o) = string_masks j (font_name o.font) o.x o.y o.letters

-- where a letter goes on, it is where the stretch says
pub goes_on_is : (o : Open) (id : ℕ) (x y : ℤ) → goes_on o id x y ≡ true → (o.font ≡ id) × (o.y ≡ y) × (string_end o.x o.letters ≡ x)
goes_on_is o id x y h =
    let a = nat_eq o.font id in
    let b = same_ℤ o.y y in
    let c = same_ℤ (string_end o.x o.letters) x in
    let d = nat_lt (length o.letters) 50 in
    let first = and_left a (b && (c && d)) h in
    let rest = and_right a (b && (c && d)) h in
    let second = and_left b (c && d) rest in
    let third = and_left c d (and_right b (c && d) rest) in
    (grind (arith, nat_tests, first), same_is o.y y second, same_is (string_end o.x o.letters) x third)

flushed_events : (j : Job) (stretch : Option Open) (is : List Item) → without_texts (items_events j (flushed stretch is)) ≡ open_masks j stretch ++ without_texts (items_events j is)
flushed_events j None is = refl
flushed_events j (Some o) is =
    texts-append (string_masks j (font_name o.font) o.x o.y o.letters) (items_events j is) ∙
    ap (λ es. es ++ without_texts (items_events j is)) (string_kept j (font_name o.font) o.x o.y o.letters)

items_of_marks_from : (j : Job) (ms : List Mark) (stretch : Option Open) → without_texts (items_events j (grouped stretch ms)) ≡ open_masks j stretch ++ marks_events j ms
items_of_marks_from j [] None = refl
items_of_marks_from j [] (Some o) = flushed_events j (Some o) []
items_of_marks_from j (Glyph id l x y ∷ ms) None =
    items_of_marks_from j ms (Some (opened id l x y)) ∙ ap (λ es. es ++ marks_events j ms) (append-nil (letter_masks j (font_name id) x y l))
items_of_marks_from j (Glyph id l x y ∷ ms) (Some o) = go (goes_on o id x y) refl (items_of_marks_from j ms (Some (joined o l))) (items_of_marks_from j ms (Some (opened id l x y)))
  where
    old : List Event
    old = string_masks j (font_name o.font) o.x o.y o.letters

    go : (b : Bool) → goes_on o id x y ≡ b → without_texts (items_events j (grouped (Some (joined o l)) ms)) ≡ string_masks j (font_name o.font) o.x o.y (o.letters ++ l ∷ []) ++ marks_events j ms →
        without_texts (items_events j (grouped (Some (opened id l x y)) ms)) ≡ (letter_masks j (font_name id) x y l ++ []) ++ marks_events j ms →
        without_texts (items_events j (if b then grouped (Some (joined o l)) ms else (closed o ∷ grouped (Some (opened id l x y)) ms))) ≡ string_masks j (font_name o.font) o.x o.y o.letters ++ (letter_masks j (font_name id) x y l ++ marks_events j ms)
    go true e ih _ =
        let p = goes_on_is o id x y e in
        ih ∙ ap (λ es. es ++ marks_events j ms) (string-append j (font_name o.font) o.x o.y o.letters l) ∙
        append_assoc (string_masks j (font_name o.font) o.x o.y o.letters) (letter_masks j (font_name o.font) (string_end o.x o.letters) o.y l) (marks_events j ms) ∙
        (λ i. string_masks j (font_name o.font) o.x o.y o.letters ++ (letter_masks j (font_name (p.0 i)) (p.2 i) (p.1 i) l ++ marks_events j ms))
    go false e _ ih =
        flushed_events j (Some o) (grouped (Some (opened id l x y)) ms) ∙
        ap (λ es. string_masks j (font_name o.font) o.x o.y o.letters ++ es) (ih ∙ ap (λ es. es ++ marks_events j ms) (append-nil (letter_masks j (font_name id) x y l)))
items_of_marks_from j (Bar columns rows x y ∷ ms) stretch =
    flushed_events j stretch (Rule columns rows x y ∷ grouped None ms) ∙ ap (λ es. open_masks j stretch ++ (rule_mask j x y columns rows ∷ es)) (items_of_marks_from j ms None)
items_of_marks_from j (Passed bytes x y ∷ ms) stretch =
    flushed_events j stretch (item.Block bytes x y ∷ grouped None ms) ∙ ap (λ es. open_masks j stretch ++ (Block bytes ∷ es)) (items_of_marks_from j ms None)

pub items_of_marks : ItemsOfMarks
items_of_marks j ms = items_of_marks_from j ms None

-- the writer
opens_at : (ms : List Mark) (o : Open) → next_place (grouped (Some o) ms) ≡ Some (o.x, o.y)
opens_at [] o = refl
opens_at (Glyph id l x y ∷ ms) o = go (goes_on o id x y) (opens_at ms (joined o l))
  where
    go : (b : Bool) → next_place (grouped (Some (joined o l)) ms) ≡ Some (o.x, o.y) → next_place (if b then grouped (Some (joined o l)) ms else (closed o ∷ grouped (Some (opened id l x y)) ms)) ≡ Some (o.x, o.y)
    go true ih = ih
    go false ih = refl
opens_at (Bar columns rows x y ∷ ms) o = refl
opens_at (Passed bytes x y ∷ ms) o = refl

-- the items that follow a stretch begin at a place
follows : (pen : Pen) (stretch : Option Open) (is : List Item) (next : Option (ℤ × ℤ)) → next_place is ≡ next → lines_from pen (flushed stretch is) ≡ closing pen stretch next ++ lines_from (pen_closed pen stretch next) is
follows pen None is next h = refl
follows pen (Some o) is next h = ap (λ n. item_lines pen (closed o) n ++ lines_from (pen_behind pen (closed o) n) is) h

writes_one : (s : Sheet) (m : Mark) (ms : List Mark) → lines_from s.pen (grouped s.stretch (m ∷ ms)) ≡ written s m ++ lines_from (behind s m).pen (grouped (behind s m).stretch ms)
writes_one s (Glyph id l x y) ms = go s.stretch
  where
    go : (stretch : Option Open) → lines_from s.pen (grouped stretch (Glyph id l x y ∷ ms)) ≡
        (if is_continued stretch id x y then [] else closing s.pen stretch (Some (x, y))) ++ lines_from (if is_continued stretch id x y then s.pen else pen_closed s.pen stretch (Some (x, y))) (grouped (with_letter stretch id l x y) ms)
    go None = refl
    go (Some o) = second (goes_on o id x y)
      where
        second : (b : Bool) → lines_from s.pen (if b then grouped (Some (joined o l)) ms else (closed o ∷ grouped (Some (opened id l x y)) ms)) ≡
            (if b then [] else closing s.pen (Some o) (Some (x, y))) ++ lines_from (if b then s.pen else pen_closed s.pen (Some o) (Some (x, y))) (grouped (if b then Some (joined o l) else Some (opened id l x y)) ms)
        second true = refl
        second false = follows s.pen (Some o) (grouped (Some (opened id l x y)) ms) (Some (x, y)) (opens_at ms (opened id l x y))
writes_one s (Bar columns rows x y) ms =
    let pen = pen_closed s.pen s.stretch (Some (x, y)) in
    follows s.pen s.stretch (Rule columns rows x y ∷ grouped None ms) (Some (x, y)) refl ∙
    sym (append_assoc (closing s.pen s.stretch (Some (x, y))) (item_lines pen (Rule columns rows x y) None) (lines_from (pen_behind pen (Rule columns rows x y) None) (grouped None ms)))
writes_one s (Passed bytes x y) ms =
    let pen = pen_closed s.pen s.stretch (Some (x, y)) in
    follows s.pen s.stretch (item.Block bytes x y ∷ grouped None ms) (Some (x, y)) refl ∙
    sym (append_assoc (closing s.pen s.stretch (Some (x, y))) (item_lines pen (item.Block bytes x y) None) (lines_from (pen_behind pen (item.Block bytes x y) None) (grouped None ms)))

writes_all : (s : Sheet) (ms : List Mark) → lines_from s.pen (grouped s.stretch ms) ≡ all_written s ms ++ closing (behind_all s ms).pen (behind_all s ms).stretch None
writes_all s [] = go s.stretch
  where
    go : (stretch : Option Open) → lines_from s.pen (flushed stretch []) ≡ closing s.pen stretch None
    go None = refl
    go (Some o) = append-nil (item_lines s.pen (closed o) None)
writes_all s (m ∷ ms) =
    writes_one s m ms ∙ ap (λ l. written s m ++ l) (writes_all (behind s m) ms) ∙
    sym (append_assoc (written s m) (all_written (behind s m) ms) (closing (behind_all (behind s m) ms).pen (behind_all (behind s m) ms).stretch None))

pub lines_of_marks : LinesOfMarks
lines_of_marks ms = writes_all first_sheet ms

-- codes and widths alone
codes-append : (ls : List Letter) (l : Letter) → letter_codes (ls ++ l ∷ []) ≡ letter_codes ls ++ l.code ∷ []
codes-append [] l = refl
codes-append (k ∷ ls) l = ap (λ cs. k.code ∷ cs) (codes-append ls l)

pub end_append : (x : ℤ) (ls : List Letter) (l : Letter) → string_end x (ls ++ l ∷ []) ≡ string_end x ls +ℤ l.glyph.width
end_append x [] l = refl
end_append x (k ∷ ls) l = end_append (x +ℤ k.glyph.width) ls l

same_test : (o : Open) (id : ℕ) (x y : ℤ) → kept_goes_on (Some (kept o)) id x y ≡ goes_on o id x y
same_test o id x y = ap (λ n. nat_eq o.font id && (same_ℤ o.y y && (same_ℤ (string_end o.x o.letters) x && nat_lt n 50))) (length_codes o.letters)

with_code_is : (s : Option Open) (id : ℕ) (l : Letter) (x y : ℤ) → with_code (option_map kept s) id l.code x y l.glyph.width ≡ option_map kept (with_letter s id l x y)
with_code_is None id l x y = refl
with_code_is (Some o) id l x y = rw (same_test o id x y) (go (goes_on o id x y))
  where
    go : (b : Bool) → (if b then Some (record (kept o) { codes = letter_codes o.letters ++ l.code ∷ []; last = string_end o.x o.letters +ℤ l.glyph.width }) else Some (kept_begun id l.code x y l.glyph.width)) ≡ option_map kept (if b then Some (joined o l) else Some (opened id l x y))
    go true = λ i. Some (record (kept o) { codes = sym (codes-append o.letters l) i; last = sym (end_append o.x o.letters l) i })
    go false = refl

pub writes_by_codes : WritesByCodes
writes_by_codes s = record {
  goes_on = λ id x y. tests s.stretch id x y;
  closing = λ next. closes s.stretch next;
  pen = λ next. pens s.stretch next;
  letter = λ id l x y. with_code_is s.stretch id l x y;
}
  where
    tests : (o : Option Open) (id : ℕ) (x y : ℤ) → kept_goes_on (option_map kept o) id x y ≡ is_continued o id x y
    tests None id x y = refl
    tests (Some o) id x y = same_test o id x y

    closes : (o : Option Open) (next : Option (ℤ × ℤ)) → kept_closing s.pen (option_map kept o) next ≡ closing s.pen o next
    closes None next = refl
    closes (Some o) next = refl

    pens : (o : Option Open) (next : Option (ℤ × ℤ)) → kept_pen s.pen (option_map kept o) next ≡ pen_closed s.pen o next
    pens None next = refl
    pens (Some o) next = refl

pub marks_in_parts : MarksInParts
marks_in_parts s [] ys = (refl, refl)
marks_in_parts s (m ∷ xs) ys =
    let rest = marks_in_parts (behind s m) xs ys in
    (ap (λ l. written s m ++ l) rest.0 ∙ sym (append_assoc (written s m) (all_written (behind s m) xs) (all_written (behind_all (behind s m) xs) ys)), rest.1)

-- the strings
strings-append : (xs ys : List Event) → only_texts (xs ++ ys) ≡ only_texts xs ++ only_texts ys
strings-append [] ys = refl
strings-append (TextShown key codes place ∷ xs) ys = ap (λ es. TextShown key codes place ∷ es) (strings-append xs ys)
strings-append (Note l ∷ xs) ys = strings-append xs ys
strings-append (Block l ∷ xs) ys = strings-append xs ys
strings-append (PutArray i ∷ xs) ys = strings-append xs ys
strings-append (FontMade k ∷ xs) ys = strings-append xs ys
strings-append (Mask by p c w h r ∷ xs) ys = strings-append xs ys
strings-append (Shown n g ∷ xs) ys = strings-append xs ys

no_strings : (j : Job) (key : List ℕ) (x y : ℤ) (ls : List Letter) → only_texts (string_masks j key x y ls) ≡ []
no_strings j key x y [] = refl
no_strings j key x y (l ∷ ls) =
    strings-append (letter_masks j key x y l) (string_masks j key (x +ℤ l.glyph.width) y ls) ∙
    ap (λ es. es ++ only_texts (string_masks j key (x +ℤ l.glyph.width) y ls)) (one (rows_mark l.glyph.columns l.glyph.rows l.glyph.bytes)) ∙ no_strings j key (x +ℤ l.glyph.width) y ls
  where
    one : (b : Bool) → only_texts (mask_events b (Mask (Some (record { key = key; code = l.code })) (pixel_place j (x -ℤ l.glyph.hoff) (y -ℤ l.glyph.voff)) (record { x = per_pixel j.across; y = per_pixel j.down }) l.glyph.columns l.glyph.rows l.glyph.bytes)) ≡ []
    one true = refl
    one false = refl

pub strings_of_items : StringsOfItems
strings_of_items j [] = refl
strings_of_items j (Stretch id ls x y ∷ is) =
    ap (λ es. TextShown (font_name id) (letter_codes ls) (pixel_place j x y) ∷ es)
    (strings-append (string_masks j (font_name id) x y ls) (items_events j is) ∙ ap (λ es. es ++ only_texts (items_events j is)) (no_strings j (font_name id) x y ls) ∙ strings_of_items j is)
strings_of_items j (Rule columns rows x y ∷ is) = strings_of_items j is
strings_of_items j (item.Block bytes x y ∷ is) = strings_of_items j is

-- The marks of a page, how they are grouped into its items, and how a writer that takes mark after mark writes the page's lines.
use Rattle.std.specs.Prelude.{ℕ, ◌≡◌, List, [], ◌∷◌, ◌++◌, length, ℤ, ◌+ℤ◌, Bool, false, ◌&&◌, nat_eq, nat_lt, if◌then◌else◌, option_map, Option, Some, None}
use Rattle.ps_subset.specs.Fraction.{same_ℤ}
use Rattle.ps_subset.specs.State as state
use Rattle.ps_subset.specs.State.{Event, Note, PutArray, FontMade, TextShown, Mask, Shown}
use Rattle.ps_subset.specs.Job.{Job, pixel_place, rule_mask}
use Rattle.ps_subset.specs.Fonts.{Letter, font_name, letter_masks, letter_codes, string_end}
use Rattle.ps_subset.specs.Items.{Item, Stretch, Rule, Block, Pen, first_pen, font_line, move_line, stretch_end, pen_behind_stretch, item_lines, pen_behind, lines_from, items_events}
use Rattle.ps_subset.specs.Strings.{string_text}

-- a letter of a font whose reference point is at a pixel, a rule of columns and rows, and a block of bytes
pub data Mark : Type 0 where
  Glyph : ℕ → Letter → ℤ → ℤ → Mark
  Bar : ℤ → ℤ → ℤ → ℤ → Mark
  Passed : List ℕ → ℤ → ℤ → Mark

-- a stretch that may go on: its font, its letters and the pixel of the first one
pub record Open : Type 0 where
  pub font : ℕ
  pub letters : List Letter
  pub x : ℤ
  pub y : ℤ

-- A letter goes on a stretch of its font and row that has fewer than 50, at the pixel behind it.
abbrev pub goes_on : Open → ℕ → ℤ → ℤ → Bool
goes_on o id x y = nat_eq o.font id && (same_ℤ o.y y && (same_ℤ (string_end o.x o.letters) x && nat_lt (length o.letters) 50))

abbrev pub opened : ℕ → Letter → ℤ → ℤ → Open
opened id l x y = record { font = id; letters = l ∷ []; x = x; y = y }

abbrev pub joined : Open → Letter → Open
joined o l = record o { letters = o.letters ++ l ∷ [] }

abbrev pub closed : Open → Item
closed o = Stretch o.font o.letters o.x o.y

abbrev pub flushed : Option Open → List Item → List Item
flushed None is = is
flushed (Some o) is = closed o ∷ is

-- the items of marks that follow an open stretch
abbrev pub grouped : Option Open → List Mark → List Item
grouped stretch [] = flushed stretch []
grouped None (Glyph id l x y ∷ ms) = grouped (Some (opened id l x y)) ms
grouped (Some o) (Glyph id l x y ∷ ms) = if goes_on o id x y then grouped (Some (joined o l)) ms else (closed o ∷ grouped (Some (opened id l x y)) ms)
grouped stretch (Bar columns rows x y ∷ ms) = flushed stretch (Rule columns rows x y ∷ grouped None ms)
grouped stretch (Passed bytes x y ∷ ms) = flushed stretch (Block bytes x y ∷ grouped None ms)

-- what the marks owe, one after another
abbrev pub mark_events : Job → Mark → List Event
mark_events j (Glyph id l x y) = letter_masks j (font_name id) x y l
mark_events j (Bar columns rows x y) = rule_mask j x y columns rows ∷ []
mark_events j (Passed bytes x y) = state.Block bytes ∷ []

abbrev pub marks_events : Job → List Mark → List Event
marks_events j [] = []
marks_events j (m ∷ ms) = mark_events j m ++ marks_events j ms

abbrev pub without_texts : List Event → List Event
without_texts [] = []
without_texts (TextShown key codes place ∷ es) = without_texts es
without_texts (e ∷ es) = e ∷ without_texts es

-- But for the strings, the items owe what the marks owe.
abbrev pub ItemsOfMarks : Type 0
ItemsOfMarks = (j : Job) (ms : List Mark) → without_texts (items_events j (grouped None ms)) ≡ marks_events j ms

-- A writer keeps the pen behind the lines that it has written, and the stretch that it has taken and not written.
pub record Sheet : Type 0 where
  pub pen : Pen
  pub stretch : Option Open

abbrev pub first_sheet : Sheet
first_sheet = record { pen = first_pen; stretch = None }

-- the lines of the open stretch, where the next item is at a given place, and the pen behind it
abbrev pub closing : Pen → Option Open → Option (ℤ × ℤ) → List ℕ
closing pen None next = []
closing pen (Some o) next = item_lines pen (closed o) next

abbrev pub pen_closed : Pen → Option Open → Option (ℤ × ℤ) → Pen
pen_closed pen None next = pen
pen_closed pen (Some o) next = pen_behind pen (closed o) next

-- what a mark makes the writer write, and the sheet behind it
abbrev pub is_continued : Option Open → ℕ → ℤ → ℤ → Bool
is_continued None id x y = false
is_continued (Some o) id x y = goes_on o id x y

abbrev pub written : Sheet → Mark → List ℕ
written s (Glyph id l x y) = if is_continued s.stretch id x y then [] else closing s.pen s.stretch (Some (x, y))
written s (Bar columns rows x y) = closing s.pen s.stretch (Some (x, y)) ++ item_lines (pen_closed s.pen s.stretch (Some (x, y))) (Rule columns rows x y) None
written s (Passed bytes x y) = closing s.pen s.stretch (Some (x, y)) ++ item_lines (pen_closed s.pen s.stretch (Some (x, y))) (Block bytes x y) None

abbrev pub with_letter : Option Open → ℕ → Letter → ℤ → ℤ → Option Open
with_letter None id l x y = Some (opened id l x y)
with_letter (Some o) id l x y = if goes_on o id x y then Some (joined o l) else Some (opened id l x y)

abbrev pub behind : Sheet → Mark → Sheet
behind s (Glyph id l x y) = record { pen = if is_continued s.stretch id x y then s.pen else pen_closed s.pen s.stretch (Some (x, y)); stretch = with_letter s.stretch id l x y }
behind s (Bar columns rows x y) = record { pen = pen_behind (pen_closed s.pen s.stretch (Some (x, y))) (Rule columns rows x y) None; stretch = None }
behind s (Passed bytes x y) = record { pen = pen_behind (pen_closed s.pen s.stretch (Some (x, y))) (Block bytes x y) None; stretch = None }

abbrev pub all_written : Sheet → List Mark → List ℕ
all_written s [] = []
all_written s (m ∷ ms) = written s m ++ all_written (behind s m) ms

abbrev pub behind_all : Sheet → List Mark → Sheet
behind_all s [] = s
behind_all s (m ∷ ms) = behind_all (behind s m) ms

-- What is written for the marks of a page, and then for the stretch that is still open, are the page's lines.
abbrev pub LinesOfMarks : Type 0
LinesOfMarks = (ms : List Mark) → lines_from first_pen (grouped None ms) ≡ all_written first_sheet ms ++ (let s = behind_all first_sheet ms in closing s.pen s.stretch None)

-- What a writer needs of an open stretch: its codes, and the pixel behind it.
pub record Kept : Type 0 where
  pub font : ℕ
  pub codes : List ℕ
  pub x : ℤ
  pub y : ℤ
  pub last : ℤ

abbrev pub kept : Open → Kept
kept o = record { font = o.font; codes = letter_codes o.letters; x = o.x; y = o.y; last = string_end o.x o.letters }

abbrev pub kept_goes_on : Option Kept → ℕ → ℤ → ℤ → Bool
kept_goes_on None id x y = false
kept_goes_on (Some k) id x y = nat_eq k.font id && (same_ℤ k.y y && (same_ℤ k.last x && nat_lt (length k.codes) 50))

abbrev pub kept_closing : Pen → Option Kept → Option (ℤ × ℤ) → List ℕ
kept_closing pen None next = []
kept_closing pen (Some k) next = font_line pen k.font ++ (move_line pen k.x k.y ++ (string_text k.codes ++ stretch_end pen.delta k.last k.y next))

abbrev pub kept_pen : Pen → Option Kept → Option (ℤ × ℤ) → Pen
kept_pen pen None next = pen
kept_pen pen (Some k) next = pen_behind_stretch k.font pen.delta k.last k.y next

abbrev pub kept_begun : ℕ → ℕ → ℤ → ℤ → ℤ → Kept
kept_begun id code x y width = record { font = id; codes = code ∷ []; x = x; y = y; last = x +ℤ width }

abbrev pub with_code : Option Kept → ℕ → ℕ → ℤ → ℤ → ℤ → Option Kept
with_code None id code x y width = Some (kept_begun id code x y width)
with_code (Some k) id code x y width =
    if kept_goes_on (Some k) id x y then Some (record k { codes = k.codes ++ code ∷ []; last = k.last +ℤ width }) else Some (kept_begun id code x y width)

-- With codes and widths alone it writes the same.
pub record KeptWrites (s : Sheet) : Type 0 where
  pub goes_on : (id : ℕ) (x y : ℤ) → kept_goes_on (option_map kept s.stretch) id x y ≡ is_continued s.stretch id x y
  pub closing : (next : Option (ℤ × ℤ)) → kept_closing s.pen (option_map kept s.stretch) next ≡ closing s.pen s.stretch next
  pub pen : (next : Option (ℤ × ℤ)) → kept_pen s.pen (option_map kept s.stretch) next ≡ pen_closed s.pen s.stretch next
  pub letter : (id : ℕ) (l : Letter) (x y : ℤ) → with_code (option_map kept s.stretch) id l.code x y l.glyph.width ≡ option_map kept (with_letter s.stretch id l x y)

abbrev pub WritesByCodes : Type 0
WritesByCodes = (s : Sheet) → KeptWrites s

-- marks taken in two parts
abbrev pub MarksInParts : Type 0
MarksInParts = (s : Sheet) (xs ys : List Mark) → (all_written s (xs ++ ys) ≡ all_written s xs ++ all_written (behind_all s xs) ys) × (behind_all s (xs ++ ys) ≡ behind_all (behind_all s xs) ys)

-- the strings among events, and those of a page's stretches
abbrev pub only_texts : List Event → List Event
only_texts [] = []
only_texts (TextShown key text place ∷ es) = TextShown key text place ∷ only_texts es
only_texts (_ ∷ es) = only_texts es

abbrev pub stretch_texts : Job → List Item → List Event
stretch_texts j [] = []
stretch_texts j (Stretch id ls x y ∷ is) = TextShown (font_name id) (letter_codes ls) (pixel_place j x y) ∷ stretch_texts j is
stretch_texts j (_ ∷ is) = stretch_texts j is

-- The strings that a page shows are its stretches, each once and in their order.
abbrev pub StringsOfItems : Type 0
StringsOfItems = (j : Job) (is : List Item) → only_texts (items_events j is) ≡ stretch_texts j is

-- Whole texts, byte for byte and event for event: with a rule, without a page, with a letter, with two fonts; and pages of each kind of line.
use Rattle.std.specs.Prelude.{◌≡◌, List, [], ◌∷◌, ◌++◌, Some, None, pos, negsuc, codes, true}
use Rattle.ps_subset.specs.State as state
use Rattle.ps_subset.specs.State.{Mask, PutArray, FontMade, TextShown, Shown}
use Rattle.ps_subset.specs.Prolog.{prolog}
use Rattle.ps_subset.specs.Samples.{fraction}
use Rattle.ps_subset.specs.Run.{events}
use Rattle.ps_subset.specs.Fonts.{letter_masks, Letter, Font}
use Rattle.ps_subset.specs.Printout.{Printout, text_of, events_of}
use Rattle.ps_subset.specs.Items.{Item, Stretch, Rule, Block, first_pen, lines_from}
use Rattle.ps_subset.specs.FontText.{fonts_lines}

-- one page with one rule
abbrev pub one_rule : Printout
one_rule = record {
  comments = true;
  head = codes "%!PS-Adobe-2.0" ∷ codes "%%Creator: texdvi" ∷ codes "%%Title: rule.dvi" ∷ codes "%%Pages: 1" ∷ codes "%%BoundingBox: 0 0 612 792" ∷ codes "%%EndComments" ∷ [];
  headers = [];
  copies = 1;
  job = record { height = pos 52099153; across = 300; down = 300; origin_x = pos 300; origin_y = pos 300 };
  sections = record { fonts = []; pages = record { label = pos 1; number = 1; items = Rule (pos 3) (pos 1) (pos 1) (pos 0) ∷ [] } ∷ [] } ∷ [];
}

-- its bytes
abbrev pub OneRuleBytes : Type 0
OneRuleBytes = text_of one_rule ≡
    codes "%!PS-Adobe-2.0\n%%Creator: texdvi\n%%Title: rule.dvi\n%%Pages: 1\n%%BoundingBox: 0 0 612 792\n%%EndComments\n%%BeginProlog\n" ++ (prolog ++
    codes "%%EndProlog\n%%BeginSetup\n/#copies 1 def\nTeXDict begin\n52099153 300 300 300 300 TS\n%%EndSetup\nbos\n%%Page: 1 1\nbop\n1 w\n3 1 v\neop\neos\n%%Trailer\nend\n%%EOF\n")

-- its events: the rule's upper left corner is at (1806/25, 1184071657/1644544), and it measures 18/25 by 6/25 points
abbrev pub OneRuleEvents : Type 0
OneRuleEvents = events (text_of one_rule) ≡ Some (
    state.Note (codes "%!PS-Adobe-2.0") ∷ state.Note (codes "%%Creator: texdvi") ∷ state.Note (codes "%%Title: rule.dvi") ∷ state.Note (codes "%%Pages: 1") ∷ state.Note (codes "%%BoundingBox: 0 0 612 792") ∷
    state.Note (codes "%%EndComments") ∷ state.Note (codes "%%BeginProlog") ∷ state.Note (codes "%%EndProlog") ∷ state.Note (codes "%%BeginSetup") ∷ state.Note (codes "%%EndSetup") ∷ state.Note (codes "%%Page: 1 1") ∷
    Mask None (record { x = fraction 1806 24; y = fraction 1184071657 1644543 }) (record { x = fraction 18 24; y = fraction 6 24 }) 1 1 (128 ∷ []) ∷
    Shown 1 [] ∷ state.Note (codes "%%Trailer") ∷ state.Note (codes "%%EOF") ∷ [])

-- the same job without pages
abbrev pub no_pages : Printout
no_pages = record one_rule { head = codes "%!PS-Adobe-2.0" ∷ codes "%%Pages: 0" ∷ codes "%%EndComments" ∷ []; sections = [] }

-- it has no section, and shows no page
abbrev pub NoPagesBytes : Type 0
NoPagesBytes = text_of no_pages ≡
    codes "%!PS-Adobe-2.0\n%%Pages: 0\n%%EndComments\n%%BeginProlog\n" ++ (prolog ++
    codes "%%EndProlog\n%%BeginSetup\n/#copies 1 def\nTeXDict begin\n52099153 300 300 300 300 TS\n%%EndSetup\n%%Trailer\nend\n%%EOF\n")

abbrev pub NoPagesEvents : Type 0
NoPagesEvents = events (text_of no_pages) ≡ Some (
    state.Note (codes "%!PS-Adobe-2.0") ∷ state.Note (codes "%%Pages: 0") ∷ state.Note (codes "%%EndComments") ∷ state.Note (codes "%%BeginProlog") ∷ state.Note (codes "%%EndProlog") ∷
    state.Note (codes "%%BeginSetup") ∷ state.Note (codes "%%EndSetup") ∷ state.Note (codes "%%Trailer") ∷ state.Note (codes "%%EOF") ∷ [])

-- one page with one letter, which is black all over
abbrev pub letter_of_one : Letter
letter_of_one = record { code = 65; glyph = record { columns = 4; rows = 2; hoff = pos 0; voff = pos 1; bytes = 240 ∷ 240 ∷ []; width = pos 21 } }

abbrev pub one_letter : Printout
one_letter = record one_rule {
  head = codes "%!PS-Adobe-2.0" ∷ codes "%%Creator: texdvi" ∷ codes "%%Title: one.dvi" ∷ codes "%%Pages: 1" ∷ codes "%%BoundingBox: 0 0 612 792" ∷ codes "%%EndComments" ∷ [];
  sections = record {
    fonts = record { id = 0; letters = letter_of_one ∷ [] } ∷ [];
    pages = record { label = pos 1; number = 1; items = Stretch 0 (letter_of_one ∷ []) (pos 0) (pos 0) ∷ [] } ∷ [];
  } ∷ [];
}

abbrev pub OneLetterBytes : Type 0
OneLetterBytes = text_of one_letter ≡
    codes "%!PS-Adobe-2.0\n%%Creator: texdvi\n%%Title: one.dvi\n%%Pages: 1\n%%BoundingBox: 0 0 612 792\n%%EndComments\n%%BeginProlog\n" ++ (prolog ++
    codes "%%EndProlog\n%%BeginSetup\n/#copies 1 def\nTeXDict begin\n52099153 300 300 300 300 TS\n%%EndSetup\nbos\n/F0 FB\n65[4 2 true[1 0 0 1 0 1]{<f0f0>}21 0 0 -1 4 1]D\nE\n%%Page: 1 1\nbop\nF0 F\n(A)p\neop\neos\n%%Trailer\nend\n%%EOF\n")

-- its glyph is put and its font made; on the page the string is shown, and the letter's mask stands one pixel higher
abbrev pub OneLetterEvents : Type 0
OneLetterEvents = events (text_of one_letter) ≡ Some (
    state.Note (codes "%!PS-Adobe-2.0") ∷ state.Note (codes "%%Creator: texdvi") ∷ state.Note (codes "%%Title: one.dvi") ∷ state.Note (codes "%%Pages: 1") ∷ state.Note (codes "%%BoundingBox: 0 0 612 792") ∷
    state.Note (codes "%%EndComments") ∷ state.Note (codes "%%BeginProlog") ∷ state.Note (codes "%%EndProlog") ∷ state.Note (codes "%%BeginSetup") ∷ state.Note (codes "%%EndSetup") ∷
    PutArray 65 ∷ FontMade (codes "F0") ∷ state.Note (codes "%%Page: 1 1") ∷
    TextShown (codes "F0") (codes "A") (record { x = fraction 72 0; y = fraction 1184071657 1644543 }) ∷
    Mask (Some (record { key = codes "F0"; code = 65 })) (record { x = fraction 72 0; y = fraction 29611658689 41113599 }) (record { x = fraction 6 24; y = fraction 6 24 }) 4 2 (240 ∷ 240 ∷ []) ∷
    Shown 1 (record { key = codes "F0"; code = 65 } ∷ []) ∷ state.Note (codes "%%Trailer") ∷ state.Note (codes "%%EOF") ∷ [])

-- a blank glyph stands in the text as one white pixel
abbrev pub blank_letter : Letter
blank_letter = record { code = 32; glyph = record { columns = 0; rows = 0; hoff = pos 3; voff = pos 4; bytes = []; width = pos 7 } }

abbrev pub BlankBytes : Type 0
BlankBytes = fonts_lines (record { id = 3; letters = blank_letter ∷ [] } ∷ []) ≡ codes "/F3 FB\n32[1 1 true[1 0 0 1 0 0]{<00>}7 0 0 0 1 1]D\nE\n"

-- and gives no mask
abbrev pub BlankMasks : Type 0
BlankMasks = letter_masks one_rule.job (codes "F3") (pos 0) (pos 0) blank_letter ≡ []

abbrev pub letter_paren : Letter
letter_paren = record { code = 40; glyph = record { columns = 9; rows = 2; hoff = negsuc 0; voff = pos 1; bytes = 255 ∷ 128 ∷ 1 ∷ 0 ∷ []; width = pos 5 } }

abbrev pub letter_A : Letter
letter_A = record { code = 65; glyph = record { columns = 4; rows = 2; hoff = pos 0; voff = pos 1; bytes = 240 ∷ 144 ∷ []; width = pos 21 } }

abbrev pub letter_200 : Letter
letter_200 = record { code = 200; glyph = record { columns = 8; rows = 33; hoff = pos 2; voff = negsuc 2; bytes = 1 ∷ 2 ∷ 3 ∷ 4 ∷ 5 ∷ 6 ∷ 7 ∷ 8 ∷ 9 ∷ 10 ∷ 11 ∷ 12 ∷ 13 ∷ 14 ∷ 15 ∷ 16 ∷ 17 ∷ 18 ∷ 19 ∷ 20 ∷ 21 ∷ 22 ∷ 23 ∷ 24 ∷ 25 ∷ 26 ∷ 27 ∷ 28 ∷ 29 ∷ 30 ∷ 31 ∷ 32 ∷ 33 ∷ []; width = pos 3 } }

abbrev pub two_fonts : List Font
two_fonts = record { id = 0; letters = letter_paren ∷ letter_A ∷ letter_200 ∷ [] } ∷ record { id = 12; letters = letter_A ∷ [] } ∷ []

abbrev pub many_items : List Item
many_items =
    Stretch 0 (letter_A ∷ []) (pos 0) (pos 0) ∷ Stretch 0 (letter_A ∷ []) (pos 51) (pos 0) ∷ Stretch 0 (letter_A ∷ []) (pos 103) (pos 0) ∷ Stretch 0 (letter_A ∷ letter_200 ∷ letter_paren ∷ []) (pos 126) (pos 0) ∷
    Stretch 12 (letter_A ∷ []) (pos 10) (pos 7) ∷ Rule (pos 5) (pos 3) (pos 10) (pos 20) ∷ Stretch 12 (letter_A ∷ []) (pos 40) (pos 20) ∷ Block (codes "}}\n") (pos 40) (pos 25) ∷
    Stretch 0 (letter_A ∷ []) (pos 40) (pos 25) ∷ Stretch 0 (letter_A ∷ []) (pos 40) (pos 25) ∷ Rule (pos 1) (pos 2) (pos 61) (pos 9) ∷ []

abbrev pub FontsBytes : Type 0
FontsBytes = fonts_lines two_fonts ≡ codes "/F0 FB\n40[9 2 true[1 0 0 1 -1 1]{<ff800100>}5 0 1 -1 10 1]D\n65[4 2 true[1 0 0 1 0 1]{<f090>}21 0 0 -1 4 1]D\n200[8 33 true[1 0 0 1 2 -3]{<0102030405060708090a0b0c0d0e0f101112131415161718191a1b1c1d1e1f20\n21>}3 0 -2 3 6 36]D\nE\n/F12 FB\n65[4 2 true[1 0 0 1 0 1]{<f090>}21 0 0 -1 4 1]D\nE\n"

abbrev pub ItemsBytes : Type 0
ItemsBytes = lines_from first_pen many_items ≡ codes "F0 F\n(A)30 b\n(A)h\n(A)r\n(A\\310\\()10 7 y\nF12 F\n(A)10 20 y\n5 3 v\n30 w\n(A)40 25 y\n%TeXblock: 3\n}}\n\nF0 F\n40 25 a\n(A)-21 b\n(A)61 9 y\n1 2 v\n"

abbrev pub sample_text : Printout
sample_text = record {
  comments = true;
  head = codes "%!PS-Adobe-2.0" ∷ [];
  headers = codes "/x{" ∷ [];
  copies = 2;
  job = record { height = pos 52099153; across = 300; down = 600; origin_x = pos 300; origin_y = pos 600 };
  sections = record { fonts = two_fonts; pages = record { label = negsuc 0; number = 1; items = many_items } ∷ [] } ∷ [];
}

abbrev pub SampleEvents : Type 0
SampleEvents = events (text_of sample_text) ≡ Some (events_of sample_text)

-- each ending of a stretch's line: l to o and q to t by -4 to 4 pixels, b by 30, c to k by 30 less or more, each from the way that the one before it
-- has left, y to another row, and p
abbrev pub every_ending : List Item
every_ending =
    Stretch 0 (letter_A ∷ []) (pos 0) (pos 0) ∷ Stretch 0 (letter_A ∷ []) (pos 17) (pos 0) ∷ Stretch 0 (letter_A ∷ []) (pos 35) (pos 0) ∷ Stretch 0 (letter_A ∷ []) (pos 54) (pos 0) ∷
    Stretch 0 (letter_A ∷ []) (pos 74) (pos 0) ∷ Stretch 0 (letter_A ∷ []) (pos 96) (pos 0) ∷ Stretch 0 (letter_A ∷ []) (pos 119) (pos 0) ∷ Stretch 0 (letter_A ∷ []) (pos 143) (pos 0) ∷
    Stretch 0 (letter_A ∷ []) (pos 168) (pos 0) ∷ Stretch 0 (letter_A ∷ []) (pos 219) (pos 0) ∷ Stretch 0 (letter_A ∷ []) (pos 266) (pos 0) ∷ Stretch 0 (letter_A ∷ []) (pos 310) (pos 0) ∷
    Stretch 0 (letter_A ∷ []) (pos 352) (pos 0) ∷ Stretch 0 (letter_A ∷ []) (pos 393) (pos 0) ∷ Stretch 0 (letter_A ∷ []) (pos 434) (pos 0) ∷ Stretch 0 (letter_A ∷ []) (pos 476) (pos 0) ∷
    Stretch 0 (letter_A ∷ []) (pos 520) (pos 0) ∷ Stretch 0 (letter_A ∷ []) (pos 567) (pos 0) ∷ Stretch 0 (letter_A ∷ []) (pos 618) (pos 0) ∷ Stretch 0 (letter_A ∷ []) (pos 5) (pos 9) ∷ []

abbrev pub EveryEnding : Type 0
EveryEnding = lines_from first_pen every_ending ≡ codes "F0 F\n(A)l\n(A)m\n(A)n\n(A)o\n(A)q\n(A)r\n(A)s\n(A)t\n(A)30 b\n(A)c\n(A)d\n(A)e\n(A)f\n(A)g\n(A)h\n(A)i\n(A)j\n(A)k\n(A)5 9 y\n(A)p\n"

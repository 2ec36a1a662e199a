-- The lines that make a font, and the events that they owe: each glyph is put once, by code, and then the font is defined.
use Rattle.std.specs.Prelude.{ℕ, zero, suc, ◌+◌, ◌/◌, ◌%◌, ◌<◌, ◌≤◌, ◌^◌, List, [], ◌∷◌, ◌++◌, pos, ◌-ℤ◌, neg_ℤ, codes, decimal, nat_lt, if◌then◌else◌}
use Rattle.std.specs.Fmt.{signed_decimal}
use Rattle.ps_subset.specs.State.{Event, PutArray, FontMade, Character}
use Rattle.ps_subset.specs.Prolog.{line}
use Rattle.ps_subset.specs.Lines.{natural_field, signed_field}
use Rattle.ps_subset.specs.Fonts.{printed, Letter, Font, font_name, IsGoodGlyph}

-- Fonts. A byte is two hexadecimal digits, with a line end after each 32 bytes that others follow; n are left on the line.
abbrev pub hex_glyph : ℕ → ℕ
hex_glyph d = if nat_lt d 10 then 48 + d else 87 + d

abbrev pub hex_text : ℕ → List ℕ → List ℕ
hex_text n [] = []
hex_text zero (b ∷ bs) = 10 ∷ hex_glyph (b / 16) ∷ hex_glyph (b % 16) ∷ hex_text 31 bs
hex_text (suc n) (b ∷ bs) = hex_glyph (b / 16) ∷ hex_glyph (b % 16) ∷ hex_text n bs

-- the line of a glyph: its code; its columns and rows, the matrix and the bytes of its mask, its width and its box; D
abbrev pub letter_line : Letter → List ℕ
letter_line l =
    let g = printed l.glyph in
    (decimal l.code ++ codes "[") ++
    (natural_field g.columns ++ (natural_field g.rows ++ (codes "true[1 0 0 1 " ++ (signed_field g.hoff ++ ((signed_decimal g.voff ++ codes "]") ++
    ((codes "{<" ++ (hex_text 32 g.bytes ++ codes ">}")) ++
    (signed_field g.width ++ (codes "0 " ++ (signed_field (neg_ℤ g.hoff) ++ (signed_field (neg_ℤ g.voff) ++ (signed_field (pos g.columns -ℤ g.hoff) ++
    ((signed_decimal (pos g.rows -ℤ g.voff) ++ codes "]") ++ line (codes "D")))))))))))))

abbrev pub letter_lines : List Letter → List ℕ
letter_lines [] = []
letter_lines (l ∷ ls) = letter_line l ++ letter_lines ls

abbrev pub font_lines : Font → List ℕ
font_lines f = (codes "/" ++ (font_name f.id ++ codes " ")) ++ (line (codes "FB") ++ (letter_lines f.letters ++ line (codes "E")))

abbrev pub fonts_lines : List Font → List ℕ
fonts_lines [] = []
fonts_lines (f ∷ fs) = font_lines f ++ fonts_lines fs

-- The events. Each glyph is put once, by code, and then the font is made.
abbrev pub letters_events : List Letter → List Event
letters_events [] = []
letters_events (l ∷ ls) = PutArray l.code ∷ letters_events ls

abbrev pub fonts_events : List Font → List Event
fonts_events [] = []
fonts_events (f ∷ fs) = (letters_events f.letters ++ FontMade (font_name f.id) ∷ []) ++ fonts_events fs

-- the glyphs that the fonts of a section hold
abbrev pub letters_held : List ℕ → List Letter → List Character
letters_held key [] = []
letters_held key (l ∷ ls) = record { key = key; code = l.code } ∷ letters_held key ls

abbrev pub fonts_held : List Font → List Character
fonts_held [] = []
fonts_held (f ∷ fs) = letters_held (font_name f.id) f.letters ++ fonts_held fs

-- What is asked of a text. Codes and the numbers of fonts ascend.
abbrev pub AllGoodLetters : ℕ → List Letter → Type 0
AllGoodLetters least [] = Unit {0}
AllGoodLetters least (l ∷ ls) = (least ≤ l.code) × (l.code < 256) × IsGoodGlyph (printed l.glyph) × AllGoodLetters (l.code + 1) ls

abbrev pub AllGoodFonts : ℕ → List Font → Type 0
AllGoodFonts least [] = Unit {0}
AllGoodFonts least (f ∷ fs) = (least ≤ f.id) × (f.id < 2 ^ 63) × AllGoodLetters 0 f.letters × AllGoodFonts (f.id + 1) fs

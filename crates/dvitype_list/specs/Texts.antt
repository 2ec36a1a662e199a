-- The lines of a listing. (Their form is this project's own, after DVItype in outline.)
use Rattle.std.specs.Prelude.{ℕ, ◌+◌, ◌/◌, ◌%◌, ◌^◌, ◌&&◌, not, nat_lt, nat_le, nat_eq, if◌then◌else◌, ℤ, List, [], ◌∷◌, ◌++◌, codes, decimal}
use Rattle.std.specs.Fmt.{signed_decimal}
use Rattle.positions.specs.Place.{Place}
use Rattle.dvi_ops.specs.Command.{Command, Definition, Preamble}
use Rattle.dvi_ops.specs.Command.Command.{Set, Put, Fnt, Push, Pop, Eop, SetRule, PutRule, Nop, FntDef, Right, W0, W, X0, X, Down, Y0, Y, Z0, Z, Xxx}

-- ---- bytes as text

-- a hexadecimal digit, in lower case
abbrev pub hex_digit : ℕ → ℕ
hex_digit n = if nat_lt n 10 then 48 + n else 87 + n

abbrev pub hex_byte : ℕ → List ℕ
hex_byte b = hex_digit (b / 16) ∷ hex_digit (b % 16) ∷ []

-- a visible byte or a space, and no backslash
abbrev pub escape_byte : ℕ → List ℕ
escape_byte b = if nat_le 32 b && (nat_le b 126 && not (nat_eq b 92)) then b ∷ [] else 92 ∷ hex_byte b

-- such bytes stand as they are, and each other one as a backslash and two hexadecimal digits
abbrev pub escaped : List ℕ → List ℕ
escaped [] = []
escaped (b ∷ bs) = escape_byte b ++ escaped bs

-- the eight digits of a checksum
abbrev pub hex_word : ℕ → List ℕ
hex_word c = hex_byte (c / 2 ^ 24) ++ (hex_byte (c / 2 ^ 16 % 256) ++ (hex_byte (c / 2 ^ 8 % 256) ++ hex_byte (c % 256)))

-- ---- a command's line

abbrev pub named : List ℕ → ℤ → List ℕ
named name q = name ++ signed_decimal q

abbrev pub named_twice : List ℕ → ℤ → ℤ → List ℕ
named_twice name a b = name ++ (signed_decimal a ++ (32 ∷ [] ++ signed_decimal b))

-- The name of a command with its numbers. (What may not stand in a page has no name.)
unfoldable pub name_text : Command → List ℕ
name_text (Set z) = named (codes "set ") z
name_text (Put z) = named (codes "put ") z
name_text (SetRule a b) = named_twice (codes "setrule ") a b
name_text (PutRule a b) = named_twice (codes "putrule ") a b
name_text Nop = codes "nop"
name_text Eop = codes "eop"
name_text Push = codes "push"
name_text Pop = codes "pop"
name_text (Right q) = named (codes "right ") q
name_text W0 = codes "w0"
name_text (W q) = named (codes "w ") q
name_text X0 = codes "x0"
name_text (X q) = named (codes "x ") q
name_text (Down q) = named (codes "down ") q
name_text Y0 = codes "y0"
name_text (Y q) = named (codes "y ") q
name_text Z0 = codes "z0"
name_text (Z q) = named (codes "z ") q
name_text (Fnt k) = named (codes "fnt ") k
name_text (Xxx text) = codes "xxx "
name_text (FntDef d) = named (codes "fntdef ") d.k
name_text _ = []

-- what stands behind the name: the text of a special
abbrev pub own_text : Command → List ℕ
own_text (Xxx text) = escaped text
own_text _ = []

-- the place behind a command, and the line's end
abbrev pub place_text : Place → List ℕ
place_text p = named (codes " h=") p.h ++ (named (codes " v=") p.v ++ (named (codes " hh=") p.hh ++ (named (codes " vv=") p.vv ++ 10 ∷ [])))

-- the place of a command, the command, and the place of the page behind it
abbrev pub command_line : ℕ → Command → Place → List ℕ
command_line at c p = (decimal at ++ (codes ": " ++ name_text c)) ++ (own_text c ++ place_text p)

-- ---- the other lines

-- the first two lines: what the file says of itself, with the magnification in force
abbrev pub head_front : Preamble → ℤ → ℕ → List ℕ
head_front head mag pages =
    named (codes "dvi id=2 num=") head.num ++ (named (codes " den=") head.den ++ (named (codes " mag=") mag ++ (codes " pages=" ++ (decimal pages ++ codes "\ncomment="))))

abbrev pub head_text : Preamble → ℤ → ℕ → List ℕ
head_text head mag pages = head_front head mag pages ++ (escaped head.comment ++ 10 ∷ [])

-- a font of the document
abbrev pub font_front : Definition → List ℕ
font_front d = named (codes "font ") d.k ++ 32 ∷ []

abbrev pub font_end : Definition → List ℕ
font_end d = named (codes " size=") d.size ++ (named (codes " design=") d.design ++ (codes " checksum=" ++ (hex_word d.checksum ++ 10 ∷ [])))

abbrev pub font_line : Definition → List ℕ
font_line d = font_front d ++ (d.name ++ font_end d)

abbrev pub font_lines : List Definition → List ℕ
font_lines [] = []
font_lines (d ∷ ds) = font_line d ++ font_lines ds

-- numbers with points between them
abbrev pub more_counts : List ℤ → List ℕ
more_counts [] = []
more_counts (c ∷ cs) = (46 ∷ signed_decimal c) ++ more_counts cs

abbrev pub counts_text : List ℤ → List ℕ
counts_text [] = []
counts_text (c ∷ cs) = signed_decimal c ++ more_counts cs

-- a page by its number, which counts from 1, with the place of its bop
abbrev pub page_front : ℕ → ℕ → List ℕ
page_front number at = codes "page " ++ (decimal number ++ (codes " at " ++ (decimal at ++ codes " counts=")))

abbrev pub page_line : ℕ → ℕ → List ℤ → List ℕ
page_line number at counts = page_front number at ++ (counts_text counts ++ 10 ∷ [])

-- the last line of a whole listing
abbrev pub done_line : ℕ → List ℕ
done_line pages = codes "done pages=" ++ (decimal pages ++ 10 ∷ [])

-- The shortest spelling of a command: each number in as few bytes as hold it, and no byte of operands where the operation byte alone
-- tells the number.
use Rattle.std.specs.Prelude.{◌≡◌, ℕ, ℤ, pos, negsuc, FitsSigned, ◌+◌, ◌-◌, ◌^◌, ◌≤◌, ◌<◌, List, [], ◌∷◌, ◌++◌, length, slice_index, Bool, false, nat_lt, if◌then◌else◌}
use Rattle.std.specs.List.{All}
use Rattle.std.specs.Int.{cast_unsigned, w32}
use Rattle.byteorder.specs.Endian.{big_bytes}
use Rattle.dvi_ops.specs.Command.{Command, Definition, Preamble, Postamble}
use Rattle.dvi_ops.specs.Command.Command.{Set, SetRule, Put, PutRule, Nop, Bop, Eop, Push, Pop, Right, W0, W, X0, X, Down, Y0, Y, Z0, Z, Fnt, Xxx, FntDef, Pre, Post, PostPost}
use Rattle.dvi_ops.specs.Spelling.{Spell}

-- ---- numbers

-- z lies from -h to h - 1
abbrev pub lies_within : ℕ → ℤ → Bool
lies_within h (pos n) = nat_lt n h
lies_within h (negsuc n) = nat_lt n h

-- z lies from 0 to h - 1
abbrev pub lies_below : ℕ → ℤ → Bool
lies_below h (pos n) = nat_lt n h
lies_below h (negsuc n) = false

-- in how many bytes, one to four, a length stands: it is unsigned
abbrev pub length_width : ℕ → ℕ
length_width n = if nat_lt n (2 ^ 8) then 1 else if nat_lt n (2 ^ 16) then 2 else if nat_lt n (2 ^ 24) then 3 else 4

-- a code or a font number: unsigned up to three bytes, signed with four
abbrev pub code_width : ℤ → ℕ
code_width c = if lies_below (2 ^ 8) c then 1 else if lies_below (2 ^ 16) c then 2 else if lies_below (2 ^ 24) c then 3 else 4

-- a distance: signed at every length
abbrev pub move_width : ℤ → ℕ
move_width q = if lies_within (2 ^ 7) q then 1 else if lies_within (2 ^ 15) q then 2 else if lies_within (2 ^ 23) q then 3 else 4

-- the lowest n bytes of a number, the highest of them first; a negative one is in two's complement
abbrev pub bytes_of : ℕ → ℤ → List ℕ
bytes_of n z = big_bytes n (cast_unsigned w32 z)

-- numbers of four bytes, one after another
abbrev pub words_of : List ℤ → List ℕ
words_of [] = []
words_of (z ∷ zs) = bytes_of 4 z ++ words_of zs

-- ---- commands

-- a code or a font number behind the operation byte that tells how many bytes it has; op + 1 is the one for one byte
abbrev pub with_code : ℕ → ℤ → List ℕ
with_code op c = (op + code_width c) ∷ bytes_of (code_width c) c

-- a distance, likewise
abbrev pub with_move : ℕ → ℤ → List ℕ
with_move op q = (op + move_width q) ∷ bytes_of (move_width q) q

-- a character that is set, and a font that is selected: the operation byte tells small numbers
abbrev pub set_bytes : ℤ → List ℕ
set_bytes c = if lies_below 128 c then cast_unsigned w32 c ∷ [] else with_code 127 c

abbrev pub font_bytes : ℤ → List ℕ
font_bytes k = if lies_below 64 k then (171 + cast_unsigned w32 k) ∷ [] else with_code 234 k

-- a font definition, with its name
abbrev pub definition_bytes : Definition → List ℕ
definition_bytes d =
    with_code 242 d.k ++ big_bytes 4 d.checksum ++ bytes_of 4 d.size ++ bytes_of 4 d.design ++ (d.area ∷ (length d.name - d.area) ∷ []) ++ d.name

-- what stands round the pages
abbrev pub preamble_bytes : Preamble → List ℕ
preamble_bytes h = (247 ∷ h.id ∷ []) ++ bytes_of 4 h.num ++ bytes_of 4 h.den ++ bytes_of 4 h.mag ++ (length h.comment ∷ [])

abbrev pub postamble_bytes : Postamble → List ℕ
postamble_bytes t =
    (248 ∷ []) ++ bytes_of 4 t.back ++ bytes_of 4 t.num ++ bytes_of 4 t.den ++ bytes_of 4 t.mag ++ bytes_of 4 t.tall ++ bytes_of 4 t.wide
    ++ big_bytes 2 t.depth ++ big_bytes 2 t.pages

-- The shortest spelling without the text of a special or of a comment, which stands at the end.
unfoldable pub shortest : Command → List ℕ
shortest (Set c) = set_bytes c
shortest (SetRule a b) = 132 ∷ words_of (a ∷ b ∷ [])
shortest (Put c) = with_code 132 c
shortest (PutRule a b) = 137 ∷ words_of (a ∷ b ∷ [])
shortest Nop = 138 ∷ []
shortest (Bop counts back) = 139 ∷ words_of counts ++ bytes_of 4 back
shortest Eop = 140 ∷ []
shortest Push = 141 ∷ []
shortest Pop = 142 ∷ []
shortest (Right q) = with_move 142 q
shortest W0 = 147 ∷ []
shortest (W q) = with_move 147 q
shortest X0 = 152 ∷ []
shortest (X q) = with_move 152 q
shortest (Down q) = with_move 156 q
shortest Y0 = 161 ∷ []
shortest (Y q) = with_move 161 q
shortest Z0 = 166 ∷ []
shortest (Z q) = with_move 166 q
shortest (Fnt k) = font_bytes k
shortest (Xxx text) = (238 + length_width (length text)) ∷ big_bytes (length_width (length text)) (length text)
shortest (FntDef d) = definition_bytes d
shortest (Pre h) = preamble_bytes h
shortest (Post t) = postamble_bytes t
shortest (PostPost back id) = 249 ∷ big_bytes 4 back ++ (id ∷ [])

-- the text at the end of a command: of a special its bytes, of pre the comment
abbrev pub end_text : Command → List ℕ
end_text (Xxx text) = text
end_text (Pre h) = h.comment
end_text _ = []

-- The shortest spelling, whole.
abbrev pub shortest_whole : Command → List ℕ
shortest_whole cmd = shortest cmd ++ end_text cmd

-- The bytes are a spelling of the command, and no other bytes that are one are fewer.
abbrev pub IsShortest : Command → List ℕ → Type 0
IsShortest cmd bytes = Spell cmd bytes × ((other : List ℕ) → ((i : ℕ) → slice_index other i < 256) → Spell cmd other → length bytes ≤ length other)

-- ---- which commands can be spelled

-- a number of four bytes, in two's complement
abbrev pub IsWord : ℤ → Type 0
IsWord z = FitsSigned w32 z

abbrev pub DefinitionHasRoom : Definition → Type 0
DefinitionHasRoom d =
    IsWord d.k × (d.checksum < 2 ^ 32) × IsWord d.size × IsWord d.design × (d.area < 256) × (d.area ≤ length d.name)
    × (length d.name < d.area + 256)

abbrev pub PreambleHasRoom : Preamble → Type 0
PreambleHasRoom h = (h.id < 256) × IsWord h.num × IsWord h.den × IsWord h.mag × (length h.comment < 256)

abbrev pub PostambleHasRoom : Postamble → Type 0
PostambleHasRoom t =
    IsWord t.back × IsWord t.num × IsWord t.den × IsWord t.mag × IsWord t.tall × IsWord t.wide × (t.depth < 2 ^ 16) × (t.pages < 2 ^ 16)

-- The operands have room: each number is one of its bytes, and each text is no longer than the number before it can tell.
abbrev pub HasRoom : Command → Type 0
HasRoom (Set c) = IsWord c
HasRoom (SetRule a b) = IsWord a × IsWord b
HasRoom (Put c) = IsWord c
HasRoom (PutRule a b) = IsWord a × IsWord b
HasRoom (Bop counts back) = (length counts ≡ 10) × All IsWord counts × IsWord back
HasRoom (Right q) = IsWord q
HasRoom (W q) = IsWord q
HasRoom (X q) = IsWord q
HasRoom (Down q) = IsWord q
HasRoom (Y q) = IsWord q
HasRoom (Z q) = IsWord q
HasRoom (Fnt k) = IsWord k
HasRoom (Xxx text) = length text < 2 ^ 32
HasRoom (FntDef d) = DefinitionHasRoom d
HasRoom (Pre h) = PreambleHasRoom h
HasRoom (Post t) = PostambleHasRoom t
HasRoom (PostPost back id) = (back < 2 ^ 32) × (id < 256)
HasRoom _ = Unit {0}

-- The same of a command that the code holds, whose types bound the other numbers.
abbrev pub CanBePut : Command → Type 0
CanBePut (Set c) = IsWord c
CanBePut (Put c) = IsWord c
CanBePut (Fnt k) = IsWord k
CanBePut (Xxx text) = length text < 2 ^ 32
CanBePut (FntDef d) = IsWord d.k × (d.area ≤ length d.name) × (length d.name < d.area + 256)
CanBePut (Pre h) = length h.comment < 256
CanBePut _ = Unit {0}

-- The table of commands (DVI format): for each operation byte, 0 to 249, how many bytes of operands it has and what they mean.
-- Numbers have their highest byte first. A command may have several spellings; what the bytes 250 to 255 begin is none.
use Rattle.std.specs.Prelude.{◌≡◌, ℕ, ℤ, pos, ◌+◌, ◌-◌, ◌<◌, List, [], ◌∷◌, length, drop, slice_index, nat_lt, if◌then◌else◌}
use Rattle.dv_base.specs.Numbers.{unsigned, signed}
use Rattle.dvi_ops.specs.Command.{Command, Definition, Preamble, Postamble}
use Rattle.dvi_ops.specs.Command.Command.{Set, SetRule, Put, PutRule, Nop, Bop, Eop, Push, Pop, Right, W0, W, X0, X, Down, Y0, Y, Z0, Z, Fnt, Xxx, FntDef, Pre, Post, PostPost}

-- a code or a font number of n bytes: unsigned up to three bytes, in two's complement with four
unfoldable pub code : ℕ → List ℕ → ℤ
code n args = if nat_lt n 4 then pos (unsigned 0 n args) else signed 0 4 args

-- How many bytes of operands stand behind each operation byte, without a text at their end:
-- set_char none, set 1 to 4, set_rule 8, put 1 to 4, put_rule 8, nop none, bop 44, eop, push and pop none, right 1 to 4, w0 none,
-- w 1 to 4, likewise x, down, y and z, fnt_num none, fnt 1 to 4, xxx 1 to 4, fnt_def 15 to 18, pre 14, post 28, post_post 5.
unfoldable pub fixed_len : ℕ → ℕ
fixed_len op =
    if nat_lt op 128 then 0 else if nat_lt op 132 then op - 127 else if nat_lt op 133 then 8
    else if nat_lt op 137 then op - 132 else if nat_lt op 138 then 8 else if nat_lt op 139 then 0
    else if nat_lt op 140 then 44 else if nat_lt op 143 then 0 else if nat_lt op 147 then op - 142
    else if nat_lt op 152 then op - 147 else if nat_lt op 157 then op - 152 else if nat_lt op 161 then op - 156
    else if nat_lt op 166 then op - 161 else if nat_lt op 171 then op - 166 else if nat_lt op 235 then 0
    else if nat_lt op 239 then op - 234 else if nat_lt op 243 then op - 238 else if nat_lt op 247 then op - 242 + 14
    else if nat_lt op 248 then 14 else if nat_lt op 249 then 28 else 5

-- The length of the text at the end: of xxx its one number, of fnt_def the sum of the last two bytes before it, of pre the byte
-- before it. Where args end before that number does, what this gives counts for nothing: they are too short already.
unfoldable pub text_len : ℕ → List ℕ → ℕ
text_len op args =
    if nat_lt op 239 then 0 else if nat_lt op 243 then unsigned 0 (op - 238) args
    else if nat_lt op 247 then slice_index args (op - 242 + 12) + slice_index args (op - 242 + 13)
    else if nat_lt op 248 then slice_index args 13 else 0

-- how many bytes stand behind op in its command, where args begin with them
abbrev pub extent : ℕ → List ℕ → ℕ
extent op args = fixed_len op + text_len op args

-- right, w, x, down, y and z; each distance is signed at every length
unfoldable pub motion : ℕ → List ℕ → Command
motion op args =
    if nat_lt op 147 then Right (signed 0 (op - 142) args)
    else if nat_lt op 148 then W0 else if nat_lt op 152 then W (signed 0 (op - 147) args)
    else if nat_lt op 153 then X0 else if nat_lt op 157 then X (signed 0 (op - 152) args)
    else if nat_lt op 161 then Down (signed 0 (op - 156) args)
    else if nat_lt op 162 then Y0 else if nat_lt op 166 then Y (signed 0 (op - 161) args)
    else if nat_lt op 167 then Z0 else Z (signed 0 (op - 166) args)

-- the ten counts of bop
unfoldable pub counts : List ℕ → List ℤ
counts args =
    signed 0 4 args ∷ signed 4 4 args ∷ signed 8 4 args ∷ signed 12 4 args ∷ signed 16 4 args
    ∷ signed 20 4 args ∷ signed 24 4 args ∷ signed 28 4 args ∷ signed 32 4 args ∷ signed 36 4 args ∷ []

-- characters and rules, nop, bop, eop, push and pop
unfoldable pub low : ℕ → List ℕ → Command
low op args =
    if nat_lt op 128 then Set (pos op) else if nat_lt op 132 then Set (code (op - 127) args)
    else if nat_lt op 133 then SetRule (signed 0 4 args) (signed 4 4 args)
    else if nat_lt op 137 then Put (code (op - 132) args)
    else if nat_lt op 138 then PutRule (signed 0 4 args) (signed 4 4 args)
    else if nat_lt op 139 then Nop else if nat_lt op 140 then Bop (counts args) (signed 40 4 args)
    else if nat_lt op 141 then Eop else if nat_lt op 142 then Push else Pop

-- a font definition whose number has n bytes
unfoldable pub definition : ℕ → List ℕ → Definition
definition n args =
    record {
      k = code n args;
      checksum = unsigned n 4 args;
      size = signed (n + 4) 4 args;
      design = signed (n + 8) 4 args;
      area = slice_index args (n + 12);
      name = drop (n + 14) args;
    }

-- the operands of pre, and of post
unfoldable pub preamble : List ℕ → Preamble
preamble args = record { id = slice_index args 0; num = signed 1 4 args; den = signed 5 4 args; mag = signed 9 4 args; comment = drop 14 args }

unfoldable pub postamble : List ℕ → Postamble
postamble args =
    record {
      back = signed 0 4 args;
      num = signed 4 4 args;
      den = signed 8 4 args;
      mag = signed 12 4 args;
      tall = signed 16 4 args;
      wide = signed 20 4 args;
      depth = unsigned 24 2 args;
      pages = unsigned 26 2 args;
    }

-- fonts, specials, definitions, and what stands before and behind the pages
unfoldable pub high : ℕ → List ℕ → Command
high op args =
    if nat_lt op 235 then Fnt (pos (op - 171)) else if nat_lt op 239 then Fnt (code (op - 234) args)
    else if nat_lt op 243 then Xxx (drop (op - 238) args)
    else if nat_lt op 247 then FntDef (definition (op - 242) args)
    else if nat_lt op 248 then
    Pre (preamble args)
    else if nat_lt op 249 then
    Post (postamble args)
    else PostPost (unsigned 0 4 args) (slice_index args 4)

-- the command of an operation byte with exactly its operands
unfoldable pub meaning : ℕ → List ℕ → Command
meaning op args = if nat_lt op 143 then low op args else if nat_lt op 171 then motion op args else high op args

-- The bytes are one spelling of the command: an operation byte, all its operands, and nothing more.
abbrev pub Spell : Command → List ℕ → Type 0
Spell cmd [] = ⊥
Spell cmd (op ∷ args) = (op < 250) × (length args ≡ extent op args) × (meaning op args ≡ cmd)

-- the operation byte at a place, and all that stands behind it
abbrev pub byte_at : List ℕ → ℕ → ℕ
byte_at bytes at = slice_index bytes at

abbrev pub behind : List ℕ → ℕ → List ℕ
behind bytes at = drop (at + 1) bytes

-- The byte there is that of a command, and fewer bytes stand behind it than the command has.
abbrev pub RunsPast : List ℕ → ℕ → Type 0
RunsPast bytes at = (byte_at bytes at < 250) × (length (behind bytes at) < extent (byte_at bytes at) (behind bytes at))

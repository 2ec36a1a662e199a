-- The shortest spelling of a command is one.
use Rattle.std.proofs.Common.{◌≡◌, ◌≤◌, ◌<◌, ◌+◌, ◌-◌, inl, ℕ, ℤ, pos, negsuc, List, [], ◌∷◌, ◌++◌, length, slice_index, drop, Bool, true, false, if◌then◌else◌, refl, sym, ap, subst, ◌∙◌, arith, length-append, ltb-true}
use Rattle.std.proofs.lemmas.Bool.Decides.{nat_tests}
use Rattle.std.proofs.lemmas.List.{append-nil, drop_at, get_or_append_left, get_or-append-add}
use Rattle.std.specs.Int.{cast_unsigned, w32}
use Rattle.std.specs.List.{All}
use Rattle.byteorder.specs.Endian.{big_bytes}
use Rattle.dv_base.specs.Numbers.{unsigned, signed}
use Rattle.dvi_ops.specs.Command.{Command, Definition, Preamble, Postamble}
use Rattle.dvi_ops.specs.Command.Command.{Set, SetRule, Put, PutRule, Nop, Bop, Eop, Push, Pop, Right, W0, W, X0, X, Down, Y0, Y, Z0, Z, Fnt, Xxx, FntDef, Pre, Post, PostPost}
use Rattle.dvi_ops.specs.Spelling.{fixed_len, text_len, meaning, low, motion, high, code, counts, definition, preamble, postamble, Spell}
use Rattle.dvi_ops.specs.Shortest.{lies_below, code_width, move_width, length_width, bytes_of, words_of, with_code, with_move, set_bytes, font_bytes, definition_bytes, preamble_bytes, postamble_bytes, shortest, shortest_whole, IsWord, DefinitionHasRoom, PreambleHasRoom, PostambleHasRoom, HasRoom}
use Rattle.dvi_ops.proofs.Texts.{no_text, set_len, set_is, fnt_len, fnt_is, len_of_def, text_of_def, meaning_of_def}
use Rattle.dvi_ops.proofs.Operands.{IsWidth, move_widths, code_widths, length_widths, move_back, code_back, length_back, four_bytes, length_of, length_big, length_words, unsigned_before, signed_before, code_before, unsigned_last, word_last, counts_back, pair_back}

-- ---- distances

-- the operation bytes behind b are those of one kind of move, with one to four bytes
abbrev Moves : ℕ → (ℤ → Command) → Type 0
Moves b kind = (n : ℕ) (args : List ℕ) → IsWidth n → (b + n < 235) × (fixed_len (b + n) ≡ n) × (meaning (b + n) args ≡ kind (signed 0 n args))

rights : Moves 142 Right
unfolding fixed_len meaning motion
rights n args h = (omega (arith, h.1), grind (arith, nat_tests, h.0, h.1), grind (arith, nat_tests, h.0, h.1))

ws : Moves 147 W
unfolding fixed_len meaning motion
ws n args h = (omega (arith, h.1), grind (arith, nat_tests, h.0, h.1), grind (arith, nat_tests, h.0, h.1))

xs : Moves 152 X
unfolding fixed_len meaning motion
xs n args h = (omega (arith, h.1), grind (arith, nat_tests, h.0, h.1), grind (arith, nat_tests, h.0, h.1))

downs : Moves 156 Down
unfolding fixed_len meaning motion
downs n args h = (omega (arith, h.1), grind (arith, nat_tests, h.0, h.1), grind (arith, nat_tests, h.0, h.1))

ys : Moves 161 Y
unfolding fixed_len meaning motion
ys n args h = (omega (arith, h.1), grind (arith, nat_tests, h.0, h.1), grind (arith, nat_tests, h.0, h.1))

zs : Moves 166 Z
unfolding fixed_len meaning motion
zs n args h = (omega (arith, h.1), grind (arith, nat_tests, h.0, h.1), grind (arith, nat_tests, h.0, h.1))

moved : (b : ℕ) (kind : ℤ → Command) (q : ℤ) → Moves b kind → IsWord q → Spell (kind q) (with_move b q)
moved b kind q moves w =
    let n = move_width q in
    let args = bytes_of n q in
    let m = moves n args (move_widths q) in (
      omega (arith, m.0),
      omega (arith, length_of n q, m.1, no_text (b + n) args (inl (omega (arith, m.0)))),
      m.2 ∙ ap kind (move_back q w),
    )

-- ---- codes and font numbers

abbrev Codes : ℕ → (ℤ → Command) → Type 0
Codes b kind = (n : ℕ) (args : List ℕ) → IsWidth n → (b + n < 239) × (fixed_len (b + n) ≡ n) × (meaning (b + n) args ≡ kind (code n args))

sets : Codes 127 Set
unfolding fixed_len meaning low
sets n args h = (omega (arith, h.1), grind (arith, nat_tests, h.0, h.1), grind (arith, nat_tests, h.0, h.1))

puts : Codes 132 Put
unfolding fixed_len meaning low
puts n args h = (omega (arith, h.1), grind (arith, nat_tests, h.0, h.1), grind (arith, nat_tests, h.0, h.1))

fonts : Codes 234 Fnt
unfolding fixed_len meaning high
fonts n args h = (omega (arith, h.1), grind (arith, nat_tests, h.0, h.1), grind (arith, nat_tests, h.0, h.1))

coded : (b : ℕ) (kind : ℤ → Command) (c : ℤ) → Codes b kind → IsWord c → Spell (kind c) (with_code b c)
coded b kind c codes w =
    let n = code_width c in
    let args = bytes_of n c in
    let m = codes n args (code_widths c) in (
      omega (arith, m.0),
      omega (arith, length_of n c, m.1, no_text (b + n) args (inl (omega (arith, m.0)))),
      m.2 ∙ ap kind (code_back c w),
    )

set : (c : ℤ) → IsWord c → Spell (Set c) (set_bytes c)
set c w = by c w (lies_below 128 c) refl
  where
    small : (m : ℕ) → m < 128 → Spell (Set (pos m)) (m ∷ [])
    small m h = (omega arith, omega (arith, set_len m h, no_text m [] (inl (omega arith))), sym (set_is m h))

    by : (c : ℤ) → IsWord c → (b : Bool) → lies_below 128 c ≡ b → Spell (Set c) (if b then cast_unsigned w32 c ∷ [] else with_code 127 c)
    by (pos m) w true e = small m (ltb-true m 128 e)
    by (negsuc m) w true e = absurd cc
    by c w false e = coded 127 Set c sets w

font : (k : ℤ) → IsWord k → Spell (Fnt k) (font_bytes k)
font k w = by k w (lies_below 64 k) refl
  where
    small : (m : ℕ) → m < 64 → Spell (Fnt (pos m)) ((171 + m) ∷ [])
    small m h =
        let same : 171 + m - 171 ≡ m = omega arith in
        (omega arith, omega (arith, fnt_len (171 + m) (omega arith) (omega arith), no_text (171 + m) [] (inl (omega arith))), sym (fnt_is (171 + m) (omega arith) (omega arith)) ∙ ap (λ (n : ℕ). Fnt (pos n)) same)

    by : (k : ℤ) → IsWord k → (b : Bool) → lies_below 64 k ≡ b → Spell (Fnt k) (if b then (171 + cast_unsigned w32 k) ∷ [] else with_code 234 k)
    by (pos m) w true e = small m (ltb-true m 64 e)
    by (negsuc m) w true e = absurd cc
    by k w false e = coded 234 Fnt k fonts w

-- ---- rules and pages

set_rule : (a b : ℤ) → IsWord a → IsWord b → Spell (SetRule a b) (132 ∷ words_of (a ∷ b ∷ []))
unfolding fixed_len text_len meaning low
set_rule a b v w = let p = pair_back a b v w in (omega arith, length_words (a ∷ b ∷ []), (λ i. SetRule (p.0 i) (p.1 i)))

put_rule : (a b : ℤ) → IsWord a → IsWord b → Spell (PutRule a b) (137 ∷ words_of (a ∷ b ∷ []))
unfolding fixed_len text_len meaning low
put_rule a b v w = let p = pair_back a b v w in (omega arith, length_words (a ∷ b ∷ []), (λ i. PutRule (p.0 i) (p.1 i)))

bop : (zs : List ℤ) (z : ℤ) → length zs ≡ 10 → All IsWord zs → IsWord z → Spell (Bop zs z) (139 ∷ (words_of zs ++ bytes_of 4 z))
unfolding fixed_len text_len meaning low
bop zs z e v w =
    let many : length (words_of zs) ≡ 40 = omega (arith, length_words zs) in
    let p = counts_back zs (bytes_of 4 z) e v in
    let q = word_last 40 (words_of zs) z many w in
    (omega arith, omega (arith, many, length-append (words_of zs) (bytes_of 4 z), length_of 4 z), (λ i. Bop (p i) (q i)))

-- ---- specials

xxx_is : (n : ℕ) (args : List ℕ) → IsWidth n → (fixed_len (238 + n) ≡ n) × (text_len (238 + n) args ≡ unsigned 0 n args) × (meaning (238 + n) args ≡ Xxx (drop n args))
unfolding fixed_len text_len meaning high
xxx_is n args h = (grind (arith, nat_tests, h.0, h.1), grind (arith, nat_tests, h.0, h.1), grind (arith, nat_tests, h.0, h.1))

xxx : (text : List ℕ) → length text < 4294967296 → Spell (Xxx text) (((238 + length_width (length text)) ∷ big_bytes (length_width (length text)) (length text)) ++ text)
xxx text h =
    let n = length_width (length text) in
    let front = big_bytes n (length text) in
    let width = length_widths (length text) in
    let m = xxx_is n (front ++ text) width in
    let told : unsigned 0 n (front ++ text) ≡ length text = unsigned_before 0 n front text (omega (arith, length_big n (length text))) ∙ length_back (length text) h in (
      omega (arith, width.1),
      omega (arith, length-append front text, length_big n (length text), m.0, m.1, told),
      m.2 ∙ ap Xxx (drop_at front text n (length_big n (length text))),
    )

-- ---- definitions

def_is : (n : ℕ) (args : List ℕ) → IsWidth n
    → (fixed_len (242 + n) ≡ n + 14) × (text_len (242 + n) args ≡ slice_index args (n + 12) + slice_index args (n + 13)) × (meaning (242 + n) args ≡ FntDef (definition n args))
def_is n args h =
    let same : 242 + n - 242 ≡ n = omega arith in
    let low : 243 ≤ 242 + n = omega (arith, h.0) in
    let high : 242 + n < 247 = omega (arith, h.1) in (
      len_of_def (242 + n) low high ∙ ap (λ (m : ℕ). m + 14) same,
      text_of_def (242 + n) args low high ∙ ap (λ (m : ℕ). slice_index args (m + 12) + slice_index args (m + 13)) same,
      meaning_of_def (242 + n) args low high ∙ ap (λ (m : ℕ). FntDef (definition m args)) same,
    )

-- a byte behind others
byte_behind : (xs ys : List ℕ) (at more : ℕ) → at ≡ length xs + more → slice_index (xs ++ ys) at ≡ slice_index ys more
byte_behind xs ys at more e = ap (λ (i : ℕ). slice_index (xs ++ ys) i) e ∙ get_or-append-add xs ys more 0

define : (d : Definition) → DefinitionHasRoom d → Spell (FntDef d) (definition_bytes d)
unfolding definition
define d h =
    let n = code_width d.k in
    let width = code_widths d.k in
    let f0 = bytes_of n d.k in
    let f1 = f0 ++ big_bytes 4 d.checksum in
    let f2 = f1 ++ bytes_of 4 d.size in
    let f3 = f2 ++ bytes_of 4 d.design in
    let lens = d.area ∷ (length d.name - d.area) ∷ [] in
    let f4 = f3 ++ lens in
    let args = f4 ++ d.name in
    let l0 : length f0 ≡ n = length_of n d.k in
    let l1 : length f1 ≡ n + 4 = omega (arith, l0, length-append f0 (big_bytes 4 d.checksum), length_big 4 d.checksum) in
    let l2 : length f2 ≡ n + 8 = omega (arith, l1, length-append f1 (bytes_of 4 d.size), length_of 4 d.size) in
    let l3 : length f3 ≡ n + 12 = omega (arith, l2, length-append f2 (bytes_of 4 d.design), length_of 4 d.design) in
    let l4 : length f4 ≡ n + 14 = omega (arith, l3, length-append f3 lens) in
    let m = def_is n args width in
    let k : code n args ≡ d.k =
    code_before n f4 d.name width.1 (omega arith) ∙ code_before n f3 lens width.1 (omega arith) ∙ code_before n f2 (bytes_of 4 d.design) width.1 (omega arith)
    ∙ code_before n f1 (bytes_of 4 d.size) width.1 (omega arith) ∙ code_before n f0 (big_bytes 4 d.checksum) width.1 (omega arith) ∙ code_back d.k h.0 in
    let checksum : unsigned n 4 args ≡ d.checksum =
    unsigned_before n 4 f4 d.name (omega arith) ∙ unsigned_before n 4 f3 lens (omega arith) ∙ unsigned_before n 4 f2 (bytes_of 4 d.design) (omega arith)
    ∙ unsigned_before n 4 f1 (bytes_of 4 d.size) (omega arith) ∙ unsigned_last n 4 f0 d.checksum l0 h.1 in
    let size : signed (n + 4) 4 args ≡ d.size =
    signed_before (n + 4) 4 f4 d.name (omega arith) ∙ signed_before (n + 4) 4 f3 lens (omega arith) ∙ signed_before (n + 4) 4 f2 (bytes_of 4 d.design) (omega arith)
    ∙ word_last (n + 4) f1 d.size l1 h.2 in
    let design : signed (n + 8) 4 args ≡ d.design =
    signed_before (n + 8) 4 f4 d.name (omega arith) ∙ signed_before (n + 8) 4 f3 lens (omega arith) ∙ word_last (n + 8) f2 d.design l2 h.3 in
    let area : slice_index args (n + 12) ≡ d.area = get_or_append_left f4 d.name 0 (n + 12) (omega arith) ∙ byte_behind f3 lens (n + 12) 0 (omega arith) in
    let others : slice_index args (n + 13) ≡ length d.name - d.area = get_or_append_left f4 d.name 0 (n + 13) (omega arith) ∙ byte_behind f3 lens (n + 13) 1 (omega arith) in
    let name : drop (n + 14) args ≡ d.name = drop_at f4 d.name (n + 14) l4 in (
      omega (arith, width.1),
      omega (arith, m.0, m.1, area, others, l4, length-append f4 d.name, h.5),
      m.2 ∙ (λ i. FntDef (record { k = k i; checksum = checksum i; size = size i; design = design i; area = area i; name = name i })),
    )

-- ---- what stands round the pages

pre : (h : Preamble) → PreambleHasRoom h → Spell (Pre h) (preamble_bytes h ++ h.comment)
unfolding fixed_len text_len meaning high preamble
pre h r =
    let f0 = h.id ∷ [] in
    let f1 = f0 ++ bytes_of 4 h.num in
    let f2 = f1 ++ bytes_of 4 h.den in
    let f3 = f2 ++ bytes_of 4 h.mag in
    let len = length h.comment ∷ [] in
    let f4 = f3 ++ len in
    let args = f4 ++ h.comment in
    let l1 : length f1 ≡ 5 = omega (arith, length-append f0 (bytes_of 4 h.num), length_of 4 h.num) in
    let l2 : length f2 ≡ 9 = omega (arith, l1, length-append f1 (bytes_of 4 h.den), length_of 4 h.den) in
    let l3 : length f3 ≡ 13 = omega (arith, l2, length-append f2 (bytes_of 4 h.mag), length_of 4 h.mag) in
    let l4 : length f4 ≡ 14 = omega (arith, l3, length-append f3 len) in
    let id : slice_index args 0 ≡ h.id =
    get_or_append_left f4 h.comment 0 0 (omega arith) ∙ get_or_append_left f3 len 0 0 (omega arith) ∙ get_or_append_left f2 (bytes_of 4 h.mag) 0 0 (omega arith)
    ∙ get_or_append_left f1 (bytes_of 4 h.den) 0 0 (omega arith) in
    let num : signed 1 4 args ≡ h.num =
    signed_before 1 4 f4 h.comment (omega arith) ∙ signed_before 1 4 f3 len (omega arith) ∙ signed_before 1 4 f2 (bytes_of 4 h.mag) (omega arith)
    ∙ signed_before 1 4 f1 (bytes_of 4 h.den) (omega arith) ∙ word_last 1 f0 h.num refl r.1 in
    let den : signed 5 4 args ≡ h.den =
    signed_before 5 4 f4 h.comment (omega arith) ∙ signed_before 5 4 f3 len (omega arith) ∙ signed_before 5 4 f2 (bytes_of 4 h.mag) (omega arith) ∙ word_last 5 f1 h.den l1 r.2 in
    let mag : signed 9 4 args ≡ h.mag = signed_before 9 4 f4 h.comment (omega arith) ∙ signed_before 9 4 f3 len (omega arith) ∙ word_last 9 f2 h.mag l2 r.3 in
    let told : slice_index args 13 ≡ length h.comment = get_or_append_left f4 h.comment 0 13 (omega arith) ∙ byte_behind f3 len 13 0 (omega arith) in
    let comment : drop 14 args ≡ h.comment = drop_at f4 h.comment 14 l4 in (
      omega arith,
      omega (arith, told, l4, length-append f4 h.comment),
      (λ i. Pre (record { id = id i; num = num i; den = den i; mag = mag i; comment = comment i })),
    )

post : (t : Postamble) → PostambleHasRoom t → Spell (Post t) (postamble_bytes t)
unfolding fixed_len text_len meaning high postamble
post t r =
    let f1 = bytes_of 4 t.back in
    let num = bytes_of 4 t.num in
    let den = bytes_of 4 t.den in
    let mag = bytes_of 4 t.mag in
    let tall = bytes_of 4 t.tall in
    let wide = bytes_of 4 t.wide in
    let depth = big_bytes 2 t.depth in
    let pages = big_bytes 2 t.pages in
    let f2 = f1 ++ num in
    let f3 = f2 ++ den in
    let f4 = f3 ++ mag in
    let f5 = f4 ++ tall in
    let f6 = f5 ++ wide in
    let f7 = f6 ++ depth in
    let args = f7 ++ pages in
    let l1 : length f1 ≡ 4 = length_of 4 t.back in
    let l2 : length f2 ≡ 8 = omega (arith, l1, length-append f1 num, length_of 4 t.num) in
    let l3 : length f3 ≡ 12 = omega (arith, l2, length-append f2 den, length_of 4 t.den) in
    let l4 : length f4 ≡ 16 = omega (arith, l3, length-append f3 mag, length_of 4 t.mag) in
    let l5 : length f5 ≡ 20 = omega (arith, l4, length-append f4 tall, length_of 4 t.tall) in
    let l6 : length f6 ≡ 24 = omega (arith, l5, length-append f5 wide, length_of 4 t.wide) in
    let l7 : length f7 ≡ 26 = omega (arith, l6, length-append f6 depth, length_big 2 t.depth) in
    let behind : (at : ℕ) → at + 4 ≤ 24 → signed at 4 args ≡ signed at 4 f6 = λ at h. signed_before at 4 f7 pages (omega arith) ∙ signed_before at 4 f6 depth (omega arith) in
    let p0 : signed 0 4 args ≡ t.back =
    behind 0 (omega arith) ∙ signed_before 0 4 f5 wide (omega arith) ∙ signed_before 0 4 f4 tall (omega arith) ∙ signed_before 0 4 f3 mag (omega arith)
    ∙ signed_before 0 4 f2 den (omega arith) ∙ signed_before 0 4 f1 num (omega arith) ∙ four_bytes t.back r.0 in
    let p1 : signed 4 4 args ≡ t.num =
    behind 4 (omega arith) ∙ signed_before 4 4 f5 wide (omega arith) ∙ signed_before 4 4 f4 tall (omega arith) ∙ signed_before 4 4 f3 mag (omega arith)
    ∙ signed_before 4 4 f2 den (omega arith) ∙ word_last 4 f1 t.num l1 r.1 in
    let p2 : signed 8 4 args ≡ t.den =
    behind 8 (omega arith) ∙ signed_before 8 4 f5 wide (omega arith) ∙ signed_before 8 4 f4 tall (omega arith) ∙ signed_before 8 4 f3 mag (omega arith) ∙ word_last 8 f2 t.den l2 r.2 in
    let p3 : signed 12 4 args ≡ t.mag = behind 12 (omega arith) ∙ signed_before 12 4 f5 wide (omega arith) ∙ signed_before 12 4 f4 tall (omega arith) ∙ word_last 12 f3 t.mag l3 r.3 in
    let p4 : signed 16 4 args ≡ t.tall = behind 16 (omega arith) ∙ signed_before 16 4 f5 wide (omega arith) ∙ word_last 16 f4 t.tall l4 r.4 in
    let p5 : signed 20 4 args ≡ t.wide = behind 20 (omega arith) ∙ word_last 20 f5 t.wide l5 r.5 in
    let p6 : unsigned 24 2 args ≡ t.depth = unsigned_before 24 2 f7 pages (omega arith) ∙ unsigned_last 24 2 f6 t.depth l6 r.6 in
    let p7 : unsigned 26 2 args ≡ t.pages = unsigned_last 26 2 f7 t.pages l7 r.7 in (
      omega arith,
      omega (arith, l7, length-append f7 pages, length_big 2 t.pages),
      (λ i. Post (record { back = p0 i; num = p1 i; den = p2 i; mag = p3 i; tall = p4 i; wide = p5 i; depth = p6 i; pages = p7 i })),
    )

post_post : (back id : ℕ) → back < 4294967296 → Spell (PostPost back id) (249 ∷ (big_bytes 4 back ++ (id ∷ [])))
unfolding fixed_len text_len meaning high
post_post back id h =
    let front = big_bytes 4 back in
    let len = length_big 4 back in
    let b : unsigned 0 4 (front ++ (id ∷ [])) ≡ back = unsigned_before 0 4 front (id ∷ []) (omega (arith, len)) ∙ unsigned_last 0 4 [] back refl h in
    let i : slice_index (front ++ (id ∷ [])) 4 ≡ id = byte_behind front (id ∷ []) 4 0 (omega (arith, len)) in
    (omega arith, omega (arith, len, length-append front (id ∷ [])), (λ j. PostPost (b j) (i j)))

-- ---- all of them

whole : (cmd : Command) (bytes : List ℕ) → Spell cmd bytes → Spell cmd (bytes ++ [])
whole cmd bytes s = subst (λ (xs : List ℕ). Spell cmd xs) (sym (append-nil bytes)) s

pub spelled : (cmd : Command) → HasRoom cmd → Spell cmd (shortest_whole cmd)
unfolding shortest fixed_len text_len meaning low motion
spelled (Set c) h = whole (Set c) (set_bytes c) (set c h)
spelled (SetRule a b) h = whole (SetRule a b) (132 ∷ words_of (a ∷ b ∷ [])) (set_rule a b h.0 h.1)
spelled (Put c) h = whole (Put c) (with_code 132 c) (coded 132 Put c puts h)
spelled (PutRule a b) h = whole (PutRule a b) (137 ∷ words_of (a ∷ b ∷ [])) (put_rule a b h.0 h.1)
spelled Nop h = (omega arith, refl, refl)
spelled (Bop counts back) h = whole (Bop counts back) (139 ∷ (words_of counts ++ bytes_of 4 back)) (bop counts back h.0 h.1 h.2)
spelled Eop h = (omega arith, refl, refl)
spelled Push h = (omega arith, refl, refl)
spelled Pop h = (omega arith, refl, refl)
spelled (Right q) h = whole (Right q) (with_move 142 q) (moved 142 Right q rights h)
spelled W0 h = (omega arith, refl, refl)
spelled (W q) h = whole (W q) (with_move 147 q) (moved 147 W q ws h)
spelled X0 h = (omega arith, refl, refl)
spelled (X q) h = whole (X q) (with_move 152 q) (moved 152 X q xs h)
spelled (Down q) h = whole (Down q) (with_move 156 q) (moved 156 Down q downs h)
spelled Y0 h = (omega arith, refl, refl)
spelled (Y q) h = whole (Y q) (with_move 161 q) (moved 161 Y q ys h)
spelled Z0 h = (omega arith, refl, refl)
spelled (Z q) h = whole (Z q) (with_move 166 q) (moved 166 Z q zs h)
spelled (Fnt k) h = whole (Fnt k) (font_bytes k) (font k h)
spelled (Xxx text) h = xxx text h
spelled (FntDef d) h = whole (FntDef d) (definition_bytes d) (define d h)
spelled (Pre p) h = pre p h
spelled (Post t) h = whole (Post t) (postamble_bytes t) (post t h)
spelled (PostPost back id) h = whole (PostPost back id) (249 ∷ (big_bytes 4 back ++ (id ∷ []))) (post_post back id h.0)

-- The length of a command's text is known from its fixed operands, whatever follows.
use Rattle.std.proofs.Common.{pos, ◌≡◌, ◌≤◌, ◌<◌, ◌+◌, ◌-◌, ℕ, suc, List, [], ◌∷◌, ◌++◌, length, slice_index, slice_range, take, drop, refl, sym, ap, subst, ◌∙◌, ◌⊎◌, inl, inr, arith, length-append}
use Rattle.std.proofs.lemmas.Bool.{cases_lt}
use Rattle.std.proofs.lemmas.Bool.Decides.{nat_tests}
use Rattle.std.proofs.lemmas.List.{get_or_append_left, drop_more, take-append-drop, length-take-le, length-drop, take_at, take_rest}
use Rattle.byteorder.specs.Endian.{big_number}
use Rattle.byteorder.specs.Numbers.{big_from-append}
use Rattle.dv_base.specs.Numbers.{unsigned}
use Rattle.dvi_ops.specs.Command.{Command}
use Rattle.dvi_ops.specs.Command.Command.{FntDef, Set, Fnt, Nop, Push, Pop, W0, X0, Y0, Z0}
use Rattle.dvi_ops.specs.Spelling.{fixed_len, text_len, extent, meaning, low, motion, high, definition, Spell, byte_at, behind}
use Rattle.dvi_ops.specs.declared.cmd.OpFault.{OpFault}
use Rattle.dvi_ops.specs.declared.cmd.OpFault.TheVariants as fault
use Rattle.dvi_ops.specs.View.{FaultAt, NoSpelling}
use Rattle.dvi_ops.specs.Laws.{OneSpelling}

pub no_text : (op : ℕ) (xs : List ℕ) → (op < 239) ⊎ (248 ≤ op) → text_len op xs ≡ 0
unfolding text_len
no_text op xs h = elim h [ inl a ↦ grind (arith, nat_tests) | inr a ↦ grind (arith, nat_tests) ]

text_of_xxx : (op : ℕ) (xs : List ℕ) → 239 ≤ op → op < 243 → text_len op xs ≡ big_number (op - 238) xs
unfolding text_len unsigned
text_of_xxx op xs a b = grind (arith, nat_tests)

pub text_of_def : (op : ℕ) (xs : List ℕ) → 243 ≤ op → op < 247 → text_len op xs ≡ slice_index xs (op - 242 + 12) + slice_index xs (op - 242 + 13)
unfolding text_len
text_of_def op xs a b = grind (arith, nat_tests)

pub text_of_pre : (op : ℕ) (xs : List ℕ) → 247 ≤ op → op < 248 → text_len op xs ≡ slice_index xs 13
unfolding text_len
text_of_pre op xs a b = grind (arith, nat_tests)

len_of_xxx : (op : ℕ) → 239 ≤ op → op < 243 → fixed_len op ≡ op - 238
unfolding fixed_len
len_of_xxx op a b = grind (arith, nat_tests)

pub len_of_def : (op : ℕ) → 243 ≤ op → op < 247 → fixed_len op ≡ op - 242 + 14
unfolding fixed_len
len_of_def op a b = grind (arith, nat_tests)

len_of_pre : (op : ℕ) → 247 ≤ op → op < 248 → fixed_len op ≡ 14
unfolding fixed_len
len_of_pre op a b = grind (arith, nat_tests)

pub meaning_of_def : (op : ℕ) (args : List ℕ) → 243 ≤ op → op < 247 → meaning op args ≡ FntDef (definition (op - 242) args)
unfolding meaning high
meaning_of_def op args a b = grind (arith, nat_tests)

pub meaning_of_low : (op : ℕ) (args : List ℕ) → op < 143 → meaning op args ≡ low op args
unfolding meaning
meaning_of_low op args a = grind (arith, nat_tests)

pub meaning_of_high : (op : ℕ) (args : List ℕ) → 171 ≤ op → meaning op args ≡ high op args
unfolding meaning
meaning_of_high op args a = grind (arith, nat_tests)

pub meaning_of_move : (op : ℕ) (args : List ℕ) → 143 ≤ op → op < 171 → meaning op args ≡ motion op args
unfolding meaning
meaning_of_move op args a b = grind (arith, nat_tests)

-- bytes that follow don't change it
pub text_len-append : (op : ℕ) (xs ys : List ℕ) → fixed_len op ≤ length xs → text_len op (xs ++ ys) ≡ text_len op xs
text_len-append op xs ys h =
    elim (cases_lt op 239) [
      | inl a ↦ no_text op (xs ++ ys) (inl a) ∙ sym (no_text op xs (inl a))
      | inr a ↦ elim (cases_lt op 243) [
        | inl b ↦ text_of_xxx op (xs ++ ys) a b ∙ big_from-append (op - 238) xs ys (omega (arith, len_of_xxx op a b)) ∙ sym (text_of_xxx op xs a b)
        | inr b ↦ elim (cases_lt op 247) [
          | inl d ↦
              let w = len_of_def op b d in
              let p = get_or_append_left xs ys 0 (op - 242 + 12) (omega arith) in
              let q = get_or_append_left xs ys 0 (op - 242 + 13) (omega arith) in
              text_of_def op (xs ++ ys) b d ∙ rw (p, q) (sym (text_of_def op xs b d))
          | inr d ↦ elim (cases_lt op 248) [
            | inl e ↦ text_of_pre op (xs ++ ys) d e ∙ get_or_append_left xs ys 0 13 (omega (arith, len_of_pre op d e)) ∙ sym (text_of_pre op xs d e)
            | inr e ↦ no_text op (xs ++ ys) (inr e) ∙ sym (no_text op xs (inr e))
          ]
        ]
      ]
    ]

pub extent-append : (op : ℕ) (xs ys : List ℕ) → fixed_len op ≤ length xs → extent op (xs ++ ys) ≡ extent op xs
extent-append op xs ys h = ap (λ n. fixed_len op + n) (text_len-append op xs ys h)

-- a command that ends within the bytes is spelled there; rest is what the code calls the bytes behind op
pub spelled : (bytes : List ℕ) (at n : ℕ) (rest : List ℕ) (cmd : Command) → rest ≡ take (length bytes - (at + 1)) (drop (at + 1) bytes) → at < length bytes → byte_at bytes at < 250 → n ≡ extent (byte_at bytes at) rest → n ≤ length rest → cmd ≡ meaning (byte_at bytes at) (take n rest) → (at + 1 + n ≤ length bytes) × Spell cmd (slice_range bytes at (at + 1 + n))
spelled bytes at n rest cmd r h low e fits m =
    let op = byte_at bytes at in
    let is : rest ≡ behind bytes at = r ∙ take_rest bytes (at + 1) in
    let long : length rest ≡ length bytes - (at + 1) = ap length is ∙ length-drop (at + 1) bytes in
    let width : at + 1 + n - at ≡ suc n = omega arith in
    let whole : slice_range bytes at (at + 1 + n) ≡ op ∷ take n rest =
    ap (λ k. take k (drop at bytes)) width ∙ ap (λ (xs : List ℕ). take (suc n) xs) (drop_more bytes at 0 h) ∙ ap (λ (xs : List ℕ). op ∷ take n xs) (sym is) in
    let len : length (take n rest) ≡ n = length-take-le n rest fits in
    let few : fixed_len op ≤ length (take n rest) = omega arith in
    let same : extent op rest ≡ extent op (take n rest) = ap (extent op) (sym (take-append-drop n rest)) ∙ extent-append op (take n rest) (drop n rest) few in
    (omega arith, subst (λ (bs : List ℕ). Spell cmd bs) (sym whole) (low, len ∙ e ∙ same, sym m))

-- so is one without operands
pub spelled_single : (bytes : List ℕ) (at : ℕ) (cmd : Command) → at < length bytes → byte_at bytes at < 235 → fixed_len (byte_at bytes at) ≡ 0 → cmd ≡ meaning (byte_at bytes at) [] → (at + 1 ≤ length bytes) × Spell cmd (slice_range bytes at (at + 1))
spelled_single bytes at cmd h low none m =
    let op = byte_at bytes at in
    let rest = take (length bytes - (at + 1)) (drop (at + 1) bytes) in
    let s = spelled bytes at 0 rest cmd refl h (omega (arith, low)) (omega (arith, none, no_text op rest (inl (omega (arith, low))))) (omega arith) m in
    let next : at + 1 + 0 ≡ at + 1 = omega arith in
    subst (λ (n : ℕ). (n ≤ length bytes) × Spell cmd (slice_range bytes at n)) next s

-- the commands of one byte
abbrev pub Single : List ℕ → ℕ → Command → Type 0
Single bytes at cmd = (at < at + 1) × (at + 1 ≤ length bytes) × Spell cmd (slice_range bytes at (at + 1))

single : (bytes : List ℕ) (at op : ℕ) (cmd : Command) → at < length bytes → byte_at bytes at ≡ op → op < 235 → fixed_len op ≡ 0 → cmd ≡ meaning op [] → Single bytes at cmd
single bytes at op cmd h e low none m =
    let s = spelled_single bytes at cmd h (omega (arith, e, low)) (ap fixed_len e ∙ none) (m ∙ ap (λ (n : ℕ). meaning n []) (sym e)) in
    (omega arith, s.0, s.1)

pub set_len : (op : ℕ) → op < 128 → fixed_len op ≡ 0
unfolding fixed_len
set_len op h = grind (arith, nat_tests)

pub set_is : (op : ℕ) → op < 128 → Set (pos op) ≡ meaning op []
unfolding meaning low
set_is op h = grind (arith, nat_tests)

pub fnt_len : (op : ℕ) → 171 ≤ op → op < 235 → fixed_len op ≡ 0
unfolding fixed_len
fnt_len op h k = grind (arith, nat_tests)

pub fnt_is : (op : ℕ) → 171 ≤ op → op < 235 → Fnt (pos (op - 171)) ≡ meaning op []
unfolding meaning high
fnt_is op h k = grind (arith, nat_tests)

pub set_single : (bytes : List ℕ) (at : ℕ) → at < length bytes → byte_at bytes at < 128 → Single bytes at (Set (pos (byte_at bytes at)))
set_single bytes at h k = single bytes at (byte_at bytes at) (Set (pos (byte_at bytes at))) h refl (omega (arith, k)) (set_len (byte_at bytes at) k) (set_is (byte_at bytes at) k)

pub fnt_single : (bytes : List ℕ) (at : ℕ) → at < length bytes → 171 ≤ byte_at bytes at → byte_at bytes at < 235 → Single bytes at (Fnt (pos (byte_at bytes at - 171)))
fnt_single bytes at h a b = single bytes at (byte_at bytes at) (Fnt (pos (byte_at bytes at - 171))) h refl b (fnt_len (byte_at bytes at) a b) (fnt_is (byte_at bytes at) a b)

pub nop_single : (bytes : List ℕ) (at : ℕ) → at < length bytes → byte_at bytes at ≡ 138 → Single bytes at Nop
unfolding meaning low fixed_len
nop_single bytes at h e = single bytes at 138 Nop h e (omega arith) refl refl

pub push_single : (bytes : List ℕ) (at : ℕ) → at < length bytes → byte_at bytes at ≡ 141 → Single bytes at Push
unfolding meaning low fixed_len
push_single bytes at h e = single bytes at 141 Push h e (omega arith) refl refl

pub pop_single : (bytes : List ℕ) (at : ℕ) → at < length bytes → byte_at bytes at ≡ 142 → Single bytes at Pop
unfolding meaning low fixed_len
pop_single bytes at h e = single bytes at 142 Pop h e (omega arith) refl refl

pub w0_single : (bytes : List ℕ) (at : ℕ) → at < length bytes → byte_at bytes at ≡ 147 → Single bytes at W0
unfolding meaning motion fixed_len
w0_single bytes at h e = single bytes at 147 W0 h e (omega arith) refl refl

pub x0_single : (bytes : List ℕ) (at : ℕ) → at < length bytes → byte_at bytes at ≡ 152 → Single bytes at X0
unfolding meaning motion fixed_len
x0_single bytes at h e = single bytes at 152 X0 h e (omega arith) refl refl

pub y0_single : (bytes : List ℕ) (at : ℕ) → at < length bytes → byte_at bytes at ≡ 161 → Single bytes at Y0
unfolding meaning motion fixed_len
y0_single bytes at h e = single bytes at 161 Y0 h e (omega arith) refl refl

pub z0_single : (bytes : List ℕ) (at : ℕ) → at < length bytes → byte_at bytes at ≡ 166 → Single bytes at Z0
unfolding meaning motion fixed_len
z0_single bytes at h e = single bytes at 166 Z0 h e (omega arith) refl refl

-- two fronts of one list that have one length are one
fronts : (a b x y : List ℕ) → length a ≡ length b → a ++ x ≡ b ++ y → a ≡ b
fronts a b x y h e = sym (take_at a x (length a) refl) ∙ ap (take (length a)) e ∙ take_at b y (length a) (sym h)

pub one_spelling : OneSpelling
one_spelling [] b c d x y s t e = absurd s
one_spelling (o ∷ a) [] c d x y s t e = absurd t
one_spelling (o ∷ a) (p ∷ b) c d x y s t e =
    let heads : o ≡ p = cc in
    let tails : a ++ x ≡ b ++ y = cc in
    let of_a : length a ≡ extent o (a ++ x) = s.1 ∙ sym (extent-append o a x (omega (arith, s.1))) in
    let of_b : length b ≡ extent p (b ++ y) = t.1 ∙ sym (extent-append p b y (omega (arith, t.1))) in
    let same : a ≡ b = fronts a b x y (of_a ∙ (ap (λ k. extent k (a ++ x)) heads ∙ ap (extent p) tails) ∙ sym of_b) tails in
    (cc, sym s.2 ∙ (ap (λ k. meaning k a) heads ∙ ap (meaning p) same) ∙ t.2)

-- ---- where there is a fault, no spelling stands

not_there : (e : OpFault) (bytes : List ℕ) (at op : ℕ) (args rest : List ℕ) (cmd : Command) → FaultAt bytes at e → byte_at bytes at ≡ op → behind bytes at ≡ args ++ rest → Spell cmd (op ∷ args) → ⊥
not_there (fault.Undefined p) bytes at op args rest cmd f hd tl s = omega (arith, f.1, s.0)
not_there (fault.Short p) bytes at op args rest cmd f hd tl s =
    let few : fixed_len op ≤ length args = omega (arith, s.1) in
    let same : extent (byte_at bytes at) (behind bytes at) ≡ length args = ap (λ k. extent k (behind bytes at)) hd ∙ ap (extent op) tl ∙ extent-append op args rest few ∙ sym s.1 in
    omega (arith, f.1.1, same, ap length tl, length-append args rest)

pub no_spelling : (bytes : List ℕ) (at : ℕ) (e : OpFault) → at < length bytes → FaultAt bytes at e → NoSpelling bytes at
no_spelling bytes at e h f cmd [] rest d s = s
no_spelling bytes at e h f cmd (op ∷ args) rest d s =
    let cells : byte_at bytes at ∷ behind bytes at ≡ op ∷ (args ++ rest) = sym (drop_more bytes at 0 h) ∙ d in
    not_there e bytes at op args rest cmd f (let x : byte_at bytes at ≡ op = cc in x) (let x : behind bytes at ≡ args ++ rest = cc in x) s

pub past : (bytes : List ℕ) (at n : ℕ) (rest : List ℕ) → rest ≡ take (length bytes - (at + 1)) (drop (at + 1) bytes) → at < length bytes → byte_at bytes at < 250 → n ≡ extent (byte_at bytes at) rest → length rest < n → NoSpelling bytes at
past bytes at n rest r h low e f =
    let is : rest ≡ behind bytes at = r ∙ take_rest bytes (at + 1) in
    no_spelling bytes at (fault.Short at) h (refl, (low, omega (arith, e, ap (extent (byte_at bytes at)) is, ap length is)))

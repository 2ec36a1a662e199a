-- No spelling of a command is shorter than the shortest one.
use Rattle.std.proofs.Common.{◌≡◌, ◌≤◌, ◌<◌, ◌+◌, ◌-◌, ◌^◌, inl, inr, ◌⊎◌, ℕ, zero, suc, ℤ, pos, negsuc, ◌-ℤ◌, List, [], ◌∷◌, ◌++◌, length, slice_index, drop, Bool, true, false, nat_lt, if◌then◌else◌, refl, sym, ap, subst, ◌∙◌, arith, length-append, ltb-false}
use Rattle.std.proofs.lemmas.Bool.{cases_lt}
use Rattle.std.proofs.lemmas.Bool.Decides.{nat_tests}
use Rattle.std.proofs.lemmas.Int.{ints}
use Rattle.std.proofs.lemmas.List.{length-drop}
use Rattle.std.specs.Int.{cast_unsigned, w32}
use Rattle.byteorder.specs.Endian.{big_bytes, big_number, twos_complement}
use Rattle.byteorder.specs.Numbers.{big_from-lt}
use Rattle.dv_base.specs.Numbers.{unsigned, signed}
use Rattle.dvi_ops.specs.Command.{Command}
use Rattle.dvi_ops.specs.Command.Command.{Set, SetRule, Put, PutRule, Nop, Bop, Eop, Push, Pop, Right, W0, W, X0, X, Down, Y0, Y, Z0, Z, Fnt, Xxx, FntDef, Pre, Post, PostPost}
use Rattle.dvi_ops.specs.Spelling.{fixed_len, text_len, extent, meaning, low, motion, high, code, counts, definition, preamble, postamble, Spell}
use Rattle.dvi_ops.specs.Shortest.{lies_within, lies_below, code_width, move_width, length_width, bytes_of, words_of, with_code, with_move, set_bytes, font_bytes, definition_bytes, postamble_bytes, shortest, shortest_whole}
use Rattle.dvi_ops.specs.Laws.{ShortestSpelling}
use Rattle.dvi_ops.proofs.Texts.{len_of_def}
use Rattle.dvi_ops.proofs.Operands.{IsWidth, length_of, length_big, length_words}
use Rattle.dvi_ops.proofs.Shortness.{spelled}

abbrev pub AreBytes : List ℕ → Type 0
AreBytes xs = (i : ℕ) → slice_index xs i < 256

-- ---- a number of n bytes stands in n bytes

pub four : (P : ℕ → Type 0) → P 1 → P 2 → P 3 → P 4 → (n : ℕ) → IsWidth n → P n
four P a b c d zero h = absurd (omega (arith, h.0))
four P a b c d (suc zero) h = a
four P a b c d (suc (suc zero)) h = b
four P a b c d (suc (suc (suc zero))) h = c
four P a b c d (suc (suc (suc (suc zero)))) h = d
four P a b c d (suc (suc (suc (suc (suc n))))) h = absurd (omega (arith, h.1))

-- the widths of three tests
second : (a b c : Bool) → b ≡ true → (if a then 1 else if b then 2 else if c then 3 else 4) ≤ 2
second true b c e = omega arith
second false b c e = rw e (omega arith)

third : (a b c : Bool) → c ≡ true → (if a then 1 else if b then 2 else if c then 3 else 4) ≤ 3
third true b c e = omega arith
third false true c e = omega arith
third false false c e = rw e (omega arith)

first : (a b c : Bool) → a ≡ true → (if a then 1 else if b then 2 else if c then 3 else 4) ≤ 1
first a b c e = rw e (omega arith)

fourth : (a b c : Bool) → (if a then 1 else if b then 2 else if c then 3 else 4) ≤ 4
fourth true b c = omega arith
fourth false true c = omega arith
fourth false false true = omega arith
fourth false false false = omega arith

pub number_below : (n : ℕ) (args : List ℕ) → AreBytes args → unsigned 0 n args < 256 ^ n
unfolding unsigned
number_below n args b = big_from-lt 0 n args b

complement : (half full x : ℕ) → full ≡ half + half → x < full → lies_within half (if nat_lt x half then pos x else pos x -ℤ pos full) ≡ true
complement half full x d h = by (nat_lt x half) refl
  where
    by : (b : Bool) → nat_lt x half ≡ b → lies_within half (if b then pos x else pos x -ℤ pos full) ≡ true
    by true e = e
    by false e =
        let low : half ≤ x = ltb-false x half e in
        let is : pos x -ℤ pos full ≡ negsuc (full - suc x) = omega (arith, ints) in
        let t : nat_lt (full - suc x) half ≡ true = grind (arith, nat_tests) in
        ap (lies_within half) is ∙ t

short_move : (n : ℕ) (args : List ℕ) → IsWidth n → AreBytes args → move_width (signed 0 n args) ≤ n
unfolding signed
short_move n args h b =
    let size : (m : ℕ) → big_number m args < 256 ^ m = λ m. big_from-lt 0 m args b in
    four (λ (m : ℕ). move_width (twos_complement m (big_number m args)) ≤ m)
    (first _ _ _ (complement 128 256 (big_number 1 args) refl (size 1)))
    (second _ _ _ (complement 32768 65536 (big_number 2 args) refl (size 2)))
    (third _ _ _ (complement 8388608 16777216 (big_number 3 args) refl (size 3)))
    (fourth _ _ _) n h

below_test : (x m : ℕ) → x < m → nat_lt x m ≡ true
below_test x m h = grind (arith, nat_tests)

short_code : (n : ℕ) (args : List ℕ) → IsWidth n → AreBytes args → code_width (code n args) ≤ n
unfolding code
short_code n args h b =
    four (λ (m : ℕ). code_width (code m args) ≤ m)
    (first _ _ _ (below_test (unsigned 0 1 args) 256 (number_below 1 args b)))
    (second _ _ _ (below_test (unsigned 0 2 args) 65536 (number_below 2 args b)))
    (third _ _ _ (below_test (unsigned 0 3 args) 16777216 (number_below 3 args b)))
    (fourth _ _ _) n h

short_length : (n x : ℕ) → IsWidth n → x < 256 ^ n → length_width x ≤ n
short_length n x h l =
    four (λ (m : ℕ). x < 256 ^ m → length_width x ≤ m)
    (λ k. first _ _ _ (below_test x 256 k)) (λ k. second _ _ _ (below_test x 65536 k)) (λ k. third _ _ _ (below_test x 16777216 k)) (λ k. fourth _ _ _) n h l

-- ---- commands, by the number of bytes behind the operation byte

-- the shortest spelling has at most n bytes behind the operation byte
Least : ℕ → Command → Type 0
Least n c = length (shortest_whole c) ≤ suc n

-- of two commands by a test
test : (k n m : ℕ) (x y : Command) → (n < m → Least k x) → (m ≤ n → Least k y) → Least k (if nat_lt n m then x else y)
test k n m x y p q =
    elim (cases_lt n m) [
      | inl h ↦ (let e : nat_lt n m ≡ true = grind (arith, nat_tests) in rw e (p h))
      | inr h ↦ (let e : nat_lt n m ≡ false = grind (arith, nat_tests) in rw e (q h))
    ]

none_behind : (bytes : List ℕ) (n : ℕ) → length bytes ≤ n → length (bytes ++ []) ≤ n
none_behind bytes n h = omega (arith, length-append bytes [])

coded : (b : ℕ) (c : ℤ) → length (with_code b c) ≡ suc (code_width c)
coded b c = omega (arith, length_of (code_width c) c)

moved : (b n k : ℕ) (args : List ℕ) → IsWidth n → n ≤ k → AreBytes args → length (with_move b (signed 0 n args) ++ []) ≤ suc k
moved b n k args h l a =
    let q = signed 0 n args in
    none_behind (with_move b q) (suc k) (omega (arith, length_of (move_width q) q, short_move n args h a))

set_short : (c : ℤ) (k : ℕ) → code_width c ≤ k → Least k (Set c)
unfolding Least shortest
set_short c k h = none_behind (set_bytes c) (suc k) (by (lies_below 128 c))
  where
    by : (b : Bool) → length (if b then cast_unsigned w32 c ∷ [] else with_code 127 c) ≤ suc k
    by true = omega arith
    by false = omega (arith, coded 127 c)

set_single : (op k : ℕ) → op < 128 → Least k (Set (pos op))
unfolding Least shortest
set_single op k h = let t : nat_lt op 128 ≡ true = below_test op 128 h in rw t (omega arith)

font_short : (c : ℤ) (k : ℕ) → code_width c ≤ k → Least k (Fnt c)
unfolding Least shortest
font_short c k h = none_behind (font_bytes c) (suc k) (by (lies_below 64 c))
  where
    by : (b : Bool) → length (if b then (171 + cast_unsigned w32 c) ∷ [] else with_code 234 c) ≤ suc k
    by true = omega arith
    by false = omega (arith, coded 234 c)

font_single : (n k : ℕ) → n < 64 → Least k (Fnt (pos n))
unfolding Least shortest
font_single n k h = let t : nat_lt n 64 ≡ true = below_test n 64 h in rw t (omega arith)

put_short : (c : ℤ) (k : ℕ) → code_width c ≤ k → Least k (Put c)
unfolding Least shortest
put_short c k h = none_behind (with_code 132 c) (suc k) (omega (arith, coded 132 c))

set_rule_short : (a b : ℤ) (k : ℕ) → 8 ≤ k → Least k (SetRule a b)
unfolding Least shortest
set_rule_short a b k h = none_behind (132 ∷ words_of (a ∷ b ∷ [])) (suc k) (omega (arith, length_words (a ∷ b ∷ [])))

put_rule_short : (a b : ℤ) (k : ℕ) → 8 ≤ k → Least k (PutRule a b)
unfolding Least shortest
put_rule_short a b k h = none_behind (137 ∷ words_of (a ∷ b ∷ [])) (suc k) (omega (arith, length_words (a ∷ b ∷ [])))

bop_short : (args : List ℕ) (z : ℤ) (k : ℕ) → 44 ≤ k → Least k (Bop (counts args) z)
unfolding Least shortest counts
bop_short args z k h =
    none_behind (139 ∷ (words_of (counts args) ++ bytes_of 4 z)) (suc k) (omega (arith, length_words (counts args), length-append (words_of (counts args)) (bytes_of 4 z), length_of 4 z))

-- one byte alone
nop_short : (k : ℕ) → Least k Nop
unfolding Least shortest
nop_short k = omega arith

eop_short : (k : ℕ) → Least k Eop
unfolding Least shortest
eop_short k = omega arith

push_short : (k : ℕ) → Least k Push
unfolding Least shortest
push_short k = omega arith

pop_short : (k : ℕ) → Least k Pop
unfolding Least shortest
pop_short k = omega arith

w0_short : (k : ℕ) → Least k W0
unfolding Least shortest
w0_short k = omega arith

x0_short : (k : ℕ) → Least k X0
unfolding Least shortest
x0_short k = omega arith

y0_short : (k : ℕ) → Least k Y0
unfolding Least shortest
y0_short k = omega arith

z0_short : (k : ℕ) → Least k Z0
unfolding Least shortest
z0_short k = omega arith

-- a definition whose name has as many bytes as are left
definition_short : (n : ℕ) (args : List ℕ) (k : ℕ) → IsWidth n → AreBytes args → n + 14 ≤ length args → length args ≤ k → Least k (FntDef (definition n args))
unfolding Least shortest definition
definition_short n args k h a room l =
    let d = definition n args in
    let f1 = with_code 242 d.k ++ big_bytes 4 d.checksum in
    let f2 = f1 ++ bytes_of 4 d.size in
    let f3 = f2 ++ bytes_of 4 d.design in
    let lens = d.area ∷ (length d.name - d.area) ∷ [] in
    let f4 = f3 ++ lens in
    none_behind (definition_bytes d) (suc k)
    (omega (arith, coded 242 d.k, short_code n args h a, length-append (with_code 242 d.k) (big_bytes 4 d.checksum), length_big 4 d.checksum, length-append f1 (bytes_of 4 d.size), length_of 4 d.size, length-append f2 (bytes_of 4 d.design), length_of 4 d.design, length-append f3 lens, length-append f4 d.name, length-drop (n + 14) args))

pre_short : (args : List ℕ) (k : ℕ) → 14 ≤ length args → length args ≤ k → Least k (Pre (preamble args))
unfolding Least shortest preamble
pre_short args k room l =
    let h = preamble args in
    let f0 = 247 ∷ h.id ∷ [] in
    let f1 = f0 ++ bytes_of 4 h.num in
    let f2 = f1 ++ bytes_of 4 h.den in
    let f3 = f2 ++ bytes_of 4 h.mag in
    let len = length h.comment ∷ [] in
    omega (arith, length-append f0 (bytes_of 4 h.num), length_of 4 h.num, length-append f1 (bytes_of 4 h.den), length_of 4 h.den, length-append f2 (bytes_of 4 h.mag), length_of 4 h.mag, length-append f3 len, length-append (f3 ++ len) h.comment, length-drop 14 args)

post_short : (args : List ℕ) (k : ℕ) → 28 ≤ k → Least k (Post (postamble args))
unfolding Least shortest postamble
post_short args k l =
    let t = postamble args in
    let f1 = 248 ∷ bytes_of 4 t.back in
    let f2 = f1 ++ bytes_of 4 t.num in
    let f3 = f2 ++ bytes_of 4 t.den in
    let f4 = f3 ++ bytes_of 4 t.mag in
    let f5 = f4 ++ bytes_of 4 t.tall in
    let f6 = f5 ++ bytes_of 4 t.wide in
    let f7 = f6 ++ big_bytes 2 t.depth in
    let e2 = length-append f1 (bytes_of 4 t.num) in
    let e3 = length-append f2 (bytes_of 4 t.den) in
    let e4 = length-append f3 (bytes_of 4 t.mag) in
    let e5 = length-append f4 (bytes_of 4 t.tall) in
    let e6 = length-append f5 (bytes_of 4 t.wide) in
    let e7 = length-append f6 (big_bytes 2 t.depth) in
    let e8 = length-append f7 (big_bytes 2 t.pages) in
    none_behind (postamble_bytes t) (suc k)
    (omega (arith, e2, e3, e4, e5, e6, e7, e8, length_of 4 t.back, length_of 4 t.num, length_of 4 t.den, length_of 4 t.mag, length_of 4 t.tall, length_of 4 t.wide, length_big 2 t.depth, length_big 2 t.pages))

post_post_short : (back id k : ℕ) → 5 ≤ k → Least k (PostPost back id)
unfolding Least shortest
post_post_short back id k l = none_behind (249 ∷ (big_bytes 4 back ++ (id ∷ []))) (suc k) (omega (arith, length_big 4 back, length-append (big_bytes 4 back) (id ∷ [])))

xxx_short : (n : ℕ) (args : List ℕ) (k : ℕ) → IsWidth n → AreBytes args → n ≤ length args → length args ≤ k → length args ≡ n + unsigned 0 n args → Least k (Xxx (drop n args))
unfolding Least shortest
xxx_short n args k h a room l told =
    let text = drop n args in
    let long : length text ≡ unsigned 0 n args = omega (arith, length-drop n args) in
    let few : length_width (length text) ≤ n = short_length n (length text) h (subst (λ (x : ℕ). x < 256 ^ n) (sym long) (number_below n args a)) in
    omega (arith, length-append ((238 + length_width (length text)) ∷ big_bytes (length_width (length text)) (length text)) text, length_big (length_width (length text)) (length text))

-- moves
right_short : (n k : ℕ) (args : List ℕ) → IsWidth n → n ≤ k → AreBytes args → Least k (Right (signed 0 n args))
unfolding Least shortest
right_short n k args h l a = moved 142 n k args h l a

w_short : (n k : ℕ) (args : List ℕ) → IsWidth n → n ≤ k → AreBytes args → Least k (W (signed 0 n args))
unfolding Least shortest
w_short n k args h l a = moved 147 n k args h l a

x_short : (n k : ℕ) (args : List ℕ) → IsWidth n → n ≤ k → AreBytes args → Least k (X (signed 0 n args))
unfolding Least shortest
x_short n k args h l a = moved 152 n k args h l a

down_short : (n k : ℕ) (args : List ℕ) → IsWidth n → n ≤ k → AreBytes args → Least k (Down (signed 0 n args))
unfolding Least shortest
down_short n k args h l a = moved 156 n k args h l a

y_short : (n k : ℕ) (args : List ℕ) → IsWidth n → n ≤ k → AreBytes args → Least k (Y (signed 0 n args))
unfolding Least shortest
y_short n k args h l a = moved 161 n k args h l a

z_short : (n k : ℕ) (args : List ℕ) → IsWidth n → n ≤ k → AreBytes args → Least k (Z (signed 0 n args))
unfolding Least shortest
z_short n k args h l a = moved 166 n k args h l a

-- ---- by the operation byte

-- what the length of the operands says, range by range
long_by : (op : ℕ) → op < 250 → (128 ≤ op → op < 132 → fixed_len op ≡ op - 127) × (132 ≤ op → op < 133 → fixed_len op ≡ 8) × (133 ≤ op → op < 137 → fixed_len op ≡ op - 132)
    × (137 ≤ op → op < 138 → fixed_len op ≡ 8) × (139 ≤ op → op < 140 → fixed_len op ≡ 44)
unfolding fixed_len
long_by op h = (
  λ a b. grind (arith, nat_tests, a, b),
  λ a b. grind (arith, nat_tests, a, b),
  λ a b. grind (arith, nat_tests, a, b),
  λ a b. grind (arith, nat_tests, a, b),
  λ a b. grind (arith, nat_tests, a, b),
)

long_move : (op n base : ℕ) → (base ≡ 142) ⊎ ((base ≡ 147) ⊎ ((base ≡ 152) ⊎ ((base ≡ 156) ⊎ ((base ≡ 161) ⊎ (base ≡ 166))))) → IsWidth n → op ≡ base + n → fixed_len op ≡ n
unfolding fixed_len
long_move op n base k h e =
    elim k [
      | inl a ↦ grind (arith, nat_tests, a, e, h.0, h.1)
      | inr k ↦ elim k [
        | inl a ↦ grind (arith, nat_tests, a, e, h.0, h.1)
        | inr k ↦ elim k [
          | inl a ↦ grind (arith, nat_tests, a, e, h.0, h.1)
          | inr k ↦ elim k [
            | inl a ↦ grind (arith, nat_tests, a, e, h.0, h.1)
            | inr k ↦ elim k [ inl a ↦ grind (arith, nat_tests, a, e, h.0, h.1) | inr a ↦ grind (arith, nat_tests, a, e, h.0, h.1) ]
          ]
        ]
      ]
    ]

pub long_high : (op : ℕ) → (235 ≤ op → op < 239 → fixed_len op ≡ op - 234) × (239 ≤ op → op < 243 → fixed_len op ≡ op - 238) × (247 ≤ op → op < 248 → fixed_len op ≡ 14)
    × (248 ≤ op → op < 249 → fixed_len op ≡ 28) × (249 ≤ op → op < 250 → fixed_len op ≡ 5)
unfolding fixed_len
long_high op = (
  λ a b. grind (arith, nat_tests, a, b),
  λ a b. grind (arith, nat_tests, a, b),
  λ a b. grind (arith, nat_tests, a, b),
  λ a b. grind (arith, nat_tests, a, b),
  λ a b. grind (arith, nat_tests, a, b),
)

pub text_of_xxx : (op : ℕ) (args : List ℕ) → 239 ≤ op → op < 243 → text_len op args ≡ unsigned 0 (op - 238) args
unfolding text_len
text_of_xxx op args a b = grind (arith, nat_tests)

least_low : (op k : ℕ) (args : List ℕ) → AreBytes args → op < 143 → fixed_len op ≤ k → Least k (low op args)
unfolding low
least_low op k args a t l =
    let f = long_by op (omega arith) in
    test k op 128 _ _ (λ u. set_single op k u)
    (λ b. test k op 132 _ _ (λ u. set_short (code (op - 127) args) k (omega (arith, f.0 b u, short_code (op - 127) args (omega arith, omega arith) a)))
    (λ b. test k op 133 _ _ (λ u. set_rule_short _ _ k (omega (arith, f.1 b u)))
    (λ b. test k op 137 _ _ (λ u. put_short (code (op - 132) args) k (omega (arith, f.2 b u, short_code (op - 132) args (omega arith, omega arith) a)))
    (λ b. test k op 138 _ _ (λ u. put_rule_short _ _ k (omega (arith, f.3 b u)))
    (λ _. test k op 139 _ _ (λ _. nop_short k)
    (λ b. test k op 140 _ _ (λ u. bop_short args _ k (omega (arith, f.4 b u)))
    (λ _. test k op 141 _ _ (λ _. eop_short k) (λ _. test k op 142 _ _ (λ _. push_short k) (λ _. pop_short k)))))))))

least_motion : (op k : ℕ) (args : List ℕ) → AreBytes args → 143 ≤ op → op < 171 → fixed_len op ≤ k → Least k (motion op args)
unfolding motion
least_motion op k args a b t l =
    test k op 147 _ _ (λ u. let h : IsWidth (op - 142) = (omega arith, omega arith) in right_short (op - 142) k args h (omega (arith, long_move op (op - 142) 142 (inl refl) h (omega arith))) a)
    (λ _. test k op 148 _ _ (λ _. w0_short k)
    (λ b. test k op 152 _ _ (λ u. let h : IsWidth (op - 147) = (omega arith, omega arith) in w_short (op - 147) k args h (omega (arith, long_move op (op - 147) 147 (inr (inl refl)) h (omega arith))) a)
    (λ _. test k op 153 _ _ (λ _. x0_short k)
    (λ b. test k op 157 _ _ (λ u. let h : IsWidth (op - 152) = (omega arith, omega arith) in x_short (op - 152) k args h (omega (arith, long_move op (op - 152) 152 (inr (inr (inl refl))) h (omega arith))) a)
    (λ b. test k op 161 _ _ (λ u. let h : IsWidth (op - 156) = (omega arith, omega arith) in down_short (op - 156) k args h (omega (arith, long_move op (op - 156) 156 (inr (inr (inr (inl refl)))) h (omega arith))) a)
    (λ _. test k op 162 _ _ (λ _. y0_short k)
    (λ b. test k op 166 _ _ (λ u. let h : IsWidth (op - 161) = (omega arith, omega arith) in y_short (op - 161) k args h (omega (arith, long_move op (op - 161) 161 (inr (inr (inr (inr (inl refl))))) h (omega arith))) a)
    (λ _. test k op 167 _ _ (λ _. z0_short k)
    (λ b. let h : IsWidth (op - 166) = (omega arith, omega arith) in z_short (op - 166) k args h (omega (arith, long_move op (op - 166) 166 (inr (inr (inr (inr (inr refl))))) h (omega arith))) a)))))))))

least_high : (op k : ℕ) (args : List ℕ) → AreBytes args → 171 ≤ op → op < 250 → length args ≡ extent op args → length args ≡ k → Least k (high op args)
unfolding high
least_high op k args a b t e l =
    let f = long_high op in
    test k op 235 _ _ (λ u. font_single (op - 171) k (omega arith))
    (λ b. test k op 239 _ _ (λ u. font_short (code (op - 234) args) k (omega (arith, f.0 b u, short_code (op - 234) args (omega arith, omega arith) a)))
    (λ b. test k op 243 _ _ (λ u. xxx_short (op - 238) args k (omega arith, omega arith) a (omega (arith, f.1 b u)) (omega arith) (omega (arith, f.1 b u, text_of_xxx op args b u)))
    (λ b. test k op 247 _ _ (λ u. definition_short (op - 242) args k (omega arith, omega arith) a (omega (arith, len_of_def op b u)) (omega arith))
    (λ b. test k op 248 _ _ (λ u. pre_short args k (omega (arith, f.2 b u)) (omega arith))
    (λ b. test k op 249 _ _ (λ u. post_short args k (omega (arith, f.3 b u)))
    (λ b. post_post_short _ _ k (omega (arith, f.4 b t))))))))

by_op : (op : ℕ) (args : List ℕ) → AreBytes args → op < 250 → length args ≡ extent op args → Least (length args) (meaning op args)
unfolding meaning
by_op op args a t e =
    test (length args) op 143 _ _ (λ u. least_low op (length args) args a u (omega (arith, e)))
    (λ b. test (length args) op 171 _ _ (λ u. least_motion op (length args) args a b u (omega (arith, e))) (λ b. least_high op (length args) args a b t e refl))

least : (cmd : Command) (other : List ℕ) → AreBytes other → Spell cmd other → length (shortest_whole cmd) ≤ length other
unfolding Least
least cmd [] a s = absurd s
least cmd (op ∷ args) a s = subst (λ (c : Command). length (shortest_whole c) ≤ suc (length args)) s.2 (by_op op args (λ i. a (suc i)) s.0 s.1)

pub shortest_spelling : ShortestSpelling
shortest_spelling cmd h = (spelled cmd h, λ other a s. least cmd other a s)

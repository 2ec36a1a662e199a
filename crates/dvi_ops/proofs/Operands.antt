-- Numbers that are written are read back, wherever they stand among bytes.
use Rattle.std.proofs.Common.{◌≡◌, ◌≤◌, ◌<◌, ◌+◌, ◌-◌, ◌*◌, ◌^◌, ◌%◌, ℕ, zero, suc, ℤ, pos, negsuc, ◌-ℤ◌, List, [], ◌∷◌, ◌++◌, length, get_or, take, drop, Bool, true, false, nat_lt, if◌then◌else◌, refl, sym, ap, subst, ◌∙◌, arith, length-append, append_assoc, ltb-true, ltb-false}
use Rattle.std.proofs.Math.Nat.{mod-eq_of_lt, mul-add-mod_self_right}
use Rattle.std.proofs.lemmas.Bool.Decides.{nat_tests}
use Rattle.std.proofs.lemmas.Int.{ints}
use Rattle.std.proofs.lemmas.List.{append-nil, drop_at, drop-append-le, length-drop, length-take, get_or-take, get_or_default}
use Rattle.std.specs.Int.{cast_unsigned, w32}
use Rattle.std.specs.List.{All}
use Rattle.byteorder.specs.Endian.{big_bytes, big_number, twos_complement}
use Rattle.byteorder.specs.Numbers.{big_from-append, big_from-bytes, big_number-reads_back, length-bytes_high_first}
use Rattle.dv_base.specs.Numbers.{unsigned, signed}
use Rattle.dvi_ops.specs.Spelling.{code, counts}
use Rattle.dvi_ops.specs.Shortest.{lies_within, lies_below, code_width, move_width, length_width, bytes_of, words_of, IsWord}

-- ---- one number

-- the first of three tests that holds
pub pick : (P : ℕ → Type 0) (a b c : Bool) → (a ≡ true → P 1) → (b ≡ true → P 2) → (c ≡ true → P 3) → P 4 → P (if a then 1 else if b then 2 else if c then 3 else 4)
pick P true b c f g h k = f refl
pick P false true c f g h k = g refl
pick P false false true f g h k = h refl
pick P false false false f g h k = k

-- z lies from -h to h - 1
abbrev pub Within : ℕ → ℤ → Type 0
Within h (pos n) = n < h
Within h (negsuc n) = n < h

pub within : (h : ℕ) (z : ℤ) → lies_within h z ≡ true → Within h z
within h (pos n) e = ltb-true n h e
within h (negsuc n) e = ltb-true n h e

pub word_within : (z : ℤ) → IsWord z → Within 2147483648 z
word_within (pos n) w = let h = w.sfits in omega (arith, ints, h)
word_within (negsuc n) w = let h = w.sfits in omega (arith, ints, h)

-- what is left of a number in n bytes, read in two's complement
back : (half full more : ℕ) (z : ℤ) → full ≡ half + half → 4294967296 ≡ more * full + full → 0 < half → Within half z
    → (if nat_lt (cast_unsigned w32 z % full) half then pos (cast_unsigned w32 z % full) else pos (cast_unsigned w32 z % full) -ℤ pos full) ≡ z
back half full more (pos n) d m o h =
    let e : n % full ≡ n = mod-eq_of_lt (omega arith) in
    let t : nat_lt n half ≡ true = grind (arith, nat_tests) in
    rw (e, t) refl
back half full more (negsuc n) d m o h =
    let split : 4294967296 - suc n ≡ more * full + (full - suc n) = omega arith in
    let small : full - suc n < full = omega arith in
    let e : (4294967296 - suc n) % full ≡ full - suc n = ap (λ (x : ℕ). x % full) split ∙ mul-add-mod_self_right more full (full - suc n) ∙ mod-eq_of_lt small in
    let t : nat_lt (full - suc n) half ≡ false = grind (arith, nat_tests) in
    rw (e, t) (omega (arith, ints))

pub length_of : (n : ℕ) (z : ℤ) → length (bytes_of n z) ≡ n
length_of n z = length-bytes_high_first n (cast_unsigned w32 z)

pub length_big : (n x : ℕ) → length (big_bytes n x) ≡ n
length_big n x = length-bytes_high_first n x

number_in : (n : ℕ) (z : ℤ) → big_number n (bytes_of n z) ≡ cast_unsigned w32 z % 256 ^ n
number_in n z = ap (big_number n) (sym (append-nil (bytes_of n z))) ∙ big_from-bytes n (cast_unsigned w32 z) []

pub one_byte : (z : ℤ) → Within 128 z → signed 0 1 (bytes_of 1 z) ≡ z
unfolding signed
one_byte z h = ap (twos_complement 1) (number_in 1 z) ∙ back 128 256 16777215 z refl refl (omega arith) h

pub two_bytes : (z : ℤ) → Within 32768 z → signed 0 2 (bytes_of 2 z) ≡ z
unfolding signed
two_bytes z h = ap (twos_complement 2) (number_in 2 z) ∙ back 32768 65536 65535 z refl refl (omega arith) h

pub three_bytes : (z : ℤ) → Within 8388608 z → signed 0 3 (bytes_of 3 z) ≡ z
unfolding signed
three_bytes z h = ap (twos_complement 3) (number_in 3 z) ∙ back 8388608 16777216 255 z refl refl (omega arith) h

pub four_bytes : (z : ℤ) → IsWord z → signed 0 4 (bytes_of 4 z) ≡ z
unfolding signed
four_bytes z h = ap (twos_complement 4) (number_in 4 z) ∙ back 2147483648 4294967296 0 z refl refl (omega arith) (word_within z h)

-- a distance in as few bytes as hold it
pub move_back : (q : ℤ) → IsWord q → signed 0 (move_width q) (bytes_of (move_width q) q) ≡ q
move_back q w =
    pick (λ (n : ℕ). signed 0 n (bytes_of n q) ≡ q) (lies_within 128 q) (lies_within 32768 q) (lies_within 8388608 q)
    (λ e. one_byte q (within 128 q e)) (λ e. two_bytes q (within 32768 q e)) (λ e. three_bytes q (within 8388608 q e)) (four_bytes q w)

-- a number that isn't negative, of one to three bytes
few_back : (n : ℕ) (c : ℤ) → n < 4 → lies_below (256 ^ n) c ≡ true → code n (bytes_of n c) ≡ c
unfolding code unsigned
few_back n (pos x) l e =
    let small : x < 256 ^ n = ltb-true x (256 ^ n) e in
    let t : nat_lt n 4 ≡ true = grind (arith, nat_tests) in
    let same : big_number n (bytes_of n (pos x)) ≡ x = number_in n (pos x) ∙ mod-eq_of_lt small in
    rw t (ap pos same)
few_back n (negsuc x) l e = absurd cc

pub code_back : (c : ℤ) → IsWord c → code (code_width c) (bytes_of (code_width c) c) ≡ c
unfolding code
code_back c w =
    pick (λ (n : ℕ). code n (bytes_of n c) ≡ c) (lies_below 256 c) (lies_below 65536 c) (lies_below 16777216 c)
    (λ e. few_back 1 c (omega arith) e) (λ e. few_back 2 c (omega arith) e) (λ e. few_back 3 c (omega arith) e) (four_bytes c w)

pub length_back : (x : ℕ) → x < 4294967296 → unsigned 0 (length_width x) (big_bytes (length_width x) x) ≡ x
unfolding unsigned
length_back x h =
    pick (λ (n : ℕ). big_number n (big_bytes n x) ≡ x) (nat_lt x 256) (nat_lt x 65536) (nat_lt x 16777216)
    (λ e. back 1 (ltb-true x 256 e)) (λ e. back 2 (ltb-true x 65536 e)) (λ e. back 3 (ltb-true x 16777216 e)) (back 4 h)
  where
    back : (n : ℕ) → x < 256 ^ n → big_number n (big_bytes n x) ≡ x
    back n l = ap (big_number n) (sym (append-nil (big_bytes n x))) ∙ big_number-reads_back n x [] l

abbrev pub IsWidth : ℕ → Type 0
IsWidth n = (1 ≤ n) × (n ≤ 4)

pub move_widths : (q : ℤ) → IsWidth (move_width q)
move_widths q = pick IsWidth (lies_within 128 q) (lies_within 32768 q) (lies_within 8388608 q) (λ _. (omega arith, omega arith)) (λ _. (omega arith, omega arith)) (λ _. (omega arith, omega arith)) (omega arith, omega arith)

pub code_widths : (c : ℤ) → IsWidth (code_width c)
code_widths c = pick IsWidth (lies_below 256 c) (lies_below 65536 c) (lies_below 16777216 c) (λ _. (omega arith, omega arith)) (λ _. (omega arith, omega arith)) (λ _. (omega arith, omega arith)) (omega arith, omega arith)

pub length_widths : (x : ℕ) → IsWidth (length_width x)
length_widths x = pick IsWidth (nat_lt x 256) (nat_lt x 65536) (nat_lt x 16777216) (λ _. (omega arith, omega arith)) (λ _. (omega arith, omega arith)) (λ _. (omega arith, omega arith)) (omega arith, omega arith)

-- ---- numbers among others

-- what follows a number changes nothing
pub unsigned_before : (at n : ℕ) (xs ys : List ℕ) → at + n ≤ length xs → unsigned at n (xs ++ ys) ≡ unsigned at n xs
unfolding unsigned
unsigned_before at n xs ys h = ap (big_number n) (drop-append-le at xs ys (omega arith)) ∙ big_from-append n (drop at xs) ys (omega (arith, length-drop at xs))

pub signed_before : (at n : ℕ) (xs ys : List ℕ) → at + n ≤ length xs → signed at n (xs ++ ys) ≡ signed at n xs
unfolding signed
signed_before at n xs ys h =
    ap (twos_complement n) (ap (big_number n) (drop-append-le at xs ys (omega arith)) ∙ big_from-append n (drop at xs) ys (omega (arith, length-drop at xs)))

pub code_before : (n : ℕ) (xs ys : List ℕ) → n ≤ 4 → n ≤ length xs → code n (xs ++ ys) ≡ code n xs
unfolding code
code_before n xs ys s h = by (nat_lt n 4) refl
  where
    by : (b : Bool) → nat_lt n 4 ≡ b → (if b then pos (unsigned 0 n (xs ++ ys)) else signed 0 4 (xs ++ ys)) ≡ (if b then pos (unsigned 0 n xs) else signed 0 4 xs)
    by true e = ap pos (unsigned_before 0 n xs ys (omega arith))
    by false e = signed_before 0 4 xs ys (omega (arith, ltb-false n 4 e))

-- a number at the end
pub unsigned_last : (at n : ℕ) (front : List ℕ) (x : ℕ) → length front ≡ at → x < 256 ^ n → unsigned at n (front ++ big_bytes n x) ≡ x
unfolding unsigned
unsigned_last at n front x e h =
    ap (big_number n) (drop_at front (big_bytes n x) at e ∙ sym (append-nil (big_bytes n x))) ∙ big_number-reads_back n x [] h

pub word_last : (at : ℕ) (front : List ℕ) (z : ℤ) → length front ≡ at → IsWord z → signed at 4 (front ++ bytes_of 4 z) ≡ z
unfolding signed
word_last at front z e w = ap (λ (xs : List ℕ). signed 0 4 xs) (drop_at front (bytes_of 4 z) at e) ∙ four_bytes z w

-- ---- numbers of four bytes, one after another

read_words : ℕ → ℕ → List ℕ → List ℤ
read_words zero at args = []
read_words (suc n) at args = signed at 4 args ∷ read_words n (at + 4) args

pub length_words : (zs : List ℤ) → length (words_of zs) ≡ 4 * length zs
length_words [] = refl
length_words (z ∷ zs) = omega (arith, length-append (bytes_of 4 z) (words_of zs), length_of 4 z, length_words zs)

words_read : (zs : List ℤ) (at : ℕ) (front rest : List ℕ) → length front ≡ at → All IsWord zs → read_words (length zs) at (front ++ (words_of zs ++ rest)) ≡ zs
unfolding read_words
words_read [] at front rest e w = refl
words_read (z ∷ zs) at front rest e w =
    let here = bytes_of 4 z in
    let behind = words_of zs ++ rest in
    let shape : front ++ ((here ++ words_of zs) ++ rest) ≡ (front ++ here) ++ behind = ap (λ (xs : List ℕ). front ++ xs) (append_assoc here (words_of zs) rest) ∙ sym (append_assoc front here behind) in
    let long : length (front ++ here) ≡ at + 4 = omega (arith, length-append front here, length_of 4 z, e) in
    let first : signed at 4 ((front ++ here) ++ behind) ≡ z = signed_before at 4 (front ++ here) behind (omega arith) ∙ word_last at front z e (w 0 z (omega arith)) in
    let others : read_words (length zs) (at + 4) ((front ++ here) ++ behind) ≡ zs = words_read zs (at + 4) (front ++ here) rest long (λ k d l. w (suc k) d (omega arith)) in
    rw (shape, first, others) refl

-- the counts of a page
pub counts_back : (zs : List ℤ) (rest : List ℕ) → length zs ≡ 10 → All IsWord zs → counts (words_of zs ++ rest) ≡ zs
unfolding counts read_words
counts_back zs rest e w =
    let ten : read_words 10 0 (words_of zs ++ rest) ≡ zs = ap (λ (n : ℕ). read_words n 0 (words_of zs ++ rest)) (sym e) ∙ words_read zs 0 [] rest refl w in
    ten

-- two numbers
pub pair_back : (a b : ℤ) → IsWord a → IsWord b → (signed 0 4 (words_of (a ∷ b ∷ [])) ≡ a) × (signed 4 4 (words_of (a ∷ b ∷ [])) ≡ b)
pair_back a b v w =
    let x = bytes_of 4 a in
    let y = bytes_of 4 b in
    let shape : x ++ (y ++ []) ≡ x ++ y = ap (λ (xs : List ℕ). x ++ xs) (append-nil y) in (
      signed_before 0 4 x (y ++ []) (omega (arith, length_of 4 a)) ∙ four_bytes a v,
      ap (λ (xs : List ℕ). signed 4 4 xs) shape ∙ word_last 4 x b (length_of 4 a) w,
    )

-- one number more
pub words_more : (zs : List ℤ) (i : ℕ) (z : ℤ) → i < length zs → z ≡ get_or zs i z → words_of (take (suc i) zs) ≡ words_of (take i zs) ++ bytes_of 4 z
words_more [] i z h e = absurd (omega (arith, h))
words_more (y ∷ zs) zero z h e = append-nil (bytes_of 4 y) ∙ ap (bytes_of 4) (sym e)
words_more (y ∷ zs) (suc i) z h e =
    ap (λ (xs : List ℕ). bytes_of 4 y ++ xs) (words_more zs i z (omega (arith, h)) e) ∙ sym (append_assoc (bytes_of 4 y) (words_of (take i zs)) (bytes_of 4 z))

pub all_more : (zs : List ℤ) (i n : ℕ) → n ≡ suc i → i < length zs → All IsWord (take i zs) → IsWord (get_or zs i (pos 0)) → All IsWord (take n zs)
all_more zs i n e h all one k d l = by (nat_lt k i) refl
  where
    inside : k < n
    inside = omega (arith, length-take n zs, l)

    by : (b : Bool) → nat_lt k i ≡ b → IsWord (get_or (take n zs) k d)
    by true t =
        let before : k < i = ltb-true k i t in
        let same : get_or (take i zs) k d ≡ get_or (take n zs) k d = get_or-take i zs k d before ∙ sym (get_or-take n zs k d inside) in
        subst IsWord same (all k d (omega (arith, length-take i zs)))
    by false t =
        let here : i ≡ k = omega (arith, ltb-false k i t, inside) in
        let same : get_or zs i (pos 0) ≡ get_or (take n zs) k d =
        get_or_default zs i (pos 0) d h ∙ ap (λ (m : ℕ). get_or zs m d) here ∙ sym (get_or-take n zs k d inside) in
        subst IsWord same one

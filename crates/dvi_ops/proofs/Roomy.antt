-- What bytes spell can be spelled: each number of it has room.
use Rattle.std.proofs.Common.{◌≡◌, ◌≤◌, ◌<◌, ◌+◌, ◌-◌, ◌^◌, inl, inr, ℕ, zero, suc, ℤ, pos, negsuc, ◌-ℤ◌, List, [], ◌∷◌, length, slice_index, drop, Bool, true, false, nat_lt, if◌then◌else◌, refl, sym, subst, arith, ltb-true, ltb-false}
use Rattle.std.proofs.lemmas.Bool.{cases_lt}
use Rattle.std.proofs.lemmas.Bool.Decides.{nat_tests}
use Rattle.std.proofs.lemmas.Int.{ints}
use Rattle.std.proofs.lemmas.List.{length-drop, get_or-drop}
use Rattle.std.proofs.lemmas.List.Elements.{All-cons, All-nil}
use Rattle.std.specs.List.{All}
use Rattle.byteorder.specs.Endian.{big_number, twos_complement}
use Rattle.byteorder.specs.Numbers.{big_from-lt}
use Rattle.dv_base.specs.Numbers.{unsigned, signed}
use Rattle.dvi_ops.specs.Command.{Command}
use Rattle.dvi_ops.specs.Command.Command.{Set, FntDef, Pre, Post}
use Rattle.dvi_ops.specs.Spelling.{extent, meaning, low, motion, high, code, counts, definition, preamble, postamble}
use Rattle.dvi_ops.specs.Shortest.{IsWord, HasRoom, CanBePut}
use Rattle.dvi_ops.specs.Laws.{SpelledHasRoom}
use Rattle.dvi_ops.proofs.Texts.{len_of_def, text_of_def, text_of_pre}
use Rattle.dvi_ops.proofs.Operands.{IsWidth}
use Rattle.dvi_ops.proofs.Least.{AreBytes, four, number_below, text_of_xxx, long_high}

-- ---- numbers of at most four bytes

positive_word : (x : ℕ) → x < 2147483648 → IsWord (pos x)
positive_word x h = record { sfits = omega (arith, ints) }

negative_word : (x : ℕ) → x < 2147483648 → IsWord (negsuc x)
negative_word x h = record { sfits = omega (arith, ints) }

fit : (half full x : ℕ) → full ≡ half + half → half ≤ 2147483648 → x < full → IsWord (if nat_lt x half then pos x else pos x -ℤ pos full)
fit half full x d m h = by (nat_lt x half) refl
  where
    by : (b : Bool) → nat_lt x half ≡ b → IsWord (if b then pos x else pos x -ℤ pos full)
    by true e = let l = ltb-true x half e in positive_word x (omega (arith, l))
    by false e =
        let low : half ≤ x = ltb-false x half e in
        let is : pos x -ℤ pos full ≡ negsuc (full - suc x) = omega (arith, ints) in
        subst IsWord (sym is) (negative_word (full - suc x) (omega arith))

behind : (at : ℕ) (args : List ℕ) → AreBytes args → AreBytes (drop at args)
behind at args b i = subst (λ (x : ℕ). x < 256) (sym (get_or-drop at args i 0)) (b (at + i))

signed_word : (at n : ℕ) (args : List ℕ) → IsWidth n → AreBytes args → IsWord (signed at n args)
unfolding signed
signed_word at n args h b =
    let size : (m : ℕ) → big_number m (drop at args) < 256 ^ m = λ m. big_from-lt 0 m (drop at args) (behind at args b) in
    four (λ (m : ℕ). IsWord (twos_complement m (big_number m (drop at args))))
    (fit 128 256 (big_number 1 (drop at args)) refl (omega arith) (size 1))
    (fit 32768 65536 (big_number 2 (drop at args)) refl (omega arith) (size 2))
    (fit 8388608 16777216 (big_number 3 (drop at args)) refl (omega arith) (size 3))
    (fit 2147483648 4294967296 (big_number 4 (drop at args)) refl (omega arith) (size 4)) n h

word : (at : ℕ) (args : List ℕ) → AreBytes args → IsWord (signed at 4 args)
word at args b = signed_word at 4 args (omega arith, omega arith) b

code_word : (n : ℕ) (args : List ℕ) → IsWidth n → AreBytes args → IsWord (code n args)
unfolding code
code_word n args h b =
    let one : unsigned 0 1 args < 256 = number_below 1 args b in
    let two : unsigned 0 2 args < 65536 = number_below 2 args b in
    let three : unsigned 0 3 args < 16777216 = number_below 3 args b in
    four (λ (m : ℕ). IsWord (code m args))
    (positive_word (unsigned 0 1 args) (omega arith)) (positive_word (unsigned 0 2 args) (omega arith)) (positive_word (unsigned 0 3 args) (omega arith)) (word 0 args b) n h

number_at : (at n : ℕ) (args : List ℕ) → AreBytes args → unsigned at n args < 256 ^ n
unfolding unsigned
number_at at n args b = big_from-lt 0 n (drop at args) (behind at args b)

-- ---- commands

words_from : ℕ → ℕ → List ℕ → List ℤ
words_from zero at args = []
words_from (suc n) at args = signed at 4 args ∷ words_from n (at + 4) args

all_from : (n at : ℕ) (args : List ℕ) → AreBytes args → All IsWord (words_from n at args)
unfolding words_from
all_from zero at args b = All-nil IsWord
all_from (suc n) at args b = All-cons IsWord (signed at 4 args) (words_from n (at + 4) args) (word at args b) (all_from n (at + 4) args b)

counts_words : (args : List ℕ) → AreBytes args → All IsWord (counts args)
unfolding counts words_from
counts_words args b = let all : All IsWord (words_from 10 0 args) = all_from 10 0 args b in all

ten_counts : (args : List ℕ) → length (counts args) ≡ 10
unfolding counts
ten_counts args = refl

-- has room, and can so be put
abbrev Roomy : Command → Type 0
Roomy c = HasRoom c × CanBePut c

-- of two commands by a test
test : (P : Command → Type 0) (n m : ℕ) (x y : Command) → (n < m → P x) → (m ≤ n → P y) → P (if nat_lt n m then x else y)
test P n m x y p q =
    elim (cases_lt n m) [
      | inl h ↦ (let e : nat_lt n m ≡ true = grind (arith, nat_tests) in rw e (p h))
      | inr h ↦ (let e : nat_lt n m ≡ false = grind (arith, nat_tests) in rw e (q h))
    ]

small_set : (op : ℕ) → op < 128 → Roomy (Set (pos op))
small_set op h = let w = positive_word op (omega arith) in (w, w)

roomy_low : (op : ℕ) (args : List ℕ) → AreBytes args → op < 143 → Roomy (low op args)
unfolding low
roomy_low op args a t =
    test Roomy op 128 _ _ (λ u. small_set op u)
    (λ b. test Roomy op 132 _ _ (λ u. let w = code_word (op - 127) args (omega arith, omega arith) a in (w, w))
    (λ b. test Roomy op 133 _ _ (λ u. ((word 0 args a, word 4 args a), tt))
    (λ b. test Roomy op 137 _ _ (λ u. let w = code_word (op - 132) args (omega arith, omega arith) a in (w, w))
    (λ b. test Roomy op 138 _ _ (λ u. ((word 0 args a, word 4 args a), tt))
    (λ _. test Roomy op 139 _ _ (λ _. (tt, tt))
    (λ b. test Roomy op 140 _ _ (λ u. ((ten_counts args, counts_words args a, word 40 args a), tt))
    (λ _. test Roomy op 141 _ _ (λ _. (tt, tt)) (λ _. test Roomy op 142 _ _ (λ _. (tt, tt)) (λ _. (tt, tt))))))))))

roomy_motion : (op : ℕ) (args : List ℕ) → AreBytes args → 143 ≤ op → op < 171 → Roomy (motion op args)
unfolding motion
roomy_motion op args a b t =
    test Roomy op 147 _ _ (λ u. (signed_word 0 (op - 142) args (omega arith, omega arith) a, tt))
    (λ _. test Roomy op 148 _ _ (λ _. (tt, tt))
    (λ b. test Roomy op 152 _ _ (λ u. (signed_word 0 (op - 147) args (omega arith, omega arith) a, tt))
    (λ _. test Roomy op 153 _ _ (λ _. (tt, tt))
    (λ b. test Roomy op 157 _ _ (λ u. (signed_word 0 (op - 152) args (omega arith, omega arith) a, tt))
    (λ b. test Roomy op 161 _ _ (λ u. (signed_word 0 (op - 156) args (omega arith, omega arith) a, tt))
    (λ _. test Roomy op 162 _ _ (λ _. (tt, tt))
    (λ b. test Roomy op 166 _ _ (λ u. (signed_word 0 (op - 161) args (omega arith, omega arith) a, tt))
    (λ _. test Roomy op 167 _ _ (λ _. (tt, tt))
    (λ b. (signed_word 0 (op - 166) args (omega arith, omega arith) a, tt))))))))))

roomy_text : (n : ℕ) (args : List ℕ) → IsWidth n → AreBytes args → length args ≡ n + unsigned 0 n args → length (drop n args) < 4294967296
roomy_text n args h a told =
    let long : length (drop n args) ≡ unsigned 0 n args = omega (arith, length-drop n args) in
    let below : unsigned 0 n args < 4294967296 =
    four (λ (m : ℕ). unsigned 0 m args < 256 ^ m → unsigned 0 m args < 4294967296) (λ l. omega (arith, l)) (λ l. omega (arith, l)) (λ l. omega (arith, l)) (λ l. l) n h (number_below n args a) in
    omega arith

roomy_def : (n : ℕ) (args : List ℕ) → IsWidth n → AreBytes args → length args ≡ n + 14 + (slice_index args (n + 12) + slice_index args (n + 13)) → Roomy (FntDef (definition n args))
unfolding definition
roomy_def n args h a long =
    let k = code_word n args h a in
    let few = a (n + 13) in
    let text = length-drop (n + 14) args in
    let low : slice_index args (n + 12) ≤ length (drop (n + 14) args) = omega arith in
    let top : length (drop (n + 14) args) < slice_index args (n + 12) + 256 = omega arith in
    ((k, number_at n 4 args a, word (n + 4) args a, word (n + 8) args a, a (n + 12), low, top), (k, low, top))

roomy_pre : (args : List ℕ) → AreBytes args → length args ≡ 14 + slice_index args 13 → Roomy (Pre (preamble args))
unfolding preamble
roomy_pre args a long =
    let few = a 13 in
    let text = length-drop 14 args in
    let short : length (drop 14 args) < 256 = omega arith in
    ((a 0, word 1 args a, word 5 args a, word 9 args a, short), short)

roomy_post : (args : List ℕ) → AreBytes args → Roomy (Post (postamble args))
unfolding postamble
roomy_post args a =
    ((word 0 args a, word 4 args a, word 8 args a, word 12 args a, word 16 args a, word 20 args a, number_at 24 2 args a, number_at 26 2 args a), tt)

roomy_high : (op : ℕ) (args : List ℕ) → AreBytes args → 171 ≤ op → op < 250 → length args ≡ extent op args → Roomy (high op args)
unfolding high
roomy_high op args a b t e =
    let f = long_high op in
    test Roomy op 235 _ _ (λ u. let w = positive_word (op - 171) (omega arith) in (w, w))
    (λ b. test Roomy op 239 _ _ (λ u. let w = code_word (op - 234) args (omega arith, omega arith) a in (w, w))
    (λ b. test Roomy op 243 _ _ (λ u. let s = roomy_text (op - 238) args (omega arith, omega arith) a (omega (arith, f.1 b u, text_of_xxx op args b u)) in (s, s))
    (λ b. test Roomy op 247 _ _ (λ u. roomy_def (op - 242) args (omega arith, omega arith) a (omega (arith, len_of_def op b u, text_of_def op args b u)))
    (λ b. test Roomy op 248 _ _ (λ u. roomy_pre args a (omega (arith, f.2 b u, text_of_pre op args b u)))
    (λ b. test Roomy op 249 _ _ (λ u. roomy_post args a)
    (λ b. ((number_at 0 4 args a, a 4), tt)))))))

by_op : (op : ℕ) (args : List ℕ) → AreBytes args → op < 250 → length args ≡ extent op args → Roomy (meaning op args)
unfolding meaning
by_op op args a t e =
    test Roomy op 143 _ _ (λ u. roomy_low op args a u) (λ b. test Roomy op 171 _ _ (λ u. roomy_motion op args a b u) (λ b. roomy_high op args a b t e))

pub spelled_has_room : SpelledHasRoom
spelled_has_room cmd [] a s = absurd s
spelled_has_room cmd (op ∷ args) a s = subst Roomy s.2 (by_op op args (λ i. a (suc i)) s.0 s.1)

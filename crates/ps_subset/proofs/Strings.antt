-- A string's text is read as its codes.
use Rattle.std.proofs.Common.{◌≡◌, refl, ap, sym, ◌∙◌, ℕ, ◌+◌, ◌-◌, ◌*◌, ◌/◌, ◌%◌, ◌<◌, ◌≤◌, List, [], ◌∷◌, ◌++◌, length, Some, arith, Bool, true, false, append_assoc}
use Rattle.std.specs.Prelude.{nat_eq, nat_le, ◌&&◌, ◌||◌, not, if◌then◌else◌}
use Rattle.std.proofs.lemmas.List.{append-nil, length-append}
use Rattle.std.proofs.lemmas.Bool.Decides.{nat_tests}
use Rattle.ps_subset.specs.Token.{Text}
use Rattle.ps_subset.specs.Reading.{Quoted, between, tokens_from, next, begin, Plain, unescaped, prepend, text_of, is_octal, tokens}
use Rattle.ps_subset.specs.Fonts.{AllBytes}
use Rattle.ps_subset.specs.Strings.{escape, escapes, string_text, StringsRead, LongStrings, ReadsBack}
use Rattle.ps_subset.proofs.Reading.{Reads}
use Rattle.ps_subset.proofs.FontSteps.{nat_le_yes}
use Rattle.ps_subset.proofs.Numbers.{and_left, and_right}
use Rattle.ps_subset.proofs.Hex.{below, below_is, not_true}

-- whether the bytes pass inside a string, with an escape open or not at first, and none open at last
through : Bool → List ℕ → Bool
through true [] = false
through false [] = true
through true (b ∷ bs) = through false bs
through false (b ∷ bs) = not (nat_eq b 41) && through (nat_eq b 92) bs

passes : (raw bytes rest : List ℕ) (esc : Bool) → through esc bytes ≡ true → tokens_from (record { mode = Quoted raw esc; unclosed = [] }) (bytes ++ rest) ≡ tokens_from (record { mode = Quoted (raw ++ bytes) false; unclosed = [] }) rest
unfolding tokens_from next through
passes raw [] rest true h = absurd (grind arith)
passes raw [] rest false h = ap (λ l. tokens_from (record { mode = Quoted l false; unclosed = [] }) rest) (sym (append-nil raw))
passes raw (b ∷ bs) rest true h = passes (raw ++ b ∷ []) bs rest false h ∙ ap (λ l. tokens_from (record { mode = Quoted l false; unclosed = [] }) rest) (append_assoc raw (b ∷ []) bs)
passes raw (b ∷ bs) rest false h =
    rw (not_true (nat_eq b 41) (and_left (not (nat_eq b 41)) (through (nat_eq b 92) bs) h))
    (passes (raw ++ b ∷ []) bs rest (nat_eq b 92) (and_right (not (nat_eq b 41)) (through (nat_eq b 92) bs) h) ∙ ap (λ l. tokens_from (record { mode = Quoted l false; unclosed = [] }) rest) (append_assoc raw (b ∷ []) bs))

escape_passes : (c : ℕ) → c < 256 → through false (escape c) ≡ true
unfolding below through
escape_passes c h = below_is (λ n. through false (escape n)) 256 c refl h

through-append : (esc : Bool) (xs ys : List ℕ) → through esc xs ≡ true → through false ys ≡ true → through esc (xs ++ ys) ≡ true
unfolding through
through-append true [] ys h k = absurd (grind arith)
through-append false [] ys h k = k
through-append true (b ∷ xs) ys h k = through-append false xs ys h k
through-append false (b ∷ xs) ys h k =
    rw (and_left (not (nat_eq b 41)) (through (nat_eq b 92) xs) h, through-append (nat_eq b 92) xs ys (and_right (not (nat_eq b 41)) (through (nat_eq b 92) xs) h) k) refl

escapes_pass : (cs : List ℕ) → AllBytes cs → through false (escapes cs) ≡ true
unfolding through
escapes_pass [] all = refl
escapes_pass (c ∷ cs) all = through-append false (escape c) (escapes cs) (escape_passes c all.0) (escapes_pass cs all.1)

-- what a code's bytes say, whatever follows
octal_says : (c : ℕ) (rest : List ℕ) → c < 256 → unescaped Plain ((92 ∷ (48 + c / 64) ∷ (48 + c / 8 % 8) ∷ (48 + c % 8) ∷ []) ++ rest) ≡ prepend c (unescaped Plain rest)
unfolding unescaped
octal_says c rest h =
    let a : is_octal (48 + c / 64) ≡ true = grind (arith, nat_tests) in
    let b : is_octal (48 + c / 8 % 8) ≡ true = grind (arith, nat_tests) in
    let d : is_octal (48 + c % 8) ≡ true = grind (arith, nat_tests) in
    let value : 8 * (8 * (48 + c / 64 - 48) + (48 + c / 8 % 8 - 48)) + (48 + c % 8 - 48) ≡ c = omega arith in
    rw (a, b, d, value, nat_le_yes c 255 (omega arith)) refl

plain_says : (c : ℕ) (rest : List ℕ) → nat_eq c 92 ≡ false → (nat_eq c 40 || nat_eq c 41 || nat_eq c 10) ≡ false → unescaped Plain (c ∷ rest) ≡ prepend c (unescaped Plain rest)
unfolding unescaped
plain_says c rest h k = rw (h, k) refl

mark_says : (c : ℕ) (rest : List ℕ) → is_octal c ≡ false → (nat_eq c 40 || nat_eq c 41 || nat_eq c 92) ≡ true → unescaped Plain (92 ∷ c ∷ rest) ≡ prepend c (unescaped Plain rest)
unfolding unescaped
mark_says c rest h k = rw (h, k) refl

pub escape_says : (c : ℕ) (rest : List ℕ) → c < 256 → unescaped Plain (escape c ++ rest) ≡ prepend c (unescaped Plain rest)
escape_says c rest h = go (nat_eq c 40 || nat_eq c 41 || nat_eq c 92) (nat_le 32 c && nat_le c 126) refl refl
  where
    go : (a b : Bool) → (nat_eq c 40 || nat_eq c 41 || nat_eq c 92) ≡ a → (nat_le 32 c && nat_le c 126) ≡ b →
        unescaped Plain ((if a then (92 ∷ c ∷ []) else if b then (c ∷ []) else (92 ∷ (48 + c / 64) ∷ (48 + c / 8 % 8) ∷ (48 + c % 8) ∷ [])) ++ rest) ≡ prepend c (unescaped Plain rest)
    go true b e f = mark_says c rest (grind (arith, nat_tests, e)) e
    go false true e f = plain_says c rest (grind (arith, nat_tests, e, f)) (grind (arith, nat_tests, e, f))
    go false false e f = octal_says c rest h

escapes_say : (cs : List ℕ) → AllBytes cs → unescaped Plain (escapes cs) ≡ Some cs
unfolding unescaped
escapes_say [] all = refl
escapes_say (c ∷ cs) all = escape_says c (escapes cs) all.0 ∙ ap (prepend c) (escapes_say cs all.1)

begins : (rest : List ℕ) → tokens_from between (40 ∷ rest) ≡ tokens_from (record { mode = Quoted [] false; unclosed = [] }) rest
unfolding tokens_from next begin
begins rest = refl

ends : (raw rest : List ℕ) → tokens_from (record { mode = Quoted raw false; unclosed = [] }) (41 ∷ rest) ≡ text_of (unescaped Plain raw) ∷ tokens_from between rest
unfolding tokens_from next
ends raw rest = refl

pub string_reads : (cs : List ℕ) → AllBytes cs → length cs ≤ 65535 → Reads (string_text cs) (Text cs ∷ [])
string_reads cs all short = record {
  by = λ rest.
      ap (λ l. tokens_from between (40 ∷ l)) (append_assoc (escapes cs) (41 ∷ []) rest) ∙ begins (escapes cs ++ 41 ∷ rest) ∙ passes [] (escapes cs) (41 ∷ rest) false (escapes_pass cs all) ∙
      ends (escapes cs) rest ∙ ap (λ o. text_of o ∷ tokens_from between rest) (escapes_say cs all) ∙ rw (nat_le_yes (length cs) 65535 short) refl;
}

pub strings_read : StringsRead
unfolding tokens
strings_read cs rest all short = (string_reads cs all short).by rest

too_long : (n : ℕ) → 65535 < n → nat_le n 65535 ≡ false
too_long n h = grind (arith, nat_tests)

pub long_strings : LongStrings
unfolding tokens
long_strings cs rest all long =
    ap (λ l. tokens_from between (40 ∷ l)) (append_assoc (escapes cs) (41 ∷ []) rest) ∙ begins (escapes cs ++ 41 ∷ rest) ∙ passes [] (escapes cs) (41 ∷ rest) false (escapes_pass cs all) ∙
    ends (escapes cs) rest ∙ ap (λ o. text_of o ∷ tokens_from between rest) (escapes_say cs all) ∙ rw (too_long (length cs) long) refl

-- a code between others
escapes-append : (xs ys : List ℕ) → escapes (xs ++ ys) ≡ escapes xs ++ escapes ys
escapes-append [] ys = refl
escapes-append (x ∷ xs) ys = ap (λ l. escape x ++ l) (escapes-append xs ys) ∙ sym (append_assoc (escape x) (escapes xs) (escapes ys))

all_bytes-append : (xs ys : List ℕ) → AllBytes xs → AllBytes ys → AllBytes (xs ++ ys)
all_bytes-append [] ys f g = g
all_bytes-append (x ∷ xs) ys f g = (f.0, all_bytes-append xs ys f.1 g)

pub reads_back : (code : ℕ) → code < 256 → ReadsBack code (escape code)
reads_back code small before behind rest f g short =
    let n = length-append before (code ∷ behind) in
    ap tokens (ap (λ l. 40 ∷ l) (
    ap (λ l. escapes before ++ l) (ap (λ l. escape code ++ l) (sym (append_assoc (escapes behind) (41 ∷ []) rest)) ∙ sym (append_assoc (escape code) (escapes behind ++ 41 ∷ []) rest)) ∙
    sym (append_assoc (escapes before) (escape code ++ (escapes behind ++ 41 ∷ [])) rest) ∙
    ap (λ l. l ++ rest) (ap (λ l. escapes before ++ l) (sym (append_assoc (escape code) (escapes behind) (41 ∷ []))) ∙ sym (append_assoc (escapes before) (escapes (code ∷ behind)) (41 ∷ [])) ∙ ap (λ l. l ++ 41 ∷ []) (sym (escapes-append before (code ∷ behind))))
    )) ∙
    strings_read (before ++ code ∷ behind) rest (all_bytes-append before (code ∷ behind) f (small, g)) (omega (arith, n, short))

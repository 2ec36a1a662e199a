-- Strings as a text writes them (PostScript Language Reference, 3.2: "Strings"): a visible character as it is, a parenthesis or backslash behind a backslash,
-- any other code as a backslash and three octal digits.
use Rattle.std.specs.Prelude.{ℕ, ◌+◌, ◌/◌, ◌%◌, ◌<◌, ◌≤◌, ◌≡◌, List, [], ◌∷◌, ◌++◌, length, codes, ◌&&◌, ◌||◌, nat_eq, nat_le, if◌then◌else◌}
use Rattle.ps_subset.specs.Token.{Text, Meaningless}
use Rattle.ps_subset.specs.Reading.{tokens}
use Rattle.ps_subset.specs.Fonts.{AllBytes}

-- a code in a string
abbrev pub escape : ℕ → List ℕ
escape c =
    if nat_eq c 40 || nat_eq c 41 || nat_eq c 92 then (92 ∷ c ∷ [])
    else if nat_le 32 c && nat_le c 126 then (c ∷ [])
    else (92 ∷ (48 + c / 64) ∷ (48 + c / 8 % 8) ∷ (48 + c % 8) ∷ [])

abbrev pub escapes : List ℕ → List ℕ
escapes [] = []
escapes (c ∷ cs) = escape c ++ escapes cs

abbrev pub string_text : List ℕ → List ℕ
string_text cs = codes "(" ++ (escapes cs ++ codes ")")

-- The text of a string, with its escapes, is read as the codes, whatever follows; a string of more than 65,535 codes has no meaning.
abbrev pub StringsRead : Type 0
StringsRead = (cs rest : List ℕ) → AllBytes cs → length cs ≤ 65535 → tokens (string_text cs ++ rest) ≡ Text cs ∷ tokens rest

abbrev pub LongStrings : Type 0
LongStrings = (cs rest : List ℕ) → AllBytes cs → 65535 < length cs → tokens (string_text cs ++ rest) ≡ Meaningless ∷ tokens rest

-- Between any two others in a string, these bytes are read as the code.
abbrev pub ReadsBack : ℕ → List ℕ → Type 0
ReadsBack code bytes =
    (before behind rest : List ℕ) → AllBytes before → AllBytes behind → length before + length behind < 65535 →
    tokens (codes "(" ++ (escapes before ++ (bytes ++ (escapes behind ++ (codes ")" ++ rest))))) ≡ Text (before ++ code ∷ behind) ∷ tokens rest

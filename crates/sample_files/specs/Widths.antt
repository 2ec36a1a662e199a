-- The TFM file of the font (TFM format): sixteen characters from the code 65 on, each with a width of its own.
use Rattle.std.specs.Prelude.{ℕ, zero, suc, ◌+◌, ◌*◌, List, [], ◌∷◌, ◌++◌}
use Rattle.sample_files.specs.Commands.{four, two}

-- The twelve lengths. The file has 44 words: 6 for these, 2 of header, 16 of characters, 17 widths and a height, a depth and an italic
-- correction, each 0.
abbrev pub lengths : List ℕ
lengths = two 44 ++ two 2 ++ two 65 ++ two 80 ++ two 17 ++ two 1 ++ two 1 ++ two 1 ++ two 0 ++ two 0 ++ two 0 ++ two 0

-- the check sum, and the design size: ten points as a fix_word
abbrev pub header : List ℕ
header = four 0 ++ four (10 * 1048576)

-- the words of the first n characters: each has the width behind that of the character before
unfoldable pub infos : ℕ → List ℕ
infos zero = []
infos (suc n) = infos n ++ suc n ∷ 0 ∷ 0 ∷ 0 ∷ []

-- the width of character n as a fix_word
abbrev pub width : ℕ → ℕ
width n = 524288 + 16384 * n

-- the widths of the first n characters
unfoldable pub widths : ℕ → List ℕ
widths zero = []
widths (suc n) = widths n ++ four (width n)

-- the file; width 0 is that of no character
abbrev pub tfm : List ℕ
tfm = (lengths ++ header) ++ infos 16 ++ four 0 ++ widths 16 ++ (four 0 ++ four 0 ++ four 0)

-- A page of the document: forty rows of sixty characters, and a rule.
use Rattle.std.specs.Prelude.{ℕ, zero, suc, ◌+◌, ◌*◌, List, [], ◌++◌, nat_eq, if◌then◌else◌}
use Rattle.sample_files.specs.Commands.{bop, definition, down, eop, pop, push, put_rule, right, select}
use Rattle.sample_files.specs.Letters.{after, codes}

-- n times ten characters with a move right behind them; a character is set by its code, since all are below 128
unfoldable pub words : ℕ → ℕ → List ℕ
words zero s = []
words (suc n) s = words n s ++ (codes 10 (after (n * 10) s) ++ right 218453)

-- row r, counted from 0
unfoldable pub row : ℕ → ℕ → List ℕ
row r s = push ++ down ((r + 1) * 786432) ++ words 6 s ++ pop

-- the first n rows
unfoldable pub rows : ℕ → ℕ → List ℕ
rows zero s = []
rows (suc n) s = rows n s ++ row n (after (n * 60) s)

-- the beginning of page i, counted from 1; the first one defines the font
abbrev pub start : ℕ → ℕ → List ℕ
start i back = bop i back ++ (if nat_eq i 1 then definition else []) ++ select

-- page i, with the place of the bop before, and the state of the generator
unfoldable pub page : ℕ → ℕ → ℕ → List ℕ
page i back s = start i back ++ rows 40 s ++ put_rule 26214 23592960 ++ eop

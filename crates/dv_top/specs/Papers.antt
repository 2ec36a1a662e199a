-- The paper of a job: its width and height in scaled points.
use Rattle.std.specs.Prelude.{◌<◌, ◌^◌, ℕ, ℤ, pos, unsigned_abs, List, [], ◌∷◌, Option, Some, None}
use Rattle.std.specs.Option.{unwrap_or}
use Rattle.positions.specs.Mark.{Mark}
use Rattle.specials.specs.Special.{Meaning, special_of}
use Rattle.specials.specs.Special.Meaning.{Paper, BadPaper, Header, Literal, Unknown}
use Rattle.dv_top.specs.Specials.{first_page, specials_in}

-- 8.5 by 11 inches
abbrev pub letter : ℤ × ℤ
letter = (pos 40258437, pos 52099153)

-- its sizes are below 2^31
abbrev pub IsSmallPaper : ℤ × ℤ → Type 0
IsSmallPaper paper = (unsigned_abs paper.0 < 2 ^ 31) × (unsigned_abs paper.1 < 2 ^ 31)

-- the paper behind a special: the one that it names, where it names one, else the one before
abbrev pub paper_by : Option (ℤ × ℤ) → Meaning → Option (ℤ × ℤ)
paper_by paper (Paper width height) = Some (width, height)
paper_by paper BadPaper = paper
paper_by paper (Header name) = paper
paper_by paper (Literal text) = paper
paper_by paper Unknown = paper

-- the last paper that specials name, where they name one, else the one before
abbrev pub paper_after : Option (ℤ × ℤ) → List (List ℕ) → Option (ℤ × ℤ)
paper_after paper [] = paper
paper_after paper (special ∷ specials) = paper_after (paper_by paper (special_of special)) specials

-- The paper of words; else the last one that a special of the first page names; else letter.
abbrev pub paper_of : Option (ℤ × ℤ) → List (List Mark) → ℤ × ℤ
paper_of (Some paper) pages = paper
paper_of None pages = unwrap_or (paper_after None (specials_in (first_page pages))) letter

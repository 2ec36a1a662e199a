-- What the bytes of a special say (the DVI format leaves them free; these forms are those of dvips, the details this project's own):
--   papersize=W,H   the paper's width and height
--   header=NAME     a file to be sent before the pages
--   ps:TEXT         a text to be passed on as it stands
use Rattle.std.specs.Prelude.{ℕ, ℤ, pos, List, [], ◌∷◌, Bool, Option, Some, None, length, drop, take, nat_eq, int_lt, codes, ◌-◌, if◌then◌else◌, ◌&&◌, ◌||◌}
use Rattle.std.specs.Option.{option_map, is_some, unwrap_or}
use Rattle.std.specs.List.{prefix_len, suffix_len, before_first, after_first}
use Rattle.specials.specs.Commas.{is_comma}
use Rattle.specials.specs.Dimension.{dimension_of}
use Rattle.specials.specs.FileNames.{is_file_name}

pub data Meaning : Type 0 where
  Paper : (width height : ℤ) → Meaning
  BadPaper : Meaning
  Header : (name : List ℕ) → Meaning
  Literal : (text : List ℕ) → Meaning
  Unknown : Meaning

abbrev pub is_space : ℕ → Bool
is_space byte = nat_eq byte 32

abbrev pub without_leading_spaces : List ℕ → List ℕ
without_leading_spaces text = drop (prefix_len is_space text) text

abbrev pub without_trailing_spaces : List ℕ → List ℕ
without_trailing_spaces text = take (length text - suffix_len is_space text) text

abbrev pub trimmed : List ℕ → List ℕ
trimmed text = without_trailing_spaces (without_leading_spaces text)

-- what follows the key, where the text begins with it
abbrev pub after : List ℕ → List ℕ → Option (List ℕ)
after [] text = Some text
after (k ∷ key) [] = None
after (k ∷ key) (c ∷ text) = if nat_eq k c then after key text else None

-- two sizes above 0
abbrev pub paper_of : Option ℤ → Option ℤ → Meaning
paper_of (Some width) (Some height) = if int_lt (pos 0) width && int_lt (pos 0) height then Paper width height else BadPaper
paper_of (Some width) None = BadPaper
paper_of None height = BadPaper

-- Two dimensions with a comma between and spaces round each. Without a comma nothing stands for the second, which is no dimension.
abbrev pub paper_in : List ℕ → Meaning
paper_in text = paper_of (dimension_of (trimmed (before_first is_comma text))) (dimension_of (trimmed (after_first is_comma text)))

abbrev pub header_in : List ℕ → Meaning
header_in name = if is_file_name name then Header name else Unknown

-- `ps::` and `ps: plotfile` are other specials of dvips, and mean nothing here
abbrev pub literal_in : List ℕ → Meaning
literal_in text =
    if is_some (after (codes ":") text) || is_some (after (codes "plotfile") (without_leading_spaces text)) then Unknown else Literal text

abbrev pub keyed : List ℕ → Meaning
keyed text =
    unwrap_or (option_map paper_in (after (codes "papersize=") text))
    (unwrap_or (option_map header_in (after (codes "header=") text))
    (unwrap_or (option_map literal_in (after (codes "ps:") text)) Unknown))

abbrev pub special_of : List ℕ → Meaning
special_of bytes = keyed (without_leading_spaces bytes)

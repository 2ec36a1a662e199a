-- Names of files in words.
use Rattle.std.specs.Prelude.{ℕ, List, ◌++◌, Bool, Option, Some, None, nat_eq, length, take, codes, ◌-◌, ◌||◌, if◌then◌else◌}
use Rattle.std.specs.Cmp.Lexicographic.{pointwise}
use Rattle.std.specs.List.{ends_with}
use Rattle.specials.specs.FileNames.{is_file_name}

abbrev pub is_word : List ℕ → List ℕ → Bool
is_word a b = pointwise nat_eq a b

-- the word, where it is the name of a file
abbrev pub name_of : List ℕ → Option (List ℕ)
name_of word = if is_file_name word then Some word else None

-- whether the name ends with `.dvi`
abbrev pub is_dvi : List ℕ → Bool
is_dvi name = ends_with nat_eq name (codes ".dvi")

-- A DVI file's name as it is looked for: `.dvi` is appended to a name that has it not. `-` stands for a stream.
abbrev pub with_dvi : List ℕ → List ℕ
with_dvi name = if is_word name (codes "-") || is_dvi name then name else name ++ codes ".dvi"

-- the name of the text that is printed of this input: `.ps` in place of `.dvi`; a stream goes to a stream
abbrev pub printed_name : List ℕ → List ℕ
printed_name input = if is_dvi input then take (length input - 4) input ++ codes ".ps" else input

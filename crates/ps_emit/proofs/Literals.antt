-- What is passed on of a special is not longer than the special.
use Rattle.std.proofs.Common.{◌≡◌, ◌≤◌, ℕ, Bool, true, false, List, [], ◌∷◌, length, Option, Some, None, arith, refl, ap, sym, ◌∙◌}
use Rattle.std.specs.Prelude.{codes, nat_eq, if◌then◌else◌, ◌||◌, ℤ, int_lt, pos, ◌&&◌}
use Rattle.std.specs.Option.{option_map, is_some, unwrap_or}
use Rattle.std.specs.List.{prefix_len, before_first, after_first}
use Rattle.std.proofs.lemmas.List.{length-drop}
use Rattle.specials.specs.Commas.{is_comma}
use Rattle.specials.specs.Dimension.{dimension_of}
use Rattle.specials.specs.FileNames.{is_file_name}
use Rattle.specials.specs.Special.{is_space, trimmed, without_leading_spaces, after, paper_of, paper_in, header_in, literal_in, keyed}
use Rattle.specials.specs.Special.Meaning.{Paper, BadPaper, Header, Literal, Unknown}
use Rattle.ps_emit.specs.Shapes.{literal_of, passed_on}

after_short : (key text rest : List ℕ) → after key text ≡ Some rest → length rest ≤ length text
after_short [] text rest e = let same : text ≡ rest = cc in omega (arith, ap length same)
after_short (k ∷ key) [] rest e = absurd cc
after_short (k ∷ key) (c ∷ text) rest e = go (nat_eq k c) e (after_short key text rest)
  where
    go : (b : Bool) → (if b then after key text else None) ≡ Some rest → (after key text ≡ Some rest → length rest ≤ length text) → length rest ≤ length (c ∷ text)
    go true h short = let n = short h in omega (arith, n)
    go false h short = absurd cc

-- neither a paper nor a header is a literal text
paper_none : (a b : Option ℤ) → literal_of (paper_of a b) ≡ None
paper_none None b = refl
paper_none (Some w) None = refl
paper_none (Some w) (Some h) = go (int_lt (pos 0) w && int_lt (pos 0) h)
  where
    go : (b : Bool) → literal_of (if b then Paper w h else BadPaper) ≡ None
    go true = refl
    go false = refl

header_none : (name : List ℕ) → literal_of (header_in name) ≡ None
header_none name = go (is_file_name name)
  where
    go : (b : Bool) → literal_of (if b then Header name else Unknown) ≡ None
    go true = refl
    go false = refl

literal_short : (given text : List ℕ) → literal_of (literal_in given) ≡ Some text → given ≡ text
literal_short given text e = go (is_some (after (codes ":") given) || is_some (after (codes "plotfile") (without_leading_spaces given))) e
  where
    go : (b : Bool) → literal_of (if b then Unknown else Literal given) ≡ Some text → given ≡ text
    go true h = absurd cc
    go false h = cc

never : (text : List ℕ) → None ≡ Some text → ⊥
never text e = absurd cc

keyed_short : (bytes text : List ℕ) → literal_of (keyed bytes) ≡ Some text → length text ≤ length bytes
keyed_short bytes text e = one (after (codes "papersize=") bytes) (after (codes "header=") bytes) (after (codes "ps:") bytes) refl e
  where
    one : (p h l : Option (List ℕ)) → after (codes "ps:") bytes ≡ l
        → literal_of (unwrap_or (option_map paper_in p) (unwrap_or (option_map header_in h) (unwrap_or (option_map literal_in l) Unknown))) ≡ Some text → length text ≤ length bytes
    one (Some p) h l is k = absurd (never text (sym (paper_none (dimension_of (trimmed (before_first is_comma p))) (dimension_of (trimmed (after_first is_comma p)))) ∙ k))
    one None (Some h) l is k = absurd (never text (sym (header_none h) ∙ k))
    one None None (Some l) is k = let n = after_short (codes "ps:") bytes l is in omega (arith, n, ap length (literal_short l text k))
    one None None None is k = absurd cc

pub passed_short : (pass : Bool) (bytes text : List ℕ) → passed_on pass bytes ≡ Some text → length text ≤ length bytes
passed_short true bytes text e =
    let n = keyed_short (without_leading_spaces bytes) text e in
    omega (arith, n, length-drop (prefix_len is_space bytes) bytes)
passed_short false bytes text e = absurd cc

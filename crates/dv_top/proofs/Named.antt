-- The name of a header special is short.
use Rattle.std.proofs.Common.{◌≡◌, ◌≤◌, ℕ, ℤ, Bool, true, false, List, [], ◌∷◌, Option, Some, None, length, refl, sym, ap, ◌∙◌, arith, subst, rules}
use Rattle.std.specs.Prelude.{◌&&◌, ◌||◌, pos, int_lt, nat_le, codes, if◌then◌else◌}
use Rattle.std.specs.Option.{is_some, option_map, unwrap_or}
use Rattle.std.specs.List.{after_first, before_first, list_all}
use Rattle.std.proofs.lemmas.Bool.Decides.{nat_tests}
use Rattle.specials.specs.Commas.{is_comma}
use Rattle.specials.specs.Dimension.{dimension_of}
use Rattle.specials.specs.FileNames.{is_file_name, is_visible}
use Rattle.specials.specs.Special.{Meaning, header_in, literal_in, paper_in, paper_of, special_of, after, trimmed, without_leading_spaces}
use Rattle.specials.specs.Special.Meaning.{Paper, BadPaper, Header, Literal, Unknown}
use Rattle.dv_top.specs.Headers.{IsShortName}

both_last : (a b c : Bool) → (a && (b && c)) ≡ true → c ≡ true
both_last true true c e = e
both_last true false c e = absurd cc
both_last false b c e = absurd cc

short_name : (b : Bool) (name : List ℕ) → is_file_name name ≡ b → IsShortName (if b then Header name else Unknown)
short_name true name e =
    let few : nat_le (length name) 500 ≡ true = both_last (list_all is_visible name) (nat_le 1 (length name)) (nat_le (length name) 500) e in
    grind (arith, nat_tests)
short_name false name e = tt

if_paper : (b : Bool) (w h : ℤ) → IsShortName (if b then Paper w h else BadPaper)
if_paper true w h = tt
if_paper false w h = tt

papers : (w h : Option ℤ) → IsShortName (paper_of w h)
papers (Some w) (Some h) = if_paper (int_lt (pos 0) w && int_lt (pos 0) h) w h
papers (Some w) None = tt
papers None (Some h) = tt
papers None None = tt

if_literal : (b : Bool) (text : List ℕ) → IsShortName (if b then Unknown else Literal text)
if_literal true text = tt
if_literal false text = tt

keys : (a b c : Option (List ℕ)) → IsShortName (unwrap_or (option_map paper_in a) (unwrap_or (option_map header_in b) (unwrap_or (option_map literal_in c) Unknown)))
keys (Some t) b c = papers (dimension_of (trimmed (before_first is_comma t))) (dimension_of (trimmed (after_first is_comma t)))
keys None (Some t) c = short_name (is_file_name t) t refl
keys None None (Some t) = if_literal (is_some (after (codes ":") t) || is_some (after (codes "plotfile") (without_leading_spaces t))) t
keys None None None = tt

pub special_short : (bytes : List ℕ) → IsShortName (special_of bytes)
special_short bytes =
    let text = without_leading_spaces bytes in
    keys (after (codes "papersize=") text) (after (codes "header=") text) (after (codes "ps:") text)

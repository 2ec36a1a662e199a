-- The sizes of a paper are below 2^31 scaled points.
use Rattle.std.proofs.Common.{◌≡◌, ◌<◌, ◌^◌, ℕ, ℤ, pos, neg_ℤ, Bool, true, false, List, [], ◌∷◌, Option, Some, None, length, refl, ap, arith}
use Rattle.std.specs.Prelude.{◌&&◌, ◌||◌, IfSome, unsigned_abs, int_lt, nat_eq, nat_lt, codes, if◌then◌else◌}
use Rattle.std.specs.List.{after_first, before_first}
use Rattle.std.specs.Option.{is_some, option_map, option_or, unwrap_or}
use Rattle.std.proofs.lemmas.Bool.Decides.{nat_tests}
use Rattle.std.proofs.lemmas.Int.{ints}
use Rattle.positions.specs.Mark.{Mark}
use Rattle.specials.specs.Commas.{is_comma}
use Rattle.specials.specs.Decimals.{behind_digits, digits_of}
use Rattle.specials.specs.Dimension.{are_few, dimension_of, if_small, part_of, scaled_points, size_of, sized, unit_of}
use Rattle.specials.specs.FileNames.{is_file_name}
use Rattle.specials.specs.Special as special
use Rattle.specials.specs.Special.{Meaning, after, header_in, literal_in, paper_in, special_of, trimmed, without_leading_spaces}
use Rattle.specials.specs.Special.Meaning.{Paper, BadPaper, Header, Literal, Unknown}
use Rattle.specials.specs.Units.{ratio_of}
use Rattle.dv_top.specs.Papers.{IsSmallPaper, letter, paper_after, paper_by, paper_of}
use Rattle.dv_top.specs.Specials.{first_page, specials_in}

small_is : (n : ℕ) (b : Bool) → nat_lt n (2 ^ 31) ≡ b → IfSome (if b then Some n else None) (λ m. m < 2 ^ 31)
small_is n true e = grind (arith, nat_tests)
small_is n false e = tt

few_is : (b : Bool) (n : ℕ) → IfSome (if b then if_small n else None) (λ m. m < 2 ^ 31)
few_is true n = small_is n (nat_lt n (2 ^ 31)) refl
few_is false n = tt

sized_is : (whole part : List ℕ) (o : Option (ℕ × ℕ)) → IfSome (sized whole part o) (λ m. m < 2 ^ 31)
sized_is whole part None = tt
sized_is whole part (Some ratio) = few_is (are_few (length whole) (length part)) (scaled_points whole part ratio)

size_is : (text : List ℕ) → IfSome (size_of text) (λ m. m < 2 ^ 31)
size_is text = sized_is (digits_of text) (part_of (behind_digits text)) (ratio_of (unit_of (behind_digits text)))

sign_is : (b : Bool) (o p : Option ℕ) → IfSome o (λ m. m < 2 ^ 31) → IfSome p (λ m. m < 2 ^ 31) → IfSome (if b then option_map (λ n. neg_ℤ (pos n)) o else option_map pos p) (λ z. unsigned_abs z < 2 ^ 31)
sign_is true None p h k = tt
sign_is true (Some n) p h k = omega (arith, ints)
sign_is false o None h k = tt
sign_is false o (Some n) h k = k

dimension_is : (text : List ℕ) → IfSome (dimension_of text) (λ z. unsigned_abs z < 2 ^ 31)
dimension_is [] = tt
dimension_is (c ∷ cs) = sign_is (nat_eq c 45) (size_of cs) (size_of (c ∷ cs)) (size_is cs) (size_is (c ∷ cs))

abbrev IsSmall : Meaning → Type 0
IsSmall (Paper width height) = IsSmallPaper (width, height)
IsSmall BadPaper = Unit {0}
IsSmall (Header name) = Unit {0}
IsSmall (Literal text) = Unit {0}
IsSmall Unknown = Unit {0}

if_paper : (b : Bool) (w h : ℤ) → unsigned_abs w < 2 ^ 31 → unsigned_abs h < 2 ^ 31 → IsSmall (if b then Paper w h else BadPaper)
if_paper true w h x y = (x, y)
if_paper false w h x y = tt

papers : (w h : Option ℤ) → IfSome w (λ z. unsigned_abs z < 2 ^ 31) → IfSome h (λ z. unsigned_abs z < 2 ^ 31) → IsSmall (special.paper_of w h)
papers (Some w) (Some h) x y = if_paper (int_lt (pos 0) w && int_lt (pos 0) h) w h x y
papers (Some w) None x y = tt
papers None (Some h) x y = tt
papers None None x y = tt

if_header : (b : Bool) (name : List ℕ) → IsSmall (if b then Header name else Unknown)
if_header true name = tt
if_header false name = tt

if_literal : (b : Bool) (text : List ℕ) → IsSmall (if b then Unknown else Literal text)
if_literal true text = tt
if_literal false text = tt

keys : (a b c : Option (List ℕ)) → IsSmall (unwrap_or (option_map paper_in a) (unwrap_or (option_map header_in b) (unwrap_or (option_map literal_in c) Unknown)))
keys (Some t) b c =
    papers (dimension_of (trimmed (before_first is_comma t))) (dimension_of (trimmed (after_first is_comma t))) (dimension_is (trimmed (before_first is_comma t))) (dimension_is (trimmed (after_first is_comma t)))
keys None (Some t) c = if_header (is_file_name t) t
keys None None (Some t) = if_literal (is_some (after (codes ":") t) || is_some (after (codes "plotfile") (without_leading_spaces t))) t
keys None None None = tt

special_small : (bytes : List ℕ) → IsSmall (special_of bytes)
special_small bytes =
    let text = without_leading_spaces bytes in
    keys (after (codes "papersize=") text) (after (codes "header=") text) (after (codes "ps:") text)

by_small : (paper : Option (ℤ × ℤ)) (m : Meaning) → IfSome paper IsSmallPaper → IsSmall m → IfSome (paper_by paper m) IsSmallPaper
by_small paper (Paper w h) x y = y
by_small paper BadPaper x y = x
by_small paper (Header name) x y = x
by_small paper (Literal text) x y = x
by_small paper Unknown x y = x

after_small : (paper : Option (ℤ × ℤ)) (specials : List (List ℕ)) → IfSome paper IsSmallPaper → IfSome (paper_after paper specials) IsSmallPaper
after_small paper [] h = h
after_small paper (s ∷ ss) h = after_small (paper_by paper (special_of s)) ss (by_small paper (special_of s) h (special_small s))

or_letter : (paper : Option (ℤ × ℤ)) → IfSome paper IsSmallPaper → IsSmallPaper (unwrap_or paper letter)
or_letter None h = (omega arith, omega arith)
or_letter (Some p) h = h

pub paper_small : (words : Option (ℤ × ℤ)) (pages : List (List Mark)) → IfSome words IsSmallPaper → IsSmallPaper (paper_of words pages)
paper_small None pages h = or_letter (paper_after None (specials_in (first_page pages))) (after_small None (specials_in (first_page pages)) tt)
paper_small (Some p) pages h = h

pub paper_value : (words paper : Option (ℤ × ℤ)) (pages : List (List Mark)) → paper ≡ paper_after None (specials_in (first_page pages)) → unwrap_or (option_or words paper) letter ≡ paper_of words pages
paper_value None paper pages e = ap (λ (o : Option (ℤ × ℤ)). unwrap_or o letter) e
paper_value (Some p) paper pages e = refl

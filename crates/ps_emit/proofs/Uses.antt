-- What the marks of a section use, and the fonts that the section has for it.
use Rattle.std.proofs.Common.{◌≡◌, ◌<◌, ◌≤◌, ◌^◌, ◌+◌, ◌⊎◌, inl, inr, ⊎_elim, ℕ, Bool, true, false, List, [], ◌∷◌, ◌++◌, length, Option, Some, None, arith, refl, sym, ap, ◌∙◌, subst}
use Rattle.std.specs.Prelude.{ℤ, ◌||◌, ◌&&◌, nat_eq, unsigned_abs, slice_get}
use Rattle.std.proofs.lemmas.Bool.{cases_lt}
use Rattle.std.proofs.lemmas.Bool.Decides.{nat_tests}
use Rattle.std.proofs.lemmas.Option.{slice_get_past}
use Rattle.positions.specs.Mark.{Mark, Glyph}
use Rattle.positions.specs.Mark.Mark.{OfGlyph, OfRule, OfSpecial}
use Rattle.pk_raster.specs.Font.{Bitmap}
use Rattle.font_set.specs.Fonts.{FontSet, state_in, state_at, pk_in, bitmap_by, bitmap_at, pixels_at}
use Rattle.sections.specs.Below.{any_below}
use Rattle.sections.specs.Used.{is_used, used_in}
use Rattle.sections.proofs.Belows.{any_below_at, any_below_same}
use Rattle.ps_subset.specs.Fonts.{Letter, Font}
use Rattle.ps_subset.specs.Items.{IsIn, font_in}
use Rattle.ps_emit.specs.Letters.{glyph_of, letter_at, letter_by, put_letter, letters_of, used_codes, font_of, some_fonts, used_fonts, fonts_used}
use Rattle.ps_emit.specs.Taken.{IsTakeable, AllTakeable}
use Rattle.ps_emit.specs.Laws.{UsageGivesFonts}
use Rattle.ps_emit.proofs.Those.{Rising, IsListed, those_rising, those_listed, those_same}

-- The character has a bitmap and a width.
pub record IsShown (set : FontSet) (id code : ℕ) : Type 0 where
  pub bitmap : Bitmap
  pub width : ℤ
  pub small : code < 256
  pub bitmap_is : bitmap_at set id code ≡ Some bitmap
  pub width_is : pixels_at set id code ≡ Some width
  pub near : unsigned_abs width < 2 ^ 32

abbrev pub letter : ℕ → Bitmap → ℤ → Letter
letter code b width = record { code = code; glyph = glyph_of b width }

pub letter_is : (set : FontSet) (id code : ℕ) (b : Bitmap) (width : ℤ) → bitmap_at set id code ≡ Some b → pixels_at set id code ≡ Some width → letter_at set id code ≡ Some (letter code b width)
unfolding letter_at
letter_is set id code b width e f = λ i. letter_by code (e i) (f i)

pub shown_letter : (set : FontSet) (id code : ℕ) → (s : IsShown set id code) → letter_at set id code ≡ Some (letter code s.bitmap s.width)
shown_letter set id code s = letter_is set id code s.bitmap s.width s.bitmap_is s.width_is

-- a font that has a bitmap is one of the set
given_by : (set : FontSet) (id code : ℕ) (b : Bitmap) → bitmap_at set id code ≡ Some b → length set.fonts ≤ id → ⊥
unfolding bitmap_at state_at
given_by set id code b e h =
    let none : bitmap_by (pk_in (state_in (slice_get set.fonts id))) code ≡ None = ap (λ o. bitmap_by (pk_in (state_in o)) code) (slice_get_past set.fonts id h) in
    absurd (cc)

pub given : (set : FontSet) (id code : ℕ) (b : Bitmap) → bitmap_at set id code ≡ Some b → id < length set.fonts
given set id code b e = ⊎_elim (λ (h : id < length set.fonts). h) (λ (h : length set.fonts ≤ id). absurd (given_by set id code b e h)) (cases_lt id (length set.fonts))

shown_glyph : (set : FontSet) (g : Glyph) → IsTakeable set (OfGlyph g) → IsShown set g.font g.code
shown_glyph set g h = record { bitmap = (h.3).0; width = g.pixels; small = h.1; bitmap_is = (h.3).1; width_is = h.2; near = (h.0).5 }

same_number : (a b : ℕ) → nat_eq a b ≡ true → a ≡ b
same_number a b e = grind (arith, nat_tests, e)

same_test : (a : ℕ) → nat_eq a a ≡ true
same_test a = grind (arith, nat_tests)

-- each used character is shown by a mark
pub used_shown : (set : FontSet) (ms : List Mark) → AllTakeable set ms → (id code : ℕ) → used_in ms id code ≡ true → IsShown set id code
used_shown set [] all id code e = absurd cc
used_shown set (OfGlyph g ∷ ms) all id code e = go (nat_eq g.font id) refl (nat_eq g.code code) refl e (used_shown set ms all.1 id code)
  where
    go : (a : Bool) → nat_eq g.font id ≡ a → (b : Bool) → nat_eq g.code code ≡ b → ((a && b) || used_in ms id code) ≡ true → (used_in ms id code ≡ true → IsShown set id code) → IsShown set id code
    go true p true q h rest = subst (λ (n : ℕ). IsShown set n code) (same_number g.font id p) (subst (λ (n : ℕ). IsShown set g.font n) (same_number g.code code q) (shown_glyph set g all.0))
    go true p false q h rest = rest h
    go false p b q h rest = rest h
used_shown set (OfRule r ∷ ms) all id code e = used_shown set ms all.1 id code e
used_shown set (OfSpecial s ∷ ms) all id code e = used_shown set ms all.1 id code e

-- the glyphs of these marks are used
abbrev pub Uses : (ℕ → ℕ → Bool) → List Mark → Type 0
Uses used [] = Unit {0}
Uses used (OfGlyph g ∷ ms) = (used g.font g.code ≡ true) × Uses used ms
Uses used (OfRule r ∷ ms) = Uses used ms
Uses used (OfSpecial s ∷ ms) = Uses used ms

pub uses_wider : (used more : ℕ → ℕ → Bool) (ms : List Mark) → ((id code : ℕ) → used id code ≡ true → more id code ≡ true) → Uses used ms → Uses more ms
uses_wider used more [] h u = tt
uses_wider used more (OfGlyph g ∷ ms) h u = (h g.font g.code u.0, uses_wider used more ms h u.1)
uses_wider used more (OfRule r ∷ ms) h u = uses_wider used more ms h u
uses_wider used more (OfSpecial s ∷ ms) h u = uses_wider used more ms h u

or_right : (a b : Bool) → b ≡ true → (a || b) ≡ true
or_right true b e = refl
or_right false b e = e

or_left : (a b : Bool) → a ≡ true → (a || b) ≡ true
or_left true b e = refl
or_left false b e = absurd cc

pub marks_use : (ms : List Mark) → Uses (used_in ms) ms
marks_use [] = tt
marks_use (OfGlyph g ∷ ms) =
    (rw (same_test g.font, same_test g.code) refl, uses_wider (used_in ms) (used_in (OfGlyph g ∷ ms)) ms (λ id code e. or_right (nat_eq g.font id && nat_eq g.code code) (used_in ms id code) e) (marks_use ms))
marks_use (OfRule r ∷ ms) = marks_use ms
marks_use (OfSpecial s ∷ ms) = marks_use ms

pub used_first : (xs ys : List Mark) (id code : ℕ) → used_in xs id code ≡ true → used_in (xs ++ ys) id code ≡ true
used_first [] ys id code e = absurd cc
used_first (OfGlyph g ∷ xs) ys id code e = go (nat_eq g.font id && nat_eq g.code code) e (used_first xs ys id code)
  where
    go : (a : Bool) → (a || used_in xs id code) ≡ true → (used_in xs id code ≡ true → used_in (xs ++ ys) id code ≡ true) → (a || used_in (xs ++ ys) id code) ≡ true
    go true h rest = refl
    go false h rest = rest h
used_first (OfRule r ∷ xs) ys id code e = used_first xs ys id code e
used_first (OfSpecial s ∷ xs) ys id code e = used_first xs ys id code e

pub used_later : (xs ys : List Mark) (id code : ℕ) → used_in ys id code ≡ true → used_in (xs ++ ys) id code ≡ true
used_later [] ys id code e = e
used_later (OfGlyph g ∷ xs) ys id code e = or_right (nat_eq g.font id && nat_eq g.code code) (used_in (xs ++ ys) id code) (used_later xs ys id code e)
used_later (OfRule r ∷ xs) ys id code e = used_later xs ys id code e
used_later (OfSpecial s ∷ xs) ys id code e = used_later xs ys id code e

-- a used character's letter is one of its font's
letter_in : (set : FontSet) (id code : ℕ) (l : Letter) (cs : List ℕ) → letter_at set id code ≡ Some l → IsListed code cs → IsIn l (letters_of set id cs)
letter_in set id code l [] e h = absurd h
letter_in set id code l (c ∷ cs) e (inl same) =
    subst (λ (o : Option Letter). IsIn l (put_letter o (letters_of set id cs))) (sym e ∙ ap (letter_at set id) (sym same)) (inl refl)
letter_in set id code l (c ∷ cs) e (inr h) = go (letter_at set id c) (letter_in set id code l cs e h)
  where
    go : (o : Option Letter) → IsIn l (letters_of set id cs) → IsIn l (put_letter o (letters_of set id cs))
    go None i = i
    go (Some x) i = inr i

font_found : (set : FontSet) (used : ℕ → ℕ → Bool) (id : ℕ) (ids : List ℕ) → IsListed id ids → font_in (some_fonts set used ids) id ≡ Some (font_of set used id)
font_found set used id [] h = absurd h
font_found set used id (i ∷ ids) h = go (nat_eq i id) refl h (font_found set used id ids)
  where
    go : (b : Bool) → nat_eq i id ≡ b → (i ≡ id) ⊎ IsListed id ids → (IsListed id ids → font_in (some_fonts set used ids) id ≡ Some (font_of set used id)) → font_in (some_fonts set used (i ∷ ids)) id ≡ Some (font_of set used id)
    go true e k rest = rw e (ap (λ n. Some (font_of set used n)) (same_number i id e))
    go false e (inl same) rest = absurd (grind (arith, nat_tests, e, same))
    go false e (inr k) rest = rw e (rest k)

-- the font of a used character, with its letter
pub record HasLetter (set : FontSet) (used : ℕ → ℕ → Bool) (id code : ℕ) (l : Letter) : Type 0 where
  pub font : Font
  pub font_is : font_in (fonts_used set used) id ≡ Some font
  pub inside : IsIn l font.letters

pub has_letter : (set : FontSet) (used : ℕ → ℕ → Bool) (id code : ℕ) (l : Letter) → id < length set.fonts → code < 256 → used id code ≡ true → letter_at set id code ≡ Some l → HasLetter set used id code l
has_letter set used id code l g h u e = record {
  font = font_of set used id;
  font_is = font_found set used id (used_fonts set used) (those_listed (λ i. any_below (used i) 256) (length set.fonts) id g (any_below_at (used id) code 256 h u));
  inside = letter_in set id code l (used_codes (used id)) e (those_listed (used id) 256 code h u);
}

-- the same characters give the same fonts
fonts_same : (set : FontSet) (f g : ℕ → ℕ → Bool) (n least : ℕ) (test : ℕ → Bool) (ids : List ℕ) → ((id code : ℕ) → id < n → code < 256 → f id code ≡ g id code) → Rising test least n ids → some_fonts set f ids ≡ some_fonts set g ids
fonts_same set f g n least test [] h r = refl
fonts_same set f g n least test (id ∷ ids) h r =
    λ i. record { id = id; letters = letters_of set id (those_same (f id) (g id) 256 (λ code k. h id code r.1 k) i) } ∷ fonts_same set f g n (id + 1) test ids h r.3 i

pub usage_gives_fonts : UsageGivesFonts
usage_gives_fonts set u marks taken same =
    let n = length set.fonts in
    let each : (id code : ℕ) → id < n → code < 256 → is_used u id code ≡ used_in marks id code = λ id code h k. taken.exactly id code (omega (arith, h, same)) k in
    fonts_same set (is_used u) (used_in marks) n 0 (λ id. any_below (is_used u id) 256) (used_fonts set (is_used u)) each (those_rising (λ id. any_below (is_used u id) 256) n)
    ∙ ap (some_fonts set (used_in marks))
    (those_same (λ id. any_below (is_used u id) 256) (λ id. any_below (used_in marks id) 256) n (λ id h. any_below_same (is_used u id) (used_in marks id) 256 (λ code k. each id code h k)))

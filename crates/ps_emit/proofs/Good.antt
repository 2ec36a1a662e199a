-- The text of a good job is a good text.
use Rattle.std.proofs.Common.{◌≡◌, refl, sym, ap, ◌∙◌, subst, ℕ, ◌<◌, ◌≤◌, ◌+◌, ◌*◌, ◌^◌, zero, suc, List, [], ◌∷◌, ◌++◌, length, Bool, true, false, Option, Some, None, arith}
use Rattle.std.specs.Prelude.{codes, decimal, ℤ, pos, negsuc, ◌+ℤ◌, unsigned_abs, nat_eq, not, map, slice_index}
use Rattle.std.proofs.lemmas.Int.{ints}
use Rattle.std.specs.List.{list_all, AllByRecursion}
use Rattle.std.proofs.lemmas.Bool.Decides.{nat_tests}
use Rattle.std.proofs.lemmas.List.Elements.{Contains-push, Contains-append_left, Contains-append_right}
use Rattle.std.proofs.Math.Nat.{le-mul_of_pos_right, mul_comm}
use Rattle.dv_base.specs.FileName as name
use Rattle.positions.specs.Mark as mark
use Rattle.positions.specs.Mark.Mark.{OfGlyph, OfRule, OfSpecial}
use Rattle.pk_raster.specs.Font.{Bitmap}
use Rattle.pk_raster.specs.Laws.{AreRows}
use Rattle.font_set.specs.Fonts.{FontSet}
use Rattle.sections.specs.Below.{any_below}
use Rattle.sections.specs.Used.{used_in}
use Rattle.ps_subset.specs.MaskEffects.{row_bytes, rows_mark}
use Rattle.ps_subset.specs.Fonts.{AllBytes, Letter, printed, has_black, IsGoodGlyph}
use Rattle.ps_subset.specs.FontText.{AllGoodLetters, AllGoodFonts}
use Rattle.ps_subset.specs.Lines.{AllNotes, is_one_line}
use Rattle.ps_subset.specs.Marked.{AllGoodMarks, AllGoodSections}
use Rattle.ps_subset.specs.Marked as marked
use Rattle.ps_subset.proofs.Numbers.{and_left, and_right, one_line-append, one_line-decimal}
use Rattle.ps_emit.specs.declared.setup.Setup.{Setup}
use Rattle.ps_emit.specs.Setup.{head_of, points_up}
use Rattle.ps_emit.specs.Letters.{glyph_of, put_letter, letters_of, used_codes, some_fonts, used_fonts, fonts_used}
use Rattle.ps_emit.specs.Shapes.{passed_on, glyph_shape, special_shape, shapes_of}
use Rattle.ps_emit.specs.Taken.{AllTakeable}
use Rattle.ps_emit.specs.Pages.{PrintedPage, marks_of, page_of, section_of}
use Rattle.ps_emit.specs.Laws.{is_visible, IsGoodSetup, IsGoodSet, AllGoodPages, TextIsGood, EachIsTakeable}
use Rattle.ps_emit.proofs.Blank.{no_columns}
use Rattle.ps_emit.proofs.Literals.{passed_short}
use Rattle.ps_emit.proofs.Those.{Rising, those_rising}
use Rattle.ps_emit.proofs.Uses.{IsShown, letter, letter_is, shown_letter, given, used_shown, Uses, uses_wider, marks_use, used_first, used_later, has_letter}

-- ---- the head

visible_stays : (b : ℕ) → is_visible b ≡ true → not (nat_eq b 10) ≡ true
visible_stays b h = grind (arith, nat_tests)

one_line-visible : (bytes : List ℕ) → list_all is_visible bytes ≡ true → is_one_line bytes ≡ true
one_line-visible [] h = refl
one_line-visible (b ∷ bs) h = rw (visible_stays b (and_left (is_visible b) (list_all is_visible bs) h), one_line-visible bs (and_right (is_visible b) (list_all is_visible bs) h)) refl

points_fit : (length : ℤ) → unsigned_abs length < 2 ^ 63 → points_up length < 2 ^ 64
points_fit length h = omega arith

head_good : (comments : Bool) (s : Setup) → IsGoodSetup s → AllNotes (head_of comments s)
head_good false s good = (refl, refl, tt)
head_good true s good =
    let box = one_line-append (codes "%%BoundingBox: 0 0 ") (decimal (points_up s.paper.0) ++ 32 ∷ decimal (points_up s.paper.1)) refl
    (one_line-append (decimal (points_up s.paper.0)) (32 ∷ decimal (points_up s.paper.1)) (one_line-decimal (points_up s.paper.0) (points_fit s.paper.0 good.width)) (one_line-decimal (points_up s.paper.1) (points_fit s.paper.1 good.height))) in (
      refl,
      refl,
      (
        refl,
        refl,
        (
          refl,
          one_line-append (codes "%%Title: ") (name.text_of s.title) refl (one_line-visible (name.text_of s.title) good.title),
          (
            refl,
            one_line-append (codes "%%Pages: ") (decimal s.pages) refl (one_line-decimal s.pages (omega (arith, good.pages))),
            (refl, box, (refl, refl, tt)),
          ),
        ),
      ),
    )

-- ---- glyphs and fonts

bytes_good : (bytes : List ℕ) → ((i : ℕ) → slice_index bytes i < 256) → AllBytes bytes
bytes_good [] h = tt
bytes_good (b ∷ bs) h = (h 0, bytes_good bs (λ i. h (suc i)))

glyph_good : (b : Bitmap) (width : ℤ) → AreRows b → unsigned_abs width < 2 ^ 32 → IsGoodGlyph (printed (glyph_of b width))
glyph_good b width good near = go (has_black (glyph_of b width)) refl b.w refl b.h refl
  where
    white : true ≡ false → ⊥
    white k = absurd cc

    blank : has_black (glyph_of b width) ≡ false → IsGoodGlyph (printed (glyph_of b width))
    blank e = rw e (record {
      columns_some = omega arith;
      columns = omega arith;
      rows_some = omega arith;
      rows = omega arith;
      hoff = omega arith;
      voff = omega arith;
      width = omega (arith, near);
      exact = refl;
      short = omega arith;
      are_bytes = (omega arith, tt);
    })

    go : (black : Bool) → has_black (glyph_of b width) ≡ black → (w : ℕ) → b.w ≡ w → (h : ℕ) → b.h ≡ h → IsGoodGlyph (printed (glyph_of b width))
    go false e w p h q = blank e
    go true e zero p h q = absurd (white (sym e ∙ (λ i. rows_mark (p i) b.h b.rows) ∙ no_columns b.h b.rows))
    go true e (suc w) p zero q = absurd (white (sym e ∙ (λ i. rows_mark b.w (q i) b.rows)))
    go true e (suc w) p (suc h) q =
        let row = row_bytes b.w in
        let some : 0 < row = omega (arith, p) in
        let high : b.h ≤ b.h * row = le-mul_of_pos_right b.h some in
        let wide : row ≤ row * b.h = le-mul_of_pos_right row (omega (arith, q)) in
        let same : row * b.h ≡ b.h * row = mul_comm row b.h in
        rw e (record {
          columns_some = omega (arith, p);
          columns = omega (arith, wide, same, good.count, good.short);
          rows_some = omega (arith, q);
          rows = omega (arith, high, good.count, good.short);
          hoff = omega (arith, good.right);
          voff = omega (arith, good.down);
          width = omega (arith, near);
          exact = good.count;
          short = good.short;
          are_bytes = bytes_good b.rows good.bytes;
        })

-- letters whose codes rise
letters_wider : (least more : ℕ) (ls : List Letter) → more ≤ least → AllGoodLetters least ls → AllGoodLetters more ls
letters_wider least more [] h all = tt
letters_wider least more (l ∷ ls) h all = (omega (arith, h, all.0), all.1, all.2, all.3)

letters_good : (set : FontSet) (id : ℕ) (used : ℕ → Bool) (least : ℕ) (cs : List ℕ) → IsGoodSet set → ((code : ℕ) → used code ≡ true → IsShown set id code) → Rising used least 256 cs → AllGoodLetters least (letters_of set id cs)
letters_good set id used least [] good shown r = tt
letters_good set id used least (c ∷ cs) good shown r =
    let s = shown c r.2 in
    subst (λ (o : Option Letter). AllGoodLetters least (put_letter o (letters_of set id cs))) (sym (shown_letter set id c s))
    (r.0, r.1, glyph_good s.bitmap s.width (good.rows id c s.bitmap s.bitmap_is) s.near, letters_good set id used (c + 1) cs good shown r.3)

fonts_good : (set : FontSet) (used : ℕ → ℕ → Bool) (test : ℕ → Bool) (least limit : ℕ) (ids : List ℕ) → limit ≤ 1000 → IsGoodSet set → ((id code : ℕ) → used id code ≡ true → IsShown set id code) → Rising test least limit ids → AllGoodFonts least (some_fonts set used ids)
fonts_good set used test least limit [] few good shown r = tt
fonts_good set used test least limit (id ∷ ids) few good shown r =
    (r.0, omega (arith, few, r.1), letters_good set id (used id) 0 (used_codes (used id)) good (shown id) (those_rising (used id) 256), fonts_good set used test (id + 1) limit ids few good shown r.3)

-- rising numbers below a limit are not more than it
rising_few : (test : ℕ → Bool) (least limit : ℕ) (ids : List ℕ) → least ≤ limit → Rising test least limit ids → length ids + least ≤ limit
rising_few test least limit [] h r = omega (arith, h)
rising_few test least limit (id ∷ ids) h r = let rest = rising_few test (id + 1) limit ids (omega (arith, r.1)) r.3 in omega (arith, r.0, rest)

fonts_many : (set : FontSet) (used : ℕ → ℕ → Bool) (ids : List ℕ) → length (some_fonts set used ids) ≡ length ids
fonts_many set used [] = refl
fonts_many set used (id ∷ ids) = ap suc (fonts_many set used ids)

-- ---- marks

plus : (a b : ℤ) → unsigned_abs (a +ℤ b) ≤ unsigned_abs a + unsigned_abs b
plus (pos a) (pos b) = omega (arith, ints)
plus (pos a) (negsuc b) = omega (arith, ints)
plus (negsuc a) (pos b) = omega (arith, ints)
plus (negsuc a) (negsuc b) = omega (arith, ints)

marks_good : (set : FontSet) (pass : Bool) (used : ℕ → ℕ → Bool) (ms : List mark.Mark) → AllTakeable set ms → Uses used ms → AllGoodMarks (fonts_used set used) (shapes_of set pass ms)
marks_good set pass used [] all uses = tt
marks_good set pass used (OfGlyph g ∷ ms) all uses =
    let h = all.0 in
    let l = letter g.code (h.3).0 g.pixels in
    let e = letter_is set g.font g.code (h.3).0 g.pixels (h.3).1 h.2 in
    let found = has_letter set used g.font g.code l (given set g.font g.code (h.3).0 (h.3).1) h.1 uses.0 e in
    let behind : unsigned_abs (g.x +ℤ g.pixels) < 2 ^ 61 = omega (arith, plus g.x g.pixels, (h.0).0, (h.0).5) in
    subst (λ (o : Option Letter). AllGoodMarks (fonts_used set used) (glyph_shape o g ++ shapes_of set pass ms)) (sym e)
    ((omega (arith, (h.0).0), omega (arith, (h.0).1), behind, (found.font, found.font_is, found.inside)), marks_good set pass used ms all.1 uses.1)
marks_good set pass used (OfRule r ∷ ms) all uses =
    let h = all.0 in
    ((omega (arith, (h.0).0), omega (arith, (h.0).1), h.1, omega (arith, (h.0).2), h.2, omega (arith, (h.0).3)), marks_good set pass used ms all.1 uses)
marks_good set pass used (OfSpecial s ∷ ms) all uses = go (passed_on pass s.bytes) (λ text e. omega (arith, (all.0).0, passed_short pass s.bytes text e)) (marks_good set pass used ms all.1 uses)
  where
    go : (o : Option (List ℕ)) → ((text : List ℕ) → o ≡ Some text → length text < 2 ^ 63) → AllGoodMarks (fonts_used set used) (shapes_of set pass ms) → AllGoodMarks (fonts_used set used) (special_shape o s ++ shapes_of set pass ms)
    go None short rest = rest
    go (Some text) short rest = ((omega (arith, (all.0).1), omega (arith, (all.0).2), short text refl), rest)

-- ---- pages and sections

takeable_more : (set : FontSet) (ms more : List mark.Mark) → AllTakeable set ms → AllTakeable set more → AllTakeable set (ms ++ more)
takeable_more set [] more all rest = rest
takeable_more set (m ∷ ms) more all rest = (all.0, takeable_more set ms more all.1 rest)

pub pages_takeable : (set : FontSet) (ps : List PrintedPage) → AllGoodPages set ps → AllTakeable set (marks_of ps)
pages_takeable set [] all = tt
pages_takeable set (p ∷ ps) all = takeable_more set p.marks (marks_of ps) (all.0).marks (pages_takeable set ps all.1)

pages_good : (set : FontSet) (pass : Bool) (used : ℕ → ℕ → Bool) (ps : List PrintedPage) → AllGoodPages set ps → ((id code : ℕ) → used_in (marks_of ps) id code ≡ true → used id code ≡ true) → marked.AllGoodPages (fonts_used set used) (map (page_of set pass) ps)
pages_good set pass used [] all within = tt
pages_good set pass used (p ∷ ps) all within =
    let g = all.0 in (
      (
        omega (arith, g.label),
        omega (arith, g.number),
        marks_good set pass used p.marks g.marks (uses_wider (used_in p.marks) used p.marks (λ id code e. within id code (used_first p.marks (marks_of ps) id code e)) (marks_use p.marks)),
      ),
      pages_good set pass used ps all.1 (λ id code e. within id code (used_later p.marks (marks_of ps) id code e)),
    )

sections_good : (set : FontSet) (pass : Bool) (pss : List (List PrintedPage)) → IsGoodSet set → AllByRecursion (AllGoodPages set) pss → AllGoodSections (map (section_of set pass) pss)
sections_good set pass [] good all = tt
sections_good set pass (ps ∷ pss) good all =
    let used = used_in (marks_of ps) in
    let test = λ (id : ℕ). any_below (used id) 256 in
    let rising = those_rising test (length set.fonts) in
    let few = rising_few test 0 (length set.fonts) (used_fonts set used) (omega arith) rising in (
      (
        fonts_good set used test 0 (length set.fonts) (used_fonts set used) good.few good (used_shown set (marks_of ps) (pages_takeable set ps all.0)) rising,
        omega (arith, few, good.few, fonts_many set used (used_fonts set used)),
        pages_good set pass used ps all.0 (λ id code e. e),
      ),
      sections_good set pass pss good all.1,
    )

pub text_is_good : TextIsGood
text_is_good comments s w good =
    let g = good.setup in
    record {
      head = head_good comments s g;
      headers = good.headers;
      copies_some = omega (arith, g.copies_some);
      copies = omega (arith, g.copies_few);
      job = record {
        height = g.height;
        across_some = omega (arith, g.across_low);
        across = omega (arith, g.across_high);
        down_some = omega (arith, g.down_low);
        down = omega (arith, g.down_high);
        origin_x = g.origin_x;
        origin_y = g.origin_y;
      };
      sections = sections_good w.fonts w.pass w.sections good.fonts good.pages;
    }

pub each_is_takeable : EachIsTakeable
each_is_takeable set [] each = tt
each_is_takeable set (m ∷ ms) each = (each m (Contains-append_left (m ∷ []) ms m (Contains-push [] m)), each_is_takeable set ms (λ n h. each n (Contains-append_right (m ∷ []) ms n h)))

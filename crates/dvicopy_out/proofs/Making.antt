-- That a copy of pages that were measured can be put.
use Rattle.std.proofs.Common.{◌≡◌, ◌<◌, ◌≤◌, ◌+◌, ◌-◌, ◌^◌, ℕ, ℤ, zero, suc, true, List, [], ◌∷◌, length, slice_get, take, Some, None, refl, sym, subst, arith}
use Rattle.std.specs.List.{AllByRecursion}
use Rattle.positions.specs.Mark.{Mark}
use Rattle.positions.specs.Mark.Mark.{OfGlyph, OfRule, OfSpecial}
use Rattle.dvi_doc.specs.View.{ReadDoc}
use Rattle.dvi_ops.specs.Shortest.{IsWord}
use Rattle.font_set.specs.Fonts.{Entry, FontSet, State, entry_key, key_at, state_at}
use Rattle.font_set.specs.Search.{page_of}
use Rattle.vf_expand.specs.Grid.{Grid}
use Rattle.vf_expand.specs.Marks.{Outcome, marks_alone}
use Rattle.vf_expand.specs.Painted.{AreComing, HasGlyph, IsGlyphOf}
use Rattle.vf_expand.specs.Rules.{IsInked, RulesArePainted}
use Rattle.vf_expand.specs.Takes.{AllCome, MayCome}
use Rattle.dvicopy_out.specs.Copies.{filling, front_commands, pages_length}
use Rattle.dvicopy_out.specs.Counted.{counted}
use Rattle.dvicopy_out.specs.Leaves.{work_of}
use Rattle.dvicopy_out.specs.Made.{IsMade, IsPutAt}
use Rattle.dvicopy_out.specs.Numbered.{definitions, is_real}
use Rattle.dvicopy_out.specs.Pages.{IsReady, commands_at, copy_page, copy_pages, marks_or_none, outcome_at}
use Rattle.dvicopy_out.specs.Spelled.{spelled}
use Rattle.dvicopy_out.specs.Units.{AreOf, IsOf}
use Rattle.dvicopy_out.specs.Writable.{IsPut, IsPutFont, IsPutKey, IsPutPage}
use Rattle.dvicopy_out.proofs.Ending.{is_short}
use Rattle.dvicopy_out.proofs.Rows.{all_ten}

glyph_real : (st : State) (code : ℕ) → IsGlyphOf st code → is_real st ≡ true
glyph_real State.Known code h = absurd h
glyph_real (State.Real tfm pk) code h = refl
glyph_real (State.Virtual tfm vf) code h = absurd h

put_mark : (g : Grid) (set : FontSet) (m : Mark) → MayCome (HasGlyph g set) m → IsPut m
put_mark g set (OfGlyph m) h = (h.0, h.1.small)
put_mark g set (OfRule m) h = h.0
put_mark g set (OfSpecial m) h = h

mark_of : (g : Grid) (set : FontSet) (m : Mark) → MayCome (HasGlyph g set) m → IsInked m → IsOf set m
mark_of g set (OfGlyph m) h k = (h.1.given, glyph_real (state_at set m.font) m.code h.1.shown, h.1.width)
mark_of g set (OfRule m) h k = k
mark_of g set (OfSpecial m) h k = tt

pub put_marks : (g : Grid) (set : FontSet) (ms : List Mark) → AllCome (HasGlyph g set) ms → AllByRecursion IsPut ms
put_marks g set [] h = tt
put_marks g set (m ∷ ms) h = (put_mark g set m h.0, put_marks g set ms h.1)

pub marks_of_set : (g : Grid) (set : FontSet) (ms : List Mark) → AllCome (HasGlyph g set) ms → AllByRecursion IsInked ms → AllByRecursion (IsOf set) ms
marks_of_set g set [] h k = tt
marks_of_set g set (m ∷ ms) h k = (mark_of g set m h.0 k.0, marks_of_set g set ms h.1 k.1)

outcome_put : (g : Grid) (set : FontSet) (o : Outcome) → AreComing g set o → AllByRecursion IsPut (marks_or_none o)
outcome_put g set None h = tt
outcome_put g set (Some r) h = put_marks g set r.0 h

outcome_of_set : (g : Grid) (set : FontSet) (o : Outcome) → AreComing g set o → ((ms : List Mark) → marks_alone o ≡ Some ms → AllByRecursion IsInked ms) → AllByRecursion (IsOf set) (marks_or_none o)
outcome_of_set g set None h k = tt
outcome_of_set g set (Some r) h k = marks_of_set g set r.0 h (k r.0 refl)

pub put_marks_at : (g : Grid) (set : FontSet) (r : ReadDoc) (k : ℕ) (o : Outcome) → outcome_at g set r k ≡ o → AreComing g set o → AllByRecursion IsPut (copy_page g set r k).marks
put_marks_at g set r k o same h = outcome_put g set (outcome_at g set r k) (subst (AreComing g set) (sym same) h)

pub marks_of_set_at : RulesArePainted → (g : Grid) (set : FontSet) (r : ReadDoc) (k : ℕ) (o : Outcome) → outcome_at g set r k ≡ o → AreComing g set o → AllByRecursion (IsOf set) (copy_page g set r k).marks
marks_of_set_at law g set r k o same h = outcome_of_set g set (outcome_at g set r k) (subst (AreComing g set) (sym same) h) (law g set (page_of r k))

-- ---- pages in a row

pub put_pages : (g : Grid) (set : FontSet) (r : ReadDoc) (ks : List ℕ) → AllByRecursion (IsPutAt g set r) ks → AllByRecursion IsPutPage (copy_pages g set r ks)
put_pages g set r [] h = tt
put_pages g set r (k ∷ ks) h = (h.0.page, put_pages g set r ks h.1)

pub pages_of_set : (g : Grid) (set : FontSet) (r : ReadDoc) (ks : List ℕ) → AllByRecursion (IsPutAt g set r) ks → AreOf set (copy_pages g set r ks)
pages_of_set g set r [] h = tt
pages_of_set g set r (k ∷ ks) h = (h.0.of_set, pages_of_set g set r ks h.1)

-- ---- fonts one after another

put_step : (es : List Entry) (k : ℕ) → k < length es → AllByRecursion IsPutFont (take k es) → IsPutKey (entry_key (slice_get es k)) → AllByRecursion IsPutFont (take (suc k) es)
put_step [] k within h key = absurd (omega arith)
put_step (e ∷ es) zero within h key = (key, tt)
put_step (e ∷ es) (suc k) within h key = (h.0, put_step es k (omega arith) h.1 key)

-- the fonts so far, and one more
pub put_more : (es : List Entry) (k : ℕ) → k < length es → AllByRecursion IsPutFont (take k es) → IsPutKey (entry_key (slice_get es k)) → AllByRecursion IsPutFont (take (k + 1) es)
put_more es k within h key = let e : suc k ≡ k + 1 = omega arith in subst (λ (n : ℕ). AllByRecursion IsPutFont (take n es)) e (put_step es k within h key)

-- the same by the set
pub put_key : (set : FontSet) (k : ℕ) → IsPutKey (key_at set k) → IsPutKey (entry_key (slice_get set.fonts k))
unfolding key_at
put_key set k h = h

-- ---- the whole copy

-- what is known of the numbers of a document
pub record Fit (r : ReadDoc) : Type 0 where
  pub num : IsWord r.head.num
  pub den : IsWord r.head.den
  pub comment : length r.head.comment < 256
  pub tall : IsWord r.tail.tall
  pub wide : IsWord r.tail.wide

pub made : (g : Grid) (set : FontSet) (r : ReadDoc) (ks : List ℕ) (mag : ℤ) (bytes around : ℕ) → AllByRecursion (IsReady g set r) ks → commands_at set r ks ≤ 50000000 → AllByRecursion (IsPutAt g set r) ks → Fit r → IsWord mag → length set.fonts ≤ 1000
    → AllByRecursion IsPutFont set.fonts → bytes ≡ counted 0 (pages_length set (copy_pages g set r ks)) → around ≡ length (spelled (front_commands (work_of r set mag))) + length (spelled (definitions set))
    → (around + bytes + 35) + length (filling (around + bytes + 35)) ≤ 2 ^ 31 - 1 → IsMade g set r ks mag
made g set r ks mag bytes around ready few put fit word fonts keys is whole short = record {
  ready = ready;
  few = few;
  put = record {
    num = fit.num;
    den = fit.den;
    mag = word;
    comment = fit.comment;
    tall = fit.tall;
    wide = fit.wide;
    few = fonts;
    fonts = keys;
    pages = put_pages g set r ks put;
    short = is_short (work_of r set mag) (copy_pages g set r ks) bytes (all_ten g set r ks ready) is (subst (λ (k : ℕ). (k + bytes + 35) + length (filling (k + bytes + 35)) ≤ 2 ^ 31 - 1) whole short);
  };
  of_set = pages_of_set g set r ks put;
}

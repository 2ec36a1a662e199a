-- Pages that are walked over one after another, and what they use.
use Rattle.std.proofs.Common.{◌≡◌, ◌<◌, ◌≤◌, ◌+◌, ◌^◌, ◌||◌, Bool, ℕ, List, [], ◌∷◌, ◌++◌, length, take, drop, suc, Option, Some, None, arith, refl, sym, ap, subst, ◌∙◌}
use Rattle.std.specs.Prelude.{slice_get, unsigned_abs, ℤ, pos, ◌<ℤ◌, ◌≤ℤ◌}
use Rattle.std.proofs.lemmas.Int.{ints}
use Rattle.std.proofs.lemmas.List.{append-nil}
use Rattle.dv_base.specs.Rounding.{Fraction, rounded}
use Rattle.dv_base.specs.UnitPixels.{pixels_of_one}
use Rattle.positions.specs.Mark.{Glyph, Mark}
use Rattle.positions.specs.Mark.Mark.{OfGlyph, OfRule, OfSpecial}
use Rattle.positions.specs.declared.canvas.NoFault.{NoFault}
use Rattle.dvi_ops.specs.Command.{Definition}
use Rattle.dvi_doc.specs.Document.{PageOf}
use Rattle.tfm_widths.specs.Widths.{Table}
use Rattle.pk_raster.specs.Font.{Bitmap, Font}
use Rattle.font_set.specs.Covers.{Covers, IsThere}
use Rattle.font_set.specs.Frames.{FontAct}
use Rattle.font_set.specs.Fonts.{FontSet, State, bitmap_at, bitmap_by, pixels_at, pk_in, rounded_by, state_at}
use Rattle.vf_expand.specs.Grid.{Grid}
use Rattle.vf_expand.specs.Causes.{IsMany}
use Rattle.vf_expand.specs.Marks.{Outcome, marks_alone}
use Rattle.vf_expand.specs.Page.{IsPageCause, IsShallowPage, page_acts, page_count, page_marks, pages_count}
use Rattle.vf_expand.specs.Painted.{AreComing, HasGlyph, IsGlyphOf, IsPainted}
use Rattle.vf_expand.specs.Takes.{AllCome, MayCome, TookPage}
use Rattle.vf_expand.specs.declared.fault.WalkFault.{WalkFault}
use Rattle.vf_expand.specs.declared.fault.WalkFault.TheVariants as walk
use Rattle.vf_expand.proofs.Later.{count_front, count_next, took_defined}
use Rattle.sections.specs.Used.{CanTake, HasTaken, SameFonts, Takes, Used, used_in}
use Rattle.sections.specs.UsedLaws.{took_both}
use Rattle.ps_emit.specs.Taken.{AllTakeable}
use Rattle.dv_top.specs.Checking.{IsWalkReason, StopsIn}
use Rattle.dv_top.specs.Printing.{label_of, marks_of_each, marks_or_none, most_steps}
use Rattle.dv_top.specs.Tells.{WalkTells}
use Rattle.dv_top.specs.Writing.{HasRasters, IsReady, marks_in}
use Rattle.sections.specs.Sections.{all_marks}
use Rattle.sections.proofs.Planning.{marks_both}
use Rattle.dv_top.specs.declared.outcome.Outcome.{Outcome as Ending}
use Rattle.dv_top.proofs.Lists.{any_at, split_at, take_more}

-- ---- marks that can be taken

there_is : {A : Type 0} (o : Option A) → IsThere o → (x : A) × (o ≡ Some x)
there_is None h = absurd h
there_is (Some x) h = (x, refl)

bitmap_there : (s : State) (code : ℕ) → IsGlyphOf s code → ((tfm : Table) (o : Option Font) → s ≡ State.Real tfm o → IsThere o) → (b : Bitmap) × (bitmap_by (pk_in s) code ≡ Some b)
bitmap_there State.Known code h rasters = absurd h
bitmap_there (State.Real tfm None) code h rasters = absurd (rasters tfm None refl)
bitmap_there (State.Real tfm (Some pk)) code h rasters = there_is (bitmap_by (Some pk) code) h.1
bitmap_there (State.Virtual tfm vf) code h rasters = absurd h

has_bitmap : (set : FontSet) (id code : ℕ) → HasRasters set → IsGlyphOf (state_at set id) code → (b : Bitmap) × (bitmap_at set id code ≡ Some b)
unfolding bitmap_at
has_bitmap set id code rasters h = bitmap_there (state_at set id) code h (rasters id)

has_pixels : (g : Grid) (set : FontSet) (m : Glyph) → g.across ≡ pixels_of_one set.units → HasGlyph g set m → pixels_at set m.font m.code ≡ Some m.pixels
unfolding pixels_at
has_pixels g set m across h = ap (rounded_by set.units) h.width ∙ ap Some (sym (h.pixels ∙ ap (λ (f : Fraction). rounded f m.width) across))

-- marks that come can be taken by a writer
pub all_takeable : (g : Grid) (set : FontSet) → g.across ≡ pixels_of_one set.units → HasRasters set → (ms : List Mark) → AllCome (HasGlyph g set) ms → AllTakeable set ms
all_takeable g set across rasters [] h = tt
all_takeable g set across rasters (OfGlyph m ∷ ms) h =
    ((h.0.0, h.0.1.small, has_pixels g set m across h.0.1, has_bitmap set m.font m.code rasters h.0.1.shown), all_takeable g set across rasters ms h.1)
all_takeable g set across rasters (OfRule r ∷ ms) h = ((h.0.0, one_up r.columns h.0.1, one_up r.rows h.0.2), all_takeable g set across rasters ms h.1)
  where
    one_up : (n : ℤ) → pos 1 ≤ℤ n → pos 0 <ℤ n
    one_up n k = omega (arith, ints)
all_takeable g set across rasters (OfSpecial s ∷ ms) h = (h.0, all_takeable g set across rasters ms h.1)

-- ---- one page

module _ (g : Grid) (set : FontSet) (ds : List Definition) where
  pub page_ready : (old new : Used) (p : PageOf) → g.across ≡ pixels_of_one set.units → HasRasters set → TookPage Takes old new (page_marks g set ds p.commands) → AreComing g set (page_marks g set ds p.commands)
      → Covers set (page_acts ds p.commands) → IsShallowPage g set ds p.commands → page_count set ds p.commands ≤ most_steps → unsigned_abs (label_of p.counts) ≤ 2 ^ 31 → IsReady g set ds p
  page_ready old new p across rasters took came covered shallow few small =
      let r = took_defined Takes old new (page_marks g set ds p.commands) took in
      record {
        marks = r.0.0;
        state = r.0.1;
        defined = r.1;
        takeable = all_takeable g set across rasters r.0.0 (subst (AreComing g set) r.1 came);
        covered = covered;
        shallow = shallow;
        few = few;
        labelled = small;
      }

  pub each_append : (xs ys : List PageOf) → marks_of_each g set ds (xs ++ ys) ≡ marks_of_each g set ds xs ++ marks_of_each g set ds ys
  each_append [] ys = refl
  each_append (x ∷ xs) ys = ap (λ (ms : List (List Mark)). marks_or_none (marks_alone (page_marks g set ds x.commands)) ∷ ms) (each_append xs ys)

  pub marks_append : (xs ys : List PageOf) → marks_in g set ds (xs ++ ys) ≡ marks_in g set ds xs ++ marks_in g set ds ys
  marks_append xs ys = ap all_marks (each_append xs ys) ∙ marks_both (marks_of_each g set ds xs) (marks_of_each g set ds ys)

  -- what one page more uses
  pub takes_more : (pages : List PageOf) (k : ℕ) (p : PageOf) (a b c : Used) → slice_get pages k ≡ Some p → Takes a b (marks_in g set ds (take k pages)) → TookPage Takes b c (page_marks g set ds p.commands)
      → Takes a c (marks_in g set ds (take (k + 1) pages))
  takes_more pages k p a b c at x took =
      let r = took_defined Takes b c (page_marks g set ds p.commands) took in
      let here : Takes b c r.0.0 = subst (TookPage Takes b c) r.1 took in
      let one : marks_in g set ds (p ∷ []) ≡ r.0.0 = ap (λ (o : Outcome). marks_or_none (marks_alone o) ++ []) r.1 ∙ append-nil r.0.0 in
      let all : marks_in g set ds (take (k + 1) pages) ≡ marks_in g set ds (take k pages) ++ r.0.0 =
      ap (marks_in g set ds) (take_more pages k p at) ∙ marks_append (take k pages) (p ∷ []) ∙ ap (λ (ms : List Mark). marks_in g set ds (take k pages) ++ ms) one in
      subst (Takes a c) (sym all) (took_both a b c (marks_in g set ds (take k pages)) r.0.0 x here)

  pub steps_more : (pages : List PageOf) (k : ℕ) (p : PageOf) → slice_get pages k ≡ Some p → pages_count set ds (take (k + 1) pages) ≡ pages_count set ds (take k pages) + page_count set ds p.commands
  steps_more pages k p at = ap (pages_count set ds) (take_more pages k p at) ∙ count_next set ds (take k pages) p

  -- the steps up to a page are no more than all
  pub steps_front : (pages : List PageOf) (k : ℕ) (p : PageOf) → slice_get pages k ≡ Some p → pages_count set ds (take k pages) + page_count set ds p.commands ≤ pages_count set ds pages
  steps_front pages k p at = subst (λ (ps : List PageOf). pages_count set ds (take k pages) + page_count set ds p.commands ≤ pages_count set ds ps) (split_at pages k p at) (count_front set ds (take k pages) p (drop (suc k) pages))

  stops_in : (pages : List PageOf) (k : ℕ) (p : PageOf) (steps : ℕ) → slice_get pages k ≡ Some p → steps ≡ pages_count set ds (take k pages)
      → (fault : WalkFault NoFault) → IsPageCause g set ds p fault → IsMany (steps + page_count set ds p.commands) fault → StopsIn g set ds pages fault
  stops_in pages k p steps at same (walk.StackUnder s) cause many = any_at (λ (q : PageOf). IsPageCause g set ds q (walk.StackUnder s)) pages k p at cause
  stops_in pages k p steps at same (walk.StackLeft s) cause many = any_at (λ (q : PageOf). IsPageCause g set ds q (walk.StackLeft s)) pages k p at cause
  stops_in pages k p steps at same (walk.StackDeep s) cause many = any_at (λ (q : PageOf). IsPageCause g set ds q (walk.StackDeep s)) pages k p at cause
  stops_in pages k p steps at same (walk.NestDeep id code) cause many = any_at (λ (q : PageOf). IsPageCause g set ds q (walk.NestDeep id code)) pages k p at cause
  stops_in pages k p steps at same walk.TooManySteps cause many = let front = steps_front pages k p at in omega (arith, many, same, front)
  stops_in pages k p steps at same (walk.Overflow s) cause many = any_at (λ (q : PageOf). IsPageCause g set ds q (walk.Overflow s)) pages k p at cause
  stops_in pages k p steps at same (walk.Canvas f) cause many = elim f [ ]

  pub walk_reason : (pages : List PageOf) (k : ℕ) (p : PageOf) (steps : ℕ) (fault : WalkFault NoFault) (o : Ending) → slice_get pages k ≡ Some p → steps ≡ pages_count set ds (take k pages)
      → WalkTells set fault o → IsPageCause g set ds p fault → IsMany (steps + page_count set ds p.commands) fault → IsWalkReason g set ds pages o
  walk_reason pages k p steps fault o at same tells cause many = (fault, tells, stops_in pages k p steps at same fault cause many)

-- a mark that may come can be taken by what knows the fonts
pub can_take : (g : Grid) (set : FontSet) (u : Used) (acts : List FontAct) → u.fonts ≡ length set.fonts → (m : Mark) → MayCome (IsPainted g set acts) m → CanTake u m
can_take g set u acts same (OfGlyph m) h = (h.0, omega (arith, h.1.1.given, same))
can_take g set u acts same (OfRule r) h = (h.0, tt)
can_take g set u acts same (OfSpecial s) h = (h, tt)

-- what was taken by what had taken nothing
pub taken_all : (a b : Used) (marks : List Mark) → HasTaken a [] → Takes a b marks → HasTaken b marks
taken_all a b marks h t =
    record {
      exactly = λ id code given small.
          let inside : id < a.fonts = omega (arith, given, t.same.fonts) in
          t.exactly id code inside small ∙ ap (λ (x : Bool). x || used_in marks id code) (h.exactly id code inside small);
    }

pub took_same : (a b : Used) (o : Outcome) → TookPage Takes a b o → SameFonts a b
took_same a b None h = absurd h
took_same a b (Some r) h = h.same

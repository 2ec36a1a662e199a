-- The fonts of a run beside fonts that serve its pages: no fault stands in these pages. No lemma here knows a job.
use Rattle.std.proofs.Common.{◌≡◌, ◌<◌, ◌≤◌, ◌+◌, ◌^◌, ◌⊎◌, ℕ, zero, suc, List, [], ◌∷◌, ◌++◌, length, Option, Some, None, arith, refl, sym, ap, subst, ◌∙◌, inl, inr}
use Rattle.dv_base.specs.Causes.{Rose}
use Rattle.dv_base.specs.Shelf.{Contents, Told, WhereHeld}
use Rattle.dv_base.specs.declared.units.Units.{Units}
use Rattle.positions.specs.Mark.{Mark, Special}
use Rattle.positions.specs.Mark.Mark.{OfGlyph, OfRule, OfSpecial}
use Rattle.positions.specs.declared.canvas.NoFault.{NoFault}
use Rattle.dvi_ops.specs.Command.{Definition}
use Rattle.dvi_doc.specs.Document.{PageOf}
use Rattle.font_set.specs.Alike.{Alike, AreRight, HasTwin, HaveTwins, OneFontOf, Twin, WhatCanBeHadIsHad}
use Rattle.font_set.specs.Covers.{Covers}
use Rattle.font_set.specs.FontOf.{FontOf}
use Rattle.font_set.specs.Fonts.{FontSet, IsLoaded, State, key_at, place_of, raster_bytes, raster_bytes_in, state_at}
use Rattle.font_set.specs.Key.{Key}
use Rattle.font_set.specs.LoadFaults.{LoadFaultIs, MustKnow, MustLoad}
use Rattle.font_set.specs.declared.fault.FontFault.TheVariants as font
use Rattle.font_set.specs.declared.fault.LoadFault.{LoadFault}
use Rattle.font_set.specs.declared.fault.LoadFault.TheVariants as load
use Rattle.font_set.specs.declared.want.Want.{Want}
use Rattle.font_set.specs.declared.want.Want.TheVariants as wants
use Rattle.font_set.proofs.Alike.{state_twin}
use Rattle.font_set.proofs.Ids.{one_key}
use Rattle.font_set.proofs.Refuted.{must_known, must_loaded}
use Rattle.vf_expand.specs.Alike.{IsOutside, MarksAlike}
use Rattle.vf_expand.specs.Grid.{Grid}
use Rattle.vf_expand.specs.Marks.{Outcome as Marking, marks_alone}
use Rattle.vf_expand.specs.Page.{IsPageCause, IsShallowPage, page_acts, page_count, page_marks, pages_count}
use Rattle.vf_expand.specs.declared.fault.WalkFault.{WalkFault}
use Rattle.vf_expand.specs.declared.fault.WalkFault.TheVariants as walk
use Rattle.vf_expand.proofs.Alike.{count_alike, faultless_alike}
use Rattle.vf_expand.proofs.AlikeMarks.{marks_alike}
use Rattle.sections.specs.Cost.{marks_cost}
use Rattle.dv_top.specs.Checking.{StopsIn}
use Rattle.dv_top.specs.Completeness.{Serve}
use Rattle.dv_top.specs.Covered.{CoversPages}
use Rattle.dv_top.specs.Each.{Any, Each}
use Rattle.dv_top.specs.Headers.{header_names, names_in, with_names}
use Rattle.dv_top.specs.Printing.{IsMarked, marks_of_each, marks_or_none, most_steps}
use Rattle.dv_top.specs.Specials.{specials_in, specials_of}
use Rattle.dv_top.specs.Sources.{AreFontsFrom, frame_of, no_fonts_of}
use Rattle.dv_top.proofs.AlikeCost.{cost_alike, no_cost}

-- ---- fonts that serve the pages

-- what is so of each page, and what is so of one
any_each : (P Q : PageOf → Type 0) (R : Type 0) (pages : List PageOf) → ((p : PageOf) → Q p → P p → R) → Each Q pages → Any P pages → R
any_each P Q R [] f each h = absurd h
any_each P Q R (p ∷ ps) f each (inl h) = f p each.0 h
any_each P Q R (p ∷ ps) f each (inr h) = any_each P Q R ps f each.1 h

-- Fonts from held files that serve pages, of which so much is wanted.
pub record Serving (want : Want) (contents : Contents) (units : Units) (ds : List Definition) (pages : List PageOf) (fonts : FontSet) : Type 0 where
  pub same : fonts.units ≡ units
  pub wanted : fonts.want ≡ want
  pub right : AreRight contents fonts
  pub covers : CoversPages fonts ds pages
  pub few : length fonts.fonts ≤ 1000
  pub room : raster_bytes fonts.fonts ≤ 2 ^ 30

pub serving : {contents : Contents} {units : Units} {ds : List Definition} {pages : List PageOf} {fonts : FontSet} → Serve contents units ds pages fonts → Serving wants.Rasters contents units ds pages fonts
serving s = record { same = s.same; wanted = s.wanted; right = s.right; covers = s.covers; few = s.few; room = s.room }

none_loaded : (want : Want) (units : Units) (id : ℕ) → IsLoaded (state_at (no_fonts_of want units) id) → ⊥
unfolding state_at
none_loaded want units zero h = h
none_loaded want units (suc id) h = h

same_id : (i j : ℕ) → Some i ≡ Some j → i ≡ j
same_id i j e = cc

fewer_bytes : (s t : State) → (IsLoaded s → s ≡ t) → raster_bytes_in s ≤ raster_bytes_in t
fewer_bytes State.Known t f = omega arith
fewer_bytes (State.Real tfm pk) t f = let n = ap raster_bytes_in (f tt) in omega (arith, n)
fewer_bytes (State.Virtual tfm vf) t f = omega arith

-- The fonts of a run beside fonts that serve its pages.
module _ (one : OneFontOf) (told : Told) (contents : Contents) (tells : told.held ≡ Some contents) (want : Want) (units : Units) (ds : List Definition) (pages : List PageOf) (set fonts : FontSet)
    (gained : AreFontsFrom told (no_fonts_of want units) ds pages set) (serve : Serving want contents units ds pages fonts) where
  alike : Alike contents set fonts
  alike = record { units = gained.extends.units ∙ sym serve.same; want = gained.extends.want ∙ sym serve.wanted; left = right; right = serve.right }
    where
      right : AreRight contents set
      right id l =
          elim (gained.loads id l) [
            | inl was ↦ absurd (none_loaded want units id was)
            | inr h ↦ subst (λ (o : Option Contents). WhereHeld o (λ held. FontOf held set.units set.want (key_at set id) (state_at set id))) tells h.1
          ]

  -- a font that is loaded is loaded there too
  loaded_there : (id : ℕ) → IsLoaded (state_at set id) → (key : Key) × (j : ℕ) × Twin set fonts key id j × IsLoaded (state_at fonts j)
  loaded_there id l =
      elim (gained.loads id l) [
        | inl was ↦ absurd (none_loaded want units id was)
        | inr h ↦ any_each (λ (p : PageOf). MustLoad set (frame_of ds p) id) (λ (p : PageOf). Covers fonts (page_acts ds p.commands)) ((key : Key) × (j : ℕ) × Twin set fonts key id j × IsLoaded (state_at fonts j)) pages
            (λ p covers must. must_loaded one contents set fonts alike (frame_of ds p) covers id must) serve.covers h.0
      ]

  twins : HaveTwins set fonts
  twins id inside =
      elim (gained.knows id inside) [
        | inl was ↦ absurd (omega (arith, was))
        | inr h ↦ by h.0 h.1 (any_each (λ (p : PageOf). MustKnow set (frame_of ds p) h.0) (λ (p : PageOf). Covers fonts (page_acts ds p.commands)) ((j : ℕ) × (place_of fonts.fonts h.0 ≡ Some j)) pages
            (λ p covers must. must_known one contents set fonts alike (frame_of ds p) covers h.0 must) serve.covers h.2)
      ]
    where
      by : (key : Key) → place_of set.fonts key ≡ Some id → (j : ℕ) × (place_of fonts.fonts key ≡ Some j) → HasTwin set fonts id
      by key placed (j, there) =
          record {
            key = key;
            placed = placed;
            id = j;
            there = there;
            bytes = fewer_bytes (state_at set id) (state_at fonts j) (λ l. same l (loaded_there id l));
          }
        where
          same : IsLoaded (state_at set id) → (k : Key) × (i : ℕ) × Twin set fonts k id i × IsLoaded (state_at fonts i) → state_at set id ≡ state_at fonts j
          same l (k, i, t, m) =
              let one_name : k ≡ key = one_key set.fonts k key id t.left placed in
              let place : i ≡ j = same_id i j (sym t.right ∙ ap (place_of fonts.fonts) one_name ∙ there) in
              state_twin one contents set fonts alike k id i t l m ∙ ap (state_at fonts) place

  -- no fault of loading stands in a page
  pub no_load : WhatCanBeHadIsHad → (later : Told) → (Rose told.faults later.faults → ⊥) → (fault : LoadFault) → Any (λ (p : PageOf). LoadFaultIs set (frame_of ds p) told later fault) pages → fault ≡ load.Font font.OutOfMemory
  no_load had later shelf fault h =
      any_each (λ (p : PageOf). LoadFaultIs set (frame_of ds p) told later fault) (λ (p : PageOf). Covers fonts (page_acts ds p.commands)) (fault ≡ load.Font font.OutOfMemory) pages
      (λ p covers is. had contents set fonts (frame_of ds p) told later (record { alike = alike; covers = covers; twins = twins; few = serve.few; room = serve.room }) tells shelf fault is) serve.covers h

  -- ---- no page has a fault

  outside : (e : WalkFault NoFault) → (e ≡ walk.TooManySteps → ⊥) → IsOutside e → ⊥
  outside walk.TooManySteps few h = few refl
  outside (walk.Canvas f) few h = elim f [ ]
  outside _ few h = h

  pages_faultless : (g : Grid) (ps : List PageOf) → CoversPages set ds ps → CoversPages fonts ds ps → Each (IsMarked g fonts ds) ps → Each (λ (p : PageOf). IsShallowPage g fonts ds p.commands) ps
      → (e : WalkFault NoFault) → (e ≡ walk.TooManySteps → ⊥) → Any (λ (p : PageOf). IsPageCause g set ds p e) ps → ⊥
  pages_faultless g [] mine theirs is shallow e few h = h
  pages_faultless g (p ∷ ps) mine theirs is shallow e few (inl h) =
      let r = is.0 in
      outside e few (faultless_alike NoFault one contents set fonts alike g ds p (r.marks, r.state) mine.0 theirs.0 r.defined shallow.0 e h)
  pages_faultless g (p ∷ ps) mine theirs is shallow e few (inr h) = pages_faultless g ps mine.1 theirs.1 is.1 shallow.1 e few h

  same_count : (ps : List PageOf) → CoversPages set ds ps → CoversPages fonts ds ps → pages_count set ds ps ≡ pages_count fonts ds ps
  same_count [] mine theirs = refl
  same_count (p ∷ ps) mine theirs =
      ap (λ (n : ℕ). n + pages_count set ds ps) (count_alike one contents set fonts alike ds p.commands mine.0 theirs.0) ∙ ap (λ (n : ℕ). page_count fonts ds p.commands + n) (same_count ps mine.1 theirs.1)

  pub no_stop : (g : Grid) → CoversPages set ds pages → Each (IsMarked g fonts ds) pages → Each (λ (p : PageOf). IsShallowPage g fonts ds p.commands) pages → pages_count fonts ds pages ≤ most_steps
      → (e : WalkFault NoFault) → StopsIn g set ds pages e → ⊥
  no_stop g mine is shallow few (walk.StackUnder x) h = pages_faultless g pages mine serve.covers is shallow (walk.StackUnder x) (λ e. cc) h
  no_stop g mine is shallow few (walk.StackLeft x) h = pages_faultless g pages mine serve.covers is shallow (walk.StackLeft x) (λ e. cc) h
  no_stop g mine is shallow few (walk.StackDeep x) h = pages_faultless g pages mine serve.covers is shallow (walk.StackDeep x) (λ e. cc) h
  no_stop g mine is shallow few (walk.NestDeep id code) h = pages_faultless g pages mine serve.covers is shallow (walk.NestDeep id code) (λ e. cc) h
  no_stop g mine is shallow few walk.TooManySteps h = let same = same_count pages mine serve.covers in omega (arith, few, h, same)
  no_stop g mine is shallow few (walk.Overflow x) h = pages_faultless g pages mine serve.covers is shallow (walk.Overflow x) (λ e. cc) h
  no_stop g mine is shallow few (walk.Canvas f) h = h

  -- ---- what the pages have

  -- pages that are marked with both have alike marks
  abbrev PagesAlike : List (List Mark) → List (List Mark) → Type 0
  PagesAlike [] [] = Unit {0}
  PagesAlike (ms ∷ xs) (ns ∷ ys) = MarksAlike set fonts ms ns × PagesAlike xs ys
  PagesAlike _ _ = ⊥

  one_alike : (g : Grid) (p : PageOf) → IsMarked g set ds p → IsMarked g fonts ds p → MarksAlike set fonts (marks_or_none (marks_alone (page_marks g set ds p.commands))) (marks_or_none (marks_alone (page_marks g fonts ds p.commands)))
  one_alike g p x y =
      let h = marks_alike one contents set fonts alike g ds p.commands (x.marks, x.state) (y.marks, y.state) x.defined y.defined in
      let left = ap (λ (o : Marking). marks_or_none (marks_alone o)) x.defined in
      let right = ap (λ (o : Marking). marks_or_none (marks_alone o)) y.defined in
      subst (λ (ms : List Mark). MarksAlike set fonts ms (marks_or_none (marks_alone (page_marks g fonts ds p.commands)))) (sym left) (subst (MarksAlike set fonts x.marks) (sym right) h)

  pages_alike : (g : Grid) (ps : List PageOf) → Each (IsMarked g set ds) ps → Each (IsMarked g fonts ds) ps → PagesAlike (marks_of_each g set ds ps) (marks_of_each g fonts ds ps)
  pages_alike g [] x y = tt
  pages_alike g (p ∷ ps) x y = (one_alike g p x.0 y.0, pages_alike g ps x.1 y.1)

  -- a page costs no more than with the fonts that serve
  page_light : (g : Grid) (budget : ℕ) (p : PageOf) → IsMarked g fonts ds p → marks_cost fonts (marks_or_none (marks_alone (page_marks g fonts ds p.commands))) ≤ budget → marks_cost set (marks_or_none (marks_alone (page_marks g set ds p.commands))) ≤ budget
  page_light g budget p y light = by (page_marks g set ds p.commands) refl
    where
      by : (o : Marking) → page_marks g set ds p.commands ≡ o → marks_cost set (marks_or_none (marks_alone o)) ≤ budget
      by None e = let n = no_cost set in omega (arith, n)
      by (Some r) e =
          let x : IsMarked g set ds p = record { marks = r.0; state = r.1; defined = e } in
          let h = subst (λ (ms : List Mark). MarksAlike set fonts ms (marks_or_none (marks_alone (page_marks g fonts ds p.commands)))) (ap (λ (q : Marking). marks_or_none (marks_alone q)) e) (one_alike g p x y) in
          let c = cost_alike set fonts twins r.0 (marks_or_none (marks_alone (page_marks g fonts ds p.commands))) h in
          omega (arith, c, light)

  pub all_light : (g : Grid) (budget : ℕ) (ps : List PageOf) → Each (IsMarked g fonts ds) ps → Each (λ (ms : List Mark). marks_cost fonts ms ≤ budget) (marks_of_each g fonts ds ps) → Each (λ (ms : List Mark). marks_cost set ms ≤ budget) (marks_of_each g set ds ps)
  all_light g budget [] y light = tt
  all_light g budget (p ∷ ps) y light = (page_light g budget p y.0 light.0, all_light g budget ps y.1 light.1)

  -- and it has the same headers
  specials_alike : (ms ns : List Mark) → MarksAlike set fonts ms ns → specials_in ms ≡ specials_in ns
  specials_alike [] [] h = refl
  specials_alike [] (n ∷ ns) h = absurd h
  specials_alike (m ∷ ms) [] h = absurd h
  specials_alike (OfGlyph x ∷ ms) (OfGlyph y ∷ ns) h = specials_alike ms ns h.1
  specials_alike (OfRule x ∷ ms) (OfRule y ∷ ns) h = specials_alike ms ns h.1
  specials_alike (OfSpecial x ∷ ms) (OfSpecial y ∷ ns) h = ap (λ (s : Special). s.bytes ∷ specials_in ms) h.0 ∙ ap (λ (xs : List (List ℕ)). y.bytes ∷ xs) (specials_alike ms ns h.1)
  specials_alike (m ∷ ms) (n ∷ ns) h = absurd h.0

  all_specials : (xs ys : List (List Mark)) → PagesAlike xs ys → specials_of xs ≡ specials_of ys
  all_specials [] [] h = refl
  all_specials [] (y ∷ ys) h = absurd h
  all_specials (x ∷ xs) [] h = absurd h
  all_specials (x ∷ xs) (y ∷ ys) h = ap (λ (s : List (List ℕ)). s ++ specials_of xs) (specials_alike x y h.0) ∙ ap (λ (s : List (List ℕ)). specials_in y ++ s) (all_specials xs ys h.1)

  pub same_headers : (g : Grid) (given : List (List ℕ)) (ps : List PageOf) → Each (IsMarked g set ds) ps → Each (IsMarked g fonts ds) ps → header_names given (marks_of_each g set ds ps) ≡ header_names given (marks_of_each g fonts ds ps)
  same_headers g given ps x y =
      ap (λ (s : List (List ℕ)). with_names [] (given ++ names_in s)) (all_specials (marks_of_each g set ds ps) (marks_of_each g fonts ds ps) (pages_alike g ps x y))

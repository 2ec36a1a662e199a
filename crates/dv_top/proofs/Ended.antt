-- What a run leaves that doesn't write, from what its parts say.
use Rattle.std.proofs.Common.{◌≡◌, ℕ, ℤ, pos, List, [], Option, Some, None, Result, Err, refl, sym, ap, subst, ◌∙◌, inl, inr}
use Rattle.std.specs.Prelude.{fold}
use Rattle.std.proofs.lemmas.List.{append-nil}
use Rattle.indexmap.specs.IndexSet.{insert_key}
use Rattle.dv_base.specs.Rounding.{Fraction}
use Rattle.dv_base.specs.Shelf.{Contents, Keeps, Told}
use Rattle.dv_base.specs.Tray.{Seen, WhereTold}
use Rattle.dv_base.specs.UnitPixels.{IsUsable, pixels_of_one}
use Rattle.dv_base.specs.declared.units.Units.{Units}
use Rattle.dvi_ops.specs.Command.{Definition}
use Rattle.dvi_doc.specs.Document.{Document, PageOf}
use Rattle.dvi_doc.specs.Grammar.{IsDoc}
use Rattle.dvi_doc.specs.Laws.{OneDocument}
use Rattle.dvi_doc.specs.View.{IsRead, ReadDoc}
use Rattle.positions.specs.Mark.{Mark}
use Rattle.positions.specs.Place.{Place, origin}
use Rattle.font_set.specs.Expand.{Expanded, expand}
use Rattle.font_set.specs.Fonts.{FontSet, State, state_at}
use Rattle.font_set.specs.Gains.{Gains}
use Rattle.font_set.specs.LoadFaults.{LoadFaultIs, MustKnow, MustLoad}
use Rattle.font_set.specs.Growth.{keys_now}
use Rattle.font_set.specs.Key.{Key, same_key}
use Rattle.font_set.specs.Programs.{Program}
use Rattle.font_set.specs.Shapes.{shapes_of}
use Rattle.font_set.specs.Stored.{HasWanted}
use Rattle.font_set.specs.declared.want.Want.{Want}
use Rattle.font_set.specs.declared.want.Want.TheVariants as wants
use Rattle.font_set.proofs.Growing.{extends_self}
use Rattle.font_set.proofs.Telling.{fault_before}
use Rattle.vf_expand.specs.Grid as grid
use Rattle.vf_expand.specs.Grid.{Grid}
use Rattle.vf_expand.specs.Page.{Walk}
use Rattle.vf_expand.specs.Pages.{first_there, frame_marks, most_nested}
use Rattle.vf_expand.specs.Shown.{marks_expanded}
use Rattle.dv_words.specs.Jobs.{PrintJob}
use Rattle.dv_top.specs.Checking.{CheckFails, StopsIn}
use Rattle.dv_top.specs.Covered.{Covered, CoversPages, Expands, IsNumbered, selected_keys}
use Rattle.dv_top.specs.Each.{Each}
use Rattle.dv_top.specs.Loading.{GainsPages, IsLoadReason, Orders}
use Rattle.dv_top.specs.Outputs.{AddsLines}
use Rattle.dv_top.specs.Printed.{End, LeavesBy, LeavesUndone}
use Rattle.dv_top.specs.Printing.{chosen, grid_of, grid_with, request_of, units_across, units_down}
use Rattle.dv_top.specs.Reading.{Input, NotDocument, NotRead, Source, most_input}
use Rattle.dv_top.specs.Reasons.{Reason, Refuses}
use Rattle.dv_top.specs.Scaled.{NotScaled}
use Rattle.dv_top.specs.Selecting.{NotChosen}
use Rattle.dv_top.specs.Sources.{InSomePage, Selected, Sources, frame_of, no_fonts, no_fonts_of}
use Rattle.dv_top.specs.Writing.{HasRasters, IsReady}
use Rattle.dv_top.specs.declared.print.Printout.{Printout}
use Rattle.dv_top.specs.declared.outcome.Outcome.{Outcome}
use Rattle.dv_top.proofs.Lists.{any_as, each_as}

-- a job that isn't done leaves the tray as it was
pub lines_none : (m : Option (List (List ℕ))) → WhereTold (AddsLines []) m m
lines_none None = tt
lines_none (Some ms) = sym (append-nil ms)

-- what refuses a job leaves nothing but its outcome
pub refused_undone : (job : PrintJob) (told later : Told) (s : Seen) (o : Outcome) → Refuses job told later o → LeavesUndone job told later s s o
refused_undone job told later s o (inl e) =
    record {
      leaves = record { end = End.Wanting; tells = e; written = None; said = []; means = (refl, inl refl); left = (refl, refl, refl); lines = lines_none s.messages; rose = tt };
      undone = tt;
    }
refused_undone job told later s o (inr (r, tells, holds)) =
    record {
      leaves =
          record { end = End.Refused r; tells = tells; written = None; said = []; means = (refl, refl, holds); left = (refl, refl, refl); lines = lines_none s.messages; rose = tt };
      undone = tt;
    }

pub refused_by : (job : PrintJob) (told later : Told) (s : Seen) (o : Outcome) (result : Result Printout Outcome) → result ≡ Err o → Refuses job told later o → LeavesBy job told later s s result
refused_by job told later s o result e h = subst (λ (r : Result Printout Outcome). LeavesBy job told later s s r) (sym e) (refused_undone job told later s o h)

-- the input wasn't read
pub not_read : (job : PrintJob) (told later : Told) (name : List ℕ) (o : Outcome) → name ≡ job.input → NotRead name most_input told later o → Refuses job told later o
not_read job told later name o e h = by (subst (λ (n : List ℕ). NotRead n most_input told later o) e h)
  where
    by : NotRead job.input most_input told later o → Refuses job told later o
    by (inl x) = inl x
    by (inr x) = inr (Reason.NoInput x.0, x.1, x.2)

-- its bytes are no document
pub not_document : (job : PrintJob) (told later : Told) (input : Input job.input told) (bytes : List ℕ) (o : Outcome) → input.bytes ≡ bytes → NotDocument bytes o → Refuses job told later o
not_document job told later input bytes o e h = by (subst (λ (b : List ℕ). NotDocument b o) (sym e) h)
  where
    by : NotDocument input.bytes o → Refuses job told later o
    by (inl x) = inl x
    by (inr x) = inr (Reason.NoDocument input x.0, x.1, x.2)

-- the pages that it asks for aren't there
pub not_chosen : (job : PrintJob) (told later : Told) (source : Source job.input told) (o : Outcome) → NotChosen source.doc (request_of job) o → Refuses job told later o
not_chosen job told later source o (fault, tells, is) = inr (Reason.NoPages source fault, tells, is)

-- ---- the document of a job, as it was read

module _ (job : PrintJob) (told : Told) (s : Selected job told) (r : ReadDoc) (one : OneDocument) (read : IsRead r) (same : s.source.input.bytes ≡ r.bytes) where
  abbrev Pages : List PageOf
  Pages = chosen s.source.doc job

  pub is_here : IsDoc r.bytes s.source.doc
  is_here = subst (λ (b : List ℕ). IsDoc b s.source.doc) same s.source.is

  pub fonts_here : r.fonts ≡ s.source.doc.fonts
  fonts_here = read.2.3 ∙ ap (λ (d : Document). d.fonts) (one r.bytes read.0 s.source.doc read.1 is_here)

  pub no_pixels : (later : Told) (o : Outcome) → NotScaled s.source.doc job.mag job.dpi.0 o → Refuses job told later o
  no_pixels later o (units, tells, are, unusable) = inr (Reason.NoPixels s units, tells, inl (are, unusable))

  pub no_pixels_down : (later : Told) (o : Outcome) (across : Units) → (across ≡ units_across s.source.doc job) × IsUsable across → NotScaled s.source.doc job.mag job.dpi.1 o → Refuses job told later o
  no_pixels_down later o across scale (units, tells, are, unusable) = inr (Reason.NoPixels s units, tells, inr (subst IsUsable scale.0 scale.1, are, unusable))

  module _ (units down : Units) (scale : (units ≡ units_across s.source.doc job) × IsUsable units) (scale_down : (down ≡ units_down s.source.doc job) × IsUsable down) (b : Told) (kept : Keeps told b) (set : FontSet) (gains : GainsPages b r.fonts Pages (no_fonts units) set) where
    -- fonts that were gained for its pages
    abbrev pub sources_of : Sources job told
    sources_of =
        record {
          selected = s;
          usable = subst IsUsable scale.0 scale.1;
          usable_down = subst IsUsable scale_down.0 scale_down.1;
          set = set;
          fonts =
              subst (λ (u : Units). GainsPages told s.source.doc.fonts Pages (no_fonts u) set) scale.0
              (subst (λ (ds : List Definition). GainsPages told ds Pages (no_fonts units) set) fonts_here
              (subst (λ (h : Option Contents). Gains h (no_fonts units) set (λ id. InSomePage Pages (λ p. MustLoad set (frame_of r.fonts p) id)) (λ key. InSomePage Pages (λ p. MustKnow set (frame_of r.fonts p) key))) kept.held_same gains));
        }

    -- they can't be had
    pub no_fonts_for : (later : Told) (o : Outcome) → IsLoadReason set r.fonts Pages b later o → Refuses job told later o
    no_fonts_for later o (fault, tells, somewhere) =
        inr (
          Reason.NoFonts sources_of fault,
          tells,
          any_as (λ (p : PageOf). LoadFaultIs set (frame_of r.fonts p) b later fault) (λ (p : PageOf). LoadFaultIs set (frame_of s.source.doc.fonts p) told later fault)
              (λ p h. subst (λ (ds : List Definition). LoadFaultIs set (frame_of ds p) told later fault) fonts_here (fault_before set (frame_of r.fonts p) told b later kept fault h)) Pages somewhere,
        )

    module _ (covers : CoversPages set r.fonts Pages) where
      -- fonts that cover its pages
      abbrev pub covered_of : Covered job told
      covered_of = record { sources = sources_of; covers = subst (λ (ds : List Definition). CoversPages set ds Pages) fonts_here covers }

      module _ (g : Grid) (grid : g ≡ grid_of s.source.doc job) where
        -- its pages can't be walked over
        pub no_marks : (later : Told) (o : Outcome) → CheckFails g set r.fonts Pages o → Refuses job told later o
        no_marks later o (inl e) = inl e
        no_marks later o (inr (fault, tells, stops)) =
            inr (
              Reason.NoMarks covered_of fault,
              tells,
              subst (λ (ds : List Definition). StopsIn (grid_of s.source.doc job) set ds Pages fault) fonts_here
                  (subst (λ (h : Grid). StopsIn h set r.fonts Pages fault) grid stops),
            )

-- ---- what is asked before pages are looked at and written

-- a page whose marks are defined has an expanded tree
pub tree_there : (g : Grid) (set : FontSet) (o : Option Expanded) (s : grid.State) (m : List Mark × grid.State) → marks_expanded g set o s ≡ Some m → (x : Expanded) × (o ≡ Some x)
tree_there g set None s m e = absurd (cc)
tree_there g set (Some x) s m e = (x, refl)

abbrev pub ExpandingLaw : Type 0
ExpandingLaw = (g : Grid) (set : FontSet) (n : ℕ) (program : Program) (p : Place) → marks_expanded g set (expand (shapes_of set) n program) (record { place = p; font = None }) ≡ first_there set program.first (frame_marks g set n program p)

pub ready_expands : ExpandingLaw → (g : Grid) (set : FontSet) (ds : List Definition) (pages : List PageOf) → Each (IsReady g set ds) pages → Each (Expands set ds) pages
ready_expands law g set ds pages h =
    each_as (IsReady g set ds) (Expands set ds)
    (λ p r. tree_there g set (expand (shapes_of set) most_nested (frame_of ds p)) (record { place = origin; font = None }) (r.marks, r.state) (law g set most_nested (frame_of ds p) origin ∙ r.defined)) pages h

-- ---- the fonts of a run

-- a run that wants bitmaps has them of each real font
pub rasters_of : (set : FontSet) → set.want ≡ wants.Rasters → ((id : ℕ) → HasWanted set.want (state_at set id)) → HasRasters set
rasters_of set e h id tfm None is =
    let here : HasWanted wants.Rasters (State.Real tfm None) = subst (HasWanted wants.Rasters) is (subst (λ (w : Want). HasWanted w (state_at set id)) e (h id)) in
    absurd here
rasters_of set e h id tfm (Some pk) is = tt

keys_none : (want : Want) (units : Units) → keys_now (no_fonts_of want units) ≡ []
unfolding keys_now
keys_none want units = refl

pub numbered_of : (ds : List Definition) (pages : List PageOf) (want : Want) (units : Units) (old set : FontSet) → old ≡ no_fonts_of want units → Orders ds pages old set → Each (Expands set ds) pages → IsNumbered set ds pages
numbered_of ds pages want units old set e h each =
    h set (extends_self set) each ∙ ap (λ (ks : List Key). fold (insert_key same_key) ks (selected_keys set ds pages)) (ap keys_now e ∙ keys_none want units)

pub grid_here : (doc : Document) (job : PrintJob) (across down : Units) (a d : Fraction) → across ≡ units_across doc job → down ≡ units_down doc job → a ≡ pixels_of_one across → d ≡ pixels_of_one down → grid_with a d job.drift ≡ grid_of doc job
grid_here doc job across down a d e f h i =
    ap (λ (x : Fraction). grid_with x d job.drift) (h ∙ ap pixels_of_one e) ∙ ap (λ (x : Fraction). grid_with (pixels_of_one (units_across doc job)) x job.drift) (i ∙ ap pixels_of_one f)

-- the grid of the walker
pub walker_grid : (doc : Document) (job : PrintJob) (w : Walk) (across down : Units) (a d : Fraction) (drift : ℤ) → w ≡ record { grid = record { across = a; down = d; drift = drift }; steps = 0 } → drift ≡ pos job.drift → across ≡ units_across doc job → down ≡ units_down doc job
    → a ≡ pixels_of_one across → d ≡ pixels_of_one down → w.grid ≡ grid_of doc job
walker_grid doc job w across down a d drift is small e f h i =
    ap (λ (x : Walk). x.grid) is ∙ ap (λ (z : ℤ). let g : Grid = record { across = a; down = d; drift = z } in g) small ∙ grid_here doc job across down a d e f h i

-- What a run of dvicopy leaves that doesn't begin a copy, from what its parts say.
use Rattle.std.proofs.Common.{◌≡◌, ◌≤◌, ℕ, ℤ, pos, List, [], Option, None, refl, sym, ap, subst, ◌∙◌, inl, inr}
use Rattle.dv_base.specs.Rounding.{Fraction}
use Rattle.dv_base.specs.Shelf.{Contents, Keeps, Told}
use Rattle.dv_base.specs.Tray.{Seen}
use Rattle.dv_base.specs.UnitPixels.{IsUsable, pixels_of_one}
use Rattle.dv_base.specs.declared.units.Units.{Units}
use Rattle.dvi_ops.specs.Command.{Definition}
use Rattle.dvi_doc.specs.Document.{Document, PageOf}
use Rattle.dvi_doc.specs.Grammar.{IsDoc}
use Rattle.dvi_doc.specs.Laws.{OneDocument}
use Rattle.dvi_doc.specs.View.{IsRead, ReadDoc}
use Rattle.font_set.specs.Fonts.{FontSet}
use Rattle.font_set.specs.Gains.{Gains}
use Rattle.font_set.specs.LoadFaults.{LoadFaultIs, MustKnow, MustLoad}
use Rattle.font_set.specs.declared.want.Want.TheVariants as wants
use Rattle.font_set.proofs.Telling.{fault_before}
use Rattle.vf_expand.specs.Grid.{Grid}
use Rattle.vf_expand.specs.Page.{IsShallowPage, Walk, pages_count}
use Rattle.dv_words.specs.Jobs.{CopyJob}
use Rattle.dv_top.specs.Checking.{CheckFails, StopsIn}
use Rattle.dv_top.specs.Copied.{End, Leaves}
use Rattle.dv_top.specs.Copyable.{Walkable}
use Rattle.dv_top.specs.Copying.{asked_of, copy_dpi, copy_grid, copy_units, picked}
use Rattle.dv_top.specs.CopyReasons.{Reason, Refuses}
use Rattle.dv_top.specs.CopyWork.{IsSound}
use Rattle.dv_top.specs.Covered.{CoversPages, Expands, IsNumbered}
use Rattle.dv_top.specs.Each.{Each}
use Rattle.dv_top.specs.Loading.{GainsPages, IsLoadReason}
use Rattle.dv_top.specs.Printing.{IsMarked, grid_with, most_steps}
use Rattle.dv_top.specs.Reading.{Input, NotDocument, NotRead, Source, most_input}
use Rattle.dv_top.specs.Scaled.{NotScaled}
use Rattle.dv_top.specs.Selecting.{NotChosen}
use Rattle.dv_top.specs.Sources.{InSomePage, frame_of, no_fonts_of}
use Rattle.dv_top.specs.Wanted.{Covered, Supplied, Wanted}
use Rattle.dv_top.specs.declared.outcome.Outcome.{Outcome}
use Rattle.dv_top.specs.declared.outcome.Outcome.TheVariants as outcome
use Rattle.dv_top.proofs.Ended.{ExpandingLaw, lines_none, tree_there}
use Rattle.dv_top.proofs.Lists.{any_as, each_as}
use Rattle.positions.specs.Place.{origin}
use Rattle.font_set.specs.Expand.{expand}
use Rattle.font_set.specs.Shapes.{shapes_of}
use Rattle.vf_expand.specs.Pages.{most_nested}

-- what refuses a job leaves nothing but its outcome
pub refused : (job : CopyJob) (told later : Told) (s : Seen) (o : Outcome) → Refuses job told later o → Leaves job told later s s o
refused job told later s o (inl e) =
    record { end = End.Wanting; tells = e; written = None; said = []; means = (refl, inl refl); left = (refl, refl, refl); lines = lines_none s.messages; rose = tt }
refused job told later s o (inr (r, tells, holds)) =
    record { end = End.Refused r; tells = tells; written = None; said = []; means = (refl, refl, holds); left = (refl, refl, refl); lines = lines_none s.messages; rose = tt }

-- the input wasn't read
pub not_read : (job : CopyJob) (told later : Told) (name : List ℕ) (o : Outcome) → name ≡ job.input → NotRead name most_input told later o → Refuses job told later o
not_read job told later name o e h = by (subst (λ (n : List ℕ). NotRead n most_input told later o) e h)
  where
    by : NotRead job.input most_input told later o → Refuses job told later o
    by (inl x) = inl x
    by (inr x) = inr (Reason.NoInput x.0, x.1, x.2)

-- its bytes are no document
pub not_document : (job : CopyJob) (told later : Told) (input : Input job.input told) (bytes : List ℕ) (o : Outcome) → input.bytes ≡ bytes → NotDocument bytes o → Refuses job told later o
not_document job told later input bytes o e h = by (subst (λ (b : List ℕ). NotDocument b o) (sym e) h)
  where
    by : NotDocument input.bytes o → Refuses job told later o
    by (inl x) = inl x
    by (inr x) = inr (Reason.NoDocument input x.0, x.1, x.2)

-- the pages that it asks for aren't there
pub not_chosen : (job : CopyJob) (told later : Told) (source : Source job.input told) (o : Outcome) → NotChosen source.doc (asked_of job) o → Refuses job told later o
not_chosen job told later source o (fault, tells, is) = inr (Reason.NoPages source fault, tells, is)

-- ---- the document of a job, as it was read

module _ (job : CopyJob) (told : Told) (s : Wanted job told) (r : ReadDoc) (one : OneDocument) (read : IsRead r) (same : s.source.input.bytes ≡ r.bytes) where
  abbrev Pages : List PageOf
  Pages = picked s.source.doc job

  pub is_here : IsDoc r.bytes s.source.doc
  is_here = subst (λ (b : List ℕ). IsDoc b s.source.doc) same s.source.is

  pub fonts_here : r.fonts ≡ s.source.doc.fonts
  fonts_here = read.2.3 ∙ ap (λ (d : Document). d.fonts) (one r.bytes read.0 s.source.doc read.1 is_here)

  pub no_pixels : (later : Told) (o : Outcome) → NotScaled s.source.doc job.mag copy_dpi o → Refuses job told later o
  no_pixels later o (units, tells, are, unusable) =
      inr (Reason.NoPixels s, subst (λ (u : Units). o ≡ outcome.BadConv u) are tells, subst (λ (u : Units). IsUsable u → ⊥) are unusable)

  module _ (units : Units) (scale : (units ≡ copy_units s.source.doc job) × IsUsable units) (b : Told) (kept : Keeps told b) (set : FontSet) (gains : GainsPages b r.fonts Pages (no_fonts_of wants.Packets units) set) where
    -- fonts that were gained for its pages
    abbrev pub supplied_of : Supplied job told
    supplied_of =
        record {
          wanted = s;
          usable = subst IsUsable scale.0 scale.1;
          set = set;
          fonts =
              subst (λ (u : Units). GainsPages told s.source.doc.fonts Pages (no_fonts_of wants.Packets u) set) scale.0
              (subst (λ (ds : List Definition). GainsPages told ds Pages (no_fonts_of wants.Packets units) set) fonts_here
              (subst (λ (h : Option Contents). Gains h (no_fonts_of wants.Packets units) set (λ id. InSomePage Pages (λ p. MustLoad set (frame_of r.fonts p) id)) (λ key. InSomePage Pages (λ p. MustKnow set (frame_of r.fonts p) key))) kept.held_same gains));
        }

    -- they can't be had
    pub no_fonts_for : (later : Told) (o : Outcome) → IsLoadReason set r.fonts Pages b later o → Refuses job told later o
    no_fonts_for later o (fault, tells, somewhere) =
        inr (
          Reason.NoFonts supplied_of fault,
          tells,
          any_as (λ (p : PageOf). LoadFaultIs set (frame_of r.fonts p) b later fault) (λ (p : PageOf). LoadFaultIs set (frame_of s.source.doc.fonts p) told later fault)
              (λ p h. subst (λ (ds : List Definition). LoadFaultIs set (frame_of ds p) told later fault) fonts_here (fault_before set (frame_of r.fonts p) told b later kept fault h)) Pages somewhere,
        )

    module _ (covers : CoversPages set r.fonts Pages) where
      -- fonts that cover its pages
      abbrev pub covered_of : Covered job told
      covered_of = record { supplied = supplied_of; covers = subst (λ (ds : List Definition). CoversPages set ds Pages) fonts_here covers }

      module _ (g : Grid) (grid : g ≡ copy_grid s.source.doc job) where
        -- its pages can't be walked over
        pub no_marks : (later : Told) (o : Outcome) → CheckFails g set r.fonts Pages o → Refuses job told later o
        no_marks later o (inl e) = inl e
        no_marks later o (inr (fault, tells, stops)) =
            inr (
              Reason.NoMarks covered_of fault,
              tells,
              subst (λ (ds : List Definition). StopsIn (copy_grid s.source.doc job) set ds Pages fault) fonts_here
                  (subst (λ (h : Grid). StopsIn h set r.fonts Pages fault) grid stops),
            )

        -- the same by the names of the job
        pub named : (P : Grid → List Definition → Type 0) → P g r.fonts → P (copy_grid s.source.doc job) s.source.doc.fonts
        named P h = subst (P (copy_grid s.source.doc job)) fonts_here (subst (λ (x : Grid). P x r.fonts) grid h)

        -- its pages were walked over
        abbrev pub walkable_of : IsNumbered set r.fonts Pages → Each (IsSound g set r.fonts) Pages → pages_count set r.fonts Pages ≤ most_steps → Walkable job told
        walkable_of numbered sound few =
            record {
              covered = covered_of;
              numbered = named (λ h x. IsNumbered set x Pages) numbered;
              marked =
                  named (λ h x. Each (IsMarked h set x) Pages)
                  (each_as (IsSound g set r.fonts) (IsMarked g set r.fonts) (λ p h. record { marks = h.marks; state = h.state; defined = h.defined }) Pages sound);
              shallow =
                  named (λ h x. Each (λ p. IsShallowPage h set x p.commands) Pages)
                  (each_as (IsSound g set r.fonts) (λ p. IsShallowPage g set r.fonts p.commands) (λ p h. h.shallow) Pages sound);
              few = named (λ h x. pages_count set x Pages ≤ most_steps) few;
            }

-- pages whose marks are defined have expanded trees
pub sound_expands : ExpandingLaw → (g : Grid) (set : FontSet) (ds : List Definition) (pages : List PageOf) → Each (IsSound g set ds) pages → Each (Expands set ds) pages
sound_expands law g set ds pages h =
    each_as (IsSound g set ds) (Expands set ds)
    (λ p r. tree_there g set (expand (shapes_of set) most_nested (frame_of ds p)) (record { place = origin; font = None }) (r.marks, r.state) (law g set most_nested (frame_of ds p) origin ∙ r.defined)) pages h

-- the grid of the walker
pub walker_here : (doc : Document) (job : CopyJob) (w : Walk) (units : Units) (a : Fraction) (drift : ℤ) → w ≡ record { grid = record { across = a; down = a; drift = drift }; steps = 0 } → drift ≡ pos 2 → units ≡ copy_units doc job → a ≡ pixels_of_one units → w.grid ≡ copy_grid doc job
walker_here doc job w units a drift is two e h =
    ap (λ (x : Walk). x.grid) is ∙ ap (λ (z : ℤ). let g : Grid = record { across = a; down = a; drift = z } in g) two ∙ ap (λ (x : Fraction). grid_with x x 2) (h ∙ ap pixels_of_one e)

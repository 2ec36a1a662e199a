-- What the copy of a document means whose pages were walked over.
use Rattle.std.proofs.Common.{◌≡◌, ℕ, zero, suc, pos, true, List, Option, Some, None, inl, inr, refl, subst, ◌⊎◌}
use Rattle.dv_base.specs.Shelf.{Contents, Told, WhereHeld}
use Rattle.dv_base.specs.declared.units.Units.{Units}
use Rattle.tfm_widths.specs.Widths.{Table}
use Rattle.dvi_ops.specs.Command.{Definition}
use Rattle.dvi_doc.specs.Document.{PageOf, document_of}
use Rattle.dv_words.specs.Jobs.{CopyJob}
use Rattle.font_set.specs.FontOf.{FontOf}
use Rattle.font_set.specs.Fonts.{FontSet, IsLoaded, State, key_at, state_at}
use Rattle.font_set.specs.Key.{Key}
use Rattle.font_set.specs.LoadFaults.{MustLoad}
use Rattle.font_set.specs.declared.want.Want.{Want}
use Rattle.font_set.specs.declared.want.Want.TheVariants as wants
use Rattle.vf_expand.specs.Grid.{Grid}
use Rattle.dvicopy_out.specs.AsDocument.{file_of}
use Rattle.dvicopy_out.specs.Numbered.{is_real}
use Rattle.dvicopy_out.specs.RealFonts.{CopyDefinesReal, IsReal}
use Rattle.dvicopy_out.specs.Units.{AreOf, CopyKeepsPages, Serves}
use Rattle.dvicopy_out.specs.Writable.{CopyIsDocument, IsPutCopy}
use Rattle.dv_top.specs.Copyable.{IsCopy, IsRealFont, SameMarks, Walkable, copy_for, pages_for, work_for}
use Rattle.dv_top.specs.Copying.{copy_units, picked}
use Rattle.dv_top.specs.Sources.{AreFontsFrom, InSomePage, frame_of, no_fonts_of}
use Rattle.dv_top.specs.Wanted.{doc_of, set_of}

-- ---- fonts

loaded_real : (s : State) → is_real s ≡ true → IsLoaded s
loaded_real State.Known e = absurd cc
loaded_real (State.Real tfm pk) e = tt
loaded_real (State.Virtual tfm vf) e = absurd cc

none_loaded : (want : Want) (units : Units) (id : ℕ) → IsLoaded (state_at (no_fonts_of want units) id) → ⊥
unfolding state_at
none_loaded want units zero h = h
none_loaded want units (suc id) h = h

real_state : (o : Option Contents) (units : Units) (key : Key) (s : State) → is_real s ≡ true → WhereHeld o (λ h. FontOf h units wants.Packets key s) → (tfm : Table) × WhereHeld o (λ h. FontOf h units wants.Packets key (State.Real tfm None))
real_state o units key State.Known e h = absurd cc
real_state None units key (State.Real tfm pk) e h = (tfm, tt)
real_state (Some held) units key (State.Real tfm pk) e h = (tfm, (h.0, h.1, refl))
real_state o units key (State.Virtual tfm vf) e h = absurd cc

-- a definition of a font of a set that came from the shelf is of a real font
real_font : (told : Told) (units : Units) (ds : List Definition) (pages : List PageOf) (set : FontSet) → AreFontsFrom told (no_fonts_of wants.Packets units) ds pages set → (d : Definition) → IsReal set d → IsRealFont told units d
real_font told units ds pages set fonts d (id, inside, real, same) =
    by (fonts.loads id (loaded_real (state_at set id) real))
  where
    by : IsLoaded (state_at (no_fonts_of wants.Packets units) id) ⊎ (InSomePage pages (λ p. MustLoad set (frame_of ds p) id) × WhereHeld told.held (λ h. FontOf h set.units set.want (key_at set id) (state_at set id))) → IsRealFont told units d
    by (inl was) = absurd (none_loaded wants.Packets units id was)
    by (inr h) =
        let font = subst (λ (u : Units). WhereHeld told.held (λ c. FontOf c u set.want (key_at set id) (state_at set id))) fonts.extends.units h.1 in
        let here = subst (λ (w : Want). WhereHeld told.held (λ c. FontOf c units w (key_at set id) (state_at set id))) fonts.extends.want font in
        let s = real_state told.held units (key_at set id) (state_at set id) real here in
        record { number = _; key = key_at set id; same = same; tfm = s.0; tells = s.1 }

-- ---- the copy

pub is_copy : {job : CopyJob} {told : Told} (w : Walkable job told) → CopyIsDocument → CopyKeepsPages → CopyDefinesReal → IsPutCopy (work_for w) (pages_for w) → AreOf (set_of w.covered) (pages_for w)
    → ((fonts : FontSet) (h : Grid) → Serves (set_of w.covered) fonts → h.drift ≡ pos 0 → SameMarks h fonts (set_of w.covered) (document_of (file_of (work_for w) (pages_for w))).fonts (document_of (file_of (work_for w) (pages_for w))).pages (doc_of w.covered).fonts (picked (doc_of w.covered) job))
    → IsCopy w (copy_for w)
is_copy {job} {told} w document keeps defines put marks same =
    record {
      copy = document_of (file_of (work_for w) (pages_for w));
      is = document (work_for w) (pages_for w) put;
      num = refl;
      den = refl;
      mag = refl;
      comment = refl;
      real =
          λ k d l.
          real_font told (copy_units (doc_of w.covered) job) (doc_of w.covered).fonts (picked (doc_of w.covered) job) (set_of w.covered) (w.covered).supplied.fonts _ (defines (work_for w) (pages_for w) k d l);
      pages = λ fonts g serves. keeps (work_for w) (pages_for w) put marks fonts g serves;
      marks = same;
    }

-- What is left once all that was gathered has been sent.
use Rattle.std.proofs.Common.{◌≡◌, ◌++◌, ℕ, List, [], length, take, reverse, inl, inr, Option, Some, None, Result, Ok, Err, refl, sym, ap, subst, ◌∙◌, arith, length-append}
use Rattle.std.specs.Prelude.{IfErr, map, slice_get}
use Rattle.std.specs.Result.{IsErrAnd}
use Rattle.std.proofs.lemmas.List.{append-nil, take-append-le}
use Rattle.std.proofs.Math.Seq.{take-length}
use Rattle.dv_base.specs.Shelf.{Told, Contents}
use Rattle.dv_base.specs.Tray.{Seen, Output, WhereTold, Appends, AppendsFront, append_last}
use Rattle.dv_base.specs.TrayLaws.{append_nothing, told_by}
use Rattle.positions.specs.Place.{origin}
use Rattle.font_set.specs.Fonts.{Entry, FontSet, IsLoaded, state_at, state_in}
use Rattle.font_set.specs.Gains.{Gains}
use Rattle.font_set.specs.Growth.{keys_now}
use Rattle.dvitype_list.specs.Standing.{Setting, page_start}
use Rattle.dvitype_list.specs.Listing.{Run}
use Rattle.dvitype_list.specs.Gathered.{Gathered, Cut}
use Rattle.dvitype_list.specs.Kept.{Any, Failed, Finished, IsSelected, Stands, Stopped}
use Rattle.dvitype_list.specs.Leaves.{AreOfFiles, EndsEarly, IsListed, StopsAt}
use Rattle.dvitype_list.specs.declared.fault.ListFault.{ListFault}
use Rattle.dvitype_list.specs.declared.fault.ListFault.TheVariants as fault
use Rattle.dvitype_list.specs.declared.state.Selected.{Selected}
use Rattle.dvitype_list.specs.declared.state.State.{State}
use Rattle.dvitype_list.proofs.Gathering.{cut_longer}

-- all is sent: the text was written
written : (first now : Seen) (text : List ℕ) → Gathered first now [] ([] ++ text) → WhereTold (Appends text) first.outputs now.outputs
written first now text g = subst (λ (t : List ℕ). WhereTold (Appends t) first.outputs now.outputs) (sym (append-nil g.sent) ∙ g.whole) g.told

front_of : (text front rest : List ℕ) → front ++ rest ≡ text → (os ps : List Output) → Appends front os ps → AppendsFront text os ps
front_of text front rest e os ps h =
    let same : take (length front) text ≡ front = ap (take (length front)) (sym e) ∙ take-append-le (length front) front rest (omega arith) ∙ take-length front in
    (length front, omega (arith, ap length e, length-append front rest), h ∙ ap (append_last os) (sym same))

-- what a call of `send` says of the text
abbrev pub Sends : Seen → List ℕ → Seen → Type 0
Sends now kept new = (first : Seen) (text : List ℕ) → Gathered first now kept text → Gathered first new [] text

abbrev pub Loses : Seen → List ℕ → Seen → Type 0
Loses now kept new = (first : Seen) (text : List ℕ) → Gathered first now kept text → Cut first new text

pub finished : (r : Run) (first now new : Seen) (kept : List ℕ) → Sends now kept new → Finished r first now kept [] → IsListed r first new
finished r first now new kept s h = record { standing = h.standing; ends = h.ends; written = written first new r.text (s first ([] ++ r.text) h.gathered) }

pub finish_lost : (r : Run) (first now new : Seen) (kept : List ℕ) → Loses now kept new → Finished r first now kept [] → Cut first new r.text
finish_lost r first now new kept l h = l first ([] ++ r.text) h.gathered

module _ (r : Run) (s : Setting) (set : FontSet) (told_old told_new : Told) (first now new : Seen) (kept : List ℕ) where
  stopped : (e : ListFault) → Sends now kept new → Stopped r s set told_old told_new first now kept [] e → StopsAt r s set told_old told_new first new e
  stopped e k h = record { command = h.command; standing = h.standing; stops = h.stops; why = h.why; written = written first new r.text (k first ([] ++ r.text) h.gathered) }

  -- a fault, and all that was gathered before it is sent
  pub failed : (e : ListFault) → (e ≡ fault.WriteFault → ⊥) → Sends now kept new → Failed r s set told_old told_new first now kept [] e → EndsEarly r s set told_old told_new first new e
  failed fault.WriteFault n k h = absurd (n refl)
  failed fault.OutOfMemory n k h = told_by (Appends h.0) (AppendsFront r.text) first.outputs new.outputs (front_of r.text h.0 h.1 h.2) (written first new h.0 (k first ([] ++ h.0) h.3))
  failed (fault.Load x) n k h = stopped (fault.Load x) k h
  failed (fault.StackUnder x) n k h = stopped (fault.StackUnder x) k h
  failed (fault.StackLeft x) n k h = stopped (fault.StackLeft x) k h
  failed (fault.StackDeep x) n k h = stopped (fault.StackDeep x) k h
  failed (fault.Overflow x) n k h = stopped (fault.Overflow x) k h

  -- the same, and the tray fails
  pub failed_lost : (e : ListFault) → (e ≡ fault.WriteFault → ⊥) → Loses now kept new → Failed r s set told_old told_new first now kept [] e → Cut first new r.text
  failed_lost fault.WriteFault n k h = absurd (n refl)
  failed_lost fault.OutOfMemory n k h = cut_longer first new h.0 h.1 r.text h.2 (k first ([] ++ h.0) h.3)
  failed_lost (fault.Load x) n k h = k first ([] ++ r.text) h.gathered
  failed_lost (fault.StackUnder x) n k h = k first ([] ++ r.text) h.gathered
  failed_lost (fault.StackLeft x) n k h = k first ([] ++ r.text) h.gathered
  failed_lost (fault.StackDeep x) n k h = k first ([] ++ r.text) h.gathered
  failed_lost (fault.Overflow x) n k h = k first ([] ++ r.text) h.gathered

-- ---- before the first line

pub none_written : (t : List ℕ) (o : Option (List Output)) → WhereTold (AppendsFront t) o o
none_written t None = tt
none_written t (Some os) = (0, omega arith, sym (append_nothing os))

none_loaded : (set : FontSet) (id : ℕ) → set.fonts ≡ [] → IsLoaded (state_at set id) → ⊥
unfolding state_at
none_loaded set id e l = subst (λ (es : List Entry). IsLoaded (state_in (slice_get es id))) e l

-- fonts that were loaded into a set without fonts are those of the files
pub of_files : (held : Option Contents) (old new : FontSet) → old.fonts ≡ [] → Gains held old new Any Any → AreOfFiles held new
of_files held old new e g = λ id l. elim (g.loads id l) [ inl was ↦ absurd (none_loaded old id e was) | inr w ↦ w.1 ]

none_known : (set : FontSet) → set.fonts ≡ [] → [] ≡ keys_now set
unfolding keys_now
none_known set e = ap (map (λ (x : Entry). x.key)) (sym e)

pub start_stands : (set : FontSet) (state : State) → set.fonts ≡ [] → state.pos ≡ origin → state.font ≡ None → state.saved.items ≡ [] → Stands set state (page_start [])
start_stands set state none place font saved =
    record {
      place = sym place;
      font = subst (λ (o : Option Selected). IsSelected set o None) (sym font) tt;
      pushes = ap reverse (sym saved);
      known = none_known set none;
    }

-- memory was refused before the first line
pub refused : (g : Result (Unit {0}) ListFault) (r : Run) (s : Setting) (set : FontSet) (told_old told_new : Told) (first : Seen) → IsErrAnd g (λ (e : ListFault). e ≡ fault.OutOfMemory) → IfErr g (EndsEarly r s set told_old told_new first first)
refused (Ok u) r s set told_old told_new first h = tt
refused (Err e) r s set told_old told_new first h = subst (λ (x : ListFault). EndsEarly r s set told_old told_new first first x) (sym h) (none_written r.text first.outputs)

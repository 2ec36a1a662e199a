-- What the calls of a canvas leave.
use Rattle.std.proofs.Common.{◌≡◌, refl, sym, ap, ◌∙◌, subst, [], ◌∷◌, None}
use Rattle.std.specs.Prelude.{Result, Ok, Err, OnOk, IfErr}
use Rattle.std.proofs.lemmas.List.{append-nil}
use Rattle.dv_base.specs.declared.tray.Tray.{Ghosts}
use Rattle.positions.specs.Mark.{Mark, Special}
use Rattle.positions.specs.Mark.Mark.{OfSpecial}
use Rattle.ps_emit.specs.Shapes.{passed_on}
use Rattle.ps_emit.specs.Sheet.{mark_lines, mark_sheet, special_lines, special_sheet}
use Rattle.ps_emit.specs.Written.{Wrote, Writes, wrote_nothing}
use Rattle.ps_emit.specs.Shown.{Holds, out_of, pass_of, sheet_of}
use Rattle.ps_emit.specs.Taken.{Took, Refused}
use Rattle.ps_emit.specs.declared.emitter.Emitter.{Emitter}

pub one_taken : {T X E : Type 0} {G : Ghosts T} (old new : Emitter T G) (m : Mark) (r : Result X E)
    → Writes (mark_lines (pass_of old) (sheet_of old) m) (out_of old) (out_of new) r → Holds old new → sheet_of new ≡ mark_sheet (pass_of old) (sheet_of old) m → OnOk r (Took old new (m ∷ []))
one_taken old new m (Ok v) f h s = record { wrote = subst (λ bs. Wrote bs (out_of old) (out_of new)) (sym (append-nil (mark_lines (pass_of old) (sheet_of old) m))) f; sheet = s; holds = h }
one_taken old new m (Err e) f h s = tt

pub one_refused : {T X E : Type 0} {G : Ghosts T} (old new : Emitter T G) (m : Mark) (r : Result X E)
    → Writes (mark_lines (pass_of old) (sheet_of old) m) (out_of old) (out_of new) r → Holds old new → IfErr r (λ fault. Refused old new [] m)
one_refused old new m (Ok v) f h = tt
one_refused old new m (Err e) f h = record { between = out_of old; wrote = wrote_nothing (out_of old) old.fits; cut = f; holds = h }

-- a special that isn't passed on leaves all as it is
pub none_taken : {T : Type 0} {G : Ghosts T} (e : Emitter T G) (p : Special) → passed_on (pass_of e) p.bytes ≡ None → Took e e (OfSpecial p ∷ [])
none_taken e p none = record {
  wrote = subst (λ bs. Wrote bs (out_of e) (out_of e)) (sym (append-nil (mark_lines (pass_of e) (sheet_of e) (OfSpecial p)) ∙ ap (special_lines (sheet_of e) p) none)) (wrote_nothing (out_of e) e.fits);
  sheet = sym (ap (special_sheet (sheet_of e) p) none);
  holds = record { loan_same = refl; fonts_same = refl; comments_same = refl; pass_same = refl };
}

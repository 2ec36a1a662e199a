-- What the calls of a canvas leave.
use Rattle.std.proofs.Common.{arith, length-append, ◌≡◌, ℕ, List, [], ◌∷◌, ◌++◌, length, sym, ap, ◌∙◌, subst}
use Rattle.std.specs.Prelude.{Result, Ok, Err, OnOk, IfErr}
use Rattle.std.proofs.lemmas.List.{append-nil}
use Rattle.dv_base.specs.declared.tray.Tray.{Ghosts}
use Rattle.positions.specs.Mark.{Mark}
use Rattle.dvi_ops.specs.Command.{Command}
use Rattle.dvicopy_out.specs.Counted.{counted}
use Rattle.dvicopy_out.specs.Spelled.{spelled}
use Rattle.dvicopy_out.specs.Marked.{mark_commands, mark_pen}
use Rattle.dvicopy_out.specs.Measured as measured
use Rattle.dvicopy_out.specs.declared.measure.Measure.{Measure}
use Rattle.dvicopy_out.specs.Sent.{Sends, Sent, Cut}
use Rattle.dvicopy_out.specs.Shown.{Holds, fonts_of, last_of, out_of, pen_of, place_of}
use Rattle.dvicopy_out.specs.Taken.{Took, Refused}
use Rattle.dvicopy_out.specs.declared.writer.Writer.{Writer}

-- commands with none behind them
alone : (cs : List Command) → spelled (cs ++ []) ≡ spelled cs
alone cs = ap spelled (append-nil cs)

pub one_measured : (old new : Measure) (m : Mark) (text : List ℕ) → measured.fonts_of new ≡ measured.fonts_of old → measured.pen_of new ≡ mark_pen (measured.fonts_of old) (measured.pen_of old) m
    → text ≡ spelled (mark_commands (measured.fonts_of old) (measured.pen_of old) m) → measured.bytes_of new ≡ counted (measured.bytes_of old) (length text) → measured.Took old new (m ∷ [])
one_measured old new m text fonts pen is bytes = record {
  fonts = fonts;
  pen = pen;
  bytes = bytes ∙ ap (λ (bs : List ℕ). counted (measured.bytes_of old) (length bs)) (is ∙ sym (alone (mark_commands (measured.fonts_of old) (measured.pen_of old) m)));
}

pub one_taken : {T X E : Type 0} {G : Ghosts T} (old new : Writer T G) (m : Mark) (text : List ℕ) (r : Result X E) → text ≡ spelled (mark_commands (fonts_of old) (pen_of old) m)
    → Sends text (out_of old) (out_of new) r → OnOk r (place_of new ≡ counted (place_of old) (length text)) → last_of new ≡ last_of old → pen_of new ≡ mark_pen (fonts_of old) (pen_of old) m → Holds old new → OnOk r (Took old new (m ∷ []))
one_taken old new m text (Ok v) is sent place last pen holds =
    let whole : text ≡ spelled (mark_commands (fonts_of old) (pen_of old) m ++ []) = is ∙ sym (alone (mark_commands (fonts_of old) (pen_of old) m)) in
    record {
      sent = subst (λ bs. Sent bs (out_of old) (out_of new)) whole sent;
      place = place ∙ ap (λ (bs : List ℕ). counted (place_of old) (length bs)) whole;
      last = last;
      pen = pen;
      holds = holds;
    }
one_taken old new m text (Err e) is sent place last pen holds = tt

pub one_refused : {T X E : Type 0} {G : Ghosts T} (old new : Writer T G) (m : Mark) (text : List ℕ) (r : Result X E) → text ≡ spelled (mark_commands (fonts_of old) (pen_of old) m)
    → Sends text (out_of old) (out_of new) r → Holds old new → IfErr r (λ fault. Refused old new [] m)
one_refused old new m text (Ok v) is sent holds = tt
one_refused old new m text (Err e) is cut holds = record {
  cut = subst (λ bs. Cut bs (out_of old) (out_of new)) (is ∙ sym (alone (mark_commands (fonts_of old) (pen_of old) m))) cut;
  holds = holds;
}

-- how much went in after two texts
pub placed_both : {X E : Type 0} (a b : List ℕ) (x y z : ℕ) (r : Result X E) → y ≡ counted x (length a) → OnOk r (z ≡ counted y (length b)) → OnOk r (z ≡ counted x (length (a ++ b)))
placed_both a b x y z (Ok v) e f = omega (arith, e, f, length-append a b)
placed_both a b x y z (Err v) e f = tt

pub placed_three : {X E : Type 0} (a b d : List ℕ) (x y z v : ℕ) (r : Result X E) → y ≡ counted x (length a) → z ≡ counted y (length b) → OnOk r (v ≡ counted z (length d)) → OnOk r (v ≡ counted x (length (a ++ (b ++ d))))
placed_three a b d x y z v (Ok u) e f g = omega (arith, e, f, g, length-append a (b ++ d), length-append b d)
placed_three a b d x y z v (Err u) e f g = tt

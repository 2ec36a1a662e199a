-- What a writer takes as a canvas: the commands of each mark.
use Rattle.std.specs.Prelude.{◌≡◌, ◌<◌, List, [], ◌∷◌, ◌++◌, length, ℕ}
use Rattle.std.proofs.Common.{refl, sym, ap, ◌∙◌, subst, append_assoc, arith, length-append}
use Rattle.dv_base.specs.declared.tray.Tray.{Ghosts}
use Rattle.positions.specs.Mark.{Mark}
use Rattle.positions.specs.Conditions.{SameCondition}
use Rattle.font_set.specs.Fonts.{FontSet}
use Rattle.dvicopy_out.specs.Counted.{counted}
use Rattle.dvicopy_out.specs.Spelled.{spelled}
use Rattle.dvicopy_out.specs.Marked.{Pen, marks_commands, marks_pen}
use Rattle.dvicopy_out.specs.Measured.{IsTakeable}
use Rattle.dvicopy_out.specs.MeasuredLaws.{marks_spelled, marks_pen-append, counted_none, counted_more}
use Rattle.dvicopy_out.specs.Sent.{Out, Sent, Cut, sent_nothing, sent_more, cut_later, cut_longer}
use Rattle.dvicopy_out.specs.Shown.{Holds, fonts_of, holds_more, last_of, out_of, pen_of, place_of}
use Rattle.dvicopy_out.specs.declared.writer.Writer.{Writer}

-- an output has been begun, and the mark is one that can be taken
abbrev pub CanTake : {T : Type 0} {G : Ghosts T} → Writer T G → Mark → Type 0
CanTake {T} {G} w mark = (0 < (out_of w).seen.begun) × IsTakeable (fonts_of w) mark

-- the commands of these marks went in, and the place is the one behind them
pub record Took {T : Type 0} {G : Ghosts T} (old new : Writer T G) (marks : List Mark) : Type 0 where
  pub sent : Sent (spelled (marks_commands (fonts_of old) (pen_of old) marks)) (out_of old) (out_of new)
  pub place : place_of new ≡ counted (place_of old) (length (spelled (marks_commands (fonts_of old) (pen_of old) marks)))
  pub last : last_of new ≡ last_of old
  pub pen : pen_of new ≡ marks_pen (fonts_of old) (pen_of old) marks
  pub holds : Holds old new

-- The commands of these marks were cut, or those of the one behind them.
pub record Refused {T : Type 0} {G : Ghosts T} (old new : Writer T G) (marks : List Mark) (mark : Mark) : Type 0 where
  pub cut : Cut (spelled (marks_commands (fonts_of old) (pen_of old) (marks ++ mark ∷ []))) (out_of old) (out_of new)
  pub holds : Holds old new

pub took_nothing : {T : Type 0} {G : Ghosts T} (w : Writer T G) → Took w w []
took_nothing w = record { sent = sent_nothing (out_of w); place = counted_none w.place w.fits; last = refl; pen = refl; holds = record { loan_same = refl; fonts_same = refl } }

-- two lists of marks, one after the other, where the second begins where the first ended
both_sent : (set again : FontSet) (p q : Pen) (xs ys : List Mark) (a b c : Out) → again ≡ set → q ≡ marks_pen set p xs → Sent (spelled (marks_commands set p xs)) a b → Sent (spelled (marks_commands again q ys)) b c → Sent (spelled (marks_commands set p (xs ++ ys))) a c
both_sent set again p q xs ys a b c s e f g =
    subst (λ text. Sent text a c) ((λ i. spelled (marks_commands set p xs) ++ spelled (marks_commands (s i) (e i) ys)) ∙ sym (marks_spelled set p xs ys))
    (sent_more (spelled (marks_commands set p xs)) (spelled (marks_commands again q ys)) a b c f g)

pub took_more : {T : Type 0} {G : Ghosts T} (a b c : Writer T G) (xs ys : List Mark) → Took a b xs → Took b c ys → Took a c (xs ++ ys)
took_more a b c xs ys f g =
    let set : FontSet = fonts_of a in
    let p : Pen = pen_of a in
    let again : fonts_of b ≡ fonts_of a = (f.holds).fonts_same in
    let first : List ℕ = spelled (marks_commands set p xs) in
    let next : List ℕ = spelled (marks_commands set (marks_pen set p xs) ys) in
    record {
      sent = both_sent (fonts_of a) (fonts_of b) (pen_of a) (pen_of b) xs ys (out_of a) (out_of b) (out_of c) again f.pen f.sent g.sent;
      place =
          g.place ∙ (λ i. counted (f.place i) (length (spelled (marks_commands (again i) (f.pen i) ys))))
          ∙ counted_more (place_of a) (length first) (length next)
          ∙ ap (counted (place_of a)) (sym (length-append first next) ∙ ap (λ (xs : List ℕ). length xs) (sym (marks_spelled set p xs ys)));
      last = g.last ∙ f.last;
      pen = g.pen ∙ (λ i. marks_pen (again i) (f.pen i) ys) ∙ sym (marks_pen-append set p xs ys);
      holds = holds_more a b c f.holds g.holds;
    }

pub refused_after : {T : Type 0} {G : Ghosts T} (a b c : Writer T G) (xs ys : List Mark) (mark : Mark) → Took a b xs → Refused b c ys mark → Refused a c (xs ++ ys) mark
refused_after a b c xs ys mark f g =
    let set : FontSet = fonts_of a in
    let p : Pen = pen_of a in
    let again : fonts_of b ≡ fonts_of a = (f.holds).fonts_same in
    record {
      cut =
          subst (λ text. Cut text (out_of a) (out_of c))
          ((λ i. spelled (marks_commands set p xs) ++ spelled (marks_commands (again i) (f.pen i) (ys ++ mark ∷ [])))
          ∙ sym (marks_spelled set p xs (ys ++ mark ∷ []))
          ∙ ap (λ ms. spelled (marks_commands set p ms)) (sym (append_assoc xs ys (mark ∷ []))))
          (cut_later (spelled (marks_commands set p xs)) (spelled (marks_commands (fonts_of b) (pen_of b) (ys ++ mark ∷ []))) (out_of a) (out_of b) (out_of c) f.sent g.cut);
      holds = holds_more a b c f.holds g.holds;
    }

-- what has been taken leaves an output begun, and the fonts
pub same_condition : {T : Type 0} {G : Ghosts T} (old new : Writer T G) (marks : List Mark) → Took old new marks → SameCondition CanTake old new
same_condition old new marks f mark =
    let e = (f.sent).keeps.begun_same in
    let fonts : fonts_of new ≡ fonts_of old = (f.holds).fonts_same in (
      (λ h. (omega (arith, e, h.0), subst (λ set. IsTakeable set mark) (sym fonts) h.1)),
      (λ h. (omega (arith, e, h.0), subst (λ set. IsTakeable set mark) fonts h.1)),
    )

-- a mark that is refused cuts the commands of all marks of which it is the next
pub refused_cut : {T : Type 0} {G : Ghosts T} (a b : Writer T G) (xs : List Mark) (mark : Mark) (rest all : List Mark) → Refused a b xs mark → xs ++ mark ∷ rest ≡ all → Cut (spelled (marks_commands (fonts_of a) (pen_of a) all)) (out_of a) (out_of b)
refused_cut a b xs mark rest all f e =
    let set : FontSet = fonts_of a in
    let p : Pen = pen_of a in
    let upto : List Mark = xs ++ mark ∷ [] in
    subst (λ text. Cut text (out_of a) (out_of b))
    (sym (marks_spelled set p upto rest) ∙ ap (λ ms. spelled (marks_commands set p ms)) (append_assoc xs (mark ∷ []) rest ∙ e))
    (cut_longer (spelled (marks_commands set p upto)) (spelled (marks_commands set (marks_pen set p upto) rest)) (out_of a) (out_of b) f.cut)

-- What a measure counted, put together. (These laws stand here and not in proofs/, since the crate's canvas cites them.)
use Rattle.std.specs.Prelude.{◌≡◌, ◌<◌, ◌^◌, ℕ, List, [], ◌∷◌, ◌++◌, length}
use Rattle.std.proofs.Common.{◌+◌, refl, sym, ap, ◌∙◌, append_assoc, arith, length-append}
use Rattle.positions.specs.Mark.{Mark}
use Rattle.dvi_ops.specs.Command.{Command}
use Rattle.font_set.specs.Fonts.{FontSet}
use Rattle.dvicopy_out.specs.Counted.{counted}
use Rattle.dvicopy_out.specs.Spelled.{spelled}
use Rattle.dvi_ops.specs.Shortest.{shortest_whole}
use Rattle.dvicopy_out.specs.Marked.{Pen, mark_commands, mark_pen, marks_commands, marks_pen}
use Rattle.dvicopy_out.specs.Measured.{Took, fonts_of, pen_of, bytes_of}
use Rattle.dvicopy_out.specs.declared.measure.Measure.{Measure}

pub spelled-append : (xs ys : List Command) → spelled (xs ++ ys) ≡ spelled xs ++ spelled ys
spelled-append [] ys = refl
spelled-append (c ∷ xs) ys = ap (λ bs. shortest_whole c ++ bs) (spelled-append xs ys) ∙ sym (append_assoc (shortest_whole c) (spelled xs) (spelled ys))

pub marks_commands-append : (set : FontSet) (p : Pen) (xs ys : List Mark) → marks_commands set p (xs ++ ys) ≡ marks_commands set p xs ++ marks_commands set (marks_pen set p xs) ys
marks_commands-append set p [] ys = refl
marks_commands-append set p (m ∷ xs) ys =
    ap (λ cs. mark_commands set p m ++ cs) (marks_commands-append set (mark_pen set p m) xs ys)
    ∙ sym (append_assoc (mark_commands set p m) (marks_commands set (mark_pen set p m) xs) (marks_commands set (marks_pen set (mark_pen set p m) xs) ys))

pub marks_pen-append : (set : FontSet) (p : Pen) (xs ys : List Mark) → marks_pen set p (xs ++ ys) ≡ marks_pen set (marks_pen set p xs) ys
marks_pen-append set p [] ys = refl
marks_pen-append set p (m ∷ xs) ys = marks_pen-append set (mark_pen set p m) xs ys

-- the bytes of two lists of marks, one after the other
pub marks_spelled : (set : FontSet) (p : Pen) (xs ys : List Mark) → spelled (marks_commands set p (xs ++ ys)) ≡ spelled (marks_commands set p xs) ++ spelled (marks_commands set (marks_pen set p xs) ys)
marks_spelled set p xs ys =
    ap spelled (marks_commands-append set p xs ys) ∙ spelled-append (marks_commands set p xs) (marks_commands set (marks_pen set p xs) ys)

pub counted_none : (count : ℕ) → count < 2 ^ 64 → count ≡ counted count 0
counted_none count h = omega arith

pub counted_more : (count a b : ℕ) → counted (counted count a) b ≡ counted count (a + b)
counted_more count a b = omega arith

pub took_nothing : (m : Measure) → Took m m []
took_nothing m = record { fonts = refl; pen = refl; bytes = counted_none m.count m.fits }

pub took_more : (a b c : Measure) (xs ys : List Mark) → Took a b xs → Took b c ys → Took a c (xs ++ ys)
took_more a b c xs ys f g =
    let set = fonts_of a in
    let p = pen_of a in
    let first = spelled (marks_commands set p xs) in
    let then_ = spelled (marks_commands set (marks_pen set p xs) ys) in
    record {
      fonts = g.fonts ∙ f.fonts;
      pen = g.pen ∙ (λ i. marks_pen (f.fonts i) (f.pen i) ys) ∙ sym (marks_pen-append set p xs ys);
      bytes =
          g.bytes ∙ (λ i. counted (f.bytes i) (length (spelled (marks_commands (f.fonts i) (f.pen i) ys))))
          ∙ counted_more (bytes_of a) (length first) (length then_)
          ∙ ap (counted (bytes_of a)) (sym (length-append first then_) ∙ ap length (sym (marks_spelled set p xs ys)));
    }

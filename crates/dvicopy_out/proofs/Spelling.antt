-- Commands that are spelled one after another.
use Rattle.std.proofs.Common.{◌≡◌, ◌+ℤ◌, ◌-ℤ◌, ℕ, ℤ, List, [], ◌∷◌, ◌++◌, refl, sym, ap, ◌∙◌, append_assoc, Some}
use Rattle.std.proofs.lemmas.List.{append-nil}
use Rattle.dvi_ops.specs.Command.{Command}
use Rattle.dvi_ops.specs.Command.Command.{Right, Down, PutRule, Xxx}
use Rattle.dvi_ops.specs.Shortest.{shortest, shortest_whole, end_text}
use Rattle.dvicopy_out.specs.Spelled.{spelled}
use Rattle.dvicopy_out.specs.Moves.{moves, part, first_part}
use Rattle.dvicopy_out.specs.Marked.{Pen, char_command, fits, glyph_commands, selecting, way}

pub spelled_both : (xs ys : List Command) → spelled (xs ++ ys) ≡ spelled xs ++ spelled ys
spelled_both [] ys = refl
spelled_both (c ∷ xs) ys = ap (λ bs. shortest_whole c ++ bs) (spelled_both xs ys) ∙ sym (append_assoc (shortest_whole c) (spelled xs) (spelled ys))

-- a command without a text at its end
pub spelled_one : (c : Command) → end_text c ≡ [] → spelled (c ∷ []) ≡ shortest c
spelled_one c e = append-nil (shortest_whole c) ∙ ap (λ t. shortest c ++ t) e ∙ append-nil (shortest c)

-- two pieces behind what stood there
pub two_pieces : (old one two : List ℕ) (xs ys : List Command) → one ≡ old ++ spelled xs → two ≡ one ++ spelled ys → two ≡ old ++ spelled (xs ++ ys)
two_pieces old one two xs ys e f =
    f ∙ ap (λ bs. bs ++ spelled ys) e ∙ append_assoc old (spelled xs) (spelled ys) ∙ ap (λ bs. old ++ bs) (sym (spelled_both xs ys))

-- the two parts of a move
pub two_parts : (move : ℤ → Command) (old one two : List ℕ) (q a : ℤ) → a ≡ first_part q → one ≡ old ++ spelled (part move a) → two ≡ one ++ spelled (part move (q -ℤ a)) → two ≡ old ++ spelled (moves move q)
two_parts move old one two q a is e f =
    two_pieces old one two (part move (first_part q)) (part move (q -ℤ first_part q))
    (e ∙ ap (λ z. old ++ spelled (part move z)) is) (f ∙ ap (λ z. one ++ spelled (part move (q -ℤ z))) is)

-- the way to a place, where nothing stood
pub a_way : (one two : List ℕ) (a b : ℤ) → one ≡ [] ++ spelled (moves Right a) → two ≡ one ++ spelled (moves Down b) → two ≡ spelled (moves Right a ++ moves Down b)
a_way one two a b e f = two_pieces [] one two (moves Right a) (moves Down b) e f

-- the commands of a character, in three pieces
pub a_glyph : (p q r : Pen) (n code : ℕ) (h v width : ℤ) (one two three : List ℕ) → one ≡ spelled (way p h v) → q ≡ record { h = h; v = v; font = p.font } → two ≡ one ++ spelled (selecting q.font n) → r ≡ record { h = q.h; v = q.v; font = Some n }
    → three ≡ two ++ spelled (char_command (fits (r.h +ℤ width)) code ∷ []) → three ≡ spelled (glyph_commands p n code h v width)
a_glyph p q r n code h v width one two three e at f in_font g =
    let away : List Command = way p h v in
    let select : List Command = selecting p.font n in
    let shows : List Command = char_command (fits (h +ℤ width)) code ∷ [] in
    let two_is : two ≡ one ++ spelled select = f ∙ ap (λ (x : Pen). one ++ spelled (selecting x.font n)) at in
    let here : r.h ≡ h = ap (λ (x : Pen). x.h) in_font ∙ ap (λ (x : Pen). x.h) at in
    let three_is : three ≡ two ++ spelled shows = g ∙ ap (λ (z : ℤ). two ++ spelled (char_command (fits (z +ℤ width)) code ∷ [])) here in
    two_pieces (spelled away) two three select shows (two_is ∙ ap (λ bs. bs ++ spelled select) e) three_is
    ∙ sym (spelled_both away (select ++ shows))

-- the commands of a rule
pub a_rule : (p : Pen) (h v a b : ℤ) (one two : List ℕ) → one ≡ spelled (way p h v) → two ≡ one ++ shortest (PutRule a b) → two ≡ spelled (way p h v ++ PutRule a b ∷ [])
a_rule p h v a b one two e f =
    f ∙ ap (λ bs. bs ++ shortest (PutRule a b)) e ∙ ap (λ bs. spelled (way p h v) ++ bs) (sym (spelled_one (PutRule a b) refl)) ∙ sym (spelled_both (way p h v) (PutRule a b ∷ []))

-- the commands of a special: what was spelled, and its bytes behind it
pub a_special : (p : Pen) (h v : ℤ) (text one : List ℕ) → one ≡ spelled (way p h v) ++ shortest (Xxx text) → one ++ text ≡ spelled (way p h v ++ Xxx text ∷ [])
a_special p h v text one e =
    ap (λ bs. bs ++ text) e ∙ append_assoc (spelled (way p h v)) (shortest (Xxx text)) text ∙ ap (λ bs. spelled (way p h v) ++ bs) (sym (append-nil (shortest (Xxx text) ++ text)))
    ∙ sym (spelled_both (way p h v) (Xxx text ∷ []))

-- What a tray took, through a buffer.
use Rattle.std.specs.Prelude.{◌≡◌, ◌≤◌, ℕ, List, [], ◌++◌, length, take, Option, Some, None, Result, Ok, Err, OnOk, OnErr}
use Rattle.std.proofs.Common.{sym, ap, ◌∙◌, arith, subst}
use Rattle.std.proofs.lemmas.List.{append-nil}
use Rattle.dv_base.specs.Causes.{Rose}
use Rattle.dv_base.specs.Tray.{Output, Seen, WhereTold, Appends, AppendsFront, KeepsNames}
use Rattle.dv_base.specs.TrayLaws.{told_start, kept_start}
use Rattle.dvicopy_out.specs.Sent.{Out, Sent, Cut, Sends, sent_more, cut_later, cut_longer, then_sends}

-- a front that was appended, where this is told
front_told : (text : List ℕ) (o p : Option (List Output)) → WhereTold (AppendsFront text) o p → (n : ℕ) × (n ≤ length text) × WhereTold (Appends (take n text)) o p
front_told text o None h = (0, omega arith, tt)
front_told text None (Some p) h = absurd h
front_told text (Some o) (Some p) h = (h.0, h.1, h.2)

-- all of what waited and of a text behind it was appended
pub all_sent : (text : List ℕ) (x y : Out) → y.waiting ≡ [] → WhereTold (Appends (x.waiting ++ text)) x.seen.outputs y.seen.outputs → KeepsNames x.seen y.seen → Sent text x y
all_sent text x y none told keeps = record {
  taken = x.waiting ++ text;
  whole = sym (append-nil (x.waiting ++ text)) ∙ ap (λ bs. (x.waiting ++ text) ++ bs) (sym none);
  bytes = told;
  keeps = keeps;
}

-- a front of it was appended
pub front_cut : (text : List ℕ) (x y : Out) → WhereTold (AppendsFront (x.waiting ++ text)) x.seen.outputs y.seen.outputs → Rose x.seen.faults y.seen.faults → KeepsNames x.seen y.seen → Cut text x y
front_cut text x y told rose keeps =
    let front = front_told (x.waiting ++ text) x.seen.outputs y.seen.outputs told in
    record { taken = front.0; few = front.1; bytes = front.2; rose = rose; keeps = keeps }

-- what `write_all` says of a text, where nothing waits
pub all_sends : {X E : Type 0} (text : List ℕ) (x y : Out) (r : Result X E) → x.waiting ≡ [] → y.waiting ≡ [] → OnOk r (WhereTold (Appends text) x.seen.outputs y.seen.outputs)
    → OnErr r (WhereTold (AppendsFront text) x.seen.outputs y.seen.outputs) → OnErr r (Rose x.seen.faults y.seen.faults) → KeepsNames x.seen y.seen → Sends text x y r
all_sends text x y (Ok v) e f all front rose keeps =
    all_sent text x y f (subst (λ w. WhereTold (Appends (w ++ text)) x.seen.outputs y.seen.outputs) (sym e) all) keeps
all_sends text x y (Err v) e f all front rose keeps =
    front_cut text x y (subst (λ w. WhereTold (AppendsFront (w ++ text)) x.seen.outputs y.seen.outputs) (sym e) front) rose keeps

-- a text that waits behind what waited
pub sent_waits : (text : List ℕ) (seen : Seen) (old new : List ℕ) → new ≡ old ++ text → Sent text (record { seen = seen; waiting = old }) (record { seen = seen; waiting = new })
sent_waits text seen old new e = record { taken = []; whole = sym e; bytes = told_start seen.outputs; keeps = kept_start seen }

-- a text in two pieces
pub sends_both : {X E : Type 0} (a b whole : List ℕ) (x y z : Out) (r : Result X E) → a ++ b ≡ whole → Sent a x y → Sends b y z r → Sends whole x z r
sends_both a b whole x y z r e f g = subst (λ text. Sends text x z r) e (then_sends a b x y z r f g)

-- four texts, one after another
pub whole_sends : {X E : Type 0} (f p b e : List ℕ) (v w x y z : Out) (r : Result X E) → Sent f v w → Sent p w x → Sent b x y → Sends e y z r → Sends (f ++ p ++ b ++ e) v z r
whole_sends f p b e v w x y z r one two three four =
    then_sends (f ++ p ++ b) e v y z r (sent_more (f ++ p) b v x y (sent_more f p v w x one two) three) four

pub first_cut : (f p b e : List ℕ) (v w : Out) → Cut f v w → Cut (f ++ p ++ b ++ e) v w
first_cut f p b e v w one = cut_longer (f ++ p ++ b) e v w (cut_longer (f ++ p) b v w (cut_longer f p v w one))

pub second_cut : (f p b e : List ℕ) (v w x : Out) → Sent f v w → Cut p w x → Cut (f ++ p ++ b ++ e) v x
second_cut f p b e v w x one two = cut_longer (f ++ p ++ b) e v x (cut_longer (f ++ p) b v x (cut_later f p v w x one two))

pub third_cut : (f p b e : List ℕ) (v w x y : Out) → Sent f v w → Sent p w x → Cut b x y → Cut (f ++ p ++ b ++ e) v y
third_cut f p b e v w x y one two three = cut_longer (f ++ p ++ b) e v y (cut_later (f ++ p) b v x y (sent_more f p v w x one two) three)

-- all of a text, where nothing waited and nothing waits
pub output_all : {X E : Type 0} (text : List ℕ) (x y : Out) (r : Result X E) → x.waiting ≡ [] → OnOk r (y.waiting ≡ []) → Sends text x y r → OnOk r (WhereTold (Appends text) x.seen.outputs y.seen.outputs)
output_all text x y (Ok v) e f s =
    let same : text ≡ s.taken = ap (λ w. w ++ text) (sym e) ∙ s.whole ∙ ap (λ w. s.taken ++ w) f ∙ append-nil s.taken in
    subst (λ bs. WhereTold (Appends bs) x.seen.outputs y.seen.outputs) (sym same) s.bytes
output_all text x y (Err v) e f s = tt

front_of : (text : List ℕ) (n : ℕ) (o p : Option (List Output)) → n ≤ length text → WhereTold (Appends (take n text)) o p → WhereTold (AppendsFront text) o p
front_of text n o None few h = tt
front_of text n None (Some p) few h = absurd h
front_of text n (Some o) (Some p) few h = (n, few, h)

pub output_front : {X E : Type 0} (text : List ℕ) (x y : Out) (r : Result X E) → x.waiting ≡ [] → Sends text x y r → OnErr r (WhereTold (AppendsFront text) x.seen.outputs y.seen.outputs)
output_front text x y (Ok v) e s = tt
output_front text x y (Err v) e s =
    let same : x.waiting ++ text ≡ text = ap (λ w. w ++ text) e in
    front_of text s.taken x.seen.outputs y.seen.outputs (subst (λ bs. s.taken ≤ length bs) same s.few) (subst (λ bs. WhereTold (Appends (take s.taken bs)) x.seen.outputs y.seen.outputs) same s.bytes)

pub output_rose : {X E : Type 0} (text : List ℕ) (x y : Out) (r : Result X E) → Sends text x y r → OnErr r (Rose x.seen.faults y.seen.faults)
output_rose text x y (Ok v) s = tt
output_rose text x y (Err v) s = s.rose

pub output_keeps : {X E : Type 0} (text : List ℕ) (x y : Out) (r : Result X E) → Sends text x y r → KeepsNames x.seen y.seen
output_keeps text x y (Ok v) s = s.keeps
output_keeps text x y (Err v) s = s.keeps

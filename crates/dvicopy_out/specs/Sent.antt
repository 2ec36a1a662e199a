-- What goes out through a buffer: what the tray has taken, and what still waits. (The laws stand here and not in proofs/, since the crate's
-- canvas cites them.)
use Rattle.std.specs.Prelude.{◌≡◌, ◌≤◌, ℕ, List, [], ◌++◌, length, take, Result, Ok, Err, MatchResult, IsErr}
use Rattle.std.proofs.Common.{◌+◌, rules, refl, sym, ap, ◌∙◌, arith, length-append, subst, append_assoc}
use Rattle.std.proofs.lemmas.List.{take-append-le, append-nil}
use Rattle.std.proofs.Math.Seq.{take-append-add}
use Rattle.dv_base.specs.Causes.{Rose}
use Rattle.dv_base.specs.Tray.{Seen, WhereTold, Appends, KeepsNames}
use Rattle.dv_base.specs.TrayLaws.{told_start, told_more, kept_start, kept_more}

-- what the tray shows, and the bytes that wait for it
pub record Out : Type 0 where
  pub seen : Seen
  pub waiting : List ℕ

-- The text went in behind what waited: the tray has taken a front of both, and the rest waits.
pub record Sent (text : List ℕ) (old new : Out) : Type 0 where
  pub taken : List ℕ
  pub whole : old.waiting ++ text ≡ taken ++ new.waiting
  pub bytes : WhereTold (Appends taken) old.seen.outputs new.seen.outputs
  pub keeps : KeepsNames old.seen new.seen

-- The tray has taken a front of what waited and the text, and then its count of faults rose.
pub record Cut (text : List ℕ) (old new : Out) : Type 0 where
  pub taken : ℕ
  pub few : taken ≤ length (old.waiting ++ text)
  pub bytes : WhereTold (Appends (take taken (old.waiting ++ text))) old.seen.outputs new.seen.outputs
  pub rose : Rose old.seen.faults new.seen.faults
  pub keeps : KeepsNames old.seen new.seen

-- the whole text went in at Ok; it was cut at an error
abbrev pub Sends : {X E : Type 0} → List ℕ → Out → Out → Result X E → Type 0
Sends text old new result = MatchResult result (λ _. Sent text old new) (λ _. Cut text old new)

pub sent_nothing : (s : Out) → Sent [] s s
sent_nothing s = record { taken = []; whole = append-nil s.waiting; bytes = told_start s.seen.outputs; keeps = kept_start s.seen }

-- what stands behind two texts
both : (w a b t u v z : List ℕ) → w ++ a ≡ t ++ u → u ++ b ≡ v ++ z → w ++ (a ++ b) ≡ (t ++ v) ++ z
both w a b t u v z e f =
    sym (append_assoc w a b) ∙ ap (λ xs. xs ++ b) e ∙ append_assoc t u b ∙ ap (λ xs. t ++ xs) f ∙ sym (append_assoc t v z)

-- two texts, one after the other
pub sent_more : (a b : List ℕ) (x y z : Out) → Sent a x y → Sent b y z → Sent (a ++ b) x z
sent_more a b x y z f g = record {
  taken = f.taken ++ g.taken;
  whole = both x.waiting a b f.taken y.waiting g.taken z.waiting f.whole g.whole;
  bytes = told_more x.seen.outputs y.seen.outputs z.seen.outputs f.taken g.taken (f.taken ++ g.taken) refl f.bytes g.bytes;
  keeps = kept_more x.seen y.seen z.seen f.keeps g.keeps;
}

-- a text, and then a cut within the next one
pub cut_later : (a b : List ℕ) (x y z : Out) → Sent a x y → Cut b y z → Cut (a ++ b) x z
cut_later a b x y z f g =
    let whole : x.waiting ++ (a ++ b) ≡ f.taken ++ (y.waiting ++ b) =
    sym (append_assoc x.waiting a b) ∙ ap (λ xs. xs ++ b) f.whole ∙ append_assoc f.taken y.waiting b in
    record {
      taken = length f.taken + g.taken;
      few = omega (arith, ap (λ (xs : List ℕ). length xs) whole, length-append f.taken (y.waiting ++ b), g.few);
      bytes = told_more x.seen.outputs y.seen.outputs z.seen.outputs f.taken (take g.taken (y.waiting ++ b)) (take (length f.taken + g.taken) (x.waiting ++ (a ++ b)))
          (sym (take-append-add f.taken (y.waiting ++ b) g.taken) ∙ ap (λ xs. take (length f.taken + g.taken) xs) (sym whole)) f.bytes g.bytes;
      rose = omega (arith, g.rose, f.keeps.later);
      keeps = kept_more x.seen y.seen z.seen f.keeps g.keeps;
    }

-- a cut within a text is one within any text that it begins
pub cut_longer : (a b : List ℕ) (x y : Out) → Cut a x y → Cut (a ++ b) x y
cut_longer a b x y f =
    let whole : x.waiting ++ (a ++ b) ≡ (x.waiting ++ a) ++ b = sym (append_assoc x.waiting a b) in
    record {
      taken = f.taken;
      few = omega (arith, ap (λ (xs : List ℕ). length xs) whole, length-append (x.waiting ++ a) b, f.few);
      bytes = subst (λ text. WhereTold (Appends text) x.seen.outputs y.seen.outputs)
          (sym (take-append-le f.taken (x.waiting ++ a) b f.few) ∙ ap (λ xs. take f.taken xs) (sym whole)) f.bytes;
      rose = f.rose;
      keeps = f.keeps;
    }

-- one text sent, and then another
pub then_sends : {X E : Type 0} (a b : List ℕ) (x y z : Out) (r : Result X E) → Sent a x y → Sends b y z r → Sends (a ++ b) x z r
then_sends a b x y z (Ok v) f g = sent_more a b x y z f g
then_sends a b x y z (Err e) f g = cut_later a b x y z f g

-- an error, and a cut that went before it
pub cut_sends : {X E : Type 0} (text : List ℕ) (x y : Out) (r : Result X E) → IsErr r → Cut text x y → Sends text x y r
cut_sends text x y (Ok v) h f = absurd (search rules)
cut_sends text x y (Err e) h f = f

pub ok_sends : {X E : Type 0} (text : List ℕ) (x y : Out) (r : Result X E) (v : X) → r ≡ Ok v → Sent text x y → Sends text x y r
ok_sends text x y (Ok v) w h f = f
ok_sends text x y (Err e) w h f = cc

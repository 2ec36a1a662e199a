-- What went out of a writer. (The laws stand here and not in proofs/, since the crates above cite them.)
use Rattle.std.specs.Prelude.{◌≡◌, ◌<◌, ◌≤◌, ◌^◌, ℕ, List, [], ◌++◌, length, take, min, Result, Ok, Err, MatchResult, IsErr}
use Rattle.std.proofs.Common.{◌+◌, ◌-◌, rules, refl, sym, ap, ◌∙◌, arith, length-append, subst}
use Rattle.std.proofs.lemmas.List.{take-append-le}
use Rattle.std.proofs.Math.Seq.{take-append-add}
use Rattle.dv_base.specs.Causes.{Rose}
use Rattle.dv_base.specs.Tray.{Seen, WhereTold, Appends, KeepsNames}
use Rattle.dv_base.specs.TrayLaws.{told_start, told_more, kept_start, kept_more}

-- what the tray shows, and how many bytes it has taken from the writer
pub record Out : Type 0 where
  pub seen : Seen
  pub count : ℕ

-- the count after n bytes more; it stays once it is the greatest number of 64 bits
abbrev pub counted : ℕ → ℕ → ℕ
counted count n = min (count + n) (2 ^ 64 - 1)

-- these bytes have been appended to the last output and counted, and nothing else has changed
pub record Wrote (text : List ℕ) (old new : Out) : Type 0 where
  pub bytes : WhereTold (Appends text) old.seen.outputs new.seen.outputs
  pub keeps : KeepsNames old.seen new.seen
  pub count : new.count ≡ counted old.count (length text)

-- a front of these bytes has been appended to the last output and counted, and the count of faults rose
pub record Cut (text : List ℕ) (old new : Out) : Type 0 where
  pub taken : ℕ
  pub few : taken ≤ length text
  pub bytes : WhereTold (Appends (take taken text)) old.seen.outputs new.seen.outputs
  pub rose : Rose old.seen.faults new.seen.faults
  pub keeps : KeepsNames old.seen new.seen
  pub count : new.count ≡ counted old.count taken

-- the whole text at Ok, a front of it at an error
abbrev pub Writes : {X E : Type 0} → List ℕ → Out → Out → Result X E → Type 0
Writes text old new result = MatchResult result (λ _. Wrote text old new) (λ _. Cut text old new)

counted_none : (count : ℕ) → count < 2 ^ 64 → count ≡ counted count 0
counted_none count h = omega arith

counted_more : (count a b : ℕ) → counted (counted count a) b ≡ counted count (a + b)
counted_more count a b = omega arith

pub wrote_nothing : (s : Out) → s.count < 2 ^ 64 → Wrote [] s s
wrote_nothing s h = record { bytes = told_start s.seen.outputs; keeps = kept_start s.seen; count = counted_none s.count h }

-- two texts, one after the other
pub wrote_more : (a b : List ℕ) (x y z : Out) → Wrote a x y → Wrote b y z → Wrote (a ++ b) x z
wrote_more a b x y z f g = record {
  bytes = told_more x.seen.outputs y.seen.outputs z.seen.outputs a b (a ++ b) refl f.bytes g.bytes;
  keeps = kept_more x.seen y.seen z.seen f.keeps g.keeps;
  count = g.count ∙ ap (λ n. counted n (length b)) f.count ∙ counted_more x.count (length a) (length b) ∙ ap (counted x.count) (sym (length-append a b));
}

-- a text, and then a cut within the next one
pub cut_later : (a b : List ℕ) (x y z : Out) → Wrote a x y → Cut b y z → Cut (a ++ b) x z
cut_later a b x y z f g = record {
  taken = length a + g.taken;
  few = omega (arith, length-append a b, g.few);
  bytes = told_more x.seen.outputs y.seen.outputs z.seen.outputs a (take g.taken b) (take (length a + g.taken) (a ++ b)) (sym (take-append-add a b g.taken)) f.bytes g.bytes;
  rose = omega (arith, g.rose, f.keeps.later);
  keeps = kept_more x.seen y.seen z.seen f.keeps g.keeps;
  count = g.count ∙ ap (λ n. counted n g.taken) f.count ∙ counted_more x.count (length a) g.taken;
}

-- a cut within a text is one within any text that it begins
pub cut_longer : (a b : List ℕ) (x y : Out) → Cut a x y → Cut (a ++ b) x y
cut_longer a b x y f = record {
  taken = f.taken;
  few = omega (arith, length-append a b, f.few);
  bytes = subst (λ text. WhereTold (Appends text) x.seen.outputs y.seen.outputs) (sym (take-append-le f.taken a b f.few)) f.bytes;
  rose = f.rose;
  keeps = f.keeps;
  count = f.count;
}

-- one text written, and then another
pub then_writes : {X E : Type 0} (a b : List ℕ) (x y z : Out) (r : Result X E) → Wrote a x y → Writes b y z r → Writes (a ++ b) x z r
then_writes a b x y z (Ok v) f g = wrote_more a b x y z f g
then_writes a b x y z (Err e) f g = cut_later a b x y z f g

-- an error, and a cut that went before it
pub cut_writes : {X E : Type 0} (text : List ℕ) (x y : Out) (r : Result X E) → IsErr r → Cut text x y → Writes text x y r
cut_writes text x y (Ok v) h f = absurd (search rules)
cut_writes text x y (Err e) h f = f

pub ok_writes : {X E : Type 0} (text : List ℕ) (x y : Out) (r : Result X E) (v : X) → r ≡ Ok v → Wrote text x y → Writes text x y r
ok_writes text x y (Ok v) w h f = f
ok_writes text x y (Err e) w h f = cc

-- Text that is gathered piece by piece, and sent.
use Rattle.std.specs.Prelude.{IfErr, OnOk, OnErr}
use Rattle.std.proofs.Common.{Result, Ok, Err, ◌≡◌, ◌≤◌, ◌<◌, ◌+◌, ◌++◌, ℕ, ℤ, drop, get_or, List, [], ◌∷◌, length, take, Option, Some, None, refl, sym, ap, subst, ◌∙◌, arith, append_assoc, length-append}
use Rattle.std.proofs.lemmas.List.{append-nil, take-append-le}
use Rattle.std.proofs.Math.Seq.{take-append-add}
use Rattle.dv_base.specs.Causes.{Rose}
use Rattle.dv_base.specs.Tray.{Seen, Output, KeepsNames, WhereTold, Appends, AppendsFront, append_last}
use Rattle.dv_base.specs.TrayLaws.{append_twice, told_start, told_more, told_by, kept_start, kept_more}
use Rattle.dvitype_list.specs.Gathered.{Gathered, Cut}
use Rattle.std.specs.Fmt.{signed_decimal}
use Rattle.dvitype_list.specs.Texts.{counts_text, more_counts}

-- a text, and then a front of the next one
front_more : (o p q : Option (List Output)) (a b c : List ℕ) → a ++ b ≡ c → WhereTold (Appends a) o p → WhereTold (AppendsFront b) p q → WhereTold (AppendsFront c) o q
front_more o p None a b c e f g = tt
front_more None None (Some qs) a b c e f g = absurd g
front_more (Some os) None (Some qs) a b c e f g = absurd g
front_more None (Some ps) (Some qs) a b c e f g = absurd f
front_more (Some os) (Some ps) (Some qs) a b c e f g = (
  length a + g.0,
  omega (arith, length-append a b, ap length e, g.1),
  g.2 ∙ ap (λ (xs : List Output). append_last xs (take g.0 b)) f ∙ append_twice os a (take g.0 b)
      ∙ ap (append_last os) (sym (take-append-add a b g.0) ∙ ap (take (length a + g.0)) e),
)

-- nothing yet
pub gathered_none : (s : Seen) → Gathered s s [] []
gathered_none s = record { sent = []; whole = refl; told = told_start s.outputs; names = kept_start s }

pub gathered_start : (s : Seen) (kept : List ℕ) → kept ≡ [] → Gathered s s kept []
gathered_start s kept e = subst (λ (k : List ℕ). Gathered s s k []) (sym e) (gathered_none s)

-- all that is kept is sent
pub sent_all : (first a b : Seen) (kept piece text : List ℕ) → piece ≡ kept → Gathered first a kept text → WhereTold (Appends piece) a.outputs b.outputs → KeepsNames a b → Gathered first b [] text
sent_all first a b kept piece text e g w k =
    record {
      sent = text;
      whole = append-nil text;
      told = told_more first.outputs a.outputs b.outputs g.sent piece text (ap (λ (x : List ℕ). g.sent ++ x) e ∙ g.whole) g.told w;
      names = kept_more first a b g.names k;
    }

rose_later : (f a b : ℕ) → f ≤ a → Rose a b → Rose f b
rose_later f a b l r = omega (arith, l, r)

-- the tray fails while it is sent
pub sent_cut : (first a b : Seen) (kept piece text : List ℕ) → piece ≡ kept → Gathered first a kept text → WhereTold (AppendsFront piece) a.outputs b.outputs → Rose a.faults b.faults → KeepsNames a b → Cut first b text
sent_cut first a b kept piece text e g w r k =
    record {
      told = front_more first.outputs a.outputs b.outputs g.sent piece text (ap (λ (x : List ℕ). g.sent ++ x) e ∙ g.whole) g.told w;
      rose = rose_later first.faults a.faults b.faults g.names.later r;
      names = kept_more first a b g.names k;
    }

-- a piece more is kept
pub kept_piece : (first a : Seen) (kept text piece new : List ℕ) → new ≡ kept ++ piece → Gathered first a kept text → Gathered first a new (text ++ piece)
kept_piece first a kept text piece new e g =
    record {
      sent = g.sent;
      whole = ap (λ (k : List ℕ). g.sent ++ k) e ∙ sym (append_assoc g.sent kept piece) ∙ ap (λ (t : List ℕ). t ++ piece) g.whole;
      told = g.told;
      names = g.names;
    }

-- a piece is written at once, where none is kept
pub sent_piece : (first a b : Seen) (kept text piece : List ℕ) → kept ≡ [] → Gathered first a [] text → WhereTold (Appends piece) a.outputs b.outputs → KeepsNames a b → Gathered first b kept (text ++ piece)
sent_piece first a b kept text piece none g w k =
    let front : g.sent ≡ text = sym (append-nil g.sent) ∙ g.whole in
    record {
      sent = text ++ piece;
      whole = ap (λ (x : List ℕ). (text ++ piece) ++ x) none ∙ append-nil (text ++ piece);
      told = told_more first.outputs a.outputs b.outputs g.sent piece (text ++ piece) (ap (λ (x : List ℕ). x ++ piece) front) g.told w;
      names = kept_more first a b g.names k;
    }

pub sent_front : (first a b : Seen) (text piece : List ℕ) → Gathered first a [] text → WhereTold (AppendsFront piece) a.outputs b.outputs → Rose a.faults b.faults → KeepsNames a b → Cut first b (text ++ piece)
sent_front first a b text piece g w r k =
    let front : g.sent ≡ text = sym (append-nil g.sent) ∙ g.whole in
    record {
      told = front_more first.outputs a.outputs b.outputs g.sent piece (text ++ piece) (ap (λ (x : List ℕ). x ++ piece) front) g.told w;
      rose = rose_later first.faults a.faults b.faults g.names.later r;
      names = kept_more first a b g.names k;
    }

longer : (a b : List ℕ) (os ps : List Output) → AppendsFront a os ps → AppendsFront (a ++ b) os ps
longer a b os ps f = (f.0, omega (arith, length-append a b, f.1), f.2 ∙ ap (append_last os) (sym (take-append-le f.0 a b f.1)))

-- a cut within a text is one within any text that it begins
pub cut_longer : (first now : Seen) (text more whole : List ℕ) → text ++ more ≡ whole → Cut first now text → Cut first now whole
cut_longer first now text more whole e c =
    subst (λ (t : List ℕ). Cut first now t) e
    (record {
      told = told_by (AppendsFront text) (AppendsFront (text ++ more)) first.outputs now.outputs (λ os ps f. longer text more os ps f) c.told;
      rose = c.rose;
      names = c.names;
    })

pub cut_is : (first now : Seen) (text other : List ℕ) → text ≡ other → Cut first now text → Cut first now other
cut_is first now text other e c = subst (λ (t : List ℕ). Cut first now t) e c

pub gathered_is : (first now : Seen) (kept text other : List ℕ) → text ≡ other → Gathered first now kept text → Gathered first now kept other
gathered_is first now kept text other e g = subst (λ (t : List ℕ). Gathered first now kept t) e g

-- ---- answers

pub on_ok : {X E P Q : Type 0} (r : Result X E) → (P → Q) → OnOk r P → OnOk r Q
on_ok (Ok x) f h = f h
on_ok (Err e) f h = h

pub on_err : {X E P Q : Type 0} (r : Result X E) → (P → Q) → OnErr r P → OnErr r Q
on_err (Ok x) f h = h
on_err (Err e) f h = f h

pub on_err_two : {X E P Q R : Type 0} (r : Result X E) → (P → Q → R) → OnErr r P → OnErr r Q → OnErr r R
on_err_two (Ok x) f h k = h
on_err_two (Err e) f h k = f h k

pub at_ok : {X E P : Type 0} (r : Result X E) → P → OnOk r P
at_ok (Ok x) p = p
at_ok (Err e) p = tt

pub at_err : {X E P : Type 0} (r : Result X E) → P → OnErr r P
at_err (Ok x) p = tt
at_err (Err e) p = p

-- the last piece of a text
pub ends_ok : {X E : Type 0} (r : Result X E) (first now : Seen) (kept text other : List ℕ) → text ≡ other → OnOk r (Gathered first now kept text) → OnOk r (Gathered first now kept other)
ends_ok r first now kept text other e h = on_ok r (gathered_is first now kept text other e) h

pub ends_cut : {X E : Type 0} (r : Result X E) (first now : Seen) (text other : List ℕ) → text ≡ other → OnErr r (Cut first now text) → OnErr r (Cut first now other)
ends_cut r first now text other e h = on_err r (cut_is first now text other e) h

pub if_err : {X E : Type 0} (P Q : E → Type 0) (r : Result X E) → ((e : E) → P e → Q e) → IfErr r P → IfErr r Q
if_err P Q (Ok x) f h = h
if_err P Q (Err e) f h = f e h

-- ---- lines in pieces, behind a text

pub line_three : (text s a b c k l m n : List ℕ) → s ≡ n → k ≡ [] → l ≡ k ++ a → m ≡ l ++ b → n ≡ m ++ c → text ++ s ≡ text ++ (a ++ (b ++ c))
line_three text s a b c k l m n e f g h i = ap (λ (x : List ℕ). text ++ x) (e ∙ rw (i, h, g, f) (append_assoc a b c))

four_is : (a b c d k l m n o : List ℕ) → k ≡ [] → l ≡ k ++ a → m ≡ l ++ b → n ≡ m ++ c → o ≡ n ++ d → o ≡ a ++ ((b ++ c) ++ d)
four_is a b c d k l m n o e f g h i =
    rw (i, h, g, f, e) (append_assoc (a ++ b) c d ∙ append_assoc a b (c ++ d) ∙ ap (λ (x : List ℕ). a ++ x) (sym (append_assoc b c d)))

-- a page's line: what stands before its counts, the first count, the others, and the end
pub line_counts : (text s front k l m n o : List ℕ) (cs ds : List ℤ) (x : ℤ) → 0 < length cs → ds ≡ drop 1 cs → s ≡ o → k ≡ [] → l ≡ k ++ front → m ≡ l ++ signed_decimal (get_or cs 0 x) → n ≡ m ++ more_counts ds → o ≡ n ++ 10 ∷ [] → text ++ s ≡ text ++ (front ++ (counts_text cs ++ 10 ∷ []))
line_counts text s front k l m n o [] ds x some e f g h i j q = absurd (omega arith)
line_counts text s front k l m n o (c ∷ cs) ds x some e f g h i j q =
    ap (λ (t : List ℕ). text ++ t) (f ∙ four_is front (signed_decimal c) (more_counts cs) (10 ∷ []) k l m n o g h i (j ∙ ap (λ (ys : List ℤ). m ++ more_counts ys) e) q)

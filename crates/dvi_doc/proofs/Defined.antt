-- Definitions by their numbers.
use Rattle.std.proofs.Common.{Option, Some, None, ◌≡◌, ◌<◌, ◌+◌, ℕ, zero, suc, ℤ, inl, inr, List, [], ◌∷◌, ◌++◌, length, take, refl, sym, ap, subst, ◌∙◌, arith, Bool, true, false, slice_index_or, get_or, IsTrue, ◌↔◌, MatchBool}
use Rattle.std.specs.List.{All, Contains}
use Rattle.std.specs.Option.{is_some}
use Rattle.std.proofs.lemmas.List.{take_more}
use Rattle.std.proofs.lemmas.List.Elements.{All-append, All-cons, All-nil}
use Rattle.dvi_ops.specs.Command.{Definition}
use Rattle.dvi_doc.specs.Grammar.{Defines, DefinesTwice, AreFonts, IsNamed, IsSized}
use Rattle.dvi_doc.specs.PartFaults.{AreJudged, DefinitionFault, SomeFault}
use Rattle.dvi_doc.specs.declared.fault.DocFault.{DocFault}

contained : (ds : List Definition) (d : Definition) (k : ℕ) → k < length ds → slice_index_or ds k d ≡ d → Defines ds d.k
contained [] d k h e = absurd (omega arith)
contained (x ∷ ds) d zero h e = inl (ap (λ (y : Definition). y.k) e)
contained (x ∷ ds) d (suc k) h e = inr (contained ds d k (omega arith) e)

pub contains_defines : (ds : List Definition) (d : Definition) → Contains ds d → Defines ds d.k
contains_defines ds d h = contained ds d h.0 h.1 h.2

-- of definitions with each number once two with the same number are one
once_at : (ds : List Definition) (a b : Definition) (i j : ℕ) → ((k : ℤ) → DefinesTwice ds k → ⊥) → i < length ds → slice_index_or ds i a ≡ a → j < length ds → slice_index_or ds j b ≡ b → a.k ≡ b.k → a ≡ b
once_at [] a b i j n h e k f s = absurd (omega arith)
once_at (x ∷ ds) a b zero zero n h e k f s = sym e ∙ f
once_at (x ∷ ds) a b zero (suc j) n h e k f s =
    absurd (n b.k (inl (ap (λ (y : Definition). y.k) e ∙ s, contained ds b j (omega arith) f)))
once_at (x ∷ ds) a b (suc i) zero n h e k f s =
    absurd (n a.k (inl (ap (λ (y : Definition). y.k) f ∙ sym s, contained ds a i (omega arith) e)))
once_at (x ∷ ds) a b (suc i) (suc j) n h e k f s = once_at ds a b i j (λ q t. n q (inr t)) (omega arith) e (omega arith) f s

pub once : (ds : List Definition) (a b : Definition) → AreFonts ds → Contains ds a → Contains ds b → a.k ≡ b.k → a ≡ b
once ds a b n h k s = once_at ds a b h.0 k.0 n.0 h.1 h.2 k.1 k.2 s

in_middle : (xs ys : List Definition) (d : Definition) → Contains (xs ++ d ∷ ys) d
in_middle [] ys d = (0, omega arith, refl)
in_middle (x ∷ xs) ys d = let r = in_middle xs ys d in (suc r.0, omega (arith, r.1), r.2)

contains_more : (xs ys : List Definition) (d : Definition) (i : ℕ) → i < length xs → slice_index_or xs i d ≡ d → Contains (xs ++ ys) d
contains_more [] ys d i h e = absurd (omega (arith, h))
contains_more (x ∷ xs) ys d zero h e = (0, omega arith, e)
contains_more (x ∷ xs) ys d (suc i) h e = let r = contains_more xs ys d i (omega (arith, h)) e in (suc r.0, omega (arith, r.1), r.2)

-- one definition more
pub judged_more : (ds : List Definition) (d : Definition) (e : DocFault) → SomeFault ds e → SomeFault (ds ++ d ∷ []) e
judged_more ds d e h = (h.0, contains_more ds (d ∷ []) h.0 h.1.0 h.1.1 h.1.2, h.2)

pub judged_new : (ds : List Definition) (d : Definition) (e : DocFault) → DefinitionFault d e → SomeFault (ds ++ d ∷ []) e
judged_new ds d e h = (d, in_middle ds [] d, h)

pub judged_good : (ds : List Definition) (d : Definition) → All IsNamed ds × All IsSized ds → IsNamed d × IsSized d → All IsNamed (ds ++ d ∷ []) × All IsSized (ds ++ d ∷ [])
judged_good ds d h one =
    (All-append IsNamed ds (d ∷ []) h.0 (All-cons IsNamed d [] one.0 (All-nil IsNamed)), All-append IsSized ds (d ∷ []) h.1 (All-cons IsSized d [] one.1 (All-nil IsSized)))

pub judged_some : (o : Option DocFault) (ds : List Definition) (d : Definition) → true ≡ is_some o → AreJudged ds o → AreJudged (ds ++ d ∷ []) o
judged_some None ds d is h = cc
judged_some (Some e) ds d is h = judged_more ds d e h

pub judged_none : (o : Option DocFault) (ds : List Definition) → false ≡ is_some o → AreJudged ds o → All IsNamed ds × All IsSized ds
judged_none None ds is h = h
judged_none (Some e) ds is h = cc

-- a font of the number is the definition, or none is
pub has_by : (b : Bool) (ds : List Definition) (x d : Definition) → (IsTrue b ↔ (x ≡ d)) → Contains ds x → AreFonts ds → x.k ≡ d.k → MatchBool b (Contains ds d) (Contains ds d → ⊥)
has_by true ds x d h k n s = subst (λ (y : Definition). Contains ds y) (h.0 refl) k
has_by false ds x d h k n s = λ m. (let f : false ≡ true = h.1 (once ds x d n k m s) in cc)

-- all are as they should be up to here
pub all_more : (P : Definition → Type 0) (ds : List Definition) (i : ℕ) (d : Definition) → i < length ds → d ≡ get_or ds i d → All P (take i ds) → P d → All P (take (i + 1) ds)
all_more P ds i d h is all one =
    subst (λ (l : List Definition). All P l) (sym (take_more ds i d h ∙ ap (λ (x : Definition). take i ds ++ x ∷ []) (sym is)))
    (All-append P (take i ds) (d ∷ []) all (All-cons P d [] one (All-nil P)))

-- Pieces that are appended one after another. (These stand here and not in proofs/, since the crates above cite them.)
use Rattle.std.proofs.Common.{◌≡◌, ◌+◌, ◌-◌, ℕ, arith, List, [], ◌∷◌, ◌++◌, length, take, drop, Option, Some, None, refl, sym, ap, ◌∙◌, append_assoc}
use Rattle.std.proofs.lemmas.List.{append-nil, take_rest, take-take, drop-take, take-append-drop}
use Rattle.dv_base.specs.Tray.{Seen, KeepsNames, Output, WhereTold, Appends, append_last}

pub append_nothing : (os : List Output) → append_last os [] ≡ os
append_nothing [] = refl
append_nothing (o ∷ []) = ap (λ (bs : List ℕ). record { name = o.name; bytes = bs } ∷ []) (append-nil o.bytes)
append_nothing (o ∷ p ∷ os) = ap (λ (xs : List Output). o ∷ xs) (append_nothing (p ∷ os))

pub append_twice : (os : List Output) (a b : List ℕ) → append_last (append_last os a) b ≡ append_last os (a ++ b)
append_twice [] a b = refl
append_twice (o ∷ []) a b = ap (λ (bs : List ℕ). record { name = o.name; bytes = bs } ∷ []) (append_assoc o.bytes a b)
append_twice (o ∷ p ∷ []) a b = ap (λ (xs : List Output). o ∷ xs) (append_twice (p ∷ []) a b)
append_twice (o ∷ p ∷ q ∷ os) a b = ap (λ (xs : List Output). o ∷ xs) (append_twice (p ∷ q ∷ os) a b)

-- nothing has been appended yet
pub told_start : (o : Option (List Output)) → WhereTold (Appends []) o o
told_start None = tt
told_start (Some os) = sym (append_nothing os)

-- one piece more
pub told_more : (o p q : Option (List Output)) (a b c : List ℕ) → a ++ b ≡ c → WhereTold (Appends a) o p → WhereTold (Appends b) p q → WhereTold (Appends c) o q
told_more o p None a b c e f g = tt
told_more None None (Some qs) a b c e f g = absurd g
told_more (Some os) None (Some qs) a b c e f g = absurd g
told_more None (Some ps) (Some qs) a b c e f g = absurd f
told_more (Some os) (Some ps) (Some qs) a b c e f g =
    g ∙ ap (λ (xs : List Output). append_last xs b) f ∙ append_twice os a b ∙ ap (append_last os) e

-- a relation that follows from another
pub told_by : {A : Type 0} (R S : A → A → Type 0) (o p : Option A) → ((x y : A) → R x y → S x y) → WhereTold R o p → WhereTold S o p
told_by R S o None h r = tt
told_by R S None (Some p) h r = r
told_by R S (Some o) (Some p) h r = h o p r

-- a front, and then a front of what is left
pub take_joined : (at n : ℕ) (xs : List ℕ) → take at xs ++ take n (take (length xs - at) (drop at xs)) ≡ take (at + n) xs
take_joined at n xs =
    let front : take at (take (at + n) xs) ≡ take at xs = take-take at (at + n) xs (omega arith) in
    ap (λ (ys : List ℕ). take at xs ++ take n ys) (take_rest xs at)
    ∙ ap (λ (ys : List ℕ). ys ++ take n (drop at xs)) (sym front)
    ∙ ap (λ (ys : List ℕ). take at (take (at + n) xs) ++ ys) (sym (drop-take at n xs))
    ∙ take-append-drop at (take (at + n) xs)

pub kept_start : (s : Seen) → KeepsNames s s
kept_start s = record { later = omega arith; begun_same = refl; last_same = refl; messages_same = refl }

pub kept_more : (a b c : Seen) → KeepsNames a b → KeepsNames b c → KeepsNames a c
kept_more a b c f g =
    record {
      later = omega arith;
      begun_same = g.begun_same ∙ f.begun_same;
      last_same = g.last_same ∙ f.last_same;
      messages_same = g.messages_same ∙ f.messages_same;
    }

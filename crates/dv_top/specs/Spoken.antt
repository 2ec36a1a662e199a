-- Messages that are said one after another.
use Rattle.std.specs.Prelude.{◌≡◌, ℕ, List, [], ◌∷◌, ◌++◌, Option, Some, None}
use Rattle.std.proofs.Common.{refl, sym, ap, ◌∙◌, append_assoc}
use Rattle.std.proofs.lemmas.List.{append-nil}
use Rattle.dv_base.specs.Tray.{Says, Seen, WhereTold}
use Rattle.dv_top.specs.Outputs.{AddsLines}

-- These lines were said, in this order, and nothing else changed.
pub record SaysAll (lines : List (List ℕ)) (old new : Seen) : Type 0 where
  pub messages_more : WhereTold (AddsLines lines) old.messages new.messages
  pub outputs_same : new.outputs ≡ old.outputs
  pub begun_same : new.begun ≡ old.begun
  pub last_same : new.last ≡ old.last
  pub faults_same : new.faults ≡ old.faults

-- (The laws stand here and not in proofs/, since the functions above cite them.)
told_none : (o : Option (List (List ℕ))) → WhereTold (AddsLines []) o o
told_none None = tt
told_none (Some ms) = sym (append-nil ms)

pub says_none : (s : Seen) → SaysAll [] s s
says_none s = record { messages_more = told_none s.messages; outputs_same = refl; begun_same = refl; last_same = refl; faults_same = refl }

told_more : (o p q : Option (List (List ℕ))) (xs ys : List (List ℕ)) → WhereTold (AddsLines xs) o p → WhereTold (AddsLines ys) p q → WhereTold (AddsLines (xs ++ ys)) o q
told_more o p None xs ys f g = tt
told_more None None (Some qs) xs ys f g = absurd g
told_more (Some os) None (Some qs) xs ys f g = absurd g
told_more None (Some ps) (Some qs) xs ys f g = absurd f
told_more (Some os) (Some ps) (Some qs) xs ys f g = g ∙ ap (λ (ms : List (List ℕ)). ms ++ ys) f ∙ append_assoc os xs ys

-- one list of lines, and then another
pub says_more : (xs ys : List (List ℕ)) (a b c : Seen) → SaysAll xs a b → SaysAll ys b c → SaysAll (xs ++ ys) a c
says_more xs ys a b c f g =
    record {
      messages_more = told_more a.messages b.messages c.messages xs ys f.messages_more g.messages_more;
      outputs_same = g.outputs_same ∙ f.outputs_same;
      begun_same = g.begun_same ∙ f.begun_same;
      last_same = g.last_same ∙ f.last_same;
      faults_same = g.faults_same ∙ f.faults_same;
    }

-- one line
pub says_one : (line : List ℕ) (a b : Seen) → Says line a b → SaysAll (line ∷ []) a b
says_one line a b f =
    record { messages_more = f.messages_more; outputs_same = f.outputs_same; begun_same = f.begun_same; last_same = f.last_same; faults_same = f.faults_same }

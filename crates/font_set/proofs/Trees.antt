-- The commands of a tree are those that it was made of.
use Rattle.std.proofs.Common.{◌≡◌, ℕ, List, [], ◌∷◌, ◌++◌, Option, Some, None, refl, sym, ap, subst, ◌∙◌, append_assoc}
use Rattle.std.proofs.lemmas.List.{append-nil}
use Rattle.dvi_ops.specs.Command.{Command}
use Rattle.dvi_ops.specs.Command.Command.{Push, Pop}
use Rattle.dvi_ops.specs.Placed.{Placed}
use Rattle.font_set.specs.Tree.{Tree, Bracket, Levels, bracket, level, levels, whole_tree, tree_of, commands_of}
use Rattle.font_set.specs.Tree.Tree.{End, Group}
use Rattle.font_set.specs.Tree.Bracket.{Opens, Closes, Neither}

abbrev at : ℕ → Command → Placed
at p c = record { place = p; command = c }

opens_is : (c : Command) → bracket c ≡ Opens → Push ≡ c
opens_is Push e = refl
opens_is Pop e = absurd cc
opens_is _ e = absurd cc

closes_is : (c : Command) → bracket c ≡ Closes → Pop ≡ c
closes_is Pop e = refl
closes_is Push e = absurd cc
closes_is _ e = absurd cc

-- trees behind pops
abbrev closing : List (ℕ × Tree) → List Placed
closing [] = []
closing (q ∷ qs) = at q.0 Pop ∷ (commands_of q.1 ++ closing qs)

-- the levels have these commands
abbrev AreLevels : List Placed → Option Levels → Type 0
AreLevels cs None = Unit {0}
AreLevels cs (Some l) = commands_of l.0 ++ closing l.1 ≡ cs

one_more : (c : Placed) (b : Bracket) → bracket c.command ≡ b → (cs : List Placed) (o : Option Levels) → AreLevels cs o → AreLevels (c ∷ cs) (level b c o)
one_more c b k cs None h = tt
one_more c Neither k cs (Some l) h = ap (λ (xs : List Placed). c ∷ xs) h
one_more c Closes k cs (Some l) h =
    subst (λ (d : Command). AreLevels (at c.place d ∷ cs) (Some (End, (c.place, l.0) ∷ l.1))) (closes_is c.command k) (ap (λ (xs : List Placed). at c.place Pop ∷ xs) h)
one_more c Opens k cs (Some (t, [])) h = tt
one_more c Opens k cs (Some (t, q ∷ qs)) h =
    subst (λ (d : Command). AreLevels (at c.place d ∷ cs) (Some (Group c.place t q.0 q.1, qs))) (opens_is c.command k)
    (ap (λ (xs : List Placed). at c.place Push ∷ xs) (append_assoc (commands_of t) (at q.0 Pop ∷ commands_of q.1) (closing qs) ∙ h))

are_levels : (cs : List Placed) → AreLevels cs (levels cs)
are_levels [] = refl
are_levels (c ∷ cs) = one_more c (bracket c.command) refl cs (levels cs) (are_levels cs)

whole : (cs : List Placed) (t : Tree) (o : Option Levels) → AreLevels cs o → whole_tree o ≡ Some t → commands_of t ≡ cs
whole cs t None h e = absurd cc
whole cs t (Some (u, [])) h e =
    let same : u ≡ t = cc in
    subst (λ (x : Tree). commands_of x ≡ cs) same (sym (append-nil (commands_of u)) ∙ h)
whole cs t (Some (u, q ∷ qs)) h e = absurd cc

pub tree_commands : (cs : List Placed) (t : Tree) → tree_of cs ≡ Some t → commands_of t ≡ cs
unfolding tree_of
tree_commands cs t e = whole cs t (levels cs) (are_levels cs) e

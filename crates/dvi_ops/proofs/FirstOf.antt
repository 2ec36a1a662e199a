-- Bytes that are whole commands: the first of them, and those behind it.
use Rattle.std.proofs.Common.{◌≡◌, ◌≤◌, ◌<◌, ◌+◌, ◌-◌, ℕ, List, [], ◌∷◌, ◌++◌, length, drop, slice_range, refl, sym, ap, subst, ◌∙◌, arith, length-append, length-drop}
use Rattle.std.proofs.lemmas.List.{drop_at}
use Rattle.std.proofs.lemmas.List.Folds.{drop_split}
use Rattle.dvi_ops.specs.Command.{Command}
use Rattle.dvi_ops.specs.Following.{IsFirst}
use Rattle.dvi_ops.specs.Placed.{Placed, Lexes}
use Rattle.dvi_ops.specs.Spelling.{Spell}
use Rattle.dvi_ops.specs.View.{NoSpelling}
use Rattle.dvi_ops.proofs.Texts.{one_spelling}

-- where commands follow, the next one can be read
pub can_read : (bytes : List ℕ) (from at : ℕ) (commands : List Placed) → at < length bytes → Lexes from (drop at bytes) commands → NoSpelling bytes at → ⊥
can_read bytes from at [] h l none = omega (arith, length-drop at bytes, ap length l)
can_read bytes from at (c ∷ cs) h l none = none c.command l.1 l.2 l.3 l.4

-- the first command is the one that is spelled there
pub is_first : (bytes : List ℕ) (from at end : ℕ) (cmd : Command) (commands : List Placed) → at < end → end ≤ length bytes → Spell cmd (slice_range bytes at end) → Lexes from (drop at bytes) commands
    → IsFirst from cmd (from + (end - at)) (drop end bytes) commands
is_first bytes from at end cmd [] a b s l = absurd (omega (arith, length-drop at bytes, ap length l))
is_first bytes from at end cmd (c ∷ cs) a b s l =
    let front = slice_range bytes at end in
    let split : drop at bytes ≡ front ++ drop end bytes = drop_split bytes at end (omega arith) in
    let both : l.1 ++ l.2 ≡ front ++ drop end bytes = sym l.3 ∙ split in
    let law = one_spelling l.1 front c.command cmd l.2 (drop end bytes) l.4 s both in
    let long : length front + (length bytes - end) ≡ length bytes - at = omega (arith, ap length split, length-append front (drop end bytes), length-drop at bytes, length-drop end bytes) in
    let width : from + length l.1 ≡ from + (end - at) = omega (arith, ap length law.0) in
    let behind : l.2 ≡ drop end bytes = sym (drop_at l.1 l.2 (length l.1) refl) ∙ ap (drop (length l.1)) both ∙ drop_at front (drop end bytes) (length l.1) (ap length (sym law.0)) in (
      cs,
      ap (λ (n : ℕ). let x : Placed = record { place = n; command = c.command } in x ∷ cs) l.0
          ∙ ap (λ (d : Command). let x : Placed = record { place = from; command = d } in x ∷ cs) law.1,
      subst (λ (k : ℕ). Lexes k (drop end bytes) cs) width (subst (λ (bs : List ℕ). Lexes (from + length l.1) bs cs) behind l.5),
    )

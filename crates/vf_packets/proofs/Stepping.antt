-- One command of a packet after another.
use Rattle.std.proofs.Common.{◌≡◌, ℕ, ◌+◌, ◌-◌, ◌<◌, ◌≤◌, refl, sym, ◌∙◌, ap, subst, arith, List, [], ◌∷◌, ◌++◌, length, drop, length-drop}
use Rattle.std.specs.Prelude.{slice_range}
use Rattle.std.proofs.lemmas.List.{take-append-drop, drop_all, append_cancel_left, length-take-le, drop-drop}
use Rattle.dvi_ops.specs.Command.{Command}
use Rattle.dvi_ops.specs.Command.Command.{Bop, Eop, Xxx, FntDef, Pre, Post, PostPost}
use Rattle.dvi_ops.specs.Plain.{IsPlain}
use Rattle.dvi_ops.specs.Spelling.{Spell}
use Rattle.dvi_ops.specs.Laws.{OneSpelling}
use Rattle.dvi_ops.specs.View.{NoSpelling}
use Rattle.vf_packets.specs.Programs.{Placed, Lexes, IsAllowed, AllAllowed, ProgramFrom}

-- the bytes from a place on: those of a command, and those behind it
pub parted : (bytes : List ℕ) (at next : ℕ) → at ≤ next → drop at bytes ≡ slice_range bytes at next ++ drop next bytes
parted bytes at next h =
    sym (take-append-drop (next - at) (drop at bytes)) ∙ ap (λ xs. slice_range bytes at next ++ xs) (drop-drop (next - at) at bytes ∙ (let e : at + (next - at) ≡ next = omega (arith, h) in ap (λ n. drop n bytes) e))

-- bytes that are there are no end
pub not_ended : (bytes : List ℕ) (at : ℕ) → at < length bytes → drop at bytes ≡ [] → ⊥
not_ended bytes at h e = absurd (omega (arith, ap length e, length-drop at bytes, h))

-- the length of a part
pub part_len : (bytes : List ℕ) (at next : ℕ) → at ≤ next → next ≤ length bytes → length (slice_range bytes at next) ≡ next - at
part_len bytes at next h l = (let a = length-take-le (next - at) (drop at bytes) (omega (arith, length-drop at bytes, h, l)) in a)

module _ (bytes : List ℕ) (at next : ℕ) (h : at ≤ next) (l : next ≤ length bytes) where
  -- a command that is read, and the program behind it
  pub stepped : (c : Command) → Spell c (slice_range bytes at next) → IsAllowed c → ProgramFrom next (drop next bytes) → ProgramFrom at (drop at bytes)
  stepped c s a p =
      let L : ℕ → Type 0 = λ n. Lexes n (drop next bytes) p.commands in
      let e : next ≡ at + length (slice_range bytes at next) = omega (arith, part_len bytes at next h l, h) in
      record {
        commands = record { place = at; command = c } ∷ p.commands;
        spelled = (refl, slice_range bytes at next, drop next bytes, parted bytes at next h, s, subst L e p.spelled);
        allowed = (a, p.allowed);
      }

  -- a program that goes on with a command that is read
  pub unstepped : OneSpelling → (c : Command) → Spell c (slice_range bytes at next) → at < length bytes → (cs : List Placed) → Lexes at (drop at bytes) cs → AllAllowed cs → IsAllowed c × ProgramFrom next (drop next bytes)
  unstepped one c s i [] x a = absurd (not_ended bytes at i x)
  unstepped one c s i (d ∷ cs) x a =
      let q = one (slice_range bytes at next) x.1 c d.command (drop next bytes) x.2 s x.4 (sym (parted bytes at next h) ∙ x.3) in
      let rest : x.2 ≡ drop next bytes = append_cancel_left x.1 x.2 (drop next bytes) (sym x.3 ∙ parted bytes at next h ∙ ap (λ xs. xs ++ drop next bytes) q.0) in
      let e : at + length x.1 ≡ next = omega (arith, ap length q.0, part_len bytes at next h l, h) in
      let L : ℕ → Type 0 = λ n. Lexes n x.2 cs in
      let M : List ℕ → Type 0 = λ xs. Lexes next xs cs in
      (subst IsAllowed (sym q.1) a.0, record { commands = cs; spelled = subst M rest (subst L e x.5); allowed = a.1 })

-- a program doesn't go on where no command is spelled
pub unspelled : (bytes : List ℕ) (at : ℕ) → NoSpelling bytes at → at < length bytes → (cs : List Placed) → Lexes at (drop at bytes) cs → ⊥
unspelled bytes at n i [] x = not_ended bytes at i x
unspelled bytes at n i (d ∷ cs) x = n d.command x.1 x.2 x.3 x.4

-- nothing is left
pub at_end : (bytes : List ℕ) (at : ℕ) → length bytes ≤ at → ProgramFrom at (drop at bytes)
at_end bytes at h = record { commands = []; spelled = drop_all at bytes h; allowed = tt }

-- a command that is passed over is one that a packet may hold
pub plain_allowed : (c : Command) → IsPlain c → IsAllowed c
plain_allowed (Bop counts back) p = p
plain_allowed Eop p = p
plain_allowed (FntDef d) p = p
plain_allowed (Pre head) p = p
plain_allowed (Post tail) p = p
plain_allowed (PostPost back id) p = p
plain_allowed (Xxx text) p = absurd p
plain_allowed _ p = tt

-- What bytes that spell a definition begin with, that they spell no other, and where none stands.
use Rattle.std.proofs.Common.{◌≡◌, ◌≤◌, ◌<◌, ◌+◌, ◌-◌, inl, inr, ℕ, List, [], ◌∷◌, length, drop, slice_index, slice_range, Bool, true, false, nat_lt, if◌then◌else◌, sym, ap, subst, ◌∙◌, arith}
use Rattle.std.proofs.lemmas.Bool.{cases_lt}
use Rattle.std.proofs.lemmas.Bool.Decides.{nat_tests}
use Rattle.std.proofs.lemmas.List.{get_or-take, get_or-drop, take-append-drop}
use Rattle.dvi_ops.specs.Command.{Command, Definition}
use Rattle.dvi_ops.specs.Command.Command.{FntDef}
use Rattle.dvi_ops.specs.Defined.{defined, IsDefinition}
use Rattle.dvi_ops.specs.Spelling.{Spell, low, motion, high, meaning, byte_at}
use Rattle.dvi_ops.specs.View.{NoSpelling}
use Rattle.dvi_ops.proofs.Texts.{len_of_def, meaning_of_def}

-- any command but a definition
abbrev IsOther : Command → Type 0
IsOther (FntDef d) = ⊥
IsOther _ = Unit {0}

-- of two commands by a test
either : (b : Bool) (x y : Command) → IsOther x → IsOther y → IsOther (if b then x else y)
either true x y p q = p
either false x y p q = q

test : (n m : ℕ) (x y : Command) → IsOther x → (m ≤ n → IsOther y) → IsOther (if nat_lt n m then x else y)
test n m x y p q =
    elim (cases_lt n m) [
      | inl h ↦ (let e : nat_lt n m ≡ true = grind (arith, nat_tests) in rw e p)
      | inr h ↦ (let e : nat_lt n m ≡ false = grind (arith, nat_tests) in rw e (q h))
    ]

low_other : (op : ℕ) (args : List ℕ) → IsOther (low op args)
unfolding low
low_other op args =
    either (nat_lt op 128) _ _ tt (either (nat_lt op 132) _ _ tt (either (nat_lt op 133) _ _ tt (either (nat_lt op 137) _ _ tt (either (nat_lt op 138) _ _ tt (either (nat_lt op 139) _ _ tt (either (nat_lt op 140) _ _ tt (either (nat_lt op 141) _ _ tt (either (nat_lt op 142) _ _ tt tt))))))))

motion_other : (op : ℕ) (args : List ℕ) → IsOther (motion op args)
unfolding motion
motion_other op args =
    either (nat_lt op 147) _ _ tt (either (nat_lt op 148) _ _ tt (either (nat_lt op 152) _ _ tt (either (nat_lt op 153) _ _ tt (either (nat_lt op 157) _ _ tt (either (nat_lt op 161) _ _ tt (either (nat_lt op 162) _ _ tt (either (nat_lt op 166) _ _ tt (either (nat_lt op 167) _ _ tt tt))))))))

high_other : (op : ℕ) (args : List ℕ) → (243 ≤ op → op < 247 → ⊥) → IsOther (high op args)
unfolding high
high_other op args out =
    either (nat_lt op 235) _ _ tt (either (nat_lt op 239) _ _ tt (test op 243 _ _ tt (λ a.
    elim (cases_lt op 247) [
      | inl h ↦ absurd (out a h)
      | inr h ↦ (let e : nat_lt op 247 ≡ false = grind (arith, nat_tests) in rw e (either (nat_lt op 248) _ _ tt (either (nat_lt op 249) _ _ tt tt)))
    ])))

other : (op : ℕ) (args : List ℕ) → (243 ≤ op → op < 247 → ⊥) → IsOther (meaning op args)
unfolding meaning
other op args out = either (nat_lt op 143) _ _ (low_other op args) (either (nat_lt op 171) _ _ (motion_other op args) (high_other op args out))

-- the operation byte of a definition
byte_of : (op : ℕ) (args : List ℕ) (d : Definition) → meaning op args ≡ FntDef d → (243 ≤ op) × (op < 247)
byte_of op args d e =
    elim (cases_lt op 243) [
      | inl h ↦ absurd (subst IsOther e (other op args (λ a b. omega (arith, a, h))))
      | inr h ↦
          elim (cases_lt op 247) [
            | inl l ↦ (h, l)
            | inr l ↦ absurd (subst IsOther e (other op args (λ a b. omega (arith, b, l))))
          ]
    ]

definition_in : Command → Definition → Definition
definition_in (FntDef d) e = d
definition_in _ e = e

same_definition : (d e : Definition) → FntDef d ≡ FntDef e → d ≡ e
unfolding definition_in
same_definition d e q = ap (λ c. definition_in c d) q

-- the definition that bytes spell is told from them
pub defined_is : (bytes : List ℕ) (d : Definition) → Spell (FntDef d) bytes → defined bytes ≡ d
defined_is [] d s = absurd s
defined_is (op ∷ args) d s =
    let b = byte_of op args d s.2 in
    same_definition (defined (op ∷ args)) d (sym (meaning_of_def op args b.0 b.1) ∙ s.2)

pub is_definition : (bytes : List ℕ) (d : Definition) → Spell (FntDef d) bytes → IsDefinition bytes
is_definition bytes d s = subst (λ (x : Definition). Spell (FntDef x) bytes) (sym (defined_is bytes d s)) s

-- the bytes of a definition: an operation byte with the length of its number, and the operands
pub bytes_of : (bytes : List ℕ) → IsDefinition bytes
    → (1 ≤ length bytes) × (243 ≤ slice_index bytes 0) × (slice_index bytes 0 < 247) × (slice_index bytes 0 - 242 + 15 ≤ length bytes)
bytes_of [] s = absurd s
bytes_of (op ∷ args) s =
    let b = byte_of op args (defined (op ∷ args)) s.2 in
    (omega arith, b.0, b.1, omega (arith, s.1, b.0, b.1, len_of_def op b.0 b.1))

-- ---- where none stands

-- the operation byte at a place from which a definition is spelled
pub begins : (bytes : List ℕ) (at end : ℕ) (d : Definition) → at < end → Spell (FntDef d) (slice_range bytes at end) → (243 ≤ byte_at bytes at) × (byte_at bytes at < 247)
begins bytes at end d h s =
    let front = slice_range bytes at end in
    let b = bytes_of front (is_definition front d s) in
    let first : slice_index front 0 ≡ byte_at bytes at =
    get_or-take (end - at) (drop at bytes) 0 0 (omega (arith, h)) ∙ get_or-drop at bytes 0 0 ∙ ap (slice_index bytes) (omega arith) in
    (omega (arith, b.1, first), omega (arith, b.2, first))

-- from a place where no command is spelled, no definition is
pub none_from : (bytes : List ℕ) (at : ℕ) → NoSpelling bytes at → (d : Definition) (end : ℕ) → Spell (FntDef d) (slice_range bytes at end) → ⊥
none_from bytes at none d end s =
    none (FntDef d) (slice_range bytes at end) (drop (end - at) (drop at bytes)) (sym (take-append-drop (end - at) (drop at bytes))) s

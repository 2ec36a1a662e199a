-- What an operation byte alone tells of its command.
use Rattle.std.proofs.Common.{◌≡◌, ◌≤◌, ◌<◌, ℕ, List, ◌⊎◌, inl, inr, arith, nat_lt, if◌then◌else◌, true, false}
use Rattle.std.proofs.lemmas.Bool.{cases_lt}
use Rattle.std.proofs.lemmas.Bool.Decides.{nat_tests}
use Rattle.dvi_ops.specs.Command.{Command}
use Rattle.dvi_ops.specs.Spelling.{fixed_len, extent, meaning, low, motion, high}
use Rattle.dvi_ops.specs.Plain.{IsPlain}
use Rattle.dvi_ops.proofs.Texts.{no_text}

-- of two commands by a test
pick : (n m : ℕ) (x y : Command) → (n < m → IsPlain x) → (m ≤ n → IsPlain y) → IsPlain (if nat_lt n m then x else y)
pick n m x y p q =
    elim (cases_lt n m) [
      | inl h ↦ (let e : nat_lt n m ≡ true = grind (arith, nat_tests) in rw e (p h))
      | inr h ↦ (let e : nat_lt n m ≡ false = grind (arith, nat_tests) in rw e (q h))
    ]

abbrev pub Passes : ℕ → Type 0
Passes op = (op < 139) ⊎ ((140 < op) × (op < 239))

plain_low : (op : ℕ) (args : List ℕ) → Passes op → IsPlain (low op args)
unfolding low
plain_low op args h =
    pick op 128 _ _ (λ _. tt) (λ _. pick op 132 _ _ (λ _. tt) (λ _. pick op 133 _ _ (λ _. tt) (λ _. pick op 137 _ _ (λ _. tt)
    (λ _. pick op 138 _ _ (λ _. tt) (λ _. pick op 139 _ _ (λ _. tt) (λ a. pick op 140 _ _ (λ b. absurd (out op h a (omega (arith, b))))
    (λ _. pick op 141 _ _ (λ b. absurd (out op h a (omega (arith, b)))) (λ _. pick op 142 _ _ (λ _. tt) (λ _. tt)))))))))
  where
    out : (op : ℕ) → Passes op → 139 ≤ op → op ≤ 140 → ⊥
    out op (inl x) a b = omega arith
    out op (inr x) a b = omega (arith, x.0)

plain_motion : (op : ℕ) (args : List ℕ) → IsPlain (motion op args)
unfolding motion
plain_motion op args =
    pick op 147 _ _ (λ _. tt) (λ _. pick op 148 _ _ (λ _. tt) (λ _. pick op 152 _ _ (λ _. tt) (λ _. pick op 153 _ _ (λ _. tt)
    (λ _. pick op 157 _ _ (λ _. tt) (λ _. pick op 161 _ _ (λ _. tt) (λ _. pick op 162 _ _ (λ _. tt) (λ _. pick op 166 _ _ (λ _. tt)
    (λ _. pick op 167 _ _ (λ _. tt) (λ _. tt)))))))))

plain_high : (op : ℕ) (args : List ℕ) → op < 239 → IsPlain (high op args)
unfolding high
plain_high op args h = pick op 235 _ _ (λ _. tt) (λ _. pick op 239 _ _ (λ _. tt) (λ a. absurd (omega (arith, a, h))))

pub plain : (op : ℕ) (args : List ℕ) → Passes op → IsPlain (meaning op args)
unfolding meaning
plain op args h =
    pick op 143 _ _ (λ _. plain_low op args h) (λ a. pick op 171 _ _ (λ _. plain_motion op args) (λ b. plain_high op args (below op h)))
  where
    below : (op : ℕ) → Passes op → op < 239
    below op (inl x) = omega arith
    below op (inr x) = omega (arith, x.1)

pub no_extent : (op : ℕ) (args : List ℕ) → Passes op → fixed_len op ≡ extent op args
no_extent op args (inl x) = omega (arith, no_text op args (inl (omega arith)))
no_extent op args (inr x) = omega (arith, no_text op args (inl (omega (arith, x.1))))

pub single_passes : (op : ℕ) → (op < 139) ⊎ ((140 < op) × (op < 235)) → Passes op × (op < 235)
single_passes op (inl x) = (inl x, omega (arith, x))
single_passes op (inr x) = (inr (x.0, omega (arith, x.1)), x.1)

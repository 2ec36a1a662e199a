-- Languages behind a first word.
use Rattle.std.proofs.Common.{◌≡◌, ◌<◌, ◌+◌, ℕ, List, [], ◌∷◌, ◌++◌, length, take, arith, refl, inl, inr, ◌⊎◌, add-one}
use Rattle.dv_words.specs.Language.{Begins, IsWrongAt}

module _ (Accepted : List (List ℕ) → Type 0) where
  -- the accepted lists that begin with this word are those of another language behind it
  pub record IsUnder (word : List ℕ) (Behind : List (List ℕ) → Type 0) : Type 0 where
    pub puts : (words : List (List ℕ)) → Behind words → Accepted (word ∷ words)
    pub gets : (words : List (List ℕ)) → Accepted (word ∷ words) → Behind words

  pub under : (word : List ℕ) (Behind : List (List ℕ) → Type 0) → IsUnder word Behind → (words : List (List ℕ)) (i : ℕ) → IsWrongAt Behind words i
      → IsWrongAt Accepted (word ∷ words) (i + 1)
  under word Behind u words i wrong =
      record {
        inside = omega (arith, wrong.inside);
        before = rw add-one (wrong.before.0, u.puts (take i words ++ wrong.before.0) wrong.before.1);
        here = by wrong.here;
      }
    where
      by : (i < length words) × (Begins Behind (take (i + 1) words) → ⊥) ⊎ (i ≡ length words) × (Behind words → ⊥)
          → (i + 1 < length (word ∷ words)) × (Begins Accepted (take (i + 1 + 1) (word ∷ words)) → ⊥) ⊎ (i + 1 ≡ length (word ∷ words)) × (Accepted (word ∷ words) → ⊥)
      by (inl h) = inl (omega (arith, h.0), (λ b. h.1 (let c = rw add-one at b in (c.0, u.gets (take (i + 1) words ++ c.0) c.1))))
      by (inr h) = inr (omega (arith, h.0), (λ a. h.1 (u.gets words a)))

  -- no accepted list begins with this word
  pub wrong_first : (word : List ℕ) (words : List (List ℕ)) → Begins Accepted [] → ((rest : List (List ℕ)) → Accepted (word ∷ rest) → ⊥)
      → IsWrongAt Accepted (word ∷ words) 0
  wrong_first word words some none =
      record { inside = omega arith; before = some; here = inl (omega arith, (λ b. none b.0 b.1)) }

  pub wrong_nothing : Begins Accepted [] → (Accepted [] → ⊥) → IsWrongAt Accepted [] 0
  wrong_nothing some none = record { inside = omega arith; before = some; here = inr (refl, none) }

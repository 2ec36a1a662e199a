-- The numbers below a limit that pass a test: they rise, each passes, and each that passes is one of them.
use Rattle.std.proofs.Common.{◌≡◌, ◌<◌, ◌≤◌, ◌+◌, ◌⊎◌, inl, inr, ⊎_elim, ℕ, zero, suc, Bool, true, false, List, [], ◌∷◌, ◌++◌, arith, refl, ap, ◌∙◌}
use Rattle.std.specs.Prelude.{if◌then◌else◌}
use Rattle.std.proofs.lemmas.Bool.{cases_eq}
use Rattle.std.proofs.lemmas.List.{append-nil}
use Rattle.sections.specs.Below.{those_below}

-- these numbers rise, none is below `least`, all are below the limit, and each passes the test
abbrev pub Rising : (ℕ → Bool) → ℕ → ℕ → List ℕ → Type 0
Rising test least limit [] = Unit {0}
Rising test least limit (c ∷ cs) = (least ≤ c) × (c < limit) × (test c ≡ true) × Rising test (c + 1) limit cs

rising_wider : (test : ℕ → Bool) (least limit more : ℕ) (cs : List ℕ) → limit ≤ more → Rising test least limit cs → Rising test least more cs
rising_wider test least limit more [] h r = tt
rising_wider test least limit more (c ∷ cs) h r = (r.0, omega (arith, h, r.1), r.2, rising_wider test (c + 1) limit more cs h r.3)

rising_push : (test : ℕ → Bool) (least limit : ℕ) (cs : List ℕ) → least ≤ limit → test limit ≡ true → Rising test least limit cs → Rising test least (suc limit) (cs ++ limit ∷ [])
rising_push test least limit [] h t r = (h, omega arith, t, tt)
rising_push test least limit (c ∷ cs) h t r = (r.0, omega (arith, r.1), r.2, rising_push test (c + 1) limit cs (omega (arith, r.1)) t r.3)

pub those_rising : (test : ℕ → Bool) (n : ℕ) → Rising test 0 n (those_below test n)
unfolding those_below
those_rising test zero = tt
those_rising test (suc n) = go (test n) refl (those_rising test n)
  where
    go : (b : Bool) → test n ≡ b → Rising test 0 n (those_below test n) → Rising test 0 (suc n) (those_below test n ++ (if b then n ∷ [] else []))
    go true e r = rising_push test 0 n (those_below test n) (omega arith) e r
    go false e r = rw append-nil (rising_wider test 0 n (suc n) (those_below test n) (omega arith) r)

-- k is one of these
abbrev pub IsListed : ℕ → List ℕ → Type 0
IsListed k [] = ⊥
IsListed k (x ∷ xs) = (x ≡ k) ⊎ IsListed k xs

listed_left : (k : ℕ) (xs ys : List ℕ) → IsListed k xs → IsListed k (xs ++ ys)
listed_left k [] ys h = absurd h
listed_left k (x ∷ xs) ys (inl e) = inl e
listed_left k (x ∷ xs) ys (inr h) = inr (listed_left k xs ys h)

listed_right : (k : ℕ) (xs ys : List ℕ) → IsListed k ys → IsListed k (xs ++ ys)
listed_right k [] ys h = h
listed_right k (x ∷ xs) ys h = inr (listed_right k xs ys h)

pub those_listed : (test : ℕ → Bool) (n k : ℕ) → k < n → test k ≡ true → IsListed k (those_below test n)
unfolding those_below
those_listed test zero k h e = absurd (omega arith)
those_listed test (suc n) k h e =
    ⊎_elim
    (λ (same : n ≡ k). listed_right k (those_below test n) (if test n then n ∷ [] else []) (rw (ap test same ∙ e) (inl same)))
    (λ (other : n ≡ k → ⊥). listed_left k (those_below test n) (if test n then n ∷ [] else []) (those_listed test n k (omega arith) e))
    (cases_eq n k)

pub those_same : (f g : ℕ → Bool) (n : ℕ) → ((k : ℕ) → k < n → f k ≡ g k) → those_below f n ≡ those_below g n
unfolding those_below
those_same f g zero h = refl
those_same f g (suc n) h = λ i. those_same f g n (λ k l. h k (omega arith)) i ++ (if h n (omega arith) i then n ∷ [] else [])

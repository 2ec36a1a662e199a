-- Sums and tests below a limit.
use Rattle.std.proofs.Common.{◌≡◌, ◌≢◌, ◌<◌, ◌≤◌, ◌+◌, ◌*◌, ℕ, zero, suc, Bool, true, false, arith, refl, sym, ap, ◌∙◌, ⊎_elim, ◌⊎◌, inl, inr}
use Rattle.std.specs.Prelude.{◌||◌}
use Rattle.std.proofs.lemmas.Bool.{cases_eq}
use Rattle.sections.specs.Below.{sum_below, any_below}

pub sum_below_same : (f g : ℕ → ℕ) (n : ℕ) → ((k : ℕ) → k < n → f k ≡ g k) → sum_below f n ≡ sum_below g n
unfolding sum_below
sum_below_same f g zero h = refl
sum_below_same f g (suc n) h =
    ap (λ s. s + f n) (sum_below_same f g n (λ k l. h k (omega arith))) ∙ ap (λ x. sum_below g n + x) (h n (omega arith))

pub sum_below_least : (f g : ℕ → ℕ) (n : ℕ) → ((k : ℕ) → k < n → f k ≤ g k) → sum_below f n ≤ sum_below g n
unfolding sum_below
sum_below_least f g zero h = omega arith
sum_below_least f g (suc n) h =
    let below = sum_below_least f g n (λ k l. h k (omega arith)) in
    let here = h n (omega arith) in
    omega arith

-- each at most m
pub sum_below_most : (f : ℕ → ℕ) (m n : ℕ) → ((k : ℕ) → k < n → f k ≤ m) → sum_below f n ≤ n * m
unfolding sum_below
sum_below_most f m zero h = omega arith
sum_below_most f m (suc n) h =
    let below = sum_below_most f m n (λ k l. h k (omega arith)) in
    let here = h n (omega arith) in
    omega arith

-- one is raised by d
pub sum_below_raised : (f g : ℕ → ℕ) (i d n : ℕ) → i < n → ((k : ℕ) → k < n → k ≢ i → g k ≡ f k) → g i ≡ f i + d → sum_below g n ≡ sum_below f n + d
unfolding sum_below
sum_below_raised f g i d zero l h e = absurd (omega arith)
sum_below_raised f g i d (suc n) l h e =
    ⊎_elim
    (λ (is : n ≡ i).
    let below = sum_below_same g f n (λ k m. h k (omega arith) (λ same. omega arith)) in
    let here : g n ≡ f n + d = ap g is ∙ (e ∙ ap (λ k. f k + d) (sym is)) in
    omega arith)
    (λ (other : n ≡ i → ⊥).
    let less : i < n = omega arith in
    let below = sum_below_raised f g i d n less (λ k m ne. h k (omega arith) ne) e in
    let here = h n (omega arith) other in
    omega arith)
    (cases_eq n i)

pub any_below_same : (f g : ℕ → Bool) (n : ℕ) → ((k : ℕ) → k < n → f k ≡ g k) → any_below f n ≡ any_below g n
unfolding any_below
any_below_same f g zero h = refl
any_below_same f g (suc n) h =
    ap (λ s. s || f n) (any_below_same f g n (λ k l. h k (omega arith))) ∙ ap (λ x. any_below g n || x) (h n (omega arith))

pub any_below_none : (f : ℕ → Bool) (n : ℕ) → ((k : ℕ) → k < n → f k ≡ false) → any_below f n ≡ false
unfolding any_below
any_below_none f zero h = refl
any_below_none f (suc n) h = ap (λ s. s || f n) (any_below_none f n (λ k l. h k (omega arith))) ∙ h n (omega arith)

or_true : (a : Bool) → (a || true) ≡ true
or_true true = refl
or_true false = refl

pub any_below_at : (f : ℕ → Bool) (i n : ℕ) → i < n → f i ≡ true → any_below f n ≡ true
unfolding any_below
any_below_at f i zero l e = absurd (omega arith)
any_below_at f i (suc n) l e =
    ⊎_elim
    (λ (is : n ≡ i). ap (λ x. any_below f n || x) (ap f is ∙ e) ∙ or_true (any_below f n))
    (λ (other : n ≡ i → ⊥). ap (λ s. s || f n) (any_below_at f i n (omega arith) e))
    (cases_eq n i)

-- some number below n passes
pub any_below_some : (f : ℕ → Bool) (n : ℕ) → any_below f n ≡ true → (k : ℕ) × (k < n) × (f k ≡ true)
unfolding any_below
any_below_some f zero e = absurd cc
any_below_some f (suc n) e = by (λ h. any_below_some f n h) (any_below f n) refl (f n) refl
  where
    by : (any_below f n ≡ true → (k : ℕ) × (k < n) × (f k ≡ true)) → (a : Bool) → any_below f n ≡ a → (b : Bool) → f n ≡ b → (k : ℕ) × (k < suc n) × (f k ≡ true)
    by below true p b q = let r = below p in (r.0, omega (arith, r.1), r.2)
    by below false p true q = (n, omega arith, q)
    by below false p false q = absurd cc

-- The cost of used glyphs: it depends on what is used alone, grows with it, and grows by one glyph's price at a time.
use Rattle.std.proofs.Common.{◌≡◌, ◌≢◌, ◌<◌, ◌≤◌, ◌+◌, ◌*◌, ℕ, zero, suc, Bool, true, false, arith, refl, sym, ap, ◌∙◌, subst, ⊎_elim}
use Rattle.std.specs.Prelude.{◌||◌, ◌&&◌, if◌then◌else◌}
use Rattle.std.proofs.lemmas.Bool.{cases_eq}
use Rattle.sections.specs.Below.{sum_below, any_below}
use Rattle.sections.specs.Cost.{code_cost, font_cost, font_step, total}
use Rattle.sections.proofs.Belows.{sum_below_same, sum_below_least, sum_below_most, sum_below_raised, any_below_same, any_below_none, any_below_at, any_below_some}

-- ---- one font

code_same : (p q : ℕ) (a b : Bool) → p ≡ q → a ≡ b → (if a then p else 0) ≡ (if b then q else 0)
code_same p q a b e f = ap (λ x. if x then p else 0) f ∙ ap (λ n. if b then n else 0) e

pub font_same : (p q : ℕ → ℕ) (a b : ℕ → Bool) → ((c : ℕ) → c < 256 → p c ≡ q c) → ((c : ℕ) → c < 256 → a c ≡ b c) → font_cost p a ≡ font_cost q b
font_same p q a b e f =
    let any = any_below_same a b 256 f in
    let sum = sum_below_same (code_cost p a) (code_cost q b) 256 (λ c l. code_same (p c) (q c) (a c) (b c) (e c l) (f c l)) in
    ap (λ x. if x then 2560 + sum_below (code_cost p a) 256 else 0) any ∙ ap (λ n. if any_below b 256 then 2560 + n else 0) sum

code_least : (p : ℕ) (a b : Bool) → (a ≡ true → b ≡ true) → (if a then p else 0) ≤ (if b then p else 0)
code_least p true true h = omega arith
code_least p true false h = absurd (let e = h refl in cc)
code_least p false b h = omega arith

if_least : (m n : ℕ) (a b : Bool) → m ≤ n → (a ≡ true → b ≡ true) → (if a then m else 0) ≤ (if b then n else 0)
if_least m n true true l h = l
if_least m n true false l h = absurd (let e = h refl in cc)
if_least m n false b l h = omega arith

any_grows : (a b : ℕ → Bool) → ((c : ℕ) → c < 256 → a c ≡ true → b c ≡ true) → any_below a 256 ≡ true → any_below b 256 ≡ true
any_grows a b h e = let r = any_below_some a 256 e in any_below_at b r.0 256 r.1 (h r.0 r.1 r.2)

font_least : (p : ℕ → ℕ) (a b : ℕ → Bool) → ((c : ℕ) → c < 256 → a c ≡ true → b c ≡ true) → font_cost p a ≤ font_cost p b
font_least p a b h =
    let sum = sum_below_least (code_cost p a) (code_cost p b) 256 (λ c l. code_least (p c) (a c) (b c) (h c l)) in
    if_least (2560 + sum_below (code_cost p a) 256) (2560 + sum_below (code_cost p b) 256) (any_below a 256) (any_below b 256) (omega arith) (any_grows a b h)

code_most : (m p : ℕ) (a : Bool) → p ≤ m → (if a then p else 0) ≤ m
code_most m p true l = l
code_most m p false l = omega arith

font_most : (p : ℕ → ℕ) (a : ℕ → Bool) (m : ℕ) → ((c : ℕ) → c < 256 → p c ≤ m) → font_cost p a ≤ 2560 + 256 * m
font_most p a m h =
    let sum = sum_below_most (code_cost p a) m 256 (λ c l. code_most m (p c) (a c) (h c l)) in
    code_most (2560 + 256 * m) (2560 + sum_below (code_cost p a) 256) (any_below a 256) (omega arith)

-- ---- one glyph more

if_step : (s t d : ℕ) (a : Bool) → (a ≡ false → s ≡ 0) → t ≡ s + d → 2560 + t ≡ (if a then 2560 + s else 0) + (font_step a + d)
if_step s t d true h e = omega arith
if_step s t d false h e = let none = h refl in omega arith

no_cost : (p : ℕ → ℕ) (a : ℕ → Bool) → any_below a 256 ≡ false → sum_below (code_cost p a) 256 ≡ 0
no_cost p a none =
    let each = sum_below_most (code_cost p a) 0 256 (λ c l. by c (a c) refl l) in omega (arith, each)
  where
    by : (c : ℕ) (x : Bool) → a c ≡ x → c < 256 → code_cost p a c ≤ 0
    by c true e l = absurd (let some = any_below_at a c 256 l e in cc)
    by c false e l = let is : code_cost p a c ≡ 0 = ap (λ y. if y then p c else 0) e in omega (arith, is)

font_more : (p : ℕ → ℕ) (a b : ℕ → Bool) (c : ℕ) → c < 256 → a c ≡ false → b c ≡ true → ((k : ℕ) → k < 256 → k ≢ c → b k ≡ a k)
    → font_cost p b ≡ font_cost p a + (font_step (any_below a 256) + p c)
font_more p a b c l before after others =
    let none : code_cost p a c ≡ 0 = ap (λ x. if x then p c else 0) before in
    let some : code_cost p b c ≡ p c = ap (λ x. if x then p c else 0) after in
    let here : code_cost p b c ≡ code_cost p a c + p c = omega (arith, none, some) in
    let sum = sum_below_raised (code_cost p a) (code_cost p b) c (p c) 256 l (λ k m ne. ap (λ x. if x then p k else 0) (others k m ne)) here in
    ap (λ x. if x then 2560 + sum_below (code_cost p b) 256 else 0) (any_below_at b c 256 l after)
    ∙ if_step (sum_below (code_cost p a) 256) (sum_below (code_cost p b) 256) (p c) (any_below a 256) (no_cost p a) sum

-- ---- all fonts

pub total_same : (p q : ℕ → ℕ → ℕ) (a b : ℕ → ℕ → Bool) (n : ℕ) → ((i c : ℕ) → i < n → c < 256 → p i c ≡ q i c) → ((i c : ℕ) → i < n → c < 256 → a i c ≡ b i c)
    → total p a n ≡ total q b n
unfolding total
total_same p q a b n e f =
    sum_below_same (λ i. font_cost (p i) (a i)) (λ i. font_cost (q i) (b i)) n (λ i l. font_same (p i) (q i) (a i) (b i) (λ c m. e i c l m) (λ c m. f i c l m))

pub total_least : (p : ℕ → ℕ → ℕ) (a b : ℕ → ℕ → Bool) (n : ℕ) → ((i c : ℕ) → i < n → c < 256 → a i c ≡ true → b i c ≡ true) → total p a n ≤ total p b n
unfolding total
total_least p a b n h = sum_below_least (λ i. font_cost (p i) (a i)) (λ i. font_cost (p i) (b i)) n (λ i l. font_least (p i) (a i) (b i) (λ c m. h i c l m))

pub total_most : (p : ℕ → ℕ → ℕ) (a : ℕ → ℕ → Bool) (m n : ℕ) → ((i c : ℕ) → i < n → c < 256 → p i c ≤ m) → total p a n ≤ n * (2560 + 256 * m)
unfolding total
total_most p a m n h = sum_below_most (λ i. font_cost (p i) (a i)) (2560 + 256 * m) n (λ i l. font_most (p i) (a i) m (λ c k. h i c l k))

pub total_none : (p : ℕ → ℕ → ℕ) (a : ℕ → ℕ → Bool) (n : ℕ) → ((i c : ℕ) → i < n → c < 256 → a i c ≡ false) → total p a n ≡ 0
unfolding total
total_none p a n h =
    let each = sum_below_most (λ i. font_cost (p i) (a i)) 0 n (λ i l.
    let is : font_cost (p i) (a i) ≡ 0 = ap (λ x. if x then 2560 + sum_below (code_cost (p i) (a i)) 256 else 0) (any_below_none (a i) 256 (λ c m. h i c l m)) in
    omega (arith, is)) in
    omega (arith, each)

pub total_more : (p : ℕ → ℕ → ℕ) (a b : ℕ → ℕ → Bool) (i c n : ℕ) → i < n → c < 256 → a i c ≡ false → b i c ≡ true
    → ((k : ℕ) → k < 256 → k ≢ c → b i k ≡ a i k) → ((j k : ℕ) → j < n → k < 256 → j ≢ i → b j k ≡ a j k)
    → total p b n ≡ total p a n + (font_step (any_below (a i) 256) + p i c)
unfolding total
total_more p a b i c n l m before after same others =
    sum_below_raised (λ j. font_cost (p j) (a j)) (λ j. font_cost (p j) (b j)) i (font_step (any_below (a i) 256) + p i c) n l
    (λ j k ne. font_same (p j) (p j) (b j) (a j) (λ d h. refl) (λ d h. others j d k h ne))
    (font_more (p i) (a i) (b i) c m before after same)

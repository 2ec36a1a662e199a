use Rattle.std.proofs.Common.{◌≡◌, ℕ, zero, suc, ◌+◌, ◌*◌, ◌<◌, ◌≤◌, ◌≢◌, refl, subst, arith, List, [], ◌∷◌, length, take, nat_lt, nat_eq, Bool, true, false, cond}
use Rattle.std.proofs.lemmas.Bool.Decides.{nat_tests}
use Rattle.std.specs.Prelude.{Option, None, Some}
use Rattle.std.proofs.Math.Nat.{mul-le-mul_left}
use Rattle.pk_raster.specs.Numbers.{Found, behind, long_from, long, pair, packed}
use Rattle.pk_raster.specs.Runs.{Item, Run, Repeat}
use Rattle.pk_raster.specs.Items.{count_at, as_item, item_at}
use Rattle.pk_raster.specs.Runs.{pixels}

abbrev pub Pos : Found → Type 0
Pos None = Unit {0}
Pos (Some r) = 0 < r.0

abbrev pub size : Item → ℕ
size (Run n) = n
size (Repeat n) = n

abbrev pub ItemPos : Option (Item × List ℕ) → Type 0
ItemPos None = Unit {0}
ItemPos (Some r) = 0 < size r.0

cond_pos : (b : Bool) (x y : Found) → (b ≡ true → Pos x) → (b ≡ false → Pos y) → Pos (cond b x y)
cond_pos true x y f g = f refl
cond_pos false x y f g = g refl

cond_item : (b : Bool) (x y : Option (Item × List ℕ)) → ItemPos x → ItemPos y → ItemPos (cond b x y)
cond_item true x y f g = f
cond_item false x y f g = g

behind_ge : (n : ℕ) (ds : List ℕ) → n ≤ behind n ds
behind_ge n [] = omega arith
behind_ge n (d ∷ ds) = let e = behind_ge (16 * n + d) ds in omega (arith, e)

behind_more : (d k : ℕ) (xs : List ℕ) → 0 < k → k ≤ length xs → 16 * d ≤ behind d (take k xs)
behind_more d zero xs h l = absurd (omega (arith, h))
behind_more d (suc k) [] h l = absurd (omega (arith, l))
behind_more d (suc k) (x ∷ xs) h l = let e = behind_ge (16 * d + x) (take k xs) in omega (arith, e)

from_pos : (f k d : ℕ) (xs : List ℕ) → 0 < k → d ≢ 0 → Pos (long_from f k d xs)
unfolding long_from
from_pos f k d xs h ne = cond_pos (nat_lt (length xs) k) _ _ (λ e. tt) (λ e. (let l : k ≤ length xs = grind (arith, nat_tests, e) in let b = behind_more d k xs h l in omega (arith, b, ne)))

long_pos : (f k : ℕ) (xs : List ℕ) → 0 < k → Pos (long f k xs)
unfolding long
long_pos f k [] h = tt
long_pos f k (d ∷ xs) h = cond_pos (nat_eq d 0) _ _ (λ e. long_pos f (k + 1) xs (omega arith)) (λ e. from_pos f k d xs h (grind (arith, nat_tests, e)))

pair_pos : (f i : ℕ) (xs : List ℕ) → Pos (pair f i xs)
unfolding pair
pair_pos f i [] = tt
pair_pos f i (d ∷ xs) = omega arith

packed_pos : (f i : ℕ) (xs : List ℕ) → Pos (packed f i xs)
unfolding packed
packed_pos f i xs = cond_pos (nat_eq i 0) _ _ (λ e. long_pos f 1 xs (omega arith)) (λ e. cond_pos (nat_lt f i) _ _ (λ k. pair_pos f i xs) (λ k. positive i (grind (arith, nat_tests, e))))
  where
    positive : (i : ℕ) → i ≢ 0 → 0 < i
    positive i ne = omega (arith, ne)

count_pos : (f : ℕ) (xs : List ℕ) → Pos (count_at f xs)
unfolding count_at
count_pos f [] = tt
count_pos f (i ∷ xs) = cond_pos (nat_lt 13 i) _ _ (λ e. tt) (λ e. packed_pos f i xs)

run_pos : (x : Found) → Pos x → ItemPos (as_item Run x)
run_pos None p = tt
run_pos (Some r) p = p

repeat_pos : (x : Found) → Pos x → ItemPos (as_item Repeat x)
repeat_pos None p = tt
repeat_pos (Some r) p = p

item_pos : (f : ℕ) (xs : List ℕ) → ItemPos (item_at f xs)
unfolding item_at
item_pos f [] = tt
item_pos f (i ∷ xs) = cond_item (nat_eq i 15) _ _ (omega arith) (cond_item (nat_eq i 14) _ _ (repeat_pos (count_at f xs) (count_pos f xs)) (run_pos (packed f i xs) (packed_pos f i xs)))

-- an item that stands there has pixels
pub some_pixels : (f w : ℕ) (xs : List ℕ) (i : Item) (more : List ℕ) (is : List Item) → 0 < w → item_at f xs ≡ Some (i, more) → 0 < pixels w (i ∷ is)
unfolding pixels
some_pixels f w xs (Run n) more is h e = let p = subst ItemPos e (item_pos f xs) in omega (arith, p)
some_pixels f w xs (Repeat n) more is h e = let p = subst ItemPos e (item_pos f xs) in let q : n * 1 ≤ n * w = mul-le-mul_left n (omega (arith, h)) in omega (arith, p, q)

use Rattle.std.proofs.Common.{◌≡◌, ℕ, zero, suc, ◌+◌, ◌-◌, ◌*◌, ◌/◌, ◌%◌, ◌<◌, ◌≤◌, ◌≢◌, refl, sym, ◌∙◌, ap, arith, List, [], ◌∷◌, get_or, length, take, drop, nat_lt, nat_eq, Bool, true, false, cond, drop-cons, add-one, zero-add}
use Rattle.std.proofs.Math.Seq.{drop-nil}
use Rattle.std.proofs.lemmas.List.{drop_all}
use Rattle.std.proofs.lemmas.Bool.Decides.{nat_tests}
use Rattle.std.specs.Prelude.{Option, None, Some}
use Rattle.pk_raster.specs.Numbers.{nybbles, behind, long_from, long, pair, packed}

pub length_nybbles : (bs : List ℕ) → length (nybbles bs) ≡ 2 * length bs
unfolding nybbles
length_nybbles [] = refl
length_nybbles (b ∷ bs) = let e = length_nybbles bs in omega (arith, e)

pub high : (bs : List ℕ) (i : ℕ) → i % 2 ≡ 0 → get_or (nybbles bs) i 0 ≡ get_or bs (i / 2) 0 / 16
unfolding nybbles
high [] i h = refl
high (b ∷ bs) zero h = refl
high (b ∷ bs) (suc zero) h = absurd (omega (arith, h))
high (b ∷ bs) (suc (suc i)) h =
    let d : suc (suc i) / 2 ≡ suc (i / 2) = omega arith in
    high bs i (omega (arith, h)) ∙ ap (λ k. get_or (b ∷ bs) k 0 / 16) (sym d)

pub low : (bs : List ℕ) (i : ℕ) → i % 2 ≢ 0 → get_or (nybbles bs) i 0 ≡ get_or bs (i / 2) 0 % 16
unfolding nybbles
low [] i h = refl
low (b ∷ bs) zero h = absurd (h refl)
low (b ∷ bs) (suc zero) h = refl
low (b ∷ bs) (suc (suc i)) h =
    let d : suc (suc i) / 2 ≡ suc (i / 2) = omega arith in
    let m : i % 2 ≢ 0 = λ e. h (omega (arith, e)) in
    low bs i m ∙ ap (λ k. get_or (b ∷ bs) k 0 % 16) (sym d)

-- the nybbles from a place on
pub ahead : (xs : List ℕ) (i : ℕ) → i < length xs → drop i xs ≡ get_or xs i 0 ∷ drop (i + 1) xs
ahead xs i h = drop-cons xs i 0 h ∙ ap (λ k. get_or xs i 0 ∷ drop k xs) (sym (add-one i))

cut_short : (b : Bool) (x y : Option (ℕ × List ℕ)) → b ≡ true → cond b x y ≡ x
cut_short true x y h = refl
cut_short false x y h = cc

cut_long : (b : Bool) (x y : Option (ℕ × List ℕ)) → b ≡ false → cond b x y ≡ y
cut_long true x y h = cc
cut_long false x y h = refl

pub short : (f k d : ℕ) (xs : List ℕ) → length xs < k → long_from f k d xs ≡ None
unfolding long_from
short f k d xs h = cut_short (nat_lt (length xs) k) _ _ (grind (arith, nat_tests))

pub whole : (f k d : ℕ) (xs : List ℕ) → k ≤ length xs → long_from f k d xs ≡ Some (behind d (take k xs) + (13 - f) * 16 + f - 15, drop k xs)
unfolding long_from
whole f k d xs h = cut_long (nat_lt (length xs) k) _ _ (grind (arith, nat_tests))

pub long_step : (f k : ℕ) (xs : List ℕ) (i : ℕ) → i < length xs → get_or xs i 0 ≡ 0 → long f k (drop i xs) ≡ long f (k + 1) (drop (i + 1) xs)
unfolding long
long_step f k xs i h z = rw (ahead xs i h) (cut_short (nat_eq (get_or xs i 0) 0) _ _ (grind (arith, nat_tests, z)))

pub long_stop : (f k : ℕ) (xs : List ℕ) (i : ℕ) → i < length xs → get_or xs i 0 ≢ 0 → long f k (drop i xs) ≡ long_from f k (get_or xs i 0) (drop (i + 1) xs)
unfolding long
long_stop f k xs i h z = rw (ahead xs i h) (cut_long (nat_eq (get_or xs i 0) 0) _ _ (grind (arith, nat_tests, z)))

pub long_none : (f k : ℕ) (xs : List ℕ) (i : ℕ) → length xs ≤ i → long f k (drop i xs) ≡ None
unfolding long
long_none f k xs i h = ap (long f k) (drop_all i xs h)

-- one more digit, capped
pub behind_more : (n : ℕ) (xs : List ℕ) (i j : ℕ) → i < j → i < length xs → behind n (take (j - i) (drop i xs)) ≡ behind (16 * n + get_or xs i 0) (take (j - (i + 1)) (drop (i + 1) xs))
behind_more n xs i j h l =
    let e : j - i ≡ suc (j - (i + 1)) = omega arith in
    rw (ahead xs i l) (rw e refl)

pub behind_end : (n : ℕ) (xs : List ℕ) (i j : ℕ) → j ≤ i → behind n (take (j - i) (drop i xs)) ≡ n
behind_end n xs i j h = let e : j - i ≡ 0 = omega arith in rw e refl

pub pair_some : (f i : ℕ) (xs : List ℕ) (at : ℕ) → at < length xs → pair f i (drop at xs) ≡ Some ((i - f - 1) * 16 + get_or xs at 0 + f + 1, drop (at + 1) xs)
unfolding pair
pair_some f i xs at h = rw (ahead xs at h) refl

pub pair_none : (f i : ℕ) (xs : List ℕ) (at : ℕ) → length xs ≤ at → pair f i (drop at xs) ≡ None
unfolding pair
pair_none f i xs at h = ap (pair f i) (drop_all at xs h)

pub packed_long : (f : ℕ) (xs : List ℕ) → packed f 0 xs ≡ long f 1 xs
unfolding packed
packed_long f xs = refl

pub packed_pair : (f i : ℕ) (xs : List ℕ) → 0 < i → f < i → packed f i xs ≡ pair f i xs
unfolding packed
packed_pair f i xs h k = cut_long (nat_eq i 0) _ _ (grind (arith, nat_tests)) ∙ cut_short (nat_lt f i) _ _ (grind (arith, nat_tests))

pub packed_one : (f i : ℕ) (xs : List ℕ) → 0 < i → i ≤ f → packed f i xs ≡ Some (i, xs)
unfolding packed
packed_one f i xs h k = cut_long (nat_eq i 0) _ _ (grind (arith, nat_tests)) ∙ cut_long (nat_lt f i) _ _ (grind (arith, nat_tests))

pub drop_drop : (a b : ℕ) (xs : List ℕ) → drop b (drop a xs) ≡ drop (a + b) xs
drop_drop zero b xs = ap (λ n. drop n xs) (sym (zero-add b))
drop_drop (suc a) b [] = drop-nil b ∙ sym (drop-nil (suc a + b))
drop_drop (suc a) b (x ∷ xs) = let e : suc a + b ≡ suc (a + b) = omega arith in drop_drop a b xs ∙ sym (ap (λ n. drop n (x ∷ xs)) e)

-- What is true of each element of a list, or of one of them.
use Rattle.std.proofs.Common.{◌≡◌, ◌<◌, ◌≤◌, ◌+◌, ℕ, zero, suc, List, [], ◌∷◌, ◌++◌, length, map, get_or, take, drop, Some, arith, refl, sym, ap, subst, add-one, inl, inr}
use Rattle.std.specs.Prelude.{slice_get, fold, IfErr, Result, Ok, Err}
use Rattle.std.specs.List.{sum}
use Rattle.dv_top.specs.Each.{Any, Each}

pub same_some : {X : Type 0} (x y : X) → Some x ≡ Some y → x ≡ y
same_some x y e = cc

-- one element more
pub each_more : {X : Type 0} (P : X → Type 0) (xs : List X) (k : ℕ) (x : X) → slice_get xs k ≡ Some x → Each P (take k xs) → P x → Each P (take (k + 1) xs)
each_more P [] k x e h p = absurd (cc)
each_more P (y ∷ ys) zero x e h p = (subst P (sym (same_some y x e)) p, tt)
each_more P (y ∷ ys) (suc k) x e h p =
    let more : Each P (take (suc k) ys) = subst (λ n. Each P (take n ys)) (add-one k) (each_more P ys k x e h.1 p) in
    subst (λ n. Each P (take n (y ∷ ys))) (sym (add-one (suc k))) (h.0, more)

-- all elements, where there are no more than these
pub each_all : {X : Type 0} (P : X → Type 0) (xs : List X) (n : ℕ) → length xs ≤ n → Each P (take n xs) → Each P xs
each_all P [] n h e = tt
each_all P (x ∷ xs) zero h e = absurd (omega arith)
each_all P (x ∷ xs) (suc n) h e = (e.0, each_all P xs n (omega arith) e.1)

-- one of them
pub each_at : {X : Type 0} (P : X → Type 0) (xs : List X) (k : ℕ) (x : X) → slice_get xs k ≡ Some x → Each P xs → P x
each_at P [] k x e h = absurd (cc)
each_at P (y ∷ ys) zero x e h = subst P (same_some y x e) h.0
each_at P (y ∷ ys) (suc k) x e h = each_at P ys k x e h.1

pub each_as : {X : Type 0} (P Q : X → Type 0) → ((x : X) → P x → Q x) → (xs : List X) → Each P xs → Each Q xs
each_as P Q f [] h = tt
each_as P Q f (x ∷ xs) h = (f x h.0, each_as P Q f xs h.1)

-- those in front, and one behind them
pub each_front : {X : Type 0} (P : X → Type 0) (xs ys : List X) → Each P (xs ++ ys) → Each P xs
each_front P [] ys h = tt
each_front P (x ∷ xs) ys h = (h.0, each_front P xs ys h.1)

pub each_behind : {X : Type 0} (P : X → Type 0) (xs ys : List X) → Each P (xs ++ ys) → Each P ys
each_behind P [] ys h = h
each_behind P (x ∷ xs) ys h = each_behind P xs ys h.1

-- an element, with those before it and those behind it
pub split_at : {X : Type 0} (xs : List X) (k : ℕ) (x : X) → slice_get xs k ≡ Some x → take k xs ++ x ∷ drop (suc k) xs ≡ xs
split_at [] k x e = absurd (cc)
split_at (y ∷ ys) zero x e = ap (λ z. z ∷ ys) (sym (same_some y x e))
split_at (y ∷ ys) (suc k) x e = ap (λ zs. y ∷ zs) (split_at ys k x e)

-- the first elements and one more
pub take_more : {X : Type 0} (xs : List X) (k : ℕ) (x : X) → slice_get xs k ≡ Some x → take (k + 1) xs ≡ take k xs ++ x ∷ []
take_more [] k x e = absurd (cc)
take_more (y ∷ ys) zero x e = ap (λ z. z ∷ []) (same_some y x e)
take_more (y ∷ ys) (suc k) x e = subst (λ n. take n (y ∷ ys) ≡ y ∷ (take k ys ++ x ∷ [])) (sym (add-one (suc k))) (ap (λ zs. y ∷ zs) (subst (λ n. take n ys ≡ take k ys ++ x ∷ []) (add-one k) (take_more ys k x e)))

pub take_all : {X : Type 0} (xs : List X) (n : ℕ) → length xs ≤ n → take n xs ≡ xs
take_all [] zero h = refl
take_all [] (suc n) h = refl
take_all (x ∷ xs) zero h = absurd (omega arith)
take_all (x ∷ xs) (suc n) h = ap (λ ys. x ∷ ys) (take_all xs n (omega arith))

-- one of these, as one of those
pub any_as : {X : Type 0} (P Q : X → Type 0) → ((x : X) → P x → Q x) → (xs : List X) → Any P xs → Any Q xs
any_as P Q f [] h = h
any_as P Q f (x ∷ xs) (inl p) = inl (f x p)
any_as P Q f (x ∷ xs) (inr h) = inr (any_as P Q f xs h)

pub any_front : {X : Type 0} (P : X → Type 0) (xs ys : List X) → Any P xs → Any P (xs ++ ys)
any_front P [] ys h = absurd h
any_front P (x ∷ xs) ys (inl p) = inl p
any_front P (x ∷ xs) ys (inr h) = inr (any_front P xs ys h)

pub any_behind : {X : Type 0} (P : X → Type 0) (xs ys : List X) → Any P ys → Any P (xs ++ ys)
any_behind P [] ys h = h
any_behind P (x ∷ xs) ys h = inr (any_behind P xs ys h)

-- one of the first is one of all
pub any_all : {X : Type 0} (P : X → Type 0) (xs : List X) (n : ℕ) → Any P (take n xs) → Any P xs
any_all P [] zero h = h
any_all P [] (suc n) h = h
any_all P (x ∷ xs) zero h = absurd h
any_all P (x ∷ xs) (suc n) (inl p) = inl p
any_all P (x ∷ xs) (suc n) (inr h) = inr (any_all P xs n h)

-- true of the element at a place
pub any_at : {X : Type 0} (P : X → Type 0) (xs : List X) (k : ℕ) (x : X) → slice_get xs k ≡ Some x → P x → Any P xs
any_at P [] k x e p = absurd (cc)
any_at P (y ∷ ys) zero x e p = inl (subst P (sym (same_some y x e)) p)
any_at P (y ∷ ys) (suc k) x e p = inr (any_at P ys k x e p)

-- ---- each element of parts of a list

pub each_join : {X : Type 0} (P : X → Type 0) (xs ys : List X) → Each P xs → Each P ys → Each P (xs ++ ys)
each_join P [] ys h k = k
each_join P (x ∷ xs) ys h k = (h.0, each_join P xs ys h.1 k)

pub each_take : {X : Type 0} (P : X → Type 0) (n : ℕ) (xs : List X) → Each P xs → Each P (take n xs)
each_take P zero [] h = tt
each_take P (suc n) [] h = tt
each_take P zero (x ∷ xs) h = tt
each_take P (suc n) (x ∷ xs) h = (h.0, each_take P n xs h.1)

pub each_drop : {X : Type 0} (P : X → Type 0) (n : ℕ) (xs : List X) → Each P xs → Each P (drop n xs)
each_drop P zero [] h = tt
each_drop P (suc n) [] h = tt
each_drop P zero (x ∷ xs) h = h
each_drop P (suc n) (x ∷ xs) h = each_drop P n xs h.1

pub cons_head : {X : Type 0} (x y : X) (xs ys : List X) → x ∷ xs ≡ y ∷ ys → x ≡ y
cons_head x y xs ys e = cc

pub cons_tail : {X : Type 0} (x y : X) (xs ys : List X) → x ∷ xs ≡ y ∷ ys → xs ≡ ys
cons_tail x y xs ys e = cc

pub take_map : {X Y : Type 0} (f : X → Y) (n : ℕ) (xs : List X) → map f (take n xs) ≡ take n (map f xs)
take_map f zero [] = refl
take_map f (suc n) [] = refl
take_map f zero (x ∷ xs) = refl
take_map f (suc n) (x ∷ xs) = ap (λ ys. f x ∷ ys) (take_map f n xs)

pub drop_map : {X Y : Type 0} (f : X → Y) (n : ℕ) (xs : List X) → map f (drop n xs) ≡ drop n (map f xs)
drop_map f zero [] = refl
drop_map f (suc n) [] = refl
drop_map f zero (x ∷ xs) = refl
drop_map f (suc n) (x ∷ xs) = drop_map f n xs

-- the element at a place
pub at_place : {X : Type 0} (xs : List X) (k : ℕ) (d : X) → k < length xs → slice_get xs k ≡ Some (get_or xs k d)
at_place [] k d h = absurd (omega arith)
at_place (x ∷ xs) zero d h = refl
at_place (x ∷ xs) (suc k) d h = at_place xs k d (omega arith)

pub each_none : {X : Type 0} (P : X → Type 0) (xs : List X) → Each P (take 0 xs)
each_none P [] = tt
each_none P (x ∷ xs) = tt

-- ---- sums

fold_start : (a : ℕ) (xs : List ℕ) → fold ◌+◌ a xs ≡ a + fold ◌+◌ 0 xs
fold_start a [] = omega arith
fold_start a (x ∷ xs) =
    let one : fold ◌+◌ (a + x) xs ≡ a + x + fold ◌+◌ 0 xs = fold_start (a + x) xs in
    let two : fold ◌+◌ (0 + x) xs ≡ 0 + x + fold ◌+◌ 0 xs = fold_start (0 + x) xs in
    omega (arith, one, two)

pub sum_cons : (x : ℕ) (xs : List ℕ) → sum (x ∷ xs) ≡ x + sum xs
sum_cons x xs = let one : fold ◌+◌ (0 + x) xs ≡ 0 + x + fold ◌+◌ 0 xs = fold_start (0 + x) xs in omega (arith, one)

-- an error that is one thing is another
pub err_as : {T E : Type 0} (r : Result T E) (P Q : E → Type 0) → ((e : E) → P e → Q e) → IfErr r P → IfErr r Q
err_as (Ok x) P Q f h = tt
err_as (Err e) P Q f h = f e h

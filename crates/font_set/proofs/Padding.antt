-- Marks that are kept, beside those that are missing.
use Rattle.std.proofs.Common.{◌≡◌, ◌<◌, ◌≤◌, ◌+◌, ◌-◌, ◌++◌, ℕ, zero, suc, arith, List, [], ◌∷◌, Bool, true, false, length, slice_index_or, slice_set, replicate, append_assoc, refl, sym, ap, ◌∙◌, true≢false, nat_lt}
use Rattle.std.proofs.lemmas.List.{length-append, length-replicate, replicate-append-replicate, set-append_left, length-set}
use Rattle.std.proofs.lemmas.Bool.Decides.{nat_tests}
use Rattle.font_set.specs.Found.{IsMarked}
use Rattle.font_set.specs.Marks.{padded}

none_there : (n m : ℕ) → slice_index_or (replicate n false) m false ≡ false
none_there zero m = refl
none_there (suc n) zero = refl
none_there (suc n) (suc m) = none_there n m

read_before : (vs : List Bool) (n m : ℕ) → slice_index_or (vs ++ replicate n false) m false ≡ slice_index_or vs m false
read_before [] n m = none_there n m
read_before (v ∷ vs) n zero = refl
read_before (v ∷ vs) n (suc m) = read_before vs n m

-- a missing mark is false
pub padded_read : (vs : List Bool) (m : ℕ) → slice_index_or (padded vs) m false ≡ slice_index_or vs m false
unfolding padded
padded_read vs m = read_before vs (256000 - length vs) m

pub padded_none : (m : ℕ) → IsMarked (padded []) m → ⊥
padded_none m h = true≢false (sym h ∙ padded_read [] m)

pub padded_length : (vs : List Bool) → length vs ≤ 256000 → length (padded vs) ≡ 256000
unfolding padded
padded_length vs h =
    let n = length-replicate (256000 - length vs) false in
    omega (arith, length-append vs (replicate (256000 - length vs) false), n)

-- missing marks are made
pub padded_more : (vs : List Bool) (n : ℕ) → length vs + n ≤ 256000 → padded (vs ++ replicate n false) ≡ padded vs
unfolding padded
padded_more vs n h =
    let long : length (vs ++ replicate n false) ≡ length vs + n = length-append vs (replicate n false) ∙ ap (λ (k : ℕ). length vs + k) (length-replicate n false) in
    let rest : n + (256000 - length (vs ++ replicate n false)) ≡ 256000 - length vs = omega (arith, long, h) in
    append_assoc vs (replicate n false) (replicate (256000 - length (vs ++ replicate n false)) false)
    ∙ ap (λ (ws : List Bool). vs ++ ws) (replicate-append-replicate n (256000 - length (vs ++ replicate n false)) false)
    ∙ ap (λ (k : ℕ). vs ++ replicate k false) rest

-- a mark is set
pub padded_set : (vs : List Bool) (m : ℕ) → m < length vs → padded (slice_set vs m true) ≡ slice_set (padded vs) m true
unfolding padded
padded_set vs m h =
    ap (λ (k : ℕ). slice_set vs m true ++ replicate (256000 - k) false) (length-set vs m true)
    ∙ sym (set-append_left vs (replicate (256000 - length vs) false) m true h)

past : (vs : List Bool) (m : ℕ) → length vs ≤ m → slice_index_or vs m false ≡ false
past [] m h = refl
past (v ∷ vs) zero h = absurd (omega arith)
past (v ∷ vs) (suc m) h = past vs m (omega arith)

pub padded_past : (vs : List Bool) (m : ℕ) → length vs ≤ m → slice_index_or (padded vs) m false ≡ false
padded_past vs m h = padded_read vs m ∙ past vs m h

pub not_below : (m n : ℕ) → n ≤ m → nat_lt m n ≡ false
not_below m n h = grind (arith, nat_tests)

-- One part after another.
use Rattle.std.proofs.Common.{◌≡◌, ◌≢◌, ℕ, ◌+◌, ◌-◌, ◌<◌, ◌≤◌, refl, sym, ◌∙◌, ap, subst, arith, List, [], ◌∷◌, length, take, drop, slice_index, nat_lt, nat_eq, length-drop}
use Rattle.std.specs.Prelude.{None, Some}
use Rattle.std.proofs.lemmas.Bool.{cond-true, cond-false}
use Rattle.std.proofs.lemmas.Bool.Decides.{nat_tests}
use Rattle.std.proofs.lemmas.List.{take_rest}
use Rattle.pk_raster.specs.Parts.{head_len, content_len, extent, part_of, part_at}
use Rattle.pk_raster.proofs.Nybbles.{ahead, drop_drop}

part_whole : (flag : ℕ) (args : List ℕ) → flag ≢ 245 → flag ≤ 246 → extent flag args ≤ length args → part_at (flag ∷ args) ≡ Some (part_of flag (take (extent flag args) args), drop (extent flag args) args)
unfolding part_at
part_whole flag args e l h =
    cond-false (nat_eq flag 245) _ _ (grind (arith, nat_tests))
    ∙ cond-false (nat_lt 246 flag) _ _ (grind (arith, nat_tests))
    ∙ cond-false (nat_lt (length args) (extent flag args)) _ _ (grind (arith, nat_tests))

part_undefined : (flag : ℕ) (args : List ℕ) → 246 < flag → part_at (flag ∷ args) ≡ None
unfolding part_at
part_undefined flag args h = cond-false (nat_eq flag 245) _ _ (grind (arith, nat_tests)) ∙ cond-true (nat_lt 246 flag) _ _ (grind (arith, nat_tests))

part_short : (flag : ℕ) (args : List ℕ) → flag ≢ 245 → flag ≤ 246 → length args < extent flag args → part_at (flag ∷ args) ≡ None
unfolding part_at
part_short flag args e l h =
    cond-false (nat_eq flag 245) _ _ (grind (arith, nat_tests))
    ∙ cond-false (nat_lt 246 flag) _ _ (grind (arith, nat_tests))
    ∙ cond-true (nat_lt (length args) (extent flag args)) _ _ (grind (arith, nat_tests))

-- the body's end begins no part
pub end_is_none : (xs : List ℕ) → part_at (245 ∷ xs) ≡ None
unfolding part_at
end_is_none xs = refl

pub nil_is_none : part_at [] ≡ None
unfolding part_at
nil_is_none = refl

pub undefined_at : (bytes : List ℕ) (at : ℕ) → at < length bytes → 246 < slice_index bytes at → part_at (drop at bytes) ≡ None
undefined_at bytes at h u = rw (ahead bytes at h) (part_undefined (slice_index bytes at) (drop (at + 1) bytes) u)

pub short_at : (bytes : List ℕ) (at : ℕ) → at < length bytes → slice_index bytes at ≢ 245 → slice_index bytes at ≤ 246 → length bytes < at + 1 + extent (slice_index bytes at) (drop (at + 1) bytes) → part_at (drop at bytes) ≡ None
short_at bytes at h e l s = rw (ahead bytes at h) (part_short (slice_index bytes at) (drop (at + 1) bytes) e l (omega (arith, length-drop (at + 1) bytes, s)))

-- what the reader of a part has found
pub found_at : (bytes : List ℕ) (at head more : ℕ) → at < length bytes → slice_index bytes at ≢ 245 → slice_index bytes at ≤ 246 →
    head ≡ head_len (slice_index bytes at) → more ≡ content_len (slice_index bytes at) (take (length bytes - (at + 1)) (drop (at + 1) bytes)) →
    head + more ≤ length (take (length bytes - (at + 1)) (drop (at + 1) bytes)) →
    (part_at (drop at bytes) ≡ Some (part_of (slice_index bytes at) (take (head + more) (take (length bytes - (at + 1)) (drop (at + 1) bytes))), drop (at + 1 + (head + more)) bytes)) × (at + 1 + (head + more) ≤ length bytes)
found_at bytes at head more h e l hs cs room =
    let flag = slice_index bytes at in
    let args = drop (at + 1) bytes in
    let rest : take (length bytes - (at + 1)) args ≡ args = take_rest bytes (at + 1) in
    let c : more ≡ content_len flag args = cs ∙ ap (content_len flag) rest in
    let len : extent flag args ≡ head + more = omega (arith, hs, c) in
    let r : head + more ≤ length args = subst (λ (xs : List ℕ). head + more ≤ length xs) rest room in
    let P : ℕ → Type 0 = λ n. part_at (drop at bytes) ≡ Some (part_of flag (take n args), drop n args) in
    let w = subst P len (rw (ahead bytes at h) (part_whole flag args e l (omega (arith, len, r)))) in (
      w ∙ ap (λ (xs : List ℕ). Some (part_of flag (take (head + more) xs), drop (head + more) args)) (sym rest)
          ∙ ap (λ (xs : List ℕ). Some (part_of flag (take (head + more) (take (length bytes - (at + 1)) args)), xs)) (drop_drop (at + 1) (head + more) bytes),
      omega (arith, r, length-drop (at + 1) bytes, h),
    )

-- That a copy defines real fonts alone.
use Rattle.std.proofs.Common.{◌≡◌, ◌+◌, ℕ, Bool, true, false, List, [], ◌∷◌, ◌++◌, length, take, Option, Some, refl, sym, ap, subst, ◌∙◌, arith, append_assoc, length-append}
use Rattle.std.specs.Prelude.{slice_get}
use Rattle.std.specs.List.{All, AllByRecursion}
use Rattle.std.proofs.lemmas.List.Elements.{All-from_recursion}
use Rattle.dvi_ops.specs.Command.{Definition}
use Rattle.dvi_ops.specs.Shortest.{shortest_whole}
use Rattle.font_set.specs.Key.{Key}
use Rattle.font_set.specs.Fonts.{Entry, FontSet, entry_key, key_at, state_at, state_in}
use Rattle.dvicopy_out.specs.AsDocument.{post_command, post_place}
use Rattle.dvicopy_out.specs.Numbered.{definition, is_real, number_of, one_where, reals_in}
use Rattle.dvicopy_out.specs.RealFonts.{CopyDefinesReal, IsReal}
use Rattle.dvicopy_out.proofs.Documented.{defs_are, defs_from, defs_put}

reals_both : (xs ys : List Entry) → reals_in (xs ++ ys) ≡ reals_in xs + reals_in ys
reals_both [] ys = omega arith
reals_both (x ∷ xs) ys = let rest = reals_both xs ys in omega (arith, rest)

get_seam : (xs : List Entry) (e : Entry) (ys : List Entry) → slice_get (xs ++ e ∷ ys) (length xs) ≡ Some e
get_seam [] e ys = refl
get_seam (x ∷ xs) e ys = get_seam xs e ys

take_seam : (xs ys : List Entry) → take (length xs) (xs ++ ys) ≡ xs
take_seam [] ys = refl
take_seam (x ∷ xs) ys = ap (λ (l : List Entry). x ∷ l) (take_seam xs ys)

put_real : (P : Definition → Type 0) (n : ℕ) (key : Key) (b : Bool) (ds : List Definition) → (b ≡ true → P (definition n key)) → AllByRecursion P ds → AllByRecursion P (defs_put n key b ds)
put_real P n key true ds p h = (p refl, h)
put_real P n key false ds p h = h

here : (set : FontSet) (xs : List Entry) (e : Entry) (ys : List Entry) → xs ++ e ∷ ys ≡ set.fonts → is_real e.state ≡ true → IsReal set (definition (reals_in xs) e.key)
unfolding key_at state_at
here set xs e ys whole real =
    let found : slice_get set.fonts (length xs) ≡ Some e = ap (λ (l : List Entry). slice_get l (length xs)) (sym whole) ∙ get_seam xs e ys in
    let long = ap (λ (l : List Entry). length l) whole in
    let number : number_of set (length xs) ≡ reals_in xs = ap (λ (l : List Entry). reals_in (take (length xs) l)) (sym whole) ∙ ap reals_in (take_seam xs (e ∷ ys)) in (
      length xs,
      omega (arith, long, length-append xs (e ∷ ys)),
      ap (λ (o : Option Entry). is_real (state_in o)) found ∙ real,
      λ i. definition (number i) (entry_key (found i)),
    )

reals_each : (set : FontSet) (xs es : List Entry) → xs ++ es ≡ set.fonts → AllByRecursion (IsReal set) (defs_from (reals_in xs) es)
reals_each set xs [] whole = tt
reals_each set xs (e ∷ es) whole =
    let one : reals_in (xs ++ e ∷ []) ≡ reals_in xs + one_where (is_real e.state) = let both = reals_both xs (e ∷ []) in omega (arith, both) in
    let rest : AllByRecursion (IsReal set) (defs_from (reals_in xs + one_where (is_real e.state)) es) =
    subst (λ (n : ℕ). AllByRecursion (IsReal set) (defs_from n es)) one (reals_each set (xs ++ e ∷ []) es (append_assoc xs (e ∷ []) es ∙ whole)) in
    put_real (IsReal set) (reals_in xs) e.key (is_real e.state) (defs_from (reals_in xs + one_where (is_real e.state)) es) (here set xs e es whole) rest

pub copy_defines_real : CopyDefinesReal
copy_defines_real w ps =
    let behind : ℕ = post_place w ps + length (shortest_whole (post_command w ps)) in
    subst (All (IsReal w.set)) (sym (defs_are behind 0 w.set.fonts)) (All-from_recursion (IsReal w.set) (defs_from 0 w.set.fonts) (reals_each w.set [] w.set.fonts refl))

-- What growing the store, and changing another place of it, leave.
use Rattle.std.proofs.Common.{◌≡◌, refl, ap, sym, ◌∙◌, ℕ, zero, suc, ◌<◌, ◌≤◌, List, [], ◌∷◌, ◌++◌, length, Some, None, arith, true}
use Rattle.std.specs.Prelude.{codes, slice_get, slice_set, nat_lt}
use Rattle.std.proofs.lemmas.Bool.Decides.{nat_tests}
use Rattle.ps_subset.specs.State.{Object, Array, Dictionary, Entry, Cell, Elements, Entries, entry, value_in}
use Rattle.ps_subset.specs.Operators.{Operator}
use Rattle.ps_subset.specs.StoreEffects.{all_below, all_old, is_old}
use Rattle.ps_subset.specs.Run.{meaning_in, meaning_by, operator_in, table}
use Rattle.ps_subset.specs.Conditions.{HasProlog, names}
use Rattle.ps_subset.specs.Fonts.{Letter}
use Rattle.ps_subset.specs.FontConditions.{IsFont, HoldsLetter, AllHeld}
use Rattle.ps_subset.proofs.Numbers.{and_left, and_right}
use Rattle.ps_subset.proofs.Steps.{nat_lt_yes}
use Rattle.ps_subset.proofs.Dictionaries.{IsFree, off_name, off_operator, slice_get-set_other}

-- places of a list
pub slice_get-grown : {A : Type 0} (xs ys : List A) (i : ℕ) (x : A) → slice_get xs i ≡ Some x → slice_get (xs ++ ys) i ≡ Some x
slice_get-grown [] ys i x h = absurd (grind arith)
slice_get-grown (a ∷ xs) ys zero x h = h
slice_get-grown (a ∷ xs) ys (suc i) x h = slice_get-grown xs ys i x h

pub slice_get-before : {A : Type 0} (xs ys : List A) (i : ℕ) → i < length xs → slice_get (xs ++ ys) i ≡ slice_get xs i
slice_get-before [] ys i h = absurd (omega arith)
slice_get-before (a ∷ xs) ys zero h = refl
slice_get-before (a ∷ xs) ys (suc i) h = slice_get-before xs ys i (omega arith)

pub slice_get-at : {A : Type 0} (xs : List A) (y : A) (ys : List A) → slice_get (xs ++ y ∷ ys) (length xs) ≡ Some y
slice_get-at [] y ys = refl
slice_get-at (a ∷ xs) y ys = slice_get-at xs y ys

pub slice_get-next : {A : Type 0} (xs : List A) (y z : A) (ys : List A) → slice_get (xs ++ y ∷ z ∷ ys) (suc (length xs)) ≡ Some z
slice_get-next [] y z ys = refl
slice_get-next (a ∷ xs) y z ys = slice_get-next xs y z ys

pub slice_set-at : {A : Type 0} (xs : List A) (y z : A) (ys : List A) → slice_set (xs ++ y ∷ ys) (length xs) z ≡ xs ++ z ∷ ys
slice_set-at [] y z ys = refl
slice_set-at (a ∷ xs) y z ys = ap (λ l. a ∷ l) (slice_set-at xs y z ys)

pub slice_set-next : {A : Type 0} (xs : List A) (y z w : A) (ys : List A) → slice_set (xs ++ y ∷ z ∷ ys) (suc (length xs)) w ≡ xs ++ y ∷ w ∷ ys
slice_set-next [] y z w ys = refl
slice_set-next (a ∷ xs) y z w ys = ap (λ l. a ∷ l) (slice_set-next xs y z w ys)

pub slice_set-before : {A : Type 0} (xs ys : List A) (i : ℕ) (z : A) → i < length xs → slice_set (xs ++ ys) i z ≡ slice_set xs i z ++ ys
slice_set-before [] ys i z h = absurd (omega arith)
slice_set-before (a ∷ xs) ys zero z h = refl
slice_set-before (a ∷ xs) ys (suc i) z h = ap (λ l. a ∷ l) (slice_set-before xs ys i z (omega arith))

pub slice_get-some : {A : Type 0} (xs : List A) (i : ℕ) (x : A) → slice_get xs i ≡ Some x → i < length xs
slice_get-some [] i x h = absurd (grind arith)
slice_get-some (a ∷ xs) zero x h = omega arith
slice_get-some (a ∷ xs) (suc i) x h = let less = slice_get-some xs i x h in omega (arith, less)

-- below a limit, two stores are the same
pub record Keeps (limit : ℕ) (store store' : List Cell) : Type 0 where
  pub by : (i : ℕ) → i < limit → slice_get store' i ≡ slice_get store i

pub Keeps-grown : (store more : List Cell) → Keeps (length store) store (store ++ more)
Keeps-grown store more = record { by = λ i less. slice_get-before store more i less }

pub below_first : (limit d : ℕ) (ds : List ℕ) → all_below limit (d ∷ ds) ≡ true → d < limit
below_first limit d ds h = let e = and_left (nat_lt d limit) (all_below limit ds) h in grind (arith, nat_tests)

pub below_rest : (limit d : ℕ) (ds : List ℕ) → all_below limit (d ∷ ds) ≡ true → all_below limit ds ≡ true
below_rest limit d ds h = and_right (nat_lt d limit) (all_below limit ds) h

pub below_more : (limit more : ℕ) (ds : List ℕ) → limit ≤ more → all_below limit ds ≡ true → all_below more ds ≡ true
below_more limit more [] le h = refl
below_more limit more (d ∷ ds) le h =
    let first = below_first limit d ds h in
    let less : d < more = omega (arith, first) in
    rw (nat_lt_yes d more less, below_more limit more ds le (below_rest limit d ds h)) refl

pub old_more : (limit more : ℕ) (xs : List Object) → limit ≤ more → all_old limit xs ≡ true → all_old more xs ≡ true
old_more limit more [] le h = refl
old_more limit more (x ∷ xs) le h = rw (one x (and_left (is_old limit x) (all_old limit xs) h), old_more limit more xs le (and_right (is_old limit x) (all_old limit xs) h)) refl
  where
    less : (a : ℕ) → nat_lt a limit ≡ true → nat_lt a more ≡ true
    less a e = let l : a < limit = grind (arith, nat_tests) in nat_lt_yes a more (omega (arith, l))

    one : (x : Object) → is_old limit x ≡ true → is_old more x ≡ true
    one (Array a) e = less a e
    one (Dictionary a) e = less a e
    one _ e = refl

module _ {limit : ℕ} {store store' : List Cell} (s : Keeps limit store store') where
  pub value_keeps : (ds : List ℕ) (name : List ℕ) → all_below limit ds ≡ true → value_in store' ds name ≡ value_in store ds name
  unfolding value_in
  value_keeps [] name h = refl
  value_keeps (d ∷ ds) name h = rw (s.by d (below_first limit d ds h), value_keeps ds name (below_rest limit d ds h)) refl

  pub meaning_keeps : (ds : List ℕ) (name : List ℕ) → all_below limit ds ≡ true → meaning_in store' ds name ≡ meaning_in store ds name
  unfolding meaning_in
  meaning_keeps ds name h = ap (λ o. meaning_by o name) (value_keeps ds name h)

  pub HasProlog-keeps : {matrix : ℕ} {ds : List ℕ} → all_below limit ds ≡ true → matrix < limit → HasProlog matrix store ds → HasProlog matrix store' ds
  HasProlog-keeps {matrix} {ds} h less k = record {
    names_stand = λ name x e. meaning_keeps ds name h ∙ k.names_stand name x e;
    operators_stand = λ name op e. meaning_keeps ds name h ∙ k.operators_stand name op e;
    truth = meaning_keeps ds (codes "true") h ∙ k.truth;
    matrix_stands = meaning_keeps ds (codes "RM") h ∙ k.matrix_stands;
    matrix_is = s.by matrix less ∙ k.matrix_is;
  }

-- A dictionary of free keys on top leaves the prolog's names.
abbrev pub AllFree : List Entry → Type 0
AllFree [] = Unit {0}
AllFree (e ∷ es) = IsFree e.key × AllFree es

not_name : (es : List Entry) → AllFree es → (name : List ℕ) (x : Object) → entry name names ≡ Some x → entry name es ≡ None
unfolding entry
not_name [] all name x h = refl
not_name (e ∷ es) all name x h = rw (off_name e.key name x (all.0).no_name h) (not_name es all.1 name x h)

not_operator : (es : List Entry) → AllFree es → (name : List ℕ) (x : Operator) → operator_in table name ≡ Some x → entry name es ≡ None
unfolding entry
not_operator [] all name x h = refl
not_operator (e ∷ es) all name x h = rw (off_operator e.key name x (all.0).no_operator h) (not_operator es all.1 name x h)

not_truth : (es : List Entry) → AllFree es → entry (codes "true") es ≡ None
unfolding entry
not_truth [] all = refl
not_truth (e ∷ es) all = rw (all.0).no_truth (not_truth es all.1)

not_matrix : (es : List Entry) → AllFree es → entry (codes "RM") es ≡ None
unfolding entry
not_matrix [] all = refl
not_matrix (e ∷ es) all = rw (all.0).no_matrix (not_matrix es all.1)

module _ (store : List Cell) (d room : ℕ) (es : List Entry) (here : slice_get store d ≡ Some (Entries room es)) where
  pub meaning_under : (ds : List ℕ) (name : List ℕ) → entry name es ≡ None → meaning_in store (d ∷ ds) name ≡ meaning_in store ds name
  unfolding meaning_in value_in
  meaning_under ds name h = rw (here, h) refl

  pub HasProlog-under : {matrix : ℕ} {ds : List ℕ} → AllFree es → HasProlog matrix store ds → HasProlog matrix store (d ∷ ds)
  HasProlog-under {matrix} {ds} all k = record {
    names_stand = λ name x e. meaning_under ds name (not_name es all name x e) ∙ k.names_stand name x e;
    operators_stand = λ name op e. meaning_under ds name (not_operator es all name op e) ∙ k.operators_stand name op e;
    truth = meaning_under ds (codes "true") (not_truth es all) ∙ k.truth;
    matrix_stands = meaning_under ds (codes "RM") (not_matrix es all) ∙ k.matrix_stands;
    matrix_is = k.matrix_is;
  }

-- What stands away from one place stays.
pub record Onward (d : ℕ) (store store' : List Cell) : Type 0 where
  pub by : (i : ℕ) (c : Cell) → (d ≡ i → ⊥) → slice_get store i ≡ Some c → slice_get store' i ≡ Some c

pub Onward-grown : (d : ℕ) (store more : List Cell) → Onward d store (store ++ more)
Onward-grown d store more = record { by = λ i c off h. slice_get-grown store more i c h }

pub Onward-set : (d : ℕ) (store : List Cell) (c : Cell) → Onward d store (slice_set store d c)
Onward-set d store c = record { by = λ i e off h. slice_get-set_other store d i c off ∙ h }

pub Onward-then : {d : ℕ} {s1 s2 s3 : List Cell} → Onward d s1 s2 → Onward d s2 s3 → Onward d s1 s3
Onward-then a b = record { by = λ i c off h. b.by i c off (a.by i c off h) }

-- an array's place is no dictionary's
pub array_apart : {d room : ℕ} {es : List Entry} {xs : List Object} (store : List Cell) (i : ℕ) → slice_get store d ≡ Some (Entries room es) → slice_get store i ≡ Some (Elements xs) → d ≡ i → ⊥
array_apart {room = room} {es} {xs} store i here there e = clash (sym here ∙ ap (slice_get store) e ∙ there)
  where
    clash : Some (Entries room es) ≡ Some (Elements xs) → ⊥
    clash q = absurd (grind arith)

module _ {d room : ℕ} {es : List Entry} {store store' : List Cell} (on : Onward d store store') (here : slice_get store d ≡ Some (Entries room es)) where
  pub HoldsLetter-onward : {glyphs : ℕ} {l : Letter} → HoldsLetter glyphs l store → HoldsLetter glyphs l store'
  HoldsLetter-onward {glyphs} h = record {
    table = h.table;
    place = h.place;
    matrix = h.matrix;
    table_is = on.by glyphs (Elements h.table) (array_apart store glyphs here h.table_is) h.table_is;
    at = h.at;
    is = on.by h.place _ (array_apart store h.place here h.is) h.is;
    matrix_is = on.by h.matrix _ (array_apart store h.matrix here h.matrix_is) h.matrix_is;
  }

  pub AllHeld-onward : (glyphs : ℕ) (ls : List Letter) → AllHeld glyphs ls store → AllHeld glyphs ls store'
  AllHeld-onward glyphs [] all = tt
  AllHeld-onward glyphs (l ∷ ls) all = (HoldsLetter-onward all.0, all.1, AllHeld-onward glyphs ls all.2)

  pub IsFont-onward : {key : List ℕ} {f glyphs : ℕ} → (d ≡ f → ⊥) → IsFont key f glyphs store → IsFont key f glyphs store'
  IsFont-onward {f = f} off h = record {
    matrix = h.matrix;
    room = h.room;
    entries = h.entries;
    dictionary_is = on.by f _ off h.dictionary_is;
    type_is = h.type_is;
    matrix_stands = h.matrix_stands;
    matrix_is = on.by h.matrix _ (array_apart store h.matrix here h.matrix_is) h.matrix_is;
    key_is = h.key_is;
    build_is = h.build_is;
    glyphs_are = h.glyphs_are;
  }

-- What bytes spell is what is read from them.
use Rattle.std.proofs.Common.{◌≡◌, ◌≤◌, ◌<◌, ◌+◌, ◌⊎◌, inl, inr, ℕ, zero, suc, List, [], ◌∷◌, ◌++◌, length, take, drop, Option, Some, None, Bool, true, false, refl, sym, ap, subst, ◌∙◌, arith, length-append}
use Rattle.std.specs.Prelude.{◌&&◌, nat_lt, nat_le}
use Rattle.std.proofs.lemmas.Bool.Decides.{nat_tests}
use Rattle.std.proofs.lemmas.List.{take_at, drop_at, take-append-drop, length-take-le}
use Rattle.dvi_ops.specs.Command.{Command}
use Rattle.dvi_ops.specs.Spelling.{extent, meaning, Spell}
use Rattle.dvi_ops.specs.Placed.{Placed, Lexes}
use Rattle.dvi_ops.specs.Reading.{before, commands_from, commands_in}
use Rattle.dvi_ops.specs.Laws.{OneReading}
use Rattle.dvi_ops.proofs.Texts.{extent-append}

-- the extent is known from the operands alone
same_extent : (op : ℕ) (args rest : List ℕ) → length args ≡ extent op args → extent op (args ++ rest) ≡ length args
same_extent op args rest e = extent-append op args rest (omega (arith, e)) ∙ sym e

passes : (op n m : ℕ) → op < 250 → n ≤ m → (nat_lt op 250 && nat_le n m) ≡ true
passes op n m a b = grind (arith, nat_tests)

-- one command more
read_one : (n at op : ℕ) (args rest : List ℕ) (c : Command) (cs : List Placed) → Spell c (op ∷ args) → commands_from n (at + 1 + length args) rest ≡ Some cs → commands_from (suc n) at (op ∷ (args ++ rest)) ≡ Some (record { place = at; command = c } ∷ cs)
unfolding commands_from
read_one n at op args rest c cs s e =
    let w : extent op (args ++ rest) ≡ length args = same_extent op args rest s.1 in
    let t : (nat_lt op 250 && nat_le (extent op (args ++ rest)) (length (args ++ rest))) ≡ true = passes op (extent op (args ++ rest)) (length (args ++ rest)) s.0 (omega (arith, w, length-append args rest)) in
    rw (t, w) (rw (take_at args rest (length args) refl, drop_at args rest (length args) refl, s.2, e) refl)

reading : (cs : List Placed) (n at : ℕ) (bytes : List ℕ) → length bytes ≤ n → Lexes at bytes cs → commands_from n at bytes ≡ Some cs
unfolding commands_from
reading [] zero at bytes h l = rw l refl
reading [] (suc n) at bytes h l = rw l refl
reading (c ∷ cs) n at bytes h l = by n l.1 l.3 l.4 h l.5 (λ m at rest k j. reading cs m at rest k j)
  where
    by : (n : ℕ) (front : List ℕ) → bytes ≡ front ++ l.2 → Spell c.command front → length bytes ≤ n → Lexes (at + length front) l.2 cs → ((m at : ℕ) (rest : List ℕ) → length rest ≤ m → Lexes at rest cs → commands_from m at rest ≡ Some cs) → commands_from n at bytes ≡ Some (c ∷ cs)
    by n [] e s k m f = absurd s
    by zero (op ∷ args) e s k m f = absurd (omega (arith, ap length e))
    by (suc n) (op ∷ args) e s k m f =
        let place : c ≡ record { place = at; command = c.command } = ap (λ (x : ℕ). record { place = x; command = c.command }) l.0 in
        let more : Lexes (at + 1 + length args) l.2 cs = subst (λ (x : ℕ). Lexes x l.2 cs) (omega arith) m in
        let rest = f n (at + 1 + length args) l.2 (omega (arith, ap length e, length-append args l.2)) more in
        rw e (read_one n at op args l.2 c.command cs s rest ∙ ap (λ (x : Placed). Some (x ∷ cs)) (sym place))

-- what stands before others
behind_first : (at : ℕ) (c : Command) (o : Option (List Placed)) (cs : List Placed) → before at c o ≡ Some cs → (ds : List Placed) × (o ≡ Some ds) × (cs ≡ record { place = at; command = c } ∷ ds)
behind_first at c None cs e = absurd cc
behind_first at c (Some ds) cs e = (ds, refl, (let same : cs ≡ record { place = at; command = c } ∷ ds = cc in same))

tested : (op n m : ℕ) → ((nat_lt op 250 && nat_le n m) ≡ true) ⊎ ((nat_lt op 250 && nat_le n m) ≡ false)
tested op n m = either (nat_lt op 250 && nat_le n m)
  where
    either : (b : Bool) → (b ≡ true) ⊎ (b ≡ false)
    either true = inl refl
    either false = inr refl

within : (op n m : ℕ) → (nat_lt op 250 && nat_le n m) ≡ true → (op < 250) × (n ≤ m)
within op n m e = (grind (arith, nat_tests, e), grind (arith, nat_tests, e))

spelled_by : (cs : List Placed) (n at : ℕ) (bytes : List ℕ) → commands_from n at bytes ≡ Some cs → Lexes at bytes cs
unfolding commands_from
spelled_by cs zero at [] e = let none : [] ≡ cs = cc in subst (λ (ds : List Placed). Lexes at [] ds) none refl
spelled_by cs zero at (op ∷ args) e = absurd cc
spelled_by cs (suc n) at [] e = let none : [] ≡ cs = cc in subst (λ (ds : List Placed). Lexes at [] ds) none refl
spelled_by cs (suc n) at (op ∷ args) e =
    elim (tested op (extent op args) (length args)) [
      | inr t ↦ absurd (let f = rw t at e in cc)
      | inl t ↦
          let long = extent op args in
          let fits = within op long (length args) t in
          let r = behind_first at (meaning op (take long args)) (commands_from n (at + 1 + long) (drop long args)) cs (rw t at e) in
          let len : length (take long args) ≡ long = length-take-le long args fits.1 in
          let same : long ≡ extent op (take long args) = ap (extent op) (sym (take-append-drop long args)) ∙ extent-append op (take long args) (drop long args) (omega (arith, len)) in
          let next : at + 1 + long ≡ at + length (op ∷ take long args) = omega (arith, len) in
          let more : Lexes (at + length (op ∷ take long args)) (drop long args) r.0 = subst (λ (k : ℕ). Lexes k (drop long args) r.0) next (spelled_by r.0 n (at + 1 + long) (drop long args) r.1) in
          let whole : op ∷ args ≡ (op ∷ take long args) ++ drop long args = ap (λ (xs : List ℕ). op ∷ xs) (sym (take-append-drop long args)) in
          subst (λ (ds : List Placed). Lexes at (op ∷ args) ds) (sym r.2) (refl, op ∷ take long args, drop long args, whole, (fits.0, len ∙ same, refl), more)
    ]

pub one_reading : OneReading
unfolding commands_in
one_reading at bytes cs = ((λ l. reading cs (length bytes) at bytes (omega arith) l), λ e. spelled_by cs (length bytes) at bytes e)

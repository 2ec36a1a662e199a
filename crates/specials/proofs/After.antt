-- What follows a key.
use Rattle.std.proofs.Common.{◌≡◌, ℕ, List, [], ◌∷◌, ◌++◌, Option, Some, None, Bool, true, false, nat_eq, refl, eqb-true, eq-eqb, if◌then◌else◌, MatchOption}
use Rattle.std.specs.Borrow.{Bor}
use Rattle.specials.specs.Special.{after}

after_itself : (key rest : List ℕ) → after key (key ++ rest) ≡ Some rest
after_itself [] rest = refl
after_itself (k ∷ key) rest = rw (eq-eqb k k refl) (after_itself key rest)

after_is : (key text rest : List ℕ) → after key text ≡ Some rest → text ≡ key ++ rest
after_is [] text rest h = cc
after_is (k ∷ key) [] rest h = absurd (cc)
after_is (k ∷ key) (c ∷ text) rest h = by (nat_eq k c) refl h (after_is key text rest) where
  by : (b : Bool) → nat_eq k c ≡ b → (if b then after key text else None) ≡ Some rest → (after key text ≡ Some rest → text ≡ key ++ rest)
      → c ∷ text ≡ k ∷ (key ++ rest)
  by true e q tail = let same : k ≡ c = eqb-true k c e in let r = tail q in cc
  by false e q tail = absurd (cc)

-- where the text begins with the key, and where it doesn't
pub after_found : (key text rest : List ℕ) → text ≡ key ++ rest → after key text ≡ Some rest
after_found key text rest e = rw e (after_itself key rest)

pub after_missing : (key text : List ℕ) → ((rest : List ℕ) → text ≡ key ++ rest → ⊥) → after key text ≡ None
after_missing key text h = by (after key text) refl where
  by : (r : Option (List ℕ)) → after key text ≡ r → after key text ≡ None
  by None e = e
  by (Some rest) e = absurd (h rest (after_is key text rest e))

pub after_by : (key text : List ℕ) (r : Option (Bor (List ℕ))) → MatchOption r ((rest : List ℕ) → text ≡ key ++ rest → ⊥) (λ x. text ≡ key ++ x.now)
    → MatchOption r (after key text ≡ None) (λ rest. after key text ≡ Some rest.now)
after_by key text None h = after_missing key text h
after_by key text (Some rest) h = after_found key text rest.now h

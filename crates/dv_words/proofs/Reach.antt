-- How far the windows reach that have begun.
use Rattle.std.proofs.Common.{◌≡◌, ◌<◌, ◌≤◌, ◌+◌, ℕ, List, [], ◌∷◌, ◌++◌, length, Bool, true, false, nat_le, nat_lt, nat_eq, max, ◌&&◌, ◌||◌, if◌then◌else◌, arith, refl, sym, ap, ◌∙◌, leb-true, ltb-true, leb-false, ltb-false, eqb-true, lt-ltb, le-ltb, replicate, set, get_or}
use Rattle.std.proofs.lemmas.Bool.{eqb-false}
use Rattle.std.proofs.lemmas.List.{length-replicate, get_or-replicate, get_or-set_other}
use Rattle.std.proofs.lemmas.Grind.{get_or-set_at}
use Rattle.std.proofs.Math.ListN.{length-set}
use Rattle.std.specs.List.{list_any}
use Rattle.std.proofs.lemmas.Bool.Decides.{nat_tests}
use Rattle.dv_words.specs.Selection.{covers}
use Rattle.dv_words.specs.Repeated.{far_at, IsFar}
use Rattle.dv_words.specs.declared.spans.Span.{Span}

-- the furthest stop of the windows that begin below a place
abbrev pub far_below : List Span → ℕ → ℕ
far_below [] place = 0
far_below (s ∷ ss) place = max (if nat_lt s.start place then s.stop else 0) (far_below ss place)

pub far_below-zero : (ss : List Span) → far_below ss 0 ≡ 0
far_below-zero [] = refl
far_below-zero (s ∷ ss) = let rest = far_below-zero ss in grind (arith, nat_tests, rest)

pub far_below-suc : (ss : List Span) (place : ℕ) → far_below ss (place + 1) ≡ max (far_below ss place) (far_at ss place)
far_below-suc [] place = refl
far_below-suc (s ∷ ss) place = by (nat_lt s.start (place + 1)) (nat_lt s.start place) (nat_eq s.start place) refl refl refl (far_below-suc ss place) where
  by : (a b c : Bool) → nat_lt s.start (place + 1) ≡ a → nat_lt s.start place ≡ b → nat_eq s.start place ≡ c
      → far_below ss (place + 1) ≡ max (far_below ss place) (far_at ss place)
      → max (if nat_lt s.start (place + 1) then s.stop else 0) (far_below ss (place + 1))
      ≡ max (max (if nat_lt s.start place then s.stop else 0) (far_below ss place)) (max (if nat_eq s.start place then s.stop else 0) (far_at ss place))
  by true true c p q r h = rw (p, q) (by_c c r h) where
    by_c : (c : Bool) → nat_eq s.start place ≡ c → far_below ss (place + 1) ≡ max (far_below ss place) (far_at ss place)
        → max s.stop (far_below ss (place + 1)) ≡ max (max s.stop (far_below ss place)) (max (if nat_eq s.start place then s.stop else 0) (far_at ss place))
    by_c true e h = rw e (omega arith)
    by_c false e h = rw e (omega arith)
  by true false true p q r h = rw (p, q, r) (omega arith)
  by true false false p q r h = absurd (apart (ltb-true s.start (place + 1) p) (ltb-false s.start place q) (eqb-false s.start place r)) where
    apart : s.start < place + 1 → place ≤ s.start → (s.start ≡ place → ⊥) → ⊥
    apart x y z = z (omega arith)
  by false true c p q r h = let x = ltb-false s.start (place + 1) p in let y = ltb-true s.start place q in absurd (omega arith)
  by false false true p q r h = let x = ltb-false s.start (place + 1) p in let y = eqb-true s.start place r in absurd (omega arith)
  by false false false p q r h = rw (p, q, r) (omega arith)

-- a place is in a window exactly where it is below the furthest stop of those that begin at it or below
cover_one : (start stop p far : ℕ) → ((nat_le start p && nat_lt p stop) || nat_lt p far) ≡ nat_lt p (max (if nat_lt start (p + 1) then stop else 0) far)
cover_one start stop p far = by (nat_le start p) (nat_lt p stop) (nat_lt p far) refl refl refl where
  by : (a b c : Bool) → nat_le start p ≡ a → nat_lt p stop ≡ b → nat_lt p far ≡ c
      → ((nat_le start p && nat_lt p stop) || nat_lt p far) ≡ nat_lt p (max (if nat_lt start (p + 1) then stop else 0) far)
  by true true c x y z =
      let l = leb-true start p x in let m = ltb-true p stop y in
      rw (x, y, lt-ltb start (p + 1) (omega arith)) (sym (lt-ltb p (max stop far) (omega arith)))
  by true false true x y z =
      let l = leb-true start p x in let m = ltb-true p far z in
      rw (x, y, z, lt-ltb start (p + 1) (omega arith)) (sym (lt-ltb p (max stop far) (omega arith)))
  by true false false x y z =
      let l = leb-true start p x in let m = ltb-false p stop y in let n = ltb-false p far z in
      rw (x, y, z, lt-ltb start (p + 1) (omega arith)) (sym (le-ltb p (max stop far) (omega arith)))
  by false b true x y z =
      let l = leb-false start p x in let m = ltb-true p far z in
      rw (x, z, le-ltb start (p + 1) (omega arith)) (sym (lt-ltb p (max 0 far) (omega arith)))
  by false b false x y z =
      let l = leb-false start p x in let m = ltb-false p far z in
      rw (x, z, le-ltb start (p + 1) (omega arith)) (sym (le-ltb p (max 0 far) (omega arith)))

pub covered : (ss : List Span) (place : ℕ) → list_any (covers place) ss ≡ nat_lt place (far_below ss (place + 1))
covered [] place = sym (le-ltb place 0 (omega arith))
covered (s ∷ ss) place = rw (covered ss place) (cover_one s.start s.stop place (far_below ss (place + 1)))

pub far_at-push : (ss : List Span) (s : Span) (place : ℕ) → far_at (ss ++ s ∷ []) place ≡ max (far_at ss place) (if nat_eq s.start place then s.stop else 0)
far_at-push [] s place = omega arith
far_at-push (x ∷ xs) s place = let rest = far_at-push xs s place in omega arith

-- the table of furthest stops, one window more
pub far_none : (count : ℕ) (far : List ℕ) → far ≡ replicate count 0 → IsFar count [] far
far_none count far is =
    record {
      long = ap length is ∙ length-replicate count 0;
      each = λ place l. ap (λ (xs : List ℕ). get_or xs place 0) is ∙ get_or-replicate count place 0 0 l;
    }

module _ (count : ℕ) (ss : List Span) (s : Span) (far : List ℕ) (is : IsFar count ss far) where
  pub far_more : s.start < count → IsFar count (ss ++ s ∷ []) (set far s.start (max (get_or far s.start 0) s.stop))
  far_more inside =
      record {
        long = length-set far s.start (max (get_or far s.start 0) s.stop) ∙ is.long;
        each = λ place l. one place l (nat_eq s.start place) refl;
      }
    where
      one : (place : ℕ) → place < count → (b : Bool) → nat_eq s.start place ≡ b
          → get_or (set far s.start (max (get_or far s.start 0) s.stop)) place 0 ≡ far_at (ss ++ s ∷ []) place
      one place l true e =
          let same : s.start ≡ place = eqb-true s.start place e in
          let below : s.start < length far = omega (arith, is.long, inside) in
          get_or-set_at far s.start place (max (get_or far s.start 0) s.stop) 0 (sym same) below
          ∙ ap (λ (m : ℕ). max m s.stop) (ap (λ (m : ℕ). get_or far m 0) same ∙ is.each place l) ∙ sym (far_at-push ss s place ∙ rw e refl)
      one place l false e =
          get_or-set_other far s.start place (max (get_or far s.start 0) s.stop) 0 (λ same. eqb-false s.start place e (sym same))
          ∙ is.each place l ∙ sym (far_at-push ss s place ∙ rw e (omega arith))

  pub far_same : count ≤ s.start → IsFar count (ss ++ s ∷ []) far
  far_same out = record { long = is.long; each = λ place l. is.each place l ∙ sym (far_at-push ss s place ∙ rw (other place l) (omega arith)) } where
    other : (place : ℕ) → place < count → nat_eq s.start place ≡ false
    other place l = by (nat_eq s.start place) refl where
      by : (b : Bool) → nat_eq s.start place ≡ b → nat_eq s.start place ≡ false
      by true e = let same : s.start ≡ place = eqb-true s.start place e in absurd (omega arith)
      by false e = e

-- the furthest stop so far, and whether a place is below it
module _ (count : ℕ) (ss : List Span) (far : List ℕ) (is : IsFar count ss far) (place stop : ℕ) (inside : place < count) (so_far : stop ≡ far_below ss place) where
  pub stop_step : max (get_or far place 0) stop ≡ far_below ss (place + 1)
  stop_step = let e = is.each place inside in let r = far_below-suc ss place in omega (arith, e, r, so_far)

  pub is_outside : max (get_or far place 0) stop ≤ place → list_any (covers place) ss ≡ false
  is_outside h = covered ss place ∙ le-ltb place (far_below ss (place + 1)) (omega (arith, stop_step, h))

  pub is_inside : place < max (get_or far place 0) stop → list_any (covers place) ss ≡ true
  is_inside h = covered ss place ∙ lt-ltb place (far_below ss (place + 1)) (omega (arith, stop_step, h))

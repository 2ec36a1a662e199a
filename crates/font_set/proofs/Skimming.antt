-- Passing over commands that ask nothing of fonts is as many steps of the search.
use Rattle.std.proofs.Common.{◌≡◌, ◌≤◌, ◌<◌, ◌+◌, ◌-◌, ◌⊎◌, inl, inr, ℕ, zero, suc, ℤ, arith, nat_lt, if◌then◌else◌, List, ◌∷◌, Bool, true, false, length, take, drop, slice_range, Option, Some, None, refl, sym, ap, subst, ◌∙◌}
use Rattle.std.specs.Prelude.{IfSome}
use Rattle.std.proofs.lemmas.Bool.{cases_lt}
use Rattle.std.proofs.lemmas.Bool.Decides.{nat_tests}
use Rattle.std.proofs.lemmas.List.{drop_more}
use Rattle.dvi_ops.specs.Command.{Command}
use Rattle.dvi_ops.specs.Command.Command.{Set, Put, Fnt}
use Rattle.dvi_ops.specs.Plain.{IsPlain}
use Rattle.dvi_ops.specs.Spelling.{meaning, low, motion, byte_at, Spell}
use Rattle.dvi_ops.specs.Laws.{OneSpelling}
use Rattle.font_set.specs.Fonts.{FontSet}
use Rattle.font_set.specs.Search.{bytes_of, moves}
use Rattle.font_set.specs.Asking.{IsAsked}
use Rattle.font_set.specs.Found.{PageBytes, Todo, FoundAt, Steps}
use Rattle.font_set.specs.Skim.{IsMet, IsQuiet, PassesOne, Passes}
use Rattle.font_set.specs.declared.agenda.Place.{Place}
use Rattle.font_set.specs.declared.turn.Turn.{Turn}
use Rattle.font_set.specs.declared.turn.Asked.TheVariants as asked
use Rattle.font_set.specs.declared.turn.Does.TheVariants as does
use Rattle.font_set.proofs.Growing.{extends_self}
use Rattle.font_set.proofs.Finding.{opened, passed, skipped, left}
use Rattle.font_set.proofs.Steps.{placed}
use Rattle.font_set.proofs.Turning.{reads}

-- ---- one command

-- the byte that begins a rule, a move, a push, a pop, a nop, or what stands round a page
abbrev pub IsApart : ℕ → Type 0
IsApart op = (op ≡ 132) ⊎ ((137 ≤ op) × (op < 171))

not_below : (op : ℕ) → IsApart op → op < 132 → ⊥
not_below op (inl e) a = omega (arith, e, a)
not_below op (inr x) a = omega (arith, x.0, a)

not_between : (op : ℕ) → IsApart op → 133 ≤ op → op < 137 → ⊥
not_between op (inl e) a b = omega (arith, e, a)
not_between op (inr x) a b = omega (arith, x.0, b)

not_above : (op : ℕ) → IsApart op → 171 ≤ op → ⊥
not_above op (inl e) a = omega (arith, e, a)
not_above op (inr x) a = omega (arith, x.1, a)

module _ (met : List Bool) (font : Option ℕ) where
  -- of two commands by a test
  pick : (n m : ℕ) (x y : Command) → (n < m → IsQuiet met font x) → (m ≤ n → IsQuiet met font y) → IsQuiet met font (if nat_lt n m then x else y)
  pick n m x y p q =
      elim (cases_lt n m) [
        | inl h ↦ (let e : nat_lt n m ≡ true = grind (arith, nat_tests) in rw e (p h))
        | inr h ↦ (let e : nat_lt n m ≡ false = grind (arith, nat_tests) in rw e (q h))
      ]

  quiet_low : (op : ℕ) (args : List ℕ) → IsApart op → IsQuiet met font (low op args)
  unfolding low
  quiet_low op args h =
      pick op 128 _ _ (λ a. absurd (not_below op h (omega (arith, a)))) (λ _. pick op 132 _ _ (λ a. absurd (not_below op h a)) (λ _. pick op 133 _ _ (λ _. tt)
      (λ a. pick op 137 _ _ (λ b. absurd (not_between op h a b)) (λ _. pick op 138 _ _ (λ _. tt) (λ _. pick op 139 _ _ (λ _. tt)
      (λ _. pick op 140 _ _ (λ _. tt) (λ _. pick op 141 _ _ (λ _. tt) (λ _. pick op 142 _ _ (λ _. tt) (λ _. tt)))))))))

  quiet_motion : (op : ℕ) (args : List ℕ) → IsQuiet met font (motion op args)
  unfolding motion
  quiet_motion op args =
      pick op 147 _ _ (λ _. tt) (λ _. pick op 148 _ _ (λ _. tt) (λ _. pick op 152 _ _ (λ _. tt) (λ _. pick op 153 _ _ (λ _. tt)
      (λ _. pick op 157 _ _ (λ _. tt) (λ _. pick op 161 _ _ (λ _. tt) (λ _. pick op 162 _ _ (λ _. tt) (λ _. pick op 166 _ _ (λ _. tt)
      (λ _. pick op 167 _ _ (λ _. tt) (λ _. tt)))))))))

  quiet : (op : ℕ) (args : List ℕ) → IsApart op → IsQuiet met font (meaning op args)
  unfolding meaning
  quiet op args h = pick op 143 _ _ (λ _. quiet_low op args h) (λ _. pick op 171 _ _ (λ _. quiet_motion op args) (λ a. absurd (not_above op h a)))

  -- the operation byte of a command that is spelled at a place
  first_byte : (bytes : List ℕ) (at next : ℕ) (cmd : Command) → at < next → next ≤ length bytes → Spell cmd (slice_range bytes at next) → (args : List ℕ) × (meaning (byte_at bytes at) args ≡ cmd)
  first_byte bytes at next cmd a b s =
      let few = next - (at + 1) in
      let args = take few (drop (at + 1) bytes) in
      let width : next - at ≡ suc few = omega (arith, a) in
      let whole : slice_range bytes at next ≡ byte_at bytes at ∷ args =
      ap (λ k. take k (drop at bytes)) width ∙ ap (λ (xs : List ℕ). take (suc few) xs) (drop_more bytes at 0 (omega (arith, a, b))) in
      let t : Spell cmd (byte_at bytes at ∷ args) = subst (λ (bs : List ℕ). Spell cmd bs) whole s in
      (args, t.2)

  -- a plain command whose byte is apart from those of characters and fonts
  pub passes_apart : (bytes : List ℕ) (at : ℕ) (o : Option ℕ) → IsApart (byte_at bytes at)
      → IfSome o (λ next. (at < next) × (next ≤ length bytes) × (cmd : Command) × IsPlain cmd × Spell cmd (slice_range bytes at next)) → IfSome o (PassesOne met font bytes at)
  passes_apart bytes at None h x = tt
  passes_apart bytes at (Some next) h x =
      let f = first_byte bytes at next x.2 x.0 x.1 x.4 in
      (x.0, x.1, x.2, subst (IsQuiet met font) f.1 (quiet (byte_at bytes at) f.0 h), x.4)

-- ---- the search behind them

asks_nothing : OneSpelling → (s : PageBytes) (old now : FontSet) (vs : List Bool) (p : Place) (ps : List Place) (next : ℕ) (cmd : Command) → p.at < next → next ≤ length (bytes_of now s.bytes p.home)
    → Spell cmd (slice_range (bytes_of now s.bytes p.home) p.at next) → IsAsked cmd asked.Nothing → FoundAt s old now vs (p ∷ ps) → FoundAt s old now vs (moves p next p.font ∷ ps)
asks_nothing one s old now vs p ps next cmd a b spelled e f =
    let t : Turn = record { next = next; does = does.Nothing } in
    let x = placed s old now vs p ps f in
    let ends : length (bytes_of now s.bytes p.home) ≡ p.end = x.ends in
    let r = reads one s now p t asked.Nothing cmd (omega (arith, a, b, ends)) x a (omega (arith, b, ends)) spelled e refl in
    passed s.page s.bytes s.first old now vs p ps t r.command refl (opened s.page s.bytes s.first old now vs p ps f)

asks_met : OneSpelling → (s : PageBytes) (old now : FontSet) (vs : List Bool) (p : Place) (ps : List Place) (next : ℕ) (cmd : Command) (z : ℤ) → p.at < next → next ≤ length (bytes_of now s.bytes p.home)
    → Spell cmd (slice_range (bytes_of now s.bytes p.home) p.at next) → IsAsked cmd (asked.Char z) → IsMet vs p.font z → FoundAt s old now vs (p ∷ ps) → FoundAt s old now vs (moves p next p.font ∷ ps)
asks_met one s old now vs p ps next cmd z a b spelled e m f =
    let t : Turn = record { next = next; does = does.Sets z } in
    let x = placed s old now vs p ps f in
    let ends : length (bytes_of now s.bytes p.home) ≡ p.end = x.ends in
    let r = reads one s now p t (asked.Char z) cmd (omega (arith, a, b, ends)) x a (omega (arith, b, ends)) spelled e refl in
    let w = m.2 in
    subst (λ (o : Option ℕ). FoundAt s old now vs (moves p next o ∷ ps)) (sym m.1)
    (skipped s.page s.bytes s.first old now vs p ps t m.0 w.0 r.command (ap does.Sets w.1) w.2 m.1 w.3 (opened s.page s.bytes s.first old now vs p ps f))

passed_one : OneSpelling → (s : PageBytes) (old now : FontSet) (vs : List Bool) (p : Place) (ps : List Place) (next : ℕ) → PassesOne vs p.font (bytes_of now s.bytes p.home) p.at next → FoundAt s old now vs (p ∷ ps) → FoundAt s old now vs (moves p next p.font ∷ ps)
passed_one one s old now vs p ps next x f = by x.2 x.3 x.4
  where
    by : (cmd : Command) → IsQuiet vs p.font cmd → Spell cmd (slice_range (bytes_of now s.bytes p.home) p.at next) → FoundAt s old now vs (moves p next p.font ∷ ps)
    by (Set z) q spelled = asks_met one s old now vs p ps next (Set z) z x.0 x.1 spelled refl q f
    by (Put z) q spelled = asks_met one s old now vs p ps next (Put z) z x.0 x.1 spelled refl q f
    by (Fnt k) q spelled = absurd q
    by c q spelled = asks_nothing one s old now vs p ps next c x.0 x.1 spelled refl f

pub skimmed : OneSpelling → (s : PageBytes) (old now : FontSet) (vs : List Bool) (p : Place) (ps : List Place) (n next : ℕ) → Passes vs p.font n (bytes_of now s.bytes p.home) p.at next → FoundAt s old now vs (p ∷ ps) → FoundAt s old now vs (moves p next p.font ∷ ps)
skimmed one s old now vs p ps zero next e f = subst (λ (k : ℕ). FoundAt s old now vs (moves p k p.font ∷ ps)) (sym e) f
skimmed one s old now vs p ps (suc n) next x f = passed_one one s old now vs (moves p x.0 p.font) ps next x.2 (skimmed one s old now vs p ps n x.0 x.1 f)

-- ---- steps

-- what was found at a place is found at the one that was skimmed to
pub found_on : OneSpelling → (s : PageBytes) (old now : FontSet) (vs : List Bool) (p q : Place) (ps : List Place) (n next : ℕ) → Passes vs p.font n (bytes_of now s.bytes p.home) p.at next → q ≡ moves p next p.font
    → FoundAt s old now vs (p ∷ ps) → FoundAt s old now vs (q ∷ ps)
found_on one s old now vs p q ps n next x e f = subst (λ (r : Place). FoundAt s old now vs (r ∷ ps)) (sym e) (skimmed one s old now vs p ps n next x f)

-- a step behind what was skimmed
pub step_on : OneSpelling → (s : PageBytes) (p q : Place) (n next : ℕ) (now new : FontSet) (a b : Todo) → Passes a.met p.font n (bytes_of now s.bytes p.home) p.at next → p.at ≤ next → q ≡ moves p next p.font
    → Steps s q now new a b → Steps s p now new a b
step_on one s p q n next now new a b x further e step =
    let on = subst (λ (r : Place). Steps s r now new a b) e step in
    let less = on.less in
    record {
      extends = on.extends;
      found = λ old f. on.found old (skimmed one s old now a.met p a.places n next x f);
      less = omega (arith, less, further);
    }

-- the end of a frame
pub left_step : (s : PageBytes) (p : Place) (now : FontSet) (a : Todo) → p.end ≤ p.at → Steps s p now now a a
left_step s p now a h =
    record {
      extends = extends_self now;
      found = λ old f. left s.page s.bytes s.first old now a.met p a.places h (opened s.page s.bytes s.first old now a.met p a.places f);
      less = omega arith;
    }

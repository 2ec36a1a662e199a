-- The fonts of a copy, one after another.
use Rattle.std.proofs.Common.{◌≡◌, ◌<◌, ◌≤◌, ◌+◌, ℕ, zero, suc, Bool, true, false, List, [], ◌∷◌, ◌++◌, take, length, Option, Some, refl, sym, ap, ◌∙◌, subst, arith, inl, inr, append_assoc}
use Rattle.std.specs.Prelude.{slice_get, slice_index, slice_set, ◌⊎◌}
use Rattle.std.proofs.lemmas.List.{get_or-set_same, get_or-set_other, append-nil}
use Rattle.dvi_ops.specs.Command.{Command, Preamble}
use Rattle.dvi_ops.specs.Command.Command.{Pre}
use Rattle.font_set.specs.Key.{Key}
use Rattle.font_set.specs.Fonts.{Entry, FontSet, key_at, state_at, state_in, entry_key}
use Rattle.dvi_ops.specs.Shortest.{shortest}
use Rattle.dvicopy_out.specs.Spelled.{spelled}
use Rattle.dvicopy_out.proofs.Spelling.{two_pieces}
use Rattle.dvicopy_out.specs.Numbered.{definitions_from, is_real, number_of, one_where, put_definition, reals_in}

-- one font more
reals_step : (es : List Entry) (k : ℕ) (e : Entry) → slice_get es k ≡ Some e → reals_in (take (suc k) es) ≡ reals_in (take k es) + one_where (is_real e.state)
reals_step [] k e at = absurd (cc)
reals_step (x ∷ es) zero e at = let same : x ≡ e = cc in subst (λ (y : Entry). one_where (is_real x.state) + 0 ≡ 0 + one_where (is_real y.state)) same (omega arith)
reals_step (x ∷ es) (suc k) e at = let step = reals_step es k e at in omega (arith, step)

there : (es : List Entry) (k : ℕ) → k < length es → (e : Entry) × (slice_get es k ≡ Some e)
there [] k h = absurd (omega arith)
there (e ∷ es) zero h = (e, refl)
there (e ∷ es) (suc k) h = there es k (omega arith)

-- how many real fonts there are below the next place
pub reals_next : (set : FontSet) (k : ℕ) → k < length set.fonts → number_of set (k + 1) ≡ number_of set k + one_where (is_real (state_at set k))
unfolding state_at
reals_next set k h =
    let e = there set.fonts k h in
    let next : k + 1 ≡ suc k = omega arith in
    ap (λ (n : ℕ). number_of set n) next ∙ reals_step set.fonts k e.0 e.1 ∙ ap (λ (o : Option Entry). number_of set k + one_where (is_real (state_in o))) (sym e.1)

at_most : (b : Bool) → one_where b ≤ 1
at_most true = omega arith
at_most false = omega arith

-- there are no more real fonts than fonts
pub reals_few : (set : FontSet) (k : ℕ) → number_of set k ≤ k
reals_few set k = few set.fonts k where
  few : (es : List Entry) (n : ℕ) → reals_in (take n es) ≤ n
  few [] zero = omega arith
  few [] (suc n) = omega arith
  few (e ∷ es) zero = omega arith
  few (e ∷ es) (suc n) = let rest = few es n in let one : one_where (is_real e.state) ≤ 1 = at_most (is_real e.state) in omega (arith, rest, one)

put_both : (n : ℕ) (key : Key) (b : Bool) (xs ys : List Command) → put_definition n key b (xs ++ ys) ≡ put_definition n key b xs ++ ys
put_both n key true xs ys = refl
put_both n key false xs ys = refl

definitions_step : (es : List Entry) (n k : ℕ) (e : Entry) → slice_get es k ≡ Some e → definitions_from n (take (suc k) es) ≡ definitions_from n (take k es) ++ put_definition (n + reals_in (take k es)) e.key (is_real e.state) []
definitions_step [] n k e at = absurd (cc)
definitions_step (x ∷ es) n zero e at =
    let same : x ≡ e = cc in
    let none : n ≡ n + 0 = omega arith in
    ap (λ (m : ℕ). put_definition m x.key (is_real x.state) []) none ∙ ap (λ (y : Entry). put_definition (n + 0) y.key (is_real y.state) []) same
definitions_step (x ∷ es) n (suc k) e at =
    let w : ℕ = one_where (is_real x.state) in
    let r : ℕ = reals_in (take k es) in
    let sum : (n + w) + r ≡ n + (w + r) = omega arith in
    ap (λ cs. put_definition n x.key (is_real x.state) cs) (definitions_step es (n + w) k e at)
    ∙ put_both n x.key (is_real x.state) (definitions_from (n + w) (take k es)) (put_definition ((n + w) + r) e.key (is_real e.state) [])
    ∙ ap (λ (m : ℕ). put_definition n x.key (is_real x.state) (definitions_from (n + w) (take k es)) ++ put_definition m e.key (is_real e.state) []) sum

-- the definition of the next font stands behind those before it
pub definitions_next : (set : FontSet) (k : ℕ) → k < length set.fonts → definitions_from 0 (take (k + 1) set.fonts) ≡ definitions_from 0 (take k set.fonts) ++ put_definition (number_of set k) (key_at set k) (is_real (state_at set k)) []
unfolding state_at key_at
definitions_next set k h =
    let e = there set.fonts k h in
    let next : k + 1 ≡ suc k = omega arith in
    let none : 0 + number_of set k ≡ number_of set k = omega arith in
    ap (λ (n : ℕ). definitions_from 0 (take n set.fonts)) next ∙ definitions_step set.fonts 0 k e.0 e.1
    ∙ ap (λ (n : ℕ). definitions_from 0 (take k set.fonts) ++ put_definition n (e.0).key (is_real (e.0).state) []) none
    ∙ ap (λ (o : Option Entry). definitions_from 0 (take k set.fonts) ++ put_definition (number_of set k) (entry_key o) (is_real (state_in o)) []) (sym e.1)

up : (i k : ℕ) → (i ≡ k) ⊎ (i < k) → (suc i ≡ suc k) ⊎ (suc i < suc k)
up i k (inl e) = inl (ap (λ (n : ℕ). suc n) e)
up i k (inr l) = inr (omega arith)

split : (i k : ℕ) → i < k + 1 → (i ≡ k) ⊎ (i < k)
split zero zero h = inl refl
split zero (suc k) h = inr (omega arith)
split (suc i) zero h = absurd (omega arith)
split (suc i) (suc k) h = up i k (split i k (omega arith))

-- one number more in a table
pub table_set : (t : List ℕ) (k id n : ℕ) (f : ℕ → ℕ) → k < length t → ((i : ℕ) → i < k → slice_index t i ≡ f i) → n ≡ f k → id < k + 1 → slice_index (slice_set t k n) id ≡ f id
table_set t k id n f long before here h = by (split id k h) where
  by : (id ≡ k) ⊎ (id < k) → slice_index (slice_set t k n) id ≡ f id
  by (inl e) = ap (λ (i : ℕ). slice_index (slice_set t k n) i) e ∙ get_or-set_same t k n 0 long ∙ here ∙ ap f (sym e)
  by (inr l) = get_or-set_other t k id n 0 (λ e. omega arith) ∙ before id l

-- the definitions up to the next font, behind what stood there
pub definitions_sent : (set : FontSet) (k : ℕ) (start before after : List ℕ) → k < length set.fonts → before ≡ start ++ spelled (definitions_from 0 (take k set.fonts)) → after ≡ before ++ spelled (put_definition (number_of set k) (key_at set k) (is_real (state_at set k)) [])
    → after ≡ start ++ spelled (definitions_from 0 (take (k + 1) set.fonts))
definitions_sent set k start before after h e f =
    two_pieces start before after (definitions_from 0 (take k set.fonts)) (put_definition (number_of set k) (key_at set k) (is_real (state_at set k)) []) e f
    ∙ ap (λ cs. start ++ spelled cs) (sym (definitions_next set k h))

-- the bytes of a preamble
pub preamble_sent : (start one two script : List ℕ) (h : Preamble) → script ≡ [] ++ shortest (Pre h) → one ≡ start ++ script → two ≡ one ++ h.comment → two ≡ start ++ spelled (Pre h ∷ [])
preamble_sent start one two script h s e f =
    f ∙ ap (λ bs. bs ++ h.comment) (e ∙ ap (λ bs. start ++ bs) s) ∙ append_assoc start (shortest (Pre h)) h.comment ∙ ap (λ bs. start ++ bs) (sym (append-nil (shortest (Pre h) ++ h.comment)))

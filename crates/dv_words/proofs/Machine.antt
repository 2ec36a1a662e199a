-- Reading word by word, against reading item by item.
use Rattle.std.proofs.Common.{◌≡◌, ◌<◌, ◌+◌, ℕ, List, [], ◌∷◌, ◌++◌, length, take, get_or, Option, Some, None, Bool, true, false, nat_eq, if◌then◌else◌, arith, refl, sym, ap, ◌∙◌, subst, inl, inr, ◌⊎◌, ◌&&◌, eqb-true, eq-eqb}
use Rattle.std.proofs.lemmas.List.{take_all, take_more, append-nil}
use Rattle.dv_words.specs.Grammar.{Front, Grammar, is_option, In, Reads, Accepts}
use Rattle.dv_words.specs.Grammar.Reads.{nothing, name, together, apart}
use Rattle.dv_words.specs.Stepping.{cut, Opened, fit, or_else, opened, State, changed, with_rest, begun, named, step, and_then, run, is_end}
use Rattle.dv_words.specs.Stepping.State.{Ready, Waits}
use Rattle.dv_words.specs.Language.{Begins, IsWrongAt}

module _ {O D : Type 0} (G : Grammar O D) where
  -- in each of these states the words mean: the items of the rest
  abbrev pub Means : State O D → List (List ℕ) → D → Type 0
  Means (Ready d) words e = Reads G words d e
  Means (Waits o d) [] e = ⊥
  Means (Waits o d) (parameter ∷ words) e = (change : D → D) × (G.reads o parameter ≡ Some change) × Reads G words (change d) e

  -- what a front that fits says of the word
  pub record Opens (fronts : List (Front O)) (word : List ℕ) (op : Opened O) : Type 0 where
    pub front : Front O
    pub is_in : In front fronts
    pub option : op.option ≡ front.option
    pub how : ((op.rest ≡ None) × (front.apart ≡ true) × (word ≡ front.text)) ⊎ ((rest : List ℕ) × (op.rest ≡ Some rest) × (front.apart ≡ false) × (word ≡ front.text ++ rest))

  -- no word can be read in two ways
  pub record IsClear : Type 0 where
    pub options : (front : Front O) → In front G.fronts → is_option front.text ≡ true
    pub apart : (front : Front O) → In front G.fronts → front.apart ≡ true → opened G.fronts front.text ≡ Some (record { option = front.option; rest = None })
    pub together : (front : Front O) → In front G.fronts → front.apart ≡ false → (p : List ℕ) (c : D → D) → G.reads front.option p ≡ Some c
        → opened G.fronts (front.text ++ p) ≡ Some (record { option = front.option; rest = Some p })

  -- each list of items can be made whole, and each option has a parameter
  pub record IsLive : Type 0 where
    pub finishes : (d : D) → (words : List (List ℕ)) × (e : D) × Reads G words d e × (G.whole e ≡ true)
    pub good : (o : O) → (p : List ℕ) × (c : D → D) × (G.reads o p ≡ Some c)

pub none_some : {X : Type 0} {x : X} → None ≡ Some x → ⊥
none_some h = cc

pub some_none : {X : Type 0} {x : X} → Some x ≡ None → ⊥
some_none h = cc

inner : {X : Type 0} {x y : X} → Some x ≡ Some y → x ≡ y
inner h = cc

pub true_false : true ≡ false → ⊥
true_false h = cc

-- a longer option is an option
long : (text p : List ℕ) → is_option text ≡ true → is_option (text ++ p) ≡ true
long [] p h = absurd (true_false (sym h))
long (b ∷ []) p h = absurd (short (nat_eq b 45) h) where
  short : (t : Bool) → (t && false) ≡ true → ⊥
  short true h = cc
  short false h = cc
long (b ∷ (c ∷ bs)) p h = grind arith

pub cut_is : (text word rest : List ℕ) → cut text word ≡ Some rest → word ≡ text ++ rest
cut_is [] word rest h = cc
cut_is (c ∷ text) [] rest h = absurd (cc)
cut_is (c ∷ text) (b ∷ word) rest h = by (nat_eq c b) refl h (cut_is text word rest) where
  by : (t : Bool) → nat_eq c b ≡ t → (if t then cut text word else None) ≡ Some rest → (cut text word ≡ Some rest → word ≡ text ++ rest) → (b ∷ word) ≡ (c ∷ text) ++ rest
  by true e h k = let same : c ≡ b = eqb-true c b e in let tail = k h in cc
  by false e h k = absurd (cc)

pub cut_of : (text rest : List ℕ) → cut text (text ++ rest) ≡ Some rest
cut_of [] rest = refl
cut_of (c ∷ text) rest = rw (eq-eqb c c refl) (cut_of text rest)

module _ {O D : Type 0} (G : Grammar O D) where
  pub opens : (fronts : List (Front O)) (word : List ℕ) (op : Opened O) → opened fronts word ≡ Some op → Opens G fronts word op
  opens [] word op h = absurd (cc)
  opens (front ∷ fronts) word op h = by front.apart (cut front.text word) refl refl h (opens fronts word op) where
    later : Opens G fronts word op → Opens G (front ∷ fronts) word op
    later o = record { front = o.front; is_in = inr o.is_in; option = o.option; how = o.how }

    by : (a : Bool) (r : Option (List ℕ)) → front.apart ≡ a → cut front.text word ≡ r → or_else (fit front word a r) (opened fronts word) ≡ Some op
        → (opened fronts word ≡ Some op → Opens G fronts word op) → Opens G (front ∷ fronts) word op
    by true (Some []) a r h k = record { front = front; is_in = inl refl; option = cc; how = inl (cc, a, whole (cut_is front.text word [] r)) } where
      whole : word ≡ front.text ++ [] → word ≡ front.text
      whole e = e ∙ append-nil front.text
    by true (Some (b ∷ bs)) a r h k = later (k h)
    by true None a r h k = later (k h)
    by false (Some rest) a r h k = record { front = front; is_in = inl refl; option = cc; how = inr (rest, cc, a, cut_is front.text word rest r) }
    by false None a r h k = later (k h)

  -- reading words from a state, and then what the rest means there
  pub joined : (xs ys : List (List ℕ)) (s t : State O D) (e : D) → run G xs s ≡ Some t → Means G t ys e → Means G s (xs ++ ys) e
  joined [] ys s t e h m = subst (λ (u : State O D). Means G u ys e) (sym same) m where
    same : s ≡ t
    same = cc
  joined (w ∷ xs) ys (Waits o d) t e h m = by (G.reads o w) refl h (λ u k. joined xs ys u t e k m) where
    by : (r : Option (D → D)) → G.reads o w ≡ r → and_then G (changed G d r) (run G xs) ≡ Some t
        → ((u : State O D) → run G xs u ≡ Some t → Means G u (xs ++ ys) e)
        → (change : D → D) × (G.reads o w ≡ Some change) × Reads G (xs ++ ys) (change d) e
    by None p h k = absurd (cc)
    by (Some c) p h k = (c, p, k (Ready (c d)) h)
  joined (w ∷ xs) ys (Ready d) t e h m = by (is_option w) refl h (λ u k. joined xs ys u t e k m) where
    is_named : (r : Option D) → is_option w ≡ false → G.names w d ≡ r → and_then G (named G r) (run G xs) ≡ Some t
        → ((u : State O D) → run G xs u ≡ Some t → Means G u (xs ++ ys) e) → Reads G (w ∷ (xs ++ ys)) d e
    is_named None o n h k = absurd (cc)
    is_named (Some f) o n h k = name o n (k (Ready f) h)

    is_waiting : (zs : List (List ℕ)) (front : Front O) → In front G.fronts → front.apart ≡ true → w ≡ front.text → G.stands front.option d ≡ true
        → Means G (Waits front.option d) zs e → Reads G (w ∷ zs) d e
    is_waiting [] front i a is st m = absurd m
    is_waiting (p ∷ zs) front i a is st m = apart front m.0 i a is st m.1 m.2

    is_together : (front : Front O) (rest : List ℕ) (r : Option (D → D)) → In front G.fronts → front.apart ≡ false → w ≡ front.text ++ rest → G.stands front.option d ≡ true
        → G.reads front.option rest ≡ r → and_then G (changed G d r) (run G xs) ≡ Some t
        → ((u : State O D) → run G xs u ≡ Some t → Means G u (xs ++ ys) e) → Reads G (w ∷ (xs ++ ys)) d e
    is_together front rest None i a is st q h k = absurd (cc)
    is_together front rest (Some c) i a is st q h k = together front rest c i a is st q (k (Ready (c d)) h)

    at_front : (o : O) (r : Option (List ℕ)) (front : Front O) → In front G.fronts → o ≡ front.option
        → ((r ≡ None) × (front.apart ≡ true) × (w ≡ front.text)) ⊎ ((rest : List ℕ) × (r ≡ Some rest) × (front.apart ≡ false) × (w ≡ front.text ++ rest))
        → G.stands o d ≡ true → and_then G (with_rest G o d r) (run G xs) ≡ Some t
        → ((u : State O D) → run G xs u ≡ Some t → Means G u (xs ++ ys) e) → Reads G (w ∷ (xs ++ ys)) d e
    at_front o None front i same (inl how) st h k =
        let P : O → Type 0 = λ x. Means G (Waits x d) (xs ++ ys) e in let S : O → Type 0 = λ x. G.stands x d ≡ true in
        is_waiting (xs ++ ys) front i how.1 how.2 (subst S same st) (subst P same (k (Waits o d) h))
    at_front o None front i same (inr how) st h k = absurd (none_some how.1)
    at_front o (Some rest) front i same (inl how) st h k = absurd (some_none how.0)
    at_front o (Some rest) front i same (inr how) st h k =
        let S : O → Type 0 = λ x. G.stands x d ≡ true in
        let H : O → Type 0 = λ x. and_then G (changed G d (G.reads x rest)) (run G xs) ≡ Some t in
        let is : w ≡ front.text ++ rest = how.3 ∙ ap (λ (r : List ℕ). front.text ++ r) (sym (inner how.1)) in
        is_together front rest (G.reads front.option rest) i how.2 is (subst S same st) refl (subst H same h) k

    is_opened : (r : Option (Opened O)) → opened G.fronts w ≡ r → and_then G (begun G d r) (run G xs) ≡ Some t
        → ((u : State O D) → run G xs u ≡ Some t → Means G u (xs ++ ys) e) → Reads G (w ∷ (xs ++ ys)) d e
    is_opened None o h k = absurd (cc)
    is_opened (Some op) o h k = standing (G.stands op.option d) refl h where
      standing : (b : Bool) → G.stands op.option d ≡ b → and_then G (if b then with_rest G op.option d op.rest else None) (run G xs) ≡ Some t → Reads G (w ∷ (xs ++ ys)) d e
      standing true st h = let it = opens G.fronts w op o in at_front op.option op.rest it.front it.is_in it.option it.how st h k
      standing false st h = absurd (cc)

    by : (b : Bool) → is_option w ≡ b → and_then G (if b then begun G d (opened G.fronts w) else named G (G.names w d)) (run G xs) ≡ Some t
        → ((u : State O D) → run G xs u ≡ Some t → Means G u (xs ++ ys) e) → Reads G (w ∷ (xs ++ ys)) d e
    by true o h k = is_opened (opened G.fronts w) refl h k
    by false o h k = is_named (G.names w d) o refl h k

  pub sound : (xs : List (List ℕ)) (d e : D) → run G xs (Ready d) ≡ Some (Ready e) → Reads G xs d e
  sound xs d e h = rw append-nil at (joined xs [] (Ready d) (Ready e) e h nothing)

  pub complete : IsClear G → {ws : List (List ℕ)} {d e : D} → Reads G ws d e → run G ws (Ready d) ≡ Some (Ready e)
  complete clear nothing = refl
  complete clear (name is n r) = rw (is, n) (complete clear r)
  complete clear (together front p c i a is st q r) =
      rw (is, long _ p (clear.options front i), clear.together front i a p c q, st, q) (complete clear r)
  complete clear (apart front c i a is st q r) = rw (is, clear.options front i, clear.apart front i a, st, q) (complete clear r)

  pub run_append : (xs ys : List (List ℕ)) (s : State O D) → run G (xs ++ ys) s ≡ and_then G (run G xs s) (run G ys)
  run_append [] ys s = refl
  run_append (x ∷ xs) ys s = by (step G s x) (λ t. run_append xs ys t) where
    by : (r : Option (State O D)) → ((t : State O D) → run G (xs ++ ys) t ≡ and_then G (run G xs t) (run G ys))
        → and_then G r (run G (xs ++ ys)) ≡ and_then G (and_then G r (run G xs)) (run G ys)
    by None k = refl
    by (Some t) k = k t

  one_step : (r : Option (State O D)) → and_then G r (λ t. Some t) ≡ r
  one_step None = refl
  one_step (Some t) = refl

  -- one word more
  pub run_more : (ws : List (List ℕ)) (i : ℕ) (w : List ℕ) (s0 s : State O D) → i < length ws → w ≡ get_or ws i w → run G (take i ws) s0 ≡ Some s
      → run G (take (i + 1) ws) s0 ≡ step G s w
  run_more ws i w s0 s inside is h =
      ap (λ (us : List (List ℕ)). run G us s0) (take_more ws i w inside) ∙ run_append (take i ws) (get_or ws i w ∷ []) s0
      ∙ ap (λ (r : Option (State O D)). and_then G r (run G (get_or ws i w ∷ []))) h
      ∙ one_step (step G s (get_or ws i w)) ∙ ap (step G s) (sym is)

  front_runs : (r : Option (State O D)) (ys : List (List ℕ)) (t : State O D) → and_then G r (run G ys) ≡ Some t → r ≡ None → ⊥
  front_runs r ys t h none = some_none (sym (rw none at h))

  -- what begins an accepted list is read
  pub begins_runs : IsClear G → (d : D) (xs : List (List ℕ)) → Begins (Accepts G d) xs → run G xs (Ready d) ≡ None → ⊥
  begins_runs clear d xs b none = front_runs (run G xs (Ready d)) b.0 (Ready b.1.0) (sym (run_append xs b.0 (Ready d)) ∙ complete clear b.1.1) none

  live : IsLive G → (s : State O D) → (ws : List (List ℕ)) × (e : D) × Means G s ws e × (G.whole e ≡ true)
  live alive (Ready d) = alive.finishes d
  live alive (Waits o d) =
      let p = alive.good o in let rest = alive.finishes (p.1 d) in
      (p.0 ∷ rest.0, rest.1, (p.1, p.2, rest.2), rest.3)

  -- what is read begins an accepted list
  pub runs_begin : IsLive G → (d : D) (xs : List (List ℕ)) (s : State O D) → run G xs (Ready d) ≡ Some s → Begins (Accepts G d) xs
  runs_begin alive d xs s h = let m = live alive s in (m.0, (m.1, joined xs m.0 (Ready d) s m.1 h m.2, m.3))

  -- a word that can't be read
  pub wrong_word : IsClear G → IsLive G → (d : D) (ws : List (List ℕ)) (i : ℕ) (w : List ℕ) (s : State O D) → i < length ws → w ≡ get_or ws i w
      → run G (take i ws) (Ready d) ≡ Some s → step G s w ≡ None → IsWrongAt (Accepts G d) ws i
  wrong_word clear alive d ws i w s inside is h none =
      record {
        inside = omega arith;
        before = runs_begin alive d (take i ws) s h;
        here = inl (inside, (λ b. begins_runs clear d (take (i + 1) ws) b (run_more ws i w (Ready d) s inside is h ∙ none)));
      }

  same_end : (f e : D) → ◌≡◌ {A = Option (State O D)} (Some (Ready f)) (Some (Ready e)) → G.whole f ≡ false → G.whole e ≡ true → ⊥
  same_end f e q lacks whole = let s : f ≡ e = cc in true_false (sym whole ∙ ap G.whole (sym s) ∙ lacks)

  waits_ready : (o : O) (f e : D) → ◌≡◌ {A = Option (State O D)} (Some (Waits o f)) (Some (Ready e)) → ⊥
  waits_ready o f e q = cc

  ended : IsClear G → (d : D) (ws : List (List ℕ)) (s : State O D) → run G ws (Ready d) ≡ Some s → is_end G s ≡ false → Accepts G d ws → ⊥
  ended clear d ws (Ready f) h lacks a = same_end f a.0 (sym h ∙ complete clear a.1) lacks a.2
  ended clear d ws (Waits o f) h lacks a = waits_ready o f a.0 (sym h ∙ complete clear a.1)

  -- words that end too early
  pub wrong_end : IsClear G → IsLive G → (d : D) (ws : List (List ℕ)) (s : State O D) → run G ws (Ready d) ≡ Some s → is_end G s ≡ false
      → IsWrongAt (Accepts G d) ws (length ws)
  wrong_end clear alive d ws s h open_end =
      record {
        inside = omega arith;
        before = rw (take_all (length ws) ws (omega arith)) (runs_begin alive d ws s h);
        here = inr (refl, (λ a. ended clear d ws s h open_end a));
      }

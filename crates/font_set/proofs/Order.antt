-- A search with a memory meets the keys acts the whole expansion does.
use Rattle.std.proofs.Common.{◌≡◌, ◌≤◌, ◌<◌, ◌+◌, ◌⊎◌, inl, inr, ℕ, zero, suc, arith, List, [], ◌∷◌, ◌++◌, Bool, true, false, ◌||◌, refl, sym, ap, subst, ◌∙◌, append_assoc, true≢false}
use Rattle.std.proofs.lemmas.List.{append-nil}
use Rattle.std.specs.Prelude.{fold}
use Rattle.std.specs.List.{list_any}
use Rattle.indexmap.specs.IndexSet.{insert_key}
use Rattle.font_set.specs.Acts.{Act, Every, IsRun, HasBy, Inside, Reached}
use Rattle.font_set.specs.Acts.Act.{Selects, Runs, Wrong}
use Rattle.font_set.specs.Progress.{Frame, Knows, Seen, IsOpen, Chain, Pending, Search}

module _ {K P : Type 0} where
  -- two lists of acts, and their keys
  pub has_join : (R : P → List K → Type 0) (acts bs : List (Act K P)) (xs ys : List K) → HasBy R acts xs → HasBy R bs ys → HasBy R (acts ++ bs) (xs ++ ys)
  has_join R [] bs xs ys h k = subst (λ (zs : List K). HasBy R bs (zs ++ ys)) (sym h) k
  has_join R (Selects a ∷ acts) bs xs ys h k = (h.0 ++ ys, has_join R acts bs h.0 ys h.1 k, ap (λ (zs : List K). zs ++ ys) h.2)
  has_join R (Wrong ∷ acts) bs xs ys h k = absurd h
  has_join R (Runs p ∷ acts) bs xs ys h k =
      (h.0, h.1 ++ ys, h.2, has_join R acts bs h.1 ys h.3 k, ap (λ (zs : List K). zs ++ ys) h.4 ∙ append_assoc h.0 h.1 ys)

  -- a packet that is run has keys
  pub has_at : (R : P → List K → Type 0) (front : List (Act K P)) (p : P) (rest : List (Act K P)) (ks : List K) → HasBy R (front ++ Runs p ∷ rest) ks → (inner : List K) × R p inner
  has_at R [] p rest ks h = (h.0, h.2)
  has_at R (Selects a ∷ acts) p rest ks h = has_at R acts p rest h.0 h.1
  has_at R (Runs q ∷ acts) p rest ks h = has_at R acts p rest h.1 h.3
  has_at R (Wrong ∷ acts) p rest ks h = absurd h

  pub every_join : (T : Act K P → Type 0) (acts bs : List (Act K P)) → Every T acts → Every T bs → Every T (acts ++ bs)
  every_join T [] bs h k = k
  every_join T (a ∷ acts) bs h k = (h.0, every_join T acts bs h.1 k)

  pub every_weaker : (T U : Act K P → Type 0) (acts : List (Act K P)) → ((a : Act K P) → T a → U a) → Every T acts → Every U acts
  every_weaker T U [] h k = tt
  every_weaker T U (a ∷ acts) h k = (h a k.0, every_weaker T U acts h k.1)

  pub every_at : (T : Act K P → Type 0) (front : List (Act K P)) (a : Act K P) (rest : List (Act K P)) → Every T (front ++ a ∷ rest) → T a
  every_at T [] a rest h = h.0
  every_at T (b ∷ bs) a rest h = every_at T bs a rest h.1

-- keys that are known
module _ {K : Type 0} (eq : K → K → Bool) where
  abbrev pub KnowsAll : List K → List K → Type 0
  KnowsAll ks [] = Unit {0}
  KnowsAll ks (x ∷ xs) = Knows eq ks x × KnowsAll ks xs

  pub known_stays : (ks : List K) (k : K) → Knows eq ks k → insert_key eq ks k ≡ ks
  known_stays ks k h = rw h refl

  pub all_known : (ks xs : List K) → KnowsAll ks xs → fold (insert_key eq) ks xs ≡ ks
  all_known ks [] h = refl
  all_known ks (x ∷ xs) h = ap (λ (zs : List K). fold (insert_key eq) zs xs) (known_stays ks x h.0) ∙ all_known ks xs h.1

  pub known_join : (ks xs ys : List K) → KnowsAll ks xs → KnowsAll ks ys → KnowsAll ks (xs ++ ys)
  known_join ks [] ys h k = k
  known_join ks (x ∷ xs) ys h k = (h.0, known_join ks xs ys h.1 k)

  pub fold_join : (ks xs ys : List K) → fold (insert_key eq) ks (xs ++ ys) ≡ fold (insert_key eq) (fold (insert_key eq) ks xs) ys
  fold_join ks [] ys = refl
  fold_join ks (x ∷ xs) ys = fold_join (insert_key eq ks x) xs ys

  any_front : (k : K) (xs ys : List K) → list_any (eq k) xs ≡ true → list_any (eq k) (xs ++ ys) ≡ true
  any_front k [] ys h = absurd (true≢false (sym h))
  any_front k (x ∷ xs) ys h = by (eq k x) (any_front k xs ys) h
    where
      by : (b : Bool) → (list_any (eq k) xs ≡ true → list_any (eq k) (xs ++ ys) ≡ true) → (b || list_any (eq k) xs) ≡ true → (b || list_any (eq k) (xs ++ ys)) ≡ true
      by true f e = refl
      by false f e = f e

  any_last : (k : K) (xs : List K) → eq k k ≡ true → list_any (eq k) (xs ++ k ∷ []) ≡ true
  any_last k [] r = rw r refl
  any_last k (x ∷ xs) r = by (eq k x) (any_last k xs r)
    where
      by : (b : Bool) → list_any (eq k) (xs ++ k ∷ []) ≡ true → (b || list_any (eq k) (xs ++ k ∷ [])) ≡ true
      by true f = refl
      by false f = f

  -- one more key is known, and those before it
  pub known_more : (ks : List K) (k x : K) → Knows eq ks x → Knows eq (insert_key eq ks k) x
  known_more ks k x h = by (list_any (eq k) ks) refl
    where
      by : (b : Bool) → list_any (eq k) ks ≡ b → Knows eq (insert_key eq ks k) x
      by true e = rw e h
      by false e = rw e (any_front x ks (k ∷ []) h)

  pub known_new : (ks : List K) (k : K) → eq k k ≡ true → Knows eq (insert_key eq ks k) k
  known_new ks k r = by (list_any (eq k) ks) refl
    where
      by : (b : Bool) → list_any (eq k) ks ≡ b → Knows eq (insert_key eq ks k) k
      by true e = rw (e, e) refl
      by false e = rw e (any_last k ks r)

module _ {K P : Type 0} (eq : K → K → Bool) (body : P → List (Act K P)) where
  -- has keys, packets at most n deep
  abbrev Deep : ℕ → P → Type 0
  Deep n p = (ks : List K) × Inside body n p ks

  -- a packet that is run stands less deep
  run_deep : (n : ℕ) (p q : P) → IsRun (body p) q → Deep n p → (m : ℕ) × (m < n) × Deep m q
  run_deep zero p q r d = absurd d.1
  run_deep (suc n) p q r d =
      let h : HasBy (Inside body n) (r.0 ++ Runs q ∷ r.1) d.0 = subst (λ (xs : List (Act K P)). HasBy (Inside body n) xs d.0) r.2 d.1 in
      (n, omega arith, has_at (Inside body n) r.0 q r.1 d.0 h)

  -- no descent without end
  never : (p : P) → ((n : ℕ) → Deep n p → (m : ℕ) × (m < n) × Deep m p) → (fuel n : ℕ) → n < fuel → Deep n p → ⊥
  never p h zero n f d = absurd (omega arith)
  never p h (suc fuel) n f d = let k = h n d in never p h fuel k.0 (omega arith) k.2

  -- more is visited and known
  seen_more : (V W : P → Type 0) (ks ls : List K) → ((p : P) → V p → W p) → ((k : K) → Knows eq ks k → Knows eq ls k) → (a : Act K P) → Seen eq body V ks a → Seen eq body W ls a
  seen_more V W ks ls v k (Selects x) h = k x h
  seen_more V W ks ls v k (Runs p) h = v p h
  seen_more V W ks ls v k Wrong h = h

  chain_more : (root : P) (V W : P → Type 0) (ks ls : List K) → ((p : P) → V p → W p) → ((k : K) → Knows eq ks k → Knows eq ls k) → (fs : List (Frame K P)) → Chain eq body root V ks fs → Chain eq body root W ls fs
  chain_more root V W ks ls v k [] c = tt
  chain_more root V W ks ls v k (f ∷ fs) c =
      (c.0, every_weaker (Seen eq body V ks) (Seen eq body W ls) f.done (seen_more V W ks ls v k) c.1, v f.packet c.2, c.3, chain_more root V W ks ls v k fs c.4)

  one_further : (p : P) (done : List (Act K P)) (a : Act K P) (ahead : List (Act K P)) → body p ≡ done ++ a ∷ ahead → body p ≡ (done ++ a ∷ []) ++ ahead
  one_further p done a ahead e = e ∙ sym (append_assoc done (a ∷ []) ahead)

  -- what is open leads to the top
  down : (root : P) (V : P → Type 0) (ks : List K) (p : P) (fs : List (Frame K P)) (t : Frame K P) → Chain eq body root V ks (t ∷ fs) → IsOpen eq body (t ∷ fs) p → (n : ℕ) → Deep n p → (m : ℕ) × (m ≤ n) × Deep m t.packet
  down root V ks p fs t c (inl e) n d = (n, omega arith, subst (Deep n) (sym e) d)
  down root V ks p [] t c (inr o) n d = absurd o
  down root V ks p (g ∷ gs) t c (inr o) n d =
      let k = down root V ks p gs g c.4 o n d in
      let u = c.3 in
      let run : IsRun (body g.packet) t.packet =
      (u.0, g.ahead, c.4.0 ∙ ap (λ (xs : List (Act K P)). xs ++ g.ahead) u.1 ∙ append_assoc u.0 (Runs t.packet ∷ []) g.ahead) in
      let r = run_deep k.0 g.packet t.packet run k.2 in
      (r.0, omega arith, r.2)

  spread : (R : P → List K → Type 0) (V : P → Type 0) (ks : List K) (acts : List (Act K P)) → Every (Seen eq body V ks) acts → ((p : P) → IsRun acts p → V p → (xs : List K) → R p xs → KnowsAll eq ks xs) → (xs : List K) → HasBy R acts xs → KnowsAll eq ks xs
  spread R V ks [] e f xs h = subst (KnowsAll eq ks) (sym h) tt
  spread R V ks (Selects k ∷ acts) e f xs h =
      subst (KnowsAll eq ks) (sym h.2) (e.0, spread R V ks acts e.1 (λ p r. f p (Selects k ∷ r.0, r.1, ap (λ (bs : List (Act K P)). Selects k ∷ bs) r.2)) h.0 h.1)
  spread R V ks (Wrong ∷ acts) e f xs h = absurd e.0
  spread R V ks (Runs q ∷ acts) e f xs h =
      subst (KnowsAll eq ks) (sym h.4)
      (known_join eq ks h.0 h.1 (f q ([], acts, refl) e.0 h.0 h.2)
      (spread R V ks acts e.1 (λ p r. f p (Runs q ∷ r.0, r.1, ap (λ (bs : List (Act K P)). Runs q ∷ bs) r.2)) h.1 h.3))

  -- Where a packet that was visited is about to run again, its keys are known: it isn't open, since it has an expansion.
  finished : (root : P) (V : P → Type 0) (ks : List K) (fs : List (Frame K P)) (t : Frame K P) → Chain eq body root V ks (t ∷ fs)
      → ((p : P) → V p → Every (Seen eq body V ks) (body p) ⊎ IsOpen eq body (t ∷ fs) p) → (q : P) → IsRun (body t.packet) q → (n : ℕ) → Deep n q
      → (m : ℕ) (r : P) → V r → ((i : ℕ) → Deep i q → (j : ℕ) × (j ≤ i) × Deep j r) → (xs : List K) → Inside body m r xs → KnowsAll eq ks xs
  finished root V ks fs t c closed q run n d zero r v below xs h = absurd h
  finished root V ks fs t c closed q run n d (suc m) r v below xs h =
      elim (closed r v) [
        | inl all ↦ spread (Inside body m) V ks (body r) all
            (λ p pr pv. finished root V ks fs t c closed q run n d m p pv
            (λ i e. let b = below i e in let g = run_deep b.0 r p pr b.2 in (g.0, omega arith, g.2))) xs h
        | inr held ↦ absurd (never q
            (λ i e. let b = below i e in let o = down root V ks r fs t c held b.0 b.2 in let g = run_deep o.0 t.packet q run o.2 in (g.0, omega arith, g.2))
            (n + 1) n (omega arith) d)
      ]

  module _ (root : P) (ks0 : List K) where
    -- the search begins
    pub begin : (V : P → Type 0) → V root → ((p : P) → V p → p ≡ root) → Search eq body root ks0 V ks0 (record { packet = root; done = []; ahead = body root } ∷ [])
    begin V here alone = record {
      rooted = here;
      chain = (refl, tt, here, refl, tt);
      closed = λ p v. inr (inl (sym (alone p v)));
      reached = λ p v. (0, alone p v);
      order = start;
    }
      where
        start : (n : ℕ) (all : List K) → Inside body n root all → (rest : List K) × Pending eq body (record { packet = root; done = []; ahead = body root } ∷ []) rest × (fold (insert_key eq) ks0 all ≡ fold (insert_key eq) ks0 rest)
        start zero all h = absurd h
        start (suc n) all h = (all, (n, all, [], h, refl, sym (append-nil all)), refl)

    pub take_select : ((x : K) → eq x x ≡ true) → (V : P → Type 0) (ks : List K) (p : P) (done : List (Act K P)) (k : K) (ahead : List (Act K P)) (fs : List (Frame K P))
        → Search eq body root ks0 V ks (record { packet = p; done = done; ahead = Selects k ∷ ahead } ∷ fs)
        → Search eq body root ks0 V (insert_key eq ks k) (record { packet = p; done = done ++ Selects k ∷ []; ahead = ahead } ∷ fs)
    take_select same V ks p done k ahead fs s =
        let more = λ (x : K) (h : Knows eq ks x). known_more eq ks k x h in
        let still = λ (q : P) (v : V q). v in
        let c = s.chain in
        record {
          rooted = s.rooted;
          chain = (
            one_further p done (Selects k) ahead c.0,
            every_join (Seen eq body V (insert_key eq ks k)) done (Selects k ∷ []) (every_weaker (Seen eq body V ks) (Seen eq body V (insert_key eq ks k)) done (seen_more V V ks (insert_key eq ks k) still more) c.1) (known_new eq ks k (same k), tt),
            c.2,
            c.3,
            chain_more root V V ks (insert_key eq ks k) still more fs c.4,
          );
          closed = λ q v. elim (s.closed q v) [ inl all ↦ inl (every_weaker (Seen eq body V ks) (Seen eq body V (insert_key eq ks k)) (body q) (seen_more V V ks (insert_key eq ks k) still more) all) | inr o ↦ inr o ];
          reached = s.reached;
          order = λ n all h.
              let o = s.order n all h in
              let w = o.1 in
              let a = w.3 in
              (a.0 ++ w.2, (w.0, a.0, w.2, a.1, w.4, refl), o.2 ∙ ap (fold (insert_key eq) ks) (w.5 ∙ ap (λ (xs : List K). xs ++ w.2) a.2));
        }

    pub skip : (V : P → Type 0) (ks : List K) (p : P) (done : List (Act K P)) (q : P) (ahead : List (Act K P)) (fs : List (Frame K P)) → V q
        → Search eq body root ks0 V ks (record { packet = p; done = done; ahead = Runs q ∷ ahead } ∷ fs)
        → Search eq body root ks0 V ks (record { packet = p; done = done ++ Runs q ∷ []; ahead = ahead } ∷ fs)
    skip V ks p done q ahead fs v s =
        let c = s.chain in
        let t : Frame K P = record { packet = p; done = done; ahead = Runs q ∷ ahead } in
        record {
          rooted = s.rooted;
          chain = (one_further p done (Runs q) ahead c.0, every_join (Seen eq body V ks) done (Runs q ∷ []) c.1 (v, tt), c.2, c.3, c.4);
          closed = s.closed;
          reached = s.reached;
          order = λ n all h.
              let o = s.order n all h in
              let w = o.1 in
              let a = w.3 in
              let known : KnowsAll eq ks a.0 = finished root V ks fs t c s.closed q (done, ahead, c.0) w.0 (a.0, a.2) w.0 q v (λ i e. (i, omega arith, e)) a.0 a.2 in (
                a.1 ++ w.2,
                (w.0, a.1, w.2, a.3, w.4, refl),
                o.2 ∙ ap (fold (insert_key eq) ks) (w.5 ∙ ap (λ (xs : List K). xs ++ w.2) a.4 ∙ append_assoc a.0 a.1 w.2)
                    ∙ fold_join eq ks a.0 (a.1 ++ w.2) ∙ ap (λ (ls : List K). fold (insert_key eq) ls (a.1 ++ w.2)) (all_known eq ks a.0 known),
              );
        }

    pub enter : (V W : P → Type 0) (ks : List K) (p : P) (done : List (Act K P)) (q : P) (ahead : List (Act K P)) (fs : List (Frame K P))
        → ((r : P) → V r → W r) → W q → ((r : P) → W r → V r ⊎ (r ≡ q))
        → Search eq body root ks0 V ks (record { packet = p; done = done; ahead = Runs q ∷ ahead } ∷ fs)
        → Search eq body root ks0 W ks (record { packet = q; done = []; ahead = body q } ∷ record { packet = p; done = done ++ Runs q ∷ []; ahead = ahead } ∷ fs)
    enter V W ks p done q ahead fs wider new split s =
        let c = s.chain in
        let same = λ (x : K) (h : Knows eq ks x). h in
        let more = seen_more V W ks ks wider same in
        record {
          rooted = wider root s.rooted;
          chain = (refl, tt, new, (done, refl), (one_further p done (Runs q) ahead c.0, every_join (Seen eq body W ks) done (Runs q ∷ []) (every_weaker (Seen eq body V ks) (Seen eq body W ks) done more c.1) (new, tt), wider p c.2, c.3, chain_more root V W ks ks wider same fs c.4));
          closed = λ r w. elim (split r w) [
            | inl v ↦ elim (s.closed r v) [ inl all ↦ inl (every_weaker (Seen eq body V ks) (Seen eq body W ks) (body r) more all) | inr o ↦ inr (inr o) ]
            | inr e ↦ inr (inl (sym e))
          ];
          reached = λ r w. elim (split r w) [
            | inl v ↦ s.reached r v
            | inr e ↦ (let k = s.reached p c.2 in (suc k.0, (p, k.1, (done, ahead, subst (λ (x : P). body p ≡ done ++ Runs x ∷ ahead) (sym e) c.0))))
          ];
          order = λ n all h.
              let o = s.order n all h in
              let w = o.1 in
              let a = w.3 in
              let k = unrolled w.0 a.0 a.2 in (
                a.0 ++ (a.1 ++ w.2),
                (k.0, a.0, a.1 ++ w.2, k.1, (w.0, a.1, w.2, a.3, w.4, refl), refl),
                o.2 ∙ ap (fold (insert_key eq) ks) (w.5 ∙ ap (λ (xs : List K). xs ++ w.2) a.4 ∙ append_assoc a.0 a.1 w.2),
              );
        }
      where
        unrolled : (m : ℕ) (xs : List K) → Inside body m q xs → (j : ℕ) × HasBy (Inside body j) (body q) xs
        unrolled zero xs h = absurd h
        unrolled (suc m) xs h = (m, h)

    pub leave : (V : P → Type 0) (ks : List K) (p : P) (done : List (Act K P)) (fs : List (Frame K P))
        → Search eq body root ks0 V ks (record { packet = p; done = done; ahead = [] } ∷ fs)
        → Search eq body root ks0 V ks fs
    leave V ks p done fs s =
        let c = s.chain in
        let all : Every (Seen eq body V ks) (body p) = subst (Every (Seen eq body V ks)) (sym (c.0 ∙ append-nil done)) c.1 in
        record {
          rooted = s.rooted;
          chain = c.4;
          closed = λ r v. elim (s.closed r v) [ inl h ↦ inl h | inr o ↦ elim o [ inl e ↦ inl (subst (λ (x : P). Every (Seen eq body V ks) (body x)) e all) | inr k ↦ inr k ] ];
          reached = s.reached;
          order = λ n xs h.
              let o = s.order n xs h in
              let w = o.1 in
              (w.2, w.4, o.2 ∙ ap (fold (insert_key eq) ks) (w.5 ∙ ap (λ (ys : List K). ys ++ w.2) w.3));
        }

    -- at the end what is visited is what is reached, and the keys are those of the expansion
    pub ended : (V : P → Type 0) (ks : List K) → Search eq body root ks0 V ks [] → (p : P) → V p → Every (Seen eq body V ks) (body p)
    ended V ks s p v = elim (s.closed p v) [ inl h ↦ h | inr o ↦ absurd o ]

    pub all_visited : (V : P → Type 0) (ks : List K) → Search eq body root ks0 V ks [] → (n : ℕ) (p : P) → Reached body n root p → V p
    all_visited V ks s zero p r = subst V (sym r) s.rooted
    all_visited V ks s (suc n) p r =
        let v = all_visited V ks s n r.0 r.1 in
        let run = r.2 in
        every_at (Seen eq body V ks) run.0 (Runs p) run.1 (subst (Every (Seen eq body V ks)) run.2 (ended V ks s r.0 v))

    pub in_order : (V : P → Type 0) (ks : List K) → Search eq body root ks0 V ks [] → (n : ℕ) (all : List K) → Inside body n root all → ks ≡ fold (insert_key eq) ks0 all
    in_order V ks s n all h = let o = s.order n all h in sym (o.2 ∙ ap (fold (insert_key eq) ks) o.1)

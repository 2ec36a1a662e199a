-- Where the search ends the set covers the page, and what a fault names is reached.
use Rattle.std.proofs.Common.{◌≡◌, ◌<◌, ◌+◌, ◌⊎◌, inl, inr, ℕ, zero, suc, arith, List, [], ◌∷◌, Bool, true, false, length, Option, Some, None, refl, sym, ap, subst, nat_eq, true≢false, ◌||◌, cond, nat_lt, not}
use Rattle.std.specs.Prelude.{map}
use Rattle.std.specs.List.{list_any, position_or_len}
use Rattle.std.proofs.lemmas.Bool.Decides.{nat_tests}
use Rattle.font_set.specs.Key.{Key, same_key}
use Rattle.font_set.specs.Fonts.{Entry, FontSet, place_of}
use Rattle.font_set.specs.Programs.{Program, program_at}
use Rattle.font_set.specs.Acts.{Every, IsRun, Reached, RunsAt, IsReached}
use Rattle.font_set.specs.Acts.Act.{Selects, Runs, Wrong}
use Rattle.font_set.specs.Frames.{Char, FontAct, acts_of, acts_of_packet, body, body_at}
use Rattle.font_set.specs.Covers.{IsGood, IsThere, Covers}
use Rattle.font_set.specs.Growth.{keys_now}
use Rattle.font_set.specs.Search.{rooted, root}
use Rattle.font_set.specs.Progress.{Seen}
use Rattle.font_set.specs.Found.{In, Found}
use Rattle.font_set.proofs.Order.{ended, all_visited, every_at}
use Rattle.font_set.proofs.Growing.{rooted_char, rooted_root}
use Rattle.font_set.proofs.Finding.{IsSmall, program_small, finished}

body_small : (G : FontSet) (ch : Char) → Every IsSmall (body G ch)
unfolding body
body_small G ch = by (place_of G.fonts ch.key)
  where
    packet : (o : Option Program) → Every IsSmall (acts_of_packet o)
    packet None = tt
    packet (Some p) = program_small p

    by : (o : Option ℕ) → Every IsSmall (body_at G o ch.code)
    by None = tt
    by (Some id) = packet (program_at G id ch.code)

rooted_small : (page : Program) (G : FontSet) (ch : Char) → Every IsSmall (rooted page G ch)
unfolding rooted
rooted_small page G ch = by (nat_eq ch.code 256)
  where
    by : (b : Bool) → Every IsSmall (cond b (acts_of page) (body G ch))
    by true = program_small page
    by false = body_small G ch

run_small : (page : Program) (G : FontSet) (q ch : Char) → IsRun (rooted page G q) ch → ch.code < 256
run_small page G q ch r = every_at IsSmall r.0 (Runs ch) r.1 (subst (Every IsSmall) r.2 (rooted_small page G q))

reached_small : (page : Program) (G : FontSet) (n : ℕ) (q : Char) → Reached (rooted page G) n root q → (q ≡ root) ⊎ (q.code < 256)
reached_small page G zero q r = inl r
reached_small page G (suc n) q r = inr (run_small page G r.0 q r.2)

-- what the search reached is reached from the page
pub reached_in : (page : Program) (G : FontSet) (n : ℕ) (ch : Char) → ch.code < 256 → Reached (rooted page G) n root ch → IsReached (body G) (acts_of page) ch
reached_in page G zero ch l r = absurd (let e : ch.code ≡ 256 = ap (λ (x : Char). x.code) r in omega (arith, e, l))
reached_in page G (suc n) ch l r =
    elim (reached_small page G n r.0 r.1) [
      | inl e ↦ (0, subst (λ (xs : List FontAct). IsRun xs ch) (rooted_root page G) (subst (λ (x : Char). IsRun (rooted page G x) ch) e r.2))
      | inr s ↦ (let k = reached_in page G n r.0 s r.1 in (suc k.0, (r.0, k.1, subst (λ (xs : List FontAct). IsRun xs ch) (rooted_char page G r.0 s) r.2)))
    ]

runs_at_small : (page : Program) (G : FontSet) (n : ℕ) (ch : Char) → RunsAt (body G) n (acts_of page) ch → ch.code < 256
runs_at_small page G zero ch r = every_at IsSmall r.0 (Runs ch) r.1 (subst (Every IsSmall) r.2 (program_small page))
runs_at_small page G (suc n) ch r = let u = r.2 in every_at IsSmall u.0 (Runs ch) u.1 (subst (Every IsSmall) u.2 (body_small G r.0))

-- and the other way round
reaches : (page : Program) (G : FontSet) (n : ℕ) (ch : Char) → RunsAt (body G) n (acts_of page) ch → Reached (rooted page G) (suc n) root ch
reaches page G zero ch r = (root, refl, subst (λ (xs : List FontAct). IsRun xs ch) (sym (rooted_root page G)) r)
reaches page G (suc n) ch r = (r.0, reaches page G n r.0 r.1, subst (λ (xs : List FontAct). IsRun xs ch) (sym (rooted_char page G r.0 (runs_at_small page G n r.0 r.1))) r.2)

any_below : (k : Key) (es : List Entry) → list_any (same_key k) (map (λ (e : Entry). e.key) es) ≡ true → position_or_len (λ (e : Entry). same_key k e.key) es < length es
any_below k [] h = absurd (true≢false (sym h))
any_below k (e ∷ es) h = by (same_key k e.key) (any_below k es) h
  where
    by : (b : Bool) → (list_any (same_key k) (map (λ (e : Entry). e.key) es) ≡ true → position_or_len (λ (e : Entry). same_key k e.key) es < length es) → (b || list_any (same_key k) (map (λ (e : Entry). e.key) es)) ≡ true → cond (not b) (1 + position_or_len (λ (e : Entry). same_key k e.key) es) 0 < suc (length es)
    by true f g = omega arith
    by false f g = omega (arith, f g)

known_there : (F : FontSet) (k : Key) → list_any (same_key k) (keys_now F) ≡ true → IsThere (place_of F.fonts k)
unfolding keys_now place_of
known_there F k h =
    let l : position_or_len (λ (e : Entry). same_key k e.key) F.fonts < length F.fonts = any_below k F.fonts h in
    let t : nat_lt (position_or_len (λ (e : Entry). same_key k e.key) F.fonts) (length F.fonts) ≡ true = grind (arith, nat_tests, l) in
    subst (λ (b : Bool). IsThere (cond b (Some (position_or_len (λ (e : Entry). same_key k e.key) F.fonts)) None)) (sym t) tt

all_good : (page : Program) (F : FontSet) (seen : List Char) → ((ch : Char) → In seen ch → (ch ≡ root) ⊎ IsGood F (Runs ch)) → (acts : List FontAct) → Every IsSmall acts → Every (Seen same_key (rooted page F) (In seen) (keys_now F)) acts → Every (IsGood F) acts
all_good page F seen shown [] s h = tt
all_good page F seen shown (Selects k ∷ acts) s h = (known_there F k h.0, all_good page F seen shown acts s.1 h.1)
all_good page F seen shown (Runs ch ∷ acts) s h =
    (elim (shown ch h.0) [ inl e ↦ absurd (let c : ch.code ≡ 256 = ap (λ (x : Char). x.code) e in omega (arith, c, s.0)) | inr g ↦ g ], all_good page F seen shown acts s.1 h.1)
all_good page F seen shown (Wrong ∷ acts) s h = absurd h.0

pub covered : (page : Program) (bytes : List ℕ) (first : ℕ) (old now : FontSet) (vs : List Bool) → Found page bytes first old now vs [] → Covers now (acts_of page)
covered page bytes first old now vs s =
    let w = finished page bytes first old now vs s in
    let visited = all_visited same_key (rooted page now) root (keys_now old) (In w.0) (keys_now now) w.2 in
    let seen = ended same_key (rooted page now) root (keys_now old) (In w.0) (keys_now now) w.2 in
    let top = all_good page now w.0 w.1 (rooted page now root) (rooted_small page now root) (seen root (visited 0 root refl)) in
    record {
      here = subst (Every (IsGood now)) (rooted_root page now) top;
      inside = λ ch r.
          let small : ch.code < 256 = runs_at_small page now r.0 ch r.1 in
          let v = visited (suc r.0) ch (reaches page now r.0 ch r.1) in
          subst (Every (IsGood now)) (rooted_char page now ch small) (all_good page now w.0 w.1 (rooted page now ch) (rooted_small page now ch) (seen ch v));
    }

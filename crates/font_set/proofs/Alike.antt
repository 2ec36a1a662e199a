-- Two sets that have their fonts from the same files reach the same frames, where one of them covers what they start from.
use Rattle.std.proofs.Common.{◌≡◌, inl, inr, ℕ, zero, suc, List, [], ◌∷◌, ◌++◌, Option, Some, None, refl, sym, ap, subst, ◌∙◌, get_or}
use Rattle.std.specs.Prelude.{slice_get}
use Rattle.std.proofs.lemmas.List.Quantifiers.{position-Some}
use Rattle.std.proofs.lemmas.Option.{slice_get-get_or}
use Rattle.dv_base.specs.Shelf.{Contents}
use Rattle.dv_base.specs.declared.units.Units.{Units}
use Rattle.font_set.specs.Key.{Key, same_key}
use Rattle.font_set.specs.Fonts.{State, Entry, FontSet, place_of, entry_key, size_in, key_at, state_at, size_at, width_at, width_of, IsLoaded}
use Rattle.font_set.specs.FontOf.{FontOf}
use Rattle.font_set.specs.Programs.{Program, program_at, program_in}
use Rattle.font_set.specs.Acts.{RunsAt}
use Rattle.font_set.specs.Acts.Act.{Runs}
use Rattle.font_set.specs.Frames.{Char, FontAct, acts_of, acts_of_packet, body, body_at}
use Rattle.font_set.specs.Covers.{Covers, IsGood}
use Rattle.font_set.specs.LoadFaults.{InSome, PacketOf}
use Rattle.font_set.specs.Alike.{Alike, OneFontOf, Twin}
use Rattle.font_set.specs.declared.want.Want.{Want}
use Rattle.font_set.proofs.Growing.{good_place, shown_loaded}
use Rattle.font_set.proofs.Ids.{same_is}
use Rattle.font_set.proofs.Later.{packet_loaded, reached_good}

-- ---- keys and ids

key_placed : (es : List Entry) (k : Key) (i : ℕ) → place_of es k ≡ Some i → entry_key (slice_get es i) ≡ k
unfolding place_of
key_placed es k i e =
    let d : Entry = record { key = k; state = State.Known } in
    let a = position-Some (λ (x : Entry). same_key k x.key) es i d e in
    ap entry_key (slice_get-get_or es i d a.0) ∙ sym (same_is k (get_or es i d).key a.1)

-- the key of an id that a key has
pub key_is : (set : FontSet) (k : Key) (i : ℕ) → place_of set.fonts k ≡ Some i → key_at set i ≡ k
unfolding key_at
key_is set k i e = key_placed set.fonts k i e

size_key : (o : Option Entry) → size_in o ≡ (entry_key o).size
size_key None = refl
size_key (Some e) = refl

pub size_is : (set : FontSet) (k : Key) (i : ℕ) → place_of set.fonts k ≡ Some i → size_at set i ≡ k.size
unfolding size_at
size_is set k i e = size_key (slice_get set.fonts i) ∙ ap (λ (x : Key). x.size) (key_placed set.fonts k i e)

pub size_twin : (a b : FontSet) (key : Key) (i j : ℕ) → Twin a b key i j → size_at a i ≡ size_at b j
size_twin a b key i j t = size_is a key i t.left ∙ sym (size_is b key j t.right)

no_act : (front rest : List FontAct) (x : FontAct) → [] ≡ front ++ x ∷ rest → ⊥
no_act [] rest x e = absurd cc
no_act (y ∷ ys) rest x e = absurd cc

module _ (one : OneFontOf) (held : Contents) (a b : FontSet) (alike : Alike held a b) where
  -- ---- one font in both sets

  pub state_twin : (key : Key) (i j : ℕ) → Twin a b key i j → IsLoaded (state_at a i) → IsLoaded (state_at b j) → state_at a i ≡ state_at b j
  state_twin key i j t l m =
      let s = state_at a i in
      let mine = subst (λ (k : Key). FontOf held a.units a.want k s) (key_is a key i t.left) (alike.left i l) in
      let there = subst (λ (u : Units). FontOf held u b.want key s) alike.units (subst (λ (w : Want). FontOf held a.units w key s) alike.want mine) in
      one held b.units b.want key s (state_at b j) there (subst (λ (k : Key). FontOf held b.units b.want k (state_at b j)) (key_is b key j t.right) (alike.right j m))

  pub program_twin : (key : Key) (i j code : ℕ) → Twin a b key i j → IsLoaded (state_at a i) → IsLoaded (state_at b j) → program_at a i code ≡ program_at b j code
  unfolding program_at
  program_twin key i j code t l m =
      ap (λ (u : Units). program_in u (size_at a i) (state_at a i) code) alike.units
      ∙ ap (λ (n : ℕ). program_in b.units n (state_at a i) code) (size_twin a b key i j t)
      ∙ ap (λ (s : State). program_in b.units (size_at b j) s code) (state_twin key i j t l m)

  pub width_twin : (key : Key) (i j code : ℕ) → Twin a b key i j → IsLoaded (state_at a i) → IsLoaded (state_at b j) → width_at a i code ≡ width_at b j code
  unfolding width_at
  width_twin key i j code t l m = ap (λ (n : ℕ). width_of n (state_at a i) code) (size_twin a b key i j t) ∙ ap (λ (s : State). width_of (size_at b j) s code) (state_twin key i j t l m)

  -- ---- frames

  -- what a packet does that the one set has, it does in the other, where that can show its character
  same_body : (ch : Char) (front rest : List FontAct) (x : FontAct) → IsGood b (Runs ch) → body a ch ≡ front ++ x ∷ rest → body b ch ≡ front ++ x ∷ rest
  unfolding body
  same_body ch front rest x g e = by (place_of a.fonts ch.key) refl e
    where
      packet : (i : ℕ) → place_of a.fonts ch.key ≡ Some i → (o : Option Program) → program_at a i ch.code ≡ o → acts_of_packet o ≡ front ++ x ∷ rest → body_at b (place_of b.fonts ch.key) ch.code ≡ front ++ x ∷ rest
      packet i p None q h = absurd (no_act front rest x h)
      packet i p (Some program) q h =
          let j = good_place b ch g in
          let t : Twin a b ch.key i j.0 = record { left = p; right = j.1 } in
          ap (λ (o : Option ℕ). body_at b o ch.code) j.1
          ∙ ap acts_of_packet (sym (program_twin ch.key i j.0 ch.code t (packet_loaded a i ch.code program q) (shown_loaded (state_at b j.0) ch.code j.2)) ∙ q)
          ∙ h

      by : (o : Option ℕ) → place_of a.fonts ch.key ≡ o → body_at a o ch.code ≡ front ++ x ∷ rest → body_at b (place_of b.fonts ch.key) ch.code ≡ front ++ x ∷ rest
      by None p h = absurd (no_act front rest x h)
      by (Some i) p h = packet i p (program_at a i ch.code) refl h

  pub same_reach : (acts : List FontAct) (n : ℕ) (ch : Char) → Covers b acts → RunsAt (body a) n acts ch → RunsAt (body b) n acts ch
  same_reach acts zero ch c r = r
  same_reach acts (suc n) ch c r =
      let q = same_reach acts n r.0 c r.1 in
      let u = r.2 in
      (r.0, q, (u.0, u.1, same_body r.0 u.0 u.1 (Runs ch) (reached_good b acts n r.0 c q) u.2))

  -- a packet of the page in the one set is one in the other
  pub same_packet : (page : Program) (id code : ℕ) (program : Program) → Covers b (acts_of page) → PacketOf a page id code program → (j : ℕ) × PacketOf b page j code program
  same_packet page id code program c p =
      let r = p.reached in
      let q = same_reach (acts_of page) r.0 p.char c r.1 in
      let j = good_place b p.char (reached_good b (acts_of page) r.0 p.char c q) in
      let t : Twin a b p.char.key id j.0 = record { left = p.font; right = j.1 } in
      let loaded = packet_loaded a id code program p.packet in (
        j.0,
        record {
          char = p.char;
          reached = (r.0, q);
          font = j.1;
          same = p.same;
          packet = sym (program_twin p.char.key id j.0 code t loaded (shown_loaded (state_at b j.0) p.char.code j.2)) ∙ p.packet;
        },
      )

  pub same_frame : (page : Program) (P : Program → Type 0) → Covers b (acts_of page) → InSome a page P → InSome b page P
  same_frame page P c (inl h) = inl h
  same_frame page P c (inr h) = let p = same_packet page h.0 h.1 h.2 c h.3 in inr (p.0, h.1, h.2, p.1, h.4)

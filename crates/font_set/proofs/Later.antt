-- What was said of a page stays true when the set grows.
use Rattle.std.proofs.Common.{◌≡◌, ◌<◌, inl, inr, ℕ, zero, suc, ℤ, pos, List, [], ◌∷◌, ◌++◌, Option, Some, None, refl, sym, ap, subst, ◌∙◌, append_assoc}
use Rattle.dv_base.specs.declared.units.Units.{Units}
use Rattle.dvi_ops.specs.Command.{Command}
use Rattle.dvi_ops.specs.Command.Command.{Set, Put}
use Rattle.dvi_ops.specs.Placed.{Placed}
use Rattle.font_set.specs.Key.{Key}
use Rattle.font_set.specs.Fonts.{State, FontSet, place_of, state_at, size_at, IsLoaded}
use Rattle.font_set.specs.Programs.{Named, Scope, Program, program_at, program_in, key_of_first, id_of}
use Rattle.font_set.specs.Acts.{Every, IsRun, RunsAt, IsReached}
use Rattle.font_set.specs.Acts.Act.{Selects, Runs, Wrong}
use Rattle.font_set.specs.Frames.{Char, FontAct, acts_from, acts_with_first, acts_of, acts_of_command, acts_of_packet, char_act, select_act, selected, body, body_at}
use Rattle.font_set.specs.Covers.{IsGood, IsKnownAt, Covers, IsSet}
use Rattle.font_set.specs.Growth.{Extends}
use Rattle.font_set.specs.LoadFaults.{selected_after, PacketOf, InSome, IsCharCommand, SetsIn, SelectsKey, MustKnow, MustLoad}
use Rattle.font_set.specs.Search.{program_or, or_empty}
use Rattle.font_set.proofs.Order.{every_at}
use Rattle.font_set.proofs.Growing.{program_later, body_is, good_place, good_later, shown_loaded}
use Rattle.font_set.proofs.Finding.{runs_it}

-- ---- packets

some_loaded : (units : Units) (size : ℕ) (s : State) (code : ℕ) (p : Program) → program_in units size s code ≡ Some p → IsLoaded s
some_loaded units size State.Known code p e = absurd cc
some_loaded units size (State.Real tfm pk) code p e = absurd cc
some_loaded units size (State.Virtual tfm vf) code p e = tt

-- a font with a packet is loaded
pub packet_loaded : (set : FontSet) (id code : ℕ) (p : Program) → program_at set id code ≡ Some p → IsLoaded (state_at set id)
unfolding program_at
packet_loaded set id code p e = some_loaded set.units (size_at set id) (state_at set id) code p e

no_act : (front rest : List FontAct) (a : FontAct) → [] ≡ front ++ a ∷ rest → ⊥
no_act [] rest a e = absurd cc
no_act (b ∷ bs) rest a e = absurd cc

-- a frame that does something is the same later
body_later : (old new : FontSet) (ch : Char) (front rest : List FontAct) (a : FontAct) → Extends old new → body old ch ≡ front ++ a ∷ rest → body new ch ≡ front ++ a ∷ rest
unfolding body
body_later old new ch front rest a x e = by (place_of old.fonts ch.key) refl e
  where
    packet : (id : ℕ) → place_of old.fonts ch.key ≡ Some id → (o : Option Program) → program_at old id ch.code ≡ o → acts_of_packet o ≡ front ++ a ∷ rest → body_at new (place_of new.fonts ch.key) ch.code ≡ front ++ a ∷ rest
    packet id p None q h = absurd (no_act front rest a h)
    packet id p (Some program) q h =
        ap (λ (o : Option ℕ). body_at new o ch.code) (x.keys ch.key id p)
        ∙ ap acts_of_packet (program_later old new id ch.code x (packet_loaded old id ch.code program q) ∙ q)
        ∙ h

    by : (o : Option ℕ) → place_of old.fonts ch.key ≡ o → body_at old o ch.code ≡ front ++ a ∷ rest → body_at new (place_of new.fonts ch.key) ch.code ≡ front ++ a ∷ rest
    by None p h = absurd (no_act front rest a h)
    by (Some id) p h = packet id p (program_at old id ch.code) refl h

run_later : (old new : FontSet) (q ch : Char) → Extends old new → IsRun (body old q) ch → IsRun (body new q) ch
run_later old new q ch x r = (r.0, r.1, body_later old new q r.0 r.1 (Runs ch) x r.2)

runs_at_later : (old new : FontSet) (acts : List FontAct) (n : ℕ) (ch : Char) → Extends old new → RunsAt (body old) n acts ch → RunsAt (body new) n acts ch
runs_at_later old new acts zero ch x r = r
runs_at_later old new acts (suc n) ch x r = (r.0, runs_at_later old new acts n r.0 x r.1, run_later old new r.0 ch x r.2)

-- a frame that is reached is reached later
pub reached_later : (old new : FontSet) (acts : List FontAct) (ch : Char) → Extends old new → IsReached (body old) acts ch → IsReached (body new) acts ch
reached_later old new acts ch x r = (r.0, runs_at_later old new acts r.0 ch x r.1)

-- ---- what a page needs

packet_of_later : (old new : FontSet) (page : Program) (id code : ℕ) (program : Program) → Extends old new → PacketOf old page id code program → PacketOf new page id code program
packet_of_later old new page id code program x p =
    record {
      char = p.char;
      reached = reached_later old new (acts_of page) p.char x p.reached;
      font = x.keys p.char.key id p.font;
      same = p.same;
      packet = program_later old new id code x (packet_loaded old id code program p.packet) ∙ p.packet;
    }

pub in_some_later : (old new : FontSet) (page : Program) (P Q : Program → Type 0) → Extends old new → ((p : Program) → P p → Q p) → InSome old page P → InSome new page Q
in_some_later old new page P Q x f (inl p) = inl (f page p)
in_some_later old new page P Q x f (inr h) = inr (h.0, h.1, h.2, packet_of_later old new page h.0 h.1 h.2 x h.3, f h.2 h.4)

id_later : (old new : FontSet) (sel : Option Key) (id : ℕ) → Extends old new → id_of old sel ≡ Some id → id_of new sel ≡ Some id
id_later old new None id x e = absurd cc
id_later old new (Some k) id x e = x.keys k id e

sets_later : (old new : FontSet) (id : ℕ) (z : ℤ) (program : Program) → Extends old new → SetsIn old id z program → SetsIn new id z program
sets_later old new id z program x s = let c = s.1 in (s.0, c, s.2, id_later old new c.sel id x s.3)

-- a character that is set is set later
pub set_later : (old new : FontSet) (page : Program) (id : ℕ) (z : ℤ) → Extends old new → InSome old page (SetsIn old id z) → InSome new page (SetsIn new id z)
set_later old new page id z x s = in_some_later old new page (SetsIn old id z) (SetsIn new id z) x (λ p. sets_later old new id z p x) s

-- a font that must be loaded must be loaded later
pub must_load_later : (old new : FontSet) (page : Program) (id : ℕ) → Extends old new → MustLoad old page id → MustLoad new page id
must_load_later old new page id x m = (m.0, set_later old new page id m.0 x m.1)

-- a font that must be known must be known later
pub must_know_later : (old new : FontSet) (page : Program) (key : Key) → Extends old new → MustKnow old page key → MustKnow new page key
must_know_later old new page key x m = in_some_later old new page (SelectsKey key) (SelectsKey key) x (λ p s. s) m

-- ---- a set that covers a page

known_later : (old new : FontSet) (key : Key) → Extends old new → IsKnownAt (place_of old.fonts key) → IsKnownAt (place_of new.fonts key)
known_later old new key x h = by (place_of old.fonts key) refl h
  where
    by : (o : Option ℕ) → place_of old.fonts key ≡ o → IsKnownAt o → IsKnownAt (place_of new.fonts key)
    by None e k = absurd k
    by (Some id) e k = subst IsKnownAt (sym (x.keys key id e)) tt

all_later : (old new : FontSet) (acts : List FontAct) → Extends old new → Every (IsGood old) acts → Every (IsGood new) acts
all_later old new [] x h = tt
all_later old new (Selects key ∷ acts) x h = (known_later old new key x h.0, all_later old new acts x h.1)
all_later old new (Runs ch ∷ acts) x h = (good_later old new ch x h.0, all_later old new acts x h.1)
all_later old new (Wrong ∷ acts) x h = absurd h.0

-- the frame of a character that can be shown is the same later
good_body : (old new : FontSet) (ch : Char) → Extends old new → IsGood old (Runs ch) → body new ch ≡ body old ch
good_body old new ch x g =
    let p = good_place old ch g in
    let l = shown_loaded (state_at old p.0) ch.code p.2 in
    body_is new ch p.0 (x.keys ch.key p.0 p.1)
    ∙ ap (λ (o : Option Program). acts_of (or_empty o)) (program_later old new p.0 ch.code x l)
    ∙ sym (body_is old ch p.0 p.1)

-- a character that is reached can be shown
pub reached_good : (set : FontSet) (acts : List FontAct) (n : ℕ) (ch : Char) → Covers set acts → RunsAt (body set) n acts ch → IsGood set (Runs ch)
reached_good set acts zero ch c r = every_at (IsGood set) r.0 (Runs ch) r.1 (subst (Every (IsGood set)) r.2 c.here)
reached_good set acts (suc n) ch c r = let u = r.2 in every_at (IsGood set) u.0 (Runs ch) u.1 (subst (Every (IsGood set)) u.2 (c.inside r.0 (n, r.1)))

reached_before : (old new : FontSet) (acts : List FontAct) (n : ℕ) (ch : Char) → Extends old new → Covers old acts → RunsAt (body new) n acts ch → RunsAt (body old) n acts ch
reached_before old new acts zero ch x c r = r
reached_before old new acts (suc n) ch x c r =
    let q = reached_before old new acts n r.0 x c r.1 in
    (r.0, q, subst (λ (xs : List FontAct). IsRun xs ch) (good_body old new r.0 x (reached_good old acts n r.0 c q)) r.2)

-- a set that covers a page still does when it has grown
pub covers_later : (old new : FontSet) (acts : List FontAct) → Extends old new → Covers old acts → Covers new acts
covers_later old new acts x c =
    record {
      here = all_later old new acts x c.here;
      inside = λ ch r.
          let q = reached_before old new acts r.0 ch x c r.1 in
          subst (Every (IsGood new)) (sym (good_body old new ch x (reached_good old acts r.0 ch c q)))
          (all_later old new (body old ch) x (c.inside ch (r.0, q)));
    }

-- ---- characters that are set

pub acts_split : (scope : Scope) (sel : Option Key) (before cs : List Placed) → acts_from scope sel (before ++ cs) ≡ acts_from scope sel before ++ acts_from scope (selected_after scope sel before) cs
unfolding acts_from
acts_split scope sel [] cs = refl
acts_split scope sel (c ∷ before) cs =
    ap (λ (xs : List FontAct). acts_of_command scope sel c.command ++ xs) (acts_split scope (selected scope sel c.command) before cs)
    ∙ sym (append_assoc (acts_of_command scope sel c.command) (acts_from scope (selected scope sel c.command) before) (acts_from scope (selected_after scope (selected scope sel c.command) before) cs))

pub char_acts : (scope : Scope) (sel : Option Key) (c : Command) (z : ℤ) → IsCharCommand c z → acts_of_command scope sel c ≡ char_act sel z ∷ []
char_acts scope sel (Set y) z h = ap (λ (x : ℤ). char_act sel x ∷ []) h
char_acts scope sel (Put y) z h = ap (λ (x : ℤ). char_act sel x ∷ []) h
char_acts scope sel _ z h = absurd h

char_first : (scope : Scope) (sel : Option Key) (c : Placed) (cs : List Placed) (z : ℤ) → IsCharCommand c.command z → acts_from scope sel (c ∷ cs) ≡ char_act sel z ∷ acts_from scope (selected scope sel c.command) cs
unfolding acts_from
char_first scope sel c cs z h = ap (λ (xs : List FontAct). xs ++ acts_from scope (selected scope sel c.command) cs) (char_acts scope sel c.command z h)

-- the acts of a frame behind the selection of its first font
pub behind_first : (p : Program) → (front : List FontAct) × (acts_of p ≡ front ++ acts_from p.scope (key_of_first p.first) p.commands)
behind_first p = by p.first
  where
    by : (o : Option Named) → (front : List FontAct) × (acts_with_first p.scope o p.commands ≡ front ++ acts_from p.scope (key_of_first o) p.commands)
    by None = ([], refl)
    by (Some f) = (select_act f.key ∷ [], refl)

placed_key : (set : FontSet) (sel : Option Key) (id : ℕ) → id_of set sel ≡ Some id → (k : Key) × (sel ≡ Some k) × (place_of set.fonts k ≡ Some id)
placed_key set None id e = absurd cc
placed_key set (Some k) id e = (k, refl, e)

-- a character that a frame sets is run there
set_runs : (set : FontSet) (id code : ℕ) (p : Program) → code < 256 → SetsIn set id (pos code) p → (ch : Char) × (place_of set.fonts ch.key ≡ Some id) × (ch.code ≡ code) × IsRun (acts_of p) ch
set_runs set id code p l s =
    let c = s.1 in
    let k = placed_key set c.sel id s.3 in
    let at : Placed = record { place = s.0; command = c.command } in
    let b = behind_first p in
    let start = acts_from p.scope (key_of_first p.first) c.before in
    let rest = acts_from p.scope (selected p.scope (selected_after p.scope (key_of_first p.first) c.before) c.command) c.behind in
    let ch : Char = record { key = k.0; code = code } in
    let act : char_act (selected_after p.scope (key_of_first p.first) c.before) (pos code) ≡ Runs ch =
    ap (λ (o : Option Key). char_act o (pos code)) (sym c.selects ∙ k.1) ∙ runs_it k.0 code l in
    let commands : acts_from p.scope (key_of_first p.first) p.commands ≡ start ++ Runs ch ∷ rest =
    ap (acts_from p.scope (key_of_first p.first)) (sym c.whole)
    ∙ acts_split p.scope (key_of_first p.first) c.before (at ∷ c.behind)
    ∙ ap (λ (xs : List FontAct). start ++ xs) (char_first p.scope (selected_after p.scope (key_of_first p.first) c.before) at c.behind (pos code) s.2)
    ∙ ap (λ (a : FontAct). start ++ a ∷ rest) act in (
      ch,
      k.2,
      refl,
      (b.0 ++ start, rest, b.1 ∙ ap (λ (xs : List FontAct). b.0 ++ xs) commands ∙ sym (append_assoc b.0 start (Runs ch ∷ rest))),
    )

-- a packet that is run has the acts of its character
pub packet_body : (set : FontSet) (page : Program) (id code : ℕ) (program : Program) (p : PacketOf set page id code program) → body set p.char ≡ acts_of program
packet_body set page id code program p =
    body_is set p.char id p.font
    ∙ ap (λ (n : ℕ). acts_of (program_or set id n)) p.same
    ∙ ap (λ (o : Option Program). acts_of (or_empty o)) p.packet

-- a character that is set in a frame of the page is reached
pub is_set : (set : FontSet) (page : Program) (id code : ℕ) → code < 256 → InSome set page (SetsIn set id (pos code)) → IsSet set (acts_of page) id code
is_set set page id code l (inl s) = let r = set_runs set id code page l s in (r.0, (0, r.3), r.1, r.2)
is_set set page id code l (inr h) =
    let p = h.3 in
    let r = set_runs set id code h.2 l h.4 in
    let q = p.reached in
    (r.0, (suc q.0, (p.char, q.1, subst (λ (xs : List FontAct). IsRun xs r.0) (sym (packet_body set page h.0 h.1 h.2 p)) r.3)), r.1, r.2)

-- and its packet is one of the frames
pub set_packet : (set : FontSet) (page : Program) (id code : ℕ) (program : Program) → code < 256 → InSome set page (SetsIn set id (pos code)) → program_at set id code ≡ Some program → PacketOf set page id code program
set_packet set page id code program l s e =
    let r = is_set set page id code l s in
    record { char = r.0; reached = r.1; font = r.2; same = r.3; packet = e }

-- a character that is set stays so
pub is_set_later : (old new : FontSet) (acts : List FontAct) (id code : ℕ) → Extends old new → IsSet old acts id code → IsSet new acts id code
is_set_later old new acts id code x s = (s.0, reached_later old new acts s.0 x s.1, x.keys s.0.key id s.2, s.3)

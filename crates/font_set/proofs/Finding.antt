-- How far the search for a page's fonts has come: places in bytes beside the frames of the search.
use Rattle.std.proofs.Common.{◌≡◌, ◌≤◌, ◌<◌, ◌+◌, ◌*◌, ◌^◌, ◌⊎◌, inl, inr, ℕ, ℤ, pos, negsuc, arith, List, [], ◌∷◌, ◌++◌, Bool, true, false, length, drop, Option, Some, None, slice_set, refl, sym, ap, subst, ◌∙◌, nat_eq, append_assoc, true≢false}
use Rattle.std.specs.Prelude.{fold, if◌then◌else◌, nat_lt}
use Rattle.std.proofs.lemmas.Bool.Decides.{nat_tests}
use Rattle.indexmap.specs.IndexSet.{insert_key}
use Rattle.dvi_ops.specs.Command.{Command}
use Rattle.dvi_ops.specs.Command.Command.{Set, Put, Fnt}
use Rattle.dvi_ops.specs.Placed.{Placed, Lexes}
use Rattle.dvi_ops.specs.Spelling.{Spell}
use Rattle.std.proofs.Math.ListN.{drop_of_length-le}
use Rattle.dvi_doc.specs.declared.font.FontKey.{FontKey}
use Rattle.font_set.specs.Views.{key_of}
use Rattle.font_set.specs.Key.{Key, same_key}
use Rattle.font_set.specs.Fonts.{FontSet, place_of, state_at, IsLoaded}
use Rattle.font_set.specs.Programs.{Named, Scope, Program, key_in, key_of_first}
use Rattle.font_set.specs.Acts.{Every, Inside}
use Rattle.font_set.specs.Acts.Act.{Selects, Runs, Wrong}
use Rattle.font_set.specs.Frames.{Char, FontAct, acts_from, acts_with_first, acts_of, acts_of_command, char_act, select_act, selected}
use Rattle.font_set.specs.Covers.{IsGood, IsShown}
use Rattle.font_set.specs.LoadFaults.{selected_after}
use Rattle.font_set.specs.Growth.{Extends, Learnt, Loaded, keys_now}
use Rattle.font_set.specs.Locals.{FirstAnswer}
use Rattle.font_set.specs.Search.{LearntFirst, program_of, program_or, bytes_of, first_of, IsHome, IsSel, rooted, root, Tells, IsTurn, moves, SameStates, LoadsOnly}
use Rattle.font_set.specs.declared.agenda.Home.{Home}
use Rattle.font_set.specs.declared.agenda.Home.TheVariants as home
use Rattle.font_set.specs.declared.agenda.Place.{Place}
use Rattle.font_set.specs.declared.turn.Does.TheVariants as does
use Rattle.font_set.specs.declared.turn.Turn.{Turn}
use Rattle.font_set.specs.Progress.{Search}
use Rattle.font_set.specs.Found.{In, IsMarked, FontFrame, IsChar, HasSeen, IsAt, Pairs, Found, TurnHere}
use Rattle.font_set.proofs.Order.{begin, take_select, skip, enter, leave, in_order}
use Rattle.font_set.proofs.Ids.{one_key, id_below, same_self}
use Rattle.font_set.proofs.Growing.{extends_self, extends_on, program_same, bytes_same, home_later, sel_later, shown_loaded, good_of, good_later, rooted_root, rooted_is, marked_split}

pub runs_it : (k : Key) (code : ℕ) → code < 256 → char_act (Some k) (pos code) ≡ Runs (record { key = k; code = code })
runs_it k code l = grind (arith, nat_tests)

module _ (page : Program) (bytes : List ℕ) (first : ℕ) where
  char_later : (F G : FontSet) (h : Home) (ch : Char) → Extends F G → IsChar F h ch → IsChar G h ch
  char_later F G home.Page ch x c = c
  char_later F G (home.Packet id code) ch x c = (c.0, x.keys ch.key id c.1, c.2)

  pub at_later : (F G : FontSet) (p : Place) (f : FontFrame) → Extends F G → IsAt page bytes first F p f → IsAt page bytes first G p f
  at_later F G p f x a =
      let e = program_same F G page p.home x a.given in
      let b = bytes_same F G bytes p.home x a.given in
      record {
        char = char_later F G p.home f.packet x a.char;
        given = home_later F G p.home x a.given;
        ends = ap length b ∙ a.ends;
        short = a.short;
        before = a.before;
        rest = a.rest;
        whole = a.whole ∙ ap (λ (q : Program). q.commands) (sym e);
        lexed = subst (λ (bs : List ℕ). Lexes (first_of first p.home + p.at) (drop p.at bs) a.rest) (sym b) a.lexed;
        sel = a.sel;
        selects = a.selects ∙ ap (λ (q : Program). selected_after q.scope (key_of_first q.first) a.before) (sym e);
        ahead = a.ahead ∙ ap (λ (q : Program). acts_from q.scope a.sel a.rest) (sym e);
        same = sel_later F G a.sel p.font x a.same;
      }

  pub pairs_later : (F G : FontSet) (ps : List Place) (fs : List FontFrame) → Extends F G → Pairs page bytes first F ps fs → Pairs page bytes first G ps fs
  pairs_later F G [] [] x m = tt
  pairs_later F G [] (f ∷ fs) x m = m
  pairs_later F G (p ∷ ps) [] x m = m
  pairs_later F G (p ∷ ps) (f ∷ fs) x m = (at_later F G p f x m.0, pairs_later F G ps fs x m.1)

  -- ---- the first place, and what stands at the last one

  pub top : (old now : FontSet) (vs : List Bool) (p : Place) (ps : List Place) → Found page bytes first old now vs (p ∷ ps) → (f : FontFrame) × IsAt page bytes first now p f
  top old now vs p ps s = by s.frames s.pairs
    where
      by : (fs : List FontFrame) → Pairs page bytes first now (p ∷ ps) fs → (f : FontFrame) × IsAt page bytes first now p f
      by [] m = absurd m
      by (f ∷ fs) m = (f, m.0)

  abbrev pub NoFonts : ℕ → Type 0
  NoFonts i = ⊥

  loads_all : (old now : FontSet) (seen : List Char) → ((id : ℕ) → IsLoaded (state_at now id) → NoFonts id ⊎ (IsLoaded (state_at old id) ⊎ HasSeen now seen id)) → (id : ℕ) → IsLoaded (state_at now id) → IsLoaded (state_at old id) ⊎ HasSeen now seen id
  loads_all old now seen f id l = elim (f id l) [ inl none ↦ absurd none | inr o ↦ o ]

  -- The frame at the top. ks are the keys that the search knows; the fonts of X may be loaded though no character of theirs was met.
  pub record Opened (old now : FontSet) (X : ℕ → Type 0) (ks : List Key) (vs : List Bool) (p : Place) (ps : List Place) : Type 0 where
    pub seen : List Char
    pub frame : FontFrame
    pub frames : List FontFrame
    pub here : IsAt page bytes first now p frame
    pub pairs : Pairs page bytes first now ps frames
    pub shown : (ch : Char) → In seen ch → (ch ≡ root) ⊎ IsGood now (Runs ch)
    pub listed : (m : ℕ) → IsMarked vs m → (ch : Char) × (id : ℕ) × In seen ch × (ch.code < 256) × (place_of now.fonts ch.key ≡ Some id) × (m ≡ id * 256 + ch.code)
    pub loads : (id : ℕ) → IsLoaded (state_at now id) → X id ⊎ (IsLoaded (state_at old id) ⊎ HasSeen now seen id)
    pub extends : Extends old now
    pub search : (G : FontSet) → Extends now G → Search same_key (rooted page G) root (keys_now old) (In seen) ks (frame ∷ frames)

  pub opened : (old now : FontSet) (vs : List Bool) (p : Place) (ps : List Place) → Found page bytes first old now vs (p ∷ ps) → Opened old now NoFonts (keys_now now) vs p ps
  opened old now vs p ps s = by s.frames s.pairs s.search
    where
      by : (fs : List FontFrame) → Pairs page bytes first now (p ∷ ps) fs → ((G : FontSet) → Extends now G → Search same_key (rooted page G) root (keys_now old) (In s.seen) (keys_now now) fs) → Opened old now NoFonts (keys_now now) vs p ps
      by [] m k = absurd m
      by (f ∷ fs) m k = record { seen = s.seen; frame = f; frames = fs; here = m.0; pairs = m.1; shown = s.shown; listed = s.listed; loads = λ id l. inr (s.loads id l); extends = s.extends; search = k }

  seen_later : (F G : FontSet) (seen : List Char) (id : ℕ) → Extends F G → HasSeen F seen id → HasSeen G seen id
  seen_later F G seen id x h = record { char = h.char; listed = h.listed; small = h.small; placed = x.keys h.char.key id h.placed }

  -- the set has grown; Y are the fonts that were loaded
  pub grown : (old now new : FontSet) (Y : ℕ → Type 0) (ks : List Key) (vs : List Bool) (p : Place) (ps : List Place) → Extends now new
      → ((id : ℕ) → IsLoaded (state_at new id) → Y id ⊎ IsLoaded (state_at now id)) → Opened old now NoFonts ks vs p ps → Opened old new Y ks vs p ps
  grown old now new Y ks vs p ps x more s =
      record {
        seen = s.seen;
        frame = s.frame;
        frames = s.frames;
        here = at_later now new p s.frame x s.here;
        pairs = pairs_later now new ps s.frames x s.pairs;
        shown = λ ch i. elim (s.shown ch i) [ inl r ↦ inl r | inr g ↦ inr (good_later now new ch x g) ];
        listed = λ m k. let l = s.listed m k in (l.0, l.1, l.2, l.3, x.keys l.0.key l.1 l.4, l.5);
        loads = λ id l. elim (more id l) [
          | inl y ↦ inl y
          | inr k ↦ elim (s.loads id k) [ inl none ↦ absurd none | inr o ↦ elim o [ inl was ↦ inr (inl was) | inr h ↦ inr (inr (seen_later now new s.seen id x h)) ] ]
        ];
        extends = extends_on old now new s.extends x;
        search = λ G y. s.search G (extends_on now new G x y);
      }

  none_loaded : (now new : FontSet) → SameStates now new → (id : ℕ) → IsLoaded (state_at new id) → NoFonts id ⊎ IsLoaded (state_at now id)
  none_loaded now new e id l = inr (subst IsLoaded (e id) l)

  one_loaded : (now new : FontSet) (id : ℕ) → LoadsOnly now new id → (i : ℕ) → IsLoaded (state_at new i) → (i ≡ id) ⊎ IsLoaded (state_at now i)
  one_loaded now new id others i l = by (nat_eq i id) refl
    where
      by : (b : Bool) → nat_eq i id ≡ b → (i ≡ id) ⊎ IsLoaded (state_at now i)
      by true e = inl (grind (arith, nat_tests))
      by false e = inr (subst IsLoaded (others i (λ q. let k : nat_eq i id ≡ true = grind (arith, nat_tests) in true≢false (sym k ∙ e))) l)

  -- a font was loaded
  pub grown_loaded : (old now new : FontSet) (id : ℕ) (vs : List Bool) (p : Place) (ps : List Place) → Loaded now new id → LoadsOnly now new id → Opened old now NoFonts (keys_now now) vs p ps → Opened old new (λ i. i ≡ id) (keys_now new) vs p ps
  grown_loaded old now new id vs p ps d others s =
      subst (λ (ks : List Key). Opened old new (λ i. i ≡ id) ks vs p ps) (sym d.keeps)
      (grown old now new (λ i. i ≡ id) (keys_now now) vs p ps d.extends (one_loaded now new id others) s)

  -- ---- the steps

  -- at the end of a frame
  no_more : (at : ℕ) (cs : List Placed) → Lexes at [] cs → cs ≡ []
  no_more at [] l = refl
  no_more at (c ∷ cs) l = by l.1 l.3 l.4
    where
      by : (front : List ℕ) → [] ≡ front ++ l.2 → Spell c.command front → (c ∷ cs) ≡ []
      by [] e s = absurd s
      by (x ∷ xs) e s = absurd cc

  past : (bs : List ℕ) (n : ℕ) → length bs ≤ n → drop n bs ≡ []
  past bs n h = drop_of_length-le bs h

  pub left : (old now : FontSet) (vs : List Bool) (p : Place) (ps : List Place) → p.end ≤ p.at → Opened old now NoFonts (keys_now now) vs p ps → Found page bytes first old now vs ps
  unfolding acts_from
  left old now vs p ps h s =
      let a = s.here in
      let none : a.rest ≡ [] = no_more _ a.rest (subst (λ (bs : List ℕ). Lexes (first_of first p.home + p.at) bs a.rest) (past (bytes_of now bytes p.home) p.at (omega (arith, a.ends, h))) a.lexed) in
      let acts : s.frame.ahead ≡ [] = a.ahead ∙ ap (λ (cs : List Placed). acts_from (program_of now page p.home).scope a.sel cs) none ∙ nothing (program_of now page p.home).scope a.sel in
      record {
        seen = s.seen;
        frames = s.frames;
        pairs = s.pairs;
        shown = s.shown;
        listed = s.listed;
        loads = loads_all old now s.seen s.loads;
        extends = s.extends;
        search = λ G x. leave same_key (rooted page G) root (keys_now old) (In s.seen) (keys_now now) s.frame.packet s.frame.done s.frames
            (subst (λ (xs : List FontAct). Search same_key (rooted page G) root (keys_now old) (In s.seen) (keys_now now) (record { packet = s.frame.packet; done = s.frame.done; ahead = xs } ∷ s.frames)) acts (s.search G x));
      }
    where
      nothing : (scope : Scope) (sel : Option Key) → acts_from scope sel [] ≡ []
      nothing scope sel = refl

  after_one : (scope : Scope) (sel : Option Key) (cs : List Placed) (c : Placed) → selected_after scope sel (cs ++ c ∷ []) ≡ selected scope (selected_after scope sel cs) c.command
  after_one scope sel [] c = refl
  after_one scope sel (d ∷ cs) c = after_one scope (selected scope sel d.command) cs c

  acts_one : (scope : Scope) (sel : Option Key) (c : Placed) (cs : List Placed) → acts_from scope sel (c ∷ cs) ≡ acts_of_command scope sel c.command ++ acts_from scope (selected scope sel c.command) cs
  unfolding acts_from
  acts_one scope sel c cs = refl

  -- A place behind a command: the acts of the frame are those of the command, and then those ahead of the next place.
  pub record Moved (set : FontSet) (p : Place) (f : FontFrame) (t : Turn) : Type 0 where
    pub place : ℕ
    pub command : Command
    pub behind : List Placed
    pub before : List Placed
    pub tells : Tells (program_of set page p.home).scope command t.does
    pub sel : Option Key
    pub same : IsSel set sel p.font
    pub acts : f.ahead ≡ acts_of_command (program_of set page p.home).scope sel command ++ acts_from (program_of set page p.home).scope (selected (program_of set page p.home).scope sel command) behind
    pub next : (font : Option ℕ) (g : FontFrame) → g.packet ≡ f.packet → IsSel set (selected (program_of set page p.home).scope sel command) font
        → g.ahead ≡ acts_from (program_of set page p.home).scope (selected (program_of set page p.home).scope sel command) behind
        → IsAt page bytes first set (record { home = p.home; at = t.next; end = p.end; font = font }) g
    pub here : (place ≡ first_of first p.home + p.at) × (before ++ record { place = place; command = command } ∷ behind ≡ (program_of set page p.home).commands) × (sel ≡ selected_after (program_of set page p.home).scope (key_of_first (program_of set page p.home).first) before)

  pub moved : (set : FontSet) (p : Place) (f : FontFrame) (t : Turn) → IsTurn (program_of set page p.home).scope (first_of first p.home) p.at (bytes_of set bytes p.home) t → IsAt page bytes first set p f → Moved set p f t
  moved set p f t turn a =
      let pr = program_of set page p.home in
      let got = turn a.rest a.lexed in
      let n = got.0 in
      let c : Placed = record { place = first_of first p.home + p.at; command = n.command } in
      let whole : a.before ++ c ∷ n.behind ≡ pr.commands = ap (λ (cs : List Placed). a.before ++ cs) (sym n.split) ∙ a.whole in
      record {
        place = first_of first p.home + p.at;
        command = n.command;
        behind = n.behind;
        before = a.before;
        tells = got.1;
        sel = a.sel;
        same = a.same;
        acts = a.ahead ∙ ap (λ (cs : List Placed). acts_from pr.scope a.sel cs) n.split ∙ acts_one pr.scope a.sel c n.behind;
        next = λ font g e s h. record {
          char = subst (IsChar set p.home) (sym e) a.char;
          given = a.given;
          ends = a.ends;
          short = a.short;
          before = a.before ++ c ∷ [];
          rest = n.behind;
          whole = append_assoc a.before (c ∷ []) n.behind ∙ whole;
          lexed = n.lexed;
          sel = selected pr.scope a.sel n.command;
          selects = ap (λ (o : Option Key). selected pr.scope o n.command) a.selects ∙ sym (after_one pr.scope (key_of_first pr.first) a.before c);
          ahead = h;
          same = s;
        };
        here = (refl, whole, a.selects);
      }

  pub turn_later : (F G : FontSet) (p : Place) (t : Turn) → Extends F G → IsHome F p.home → IsTurn (program_of F page p.home).scope (first_of first p.home) p.at (bytes_of F bytes p.home) t → IsTurn (program_of G page p.home).scope (first_of first p.home) p.at (bytes_of G bytes p.home) t
  turn_later F G p t x h turn =
      subst (λ (q : Program). IsTurn q.scope (first_of first p.home) p.at (bytes_of G bytes p.home) t) (sym (program_same F G page p.home x h))
      (subst (λ (bs : List ℕ). IsTurn (program_of F page p.home).scope (first_of first p.home) p.at bs t) (sym (bytes_same F G bytes p.home x h)) turn)

  tells_nothing : (scope : Scope) (sel : Option Key) (c : Command) → Tells scope c does.Nothing → (acts_of_command scope sel c ≡ []) × (selected scope sel c ≡ sel)
  tells_nothing scope sel (Fnt k) h = absurd h
  tells_nothing scope sel (Set z) h = absurd h
  tells_nothing scope sel (Put z) h = absurd h
  tells_nothing scope sel _ h = (refl, refl)

  tells_selects : (scope : Scope) (sel : Option Key) (c : Command) (key : FontKey) → Tells scope c (does.Selects key) → (acts_of_command scope sel c ≡ Selects (key_of key) ∷ []) × (selected scope sel c ≡ Some (key_of key))
  tells_selects scope sel c key h =
      (ap (acts_of_command scope sel) h.1 ∙ ap (λ (o : Option Key). select_act o ∷ []) h.2, ap (selected scope sel) h.1 ∙ h.2)

  tells_sets : (scope : Scope) (sel : Option Key) (c : Command) (z : ℤ) → Tells scope c (does.Sets z) → (acts_of_command scope sel c ≡ char_act sel z ∷ []) × (selected scope sel c ≡ sel)
  tells_sets scope sel (Set y) z h = (ap (λ (x : ℤ). char_act sel x ∷ []) h, refl)
  tells_sets scope sel (Put y) z h = (ap (λ (x : ℤ). char_act sel x ∷ []) h, refl)
  tells_sets scope sel _ z h = absurd h

  -- a command that is nothing to fonts
  pub passed : (old now : FontSet) (vs : List Bool) (p : Place) (ps : List Place) (t : Turn) → TurnHere page bytes first now p t → t.does ≡ does.Nothing → Opened old now NoFonts (keys_now now) vs p ps → Found page bytes first old now vs (moves p t.next p.font ∷ ps)
  passed old now vs p ps t turn e s =
      let scope = (program_of now page p.home).scope in
      let m = moved now p s.frame t turn s.here in
      let w = tells_nothing scope m.sel m.command (subst (Tells scope m.command) e m.tells) in
      let none : IsSel now (selected scope m.sel m.command) p.font = subst (λ (o : Option Key). IsSel now o p.font) (sym w.1) m.same in
      let ahead : s.frame.ahead ≡ acts_from scope (selected scope m.sel m.command) m.behind = m.acts ∙ ap (λ (xs : List FontAct). xs ++ acts_from scope (selected scope m.sel m.command) m.behind) w.0 in
      record {
        seen = s.seen;
        frames = s.frame ∷ s.frames;
        pairs = (m.next p.font s.frame refl none ahead, s.pairs);
        shown = s.shown;
        listed = s.listed;
        loads = loads_all old now s.seen s.loads;
        extends = s.extends;
        search = s.search;
      }

  -- the search with an act at the top
  at_act : (G : FontSet) (ks0 : List Key) (V : Char → Type 0) (ks : List Key) (f : FontFrame) (fs : List FontFrame) (xs : List FontAct) → f.ahead ≡ xs → Search same_key (rooted page G) root ks0 V ks (f ∷ fs) → Search same_key (rooted page G) root ks0 V ks (record { packet = f.packet; done = f.done; ahead = xs } ∷ fs)
  at_act G ks0 V ks f fs xs e s = subst (λ (ys : List FontAct). Search same_key (rooted page G) root ks0 V ks (record { packet = f.packet; done = f.done; ahead = ys } ∷ fs)) e s

  -- a font is selected
  pub took : (old now new : FontSet) (vs : List Bool) (p : Place) (ps : List Place) (t : Turn) (key : FontKey) (id : ℕ) → TurnHere page bytes first now p t → t.does ≡ does.Selects key → Learnt now new (key_of key) → SameStates now new → place_of new.fonts (key_of key) ≡ Some id → Opened old now NoFonts (keys_now now) vs p ps → Found page bytes first old new vs (moves p t.next (Some id) ∷ ps)
  took old now new vs p ps t key id turn e l states i s0 =
      let s = grown old now new NoFonts (keys_now now) vs p ps l.extends (none_loaded now new states) s0 in
      let scope = (program_of new page p.home).scope in
      let m = moved new p s.frame t (turn_later now new p t l.extends s0.here.given turn) s.here in
      let w = tells_selects scope m.sel m.command key (subst (Tells scope m.command) e m.tells) in
      let rest = acts_from scope (selected scope m.sel m.command) m.behind in
      let ahead : s.frame.ahead ≡ Selects (key_of key) ∷ rest = m.acts ∙ ap (λ (xs : List FontAct). xs ++ rest) w.0 in
      let sel : IsSel new (selected scope m.sel m.command) (Some id) = subst (λ (o : Option Key). IsSel new o (Some id)) (sym w.1) i in
      let g : FontFrame = record { packet = s.frame.packet; done = s.frame.done ++ Selects (key_of key) ∷ []; ahead = rest } in
      record {
        seen = s.seen;
        frames = g ∷ s.frames;
        pairs = (m.next (Some id) g refl sel refl, s.pairs);
        shown = s.shown;
        listed = s.listed;
        loads = loads_all old new s.seen s.loads;
        extends = s.extends;
        search = λ G x. subst (λ (ks : List Key). Search same_key (rooted page G) root (keys_now old) (In s.seen) ks (g ∷ s.frames)) (sym l.learns)
            (take_select same_key (rooted page G) root (keys_now old) same_self (In s.seen) (keys_now now) s.frame.packet s.frame.done (key_of key) rest s.frames
            (at_act G (keys_now old) (In s.seen) (keys_now now) s.frame s.frames (Selects (key_of key) ∷ rest) ahead (s.search G x)));
      }

  -- a character of a selected font
  pub sel_key : (set : FontSet) (sel : Option Key) (id : ℕ) → IsSel set sel (Some id) → (k : Key) × (sel ≡ Some k) × (place_of set.fonts k ≡ Some id)
  sel_key set None id s = absurd s
  sel_key set (Some k) id s = (k, refl, s)

  -- The character at the top: its key, and the frame with its act in front.
  pub record Setting (now : FontSet) (p : Place) (f : FontFrame) (t : Turn) (id code : ℕ) : Type 0 where
    pub key : Key
    pub placed : place_of now.fonts key ≡ Some id
    pub rest : List FontAct
    pub ahead : f.ahead ≡ Runs (record { key = key; code = code }) ∷ rest
    pub next : (g : FontFrame) → g.packet ≡ f.packet → g.ahead ≡ rest → IsAt page bytes first now (moves p t.next (Some id)) g

  pub setting : (now : FontSet) (p : Place) (f : FontFrame) (t : Turn) (id code : ℕ) → TurnHere page bytes first now p t → t.does ≡ does.Sets (pos code) → code < 256 → p.font ≡ Some id → IsAt page bytes first now p f → Setting now p f t id code
  setting now p f t id code turn e l fo a =
      let scope = (program_of now page p.home).scope in
      let m = moved now p f t turn a in
      let w = tells_sets scope m.sel m.command (pos code) (subst (Tells scope m.command) e m.tells) in
      let k = sel_key now m.sel id (subst (IsSel now m.sel) fo m.same) in
      let rest = acts_from scope (selected scope m.sel m.command) m.behind in
      let act : char_act m.sel (pos code) ≡ Runs (record { key = k.0; code = code }) = ap (λ (o : Option Key). char_act o (pos code)) k.1 ∙ runs_it k.0 code l in
      let same : IsSel now (selected scope m.sel m.command) (Some id) = subst (λ (o : Option Key). IsSel now o (Some id)) (sym (w.1 ∙ k.1)) k.2 in
      record {
        key = k.0;
        placed = k.2;
        rest = rest;
        ahead = m.acts ∙ ap (λ (xs : List FontAct). xs ++ rest) w.0 ∙ ap (λ (x : FontAct). x ∷ rest) act;
        next = λ g q h. m.next (Some id) g q same h;
      }

  same_char : (k l : Key) (a b : ℕ) → k ≡ l → a ≡ b → (let x : Char = record { key = k; code = a } in x) ≡ record { key = l; code = b }
  same_char k l a b e f = rw (e, f) refl

  -- a character that was marked was visited
  pub marked_seen : (now : FontSet) (vs : List Bool) (seen : List Char) (k : Key) (id code : ℕ)
      → ((m : ℕ) → IsMarked vs m → (ch : Char) × (i : ℕ) × In seen ch × (ch.code < 256) × (place_of now.fonts ch.key ≡ Some i) × (m ≡ i * 256 + ch.code))
      → code < 256 → place_of now.fonts k ≡ Some id → IsMarked vs (id * 256 + code) → In seen (record { key = k; code = code })
  marked_seen now vs seen k id code listed l e m =
      let w = listed (id * 256 + code) m in
      let i : w.1 ≡ id = omega (arith, w.3, w.5, l) in
      let c : w.0.code ≡ code = omega (arith, w.3, w.5, l, i) in
      let key : w.0.key ≡ k = one_key now.fonts w.0.key k id (w.4 ∙ ap (λ (n : ℕ). Some n) i) e in
      subst (In seen) (same_char w.0.key k w.0.code code key c) w.2

  pub skipped : (old now : FontSet) (vs : List Bool) (p : Place) (ps : List Place) (t : Turn) (id code : ℕ) → TurnHere page bytes first now p t → t.does ≡ does.Sets (pos code) → code < 256 → p.font ≡ Some id → IsMarked vs (id * 256 + code) → Opened old now NoFonts (keys_now now) vs p ps → Found page bytes first old now vs (moves p t.next (Some id) ∷ ps)
  skipped old now vs p ps t id code turn e l fo k s =
      let m = setting now p s.frame t id code turn e l fo s.here in
      let ch : Char = record { key = m.key; code = code } in
      let v : In s.seen ch = marked_seen now vs s.seen m.key id code s.listed l m.placed k in
      let g : FontFrame = record { packet = s.frame.packet; done = s.frame.done ++ Runs ch ∷ []; ahead = m.rest } in
      record {
        seen = s.seen;
        frames = g ∷ s.frames;
        pairs = (m.next g refl refl, s.pairs);
        shown = s.shown;
        listed = s.listed;
        loads = loads_all old now s.seen s.loads;
        extends = s.extends;
        search = λ G x. skip same_key (rooted page G) root (keys_now old) (In s.seen) (keys_now now) s.frame.packet s.frame.done ch m.rest s.frames v
            (at_act G (keys_now old) (In s.seen) (keys_now now) s.frame s.frames (Runs ch ∷ m.rest) m.ahead (s.search G x));
      }

  -- ---- a packet is entered

  -- The frame of a packet behind the selection of its first font.
  pub record Begun (old now new : FontSet) (ch : Char) (V : Char → Type 0) (pr : Program) (font : Option ℕ) (fs : List FontFrame) : Type 0 where
    pub extends : Extends now new
    pub states : SameStates now new
    pub sel : Option Key
    pub selects : sel ≡ key_of_first pr.first
    pub same : IsSel new sel font
    pub done : List FontAct
    pub search : (G : FontSet) → Extends new G → Search same_key (rooted page G) root (keys_now old) V (keys_now new) (record { packet = ch; done = done; ahead = acts_from pr.scope sel pr.commands } ∷ fs)

  pub begun : (old now new : FontSet) (ch : Char) (V : Char → Type 0) (pr : Program) (key : Option FontKey) (font : Option ℕ) (fs : List FontFrame) → FirstAnswer pr.first key → LearntFirst now new key font
      → ((G : FontSet) → Extends now G → Search same_key (rooted page G) root (keys_now old) V (keys_now now) (record { packet = ch; done = []; ahead = acts_with_first pr.scope pr.first pr.commands } ∷ fs))
      → Begun old now new ch V pr font fs
  begun old now new ch V pr key font fs f l s = by pr.first refl key f l s
    where
      by : (o : Option Named) → pr.first ≡ o → (k : Option FontKey) → FirstAnswer o k → LearntFirst now new k font
          → ((G : FontSet) → Extends now G → Search same_key (rooted page G) root (keys_now old) V (keys_now now) (record { packet = ch; done = []; ahead = acts_with_first pr.scope o pr.commands } ∷ fs))
          → Begun old now new ch V pr font fs
      by None e None i g k =
          subst (λ (N : FontSet). Begun old now N ch V pr font fs) (sym g.0)
          (record {
            extends = extends_self now;
            states = λ i. refl;
            sel = None;
            selects = ap key_of_first (sym e);
            same = subst (λ (o : Option ℕ). IsSel now None o) (sym g.1) tt;
            done = [];
            search = k;
          })
      by None e (Some x) i g k = absurd i
      by (Some n) e None i g k = absurd i
      by (Some n) e (Some x) i g k =
          let key : Key = key_of x in
          let acts : acts_with_first pr.scope (Some n) pr.commands ≡ Selects key ∷ acts_from pr.scope (Some key) pr.commands =
          ap (λ (o : Option Key). select_act o ∷ acts_from pr.scope o pr.commands) i.0 in
          record {
            extends = g.0.extends;
            states = g.1;
            sel = Some key;
            selects = sym i.0 ∙ ap key_of_first (sym e);
            same = subst (λ (o : Option ℕ). IsSel new (Some key) o) (sym g.3) g.4;
            done = Selects key ∷ [];
            search = λ G y.
                subst (λ (ks : List Key). Search same_key (rooted page G) root (keys_now old) V ks (record { packet = ch; done = Selects key ∷ []; ahead = acts_from pr.scope (Some key) pr.commands } ∷ fs)) (sym g.0.learns)
                (take_select same_key (rooted page G) root (keys_now old) same_self V (keys_now now) ch [] key (acts_from pr.scope (Some key) pr.commands) fs
                (subst (λ (xs : List FontAct). Search same_key (rooted page G) root (keys_now old) V (keys_now now) (record { packet = ch; done = []; ahead = xs } ∷ fs)) acts (k G (extends_on now new G g.0.extends y))));
          }

  pub in_split : (seen : List Char) (ch r : Char) → In (ch ∷ seen) r → In seen r ⊎ (r ≡ ch)
  in_split seen ch r (inl e) = inr e
  in_split seen ch r (inr i) = inl i

  pub entered : (old now new : FontSet) (vs : List Bool) (p : Place) (ps : List Place) (t : Turn) (id code end : ℕ) (key : Option FontKey) (font : Option ℕ)
      → TurnHere page bytes first now p t → t.does ≡ does.Sets (pos code) → code < 256 → p.font ≡ Some id → IsShown (state_at now id) code
      → end ≤ 4194304 → length (bytes_of now [] (home.Packet id code)) ≡ end → Lexes 0 (bytes_of now [] (home.Packet id code)) (program_or now id code).commands
      → FirstAnswer (program_or now id code).first key → LearntFirst now new key font
      → id * 256 + code < length vs
      → Opened old now (λ i. i ≡ id) (keys_now now) vs p ps
      → Found page bytes first old new (slice_set vs (id * 256 + code) true) (record { home = home.Packet id code; at = 0; end = end; font = font } ∷ moves p t.next (Some id) ∷ ps)
  entered old now new vs p ps t id code end key font turn e l fo shown few long lexed begins learnt within s =
      let m = setting now p s.frame t id code turn e l fo s.here in
      let ch : Char = record { key = m.key; code = code } in
      let loaded : IsLoaded (state_at now id) = shown_loaded (state_at now id) code shown in
      let pr = program_or now id code in
      let g : FontFrame = record { packet = s.frame.packet; done = s.frame.done ++ Runs ch ∷ []; ahead = m.rest } in
      let W : List Char = ch ∷ s.seen in
      let enters : (G : FontSet) → Extends now G → Search same_key (rooted page G) root (keys_now old) (In W) (keys_now now) (record { packet = ch; done = []; ahead = acts_with_first pr.scope pr.first pr.commands } ∷ g ∷ s.frames) =
      λ G x.
      subst (λ (xs : List FontAct). Search same_key (rooted page G) root (keys_now old) (In W) (keys_now now) (record { packet = ch; done = []; ahead = xs } ∷ g ∷ s.frames)) (rooted_is page now G ch id x l m.placed loaded)
      (enter same_key (rooted page G) root (keys_now old) (In s.seen) (In W) (keys_now now) s.frame.packet s.frame.done ch m.rest s.frames (λ r v. inr v) (inl refl) (in_split s.seen ch)
      (at_act G (keys_now old) (In s.seen) (keys_now now) s.frame s.frames (Runs ch ∷ m.rest) m.ahead (s.search G x))) in
      let b = begun old now new ch (In W) pr key font (g ∷ s.frames) begins learnt enters in
      let f : FontFrame = record { packet = ch; done = b.done; ahead = acts_from pr.scope b.sel pr.commands } in
      let below : id < length now.fonts = id_below now.fonts m.key id m.placed in
      let given : IsHome now (home.Packet id code) = (below, loaded) in
      let same = program_same now new page (home.Packet id code) b.extends given in
      let bs = bytes_same now new [] (home.Packet id code) b.extends given in
      let here : IsAt page bytes first new (record { home = home.Packet id code; at = 0; end = end; font = font }) f =
      record {
        char = (l, b.extends.keys m.key id m.placed, refl);
        given = home_later now new (home.Packet id code) b.extends given;
        ends = ap length bs ∙ long;
        short = omega arith;
        before = [];
        rest = pr.commands;
        whole = ap (λ (q : Program). q.commands) (sym same);
        lexed = subst (λ (xs : List ℕ). Lexes 0 xs pr.commands) (sym bs) lexed;
        sel = b.sel;
        selects = b.selects ∙ ap (λ (q : Program). key_of_first q.first) (sym same);
        ahead = ap (λ (q : Program). acts_from q.scope b.sel pr.commands) (sym same);
        same = b.same;
      } in
      record {
        seen = W;
        frames = f ∷ g ∷ s.frames;
        pairs = (here, (at_later now new (moves p t.next (Some id)) g b.extends (m.next g refl refl), pairs_later now new ps s.frames b.extends s.pairs));
        shown = λ r i. elim i [
          | inl q ↦ inr (good_later now new r b.extends (subst (λ (x : Char). IsGood now (Runs x)) (sym q) (good_of now ch id l m.placed shown)))
          | inr j ↦ elim (s.shown r j) [ inl h ↦ inl h | inr h ↦ inr (good_later now new r b.extends h) ]
        ];
        listed = λ n k. elim (marked_split vs (id * 256 + code) n k) [
          | inl o ↦ (let w = s.listed n o in (w.0, w.1, inr w.2, w.3, b.extends.keys w.0.key w.1 w.4, w.5))
          | inr q ↦ (ch, id, inl refl, l, b.extends.keys m.key id m.placed, q)
        ];
        loads = λ i k. elim (s.loads i (subst IsLoaded (b.states i) k)) [
          | inl q ↦ inr (record { char = ch; listed = inl refl; small = l; placed = b.extends.keys m.key i (m.placed ∙ ap (λ (n : ℕ). Some n) (sym q)) })
          | inr o ↦ elim o [ inl was ↦ inl was | inr h ↦ inr (let g = seen_later now new s.seen i b.extends h in record { char = g.char; listed = inr g.listed; small = g.small; placed = g.placed }) ]
        ];
        extends = extends_on old now new s.extends b.extends;
        search = b.search;
      }

  -- ---- the start and the end

  pub started : (F : FontSet) (vs : List Bool) (end : ℕ) → ((m : ℕ) → IsMarked vs m → ⊥) → length bytes ≡ end → first + end < 2 ^ 31 → Lexes first bytes page.commands → page.first ≡ None → Found page bytes first F F vs (record { home = home.Page; at = 0; end = end; font = None } ∷ [])
  started F vs end unmet long few lexed none =
      let f : FontFrame = record { packet = root; done = []; ahead = acts_of page } in
      record {
        seen = root ∷ [];
        frames = f ∷ [];
        pairs = (
          record {
            char = refl;
            given = tt;
            ends = long;
            short = few;
            before = [];
            rest = page.commands;
            whole = refl;
            lexed = subst (λ (k : ℕ). Lexes k bytes page.commands) (omega arith) lexed;
            sel = None;
            selects = ap key_of_first (sym none);
            ahead = ap (λ (o : Option Named). acts_with_first page.scope o page.commands) none;
            same = tt;
          },
          tt,
        );
        shown = λ ch i. elim i [ inl h ↦ inl h | inr h ↦ absurd h ];
        listed = λ m k. absurd (unmet m k);
        loads = λ i l. inl l;
        extends = extends_self F;
        search = λ G x. subst (λ (xs : List FontAct). Search same_key (rooted page G) root (keys_now F) (In (root ∷ [])) (keys_now F) (record { packet = root; done = []; ahead = xs } ∷ [])) (rooted_root page G)
            (begin same_key (rooted page G) root (keys_now F) (In (root ∷ [])) (inl refl) (λ q v. elim v [ inl h ↦ h | inr h ↦ absurd h ]));
      }

  pub finished : (old now : FontSet) (vs : List Bool) → Found page bytes first old now vs [] → (seen : List Char) × ((ch : Char) → In seen ch → (ch ≡ root) ⊎ IsGood now (Runs ch)) × Search same_key (rooted page now) root (keys_now old) (In seen) (keys_now now) []
  finished old now vs s = by s.frames s.pairs (s.search now (extends_self now))
    where
      by : (fs : List FontFrame) → Pairs page bytes first now [] fs → Search same_key (rooted page now) root (keys_now old) (In s.seen) (keys_now now) fs → (seen : List Char) × ((ch : Char) → In seen ch → (ch ≡ root) ⊎ IsGood now (Runs ch)) × Search same_key (rooted page now) root (keys_now old) (In seen) (keys_now now) []
      by [] m k = (s.seen, s.shown, k)
      by (f ∷ fs) m k = absurd m

  pub ordered : (old now : FontSet) (vs : List Bool) → Found page bytes first old now vs [] → (n : ℕ) (all : List Key) → Inside (rooted page now) n root all → keys_now now ≡ fold (insert_key same_key) (keys_now old) all
  ordered old now vs s n all h = let w = finished old now vs s in in_order same_key (rooted page now) root (keys_now old) (In w.0) (keys_now now) w.2 n all h

-- a code is never that of the root
abbrev pub IsSmall : FontAct → Type 0
IsSmall (Runs ch) = ch.code < 256
IsSmall _ = Unit {0}

char_small : (sel : Option Key) (z : ℤ) → IsSmall (char_act sel z)
char_small None z = tt
char_small (Some k) (negsuc n) = tt
char_small (Some k) (pos c) = by (nat_lt c 256) refl
  where
    by : (b : Bool) → nat_lt c 256 ≡ b → IsSmall (if b then Runs (record { key = k; code = c }) else Wrong)
    by true e = grind (arith, nat_tests)
    by false e = tt

select_small : (o : Option Key) → IsSmall (select_act o)
select_small None = tt
select_small (Some k) = tt

command_small : (scope : Scope) (sel : Option Key) (c : Command) (rest : List FontAct) → Every IsSmall rest → Every IsSmall (acts_of_command scope sel c ++ rest)
command_small scope sel (Set z) rest h = (char_small sel z, h)
command_small scope sel (Put z) rest h = (char_small sel z, h)
command_small scope sel (Fnt k) rest h = (select_small (key_in scope.fonts k), h)
command_small scope sel _ rest h = h

acts_small : (scope : Scope) (sel : Option Key) (cs : List Placed) → Every IsSmall (acts_from scope sel cs)
unfolding acts_from
acts_small scope sel [] = tt
acts_small scope sel (c ∷ cs) = command_small scope sel c.command (acts_from scope (selected scope sel c.command) cs) (acts_small scope (selected scope sel c.command) cs)

pub program_small : (q : Program) → Every IsSmall (acts_of q)
program_small q = by q.first
  where
    by : (o : Option Named) → Every IsSmall (acts_with_first q.scope o q.commands)
    by None = acts_small q.scope None q.commands
    by (Some f) = (select_small f.key, acts_small q.scope f.key q.commands)

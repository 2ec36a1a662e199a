-- The keys of an expanded tree are those of the frames, in their order.
use Rattle.std.proofs.Common.{◌≡◌, ◌<◌, ℕ, zero, suc, ℤ, pos, negsuc, Bool, true, false, List, [], ◌∷◌, ◌++◌, Option, Some, None, refl, sym, ap, subst, ◌∙◌, append_assoc, nat_lt, if◌then◌else◌}
use Rattle.std.specs.Prelude.{fold}
use Rattle.indexmap.specs.IndexSet.{insert_key}
use Rattle.dvi_ops.specs.Command.{Command}
use Rattle.dvi_ops.specs.Command.Command.{Set, Put, Fnt, Push, Pop}
use Rattle.dvi_ops.specs.Placed.{Placed}
use Rattle.font_set.specs.Key.{Key, same_key}
use Rattle.font_set.specs.Fonts.{State, FontSet, place_of, size_at, state_at, width_at}
use Rattle.font_set.specs.Programs.{Named, Scope, Program, key_in, program_at, program_in}
use Rattle.font_set.specs.Acts.{Every, HasBy, Inside, IsRun, RunsAt}
use Rattle.font_set.specs.Acts.Act.{Selects, Runs, Wrong}
use Rattle.font_set.specs.Frames.{Char, FontAct, acts_from, acts_with_first, acts_of, acts_of_command, acts_of_packet, char_act, select_act, selected, body, body_at}
use Rattle.font_set.specs.Covers.{IsGood, Covers}
use Rattle.font_set.specs.Growth.{Extends, keys_now}
use Rattle.font_set.specs.LoadFaults.{selected_after}
use Rattle.font_set.specs.Search.{InOrder, rooted, root}
use Rattle.font_set.specs.Tree.{Tree, tree_of, commands_of}
use Rattle.font_set.specs.Tree.Tree.{End, Then, Group}
use Rattle.font_set.specs.Expand.{Shape, Shapes, Expanded, plain, in_font, boxed, grouped, shaped, set_in, node, selected_behind, expand_by, expand_tree, with_first, expand_frame, expand_packet, expand, keys_of}
use Rattle.font_set.specs.Shapes.{shape_by, shape_at, shapes_of}
use Rattle.font_set.proofs.Growing.{program_later, good_place, shown_loaded, rooted_char, rooted_root}
use Rattle.font_set.proofs.Finding.{runs_it}
use Rattle.font_set.proofs.Later.{acts_split}
use Rattle.font_set.proofs.Trees.{tree_commands}

-- ---- keys of acts

has_both : (R : Char → List Key → Type 0) (xs ys : List FontAct) (ks ls : List Key) → HasBy R xs ks → HasBy R ys ls → HasBy R (xs ++ ys) (ks ++ ls)
has_both R [] ys ks ls h g = subst (λ (ms : List Key). HasBy R ys (ms ++ ls)) (sym h) g
has_both R (Selects k ∷ xs) ys ks ls h g = (h.0 ++ ls, has_both R xs ys h.0 ls h.1 g, ap (λ (ms : List Key). ms ++ ls) h.2)
has_both R (Runs ch ∷ xs) ys ks ls h g =
    (h.0, h.1 ++ ls, h.2, has_both R xs ys h.1 ls h.3 g, ap (λ (ms : List Key). ms ++ ls) h.4 ∙ append_assoc h.0 h.1 ls)
has_both R (Wrong ∷ xs) ys ks ls h g = absurd h

every_front : (T : FontAct → Type 0) (xs ys : List FontAct) → Every T (xs ++ ys) → Every T xs
every_front T [] ys h = tt
every_front T (x ∷ xs) ys h = (h.0, every_front T xs ys h.1)

every_back : (T : FontAct → Type 0) (xs ys : List FontAct) → Every T (xs ++ ys) → Every T ys
every_back T [] ys h = h
every_back T (x ∷ xs) ys h = every_back T xs ys h.1

-- ---- one frame

-- a character that is run can be shown, and its packet is covered
abbrev IsFit : FontSet → FontAct → Type 0
IsFit set (Selects key) = Unit {0}
IsFit set (Runs ch) = IsGood set (Runs ch) × Covers set (body set ch)
IsFit set Wrong = ⊥

-- what a character of the tree gives: of a glyph nothing, and of a box what its packet gives
record Gives (set : FontSet) (shapes : Shapes) (run : Program → Option Expanded) (R : Char → List Key → Type 0) : Type 0 where
  of_glyph : (key : Key) (code : ℕ) (width : ℤ) → shapes key code ≡ Some (Shape.OfGlyph width) → IsFit set (Runs (record { key = key; code = code })) → R (record { key = key; code = code }) []
  of_box : (key : Key) (code : ℕ) (width : ℤ) (program : Program) (nodes : Expanded) → shapes key code ≡ Some (Shape.OfBox width program) → run program ≡ Some nodes
      → IsFit set (Runs (record { key = key; code = code })) → R (record { key = key; code = code }) (keys_of nodes)

after_select : (scope : Scope) (sel : Option Key) (t : Tree) → selected_after scope sel (commands_of t) ≡ selected_behind scope sel t
after_select scope sel End = refl
after_select scope sel (Then c t) = after_select scope (selected scope sel c.command) t
after_select scope sel (Group p i q t) =
    over (commands_of i) sel
    ∙ ap (λ (o : Option Key). selected_after scope o (commands_of t)) (after_select scope sel i)
    ∙ after_select scope (selected_behind scope sel i) t
  where
    over : (cs : List Placed) (s : Option Key) → selected_after scope s (cs ++ record { place = q; command = Pop } ∷ commands_of t) ≡ selected_after scope (selected_after scope s cs) (commands_of t)
    over [] s = refl
    over (c ∷ cs) s = over cs (selected scope s c.command)

command_acts : (scope : Scope) (sel : Option Key) (c : Placed) (cs : List Placed) → acts_from scope sel (c ∷ cs) ≡ acts_of_command scope sel c.command ++ acts_from scope (selected scope sel c.command) cs
unfolding acts_from
command_acts scope sel c cs = refl

module _ (set : FontSet) (shapes : Shapes) (run : Program → Option Expanded) (R : Char → List Key → Type 0) (gives : Gives set shapes run R) (scope : Scope) where
  -- a command and what is behind it
  abbrev Nodes : Option Key → List FontAct → Option Expanded → Type 0
  Nodes sel acts x = (y : Expanded) → x ≡ Some y → Every (IsFit set) acts → HasBy R acts (keys_of y)

  plain_keys : (size : Option ℕ) (c : Placed) (x : Option Expanded) (acts : List FontAct) → ((y : Expanded) → x ≡ Some y → Every (IsFit set) acts → HasBy R acts (keys_of y))
      → (y : Expanded) → plain size c x ≡ Some y → Every (IsFit set) acts → HasBy R acts (keys_of y)
  plain_keys size c None acts h y e f = absurd cc
  plain_keys size c (Some x) acts h y e f =
      let same : Expanded.Plain size c x ≡ y = cc in
      subst (λ (z : Expanded). HasBy R acts (keys_of z)) same (h x refl f)

  font_keys : (o : Option Key) (x : Option Expanded) (acts : List FontAct) → ((y : Expanded) → x ≡ Some y → Every (IsFit set) acts → HasBy R acts (keys_of y))
      → (y : Expanded) → in_font o x ≡ Some y → Every (IsFit set) (select_act o ∷ acts) → HasBy R (select_act o ∷ acts) (keys_of y)
  font_keys None x acts h y e f = absurd cc
  font_keys (Some key) None acts h y e f = absurd cc
  font_keys (Some key) (Some x) acts h y e f =
      let same : Expanded.InFont key x ≡ y = cc in
      subst (λ (z : Expanded). HasBy R (Selects key ∷ acts) (keys_of z)) same (keys_of x, h x refl f.1, refl)

  run_keys : (ch : Char) (acts : List FontAct) (inner rest : List Key) → R ch inner → HasBy R acts rest → HasBy R (Runs ch ∷ acts) (inner ++ rest)
  run_keys ch acts inner rest r h = (inner, rest, r, h, refl)

  shaped_keys : (key : Key) (code : ℕ) (moves : Bool) (s : Option Shape) → shapes key code ≡ s → (x : Option Expanded) (acts : List FontAct)
      → ((y : Expanded) → x ≡ Some y → Every (IsFit set) acts → HasBy R acts (keys_of y))
      → (y : Expanded) → shaped run key code moves s x ≡ Some y → Every (IsFit set) (Runs (record { key = key; code = code }) ∷ acts) → HasBy R (Runs (record { key = key; code = code }) ∷ acts) (keys_of y)
  shaped_keys key code moves None q x acts h y e f = absurd cc
  shaped_keys key code moves (Some (Shape.OfGlyph width)) q None acts h y e f = absurd cc
  shaped_keys key code moves (Some (Shape.OfGlyph width)) q (Some x) acts h y e f =
      let same : Expanded.Glyph key code width moves x ≡ y = cc in
      let ch : Char = record { key = key; code = code } in
      subst (λ (z : Expanded). HasBy R (Runs ch ∷ acts) (keys_of z)) same (run_keys ch acts [] (keys_of x) (gives.of_glyph key code width q f.0) (h x refl f.1))
  shaped_keys key code moves (Some (Shape.OfBox width program)) q x acts h y e f = by (run program) refl x h e
    where
      ch : Char
      ch = record { key = key; code = code }

      by : (o : Option Expanded) → run program ≡ o → (x : Option Expanded) → ((y : Expanded) → x ≡ Some y → Every (IsFit set) acts → HasBy R acts (keys_of y))
          → boxed key code width moves o x ≡ Some y → HasBy R (Runs (record { key = key; code = code }) ∷ acts) (keys_of y)
      by None r x h e = absurd cc
      by (Some nodes) r None h e = absurd cc
      by (Some nodes) r (Some x) h e =
          let same : Expanded.Boxed key code width moves nodes x ≡ y = cc in
          subst (λ (z : Expanded). HasBy R (Runs (record { key = key; code = code }) ∷ acts) (keys_of z)) same
          (run_keys (record { key = key; code = code }) acts (keys_of nodes) (keys_of x) (gives.of_box key code width program nodes q r f.0) (h x refl f.1))

  not_wrong : (key : Key) (code : ℕ) → IsFit set (char_act (Some key) (pos code)) → code < 256
  not_wrong key code h = by (nat_lt code 256) refl h
    where
      by : (b : Bool) → nat_lt code 256 ≡ b → IsFit set (if b then Runs (record { key = key; code = code }) else Wrong) → code < 256
      by true e h = let g = h.0 in g.0
      by false e h = absurd h

  set_keys : (sel : Option Key) (z : ℤ) (moves : Bool) (x : Option Expanded) (acts : List FontAct) → ((y : Expanded) → x ≡ Some y → Every (IsFit set) acts → HasBy R acts (keys_of y))
      → (y : Expanded) → set_in shapes run sel z moves x ≡ Some y → Every (IsFit set) (char_act sel z ∷ acts) → HasBy R (char_act sel z ∷ acts) (keys_of y)
  set_keys None z moves x acts h y e f = absurd cc
  set_keys (Some key) (negsuc n) moves x acts h y e f = absurd cc
  set_keys (Some key) (pos code) moves x acts h y e f =
      let act : char_act (Some key) (pos code) ≡ Runs (record { key = key; code = code }) = runs_it key code (not_wrong key code f.0) in
      subst (λ (a : FontAct). HasBy R (a ∷ acts) (keys_of y)) (sym act)
      (shaped_keys key code moves (shapes key code) refl x acts h y e (subst (λ (a : FontAct). Every (IsFit set) (a ∷ acts)) act f))

  node_keys : (sel : Option Key) (c : Placed) (d : Command) (x : Option Expanded) (acts : List FontAct) → ((y : Expanded) → x ≡ Some y → Every (IsFit set) acts → HasBy R acts (keys_of y))
      → (y : Expanded) → node shapes run scope sel c d x ≡ Some y → Every (IsFit set) (acts_of_command scope sel d ++ acts) → HasBy R (acts_of_command scope sel d ++ acts) (keys_of y)
  node_keys sel c (Set z) x acts h y e f = set_keys sel z true x acts h y e f
  node_keys sel c (Put z) x acts h y e f = set_keys sel z false x acts h y e f
  node_keys sel c (Fnt k) x acts h y e f = font_keys (key_in scope.fonts k) x acts h y e f
  node_keys sel c _ x acts h y e f = plain_keys scope.size c x acts h y e f

  -- a group and what is behind it
  group_keys : (i x : Option Expanded) (inside behind : List FontAct) → ((y : Expanded) → i ≡ Some y → Every (IsFit set) inside → HasBy R inside (keys_of y))
      → ((y : Expanded) → x ≡ Some y → Every (IsFit set) behind → HasBy R behind (keys_of y))
      → (y : Expanded) → grouped i x ≡ Some y → Every (IsFit set) (inside ++ behind) → HasBy R (inside ++ behind) (keys_of y)
  group_keys None x inside behind h g y e f = absurd cc
  group_keys (Some i) None inside behind h g y e f = absurd cc
  group_keys (Some i) (Some x) inside behind h g y e f =
      let same : Expanded.Grouped i x ≡ y = cc in
      subst (λ (z : Expanded). HasBy R (inside ++ behind) (keys_of z)) same
      (has_both R inside behind (keys_of i) (keys_of x) (h i refl (every_front (IsFit set) inside behind f)) (g x refl (every_back (IsFit set) inside behind f)))

  group_acts : (sel : Option Key) (p q : ℕ) (i t : Tree) → acts_from scope sel (commands_of (Group p i q t)) ≡ acts_from scope sel (commands_of i) ++ acts_from scope (selected_behind scope sel i) (commands_of t)
  group_acts sel p q i t =
      command_acts scope sel (record { place = p; command = Push }) (commands_of i ++ record { place = q; command = Pop } ∷ commands_of t)
      ∙ acts_split scope sel (commands_of i) (record { place = q; command = Pop } ∷ commands_of t)
      ∙ ap (λ (xs : List FontAct). acts_from scope sel (commands_of i) ++ xs) (command_acts scope (selected_after scope sel (commands_of i)) (record { place = q; command = Pop }) (commands_of t))
      ∙ ap (λ (o : Option Key). acts_from scope sel (commands_of i) ++ acts_from scope o (commands_of t)) (after_select scope sel i)

  nothing_from : (sel : Option Key) → acts_from scope sel [] ≡ []
  unfolding acts_from
  nothing_from sel = refl

  tree_keys : (sel : Option Key) (t : Tree) (y : Expanded) → expand_by shapes run scope sel t ≡ Some y → Every (IsFit set) (acts_from scope sel (commands_of t)) → HasBy R (acts_from scope sel (commands_of t)) (keys_of y)
  tree_keys sel End y e f =
      let same : Expanded.Done ≡ y = cc in
      subst (λ (xs : List FontAct). HasBy R xs (keys_of y)) (sym (nothing_from sel)) (ap keys_of (sym same))
  tree_keys sel (Then c t) y e f =
      let behind = acts_from scope (selected scope sel c.command) (commands_of t) in
      let acts = command_acts scope sel c (commands_of t) in
      subst (λ (xs : List FontAct). HasBy R xs (keys_of y)) (sym acts)
      (node_keys sel c c.command (expand_by shapes run scope (selected scope sel c.command) t) behind (tree_keys (selected scope sel c.command) t) y e
      (subst (λ (xs : List FontAct). Every (IsFit set) xs) acts f))
  tree_keys sel (Group p i q t) y e f =
      let inside = acts_from scope sel (commands_of i) in
      let behind = acts_from scope (selected_behind scope sel i) (commands_of t) in
      let acts = group_acts sel p q i t in
      subst (λ (xs : List FontAct). HasBy R xs (keys_of y)) (sym acts)
      (group_keys (expand_by shapes run scope sel i) (expand_by shapes run scope (selected_behind scope sel i) t) inside behind (tree_keys sel i) (tree_keys (selected_behind scope sel i) t) y e
      (subst (λ (xs : List FontAct). Every (IsFit set) xs) acts f))

  commands_keys : (sel : Option Key) (cs : List Placed) (o : Option Tree) → tree_of cs ≡ o → (y : Expanded) → expand_tree shapes run scope sel o ≡ Some y → Every (IsFit set) (acts_from scope sel cs) → HasBy R (acts_from scope sel cs) (keys_of y)
  commands_keys sel cs None q y e f = absurd cc
  commands_keys sel cs (Some t) q y e f =
      let same = tree_commands cs t q in
      subst (λ (xs : List Placed). HasBy R (acts_from scope sel xs) (keys_of y)) same
      (tree_keys sel t y e (subst (λ (xs : List Placed). Every (IsFit set) (acts_from scope sel xs)) (sym same) f))

  first_keys : (first : Option Named) (cs : List Placed) (y : Expanded) → with_first shapes run scope first (tree_of cs) ≡ Some y → Every (IsFit set) (acts_with_first scope first cs) → HasBy R (acts_with_first scope first cs) (keys_of y)
  first_keys None cs y e f = commands_keys None cs (tree_of cs) refl y e f
  first_keys (Some n) cs y e f = font_keys n.key (expand_tree shapes run scope n.key (tree_of cs)) (acts_from scope n.key cs) (commands_keys n.key cs (tree_of cs) refl) y e f

-- ---- frames in frames

runs_further : (set : FontSet) (acts : List FontAct) (ch : Char) → IsRun acts ch → (n : ℕ) (r : Char) → RunsAt (body set) n (body set ch) r → RunsAt (body set) (suc n) acts r
runs_further set acts ch i zero r h = (ch, i, h)
runs_further set acts ch i (suc n) r h = (h.0, runs_further set acts ch i n h.0 h.1, h.2)

inner_covers : (set : FontSet) (acts : List FontAct) (ch : Char) → Covers set acts → IsRun acts ch → Covers set (body set ch)
inner_covers set acts ch c i =
    record {
      here = c.inside ch (0, i);
      inside = λ r h. c.inside r (suc h.0, runs_further set acts ch i h.0 r h.1);
    }

all_fit : (set : FontSet) (acts : List FontAct) → Covers set acts → (front rest : List FontAct) → acts ≡ front ++ rest → Every (IsGood set) rest → Every (IsFit set) rest
all_fit set acts c front [] e g = tt
all_fit set acts c front (Selects key ∷ rest) e g = (tt, all_fit set acts c (front ++ Selects key ∷ []) rest (e ∙ sym (append_assoc front (Selects key ∷ []) rest)) g.1)
all_fit set acts c front (Runs ch ∷ rest) e g =
    ((g.0, inner_covers set acts ch c (front, rest, e)), all_fit set acts c (front ++ Runs ch ∷ []) rest (e ∙ sym (append_assoc front (Runs ch ∷ []) rest)) g.1)
all_fit set acts c front (Wrong ∷ rest) e g = absurd g.0

-- what the set tells later of a character that could be shown
shape_glyph : (later : FontSet) (id code : ℕ) (width : ℤ) → shape_at later (Some id) code ≡ Some (Shape.OfGlyph width) → program_at later id code ≡ None
unfolding program_at
shape_glyph later id code width e = by (state_at later id) (width_at later id code) e
  where
    by : (s : State) (w : Option ℤ) → shape_by s (program_in later.units (size_at later id) s code) w ≡ Some (Shape.OfGlyph width) → program_in later.units (size_at later id) s code ≡ None
    by State.Known w e = refl
    by (State.Real tfm pk) w e = refl
    by (State.Virtual tfm vf) w e = virtual (program_in later.units (size_at later id) (State.Virtual tfm vf) code) w e
      where
        virtual : (o : Option Program) (w : Option ℤ) → shape_by (State.Virtual tfm vf) o w ≡ Some (Shape.OfGlyph width) → o ≡ None
        virtual o None e = absurd cc
        virtual None (Some v) e = refl
        virtual (Some p) (Some v) e = absurd cc

shape_box : (s : State) (o : Option Program) (w : Option ℤ) (width : ℤ) (p : Program) → shape_by s o w ≡ Some (Shape.OfBox width p) → o ≡ Some p
shape_box s o None width p e = absurd cc
shape_box State.Known o (Some w) width p e = absurd cc
shape_box (State.Real tfm pk) o (Some w) width p e = absurd cc
shape_box (State.Virtual tfm vf) None (Some w) width p e = absurd cc
shape_box (State.Virtual tfm vf) (Some q) (Some w) width p e = let same : q ≡ p = cc in ap (λ (x : Program). Some x) same

-- The character's place, and its packet, which is the same later.
record Same (now later : FontSet) (ch : Char) : Type 0 where
  id : ℕ
  placed : place_of now.fonts ch.key ≡ Some id
  after : place_of later.fonts ch.key ≡ Some id
  packet : program_at later id ch.code ≡ program_at now id ch.code

same_packet : (now later : FontSet) (ch : Char) → Extends now later → IsGood now (Runs ch) → Same now later ch
same_packet now later ch x g =
    let p = good_place now ch g in
    record {
      id = p.0;
      placed = p.1;
      after = x.keys ch.key p.0 p.1;
      packet = program_later now later p.0 ch.code x (shown_loaded (state_at now p.0) ch.code p.2);
    }

body_of : (now : FontSet) (ch : Char) (id : ℕ) (o : Option Program) → place_of now.fonts ch.key ≡ Some id → program_at now id ch.code ≡ o → body now ch ≡ acts_of_packet o
unfolding body
body_of now ch id o e q = ap (λ (i : Option ℕ). body_at now i ch.code) e ∙ ap acts_of_packet q

module _ (page : Program) (now later : FontSet) (x : Extends now later) where
  inside_of : (n : ℕ) (ch : Char) (acts : List FontAct) (ks : List Key) → ch.code < 256 → body now ch ≡ acts → HasBy (Inside (rooted page now) n) acts ks → Inside (rooted page now) (suc n) ch ks
  inside_of n ch acts ks l e h = subst (λ (xs : List FontAct). HasBy (Inside (rooted page now) n) xs ks) (sym (rooted_char page now ch l ∙ e)) h

  -- the keys of packets that are nested n deep
  abbrev Boxes : ℕ → Type 0
  Boxes n = (program : Program) (nodes : Expanded) → expand_packet (shapes_of later) n program ≡ Some nodes → Covers now (acts_of program) → HasBy (Inside (rooted page now) n) (acts_of program) (keys_of nodes)

  gives_at : (n : ℕ) → Boxes n → Gives now (shapes_of later) (expand_packet (shapes_of later) n) (Inside (rooted page now) (suc n))
  gives_at n boxes =
      record {
        of_glyph = λ key code width e f.
            let ch : Char = record { key = key; code = code } in
            let s = same_packet now later ch x f.0 in
            let none = shape_glyph later s.id code width (ap (λ (o : Option ℕ). shape_at later o code) (sym s.after) ∙ e) in
            let g = f.0 in
            inside_of n ch [] [] g.0 (body_of now ch s.id None s.placed (sym s.packet ∙ none)) refl;
        of_box = λ key code width program nodes e r f.
            let ch : Char = record { key = key; code = code } in
            let s = same_packet now later ch x f.0 in
            let there = shape_box (state_at later s.id) (program_at later s.id code) (width_at later s.id code) width program (ap (λ (o : Option ℕ). shape_at later o code) (sym s.after) ∙ e) in
            let acts = body_of now ch s.id (Some program) s.placed (sym s.packet ∙ there) in
            let g = f.0 in
            inside_of n ch (acts_of program) (keys_of nodes) g.0 acts (boxes program nodes r (subst (Covers now) acts f.1));
      }

  frame_by : (n : ℕ) → Boxes n → (p : Program) (y : Expanded) → Covers now (acts_of p) → expand_frame (shapes_of later) (expand_packet (shapes_of later) n) p ≡ Some y → HasBy (Inside (rooted page now) (suc n)) (acts_of p) (keys_of y)
  frame_by n boxes p y c e =
      first_keys now (shapes_of later) (expand_packet (shapes_of later) n) (Inside (rooted page now) (suc n)) (gives_at n boxes) p.scope p.first p.commands y e
      (all_fit now (acts_of p) c [] (acts_of p) refl c.here)

  boxes_at : (n : ℕ) → Boxes n
  unfolding expand_packet
  boxes_at zero program nodes e c = absurd cc
  boxes_at (suc n) program nodes e c = frame_by n (boxes_at n) program nodes c e

  page_keys : (n : ℕ) (y : Expanded) → Covers now (acts_of page) → expand (shapes_of later) n page ≡ Some y → Inside (rooted page now) (suc (suc n)) root (keys_of y)
  page_keys n y c e = subst (λ (xs : List FontAct). HasBy (Inside (rooted page now) (suc n)) xs (keys_of y)) (sym (rooted_root page now)) (frame_by n (boxes_at n) page y c e)

pub order_of_tree : (old new later : FontSet) (page : Program) → InOrder old new page → Covers new (acts_of page) → Extends new later
    → (n : ℕ) (x : Expanded) → expand (shapes_of later) n page ≡ Some x → keys_now new ≡ fold (insert_key same_key) (keys_now old) (keys_of x)
order_of_tree old new later page order covers extends n x e = order (suc (suc n)) (keys_of x) (page_keys page new later extends n x covers e)

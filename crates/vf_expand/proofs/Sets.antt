-- Characters that were set one after another: behind them the walk goes on from another place, and their marks were taken.
use Rattle.std.proofs.Common.{◌≡◌, ◌≤◌, ◌<◌, ◌+◌, ◌∙◌, ℕ, zero, suc, ℤ, pos, List, [], ◌∷◌, ◌++◌, length, drop, Option, Some, None, refl, sym, ap, subst, append_assoc, arith}
use Rattle.std.proofs.lemmas.List.{append-nil}
use Rattle.dvi_ops.specs.Command.{Command}
use Rattle.dvi_ops.specs.Command.Command.{Set}
use Rattle.dvi_ops.specs.Laws.{OneSpelling}
use Rattle.dvi_ops.specs.Placed.{Placed, Lexes}
use Rattle.dvi_ops.specs.Spelling.{byte_at}
use Rattle.dvi_ops.proofs.Texts.{set_single}
use Rattle.positions.specs.Mark.{Mark, IsModerate}
use Rattle.positions.specs.Place.{Place}
use Rattle.font_set.specs.Count.{count_by, font_behind, runs, weight}
use Rattle.font_set.specs.Frames.{FontAct, acts_of_command}
use Rattle.font_set.specs.Tree.{tree_of}
use Rattle.vf_expand.specs.Grid.{Grid, State}
use Rattle.vf_expand.specs.Homes.{scope_in, meaning_in}
use Rattle.vf_expand.specs.Marks.{past_char, set_char, at_place, step, marks_of, marks_alone}
use Rattle.vf_expand.specs.Painted.{HasGlyph, IsPainted}
use Rattle.vf_expand.specs.Pages.{chars, glyph_at}
use Rattle.vf_expand.specs.Quick.{Sets, AreSet}
use Rattle.vf_expand.specs.Shallow.{PacketFinds, AllFindRoom}
use Rattle.vf_expand.specs.Takes.{Took, CanTake, RefusesNext}
use Rattle.vf_expand.specs.Turn.{turned, turn_marks, of_step}
use Rattle.vf_expand.specs.declared.home.Frame.{Frame}
use Rattle.vf_expand.proofs.Bytes.{Going, lexed_next, more_room}
use Rattle.vf_expand.proofs.Chars.{took_real}
use Rattle.vf_expand.proofs.Coming.{took_both}
use Rattle.vf_expand.proofs.Covering.{Ahead, ahead_next, painted_more}
use Rattle.vf_expand.proofs.Quick.{Known, known, can_take}
use Rattle.vf_expand.proofs.Rooms.{room_real, set_room}
use Rattle.vf_expand.proofs.Stopping.{Covers, can_on, covers_next}
use Rattle.vf_expand.proofs.Turns.{set_turn}

-- what is ahead from a place of the bytes on, where this font is selected
abbrev AheadAt : Frame → List FontAct → ℕ → List ℕ → ℕ → ℕ → Type 0
AheadAt f all id bytes from at = Ahead f.fonts.now (scope_in f) all (Some id) (drop at bytes) (from + at)

-- the character's byte spells its command
module _ (one : OneSpelling) (f : Frame) (all : List FontAct) (id : ℕ) (bytes : List ℕ) (from : ℕ) where
  known_at : (at : ℕ) (p q : Place) (m : Mark) → at < length bytes → (s : Sets f id (byte_at bytes at) p q m) → AheadAt f all id bytes from at → Known f id (byte_at bytes at) p s.wide
  known_at at p q m there s h =
      let k = set_single bytes at there s.quick.small in
      let x = ahead_next one f.fonts.now (scope_in f) all (Some id) bytes from at (at + 1) (Set (pos (byte_at bytes at))) k.0 k.1 k.2 h in
      known f x.sel id (byte_at bytes at) p s.wide x.same x.covers s.quick.char

  pub ahead_set : (start n : ℕ) (p q : Place) (ms : List Mark) → start + n ≤ length bytes → AreSet f id bytes start n p q ms → AheadAt f all id bytes from start → AheadAt f all id bytes from (start + n)
  ahead_set start zero p q ms b s h = subst (AheadAt f all id bytes from) (omega arith) h
  ahead_set start (suc n) p q ms b s h =
      let at = start + n in
      let k = set_single bytes at (omega (arith, b)) s.4.quick.small in
      let x = ahead_next one f.fonts.now (scope_in f) all (Some id) bytes from at (at + 1) (Set (pos (byte_at bytes at))) k.0 k.1 k.2 (ahead_set start n p s.0 s.1 (omega (arith, b)) s.3 h) in
      subst (AheadAt f all id bytes from) (omega arith) x.left

  pub counted_set : (start n : ℕ) (p q : Place) (ms : List Mark) → start + n ≤ length bytes → AreSet f id bytes start n p q ms → AheadAt f all id bytes from start → (named : ℤ → Option ℕ) (rest : List Placed) → Lexes (from + start) (drop start bytes) rest
      → (cs : List Placed) × Lexes (from + (start + n)) (drop (start + n) bytes) cs × (count_by (runs f.fonts.now f.nest) named (Some id) rest ≡ n + count_by (runs f.fonts.now f.nest) named (Some id) cs)
  counted_set start zero p q ms b s h named rest l = (rest, subst (λ (k : ℕ). Lexes (from + k) (drop k bytes) rest) (omega arith) l, omega arith)
  counted_set start (suc n) p q ms b s h named rest l =
      let at = start + n in
      let w = runs f.fonts.now f.nest in
      let cmd = Set (pos (byte_at bytes at)) in
      let k = set_single bytes at (omega (arith, b)) s.4.quick.small in
      let r = counted_set start n p s.0 s.1 (omega (arith, b)) s.3 h named rest l in
      let x = lexed_next one bytes from at (at + 1) cmd r.0 k.0 k.1 k.2 r.1 in
      let none = (known_at at s.0 q s.2 (omega (arith, b)) s.4 (ahead_set start n p s.0 s.1 (omega (arith, b)) s.3 h)).runs_none in
      let c : count_by w named (Some id) r.0 ≡ (1 + w (Some id) (pos (byte_at bytes at))) + count_by w named (Some id) x.1 = ap (count_by w named (Some id)) x.2 ∙ ap (λ (d : Command). weight w (Some id) d + count_by w named (font_behind named (Some id) d) x.1) x.3 in
      (x.1, subst (λ (k : ℕ). Lexes (from + k) (drop k bytes) x.1) (omega arith) x.5, omega (arith, c, r.2, none))

-- ---- marks that are listed

-- where a list stands for a canvas: the marks are put behind it
abbrev pub Listed : List Mark → List Mark → List Mark → Type 0
Listed a b ms = b ≡ a ++ ms

listed_chains : (a b c xs ys : List Mark) → Listed a b xs → Listed b c ys → Listed a c (xs ++ ys)
listed_chains a b c xs ys h k = k ∙ ap (λ (zs : List Mark). zs ++ ys) h ∙ append_assoc a xs ys

abbrev pub TookListed : Frame → List Mark → List Mark → List Mark → Type 0
TookListed f = Took (HasGlyph f.grid f.fonts.now) Listed

abbrev pub at_font : ℕ → Place → State
at_font id p = record { place = p; font = Some id }

-- How far a walk has come, where a list stands for the canvas.
abbrev pub GoingListed : Frame → State → List Placed → ℕ → List ℕ → ℕ → ℕ → List Place → List Mark → Place → Type 0
GoingListed f s0 cs id bytes from at os listed p =
    (go : Going (TookListed f) (meaning_in f) s0 cs (drop at bytes) (from + at) [] listed os (at_font id p)) × AllFindRoom (PacketFinds f.grid f.fonts.now f.nest) (meaning_in f) s0 go.before f.base

module _ (one : OneSpelling) (f : Frame) (all : List FontAct) (id : ℕ) (bytes : List ℕ) (from : ℕ) (s0 : State) (cs : List Placed) (os : List Place) where
  goes_next : (at : ℕ) (p q : Place) (m : Mark) (listed more : List Mark) → at < length bytes → Sets f id (byte_at bytes at) p q m → AheadAt f all id bytes from at → more ≡ listed ++ m ∷ [] → GoingListed f s0 cs id bytes from at os listed p → GoingListed f s0 cs id bytes from (at + 1) os more q
  goes_next at p q m listed more there s h e go =
      let op = byte_at bytes at in
      let w = s.wide.width in
      let glyph = glyph_at f.grid id op p w in
      let n = known_at one f all id bytes from at p q m there s h in
      let k = set_single bytes at there s.quick.small in
      let took : TookListed f listed more (glyph ∷ []) = (e ∙ ap (λ (x : Mark). listed ++ x ∷ []) s.shown, ((subst IsModerate s.shown s.moderate, n.glyph), tt)) in
      let turn = set_turn (TookListed f) listed more (meaning_in f) os (at_font id p) q (pos op) w (took_real (TookListed f) listed more (chars f.grid f.fonts.now f.nest (Some id) (pos op) p) glyph w n.marks took) s.past in
      more_room (TookListed f) (took_both (HasGlyph f.grid f.fonts.now) Listed listed_chains) one (meaning_in f) s0 cs bytes from at (at + 1) (Set (pos op)) [] listed more os os (at_font id p) (at_font id q) k.0 k.1 k.2 go.0 turn
      (PacketFinds f.grid f.fonts.now f.nest) f.base go.1 (set_room (PacketFinds f.grid f.fonts.now f.nest) f.base os (at_font id p) (pos op) (room_real f.grid f.fonts.now f.nest (f.base + length os) id op p n.program))

  pub goes_listed : (start n : ℕ) (p q : Place) (ms listed : List Mark) → start + n ≤ length bytes → AreSet f id bytes start n p q ms → AheadAt f all id bytes from start → GoingListed f s0 cs id bytes from start os listed p → GoingListed f s0 cs id bytes from (start + n) os (listed ++ ms) q
  goes_listed start zero p q ms listed b s h go =
      subst (λ (x : List Mark). GoingListed f s0 cs id bytes from (start + 0) os (listed ++ x) q) (sym s.1)
      (subst (λ (x : List Mark). GoingListed f s0 cs id bytes from (start + 0) os x q) (sym (append-nil listed))
      (subst (λ (x : Place). GoingListed f s0 cs id bytes from (start + 0) os listed x) s.0
      (subst (λ (k : ℕ). GoingListed f s0 cs id bytes from k os listed p) (omega arith) go)))
  goes_listed start (suc n) p q ms listed b s h go =
      let before = goes_listed start n p s.0 s.1 listed (omega (arith, b)) s.3 h go in
      let ahead = ahead_set one f all id bytes from start n p s.0 s.1 (omega (arith, b)) s.3 h in
      let e : listed ++ ms ≡ (listed ++ s.1) ++ s.2 ∷ [] = ap (λ (x : List Mark). listed ++ x) s.5 ∙ sym (append_assoc listed s.1 (s.2 ∷ [])) in
      subst (λ (k : ℕ). GoingListed f s0 cs id bytes from k os (listed ++ ms) q) (omega arith)
      (goes_next (start + n) s.0 q s.2 (listed ++ s.1) (listed ++ ms) (omega (arith, b)) s.4 ahead e before)

-- the selected font is known to be this one
pub going_with : {C : Type 0} (f : Frame) (id : ℕ) (bytes : List ℕ) (from at : ℕ) (os : List Place) (cs : List Placed) (s0 : State) (takes : C → C → List Mark → Type 0) (first now : C) (p : Place) (font : Option ℕ) → font ≡ Some id
    → (go : Going (Took (HasGlyph f.grid f.fonts.now) takes) (meaning_in f) s0 cs (drop at bytes) (from + at) first now os (record { place = p; font = font })) × AllFindRoom (PacketFinds f.grid f.fonts.now f.nest) (meaning_in f) s0 go.before f.base
    → (go : Going (Took (HasGlyph f.grid f.fonts.now) takes) (meaning_in f) s0 cs (drop at bytes) (from + at) first now os (at_font id p)) × AllFindRoom (PacketFinds f.grid f.fonts.now f.nest) (meaning_in f) s0 go.before f.base
going_with f id bytes from at os cs s0 takes first now p font e go =
    subst (λ (o : Option ℕ). (go : Going (Took (HasGlyph f.grid f.fonts.now) takes) (meaning_in f) s0 cs (drop at bytes) (from + at) first now os (record { place = p; font = o })) × AllFindRoom (PacketFinds f.grid f.fonts.now f.nest) (meaning_in f) s0 go.before f.base) e go

-- the list of what was taken stands for the canvas
pub listed_of : {C : Type 0} (takes : C → C → List Mark → Type 0) (f : Frame) (s0 : State) (cs : List Placed) (id : ℕ) (bytes : List ℕ) (from at : ℕ) (os : List Place) (first now : C) (p : Place)
    → (go : (go : Going (Took (HasGlyph f.grid f.fonts.now) takes) (meaning_in f) s0 cs (drop at bytes) (from + at) first now os (at_font id p)) × AllFindRoom (PacketFinds f.grid f.fonts.now f.nest) (meaning_in f) s0 go.before f.base) → GoingListed f s0 cs id bytes from at os go.0.taken p
listed_of takes f s0 cs id bytes from at os first now p go = (
  record {
    before = go.0.before;
    rest = go.0.rest;
    split = go.0.split;
    lexed = go.0.lexed;
    left = go.0.left;
    taken = go.0.taken;
    took = (refl, go.0.took.1);
    same = go.0.same;
  },
  go.1,
)

-- and back: the canvas has taken what was listed
pub goes_set : {C : Type 0} (takes : C → C → List Mark → Type 0) → ((a b c : C) (xs ys : List Mark) → takes a b xs → takes b c ys → takes a c (xs ++ ys)) → OneSpelling → (f : Frame) (all : List FontAct) (s0 : State) (cs : List Placed) (id : ℕ) (bytes : List ℕ) (from start n : ℕ) (os : List Place) (first now later : C) (p q : Place) (ms : List Mark)
    → start + n ≤ length bytes → AreSet f id bytes start n p q ms → takes now later ms → AheadAt f all id bytes from start
    → (go : Going (Took (HasGlyph f.grid f.fonts.now) takes) (meaning_in f) s0 cs (drop start bytes) (from + start) first now os (at_font id p)) × AllFindRoom (PacketFinds f.grid f.fonts.now f.nest) (meaning_in f) s0 go.before f.base
    → (go : Going (Took (HasGlyph f.grid f.fonts.now) takes) (meaning_in f) s0 cs (drop (start + n) bytes) (from + (start + n)) first later os (at_font id q)) × AllFindRoom (PacketFinds f.grid f.fonts.now f.nest) (meaning_in f) s0 go.before f.base
goes_set takes chains one f all s0 cs id bytes from start n os first now later p q ms b s t h go =
    let g = goes_listed one f all id bytes from s0 cs os start n p q ms go.0.taken b s h (listed_of takes f s0 cs id bytes from start os first now p go) in (
      record {
        before = g.0.before;
        rest = g.0.rest;
        split = g.0.split;
        lexed = g.0.lexed;
        left = g.0.left;
        taken = g.0.taken;
        took = (subst (takes first later) g.0.took.0 (chains first now later go.0.taken ms go.0.took.0 t), g.0.took.1);
        same = g.0.same;
      },
      g.1,
    )

pub going_at : {C : Type 0} (f : Frame) (id : ℕ) (bytes : List ℕ) (from at end : ℕ) (os : List Place) (cs : List Placed) (s0 : State) (takes : C → C → List Mark → Type 0) (first now : C) (p : Place) (font : Option ℕ) → font ≡ Some id → at ≡ end
    → (go : Going (Took (HasGlyph f.grid f.fonts.now) takes) (meaning_in f) s0 cs (drop at bytes) (from + at) first now os (at_font id p)) × AllFindRoom (PacketFinds f.grid f.fonts.now f.nest) (meaning_in f) s0 go.before f.base
    → (go : Going (Took (HasGlyph f.grid f.fonts.now) takes) (meaning_in f) s0 cs (drop end bytes) (from + end) first now os (record { place = p; font = font })) × AllFindRoom (PacketFinds f.grid f.fonts.now f.nest) (meaning_in f) s0 go.before f.base
going_at f id bytes from at end os cs s0 takes first now p font e k go =
    subst (λ (o : Option ℕ). (go : Going (Took (HasGlyph f.grid f.fonts.now) takes) (meaning_in f) s0 cs (drop end bytes) (from + end) first now os (record { place = p; font = o })) × AllFindRoom (PacketFinds f.grid f.fonts.now f.nest) (meaning_in f) s0 go.before f.base) (sym e)
    (subst (λ (x : ℕ). (go : Going (Took (HasGlyph f.grid f.fonts.now) takes) (meaning_in f) s0 cs (drop x bytes) (from + x) first now os (at_font id p)) × AllFindRoom (PacketFinds f.grid f.fonts.now f.nest) (meaning_in f) s0 go.before f.base) k go)

-- ---- the next one

module _ (one : OneSpelling) (f : Frame) (all : List FontAct) (id : ℕ) (bytes : List ℕ) (from : ℕ) (s0 : State) (cs : List Placed) (os : List Place) where
  set_marks : (g : Grid) (s : State) (o : Option (List Mark × ℤ)) (ms : List Mark) (w : ℤ) (q : Place) → o ≡ Some (ms, w) → past_char g w s.place ≡ Some q → turn_marks (of_step os (set_char g s o)) ≡ Some ms
  set_marks g s o ms w q e k = ap (λ (x : Option (List Mark × ℤ)). turn_marks (of_step os (set_char g s x))) e ∙ ap (λ (x : Option Place). turn_marks (of_step os (at_place ms s.font x))) k

  one_mark : (op : ℕ) (p q : Place) (m : Mark) (s : Sets f id op p q m) → Known f id op p s.wide → turn_marks (turned (meaning_in f) (Set (pos op)) os (at_font id p)) ≡ Some (m ∷ [])
  unfolding step
  one_mark op p q m s n = set_marks f.grid (at_font id p) (chars f.grid f.fonts.now f.nest (Some id) (pos op) p) (glyph_at f.grid id op p s.wide.width ∷ []) s.wide.width q n.marks s.past ∙ ap (λ (x : Mark). Some (x ∷ [])) (sym s.shown)

  -- it is covered by the marks of all
  pub covers_set : (at : ℕ) (p q : Place) (m : Mark) (listed : List Mark) → at < length bytes → Sets f id (byte_at bytes at) p q m → AheadAt f all id bytes from at → (go : GoingListed f s0 cs id bytes from at os listed p) → Covers listed (Some (m ∷ [])) (marks_alone (marks_of (meaning_in f) (tree_of cs) s0))
  covers_set at p q m listed there s h go =
      let op = byte_at bytes at in
      let k = set_single bytes at there s.quick.small in
      let n = lexed_next one bytes from at (at + 1) (Set (pos op)) go.0.rest k.0 k.1 k.2 go.0.lexed in
      let mark = one_mark op p q m s (known_at one f all id bytes from at p q m there s h) in
      let c = covers_next (TookListed f) (meaning_in f) s0 cs (drop at bytes) (from + at) [] listed os (at_font id p) go.0 n.0 n.1 (Set (pos op)) n.2 n.3 in
      subst (λ (x : List Mark). Covers x (Some (m ∷ [])) (marks_alone (marks_of (meaning_in f) (tree_of cs) s0))) (sym go.0.took.0)
      (subst (λ (o : Option (List Mark)). Covers go.0.taken o (marks_alone (marks_of (meaning_in f) (tree_of cs) s0))) mark c)

  -- the canvas can take its mark
  pub can_set : {C : Type 0} (can : C → Mark → Type 0) (c : C) (at : ℕ) (p q : Place) (m : Mark) (listed : List Mark) → at < length bytes → Sets f id (byte_at bytes at) p q m → AheadAt f all id bytes from at → GoingListed f s0 cs id bytes from at os listed p → CanTake can (IsPainted f.grid f.fonts.now all) c (marks_alone (marks_of (meaning_in f) (tree_of cs) s0)) → can c m
  can_set can c at p q m listed there s h go able =
      let op = byte_at bytes at in
      let cmd = Set (pos op) in
      let k = set_single bytes at there s.quick.small in
      let x = ahead_next one f.fonts.now (scope_in f) all (Some id) bytes from at (at + 1) cmd k.0 k.1 k.2 h in
      let n = lexed_next one bytes from at (at + 1) cmd go.0.rest k.0 k.1 k.2 go.0.lexed in
      let few = acts_of_command (scope_in f) x.sel cmd in
      can_take can f c id op p q m os s
      (record {
        sel = x.sel;
        same = x.same;
        covers = x.covers;
        can_take =
            can_on can c (IsPainted f.grid f.fonts.now few) (IsPainted f.grid f.fonts.now all) (painted_more f.grid f.fonts.now few all x.wider) go.0.taken
            (turn_marks (turned (meaning_in f) cmd os (at_font id p))) (marks_alone (marks_of (meaning_in f) (tree_of cs) s0))
            (covers_next (TookListed f) (meaning_in f) s0 cs (drop at bytes) (from + at) [] listed os (at_font id p) go.0 n.0 n.1 cmd n.2 n.3)
            able;
      })

-- where the canvas refused it
pub refused_set : {C F : Type 0} (refuses : C → C → List Mark → Mark → F → Type 0) (first new : C) (x : F) (listed : List Mark) (m : Mark) (o : Option (List Mark)) → Covers listed (Some (m ∷ [])) o → refuses first new listed m x → RefusesNext refuses first new x o
refused_set refuses first new x listed m None k h = (listed, m, h)
refused_set refuses first new x listed m (Some ms) k h = (listed, m, k.0, h, k.1)

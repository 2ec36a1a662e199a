-- Fonts that cover a frame cover what is left of it, and the packets that it runs.
use Rattle.std.proofs.Common.{◌≡◌, ◌≤◌, ◌<◌, ◌+◌, ℕ, zero, suc, List, [], ◌∷◌, ◌++◌, length, drop, slice_range, Option, Some, None, refl, sym, ap, subst, ◌∙◌, append_assoc}
use Rattle.dvi_ops.specs.Command.{Command}
use Rattle.dvi_ops.specs.Command.Command.{Fnt}
use Rattle.dvi_ops.specs.Spelling.{Spell}
use Rattle.dvi_ops.specs.Placed.{Placed, Lexes}
use Rattle.dvi_ops.specs.Laws.{OneSpelling}
use Rattle.font_set.specs.Key.{Key}
use Rattle.font_set.specs.Fonts.{FontSet}
use Rattle.font_set.specs.Programs.{Named, Scope, Program, select, id_of, key_of_first, first_font}
use Rattle.font_set.specs.Acts.{Every, IsRun, RunsAt, IsReached}
use Rattle.font_set.specs.Acts.Act.{Runs}
use Rattle.font_set.specs.Frames.{Char, FontAct, select_act, acts_of_command, selected, acts_from, acts_with_first, acts_of, body}
use Rattle.font_set.specs.Covers.{IsGood, Covers, IsSet}
use Rattle.font_set.specs.Count.{font_behind}
use Rattle.positions.specs.Mark.{Glyph}
use Rattle.vf_expand.specs.Grid.{Grid}
use Rattle.vf_expand.specs.Painted.{IsPainted}
use Rattle.dvi_doc.specs.Grammar.{IsInner, AllInner}
use Rattle.vf_expand.proofs.Bytes.{lexed_next}

-- ---- what is reached

run_left : (xs ys : List FontAct) (ch : Char) → IsRun xs ch → IsRun (xs ++ ys) ch
run_left xs ys ch r = (r.0, r.1 ++ ys, ap (λ (zs : List FontAct). zs ++ ys) r.2 ∙ append_assoc r.0 (Runs ch ∷ r.1) ys)

run_right : (xs ys : List FontAct) (ch : Char) → IsRun ys ch → IsRun (xs ++ ys) ch
run_right xs ys ch r = (xs ++ r.0, r.1, ap (λ (zs : List FontAct). xs ++ zs) r.2 ∙ sym (append_assoc xs r.0 (Runs ch ∷ r.1)))

runs_more : (b : Char → List FontAct) (xs ys : List FontAct) → ((ch : Char) → IsRun xs ch → IsRun ys ch) → (n : ℕ) (ch : Char) → RunsAt b n xs ch → RunsAt b n ys ch
runs_more b xs ys f zero ch r = f ch r
runs_more b xs ys f (suc n) ch r = (r.0, runs_more b xs ys f n r.0 r.1, r.2)

reached_more : (b : Char → List FontAct) (xs ys : List FontAct) → ((ch : Char) → IsRun xs ch → IsRun ys ch) → (ch : Char) → IsReached b xs ch → IsReached b ys ch
reached_more b xs ys f ch r = (r.0, runs_more b xs ys f r.0 ch r.1)

runs_in : (b : Char → List FontAct) (xs : List FontAct) (c : Char) → IsRun xs c → (n : ℕ) (ch : Char) → RunsAt b n (b c) ch → RunsAt b (suc n) xs ch
runs_in b xs c r zero ch h = (c, r, h)
runs_in b xs c r (suc n) ch h = (h.0, runs_in b xs c r n h.0 h.1, h.2)

pub reached_in : (b : Char → List FontAct) (xs : List FontAct) (c : Char) → IsRun xs c → (ch : Char) → IsReached b (b c) ch → IsReached b xs ch
reached_in b xs c r ch h = (suc h.0, runs_in b xs c r h.0 ch h.1)

-- ---- parts of frames

every_left : (T : FontAct → Type 0) (xs ys : List FontAct) → Every T (xs ++ ys) → Every T xs
every_left T [] ys h = tt
every_left T (x ∷ xs) ys h = (h.0, every_left T xs ys h.1)

every_right : (T : FontAct → Type 0) (xs ys : List FontAct) → Every T (xs ++ ys) → Every T ys
every_right T [] ys h = h
every_right T (x ∷ xs) ys h = every_right T xs ys h.1

pub covers_left : (set : FontSet) (xs ys : List FontAct) → Covers set (xs ++ ys) → Covers set xs
covers_left set xs ys c =
    record { here = every_left (IsGood set) xs ys c.here; inside = λ ch r. c.inside ch (reached_more (body set) xs (xs ++ ys) (run_left xs ys) ch r) }

pub covers_right : (set : FontSet) (xs ys : List FontAct) → Covers set (xs ++ ys) → Covers set ys
covers_right set xs ys c =
    record { here = every_right (IsGood set) xs ys c.here; inside = λ ch r. c.inside ch (reached_more (body set) ys (xs ++ ys) (run_right xs ys) ch r) }

pub covers_in : (set : FontSet) (xs : List FontAct) (c : Char) → IsRun xs c → Covers set xs → Covers set (body set c)
covers_in set xs c r h = record { here = h.inside c (0, r); inside = λ ch k. h.inside ch (reached_in (body set) xs c r ch k) }

set_more : (set : FontSet) (xs ys : List FontAct) → ((ch : Char) → IsReached (body set) xs ch → IsReached (body set) ys ch) → (id code : ℕ) → IsSet set xs id code → IsSet set ys id code
set_more set xs ys f id code h = (h.0, f h.0 h.1, h.2, h.3)

pub painted_more : (g : Grid) (set : FontSet) (xs ys : List FontAct) → ((ch : Char) → IsReached (body set) xs ch → IsReached (body set) ys ch) → (glyph : Glyph) → IsPainted g set xs glyph → IsPainted g set ys glyph
painted_more g set xs ys f glyph h = (set_more set xs ys f glyph.font glyph.code h.0, h.1)

-- ---- a frame, from a place on

-- What is left of a frame from a place on, where a font is selected: the set covers it, and reaches in it nothing but what it reaches
-- in all of the frame.
pub record Ahead (set : FontSet) (scope : Scope) (all : List FontAct) (font : Option ℕ) (ahead : List ℕ) (at : ℕ) : Type 0 where
  pub rest : List Placed
  pub lexed : Lexes at ahead rest
  pub inner : AllInner rest
  pub sel : Option Key
  pub same : id_of set sel ≡ font
  pub covers : Covers set (acts_from scope sel rest)
  pub wider : (ch : Char) → IsReached (body set) (acts_from scope sel rest) ch → IsReached (body set) all ch

start_by : (set : FontSet) (scope : Scope) (first : Option Named) (cs : List Placed) (bytes : List ℕ) (at : ℕ) (font : Option ℕ) → Lexes at bytes cs → AllInner cs → Covers set (acts_with_first scope first cs) → font ≡ id_of set (key_of_first first) → Ahead set scope (acts_with_first scope first cs) font bytes at
start_by set scope None cs bytes at font l i c e = record { rest = cs; lexed = l; inner = i; sel = None; same = sym e; covers = c; wider = λ ch r. r }
start_by set scope (Some f) cs bytes at font l i c e =
    let xs = acts_from scope f.key cs in
    record {
      rest = cs;
      lexed = l;
      inner = i;
      sel = f.key;
      same = sym e;
      covers = covers_right set (select_act f.key ∷ []) xs c;
      wider = reached_more (body set) xs (select_act f.key ∷ xs) (run_right (select_act f.key ∷ []) xs);
    }

pub ahead_start : (set : FontSet) (p : Program) (bytes : List ℕ) (at : ℕ) (font : Option ℕ) → Lexes at bytes p.commands → AllInner p.commands → Covers set (acts_of p) → font ≡ first_font set p → Ahead set p.scope (acts_of p) font bytes at
unfolding first_font
ahead_start set p bytes at font l i c e = start_by set p.scope p.first p.commands bytes at font l i c e

-- the font behind a command is that of the key behind it
pub behind_is : (set : FontSet) (scope : Scope) (sel : Option Key) (c : Command) → id_of set (selected scope sel c) ≡ font_behind (select set scope) (id_of set sel) c
unfolding select
behind_is set scope sel (Fnt k) = refl
behind_is set scope sel _ = refl

-- The next command of a frame, and what is left behind it.
pub record Next (set : FontSet) (scope : Scope) (all : List FontAct) (font : Option ℕ) (cmd : Command) (ahead : List ℕ) (at : ℕ) : Type 0 where
  pub inner : IsInner cmd
  pub sel : Option Key
  pub same : id_of set sel ≡ font
  pub covers : Covers set (acts_of_command scope sel cmd)
  pub wider : (ch : Char) → IsReached (body set) (acts_of_command scope sel cmd) ch → IsReached (body set) all ch
  pub left : Ahead set scope all (font_behind (select set scope) font cmd) ahead at

acts_next : (scope : Scope) (sel : Option Key) (c : Placed) (cs : List Placed) → acts_from scope sel (c ∷ cs) ≡ acts_of_command scope sel c.command ++ acts_from scope (selected scope sel c.command) cs
unfolding acts_from
acts_next scope sel c cs = refl

pub ahead_next : OneSpelling → (set : FontSet) (scope : Scope) (all : List FontAct) (font : Option ℕ) (bytes : List ℕ) (from at end : ℕ) (cmd : Command) → at < end → end ≤ length bytes → Spell cmd (slice_range bytes at end) → Ahead set scope all font (drop at bytes) (from + at) → Next set scope all font cmd (drop end bytes) (from + end)
ahead_next one set scope all font bytes from at end cmd a b s h =
    let n = lexed_next one bytes from at end cmd h.rest a b s h.lexed in
    let inner : AllInner (n.0 ∷ n.1) = subst AllInner n.2 h.inner in
    let acts : acts_from scope h.sel h.rest ≡ acts_of_command scope h.sel cmd ++ acts_from scope (selected scope h.sel cmd) n.1 =
    ap (acts_from scope h.sel) n.2 ∙ acts_next scope h.sel n.0 n.1 ∙ ap (λ (d : Command). acts_of_command scope h.sel d ++ acts_from scope (selected scope h.sel d) n.1) n.3 in
    let xs = acts_of_command scope h.sel cmd in
    let ys = acts_from scope (selected scope h.sel cmd) n.1 in
    let c : Covers set (xs ++ ys) = subst (Covers set) acts h.covers in
    let w : (ch : Char) → IsReached (body set) (xs ++ ys) ch → IsReached (body set) all ch = λ ch r. h.wider ch (subst (λ (zs : List FontAct). IsReached (body set) zs ch) (sym acts) r) in
    record {
      inner = subst IsInner n.3 inner.0;
      sel = h.sel;
      same = h.same;
      covers = covers_left set xs ys c;
      wider = λ ch r. w ch (reached_more (body set) xs (xs ++ ys) (run_left xs ys) ch r);
      left =
          record {
            rest = n.1;
            lexed = n.5;
            inner = inner.1;
            sel = selected scope h.sel cmd;
            same = behind_is set scope h.sel cmd ∙ ap (λ (f : Option ℕ). font_behind (select set scope) f cmd) h.same;
            covers = covers_right set xs ys c;
            wider = λ ch r. w ch (reached_more (body set) ys (xs ++ ys) (run_right xs ys) ch r);
          };
    }

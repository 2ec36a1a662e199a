-- Where the search stops, the fault is true of a frame of the page.
use Rattle.std.proofs.Common.{◌≡◌, ◌<◌, ◌+◌, inl, inr, ℕ, ℤ, List, [], ◌∷◌, ◌++◌, Bool, length, drop, Option, Some, None, refl, sym, ap, subst, ◌∙◌, arith}
use Rattle.dvi_ops.specs.Command.{Command}
use Rattle.dvi_ops.specs.Command.Command.{Set, Put, Fnt}
use Rattle.dvi_ops.specs.Placed.{Placed, Lexes}
use Rattle.dv_base.specs.declared.font_id.Spot.{Spot}
use Rattle.font_set.specs.Key.{Key, same_key}
use Rattle.font_set.specs.Fonts.{State, FontSet, place_of, state_at, size_at}
use Rattle.vf_packets.specs.Font.{packet_of}
use Rattle.std.proofs.Math.ListN.{length-drop}
use Rattle.font_set.specs.Programs.{Scope, Program, program_at, program_in, packet_program, lexed, locals_at, locals_in, locals_of, head_of, id_of}
use Rattle.font_set.specs.Frames.{Char}
use Rattle.dv_base.specs.Shelf.{Told}
use Rattle.dvi_doc.specs.declared.font.FontKey.{FontKey}
use Rattle.font_set.specs.Views.{key_of}
use Rattle.font_set.specs.LoadFaults.{CommandOf, PacketOf, InFrame, InSome, IsCharCommand, SelectsNone, SetsNowhere, SetsIn, SelectsKey, MustKnow, FontFaultIs, LoadFaultIs}
use Rattle.font_set.specs.declared.fault.FontFault.{FontFault}
use Rattle.font_set.specs.declared.fault.FontFault.TheVariants as font
use Rattle.font_set.specs.Growth.{keys_now}
use Rattle.font_set.specs.Search.{fonts_of, program_of, program_or, or_empty, bytes_of, first_of, spot_at, IsSel, IsTurnFault, BadAt, Tells, rooted, root}
use Rattle.font_set.specs.Progress.{Search}
use Rattle.font_set.specs.Found.{In, FontFrame, IsChar, IsAt, TurnHere}
use Rattle.font_set.specs.declared.agenda.Home.{Home}
use Rattle.font_set.specs.declared.agenda.Home.TheVariants as home
use Rattle.font_set.specs.declared.agenda.Place.{Place}
use Rattle.font_set.specs.declared.turn.Turn.{Turn}
use Rattle.font_set.specs.declared.turn.Does.TheVariants as does
use Rattle.font_set.specs.declared.fault.LoadFault.{LoadFault}
use Rattle.font_set.specs.declared.fault.LoadFault.TheVariants as load
use Rattle.font_set.proofs.Growing.{extends_self}
use Rattle.font_set.proofs.Finding.{Opened, Moved, NoFonts, moved, sel_key}
use Rattle.font_set.proofs.Ending.{reached_in}

-- the fonts of a packet are the local ones of its font
fonts_in : (units : Rattle.dv_base.specs.declared.units.Units.Units) (size : ℕ) (s : State) (code : ℕ) (pr : Program) → program_in units size s code ≡ Some pr → pr.scope.fonts ≡ locals_in units.num units.den size s
fonts_in units size State.Known code pr e = absurd cc
fonts_in units size (State.Real tfm pk) code pr e = absurd cc
fonts_in units size (State.Virtual tfm vf) code pr e = by (lexed (packet_of vf code)) e
  where
    by : (o : Option (List Placed)) → packet_program units.num units.den size vf o ≡ Some pr → pr.scope.fonts ≡ locals_of units.num units.den size vf
    by None q = absurd cc
    by (Some cs) q = let w : record_of cs ≡ pr = cc in ap (λ (x : Program). x.scope.fonts) (sym w)
      where
        record_of : List Placed → Program
        record_of cs = record { scope = record { size = Some size; fonts = locals_of units.num units.den size vf }; first = head_of (locals_of units.num units.den size vf); commands = cs }

program_fonts : (set : FontSet) (id code : ℕ) (pr : Program) → program_at set id code ≡ Some pr → pr.scope.fonts ≡ locals_at set id
unfolding program_at locals_at
program_fonts set id code pr e = fonts_in set.units (size_at set id) (state_at set id) code pr e

-- a frame that has a command is a packet
some_program : (o : Option Program) (before behind : List Placed) (c : Placed) → before ++ c ∷ behind ≡ (or_empty o).commands → o ≡ Some (or_empty o)
some_program (Some p) before behind c e = refl
some_program None [] behind c e = absurd cc
some_program None (d ∷ ds) behind c e = absurd cc

sel_none : (set : FontSet) (sel : Option Key) → IsSel set sel None → sel ≡ None
sel_none set None s = refl
sel_none set (Some k) s = absurd s

char_command : (scope : Scope) (c : Command) (z : ℤ) → Tells scope c (does.Sets z) → IsCharCommand c z
char_command scope (Set y) z h = h
char_command scope (Put y) z h = h
char_command scope _ z h = absurd h

module _ (page : Program) (bytes : List ℕ) (first : ℕ) where
  abbrev Here : FontSet → FontSet → (ℕ → Type 0) → List Key → Place → FontFrame → List FontFrame → List Char → Type 0
  Here old now X ks p f fs seen = IsChar now p.home f.packet × Search same_key (rooted page now) root (keys_now old) (In seen) ks (f ∷ fs)

  -- the packet of the frame at the top
  packet_here : (old now : FontSet) (ks : List Key) (id code : ℕ) (f : FontFrame) (fs : List FontFrame) (seen : List Char)
      → (f.packet.code < 256) × (place_of now.fonts f.packet.key ≡ Some id) × (f.packet.code ≡ code)
      → Search same_key (rooted page now) root (keys_now old) (In seen) ks (f ∷ fs)
      → (before behind : List Placed) (c : Placed) → before ++ c ∷ behind ≡ (program_or now id code).commands → PacketOf now page id code (program_or now id code)
  packet_here old now ks id code f fs seen h s before behind c w =
      let chain = s.chain in
      let r = s.reached f.packet chain.2 in
      record {
        char = f.packet;
        reached = reached_in page now r.0 f.packet h.0 r.1;
        font = h.1;
        same = h.2;
        packet = some_program (program_at now id code) before behind c w;
      }

  in_frame : (old now : FontSet) (ks : List Key) (f : FontFrame) (fs : List FontFrame) (seen : List Char) (at : ℕ)
      → Search same_key (rooted page now) root (keys_now old) (In seen) ks (f ∷ fs)
      → (h : Home) → IsChar now h f.packet
      → (before behind : List Placed) (c : Placed) → before ++ c ∷ behind ≡ (program_of now page h).commands
      → (Q : Program → ℕ → Type 0) → Q (program_of now page h) at → InFrame now page (spot_at h at) Q
  in_frame old now ks f fs seen at s home.Page ch before behind c w Q q = q
  in_frame old now ks f fs seen at s (home.Packet id code) ch before behind c w Q q =
      (program_or now id code, packet_here old now ks id code f fs seen ch s before behind c w, q)

  in_some : (old now : FontSet) (ks : List Key) (f : FontFrame) (fs : List FontFrame) (seen : List Char)
      → Search same_key (rooted page now) root (keys_now old) (In seen) ks (f ∷ fs)
      → (h : Home) → IsChar now h f.packet
      → (before behind : List Placed) (c : Placed) → before ++ c ∷ behind ≡ (program_of now page h).commands
      → (Q : Program → Type 0) → Q (program_of now page h) → InSome now page Q
  in_some old now ks f fs seen s home.Page ch before behind c w Q q = inl q
  in_some old now ks f fs seen s (home.Packet id code) ch before behind c w Q q =
      inr (id, code, program_or now id code, packet_here old now ks id code f fs seen ch s before behind c w, q)

  -- where a frame isn't at its end its fonts are those of its home
  pub fonts_here : (set : FontSet) (p : Place) (f : FontFrame) → IsAt page bytes first set p f → p.at < p.end → (program_of set page p.home).scope.fonts ≡ fonts_of set page p.home
  fonts_here set p f a h = by p.home a.whole (some_rest a.rest a.lexed)
    where
      some_rest : (rest : List Placed) → Lexes (first_of first p.home + p.at) (drop p.at (bytes_of set bytes p.home)) rest → (c : Placed) × (behind : List Placed) × (rest ≡ c ∷ behind)
      some_rest [] l = absurd (omega (arith, h, a.ends, length-drop p.at (bytes_of set bytes p.home), ap length l))
      some_rest (c ∷ behind) l = (c, behind, refl)

      by : (h : Home) → a.before ++ a.rest ≡ (program_of set page h).commands → (c : Placed) × (behind : List Placed) × (a.rest ≡ c ∷ behind) → (program_of set page h).scope.fonts ≡ fonts_of set page h
      by home.Page w r = refl
      by (home.Packet id code) w r =
          program_fonts set id code (program_or set id code)
          (some_program (program_at set id code) a.before r.1 r.0 (subst (λ (cs : List Placed). a.before ++ cs ≡ (program_or set id code).commands) r.2 w))

  -- the command at the place of the last frame
  command_here : (set : FontSet) (p : Place) (f : FontFrame) (t : Turn) → Moved page bytes first set p f t → CommandOf (program_of set page p.home) (first_of first p.home + p.at)
  command_here set p f t m =
      let here = m.here in
      record {
        before = m.before;
        command = m.command;
        behind = m.behind;
        whole = subst (λ (n : ℕ). m.before ++ record { place = n; command = m.command } ∷ m.behind ≡ (program_of set page p.home).commands) here.0 here.1;
        sel = m.sel;
        selects = here.2;
      }

  -- a character is set where no font is selected
  pub no_font : (old now : FontSet) (vs : List Bool) (p : Place) (ps : List Place) (t : Turn) (z : ℤ)
      → TurnHere page bytes first now p t → t.does ≡ does.Sets z → p.font ≡ None → Opened page bytes first old now (NoFonts page bytes first) (keys_now now) vs p ps
      → InFrame now page (spot_at p.home (first_of first p.home + p.at)) SetsNowhere
  unfolding command_here
  no_font old now vs p ps t z turn e fo s =
      let m = moved page bytes first now p s.frame t turn s.here in
      let c = command_here now p s.frame t m in
      let sel : m.sel ≡ None = sel_none now m.sel (subst (IsSel now m.sel) fo m.same) in
      let scope = (program_of now page p.home).scope in
      in_frame old now (keys_now now) s.frame s.frames s.seen (first_of first p.home + p.at) (s.search now (extends_self now)) p.home s.here.char
      c.before c.behind (record { place = first_of first p.home + p.at; command = c.command }) c.whole SetsNowhere
      (c, z, char_command scope m.command z (subst (Tells scope m.command) e m.tells), sel)

  -- a command selects a local font of a packet's font, a size of which isn't as it should be
  bad_font : (old now : FontSet) (ks : List Key) (f : FontFrame) (fs : List FontFrame) (seen : List Char) (at : ℕ)
      → Search same_key (rooted page now) root (keys_now old) (In seen) ks (f ∷ fs)
      → (h : Home) → IsChar now h f.packet → (c : CommandOf (program_of now page h) at) → (k : ℤ) → c.command ≡ Fnt k → (e : FontFault) → BadAt now h k e → (a b : Told) → FontFaultIs now page a b e
  bad_font old now ks f fs seen at s home.Page ch c k q e bad a b = absurd bad
  bad_font old now ks f fs seen at s (home.Packet id code) ch c k q (font.BadSize parts) bad a b = (
    id,
    code,
    program_or now id code,
    packet_here old now ks id code f fs seen ch s c.before c.behind (record { place = at; command = c.command }) c.whole,
    inr (at, c, k, q, bad),
  )
  bad_font old now ks f fs seen at s (home.Packet id code) ch c k q _ bad a b = absurd bad

  -- a command selects a number that isn't defined, or such a font
  pub turn_fault : (old now : FontSet) (vs : List Bool) (p : Place) (ps : List Place) (e : LoadFault)
      → IsTurnFault now p.home (program_of now page p.home).scope (first_of first p.home) p.at (bytes_of now bytes p.home) e → Opened page bytes first old now (NoFonts page bytes first) (keys_now now) vs p ps
      → (told_before told_now : Told) → LoadFaultIs now page told_before told_now e
  turn_fault old now vs p ps (load.UndefinedFont spot) h s before now_told =
      let a = s.here in
      let at = first_of first p.home + p.at in
      let k = h.1 a.rest a.lexed in
      let c : Placed = record { place = at; command = k.0 } in
      let whole : a.before ++ c ∷ k.1 ≡ (program_of now page p.home).commands = ap (λ (cs : List Placed). a.before ++ cs) (sym k.2) ∙ a.whole in
      let command : CommandOf (program_of now page p.home) at = record { before = a.before; command = k.0; behind = k.1; whole = whole; sel = a.sel; selects = a.selects } in
      subst (λ (x : Spot). InFrame now page x SelectsNone) (sym h.0)
      (in_frame old now (keys_now now) s.frame s.frames s.seen at (s.search now (extends_self now)) p.home a.char a.before k.1 c whole SelectsNone
      (command, k.3, k.4, k.5))
  turn_fault old now vs p ps (load.Font f) h s before now_told =
      let a = s.here in
      let at = first_of first p.home + p.at in
      let k = h a.rest a.lexed in
      let c : Placed = record { place = at; command = k.0 } in
      let whole : a.before ++ c ∷ k.1 ≡ (program_of now page p.home).commands = ap (λ (cs : List Placed). a.before ++ cs) (sym k.2) ∙ a.whole in
      let command : CommandOf (program_of now page p.home) at = record { before = a.before; command = k.0; behind = k.1; whole = whole; sel = a.sel; selects = a.selects } in
      bad_font old now (keys_now now) s.frame s.frames s.seen at (s.search now (extends_self now)) p.home a.char command k.3 k.4 f k.5 before now_told
  turn_fault old now vs p ps _ h s before now_told = absurd h

  -- the key that a command selects must be known
  pub selects_in : (old now : FontSet) (vs : List Bool) (p : Place) (ps : List Place) (t : Turn) (key : FontKey)
      → TurnHere page bytes first now p t → t.does ≡ does.Selects key → Opened page bytes first old now (NoFonts page bytes first) (keys_now now) vs p ps → MustKnow now page (key_of key)
  unfolding command_here
  selects_in old now vs p ps t key turn e s =
      let m = moved page bytes first now p s.frame t turn s.here in
      let c = command_here now p s.frame t m in
      let scope = (program_of now page p.home).scope in
      let at = first_of first p.home + p.at in
      let w = subst (Tells scope m.command) e m.tells in
      in_some old now (keys_now now) s.frame s.frames s.seen (s.search now (extends_self now)) p.home s.here.char
      c.before c.behind (record { place = at; command = c.command }) c.whole (SelectsKey (key_of key))
      (inr (at, c, w.0, w.1, w.2))

  -- a character is set in the selected font
  pub sets_in : (old now : FontSet) (vs : List Bool) (p : Place) (ps : List Place) (t : Turn) (id : ℕ) (z : ℤ)
      → TurnHere page bytes first now p t → t.does ≡ does.Sets z → p.font ≡ Some id → Opened page bytes first old now (NoFonts page bytes first) (keys_now now) vs p ps → InSome now page (SetsIn now id z)
  unfolding command_here
  sets_in old now vs p ps t id z turn e fo s =
      let m = moved page bytes first now p s.frame t turn s.here in
      let c = command_here now p s.frame t m in
      let k = sel_key page bytes first now m.sel id (subst (IsSel now m.sel) fo m.same) in
      let scope = (program_of now page p.home).scope in
      let at = first_of first p.home + p.at in
      let named : id_of now m.sel ≡ Some id = ap (id_of now) k.1 ∙ k.2 in
      in_some old now (keys_now now) s.frame s.frames s.seen (s.search now (extends_self now)) p.home s.here.char
      c.before c.behind (record { place = at; command = c.command }) c.whole (SetsIn now id z)
      (at, c, char_command scope m.command z (subst (Tells scope m.command) e m.tells), named)

-- Commands of a page one after another, while fonts become known and are loaded.
use Rattle.std.proofs.Common.{◌≡◌, ◌++◌, ℕ, Bool, List, [], ◌∷◌, Option, Some, None, refl, sym, ap, subst, ◌∙◌, append_assoc, arith}
use Rattle.std.proofs.lemmas.List.{append-nil}
use Rattle.dv_base.specs.Rounding.{Fraction}
use Rattle.dv_base.specs.Shelf.{Told, Keeps}
use Rattle.dv_base.specs.Tray.{Seen}
use Rattle.positions.specs.Place.{Place}
use Rattle.dvi_ops.specs.Command.{Command, Definition}
use Rattle.dvi_ops.specs.Placed.{Placed, Lexes}
use Rattle.dvi_ops.specs.Following.{IsFirst}
use Rattle.dvi_doc.specs.Grammar.{AllInner, IsInner}
use Rattle.dvi_ops.specs.Command.Command.{Bop, Pre, Post, PostPost}
use Rattle.dv_base.specs.TrayLaws.{told_start, kept_start}
use Rattle.font_set.specs.Fonts.{FontSet}
use Rattle.font_set.specs.Growth.{Extends}
use Rattle.font_set.specs.Programs.{page_fonts}
use Rattle.font_set.specs.declared.fault.FontFault.{FontFault}
use Rattle.font_set.specs.declared.fault.FontFault.TheVariants as font
use Rattle.font_set.specs.declared.fault.LoadFault.{LoadFault}
use Rattle.font_set.specs.declared.fault.LoadFault.TheVariants as load
use Rattle.font_set.proofs.Shelves.{loaded_before}
use Rattle.vf_expand.proofs.Bytes.{rest_nil}
use Rattle.dvitype_list.specs.Standing.{Standing, Setting}
use Rattle.dvitype_list.specs.Turns.{turned}
use Rattle.dvitype_list.specs.Listing.{Run, then_run, one_run, line_of, commands_run}
use Rattle.dvitype_list.specs.Listing.Course.{Ends, Stops}
use Rattle.dvitype_list.specs.Widths.{setting, widths_of}
use Rattle.dvitype_list.specs.Gathered.{Gathered, Cut}
use Rattle.dvitype_list.specs.Causes.{IsStop, LoadStops, FontStops, SetsUnread}
use Rattle.dvitype_list.specs.Kept.{Failed, IsInPage, Stopped, NotTurned, Turned, Went, Ran, Stands, Going}
use Rattle.dvitype_list.specs.declared.fault.ListFault.{ListFault}
use Rattle.dvitype_list.specs.declared.fault.ListFault.TheVariants as fault
use Rattle.dvitype_list.specs.declared.state.State.{State}
use Rattle.dvitype_list.proofs.Gathering.{gathered_is, cut_is}
use Rattle.dvitype_list.proofs.Runs.{run_append, run_one, run_first, run_none, run_later, failed_is, failed_first, failed_after, ran_after, ran_is}
use Rattle.dvitype_list.proofs.Widening.{widths_later}

-- ---- an earlier shelf

module _ (s : Setting) (set : FontSet) (a b c : Told) (k : Keeps a b) where
  unread_before : (cmd : Command) (st : Standing) (f : FontFault) → SetsUnread set b c cmd st f → SetsUnread set a c cmd st f
  unread_before cmd st f h = (h.0, h.1, h.2, h.3, loaded_before set h.2 a b c k f h.4, h.5)

  font_before : (cmd : Command) (st : Standing) (f : FontFault) → FontStops s set b c cmd st f → FontStops s set a c cmd st f
  font_before cmd st font.TooManyFonts h = h
  font_before cmd st font.OutOfMemory h = h
  font_before cmd st (font.Missing n) h = unread_before cmd st (font.Missing n) h
  font_before cmd st (font.FileTooLong n) h = unread_before cmd st (font.FileTooLong n) h
  font_before cmd st (font.ReadFault n) h = unread_before cmd st (font.ReadFault n) h
  font_before cmd st (font.Tfm n e) h = unread_before cmd st (font.Tfm n e) h
  font_before cmd st (font.Pk n e) h = unread_before cmd st (font.Pk n e) h
  font_before cmd st (font.Vf n e) h = unread_before cmd st (font.Vf n e) h
  font_before cmd st (font.BadSize p) h = unread_before cmd st (font.BadSize p) h
  font_before cmd st font.RasterSpace h = unread_before cmd st font.RasterSpace h

  load_before : (cmd : Placed) (st : Standing) (f : LoadFault) → LoadStops s set b c cmd st f → LoadStops s set a c cmd st f
  load_before cmd st (load.Font f) h = font_before cmd.command st f h
  load_before cmd st (load.UndefinedFont x) h = h
  load_before cmd st (load.NoFont x) h = h
  load_before cmd st (load.NoChar id z) h = h
  load_before cmd st (load.NoPacket id code) h = h
  load_before cmd st (load.NoGlyph id code) h = h
  load_before cmd st (load.GlyphTooBig id code n) h = h

  stop_before : (cmd : Placed) (st : Standing) (e : ListFault) → IsStop s set b c cmd st e → IsStop s set a c cmd st e
  stop_before cmd st (fault.Load f) h = load_before cmd st f h
  stop_before cmd st (fault.StackUnder x) h = h
  stop_before cmd st (fault.StackLeft x) h = h
  stop_before cmd st (fault.StackDeep x) h = h
  stop_before cmd st (fault.Overflow x) h = h
  stop_before cmd st fault.WriteFault h = h
  stop_before cmd st fault.OutOfMemory h = h

  stopped_before : (r : Run) (first now : Seen) (kept text : List ℕ) (e : ListFault) → Stopped r s set b c first now kept text e → Stopped r s set a c first now kept text e
  stopped_before r first now kept text e h =
      record { command = h.command; standing = h.standing; stops = h.stops; why = stop_before h.command h.standing e h.why; gathered = h.gathered }

  -- a fault that is told in the midst of a run is told of the whole run
  pub failed_before : (r : Run) (first now : Seen) (kept text : List ℕ) (e : ListFault) → Failed r s set b c first now kept text e → Failed r s set a c first now kept text e
  failed_before r first now kept text fault.WriteFault h = h
  failed_before r first now kept text fault.OutOfMemory h = h
  failed_before r first now kept text (fault.Load x) h = stopped_before r first now kept text (fault.Load x) h
  failed_before r first now kept text (fault.StackUnder x) h = stopped_before r first now kept text (fault.StackUnder x) h
  failed_before r first now kept text (fault.StackLeft x) h = stopped_before r first now kept text (fault.StackLeft x) h
  failed_before r first now kept text (fault.StackDeep x) h = stopped_before r first now kept text (fault.StackDeep x) h
  failed_before r first now kept text (fault.Overflow x) h = stopped_before r first now kept text (fault.Overflow x) h

-- ---- one command

turned_by : (d : Bool) (c : Placed) (st b : Standing) (o : Option Standing) → o ≡ Some b → one_run d c st o ≡ record { text = line_of d c b.place; course = Ends b }
turned_by d c st b o e = ap (one_run d c st) e

none_by : (d : Bool) (c : Placed) (st : Standing) (o : Option Standing) → o ≡ None → one_run d c st o ≡ record { text = []; course = Stops c st }
none_by d c st o e = ap (one_run d c st) e

module _ (s : Setting) (set : FontSet) (old new : Told) (first now : Seen) (kept text : List ℕ) (d : Bool) (c : Placed) (st : Standing) where
  not_run : (e : ListFault) → turned s c.command st ≡ None → IsStop s set old new c st e → Gathered first now kept text → Stopped (one_run d c st (turned s c.command st)) s set old new first now kept text e
  not_run e none why g =
      subst (λ (r : Run). Stopped r s set old new first now kept text e) (sym (none_by d c st (turned s c.command st) none))
      (record { command = c; standing = st; stops = refl; why = why; gathered = gathered_is first now kept text (text ++ []) (sym (append-nil text)) g })

  -- a command that wasn't run
  pub turn_failed : (e : ListFault) → NotTurned s set old new c st e → Gathered first now kept text → Failed (one_run d c st (turned s c.command st)) s set old new first now kept text e
  turn_failed fault.WriteFault h g = absurd h.1
  turn_failed fault.OutOfMemory h g = ([], (one_run d c st (turned s c.command st)).text, refl, gathered_is first now kept text (text ++ []) (sym (append-nil text)) g)
  turn_failed (fault.Load x) h g = not_run (fault.Load x) h.0 h.1 g
  turn_failed (fault.StackUnder x) h g = not_run (fault.StackUnder x) h.0 h.1 g
  turn_failed (fault.StackLeft x) h g = not_run (fault.StackLeft x) h.0 h.1 g
  turn_failed (fault.StackDeep x) h g = not_run (fault.StackDeep x) h.0 h.1 g
  turn_failed (fault.Overflow x) h g = not_run (fault.Overflow x) h.0 h.1 g

  -- a command that was run, and whose line isn't written
  pub line_failed : (b : Standing) → turned s c.command st ≡ Some b → Cut first now (text ++ line_of d c b.place) → Failed (one_run d c st (turned s c.command st)) s set old new first now kept text fault.WriteFault
  line_failed b e h = subst (λ (r : Run). Cut first now (text ++ r.text)) (sym (turned_by d c st b (turned s c.command st) e)) h

-- a command that was run, and its line
pub went : (s : Setting) (d : Bool) (c : Placed) (st : Standing) (set : FontSet) (state : State) (first now : Seen) (kept text : List ℕ) → Turned s c.command st set state → Gathered first now kept (text ++ line_of d c state.pos) → Went s d c st set state first now kept text
went s d c st set state first now kept text t g =
    record {
      behind = t.behind;
      is = t.is;
      stands = t.stands;
      gathered = gathered_is first now kept (text ++ line_of d c state.pos) (text ++ line_of d c t.behind.place) (ap (λ (p : Place). text ++ line_of d c p) (sym t.stands.place)) g;
    }

pub unlisted : (s : Setting) (set : FontSet) (old new : Told) (first now : Seen) (kept text : List ℕ) (d : Bool) (c : Placed) (st : Standing) (state : State) → Turned s c.command st set state → Cut first now (text ++ line_of d c state.pos) → Failed (one_run d c st (turned s c.command st)) s set old new first now kept text fault.WriteFault
unlisted s set old new first now kept text d c st state t h =
    line_failed s set old new first now kept text d c st t.behind t.is
    (cut_is first now (text ++ line_of d c state.pos) (text ++ line_of d c t.behind.place) (ap (λ (p : Place). text ++ line_of d c p) (sym t.stands.place)) h)

-- ---- commands one after another

module _ (f : Fraction) (ds : List Definition) (F G : FontSet) (l : Extends F G) (d : Bool) where
  abbrev one : Setting
  one = setting f ds F

  abbrev two : Setting
  two = setting f ds G

  run_same : (cs : List Placed) (st b : Standing) → (commands_run one d cs st).course ≡ Ends b → commands_run two d cs st ≡ commands_run one d cs st
  run_same cs st b e = run_later f (page_fonts ds) (widths_of F) (widths_of G) (widths_later F G l) d cs st b e

  -- one command more
  pub ran_more : (cs : List Placed) (c : Placed) (st : Standing) (old new : State) (first now late : Seen) (kept next text : List ℕ) → (r : Ran (commands_run one d cs st) F old first now kept text) → Went two d c r.behind G new first late next (text ++ (commands_run one d cs st).text) → Ran (commands_run two d (cs ++ c ∷ []) st) G new first late next text
  ran_more cs c st old new first now late kept next text r w =
      let same = run_same cs st r.behind r.ends in
      let ends : (commands_run two d cs st).course ≡ Ends r.behind = ap (λ (x : Run). x.course) same ∙ r.ends in
      let last : commands_run two d (c ∷ []) r.behind ≡ record { text = line_of d c w.behind.place; course = Ends w.behind } = run_one two d c r.behind ∙ turned_by d c r.behind w.behind (turned two c.command r.behind) w.is in
      ran_is (then_run (commands_run two d cs st) (commands_run two d (c ∷ []))) (commands_run two d (cs ++ c ∷ []) st) G new first late next text (sym (run_append two d cs (c ∷ []) st))
      (ran_after (commands_run two d cs st) (commands_run two d (c ∷ [])) r.behind G new first late next text ends
      (ran_is (record { text = line_of d c w.behind.place; course = Ends w.behind }) (commands_run two d (c ∷ []) r.behind) G new first late next (text ++ (commands_run two d cs st).text) (sym last)
      (record {
        behind = w.behind;
        ends = refl;
        stands = w.stands;
        gathered = gathered_is first late next ((text ++ (commands_run one d cs st).text) ++ line_of d c w.behind.place) ((text ++ (commands_run two d cs st).text) ++ line_of d c w.behind.place) (ap (λ (x : Run). (text ++ x.text) ++ line_of d c w.behind.place) (sym same)) w.gathered;
      })))

  -- a command that can't be run or listed, and others behind it
  pub failed_more : (cs : List Placed) (c : Placed) (rest : List Placed) (st b : Standing) (told_old told_new : Told) (first late : Seen) (next text : List ℕ) (e : ListFault) → (commands_run one d cs st).course ≡ Ends b → Failed (one_run d c b (turned two c.command b)) two G told_old told_new first late next (text ++ (commands_run one d cs st).text) e → Failed (commands_run two d (cs ++ c ∷ rest) st) two G told_old told_new first late next text e
  failed_more cs c rest st b told_old told_new first late next text e ended h =
      let same = run_same cs st b ended in
      let ends : (commands_run two d cs st).course ≡ Ends b = ap (λ (x : Run). x.course) same ∙ ended in
      failed_is two G told_old told_new first late next (then_run (commands_run two d cs st) (commands_run two d (c ∷ rest))) (commands_run two d (cs ++ c ∷ rest) st) text e (sym (run_append two d cs (c ∷ rest) st))
      (failed_after two G told_old told_new first late next (commands_run two d cs st) (commands_run two d (c ∷ rest)) b text e ends
      (failed_is two G told_old told_new first late next (then_run (one_run d c b (turned two c.command b)) (commands_run two d rest)) (commands_run two d (c ∷ rest) b) (text ++ (commands_run two d cs st).text) e (sym (run_first two d c rest b))
      (failed_first two G told_old told_new first late next (one_run d c b (turned two c.command b)) (commands_run two d rest) (text ++ (commands_run two d cs st).text) e
      (subst (λ (x : Run). Failed (one_run d c b (turned two c.command b)) two G told_old told_new first late next (text ++ x.text) e) (sym same) h))))

  -- ---- the loop over the commands of a page

  pub going_next : (cs : List Placed) (at next : ℕ) (ahead beyond : List ℕ) (cmd : Command) (st : Standing) (old new : State) (first now late : Seen) (kept more text : List ℕ) → (go : Going one d cs at ahead st F old first now kept text) → IsFirst at cmd next beyond go.rest → Went two d (record { place = at; command = cmd }) go.ran.behind G new first late more (text ++ (commands_run one d go.before st).text) → Going two d cs next beyond st G new first late more text
  going_next cs at next ahead beyond cmd st old new first now late kept more text go x w =
      let c : Placed = record { place = at; command = cmd } in
      record {
        before = go.before ++ c ∷ [];
        rest = x.0;
        whole = append_assoc go.before (c ∷ []) x.0 ∙ ap (λ (xs : List Placed). go.before ++ xs) (sym x.1) ∙ go.whole;
        lexed = x.2;
        ran = ran_more go.before c st old new first now late kept more text go.ran w;
      }

  pub going_failed : (cs : List Placed) (at next : ℕ) (ahead beyond : List ℕ) (cmd : Command) (st : Standing) (old : State) (first now late : Seen) (kept more text : List ℕ) (told_old told_mid told_new : Told) (e : ListFault) → Keeps told_old told_mid → (go : Going one d cs at ahead st F old first now kept text) → IsFirst at cmd next beyond go.rest → Failed (one_run d (record { place = at; command = cmd }) go.ran.behind (turned two cmd go.ran.behind)) two G told_mid told_new first late more (text ++ (commands_run one d go.before st).text) e → Failed (commands_run two d cs st) two G told_old told_new first late more text e
  going_failed cs at next ahead beyond cmd st old first now late kept more text told_old told_mid told_new e k go x h =
      let c : Placed = record { place = at; command = cmd } in
      let split : go.before ++ c ∷ x.0 ≡ cs = ap (λ (xs : List Placed). go.before ++ xs) (sym x.1) ∙ go.whole in
      failed_before two G told_old told_mid told_new k (commands_run two d cs st) first late more text e
      (failed_is two G told_mid told_new first late more (commands_run two d (go.before ++ c ∷ x.0) st) (commands_run two d cs st) text e (ap (λ (xs : List Placed). commands_run two d xs st) split)
      (failed_more go.before c x.0 st go.ran.behind told_mid told_new first late more text e go.ran.ends h))

pub going_start : (s : Setting) (d : Bool) (cs : List Placed) (at : ℕ) (bytes : List ℕ) (st : Standing) (set : FontSet) (state : State) (first now : Seen) (kept text : List ℕ) → Lexes at bytes cs → Stands set state st → Gathered first now kept text → Going s d cs at bytes st set state first now kept text
going_start s d cs at bytes st set state first now kept text l h g =
    record {
      before = [];
      rest = cs;
      whole = refl;
      lexed = l;
      ran =
          ran_is (record { text = []; course = Ends st }) (commands_run s d [] st) set state first now kept text (sym (run_none s d st))
          (record { behind = st; ends = refl; stands = h; gathered = gathered_is first now kept text (text ++ []) (sym (append-nil text)) g });
    }

pub going_end : (s : Setting) (d : Bool) (cs : List Placed) (at : ℕ) (bytes : List ℕ) (st : Standing) (set : FontSet) (state : State) (first now : Seen) (kept text : List ℕ) → bytes ≡ [] → Going s d cs at bytes st set state first now kept text → Ran (commands_run s d cs st) set state first now kept text
going_end s d cs at bytes st set state first now kept text e go =
    let all : go.before ≡ cs = sym (append-nil go.before) ∙ ap (λ (xs : List Placed). go.before ++ xs) (sym (rest_nil at bytes go.rest e go.lexed)) ∙ go.whole in
    ran_is (commands_run s d go.before st) (commands_run s d cs st) set state first now kept text (ap (λ (xs : List Placed). commands_run s d xs st) all) go.ran

-- the first of what may stand in a page
pub inner_next : (at : ℕ) (cmd : Command) (next : ℕ) (bytes : List ℕ) (cs : List Placed) → AllInner cs → (x : IsFirst at cmd next bytes cs) → AllInner (record { place = at; command = cmd } ∷ x.0)
inner_next at cmd next bytes cs a x = subst AllInner x.1 a

-- ---- starts

pub keeps_none : (t : Told) → Keeps t t
keeps_none t = record { held_same = refl; faults_later = omega arith; absents_later = omega arith; overs_later = omega arith }

-- what is kept, and nothing sent
pub gathered_here : (s : Seen) (kept : List ℕ) → Gathered s s kept kept
gathered_here s kept = record { sent = []; whole = refl; told = told_start s.outputs; names = kept_start s }

pub inner_listed : (c : Command) → IsInner c → IsInPage c
inner_listed (Bop counts back) h = absurd h
inner_listed (Pre head) h = absurd h
inner_listed (Post tail) h = absurd h
inner_listed (PostPost back id) h = absurd h
inner_listed _ h = tt

-- ---- the quick way

-- a command that was run, and whose line isn't written
pub cut_listed : (s : Setting) (set : FontSet) (first now : Seen) (text : List ℕ) (d : Bool) (c : Placed) (st : Standing) (state : State) → Turned s c.command st set state → Cut first now (text ++ line_of d c state.pos) → Cut first now (text ++ (one_run d c st (turned s c.command st)).text)
cut_listed s set first now text d c st state t h =
    subst (λ (r : Run). Cut first now (text ++ r.text)) (sym (turned_by d c st t.behind (turned s c.command st) t.is))
    (cut_is first now (text ++ line_of d c state.pos) (text ++ line_of d c t.behind.place) (ap (λ (p : Place). text ++ line_of d c p) (sym t.stands.place)) h)

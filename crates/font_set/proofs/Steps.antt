-- Each command of a frame is a step of the search.
use Rattle.std.proofs.Common.{◌≡◌, ◌≤◌, ◌<◌, ◌+◌, ◌*◌, inl, inr, ℕ, ℤ, pos, arith, List, [], ◌∷◌, Bool, true, false, length, Option, Some, None, slice_index_or, slice_set, Result, Ok, Err, refl, sym, ap, subst, ◌∙◌}
use Rattle.std.specs.Prelude.{OnOk, IfOk, IfErr}
use Rattle.dvi_doc.specs.declared.font.FontKey.{FontKey}
use Rattle.font_set.specs.Key.{Key}
use Rattle.font_set.specs.Fonts.{FontSet, place_of}
use Rattle.font_set.specs.Views.{key_of}
use Rattle.font_set.specs.Programs.{Program}
use Rattle.font_set.specs.Frames.{acts_of}
use Rattle.font_set.specs.Covers.{Covers}
use Rattle.dv_base.specs.Shelf.{Contents, Told, Keeps}
use Rattle.font_set.specs.FontFaults.{NotKnown}
use Rattle.font_set.specs.LoadFaults.{InFrame, InSome, SetsNowhere, SetsIn, MustKnow, MustLoad, FontFaultIs, LoadFaultIs}
use Rattle.font_set.specs.Gains.{Gains, GainsFor}
use Rattle.font_set.specs.Growth.{Extends, Learnt}
use Rattle.font_set.specs.Search.{LearntFirst, program_of, bytes_of, first_of, spot_at, IsHome, IsSel, IsTurnFault, MeetFault, SameStates, InOrder, moves}
use Rattle.font_set.specs.Found.{PageBytes, Todo, IsMarked, FoundAt, IsPlaced, Reads, Steps, Meets, IsPage, WasMet, LoadsSet, unmarked}
use Rattle.font_set.specs.declared.agenda.Home.TheVariants as home
use Rattle.font_set.specs.declared.agenda.Place.{Place}
use Rattle.font_set.specs.declared.turn.Turn.{Turn}
use Rattle.font_set.specs.declared.turn.Does.TheVariants as does
use Rattle.font_set.specs.declared.fault.LoadFault.{LoadFault}
use Rattle.font_set.specs.declared.fault.FontFault.{FontFault}
use Rattle.font_set.proofs.Ids.{id_below}
use Rattle.font_set.proofs.Growing.{extends_self, extends_on, unmarked_less}
use Rattle.font_set.proofs.Finding.{opened, left, passed, took, skipped, entered, started, ordered, grown_loaded, turn_later, sel_key}
use Rattle.font_set.proofs.Ending.{covered, reached_in}
use Rattle.font_set.specs.declared.fault.FontFault.TheVariants as font
use Rattle.font_set.proofs.Faulting.{fonts_here, no_font, turn_fault, selects_in, sets_in}
use Rattle.font_set.proofs.Later.{set_later, must_load_later, must_know_later}
use Rattle.font_set.proofs.Gaining.{gains_wider, gains_on}
use Rattle.font_set.proofs.Telling.{meet_told}

-- ---- results

pub if_ok : {T E : Type 0} (r : Result T E) {P Q : T → Type 0} → ((x : T) → P x → Q x) → IfOk r P → IfOk r Q
if_ok (Ok x) f h = f x h
if_ok (Err e) f h = tt

pub on_ok : {T E : Type 0} (r : Result T E) {A B : Type 0} → (A → B) → OnOk r A → OnOk r B
on_ok (Ok x) f h = f h
on_ok (Err e) f h = tt

pub if_err : {T E : Type 0} (r : Result T E) {P Q : E → Type 0} → ((e : E) → P e → Q e) → IfErr r P → IfErr r Q
if_err (Ok x) f h = tt
if_err (Err e) f h = f e h

-- what a place that is open has
pub placed : (s : PageBytes) (old now : FontSet) (vs : List Bool) (p : Place) (ps : List Place) → FoundAt s old now vs (p ∷ ps) → IsPlaced s now p
placed s old now vs p ps f =
    let o = opened s.page s.bytes s.first old now vs p ps f in
    let a = o.here in
    record { given = a.given; ends = a.ends; short = a.short; rest = a.rest; lexed = a.lexed; fonts = fonts_here s.page s.bytes s.first now p o.frame a }

-- the selected font is one of the set
pub font_below : (s : PageBytes) (old now : FontSet) (vs : List Bool) (p : Place) (ps : List Place) (id : ℕ) → FoundAt s old now vs (p ∷ ps) → p.font ≡ Some id → id < length now.fonts
font_below s old now vs p ps id f e =
    let o = opened s.page s.bytes s.first old now vs p ps f in
    let a = o.here in
    let k = sel_key s.page s.bytes s.first now a.sel id (subst (IsSel now a.sel) e a.same) in
    id_below now.fonts k.0 id k.2

-- ---- the steps

first_extends : (now new : FontSet) (key : Option FontKey) (font : Option ℕ) → LearntFirst now new key font → Extends now new
first_extends now new None font l = subst (Extends now) (sym l.0) (extends_self now)
first_extends now new (Some key) font l = l.0.extends

pub pass_step : (s : PageBytes) (p q : Place) (t : Turn) (now : FontSet) (a b : Todo) → Reads s now p t → t.does ≡ does.Nothing → q ≡ moves p t.next p.font
    → b.places ≡ q ∷ a.places → b.met ≡ a.met → Steps s p now now a b
pass_step s p q t now a b r e m bp bm =
    let further = r.further in
    let within = r.within in
    let places : b.places ≡ moves p t.next p.font ∷ a.places = bp ∙ ap (λ (x : Place). x ∷ a.places) m in
    record {
      extends = extends_self now;
      found = λ old f.
          subst (λ (vs : List Bool). FoundAt s old now vs b.places) (sym bm)
          (subst (λ (ps : List Place). FoundAt s old now a.met ps) (sym places)
          (passed s.page s.bytes s.first old now a.met p a.places t r.command e (opened s.page s.bytes s.first old now a.met p a.places f)));
      less = rw (bm, places) (omega (arith, further, within));
    }

pub select_step : (s : PageBytes) (p q : Place) (t : Turn) (key : FontKey) (id : ℕ) (now new : FontSet) (a b : Todo) → Reads s now p t → t.does ≡ does.Selects key
    → Learnt now new (key_of key) → SameStates now new → place_of new.fonts (key_of key) ≡ Some id → q ≡ moves p t.next (Some id)
    → b.places ≡ q ∷ a.places → b.met ≡ a.met → Steps s p now new a b
select_step s p q t key id now new a b r e l states i m bp bm =
    let further = r.further in
    let within = r.within in
    let places : b.places ≡ moves p t.next (Some id) ∷ a.places = bp ∙ ap (λ (x : Place). x ∷ a.places) m in
    record {
      extends = l.extends;
      found = λ old f.
          subst (λ (vs : List Bool). FoundAt s old new vs b.places) (sym bm)
          (subst (λ (ps : List Place). FoundAt s old new a.met ps) (sym places)
          (took s.page s.bytes s.first old now new a.met p a.places t key id r.command e l states i (opened s.page s.bytes s.first old now a.met p a.places f)));
      less = rw (bm, places) (omega (arith, further, within));
    }

-- a character that was met
pub skip_step : (s : PageBytes) (p q : Place) (t : Turn) (z : ℤ) (id code : ℕ) (now : FontSet) (a b : Todo) → Reads s now p t → t.does ≡ does.Sets z
    → p.font ≡ Some id → z ≡ pos code → code < 256 → IsMarked b.met (id * 256 + code) → q ≡ moves p t.next p.font
    → b.places ≡ q ∷ a.places → b.met ≡ a.met → Steps s p now now a b
skip_step s p q t z id code now a b r e fo z_is l k m bp bm =
    let further = r.further in
    let within = r.within in
    let places : b.places ≡ moves p t.next (Some id) ∷ a.places = bp ∙ ap (λ (x : Place). x ∷ a.places) (m ∙ ap (λ (o : Option ℕ). moves p t.next o) fo) in
    let sets : t.does ≡ does.Sets (pos code) = e ∙ ap does.Sets z_is in
    let marked : IsMarked a.met (id * 256 + code) = subst (λ (vs : List Bool). IsMarked vs (id * 256 + code)) bm k in
    record {
      extends = extends_self now;
      found = λ old f.
          subst (λ (vs : List Bool). FoundAt s old now vs b.places) (sym bm)
          (subst (λ (ps : List Place). FoundAt s old now a.met ps) (sym places)
          (skipped s.page s.bytes s.first old now a.met p a.places t id code r.command sets l fo marked (opened s.page s.bytes s.first old now a.met p a.places f)));
      less = rw (bm, places) (omega (arith, further, within));
    }

not_marked : (vs : List Bool) (n : ℕ) → (IsMarked vs n → ⊥) → slice_index_or vs n false ≡ false
not_marked vs n h = by (slice_index_or vs n false) h
  where
    by : (b : Bool) → (b ≡ true → ⊥) → b ≡ false
    by true k = absurd (k refl)
    by false k = refl

-- a character that is met now; m is what is left to do behind the command
pub meet_step : (s : PageBytes) (p q : Place) (t : Turn) (z : ℤ) (id : ℕ) (now new : FontSet) (a m b : Todo) → Reads s now p t → t.does ≡ does.Sets z
    → p.font ≡ Some id → (WasMet m.met id z → ⊥) → IsHome now p.home
    → Meets now new id z m b → q ≡ moves p t.next p.font → m.places ≡ q ∷ a.places → m.met ≡ a.met → Steps s p now new a b
meet_step s p q t z id now new a m b r e fo new_mark given w q_is mp mm =
    let further = r.further in
    let within = r.within in
    let o = w.opens in
    let code = w.code in
    let small : code < 256 = w.small in
    let mid = w.mid in
    let places : m.places ≡ moves p t.next (Some id) ∷ a.places = mp ∙ ap (λ (x : Place). x ∷ a.places) (q_is ∙ ap (λ (f : Option ℕ). moves p t.next f) fo) in
    let top : Place = record { home = home.Packet id code; at = 0; end = o.end; font = o.font } in
    let stack : b.places ≡ top ∷ moves p t.next (Some id) ∷ a.places = o.places ∙ ap (λ (xs : List Place). top ∷ xs) places in
    let marks : b.met ≡ slice_set a.met (id * 256 + code) true = o.marks ∙ ap (λ (vs : List Bool). slice_set vs (id * 256 + code) true) mm in
    let sets : t.does ≡ does.Sets (pos code) = e ∙ ap does.Sets w.sets in
    let here : id * 256 + code < length a.met = subst (λ (vs : List Bool). id * 256 + code < length vs) mm o.within in
    let none : slice_index_or a.met (id * 256 + code) false ≡ false =
    not_marked a.met (id * 256 + code) (λ k. new_mark (code, w.sets, small, subst (λ (vs : List Bool). IsMarked vs (id * 256 + code)) (sym mm) k)) in
    let fewer : unmarked a.met ≡ unmarked (slice_set a.met (id * 256 + code) true) + 1 = unmarked_less a.met (id * 256 + code) here none in
    let short : o.end ≤ 4194304 = o.short in
    let loaded = w.loaded in
    record {
      extends = extends_on now mid new loaded.extends (first_extends mid new o.key o.font o.learnt);
      found = λ old f.
          let g = grown_loaded s.page s.bytes s.first old now mid id a.met p a.places loaded w.others (opened s.page s.bytes s.first old now a.met p a.places f) in
          subst (λ (vs : List Bool). FoundAt s old new vs b.places) (sym marks)
          (subst (λ (ps : List Place). FoundAt s old new (slice_set a.met (id * 256 + code) true) ps) (sym stack)
          (entered s.page s.bytes s.first old mid new a.met p a.places t id code o.end o.key o.font
          (turn_later s.page s.bytes s.first now mid p t loaded.extends given r.command) sets small fo w.shown o.short o.long o.lexed o.begins o.learnt here g));
      less = rw (marks, stack) (omega (arith, fewer, short, further, within));
    }

-- ---- the start, the end of a frame, and the end

pub start_found : (s : PageBytes) (set : FontSet) (p : Place) (todo : Todo) → IsPage s → p ≡ record { home = home.Page; at = 0; end = length s.bytes; font = None }
    → todo.places ≡ p ∷ [] → ((m : ℕ) → IsMarked todo.met m → ⊥) → FoundAt s set set todo.met todo.places
start_found s set p todo page e ps vs =
    subst (λ (qs : List Place). FoundAt s set set todo.met qs) (sym (ps ∙ ap (λ (x : Place). x ∷ []) e))
    (started s.page s.bytes s.first set todo.met (length s.bytes) vs refl page.short page.lexed page.none)

pub still_found : (s : PageBytes) (old now : FontSet) (a b : Todo) (p : Place) → a.places ≡ p ∷ b.places → b.met ≡ a.met → FoundAt s old now a.met a.places → FoundAt s old now b.met (p ∷ b.places)
still_found s old now a b p e m f =
    subst (λ (vs : List Bool). FoundAt s old now vs (p ∷ b.places)) (sym m) (subst (λ (ps : List Place). FoundAt s old now a.met ps) e f)

pub left_found : (s : PageBytes) (old now : FontSet) (a b : Todo) (p : Place) → a.places ≡ p ∷ b.places → b.met ≡ a.met → p.end ≤ p.at → FoundAt s old now a.met a.places → FoundAt s old now b.met b.places
left_found s old now a b p e m h f = left s.page s.bytes s.first old now b.met p b.places h (opened s.page s.bytes s.first old now b.met p b.places (still_found s old now a b p e m f))

pub end_found : (s : PageBytes) (old now : FontSet) (a : Todo) → a.places ≡ [] → FoundAt s old now a.met a.places → FoundAt s old now a.met []
end_found s old now a e f = subst (λ (ps : List Place). FoundAt s old now a.met ps) e f

pub end_covers : (s : PageBytes) (old now : FontSet) (vs : List Bool) → FoundAt s old now vs [] → Covers now (acts_of s.page)
end_covers s old now vs f = covered s.page s.bytes s.first old now vs f

pub end_order : (s : PageBytes) (old now : FontSet) (vs : List Bool) → FoundAt s old now vs [] → InOrder old now s.page
end_order s old now vs f = ordered s.page s.bytes s.first old now vs f

pub end_loads : (s : PageBytes) (old now : FontSet) (vs : List Bool) → FoundAt s old now vs [] → LoadsSet old now (acts_of s.page)
end_loads s old now vs f id l =
    elim (f.loads id l) [
      | inl was ↦ inl was
      | inr h ↦ inr (let r = (f.search now (extends_self now)).reached h.char h.listed in (h.char.code, (h.char, reached_in s.page now r.0 h.char h.small r.1, h.placed, refl)))
    ]

-- ---- faults

pub step_fault : (s : PageBytes) (old now : FontSet) (vs : List Bool) (p : Place) (ps : List Place) (e : LoadFault)
    → IsTurnFault now p.home (program_of now s.page p.home).scope (first_of s.first p.home) p.at (bytes_of now s.bytes p.home) e → FoundAt s old now vs (p ∷ ps) → (a b : Told) → LoadFaultIs now s.page a b e
step_fault s old now vs p ps e h f = turn_fault s.page s.bytes s.first old now vs p ps e h (opened s.page s.bytes s.first old now vs p ps f)

pub nowhere_fault : (s : PageBytes) (old now : FontSet) (vs : List Bool) (p : Place) (ps : List Place) (t : Turn) (z : ℤ) → Reads s now p t → t.does ≡ does.Sets z → p.font ≡ None
    → FoundAt s old now vs (p ∷ ps) → InFrame now s.page (spot_at p.home (first_of s.first p.home + p.at)) SetsNowhere
nowhere_fault s old now vs p ps t z r e fo f = no_font s.page s.bytes s.first old now vs p ps t z r.command e fo (opened s.page s.bytes s.first old now vs p ps f)

-- the font of a character that is set must be loaded
pub set_here : (s : PageBytes) (old now : FontSet) (vs : List Bool) (p : Place) (ps : List Place) (t : Turn) (id : ℕ) (z : ℤ) → Reads s now p t → t.does ≡ does.Sets z → p.font ≡ Some id
    → FoundAt s old now vs (p ∷ ps) → InSome now s.page (SetsIn now id z)
set_here s old now vs p ps t id z r d fo f = sets_in s.page s.bytes s.first old now vs p ps t id z r.command d fo (opened s.page s.bytes s.first old now vs p ps f)

pub meet_fault : (page : Program) (now new : FontSet) (id : ℕ) (z : ℤ) (a b : Told) (e : LoadFault) → Extends now new → InSome now page (SetsIn now id z) → MeetFault new id z a b e → LoadFaultIs new page a b e
meet_fault page now new id z a b e x s h = meet_told new page id z (set_later now new page id z x s) a b e h

-- the key of a font that is selected must be known
pub selected_here : (s : PageBytes) (old now : FontSet) (vs : List Bool) (p : Place) (ps : List Place) (t : Turn) (key : FontKey) → Reads s now p t → t.does ≡ does.Selects key
    → FoundAt s old now vs (p ∷ ps) → MustKnow now s.page (key_of key)
selected_here s old now vs p ps t key r d f = selects_in s.page s.bytes s.first old now vs p ps t key r.command d (opened s.page s.bytes s.first old now vs p ps f)

pub select_gains : (held : Option Contents) (page : Program) (now new : FontSet) (key : Key) → MustKnow now page key → Gains held now new (λ id. ⊥) (λ k. k ≡ key) → GainsFor held now new page
select_gains held page now new key m g =
    gains_wider held now new (λ id. ⊥) (MustLoad new page) (λ k. k ≡ key) (MustKnow new page) (λ id none. absurd none)
    (λ k e. subst (MustKnow new page) (sym e) (must_know_later now new page key g.extends m)) g

pub select_fault : (page : Program) (now : FontSet) (key : Key) (f : FontFault) → MustKnow now page key → NotKnown now.fonts key f → (a b : Told) → FontFaultIs now page a b f
select_fault page now key font.TooManyFonts m h a b = (key, m, h)
select_fault page now key font.OutOfMemory m h a b = tt
select_fault page now key _ m h a b = absurd h

-- ---- one step after others

-- what the set gained before stays gained
pub page_gains : (held later : Option Contents) (page : Program) (old now new : FontSet) → later ≡ held → GainsFor held old now page → GainsFor later now new page → GainsFor held old new page
page_gains held later page old now new e g h =
    let next = subst (λ (o : Option Contents). GainsFor o now new page) e h in
    gains_on held old now new (MustLoad now page) (MustLoad new page) (MustKnow now page) (MustKnow new page)
    (λ id m. must_load_later now new page id next.extends m) (λ k m. must_know_later now new page k next.extends m) g next

pub keeps_on : (a b c : Told) → Keeps a b → Keeps b c → Keeps a c
keeps_on a b c k l =
    record {
      held_same = l.held_same ∙ k.held_same;
      faults_later = omega (arith, k.faults_later, l.faults_later);
      absents_later = omega (arith, k.absents_later, l.absents_later);
      overs_later = omega (arith, k.overs_later, l.overs_later);
    }

pub keeps_self : (a : Told) → Keeps a a
keeps_self a = record { held_same = refl; faults_later = omega arith; absents_later = omega arith; overs_later = omega arith }

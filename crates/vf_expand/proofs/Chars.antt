-- Characters that are covered.
use Rattle.std.proofs.Common.{◌≡◌, ◌<◌, ℕ, zero, suc, ℤ, pos, negsuc, List, [], ◌∷◌, length, Option, Some, None, Bool, true, false, refl, sym, ap, subst, ◌∙◌, arith, nat_lt}
use Rattle.std.specs.Prelude.{if◌then◌else◌, position}
use Rattle.std.proofs.lemmas.Bool.Decides.{nat_tests}
use Rattle.dvi_ops.specs.Placed.{Placed, Lexes}
use Rattle.dvi_ops.specs.Reading.{commands_in}
use Rattle.dvi_ops.specs.Laws.{OneReading}
use Rattle.vf_packets.specs.Font.{packet_of}
use Rattle.positions.specs.Place.{Place}
use Rattle.font_set.specs.Key.{Key, same_key}
use Rattle.font_set.specs.Fonts.{State, Entry, FontSet, place_of, size_at, state_at, width_at, packet_at, packet_in, width_of, IsVirtual}
use Rattle.font_set.specs.Programs as p
use Rattle.font_set.specs.Programs.{Named, Program, Scope, packet_program, program_at, locals_in, locals_at, lexed, id_of, head_of}
use Rattle.font_set.specs.Acts.{IsRun}
use Rattle.font_set.specs.Acts.Act.{Runs, Wrong}
use Rattle.font_set.specs.Frames.{Char, FontAct, select_act, char_act, acts_with_first, acts_of, acts_of_packet, body, body_at}
use Rattle.font_set.specs.Covers.{IsThere, IsShown, IsShownAt, IsGood, Covers}
use Rattle.font_set.specs.Count.{runs, count}
use Rattle.vf_expand.specs.Grid.{Grid}
use Rattle.vf_expand.specs.Pages.{chars, glyph_record, glyph_at, inner, boxed, frame_marks, shown_in, where_font, first_there}
use Rattle.vf_expand.specs.Marks.{Outcome}
use Rattle.vf_expand.specs.Homes.{IsFont}
use Rattle.std.proofs.lemmas.List.{append-nil}
use Rattle.dvi_ops.specs.Command.{Command}
use Rattle.dvi_ops.specs.Command.Command.{Bop, Eop, Pre, Post, PostPost}
use Rattle.vf_packets.specs.Programs.{IsAllowed, AllAllowed}
use Rattle.tfm_widths.specs.Widths.{width_in}
use Rattle.positions.specs.Mark.{Glyph, Mark}
use Rattle.font_set.specs.Fonts.{width_by}
use Rattle.font_set.specs.Covers.{IsSet}
use Rattle.dvi_doc.specs.Grammar.{IsInner, AllInner}
use Rattle.vf_expand.specs.Marks.{marks_alone}
use Rattle.vf_expand.specs.Takes.{MayCome, IsAmong, CanTake, TookPage, TookChar, Stops, char_marks}
use Rattle.vf_expand.specs.Painted.{IsGlyphOf, HasGlyph, IsPainted}
use Rattle.vf_expand.specs.declared.fault.WalkFault.TheVariants as fault
use Rattle.vf_expand.proofs.Covering.{covers_in, reached_in, painted_more}
use Rattle.vf_expand.proofs.Stopping as over
use Rattle.vf_expand.proofs.Stopping.{can_on}

-- a packet's program
abbrev pub packet_home : FontSet → ℕ → List Placed → Program
packet_home set id cs =
    record { scope = record { size = Some (size_at set id); fonts = locals_at set id }; first = head_of (locals_at set id); commands = cs }

by_state : (set : FontSet) (size : ℕ) (s : State) (code : ℕ) (bytes : List ℕ) (cs : List Placed) → packet_in s code ≡ Some bytes → commands_in 0 bytes ≡ Some cs → p.program_in set.units size s code ≡ Some (record { scope = record { size = Some size; fonts = locals_in set.units.num set.units.den size s }; first = head_of (locals_in set.units.num set.units.den size s); commands = cs })
by_state set size State.Known code bytes cs e k = absurd cc
by_state set size (State.Real tfm pk) code bytes cs e k = absurd cc
by_state set size (State.Virtual tfm vf) code bytes cs e k = rw (e, k) refl

pub program_is : OneReading → (set : FontSet) (id code : ℕ) (bytes : List ℕ) (cs : List Placed) → packet_at set id code ≡ Some bytes → Lexes 0 bytes cs → program_at set id code ≡ Some (packet_home set id cs)
unfolding program_at packet_at locals_at
program_is one set id code bytes cs e l = by_state set (size_at set id) (state_at set id) code bytes cs e ((one 0 bytes cs).0 l)

virtual_state : (s : State) (code : ℕ) (bytes : List ℕ) → packet_in s code ≡ Some bytes → IsVirtual s
virtual_state State.Known code bytes e = absurd cc
virtual_state (State.Real tfm pk) code bytes e = absurd cc
virtual_state (State.Virtual tfm vf) code bytes e = tt

pub virtual_is : (set : FontSet) (id code : ℕ) (bytes : List ℕ) → packet_at set id code ≡ Some bytes → IsVirtual (state_at set id)
unfolding packet_at
virtual_is set id code bytes e = virtual_state (state_at set id) code bytes e

-- ---- marks

no_more : (o : Option (List ℕ)) → IsThere o → o ≡ None → ⊥
no_more None h e = h
no_more (Some x) h e = cc

real_by : (run : Program → Place → Outcome) (g : Grid) (id code : ℕ) (p : Place) (s : State) (program : Option Program) (o : Option ℤ) (w : ℤ) → IsShown s code → packet_in s code ≡ None → o ≡ Some w → shown_in run g id code p s program o ≡ Some (glyph_at g id code p w ∷ [], w)
real_by run g id code p s program None w h e k = absurd cc
real_by run g id code p State.Known program (Some v) w h e k = absurd h
real_by run g id code p (State.Real tfm pk) program (Some v) w h e k = let same : v ≡ w = cc in ap (λ x. Some (glyph_at g id code p x ∷ [], x)) same
real_by run g id code p (State.Virtual tfm vf) program (Some v) w h e k = absurd (no_more (packet_of vf code) h.1 e)

pub chars_real : (g : Grid) (set : FontSet) (n id code : ℕ) (p : Place) (w : ℤ) → IsShown (state_at set id) code → packet_at set id code ≡ None → width_at set id code ≡ Some w → chars g set n (Some id) (pos code) p ≡ Some (glyph_at g id code p w ∷ [], w)
unfolding chars packet_at
chars_real g set zero id code p w h e k = real_by (λ x y. None) g id code p (state_at set id) (program_at set id code) (width_at set id code) w h e k
chars_real g set (suc n) id code p w h e k = real_by (λ x y. first_there set x.first (frame_marks g set n x y)) g id code p (state_at set id) (program_at set id code) (width_at set id code) w h e k

virtual_by : (run : Program → Place → Outcome) (g : Grid) (id code : ℕ) (p : Place) (s : State) (o : Option Program) (v : Option ℤ) (program : Program) (w : ℤ) → IsVirtual s → o ≡ Some program → v ≡ Some w → shown_in run g id code p s o v ≡ boxed w (run program (inner p))
virtual_by run g id code p State.Known o v program w h e k = absurd h
virtual_by run g id code p (State.Real tfm pk) o v program w h e k = absurd h
virtual_by run g id code p (State.Virtual tfm vf) None v program w h e k = absurd cc
virtual_by run g id code p (State.Virtual tfm vf) (Some x) None program w h e k = absurd cc
virtual_by run g id code p (State.Virtual tfm vf) (Some x) (Some v) program w h e k =
    let a : x ≡ program = cc in
    let b : v ≡ w = cc in
    ap (λ y. boxed v (run y (inner p))) a ∙ ap (λ y. boxed y (run program (inner p))) b

pub chars_virtual : (g : Grid) (set : FontSet) (n id code : ℕ) (p : Place) (w : ℤ) (program : Program) → IsVirtual (state_at set id) → program_at set id code ≡ Some program → width_at set id code ≡ Some w → chars g set (suc n) (Some id) (pos code) p ≡ boxed w (first_there set program.first (frame_marks g set n program (inner p)))
unfolding chars
chars_virtual g set n id code p w program h e k = virtual_by (λ x y. first_there set x.first (frame_marks g set n x y)) g id code p (state_at set id) (program_at set id code) (width_at set id code) program w h e k

none_boxed : (w : ℤ) → boxed w None ≡ None
none_boxed w = refl

pub chars_nested : (g : Grid) (set : FontSet) (id code : ℕ) (p : Place) (w : ℤ) (program : Program) → IsVirtual (state_at set id) → program_at set id code ≡ Some program → width_at set id code ≡ Some w → chars g set 0 (Some id) (pos code) p ≡ None
unfolding chars
chars_nested g set id code p w program h e k = virtual_by (λ x y. None) g id code p (state_at set id) (program_at set id code) (width_at set id code) program w h e k

-- ---- steps

no_program : (set : FontSet) (size : ℕ) (s : State) (code : ℕ) → IsShown s code → packet_in s code ≡ None → p.program_in set.units size s code ≡ None
no_program set size State.Known code h e = absurd h
no_program set size (State.Real tfm pk) code h e = refl
no_program set size (State.Virtual tfm vf) code h e = absurd (no_more (packet_of vf code) h.1 e)

pub program_none : (set : FontSet) (id code : ℕ) → IsShown (state_at set id) code → packet_at set id code ≡ None → program_at set id code ≡ None
unfolding program_at packet_at
program_none set id code h e = no_program set (size_at set id) (state_at set id) code h e

pub runs_real : (set : FontSet) (n id code : ℕ) → IsShown (state_at set id) code → packet_at set id code ≡ None → runs set n (Some id) (pos code) ≡ 0
unfolding runs
runs_real set zero id code h e = let k = program_none set id code h e in rw k refl
runs_real set (suc n) id code h e = let k = program_none set id code h e in rw k refl

pub runs_virtual : (set : FontSet) (n id code : ℕ) (program : Program) → program_at set id code ≡ Some program → runs set (suc n) (Some id) (pos code) ≡ count set n program
unfolding runs
runs_virtual set n id code program e = rw e refl

-- ---- what covers a character

-- The character of a font: a good one.
pub record Covered (set : FontSet) (sel : Option Key) (font : Option ℕ) (z : ℤ) : Type 0 where
  pub key : Key
  pub id : ℕ
  pub code : ℕ
  pub selected : sel ≡ Some key
  pub place : place_of set.fonts key ≡ Some id
  pub same_font : font ≡ Some id
  pub same_code : z ≡ pos code
  pub small : code < 256
  pub act : char_act sel z ≡ Runs (record { key = key; code = code })
  pub shown : IsShown (state_at set id) code

shown_by : (set : FontSet) (o font : Option ℕ) (code : ℕ) → o ≡ font → IsShownAt set o code → (id : ℕ) × (o ≡ Some id) × (font ≡ Some id) × IsShown (state_at set id) code
shown_by set None font code e h = absurd h
shown_by set (Some id) font code e h = (id, refl, sym e, h)

good_by : (set : FontSet) (key : Key) (font : Option ℕ) (c : ℕ) (b : Bool) → nat_lt c 256 ≡ b → place_of set.fonts key ≡ font → IsGood set (if b then Runs (record { key = key; code = c }) else Wrong) → Covered set (Some key) font (pos c)
good_by set key font c false t e h = absurd h
good_by set key font c true t e h =
    let s = shown_by set (place_of set.fonts key) font c e h.1 in
    record { key = key; id = s.0; code = c; selected = refl; place = s.1; same_font = s.2; same_code = refl; small = h.0; act = ap (λ (b : Bool). if b then Runs (record { key = key; code = c }) else Wrong) t; shown = s.3 }

pub covered : (set : FontSet) (sel : Option Key) (font : Option ℕ) (z : ℤ) → id_of set sel ≡ font → Covers set (char_act sel z ∷ []) → Covered set sel font z
covered set None font z e c = absurd c.here.0
covered set (Some key) font (negsuc n) e c = absurd c.here.0
covered set (Some key) font (pos n) e c = good_by set key font n (nat_lt n 256) refl e c.here.0

pub run_one : (set : FontSet) (sel : Option Key) (font : Option ℕ) (z : ℤ) → (k : Covered set sel font z) → IsRun (char_act sel z ∷ []) (record { key = k.key; code = k.code })
run_one set sel font z k = ([], [], ap (λ (a : FontAct). a ∷ []) k.act)

-- the acts of its packet
pub body_is : (set : FontSet) (key : Key) (id code : ℕ) (program : Program) → place_of set.fonts key ≡ Some id → program_at set id code ≡ Some program → body set (record { key = key; code = code }) ≡ acts_of program
unfolding body
body_is set key id code program e k = ap (λ (o : Option ℕ). body_at set o code) e ∙ ap acts_of_packet k

-- an id that a key has is given
given_is : (es : List Entry) (key : Key) (id : ℕ) → place_of es key ≡ Some id → id < length es
unfolding place_of
given_is es key id e = position_lt (λ (x : Entry). same_key key x.key) es id e
  where
    position_lt : (f : Entry → Bool) (es : List Entry) (id : ℕ) → position f es ≡ Some id → id < length es
    position_lt f es id e = grind (arith, nat_tests)

given_by : (set : FontSet) (o font : Option ℕ) → o ≡ font → ((id : ℕ) → o ≡ Some id → id < length set.fonts) → IsFont set font
given_by set o None e h = tt
given_by set o (Some id) e h = h id e

pub font_given : (set : FontSet) (sel : Option Key) (font : Option ℕ) → id_of set sel ≡ font → IsFont set font
font_given set None None e = tt
font_given set None (Some id) e = absurd cc
font_given set (Some key) font e = given_by set (place_of set.fonts key) font e (given_is set.fonts key)

-- The character of an id and a code, where it is covered.
pub record CoveredChar (set : FontSet) (sel : Option Key) (id code : ℕ) : Type 0 where
  pub key : Key
  pub place : place_of set.fonts key ≡ Some id
  pub shown : IsShown (state_at set id) code
  pub given : id < length set.fonts
  pub small : code < 256
  pub run : IsRun (char_act sel (pos code) ∷ []) (record { key = key; code = code })

pub covered_char : (set : FontSet) (sel : Option Key) (id code : ℕ) → id_of set sel ≡ Some id → Covers set (char_act sel (pos code) ∷ []) → CoveredChar set sel id code
covered_char set sel id code e c =
    let k = covered set sel (Some id) (pos code) e c in
    let i : k.id ≡ id = let h = k.same_font in cc in
    let j : k.code ≡ code = let h = k.same_code in cc in
    record {
      key = k.key;
      place = k.place ∙ ap (λ (x : ℕ). Some x) i;
      shown = subst (λ (x : ℕ). IsShown (state_at set x) code) i (subst (λ (y : ℕ). IsShown (state_at set k.id) y) j k.shown);
      given = given_is set.fonts k.key id (k.place ∙ ap (λ (x : ℕ). Some x) i);
      small = subst (λ (y : ℕ). y < 256) j k.small;
      run = subst (λ (y : ℕ). IsRun (char_act sel (pos code) ∷ []) (record { key = k.key; code = y })) j (run_one set sel (Some id) (pos code) k);
    }

no_width : (o : Option ℤ) (size : ℕ) → IsThere o → width_by size o ≡ None → ⊥
no_width None size h e = h
no_width (Some x) size h e = cc

width_by_state : (size : ℕ) (s : State) (code : ℕ) → IsShown s code → width_of size s code ≡ None → ⊥
width_by_state size State.Known code h e = h
width_by_state size (State.Real tfm pk) code h e = no_width (width_in tfm code) size h.0 e
width_by_state size (State.Virtual tfm vf) code h e = no_width (width_in tfm code) size h.0 e

pub width_there : (set : FontSet) (id code : ℕ) → IsShown (state_at set id) code → width_at set id code ≡ None → ⊥
unfolding width_at
width_there set id code h e = width_by_state (size_at set id) (state_at set id) code h e

-- ---- a glyph

pub can_glyph : {C : Type 0} (can : C → Mark → Type 0) (c : C) (sets : Glyph → Type 0) (o : Option (List Mark × ℤ)) (glyph : Mark) (w : ℤ) → o ≡ Some (glyph ∷ [], w) → CanTake can sets c (char_marks o) → MayCome sets glyph → can c glyph
can_glyph can c sets o glyph w e h m = h glyph m (subst (λ (x : Option (List Mark × ℤ)). IsAmong (char_marks x) glyph) (sym e) (0, omega arith, refl))

pub took_real : {C : Type 0} (takes : C → C → List Mark → Type 0) (a b : C) (o : Option (List Mark × ℤ)) (glyph : Mark) (w : ℤ) → o ≡ Some (glyph ∷ [], w) → takes a b (glyph ∷ []) → TookChar takes a b w o
took_real takes a b o glyph w e h = subst (λ (x : Option (List Mark × ℤ)). TookChar takes a b w x) (sym e) (h, refl)

pub refused_real : {C F : Type 0} (takes : C → C → List Mark → Type 0) (refuses : C → C → List Mark → Mark → F → Type 0) (a b : C) (o : Option (List Mark × ℤ)) (glyph : Mark) (w : ℤ) (f : F) → o ≡ Some (glyph ∷ [], w) → refuses a b [] glyph f → Stops takes refuses a b (char_marks o) (fault.Canvas f)
refused_real takes refuses a b o glyph w f e h = subst (λ (x : Option (List Mark × ℤ)). Stops takes refuses a b (char_marks x) (fault.Canvas f)) (sym e) ([], glyph, [], h, refl)

-- ---- a packet

allowed_inner : (c : Command) → IsAllowed c → IsInner c
allowed_inner (Bop counts back) h = h
allowed_inner Eop h = h
allowed_inner (Pre head) h = h
allowed_inner (Post tail) h = h
allowed_inner (PostPost back id) h = h
allowed_inner _ h = tt

pub all_inner : (cs : List Placed) → AllAllowed cs → AllInner cs
all_inner [] h = tt
all_inner (c ∷ cs) h = (allowed_inner c.command h.0, all_inner cs h.1)

covers_boxed : (w : ℤ) (o : Outcome) → over.Covers [] (marks_alone o) (char_marks (boxed w o))
covers_boxed w None = refl
covers_boxed w (Some r) = ([], append-nil r.0)

-- what a packet has done is what its character has done
pub over_packet : (o : Option (List Mark × ℤ)) (w : ℤ) (r : Outcome) → o ≡ boxed w r → over.Covers [] (marks_alone r) (char_marks o)
over_packet o w r e = subst (λ (x : Option (List Mark × ℤ)). over.Covers [] (marks_alone r) (char_marks x)) (sym e) (covers_boxed w r)

took_boxed : {C : Type 0} (takes : C → C → List Mark → Type 0) (a b : C) (w : ℤ) (r : Outcome) → TookPage takes a b r → TookChar takes a b w (boxed w r)
took_boxed takes a b w None h = h
took_boxed takes a b w (Some r) h = (h, refl)

pub took_packet : {C : Type 0} (takes : C → C → List Mark → Type 0) (a b : C) (o : Option (List Mark × ℤ)) (w : ℤ) (r : Outcome) → o ≡ boxed w r → TookPage takes a b r → TookChar takes a b w o
took_packet takes a b o w r e h = subst (λ (x : Option (List Mark × ℤ)). TookChar takes a b w x) (sym e) (took_boxed takes a b w r h)

-- The packet of a covered character: its fonts are covered, and the canvas can take its marks.
pub packet_covers : (set : FontSet) (sel : Option Key) (id code : ℕ) (k : CoveredChar set sel id code) (program : Program) → program_at set id code ≡ Some program → Covers set (char_act sel (pos code) ∷ []) → Covers set (acts_of program)
packet_covers set sel id code k program e h =
    subst (Covers set) (body_is set k.key id code program k.place e) (covers_in set (char_act sel (pos code) ∷ []) (record { key = k.key; code = code }) k.run h)

pub packet_ready : {C : Type 0} (can : C → Mark → Type 0) (c : C) (g : Grid) (set : FontSet) (sel : Option Key) (id code : ℕ) (k : CoveredChar set sel id code) (program : Program) → program_at set id code ≡ Some program → Covers set (char_act sel (pos code) ∷ []) → (o : Option (List Mark × ℤ)) (w : ℤ) (r : Outcome) → o ≡ boxed w r → CanTake can (IsPainted g set (char_act sel (pos code) ∷ [])) c (char_marks o) → Covers set (acts_of program) × CanTake can (IsPainted g set (acts_of program)) c (marks_alone r)
packet_ready can c g set sel id code k program e h o w r f t =
    let ch : Char = record { key = k.key; code = code } in
    let xs = char_act sel (pos code) ∷ [] in
    let b : body set ch ≡ acts_of program = body_is set k.key id code program k.place e in (
      subst (Covers set) b (covers_in set xs ch k.run h),
      can_on can c (IsPainted g set (acts_of program)) (IsPainted g set xs)
          (λ glyph s. painted_more g set (body set ch) xs (reached_in (body set) xs ch k.run) glyph (subst (λ (ys : List FontAct). IsPainted g set ys glyph) (sym b) s))
          [] (marks_alone r) (char_marks o) (over_packet o w r f) t,
    )

pub is_set : (set : FontSet) (sel : Option Key) (id code : ℕ) → CoveredChar set sel id code → IsSet set (char_act sel (pos code) ∷ []) id code
is_set set sel id code k = (record { key = k.key; code = code }, (0, k.run), k.place, refl)

glyph_by : (s : State) (code : ℕ) → IsShown s code → packet_in s code ≡ None → IsGlyphOf s code
glyph_by State.Known code h e = absurd h
glyph_by (State.Real tfm pk) code h e = h
glyph_by (State.Virtual tfm vf) code h e = absurd (no_more (packet_of vf code) h.1 e)

glyph_state : (set : FontSet) (id code : ℕ) → IsShown (state_at set id) code → packet_at set id code ≡ None → IsGlyphOf (state_at set id) code
unfolding packet_at
glyph_state set id code h e = glyph_by (state_at set id) code h e

pub has_glyph : (g : Grid) (set : FontSet) (sel : Option Key) (id code : ℕ) (p : Place) (w : ℤ) → CoveredChar set sel id code → packet_at set id code ≡ None → width_at set id code ≡ Some w → HasGlyph g set (glyph_record g id code p w)
has_glyph g set sel id code p w k e f = record { given = k.given; small = k.small; shown = glyph_state set id code k.shown e; width = f; pixels = refl }

font_there : (o : Option ℕ) (r : Outcome) → IsThere o → where_font o r ≡ r
font_there None r h = absurd h
font_there (Some id) r h = refl

key_there : (set : FontSet) (sel : Option Key) (r : Outcome) → IsGood set (select_act sel) → where_font (id_of set sel) r ≡ r
key_there set None r h = absurd h
key_there set (Some key) r h = font_there (place_of set.fonts key) r h

named_there : (set : FontSet) (scope : Scope) (first : Option Named) (cs : List Placed) (r : Outcome) → Covers set (acts_with_first scope first cs) → first_there set first r ≡ r
named_there set scope None cs r c = refl
named_there set scope (Some f) cs r c = key_there set f.key r c.here.0

-- the first font of a frame that is covered is there
pub first_is : (set : FontSet) (program : Program) (r : Outcome) → Covers set (acts_of program) → first_there set program.first r ≡ r
first_is set program r c = named_there set program.scope program.first program.commands r c

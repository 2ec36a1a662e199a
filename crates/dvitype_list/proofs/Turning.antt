-- One command against what stands before it and behind it.
use Rattle.std.proofs.Common.{◌≡◌, ◌≤◌, ◌<◌, ◌++◌, ◌^◌, ◌+ℤ◌, inl, inr, ℕ, ℤ, pos, Bool, true, false, List, [], ◌∷◌, length, reverse, Option, Some, None, refl, sym, ap, subst, ◌∙◌, arith, nat_lt, nat_le, unsigned_abs}
use Rattle.std.specs.Prelude.{MatchBool, if◌then◌else◌, ◌&&◌, vec_len}
use Rattle.std.proofs.lemmas.Bool.Decides.{nat_tests}
use Rattle.std.proofs.lemmas.List.{reverse-append, length-reverse}
use Rattle.indexmap.specs.IndexSet.{insert_key}
use Rattle.dv_base.specs.Rounding.{Fraction}
use Rattle.dv_base.specs.Shelf.{Told}
use Rattle.dv_base.specs.declared.font_id.Spot.TheVariants as spot
use Rattle.positions.specs.Place.{Place}
use Rattle.positions.specs.Drift.{fits, advanced, right, down}
use Rattle.dvi_ops.specs.Command.{Command, Definition}
use Rattle.dvi_ops.specs.Command.Command.{Set, Put, Fnt, Push, Pop, Eop, SetRule, PutRule, Right, W0, W, X0, X, Down, Y0, Y, Z0, Z}
use Rattle.dvi_ops.specs.Placed.{Placed}
use Rattle.font_set.specs.Key.{Key, same_key}
use Rattle.font_set.specs.Fonts.{FontSet}
use Rattle.font_set.specs.Growth.{Extends, keys_now}
use Rattle.font_set.specs.LoadFaults.{IsCharCommand}
use Rattle.font_set.specs.Programs.{Named, key_in, page_fonts}
use Rattle.font_set.specs.declared.fault.FontFault.{FontFault}
use Rattle.font_set.specs.declared.fault.FontFault.TheVariants as font
use Rattle.font_set.specs.declared.fault.LoadFault.{LoadFault}
use Rattle.font_set.specs.declared.fault.LoadFault.TheVariants as load
use Rattle.vf_expand.specs.Grid.{Grid}
use Rattle.dvitype_list.specs.Standing.{Standing, Setting}
use Rattle.dvitype_list.specs.Turns.{turned, moved, past_char, past_rule, right_by, down_by, is_size, where_sized, space_of, set_by, put_by, in_font, popped, closed, stand_at, width_in}
use Rattle.dvitype_list.specs.Widths.{setting, width_by}
use Rattle.dvitype_list.specs.Causes.{IsLarge, Passes, Overflows, SetsNone}
use Rattle.dvitype_list.specs.Kept.{IsPlain, IsSelected, LacksWidth, IsUnread, NotLearned, WidthFault, NoWidth, Knew, NotKnew, NotTurned, Stands, Turned}
use Rattle.dvitype_list.specs.Space.{space_by}
use Rattle.dvitype_list.specs.declared.fault.ListFault.{ListFault}
use Rattle.dvitype_list.specs.declared.fault.ListFault.TheVariants as fault
use Rattle.dvitype_list.specs.declared.state.Selected.{Selected}
use Rattle.dvitype_list.specs.declared.state.State.{State}
use Rattle.font_set.proofs.Growing.{extends_self}
use Rattle.dvitype_list.proofs.Widening.{selected_later}

-- the conversion across and down, with the drift limit of a listing
abbrev pub grid_of : Fraction → Grid
grid_of f = record { across = f; down = f; drift = pos 2 }

-- ---- characters

width_same : (f : Fraction) (ds : List Definition) (set : FontSet) (key : Option Key) (z : ℤ) → width_in (setting f ds set) key z ≡ width_by set key z
width_same f ds set None z = refl
width_same f ds set (Some key) z = refl

pub set_turned : (f : Fraction) (ds : List Definition) (set : FontSet) (st : Standing) (z w : ℤ) (p q : Place) → st.place ≡ p → width_by set st.font z ≡ Some w → past_char f w p ≡ Some q → turned (setting f ds set) (Set z) st ≡ Some (record st { place = q })
unfolding turned
set_turned f ds set st z w p q e h k =
    ap (set_by f st) (width_same f ds set st.font z ∙ h) ∙ ap (λ (x : Place). stand_at st (past_char f w x)) e ∙ ap (stand_at st) k

is_false : (z : ℤ) → IsLarge z → nat_lt (unsigned_abs z) (2 ^ 31) ≡ false
is_false z l = grind (arith, nat_tests)

large_none : (z : ℤ) (x : Place) → IsLarge z → (if fits z then Some x else None) ≡ None
large_none z x l = ap (λ (b : Bool). if b then Some x else None) (is_false z l)

past_none : (f : Fraction) (w : ℤ) (p : Place) → IsLarge (p.h +ℤ w) → past_char f w p ≡ None
unfolding advanced
past_none f w p l = large_none (p.h +ℤ w) _ l

rule_none : (f : Fraction) (b : ℤ) (p : Place) → IsLarge (p.h +ℤ b) → past_rule f b p ≡ None
unfolding advanced
rule_none f b p l = large_none (p.h +ℤ b) _ l

right_none : (f : Fraction) (space q : ℤ) (p : Place) → IsLarge (p.h +ℤ q) → right_by f space q p ≡ None
unfolding right
right_none f space q p l = large_none (p.h +ℤ q) _ l

down_none : (f : Fraction) (space q : ℤ) (p : Place) → IsLarge (p.v +ℤ q) → down_by f space q p ≡ None
unfolding down
down_none f space q p l = large_none (p.v +ℤ q) _ l

if_none : (b : Bool) → (if b then None else None) ≡ (let o : Option Place = None in o)
if_none true = refl
if_none false = refl

tall_none : (a b : ℤ) (o : Option Place) → IsLarge a → where_sized a b o ≡ None
tall_none a b o l = ap (λ (x : Bool). if x && is_size b then o else None) (is_false a l)

and_false : (x : Bool) (o : Option Place) → (if x && false then o else None) ≡ None
and_false true o = refl
and_false false o = refl

wide_none : (a b : ℤ) (o : Option Place) → IsLarge b → where_sized a b o ≡ None
wide_none a b o l = ap (λ (x : Bool). if is_size a && x then o else None) (is_false b l) ∙ and_false (is_size a) o

both_none : (a b : ℤ) (o : Option Place) → o ≡ None → where_sized a b o ≡ None
both_none a b o e = ap (where_sized a b) e ∙ if_none (is_size a && is_size b)

-- what would be too large is undefined
passes_none : (f : Fraction) (space : ℤ) (c : Command) (p : Place) → Passes c p → moved f space c p ≡ None
unfolding moved
passes_none f space (SetRule a b) p h =
    elim h [
      | inl tall ↦ tall_none a b (past_rule f b p) tall
      | inr k ↦ elim k [ inl wide ↦ wide_none a b (past_rule f b p) wide | inr far ↦ both_none a b (past_rule f b p) (rule_none f b p far) ]
    ]
passes_none f space (PutRule a b) p h = elim h [ inl tall ↦ tall_none a b (Some p) tall | inr wide ↦ wide_none a b (Some p) wide ]
passes_none f space (Right q) p h = right_none f space q p h
passes_none f space W0 p h = right_none f space p.w p h
passes_none f space (W q) p h = right_none f space q (record p { w = q }) h
passes_none f space X0 p h = right_none f space p.x p h
passes_none f space (X q) p h = right_none f space q (record p { x = q }) h
passes_none f space (Down q) p h = down_none f space q p h
passes_none f space Y0 p h = down_none f space p.y p h
passes_none f space (Y q) p h = down_none f space q (record p { y = q }) h
passes_none f space Z0 p h = down_none f space p.z p h
passes_none f space (Z q) p h = down_none f space q (record p { z = q }) h
passes_none f space _ p h = absurd h

pub set_passed : (f : Fraction) (ds : List Definition) (set : FontSet) (old new : Told) (at : ℕ) (st : Standing) (z w : ℤ) (p : Place) → st.place ≡ p → width_by set st.font z ≡ Some w → IsLarge (p.h +ℤ w) → NotTurned (setting f ds set) set old new (record { place = at; command = Set z }) st (fault.Overflow (spot.Page at))
unfolding turned
set_passed f ds set old new at st z w p e h l = (
  ap (set_by f st) (width_same f ds set st.font z ∙ h) ∙ ap (λ (x : Place). stand_at st (past_char f w x)) e ∙ ap (stand_at st) (past_none f w p l),
  (refl, (w, width_same f ds set st.font z ∙ h, subst (λ (x : Place). IsLarge (x.h +ℤ w)) (sym e) l)),
)

pub put_turned : (f : Fraction) (ds : List Definition) (set : FontSet) (st : Standing) (z w : ℤ) → width_by set st.font z ≡ Some w → turned (setting f ds set) (Put z) st ≡ Some st
unfolding turned
put_turned f ds set st z w h = ap (put_by st) (width_same f ds set st.font z ∙ h)

set_none : (f : Fraction) (ds : List Definition) (set : FontSet) (st : Standing) (z : ℤ) → width_by set st.font z ≡ None → turned (setting f ds set) (Set z) st ≡ None
unfolding turned
set_none f ds set st z h = ap (set_by f st) (width_same f ds set st.font z ∙ h)

put_none : (f : Fraction) (ds : List Definition) (set : FontSet) (st : Standing) (z : ℤ) → width_by set st.font z ≡ None → turned (setting f ds set) (Put z) st ≡ None
unfolding turned
put_none f ds set st z h = ap (put_by st) (width_same f ds set st.font z ∙ h)

module _ (s : Setting) (set : FontSet) (old new : Told) (at : ℕ) (c : Command) (z : ℤ) (st : Standing) (char : IsCharCommand c z) (none : width_by set st.font z ≡ None → turned s c st ≡ None) where
  abbrev here : Placed
  here = record { place = at; command = c }

  widthless : (id : ℕ) (y : ℤ) → y ≡ z → LacksWidth set st.font id z → SetsNone set c st id y
  widthless id y e h =
      subst (λ (x : ℤ). SetsNone set c st id x) (sym e)
      (record { char = char; key = h.0; font = h.1; place = h.2 }, h.3, h.4)

  unread : (f : FontFault) → width_by set st.font z ≡ None → IsUnread set old new st.font f → NotTurned s set old new here st (fault.Load (load.Font f))
  unread font.TooManyFonts w h = absurd h
  unread font.OutOfMemory w h = absurd h
  unread (font.Missing n) w h = (none w, (z, char, h.0, h.1, h.2, h.3))
  unread (font.FileTooLong n) w h = (none w, (z, char, h.0, h.1, h.2, h.3))
  unread (font.ReadFault n) w h = (none w, (z, char, h.0, h.1, h.2, h.3))
  unread (font.Tfm n e) w h = (none w, (z, char, h.0, h.1, h.2, h.3))
  unread (font.Pk n e) w h = (none w, (z, char, h.0, h.1, h.2, h.3))
  unread (font.Vf n e) w h = (none w, (z, char, h.0, h.1, h.2, h.3))
  unread (font.BadSize p) w h = (none w, (z, char, h.0, h.1, h.2, h.3))
  unread font.RasterSpace w h = (none w, (z, char, h.0, h.1, h.2, h.3))

  unloaded : (f : LoadFault) → width_by set st.font z ≡ None → WidthFault set old new st.font z (spot.Page at) (fault.Load f) → NotTurned s set old new here st (fault.Load f)
  unloaded (load.UndefinedFont x) w h = absurd h
  unloaded (load.NoFont x) w h = (none w, (h.0, (z, char, h.1)))
  unloaded (load.NoChar id y) w h = (none w, widthless id y h.0 h.1)
  unloaded (load.NoPacket id code) w h = absurd h
  unloaded (load.NoGlyph id code) w h = absurd h
  unloaded (load.GlyphTooBig id code n) w h = absurd h
  unloaded (load.Font f) w h = unread f w h

  pub char_stops : (e : ListFault) → NoWidth set old new st.font z (spot.Page at) e → NotTurned s set old new here st e
  char_stops (fault.Load f) h = unloaded f h.0 h.1
  char_stops (fault.StackUnder x) h = absurd h.1
  char_stops (fault.StackLeft x) h = absurd h.1
  char_stops (fault.StackDeep x) h = absurd h.1
  char_stops (fault.Overflow x) h = absurd h.1
  char_stops fault.WriteFault h = absurd h.1
  char_stops fault.OutOfMemory h = tt

pub set_stops : (f : Fraction) (ds : List Definition) (set : FontSet) (old new : Told) (at : ℕ) (z : ℤ) (st : Standing) (e : ListFault) → NoWidth set old new st.font z (spot.Page at) e → NotTurned (setting f ds set) set old new (record { place = at; command = Set z }) st e
set_stops f ds set old new at z st e h = char_stops (setting f ds set) set old new at (Set z) z st refl (set_none f ds set st z) e h

pub put_stops : (f : Fraction) (ds : List Definition) (set : FontSet) (old new : Told) (at : ℕ) (z : ℤ) (st : Standing) (e : ListFault) → NoWidth set old new st.font z (spot.Page at) e → NotTurned (setting f ds set) set old new (record { place = at; command = Put z }) st e
put_stops f ds set old new at z st e h = char_stops (setting f ds set) set old new at (Put z) z st refl (put_none f ds set st z) e h

-- what stands behind a move of the place
pub stands_moved : (F G : FontSet) (old new : State) (st : Standing) → Extends F G → keys_now G ≡ keys_now F → Stands F old st → new.font ≡ old.font → new.saved.items ≡ old.saved.items → Stands G new (record st { place = new.pos })
stands_moved F G old new st l k h font saved =
    record {
      place = refl;
      font = subst (λ (f : Option Selected). IsSelected G f st.font) (sym font) (selected_later F G old.font st.font l h.font);
      pushes = h.pushes ∙ ap reverse (sym saved);
      known = h.known ∙ sym k;
    }

-- ---- fonts

known_some : (st : Standing) (key : Key) (ks : List Key) → ks ≡ insert_key same_key st.known key → length ks ≤ 1000 → in_font st (Some key) ≡ Some (record st { font = Some key; known = ks })
known_some st key ks e l =
    let le : nat_le (length (insert_key same_key st.known key)) 1000 ≡ true = subst (λ (x : List Key). nat_le (length x) 1000 ≡ true) e (grind (arith, nat_tests)) in
    ap (λ (b : Bool). if b then Some (record st { font = Some key; known = insert_key same_key st.known key }) else None) le
    ∙ ap (λ (x : List Key). Some (record st { font = Some key; known = x })) (sym e)

pub font_turned : (f : Fraction) (ds : List Definition) (set : FontSet) (st : Standing) (k : ℤ) (key : Key) (ks : List Key) → key_in (page_fonts ds) k ≡ Some key → ks ≡ insert_key same_key st.known key → length ks ≤ 1000 → turned (setting f ds set) (Fnt k) st ≡ Some (record st { font = Some key; known = ks })
unfolding turned
font_turned f ds set st k key ks e h l = ap (in_font st) e ∙ known_some st key ks h l

not_known : (st : Standing) (key : Key) → 1000 < length (insert_key same_key st.known key) → in_font st (Some key) ≡ None
not_known st key l =
    let much : nat_le (length (insert_key same_key st.known key)) 1000 ≡ false = grind (arith, nat_tests) in
    ap (λ (b : Bool). if b then Some (record st { font = Some key; known = insert_key same_key st.known key }) else None) much

module _ (f : Fraction) (ds : List Definition) (F G : FontSet) (old new : Told) (at : ℕ) (k : ℤ) (st : Standing) (known : st.known ≡ keys_now F) where
  abbrev fnt : Placed
  fnt = record { place = at; command = Fnt k }

  undefined_none : key_in (page_fonts ds) k ≡ None → turned (setting f ds G) (Fnt k) st ≡ None
  unfolding turned
  undefined_none e = ap (in_font st) e

  full_none : (key : Key) → key_in (page_fonts ds) k ≡ Some key → 1000 < length (insert_key same_key st.known key) → turned (setting f ds G) (Fnt k) st ≡ None
  unfolding turned
  full_none key e l = ap (in_font st) e ∙ not_known st key l

  learn_stops : (key : Key) → key_in (page_fonts ds) k ≡ Some key → (e : ListFault) → NotLearned F key e → NotTurned (setting f ds G) G old new fnt st e
  learn_stops key names (fault.Load (load.Font font.TooManyFonts)) h =
      let much : 1000 < length (insert_key same_key st.known key) = subst (λ (ks : List Key). 1000 < length (insert_key same_key ks key)) (sym known) h in
      (full_none key names much, (k, refl, key, names, much))
  learn_stops key names fault.OutOfMemory h = tt
  learn_stops key names _ h = absurd h

  pub font_stops : (e : ListFault) → NotKnew F (page_fonts ds) k (spot.Page at) e → NotTurned (setting f ds G) G old new fnt st e
  font_stops (fault.Load (load.UndefinedFont x)) h = (undefined_none h.1, (h.0, (k, refl, h.1)))
  font_stops e h = learn_stops h.0 h.1 e h.2

pub stands_font : (F G : FontSet) (old new : State) (fonts : List Named) (k : ℤ) (f : Selected) (st : Standing) (w : Knew F G fonts k f) → Stands F old st → new.pos ≡ old.pos → new.font ≡ Some f → new.saved.items ≡ old.saved.items → Stands G new (record st { font = Some w.key; known = keys_now G })
stands_font F G old new fonts k f st w h there font saved =
    record {
      place = h.place ∙ sym there;
      font = subst (λ (x : Option Selected). IsSelected G x (Some w.key)) (sym font) w.learned.selected;
      pushes = h.pushes ∙ ap reverse (sym saved);
      known = refl;
    }

-- what a selection leaves
pub font_knew : (f : Fraction) (ds : List Definition) (F G : FontSet) (old new : State) (k : ℤ) (sel : Selected) (st : Standing) → Knew F G (page_fonts ds) k sel → Stands F old st → new.pos ≡ old.pos → new.font ≡ Some sel → new.saved.items ≡ old.saved.items → Turned (setting f ds G) (Fnt k) st G new
font_knew f ds F G old new k sel st w h there font saved =
    record {
      behind = _;
      is = font_turned f ds G st k w.key (keys_now G) w.names (w.learned.learns ∙ ap (λ (ks : List Key). insert_key same_key ks w.key) (sym h.known)) w.learned.few;
      stands = stands_font F G old new (page_fonts ds) k sel st w h there font saved;
    }

-- ---- pushes

pub push_turned : (s : Setting) (st : Standing) → length st.pushes < 1000 → turned s Push st ≡ Some (record st { pushes = st.place ∷ st.pushes })
unfolding turned
push_turned s st l =
    let lt : nat_lt (length st.pushes) 1000 ≡ true = grind (arith, nat_tests) in
    ap (λ (b : Bool). if b then Some (record st { pushes = st.place ∷ st.pushes }) else None) lt

pub push_none : (s : Setting) (st : Standing) → length st.pushes ≡ 1000 → turned s Push st ≡ None
unfolding turned
push_none s st l =
    let ge : nat_lt (length st.pushes) 1000 ≡ false = grind (arith, nat_tests) in
    ap (λ (b : Bool). if b then Some (record st { pushes = st.place ∷ st.pushes }) else None) ge

pub as_many : (set : FontSet) (state : State) (st : Standing) → Stands set state st → length st.pushes ≡ length state.saved.items
as_many set state st h = ap length h.pushes ∙ length-reverse state.saved.items

pub stands_pushed : (set : FontSet) (old new : State) (st : Standing) → Stands set old st → new.pos ≡ old.pos → new.font ≡ old.font → new.saved.items ≡ old.saved.items ++ old.pos ∷ [] → Stands set new (record st { pushes = st.place ∷ st.pushes })
stands_pushed set old new st h there font saved =
    record {
      place = h.place ∙ sym there;
      font = subst (λ (x : Option Selected). IsSelected set x st.font) (sym font) h.font;
      pushes =
          ap (λ (p : Place). p ∷ st.pushes) h.place ∙ ap (λ (ps : List Place). old.pos ∷ ps) h.pushes
          ∙ sym (ap reverse saved ∙ reverse-append old.saved.items (old.pos ∷ []));
      known = h.known;
    }

pub pop_turned : (s : Setting) (st : Standing) (p : Place) (ps : List Place) → st.pushes ≡ p ∷ ps → turned s Pop st ≡ Some (record st { place = p; pushes = ps })
unfolding turned
pop_turned s st p ps e = ap (popped st) e

pub pop_none : (s : Setting) (st : Standing) → st.pushes ≡ [] → turned s Pop st ≡ None
unfolding turned
pop_none s st e = ap (popped st) e

pub pushes_of : (set : FontSet) (old new : State) (st : Standing) → Stands set old st → old.saved.items ≡ new.saved.items ++ new.pos ∷ [] → st.pushes ≡ new.pos ∷ reverse new.saved.items
pushes_of set old new st h saved = h.pushes ∙ ap reverse saved ∙ reverse-append new.saved.items (new.pos ∷ [])

pub stands_popped : (set : FontSet) (old new : State) (st : Standing) → Stands set old st → new.font ≡ old.font → Stands set new (record st { place = new.pos; pushes = reverse new.saved.items })
stands_popped set old new st h font =
    record { place = refl; font = subst (λ (x : Option Selected). IsSelected set x st.font) (sym font) h.font; pushes = refl; known = h.known }

pub none_saved : (set : FontSet) (state : State) (st : Standing) → Stands set state st → state.saved.items ≡ [] → st.pushes ≡ []
none_saved set state st h e = h.pushes ∙ ap reverse e

pub end_turned : (s : Setting) (st : Standing) → st.pushes ≡ [] → turned s Eop st ≡ Some st
unfolding turned
end_turned s st e = ap (closed st) e

left_none : (st : Standing) (ps : List Place) → 0 < length ps → closed st ps ≡ None
left_none st [] l = absurd (omega arith)
left_none st (p ∷ ps) l = refl

pub end_none : (s : Setting) (st : Standing) → 0 < length st.pushes → turned s Eop st ≡ None
unfolding turned
end_none s st l = left_none st st.pushes l

-- ---- moves

pub plain_turned : (s : Setting) (c : Command) (st : Standing) → IsPlain c → turned s c st ≡ stand_at st (moved s.pixels (space_of st.font) c st.place)
unfolding turned
plain_turned s (Set z) st h = absurd h
plain_turned s (Put z) st h = absurd h
plain_turned s (Fnt k) st h = absurd h
plain_turned s Push st h = absurd h
plain_turned s Pop st h = absurd h
plain_turned s Eop st h = absurd h
plain_turned s _ st h = refl

pub space_same : (set : FontSet) (f : Option Selected) (key : Option Key) → IsSelected set f key → space_by f ≡ space_of key
space_same set None None h = refl
space_same set (Some f) (Some key) h = h.1
space_same set None (Some key) h = absurd h
space_same set (Some f) None h = absurd h

pub overflows : (s : Setting) (c : Command) (st : Standing) → IsPlain c → Passes c st.place → Overflows s c st
overflows s (Set z) st h k = absurd h
overflows s _ st h k = k

-- ---- what is saved

pub nil_of : (ps : List Place) → length ps ≡ 0 → ps ≡ []
nil_of [] e = refl
nil_of (p ∷ ps) e = absurd (omega arith)

-- ---- moves of the code

module _ (f : Fraction) (ds : List Definition) (set : FontSet) (c : Command) (st : Standing) (old : State) (space : ℤ) (plain : IsPlain c) (h : Stands set old st) (same : space ≡ space_by old.font) where
  moved_same : turned (setting f ds set) c st ≡ stand_at st (moved f space c old.pos)
  moved_same =
      plain_turned (setting f ds set) c st plain
      ∙ ap (λ (x : ℤ). stand_at st (moved f x c st.place)) (sym (space_same set old.font st.font h.font) ∙ sym same)
      ∙ ap (λ (p : Place). stand_at st (moved f space c p)) h.place

  pub shift_turned : (q : Place) → moved f space c old.pos ≡ Some q → turned (setting f ds set) c st ≡ Some (record st { place = q })
  shift_turned q e = moved_same ∙ ap (stand_at st) e

  pub shift_stops : (told_old told_new : Told) (at : ℕ) → Passes c old.pos → NotTurned (setting f ds set) set told_old told_new (record { place = at; command = c }) st (fault.Overflow (spot.Page at))
  shift_stops told_old told_new at k = (
    moved_same ∙ ap (stand_at st) (passes_none f space c old.pos k),
    (refl, overflows (setting f ds set) c st plain (subst (λ (p : Place). Passes c p) (sym h.place) k)),
  )

-- what stands behind a move of the place alone
pub stands_placed : (set : FontSet) (old new : State) (st : Standing) → Stands set old st → new.font ≡ old.font → new.saved.items ≡ old.saved.items → Stands set new (record st { place = new.pos })
stands_placed set old new st h font saved = stands_moved set set old new st (extends_self set) refl h font saved

-- what a push or a pop leaves that wasn't done
pub stands_kept : (set : FontSet) (old new : State) (st : Standing) → Stands set old st → new.pos ≡ old.pos → new.font ≡ old.font → new.saved.items ≡ old.saved.items → Stands set new st
stands_kept set old new st h there font saved =
    record {
      place = h.place ∙ sym there;
      font = subst (λ (f : Option Selected). IsSelected set f st.font) (sym font) h.font;
      pushes = h.pushes ∙ ap reverse (sym saved);
      known = h.known;
    }

pub push_tried : (set : FontSet) (s : Setting) (st : Standing) (old new : State) (b : Bool) → Stands set old st → new.pos ≡ old.pos → new.font ≡ old.font → MatchBool b (new.saved.items ≡ old.saved.items ++ old.pos ∷ []) (new.saved.items ≡ old.saved.items) → MatchBool b (vec_len old.saved < 1000) (vec_len old.saved ≡ 1000) → MatchBool b (Turned s Push st set new) (Stands set new st)
push_tried set s st old new true h there font kept room =
    record {
      behind = _;
      is = push_turned s st (omega (arith, as_many set old st h, old.saved.ok.0, room));
      stands = stands_pushed set old new st h there font kept;
    }
push_tried set s st old new false h there font kept room = stands_kept set old new st h there font kept

pub pop_tried : (set : FontSet) (s : Setting) (st : Standing) (old new : State) (b : Bool) → Stands set old st → new.font ≡ old.font → MatchBool b (old.saved.items ≡ new.saved.items ++ new.pos ∷ []) (old.saved.items ≡ []) → MatchBool b (Unit {0}) ((new.pos ≡ old.pos) × (new.saved.items ≡ [])) → MatchBool b (Turned s Pop st set new) (Stands set new st)
pop_tried set s st old new true h font given stays =
    record { behind = _; is = pop_turned s st _ _ (pushes_of set old new st h given); stands = stands_popped set old new st h font }
pop_tried set s st old new false h font given stays = stands_kept set old new st h stays.0 font (stays.1 ∙ sym given)

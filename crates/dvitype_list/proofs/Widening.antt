-- Sets of fonts that grow: widths that are told stay, and what stands stays.
use Rattle.std.proofs.Common.{Result, Ok, Err, length-append, ◌≡◌, ◌≤◌, ◌<◌, ◌+◌, ◌/◌, inl, inr, ℕ, zero, suc, ℤ, pos, negsuc, Bool, true, false, List, [], ◌∷◌, length, Option, Some, None, refl, sym, ap, subst, ◌∙◌, arith, nat_lt, get_or}
use Rattle.std.specs.Prelude.{if◌then◌else◌, slice_get, OnOk, OnErr, IfOk, IfErr}
use Rattle.std.proofs.lemmas.List.{length-map}
use Rattle.indexmap.specs.IndexSet.{insert_key}
use Rattle.font_set.specs.FontFaults.{IsFull, NotKnown, NotLoaded}
use Rattle.font_set.specs.declared.fault.FontFault.{FontFault}
use Rattle.font_set.specs.declared.fault.FontFault.TheVariants as font
use Rattle.font_set.proofs.Learning.{learnt_new}
use Rattle.font_set.proofs.Keys.{learn_new}
use Rattle.dvitype_list.specs.Faults.{of_font}
use Rattle.dvi_ops.specs.Command.{Definition}
use Rattle.dv_base.specs.declared.font_id.Spot.{Spot}
use Rattle.dv_base.specs.declared.font_id.Spot.TheVariants as spot
use Rattle.dvi_doc.specs.View.{IsKeyOf}
use Rattle.dvi_doc.specs.declared.font.FontKey.{FontKey}
use Rattle.font_set.specs.Views.{key_of}
use Rattle.dvitype_list.proofs.Selecting.{key_is}
use Rattle.font_set.specs.Programs.{key_in, page_fonts}
use Rattle.font_set.specs.declared.fault.LoadFault.TheVariants as load
use Rattle.dvitype_list.specs.declared.fault.ListFault.{ListFault}
use Rattle.dvitype_list.specs.declared.fault.ListFault.TheVariants as fault
use Rattle.std.proofs.lemmas.Bool.Decides.{nat_tests}
use Rattle.std.proofs.lemmas.List.Quantifiers.{position-Some}
use Rattle.dv_base.specs.Shelf.{Contents, Told}
use Rattle.font_set.specs.Key.{Key, same_key}
use Rattle.font_set.specs.Fonts.{State as FontState, Entry, FontSet, place_of, key_at, entry_key, learn, size_at, state_at, width_at, width_of, IsLoaded}
use Rattle.font_set.specs.Growth.{Extends, Loaded, keys_now}
use Rattle.font_set.specs.Gains.{Gains}
use Rattle.font_set.specs.FontOf.{Loads}
use Rattle.dvitype_list.specs.Causes.{IsUnreadIn, IsWidthless}
use Rattle.font_set.proofs.Growing.{state_later, size_later}
use Rattle.font_set.proofs.Gaining.{gains_self, gains_on, gains_wider, loaded_gains}
use Rattle.font_set.proofs.Ids.{id_below, same_is}
use Rattle.dvitype_list.specs.Standing.{Standing}
use Rattle.dvitype_list.specs.Widths.{width_told, widths_of, width_by}
use Rattle.dvitype_list.specs.Kept.{Any, IsNoChar, IsSelected, Knew, Learned, NoWidth, NoWidthAt, NotKnew, NotLearned, Stands, StaysUnread, defined_key}
use Rattle.dvitype_list.specs.declared.state.Selected.{Selected}
use Rattle.dvitype_list.specs.declared.state.State.{State}

-- ---- widths

none_known : (size code : ℕ) (x : ℤ) (s : FontState) → width_of size s code ≡ Some x → IsLoaded s
none_known size code x FontState.Known e = absurd cc
none_known size code x (FontState.Real tfm pk) e = tt
none_known size code x (FontState.Virtual tfm vf) e = tt

width_later : (F G : FontSet) (id code : ℕ) (x : ℤ) → Extends F G → width_at F id code ≡ Some x → width_at G id code ≡ Some x
unfolding width_at
width_later F G id code x l e =
    let loaded = none_known (size_at F id) code x (state_at F id) e in
    ap (λ (n : ℕ). width_of n (state_at G id) code) (size_later F G id l loaded)
    ∙ ap (λ (s : FontState). width_of (size_at F id) s code) (state_later F G id l loaded)
    ∙ e

told_by : (b : Bool) (m n : Option ℤ) (x : ℤ) → (m ≡ Some x → n ≡ Some x) → (if b then m else None) ≡ Some x → (if b then n else None) ≡ Some x
told_by true m n x h e = h e
told_by false m n x h e = e

told_later : (F G : FontSet) (id : ℕ) (z x : ℤ) → Extends F G → width_told F (Some id) z ≡ Some x → width_told G (Some id) z ≡ Some x
told_later F G id (pos code) x l e = told_by (nat_lt code 256) (width_at F id code) (width_at G id code) x (width_later F G id code x l) e
told_later F G id (negsuc n) x l e = absurd cc

placed_later : (F G : FontSet) (key : Key) (z x : ℤ) (o : Option ℕ) → Extends F G → place_of F.fonts key ≡ o → width_told F o z ≡ Some x → width_told G (place_of G.fonts key) z ≡ Some x
placed_later F G key z x None l p e = absurd cc
placed_later F G key z x (Some id) l p e = subst (λ (o : Option ℕ). width_told G o z ≡ Some x) (sym (l.keys key id p)) (told_later F G id z x l e)

pub widths_later : (F G : FontSet) → Extends F G → (key : Key) (z x : ℤ) → widths_of F key z ≡ Some x → widths_of G key z ≡ Some x
unfolding widths_of
widths_later F G l key z x e = placed_later F G key z x (place_of F.fonts key) l refl e

-- the width by the place of the key
pub width_placed : (set : FontSet) (key : Key) (id : ℕ) (z : ℤ) → place_of set.fonts key ≡ Some id → widths_of set key z ≡ width_told set (Some id) z
unfolding widths_of
width_placed set key id z p = ap (λ (o : Option ℕ). width_told set o z) p

known_none : (set : FontSet) (id code : ℕ) → state_at set id ≡ FontState.Known → width_at set id code ≡ None
unfolding width_at
known_none set id code e = ap (λ (s : FontState). width_of (size_at set id) s code) e

if_none : (b : Bool) (m : Option ℤ) → m ≡ None → (if b then m else None) ≡ None
if_none true m e = e
if_none false m e = refl

-- a font that isn't loaded has no width
pub unread_told : (set : FontSet) (id : ℕ) (z : ℤ) → state_at set id ≡ FontState.Known → width_told set (Some id) z ≡ None
unread_told set id (pos code) e = if_none (nat_lt code 256) (width_at set id code) (known_none set id code e)
unread_told set id (negsuc n) e = refl

past_none : (code : ℕ) (m : Option ℤ) → 255 < code → (if nat_lt code 256 then m else None) ≡ None
past_none code m h = by (nat_lt code 256) refl
  where
    by : (b : Bool) → nat_lt code 256 ≡ b → (if b then m else None) ≡ None
    by true e = absurd (grind (arith, nat_tests))
    by false e = refl

same_pos : (a b : ℕ) → pos a ≡ pos b → a ≡ b
same_pos a b e = cc

-- nor has a code that isn't one
pub widthless_told : (set : FontSet) (id : ℕ) (z : ℤ) → IsWidthless set id z → width_told set (Some id) z ≡ None
widthless_told set id (pos code) h =
    elim h [
      | inl far ↦ past_none code (width_at set id code) (far code refl)
      | inr w ↦ if_none (nat_lt code 256) (width_at set id code) (ap (width_at set id) (same_pos code w.0 w.1) ∙ w.2)
    ]
widthless_told set id (negsuc n) h = refl

-- ---- keys and places

entry_at : (es : List Entry) (i : ℕ) (d : Entry) → i < length es → slice_get es i ≡ Some (get_or es i d)
entry_at [] i d l = absurd (omega arith)
entry_at (e ∷ es) zero d l = refl
entry_at (e ∷ es) (suc i) d l = entry_at es i d (omega arith)

-- the key at the place of a key
pub key_placed : (set : FontSet) (key : Key) (id : ℕ) → place_of set.fonts key ≡ Some id → key_at set id ≡ key
unfolding place_of key_at
key_placed set key id p =
    let d : Entry = record { key = key; state = FontState.Known } in
    let h = position-Some (λ (x : Entry). same_key key x.key) set.fonts id d p in
    ap entry_key (entry_at set.fonts id d h.0) ∙ sym (same_is key (get_or set.fonts id d).key h.1)

-- ---- what stands

pub selected_later : (F G : FontSet) (f : Option Selected) (key : Option Key) → Extends F G → IsSelected F f key → IsSelected G f key
selected_later F G None None l h = tt
selected_later F G (Some f) (Some key) l h = (l.keys key f.id h.0, h.1)
selected_later F G None (Some key) l h = h
selected_later F G (Some f) None l h = h

pub stands_later : (F G : FontSet) (state : State) (st : Standing) → Extends F G → keys_now G ≡ keys_now F → Stands F state st → Stands G state st
stands_later F G state st l k h =
    record { place = h.place; font = selected_later F G state.font st.font l h.font; pushes = h.pushes; known = h.known ∙ sym k }

-- ---- what a set gains

pub any_self : (held : Option Contents) (set : FontSet) → Gains held set set Any Any
any_self held set = gains_self held set Any Any

pub any_on : (held : Option Contents) (a b c : FontSet) → Gains held a b Any Any → Gains held b c Any Any → Gains held a c Any Any
any_on held a b c x y = gains_on held a b c Any Any Any Any (λ id l. tt) (λ k l. tt) x y

pub any_held : (h k : Option Contents) (a b : FontSet) → h ≡ k → Gains h a b Any Any → Gains k a b Any Any
any_held h k a b e g = subst (λ (o : Option Contents). Gains o a b Any Any) e g

pub any_learnt : (held : Option Contents) (old new : FontSet) (L : ℕ → Type 0) (K : Key → Type 0) → Gains held old new L K → Gains held old new Any Any
any_learnt held old new L K g = gains_wider held old new L Any K Any (λ id l. tt) (λ k l. tt) g

-- ---- calls on a set

load_gains_by : {E : Type 0} (r : Result (Unit {0}) E) (held : Option Contents) (old new : FontSet) (id : ℕ) → OnOk r (Loads held old.units old.want old.fonts new.fonts id) → OnOk r (Loaded old new id) → OnErr r (new ≡ old) → Gains held old new Any Any
load_gains_by (Ok u) held old new id l d e = any_learnt held old new (λ i. i ≡ id) (λ key. ⊥) (loaded_gains held old new id l d)
load_gains_by (Err x) held old new id l d e = subst (λ (s : FontSet). Gains held old s Any Any) (sym e) (any_self held old)

pub load_gains : {E : Type 0} (r : Result (Unit {0}) E) (held : Option Contents) (old new : FontSet) (id : ℕ) → OnOk r (Loads held old.units old.want old.fonts new.fonts id) → OnOk r (Loaded old new id) → OnErr r (new ≡ old) → Gains held old new Any Any
load_gains r held old new id l d e = load_gains_by r held old new id l d e

keys_many : (set : FontSet) → length (keys_now set) ≡ length set.fonts
unfolding keys_now
keys_many set = length-map set.fonts (λ (e : Entry). e.key)

-- a new key where 1,000 are known
pub full_many : (set : FontSet) (key : Key) → IsFull set.fonts key → 1000 < length (insert_key same_key (keys_now set) key)
full_many set key h =
    let w = learnt_new set key h.1 in
    let grown : FontSet = record { units = set.units; want = set.want; fonts = learn set.fonts key } in
    let many = keys_many grown in
    let pushed = learn_new set.fonts key h.1 in
    let e : Entry = record { key = key; state = FontState.Known } in
    let longer : length (learn set.fonts key) ≡ length set.fonts + 1 = ap length (sym pushed) ∙ length-append set.fonts (e ∷ []) in
    let same : length (insert_key same_key (keys_now set) key) ≡ length (learn set.fonts key) = ap length (sym w.learns) ∙ many in
    omega (arith, same, longer, h.0)

pub few_keys : (set : FontSet) (n : ℕ) → n ≡ length set.fonts → n ≤ 1000 → length (keys_now set) ≤ 1000
few_keys set n e l = omega (arith, keys_many set, e, l)

not_learned : (set : FontSet) (key : Key) (f : FontFault) → NotKnown set.fonts key f → NotLearned set key (of_font f)
not_learned set key font.TooManyFonts h = full_many set key h
not_learned set key font.OutOfMemory h = tt
not_learned set key _ h = absurd h

-- so it is of the key that the code makes of a definition
pub not_learned_of : (set : FontSet) (d : Definition) (key : FontKey) (f : FontFault) → IsKeyOf d key → NotKnown set.fonts (key_of key) f → NotLearned set (defined_key d) (of_font f)
not_learned_of set d key f is h = not_learned set (defined_key d) f (subst (λ (k : Key). NotKnown set.fonts k f) (key_is d key is) h)

pub knew : (old new : FontSet) (ds : List Definition) (k : ℤ) (d : Definition) (r : Result Selected ListFault) → key_in (page_fonts ds) k ≡ Some (defined_key d) → IfOk r (Learned old new (defined_key d)) → IfOk r (Knew old new (page_fonts ds) k)
knew old new ds k d (Ok f) e h = record { key = defined_key d; names = e; learned = h }
knew old new ds k d (Err x) e h = h

fault_knew : (old : FontSet) (ds : List Definition) (k : ℤ) (at : ℕ) (d : Definition) (e : ListFault) → key_in (page_fonts ds) k ≡ Some (defined_key d) → NotLearned old (defined_key d) e → NotKnew old (page_fonts ds) k (spot.Page at) e
fault_knew old ds k at d (fault.Load (load.UndefinedFont x)) e h = absurd h
fault_knew old ds k at d _ e h = (defined_key d, e, h)

pub not_knew : (old : FontSet) (ds : List Definition) (k : ℤ) (at : ℕ) (d : Definition) (r : Result Selected ListFault) → key_in (page_fonts ds) k ≡ Some (defined_key d) → IfErr r (NotLearned old (defined_key d)) → IfErr r (NotKnew old (page_fonts ds) k (spot.Page at))
not_knew old ds k at d (Ok f) e h = h
not_knew old ds k at d (Err x) e h = fault_knew old ds k at d x e h

pub learned_of : (old new : FontSet) (d : Definition) (key : FontKey) (f : Selected) → IsKeyOf d key → place_of new.fonts (key_of key) ≡ Some f.id → f.space ≡ pos (key.size / 6) → keys_now new ≡ insert_key same_key (keys_now old) (key_of key) → length (keys_now new) ≤ 1000 → Learned old new (defined_key d) f
learned_of old new d key f h place space learns few =
    subst (λ (k : Key). Learned old new k f) (key_is d key h) (record { selected = (place, space); learns = learns; few = few })

-- ---- characters without a width

stays_fault : (set : FontSet) (old new : Told) (id : ℕ) (z : ℤ) (f : FontFault) → StaysUnread set old new id f → NoWidthAt set old new id z (of_font f)
stays_fault set old new id z font.OutOfMemory h = tt
stays_fault set old new id z (font.Missing n) h = h
stays_fault set old new id z (font.FileTooLong n) h = h
stays_fault set old new id z (font.ReadFault n) h = h
stays_fault set old new id z (font.Tfm n e) h = h
stays_fault set old new id z (font.Pk n e) h = h
stays_fault set old new id z (font.Vf n e) h = h
stays_fault set old new id z (font.BadSize p) h = h
stays_fault set old new id z font.TooManyFonts h = h
stays_fault set old new id z font.RasterSpace h = h

pub unread_fault : (set : FontSet) (old new : Told) (id : ℕ) (z : ℤ) (f : FontFault) → StaysUnread set old new id f → NoWidthAt set old new id z (of_font f)
unread_fault set old new id z f h = stays_fault set old new id z f h

no_char : (set : FontSet) (old new : Told) (id : ℕ) (z : ℤ) (e : ListFault) → IsLoaded (state_at set id) → IsNoChar set id z e → NoWidthAt set old new id z e
no_char set old new id z (fault.Load (load.NoChar i y)) l h = (h.0, h.1, l, h.2)
no_char set old new id z _ l h = absurd h

pub no_char_by : (set : FontSet) (old new : Told) (id : ℕ) (z : ℤ) (r : Result ℤ ListFault) → IsLoaded (state_at set id) → IfErr r (IsNoChar set id z) → IfErr r (NoWidthAt set old new id z)
no_char_by set old new id z (Ok w) l h = h
no_char_by set old new id z (Err e) l h = no_char set old new id z e l h

module _ (set : FontSet) (old new : Told) (k : Key) (id : ℕ) (z : ℤ) (sp : Spot) (place : place_of set.fonts k ≡ Some id) where
  told_none : width_told set (Some id) z ≡ None → width_by set (Some k) z ≡ None
  told_none e = width_placed set k id z place ∙ e

  unread_why : (f : FontFault) → NotLoaded set (key_at set id) old new f → NotLoaded set k old new f
  unread_why f h = subst (λ (x : Key). NotLoaded set x old new f) (key_placed set k id place) h

  stays_unread : state_at set id ≡ FontState.Known → IsUnreadIn set k
  stays_unread h = (id, place, λ l. subst (λ (s : FontState). IsLoaded s) h l)

  font_fault : (f : FontFault) → NoWidthAt set old new id z (fault.Load (load.Font f)) → NoWidth set old new (Some k) z sp (fault.Load (load.Font f))
  font_fault font.OutOfMemory h = absurd h
  font_fault font.TooManyFonts h = absurd h.1
  font_fault (font.Missing n) h = (told_none (unread_told set id z h.0), (k, refl, unread_why (font.Missing n) h.1, stays_unread h.0))
  font_fault (font.FileTooLong n) h = (told_none (unread_told set id z h.0), (k, refl, unread_why (font.FileTooLong n) h.1, stays_unread h.0))
  font_fault (font.ReadFault n) h = (told_none (unread_told set id z h.0), (k, refl, unread_why (font.ReadFault n) h.1, stays_unread h.0))
  font_fault (font.Tfm n e) h = (told_none (unread_told set id z h.0), (k, refl, unread_why (font.Tfm n e) h.1, stays_unread h.0))
  font_fault (font.Pk n e) h = (told_none (unread_told set id z h.0), (k, refl, unread_why (font.Pk n e) h.1, stays_unread h.0))
  font_fault (font.Vf n e) h = (told_none (unread_told set id z h.0), (k, refl, unread_why (font.Vf n e) h.1, stays_unread h.0))
  font_fault (font.BadSize p) h = (told_none (unread_told set id z h.0), (k, refl, unread_why (font.BadSize p) h.1, stays_unread h.0))
  font_fault font.RasterSpace h = (told_none (unread_told set id z h.0), (k, refl, unread_why font.RasterSpace h.1, stays_unread h.0))

  width_fault : (e : ListFault) → NoWidthAt set old new id z e → NoWidth set old new (Some k) z sp e
  width_fault (fault.Load (load.NoChar i y)) h = (
    told_none (widthless_told set id z h.3),
    (h.1, (k, refl, place ∙ ap (λ (n : ℕ). Some n) (sym h.0), subst (λ (n : ℕ). IsLoaded (state_at set n)) (sym h.0) h.2, subst (λ (n : ℕ). IsWidthless set n z) (sym h.0) h.3)),
  )
  width_fault (fault.Load (load.Font f)) h = font_fault f h
  width_fault fault.OutOfMemory h = tt
  width_fault _ h = absurd h

-- ---- the selected font

-- what is told of its width, by its key
pub selected_ok : (old set : FontSet) (f : Selected) (key : Option Key) (z : ℤ) (r : Result ℤ ListFault) → Extends old set → IsSelected old (Some f) key → IfOk r (λ w. width_told set (Some f.id) z ≡ Some w) → IfOk r (λ w. width_by set key z ≡ Some w)
selected_ok old set f None z r l h e = absurd h
selected_ok old set f (Some k) z (Ok w) l h e = width_placed set k f.id z (l.keys k f.id h.0) ∙ e
selected_ok old set f (Some k) z (Err x) l h e = e

pub selected_fault : (old set : FontSet) (told_old told_new : Told) (f : Selected) (key : Option Key) (z : ℤ) (sp : Spot) (r : Result ℤ ListFault) → Extends old set → IsSelected old (Some f) key → IfErr r (NoWidthAt set told_old told_new f.id z) → IfErr r (NoWidth set told_old told_new key z sp)
selected_fault old set told_old told_new f None z sp r l h e = absurd h
selected_fault old set told_old told_new f (Some k) z sp (Ok w) l h e = e
selected_fault old set told_old told_new f (Some k) z sp (Err x) l h e = width_fault set told_old told_new k f.id z sp (l.keys k f.id h.0) x e

pub none_selected : (set : FontSet) (told_old told_new : Told) (key : Option Key) (z : ℤ) (at : ℕ) → IsSelected set None key → NoWidth set told_old told_new key z (spot.Page at) (fault.Load (load.NoFont (spot.Page at)))
none_selected set told_old told_new None z at h = (refl, (refl, refl))
none_selected set told_old told_new (Some k) z at h = absurd h

pub selected_given : (set : FontSet) (f : Selected) (key : Option Key) → IsSelected set (Some f) key → f.id < length set.fonts
selected_given set f None h = absurd h
selected_given set f (Some k) h = id_below set.fonts k f.id h.0

-- the width of the selected font, by its key
pub known_told : (set : FontSet) (f : Selected) (key : Option Key) (z : ℤ) → IsSelected set (Some f) key → width_told set (Some f.id) z ≡ width_by set key z
known_told set f None z h = absurd h
known_told set f (Some k) z h = sym (width_placed set k f.id z h.0)

pub nowhere_told : (set : FontSet) (key : Option Key) (z : ℤ) → IsSelected set None key → None ≡ width_by set key z
nowhere_told set None z h = refl
nowhere_told set (Some k) z h = absurd h

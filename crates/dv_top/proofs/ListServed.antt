-- The listing of a run beside one that is whole, with fonts from the same files: no fault stands in it. No lemma here knows a job.
use Rattle.std.proofs.Common.{◌≡◌, ◌≢◌, ◌<◌, ℕ, ℤ, pos, negsuc, List, length, Option, Some, None, Bool, true, false, arith, nat_lt, refl, sym, ap, subst, ◌∙◌, inl, inr}
use Rattle.std.specs.Prelude.{if◌then◌else◌}
use Rattle.std.proofs.lemmas.Bool.Decides.{nat_tests}
use Rattle.dv_base.specs.Causes.{Rose}
use Rattle.dv_base.specs.FileName.{text_of}
use Rattle.dv_base.specs.Rounding.{Fraction}
use Rattle.dv_base.specs.Shelf.{Contents, IsLong, Told, WhereHeld}
use Rattle.dv_base.specs.declared.units.Units.{Units}
use Rattle.dvi_ops.specs.Command.{Command, Definition}
use Rattle.dvi_ops.specs.Command.Command.{Bop, Down, Eop, Fnt, FntDef, Nop, Pop, Post, PostPost, Pre, Push, Put, PutRule, Right, Set, SetRule, W, W0, X, X0, Xxx, Y, Y0, Z, Z0}
use Rattle.dvi_ops.specs.Placed.{Placed}
use Rattle.tfm_widths.specs.Widths.{IsTfm, Table}
use Rattle.font_set.specs.Alike.{Alike, OneFontOf, Twin}
use Rattle.font_set.specs.FontFaults.{NotLoaded, IsFontFile, IsMissing}
use Rattle.font_set.specs.LoadFaults.{IsCharCommand}
use Rattle.font_set.specs.FontOf.{FontOf, HasTfm, WantsPackets, WantsRasters, tfm_name}
use Rattle.font_set.specs.Fonts.{FontSet, IsLoaded, State, place_of, size_at, state_at, width_at, width_of}
use Rattle.font_set.specs.Key.{Key}
use Rattle.font_set.specs.declared.fault.FontFault.{FontFault}
use Rattle.font_set.specs.declared.fault.FontFault.TheVariants as font
use Rattle.font_set.specs.declared.fault.LoadFault.{LoadFault}
use Rattle.font_set.specs.declared.fault.LoadFault.TheVariants as load
use Rattle.font_set.specs.declared.want.Want.{Want}
use Rattle.font_set.specs.declared.want.Want.TheVariants as wants
use Rattle.font_set.proofs.Alike.{key_is, width_twin}
use Rattle.dvitype_list.specs.Causes.{FontStops, IsStop, LoadStops, Overflows, SetsNone, SetsUnread}
use Rattle.dvitype_list.specs.Standing.{Standing}
use Rattle.dvitype_list.specs.Turns.{put_by, set_by, turned, width_in}
use Rattle.dvitype_list.specs.Widths.{setting, width_told, widths_of}
use Rattle.dvitype_list.specs.declared.fault.ListFault.{ListFault}
use Rattle.dvitype_list.specs.declared.fault.ListFault.TheVariants as fault
use Rattle.dv_top.proofs.ListBeside.{Parts, SetsNothing, same_turn}

some_same : {A : Type 0} (x y : A) → Some x ≡ Some y → x ≡ y
some_same x y e = cc

none_some : {A : Type 0} (o : Option A) (x : A) → o ≡ None → o ≡ Some x → ⊥
none_some o x d e = let k : None ≡ Some x = sym d ∙ e in cc

pos_same : (a b : ℕ) → pos a ≡ pos b → a ≡ b
pos_same a b e = cc

-- ---- a width that is told

-- A character that has a width: its font is loaded, and its code is one.
record HasWidth (set : FontSet) (key : Key) (z x : ℤ) : Type 0 where
  id : ℕ
  placed : place_of set.fonts key ≡ Some id
  code : ℕ
  same : z ≡ pos code
  small : code < 256
  width : width_at set id code ≡ Some x
  loaded : IsLoaded (state_at set id)

loaded_by : (size code : ℕ) (x : ℤ) (s : State) → width_of size s code ≡ Some x → IsLoaded s
loaded_by size code x State.Known e = absurd cc
loaded_by size code x (State.Real tfm pk) e = tt
loaded_by size code x (State.Virtual tfm vf) e = tt

width_loaded : (set : FontSet) (id code : ℕ) (x : ℤ) → width_at set id code ≡ Some x → IsLoaded (state_at set id)
unfolding width_at
width_loaded set id code x e = loaded_by (size_at set id) code x (state_at set id) e

has_width : (set : FontSet) (key : Key) (z x : ℤ) → widths_of set key z ≡ Some x → HasWidth set key z x
unfolding widths_of
has_width set key z x e = by (place_of set.fonts key) z refl refl e
  where
    code_at : (id code : ℕ) (b : Bool) → place_of set.fonts key ≡ Some id → z ≡ pos code → nat_lt code 256 ≡ b → (if b then width_at set id code else None) ≡ Some x → HasWidth set key z x
    code_at id code true p s l e = record { id = id; placed = p; code = code; same = s; small = grind (arith, nat_tests); width = e; loaded = width_loaded set id code x e }
    code_at id code false p s l e = absurd cc

    by : (o : Option ℕ) (y : ℤ) → place_of set.fonts key ≡ o → z ≡ y → width_told set o y ≡ Some x → HasWidth set key z x
    by None y p s e = absurd cc
    by (Some id) (pos code) p s e = code_at id code (nat_lt code 256) p s refl e
    by (Some id) (negsuc n) p s e = absurd cc

-- ---- the same files

module _ (one : OneFontOf) (contents : Contents) (set fonts : FontSet) (alike : Alike contents set fonts) (wanted : set.want ≡ wants.Widths) where
  -- both sets tell the same width
  pub agree : (key : Key) (z x y : ℤ) → widths_of set key z ≡ Some x → widths_of fonts key z ≡ Some y → x ≡ y
  agree key z x y d e =
      let a = has_width set key z x d in
      let b = has_width fonts key z y e in
      let code : a.code ≡ b.code = pos_same a.code b.code (sym a.same ∙ b.same) in
      let twin : Twin set fonts key a.id b.id = record { left = a.placed; right = b.placed } in
      some_same x y (sym a.width ∙ width_twin one contents set fonts alike key a.id b.id a.code twin a.loaded b.loaded ∙ ap (width_at fonts b.id) code ∙ b.width)

  -- a font that is loaded has a TFM file
  tfm_by : (units : Units) (key : Key) (s : State) → FontOf contents units wants.Widths key s → (tfm : Table) × HasTfm contents key tfm
  tfm_by units key State.Known h = absurd h
  tfm_by units key (State.Real tfm pk) h = (tfm, h.1)
  tfm_by units key (State.Virtual tfm vf) h = absurd h.0

  has_tfm : (key : Key) (z y : ℤ) → HasWidth fonts key z y → (tfm : Table) × HasTfm contents key tfm
  has_tfm key z y b =
      let right = alike.right b.id b.loaded in
      let here = subst (λ (k : Key). FontOf contents fonts.units fonts.want k (state_at fonts b.id)) (key_is fonts key b.id b.placed) right in
      tfm_by fonts.units key (state_at fonts b.id) (subst (λ (w : Want). FontOf contents fonts.units w key (state_at fonts b.id)) (sym alike.want ∙ wanted) here)

  no_packets : WantsPackets set.want → ⊥
  no_packets h = subst WantsPackets wanted h

  no_rasters : WantsRasters set.want → ⊥
  no_rasters h = subst WantsRasters wanted h

  module _ (told later : Told) (tells : told.held ≡ Some contents) (shelf : Rose told.faults later.faults → ⊥) where
    held_here : (fact : Contents → Type 0) → WhereHeld told.held fact → fact contents
    held_here fact h = subst (λ (o : Option Contents). WhereHeld o fact) tells h

    not_missing : (key : Key) (tfm : Table) (name : List ℕ) → HasTfm contents key tfm → IsMissing set key name told → ⊥
    not_missing key tfm name h (inl m) = none_some (contents (tfm_name key)) h.bytes (sym (ap contents m.0) ∙ held_here (λ held. held name ≡ None) m.1) h.held_so
    not_missing key tfm name h (inr m) = no_rasters m.wanted

    not_long : (key : Key) (tfm : Table) (name : List ℕ) (limit : ℕ) → HasTfm contents key tfm → IsFontFile set key name limit told → IsLong limit (contents name) → ⊥
    not_long key tfm name limit h (inl m) long =
        let there : IsLong limit (contents (tfm_name key)) = subst (λ (n : List ℕ). IsLong limit (contents n)) m.0 long in
        let more : limit < length h.bytes = subst (IsLong limit) h.held_so there in
        let same = m.1 in
        let few = h.within in omega (arith, more, same, few)
    not_long key tfm name limit h (inr (inl m)) long = no_packets m.0
    not_long key tfm name limit h (inr (inr m)) long = no_rasters m.0.wanted

    -- a font that the whole listing has loaded can be loaded
    can_load : (key : Key) (tfm : Table) (f : FontFault) → HasTfm contents key tfm → NotLoaded set key told later f → f ≢ font.OutOfMemory → ⊥
    can_load key tfm (font.Missing n) h fails own = not_missing key tfm (text_of n) h fails.1
    can_load key tfm (font.FileTooLong n) h fails own = not_long key tfm (text_of n) fails.1 h fails.2 (held_here (λ held. IsLong fails.1 (held (text_of n))) fails.3)
    can_load key tfm (font.ReadFault n) h fails own = shelf fails.0
    can_load key tfm (font.Tfm n e) h fails own =
        let there = held_here (λ held. held (text_of n) ≡ Some fails.bytes) fails.held in
        let same : h.bytes ≡ fails.bytes = some_same h.bytes fails.bytes (sym h.held_so ∙ ap contents (sym fails.names) ∙ there) in
        fails.none tfm (subst (λ (b : List ℕ). IsTfm b tfm) same h.tells)
    can_load key tfm (font.Vf n e) h fails own = no_packets fails.wanted
    can_load key tfm (font.Pk n e) h fails own = no_rasters fails.first.wanted
    can_load key tfm font.RasterSpace h fails own = no_rasters fails.first.wanted
    can_load key tfm font.OutOfMemory h fails own = own refl
    can_load key tfm font.TooManyFonts h fails own = fails
    can_load key tfm (font.BadSize parts) h fails own = fails

    module _ (f : Fraction) (ds : List Definition) (c : Placed) (st : Standing) where
      -- ---- a character

      module _ (z : ℤ) (key : Key) (y : ℤ) (selected : st.font ≡ Some key) (there : HasWidth fonts key z y) (none : width_in (setting f ds set) st.font z ≡ None) (char : (x : ℤ) → IsCharCommand c.command x → z ≡ x) where
        key_same : (k : Key) → st.font ≡ Some k → k ≡ key
        key_same k e = some_same k key (sym e ∙ selected)

        has_no : (id : ℕ) (x : ℤ) → SetsNone set c.command st id x → ⊥
        has_no id x (sets, loaded, lacks) =
            let same : z ≡ x = char x sets.char in
            let placed : place_of set.fonts key ≡ Some id = subst (λ (k : Key). place_of set.fonts k ≡ Some id) (key_same sets.key sets.font) sets.place in
            let twin : Twin set fonts key id there.id = record { left = placed; right = there.placed } in
            let width : width_at set id there.code ≡ Some y = width_twin one contents set fonts alike key id there.id there.code twin loaded there.loaded ∙ there.width in
            elim lacks [
              | inl far ↦ let more = far there.code (sym same ∙ there.same) in let small = there.small in omega (arith, more, small)
              | inr w ↦ let code : w.0 ≡ there.code = pos_same w.0 there.code (sym w.1 ∙ sym same ∙ there.same) in none_some (width_at set id there.code) y (sym (ap (width_at set id) code) ∙ w.2) width
            ]

        unread : (e : FontFault) → e ≢ font.OutOfMemory → SetsUnread set told later c.command st e → ⊥
        unread e own (x, sets, k, font, fails, stays) =
            let tfm = has_tfm key z y there in
            can_load key tfm.0 e tfm.1 (subst (λ (q : Key). NotLoaded set q told later e) (key_same k font) fails) own

        font_stops : (e : FontFault) → ((k : ℤ) → c.command ≡ Fnt k → ⊥) → FontStops (setting f ds set) set told later c.command st e → ⊥
        font_stops font.TooManyFonts sel h = sel h.0 h.1
        font_stops font.OutOfMemory sel h = h
        font_stops (font.Missing n) sel h = unread (font.Missing n) (λ e. cc) h
        font_stops (font.FileTooLong n) sel h = unread (font.FileTooLong n) (λ e. cc) h
        font_stops (font.ReadFault n) sel h = unread (font.ReadFault n) (λ e. cc) h
        font_stops (font.Tfm n t) sel h = unread (font.Tfm n t) (λ e. cc) h
        font_stops (font.Vf n t) sel h = unread (font.Vf n t) (λ e. cc) h
        font_stops (font.Pk n t) sel h = unread (font.Pk n t) (λ e. cc) h
        font_stops font.RasterSpace sel h = unread font.RasterSpace (λ e. cc) h
        font_stops (font.BadSize parts) sel h = unread (font.BadSize parts) (λ e. cc) h

        load_stops : (e : LoadFault) → ((k : ℤ) → c.command ≡ Fnt k → ⊥) → LoadStops (setting f ds set) set told later c st e → ⊥
        load_stops (load.UndefinedFont x) sel h = sel h.1.0 h.1.1
        load_stops (load.NoFont x) sel h = none_some st.font key h.1.2 selected
        load_stops (load.NoChar id x) sel h = has_no id x h
        load_stops (load.NoPacket id code) sel h = h
        load_stops (load.NoGlyph id code) sel h = h
        load_stops (load.GlyphTooBig id code bytes) sel h = h
        load_stops (load.Font e) sel h = font_stops e sel h

        -- no fault stands at a command that sets it
        char_stops : (e : ListFault) → ((k : ℤ) → c.command ≡ Fnt k → ⊥) → (c.command ≡ Pop → ⊥) → (c.command ≡ Eop → ⊥) → (c.command ≡ Push → ⊥) → (Overflows (setting f ds set) c.command st → ⊥)
            → IsStop (setting f ds set) set told later c st e → ⊥
        char_stops (fault.Load x) sel pop eop push over h = load_stops x sel h
        char_stops (fault.StackUnder x) sel pop eop push over h = pop h.1
        char_stops (fault.StackLeft x) sel pop eop push over h = eop h.1
        char_stops (fault.StackDeep x) sel pop eop push over h = push h.1
        char_stops (fault.Overflow x) sel pop eop push over h = over h.1
        char_stops fault.WriteFault sel pop eop push over h = h
        char_stops fault.OutOfMemory sel pop eop push over h = h

      -- what is known of a character of the whole listing that the run can't set
      record Lost (z : ℤ) : Type 0 where
        key : Key
        y : ℤ
        selected : st.font ≡ Some key
        there : HasWidth fonts key z y
        none : width_in (setting f ds set) st.font z ≡ None

      lost_by : (z y : ℤ) (k : Option Key) → st.font ≡ k → width_in (setting f ds fonts) k z ≡ Some y → width_in (setting f ds set) st.font z ≡ None → Lost z
      lost_by z y None s e n = absurd cc
      lost_by z y (Some key) s e n = record { key = key; y = y; selected = s; there = has_width fonts key z y e; none = n }

      same_width : (z x y : ℤ) (k : Option Key) → width_in (setting f ds set) k z ≡ Some x → width_in (setting f ds fonts) k z ≡ Some y → x ≡ y
      same_width z x y None d e = absurd cc
      same_width z x y (Some key) d e = agree key z x y d e

      some_set : (o : Option ℤ) (t : Standing) → set_by f st o ≡ Some t → (y : ℤ) × (o ≡ Some y)
      some_set None t e = absurd cc
      some_set (Some y) t e = (y, refl)

      some_put : (o : Option ℤ) (t : Standing) → put_by st o ≡ Some t → (y : ℤ) × (o ≡ Some y)
      some_put None t e = absurd cc
      some_put (Some y) t e = (y, refl)

      lost : (z : ℤ) (g : Option ℤ → Option Standing) (t : Standing) → ((o : Option ℤ) → g o ≡ Some t → (y : ℤ) × (o ≡ Some y)) → g (width_in (setting f ds set) st.font z) ≡ None → g (width_in (setting f ds fonts) st.font z) ≡ Some t → Lost z
      lost z g t some d e =
          let y = some (width_in (setting f ds fonts) st.font z) e in
          lost_by z y.0 st.font refl y.1 (by y.0 y.1 (width_in (setting f ds set) st.font z) refl)
        where
          by : (y : ℤ) → width_in (setting f ds fonts) st.font z ≡ Some y → (o : Option ℤ) → width_in (setting f ds set) st.font z ≡ o → width_in (setting f ds set) st.font z ≡ None
          by y k None m = m
          by y k (Some x) m =
              let same : x ≡ y = same_width z x y st.font m k in
              absurd (none_some (g (Some x)) t (ap g (sym m) ∙ d) (ap (λ (w : ℤ). g (Some w)) same ∙ ap g (sym k) ∙ e))

      lost_set : (z : ℤ) (t : Standing) → turned (setting f ds set) (Set z) st ≡ None → turned (setting f ds fonts) (Set z) st ≡ Some t → Lost z
      unfolding turned
      lost_set z t d e = lost z (set_by f st) t (λ o h. some_set o t h) d e

      lost_put : (z : ℤ) (t : Standing) → turned (setting f ds set) (Put z) st ≡ None → turned (setting f ds fonts) (Put z) st ≡ Some t → Lost z
      unfolding turned
      lost_put z t d e = lost z (put_by st) t (λ o h. some_put o t h) d e

      set_stop : (z : ℤ) (e : ListFault) → c.command ≡ Set z → Lost z → IsStop (setting f ds set) set told later c st e → ⊥
      set_stop z e m l h =
          char_stops z l.key l.y l.selected l.there l.none (λ x i. subst (λ (y : Command). IsCharCommand y x) m i) e (λ k i. let j : Set z ≡ Fnt k = sym m ∙ i in cc) (λ i. let j : Set z ≡ Pop = sym m ∙ i in cc)
          (λ i. let j : Set z ≡ Eop = sym m ∙ i in cc) (λ i. let j : Set z ≡ Push = sym m ∙ i in cc)
          (λ o. let w : Overflows (setting f ds set) (Set z) st = subst (λ (x : Command). Overflows (setting f ds set) x st) m o in none_some (width_in (setting f ds set) st.font z) w.0 l.none w.1) h

      put_stop : (z : ℤ) (e : ListFault) → c.command ≡ Put z → Lost z → IsStop (setting f ds set) set told later c st e → ⊥
      put_stop z e m l h =
          char_stops z l.key l.y l.selected l.there l.none (λ x i. subst (λ (y : Command). IsCharCommand y x) m i) e (λ k i. let j : Put z ≡ Fnt k = sym m ∙ i in cc) (λ i. let j : Put z ≡ Pop = sym m ∙ i in cc)
          (λ i. let j : Put z ≡ Eop = sym m ∙ i in cc) (λ i. let j : Put z ≡ Push = sym m ∙ i in cc)
          (λ o. let w : Overflows (setting f ds set) (Put z) st = subst (λ (x : Command). Overflows (setting f ds set) x st) m o in w) h

      other_stop : (m : Command) → c.command ≡ m → SetsNothing m → Parts f ds set fonts c st → ⊥
      other_stop m e s p = none_some (turned (setting f ds set) c.command st) p.behind p.none (same_turn f ds set fonts c.command st (subst SetsNothing (sym e) s) ∙ p.goes)

      -- no fault stands at a command that the whole listing runs
      pub no_stop : (e : ListFault) → Parts f ds set fonts c st → IsStop (setting f ds set) set told later c st e → ⊥
      no_stop e p h = by c.command refl
        where
          by : (m : Command) → c.command ≡ m → ⊥
          by (Set z) m =
              set_stop z e m (lost_set z p.behind (ap (λ (x : Command). turned (setting f ds set) x st) (sym m) ∙ p.none) (ap (λ (x : Command). turned (setting f ds fonts) x st) (sym m) ∙ p.goes)) h
          by (Put z) m =
              put_stop z e m (lost_put z p.behind (ap (λ (x : Command). turned (setting f ds set) x st) (sym m) ∙ p.none) (ap (λ (x : Command). turned (setting f ds fonts) x st) (sym m) ∙ p.goes)) h
          by (Fnt k) m = other_stop (Fnt k) m tt p
          by Push m = other_stop Push m tt p
          by Pop m = other_stop Pop m tt p
          by Eop m = other_stop Eop m tt p
          by (SetRule a b) m = other_stop (SetRule a b) m tt p
          by (PutRule a b) m = other_stop (PutRule a b) m tt p
          by Nop m = other_stop Nop m tt p
          by (FntDef x) m = other_stop (FntDef x) m tt p
          by (Right q) m = other_stop (Right q) m tt p
          by W0 m = other_stop W0 m tt p
          by (W q) m = other_stop (W q) m tt p
          by X0 m = other_stop X0 m tt p
          by (X q) m = other_stop (X q) m tt p
          by (Down q) m = other_stop (Down q) m tt p
          by Y0 m = other_stop Y0 m tt p
          by (Y q) m = other_stop (Y q) m tt p
          by Z0 m = other_stop Z0 m tt p
          by (Z q) m = other_stop (Z q) m tt p
          by (Xxx text) m = other_stop (Xxx text) m tt p
          by (Bop counts back) m = other_stop (Bop counts back) m tt p
          by (Pre head) m = other_stop (Pre head) m tt p
          by (Post tail) m = other_stop (Post tail) m tt p
          by (PostPost back id) m = other_stop (PostPost back id) m tt p

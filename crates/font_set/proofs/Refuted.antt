-- Where a set with the fonts of the same files covers a page, no fault of loading is there.
use Rattle.std.proofs.Common.{◌≡◌, ◌≤◌, ◌<◌, ◌+◌, ◌^◌, ◌⊎◌, inl, inr, ℕ, ℤ, pos, negsuc, arith, Bool, true, false, List, [], ◌∷◌, ◌++◌, length, Option, Some, None, refl, sym, ap, subst, ◌∙◌, nat_lt}
use Rattle.std.specs.Prelude.{if◌then◌else◌}
use Rattle.std.specs.Ordering.{int_eq}
use Rattle.std.proofs.lemmas.Bool.Decides.{Decides-int_eq}
use Rattle.dv_base.specs.Causes.{Rose}
use Rattle.dv_base.specs.FileName.{text_of}
use Rattle.dv_base.specs.Shelf.{Contents, Told, WhereHeld, IsLong}
use Rattle.dv_base.specs.declared.font_id.Spot.{Spot}
use Rattle.dv_base.specs.declared.font_id.Spot.TheVariants as spot
use Rattle.dv_base.specs.declared.units.Units.{Units}
use Rattle.dvi_ops.specs.Command.{Command}
use Rattle.dvi_ops.specs.Command.Command.{Fnt}
use Rattle.dvi_ops.specs.Placed.{Placed}
use Rattle.tfm_widths.specs.Widths.{Table, IsTfm, width_in}
use Rattle.vf_packets.specs.Font.{VirtualFont, packet_of}
use Rattle.vf_packets.specs.File.{IsVf}
use Rattle.pk_raster.specs.Font.{Font, Known, size, glyph_at}
use Rattle.pk_raster.specs.Font.Known.{Nothing, Large}
use Rattle.pk_raster.specs.File.{IsPk}
use Rattle.pk_raster.specs.Faults.{NoFont}
use Rattle.font_set.specs.Key.{Key}
use Rattle.font_set.specs.Fonts.{State, FontSet, place_of, kept_bitmap, state_at, size_at, width_at, width_of, width_by, packet_at, packet_in, IsLoaded, IsVirtual, raster_bytes, raster_bytes_in}
use Rattle.font_set.specs.FontOf.{FontOf, HasTfm, HasVf, HasPk, IsReal, WantsPackets, WantsRasters, tfm_name, vf_name, pk_names, first_of, or_else, most_tfm, most_file}
use Rattle.font_set.specs.FontFaults.{NotLoaded, IsTried, IsPkFile, IsFontFile, IsMissing, IsFull, IsFirstPk, raster_room}
use Rattle.font_set.specs.Programs.{Named, Scope, Program, HasNumber, key_in, program_at, program_in, packet_program, lexed, locals_at, locals_in, locals_of, local_named, head_of, key_of_first, id_of}
use Rattle.font_set.specs.Acts.{Every}
use Rattle.font_set.specs.Acts.Act.{Runs, Wrong}
use Rattle.font_set.specs.Frames.{FontAct, acts_from, acts_with_first, acts_of, acts_of_command, char_act, select_act, selected}
use Rattle.font_set.specs.Covers.{Covers, IsGood, IsKnownAt, IsShown, IsThere}
use Rattle.font_set.specs.LoadFaults.{selected_after, CommandOf, PacketOf, InFrame, InSome, IsCharCommand, SelectsNone, SetsNowhere, SetsIn, HasNoWidth, look_at, look_in, SelectsKey, MustKnow, MustLoad, SelectsBad, CantLoad, FontFaultIs, LoadFaultIs}
use Rattle.font_set.specs.Alike.{Alike, HaveTwins, OneFontOf, Twin, WhatCanBeHadIsHad}
use Rattle.font_set.specs.declared.fault.FontFault.{FontFault}
use Rattle.font_set.specs.declared.fault.FontFault.TheVariants as font
use Rattle.font_set.specs.declared.fault.FontKeyParts.{FontKeyParts}
use Rattle.font_set.specs.declared.fault.LoadFault.{LoadFault}
use Rattle.font_set.specs.declared.fault.LoadFault.TheVariants as load
use Rattle.font_set.specs.declared.want.Want.{Want}
use Rattle.font_set.specs.declared.want.Want.TheVariants as wants
use Rattle.font_set.proofs.Alike.{key_is, state_twin, same_packet, same_frame}
use Rattle.font_set.proofs.Growing.{good_place, shown_loaded}
use Rattle.font_set.proofs.Later.{acts_split, behind_first, char_acts, packet_body}
use Rattle.font_set.proofs.OneFont.{not_both, none_some, same_bytes}
use Rattle.font_set.proofs.Shelves.{first_of_append}
use Rattle.font_set.proofs.Sums.{bytes_more, one_more}

-- ---- what stands in a frame whose acts are good

every_front : (T : FontAct → Type 0) (xs ys : List FontAct) → Every T (xs ++ ys) → Every T xs
every_front T [] ys h = tt
every_front T (x ∷ xs) ys h = (h.0, every_front T xs ys h.1)

every_back : (T : FontAct → Type 0) (xs ys : List FontAct) → Every T (xs ++ ys) → Every T ys
every_back T [] ys h = h
every_back T (x ∷ xs) ys h = every_back T xs ys h.1

acts_first : (scope : Scope) (sel : Option Key) (c : Placed) (cs : List Placed) → acts_from scope sel (c ∷ cs) ≡ acts_of_command scope sel c.command ++ acts_from scope (selected scope sel c.command) cs
unfolding acts_from
acts_first scope sel c cs = refl

command_good : (T : FontAct → Type 0) (p : Program) (at : ℕ) (c : CommandOf p at) → Every T (acts_of p) → Every T (acts_of_command p.scope c.sel c.command)
command_good T p at c e =
    let b = behind_first p in
    let k : Placed = record { place = at; command = c.command } in
    let start = key_of_first p.first in
    let sel = selected_after p.scope start c.before in
    let here = acts_of_command p.scope sel c.command in
    let behind = acts_from p.scope (selected p.scope sel c.command) c.behind in
    let before = acts_from p.scope start c.before in
    let commands : acts_from p.scope start p.commands ≡ before ++ (here ++ behind) =
    ap (acts_from p.scope start) (sym c.whole) ∙ acts_split p.scope start c.before (k ∷ c.behind) ∙ ap (λ (xs : List FontAct). before ++ xs) (acts_first p.scope sel k c.behind) in
    let all : Every T (b.0 ++ (before ++ (here ++ behind))) = subst (Every T) (b.1 ∙ ap (λ (xs : List FontAct). b.0 ++ xs) commands) e in
    let one : Every T here = every_front T here behind (every_back T before (here ++ behind) (every_back T b.0 (before ++ (here ++ behind)) all)) in
    subst (λ (o : Option Key). Every T (acts_of_command p.scope o c.command)) (sym c.selects) one

named : (fs : List Named) (k : ℤ) (key : Key) → key_in fs k ≡ Some key → HasNumber fs k
unfolding key_in
named [] k key e = absurd cc
named (f ∷ fs) k key e = by (λ h. named fs k key h) (int_eq f.number k) refl e
  where
    by : (key_in fs k ≡ Some key → HasNumber fs k) → (t : Bool) → int_eq f.number k ≡ t → (if t then f.key else key_in fs k) ≡ Some key → HasNumber (f ∷ fs) k
    by rest true t h = inl ((Decides-int_eq f.number k).0 t)
    by rest false t h = inr (rest h)

same_key_of : (o : Option Key) (x y : Key) → o ≡ Some x → o ≡ Some y → x ≡ y
same_key_of None x y e f = absurd cc
same_key_of (Some z) x y e f =
    let a : z ≡ x = cc in
    let b : z ≡ y = cc in
    sym a ∙ b

no_key : (o : Option Key) (x : Key) → o ≡ None → o ≡ Some x → ⊥
no_key None x e f = cc
no_key (Some y) x e f = cc

-- A character that can be shown.
record Good (b : FontSet) (sel : Option Key) (z : ℤ) : Type 0 where
  key : Key
  code : ℕ
  selects : sel ≡ Some key
  sets : z ≡ pos code
  small : code < 256
  good : IsGood b (Runs (record { key = key; code = code }))

good_char : (b : FontSet) (sel : Option Key) (z : ℤ) → IsGood b (char_act sel z) → Good b sel z
good_char b None z h = absurd h
good_char b (Some key) (negsuc n) h = absurd h
good_char b (Some key) (pos c) h = by (nat_lt c 256) h
  where
    by : (t : Bool) → IsGood b (if t then Runs (record { key = key; code = c }) else Wrong) → Good b (Some key) (pos c)
    by true g = record { key = key; code = c; selects = refl; sets = refl; small = g.0; good = g }
    by false g = absurd g

module _ (b : FontSet) where
  -- a number that is selected names a known key
  selects_good : (scope : Scope) (sel : Option Key) (c : Command) (k : ℤ) → c ≡ Fnt k → Every (IsGood b) (acts_of_command scope sel c) → (key : Key) × (key_in scope.fonts k ≡ Some key) × IsKnownAt (place_of b.fonts key)
  selects_good scope sel c k e h = let g = subst (λ (d : Command). Every (IsGood b) (acts_of_command scope sel d)) e h in by (key_in scope.fonts k) refl g.0
    where
      by : (o : Option Key) → key_in scope.fonts k ≡ o → IsGood b (select_act o) → (key : Key) × (key_in scope.fonts k ≡ Some key) × IsKnownAt (place_of b.fonts key)
      by None q g = absurd g
      by (Some key) q g = (key, q, g)

  char_good : (scope : Scope) (sel : Option Key) (c : Command) (z : ℤ) → IsCharCommand c z → Every (IsGood b) (acts_of_command scope sel c) → Good b sel z
  char_good scope sel c z is h = let g = subst (Every (IsGood b)) (char_acts scope sel c z is) h in good_char b sel z g.0

  no_undefined : (p : Program) (at : ℕ) → Every (IsGood b) (acts_of p) → SelectsNone p at → ⊥
  no_undefined p at g h =
      let c = h.0 in
      let s = selects_good p.scope c.sel c.command h.1 h.2 (command_good (IsGood b) p at c g) in
      h.3 (named p.scope.fonts h.1 s.0 s.1)

  no_font : (p : Program) (at : ℕ) → Every (IsGood b) (acts_of p) → SetsNowhere p at → ⊥
  no_font p at g h =
      let c = h.0 in
      let s = char_good p.scope c.sel c.command h.1 h.2 (command_good (IsGood b) p at c g) in
      no_key c.sel s.key h.3 s.selects

  first_good : (p : Program) (f : Named) → p.first ≡ Some f → Every (IsGood b) (acts_of p) → IsGood b (select_act f.key)
  first_good p f e g = let h = subst (λ (o : Option Named). Every (IsGood b) (acts_with_first p.scope o p.commands)) e g in h.0

  first_known : (p : Program) (key : Key) (o : Option Named) → p.first ≡ o → key_of_first o ≡ Some key → Every (IsGood b) (acts_of p) → IsKnownAt (place_of b.fonts key)
  first_known p key None e q g = absurd cc
  first_known p key (Some f) e q g = subst (λ (x : Option Key). IsGood b (select_act x)) q (first_good p f e g)

  key_known : (p : Program) (key : Key) → Every (IsGood b) (acts_of p) → SelectsKey key p → IsKnownAt (place_of b.fonts key)
  key_known p key g (inl h) = first_known p key p.first refl h g
  key_known p key g (inr (at, c, k, is, names)) =
      let s = selects_good p.scope c.sel c.command k is (command_good (IsGood b) p at c g) in
      subst (λ (x : Key). IsKnownAt (place_of b.fonts x)) (same_key_of (key_in p.scope.fonts k) s.0 key s.1 names) s.2

known_at : (o : Option ℕ) → IsKnownAt o → (i : ℕ) × (o ≡ Some i)
known_at None h = absurd h
known_at (Some i) h = (i, refl)

-- ---- characters

shown_width : (size : ℕ) (s : State) (code : ℕ) → IsShown s code → width_of size s code ≡ None → ⊥
shown_width size State.Known code h e = h
shown_width size (State.Real tfm pk) code h e = by (width_in tfm code) h.0 e
  where
    by : (o : Option ℤ) → IsThere o → width_by size o ≡ None → ⊥
    by None k q = k
    by (Some x) k q = cc
shown_width size (State.Virtual tfm vf) code h e = by (width_in tfm code) h.0 e
  where
    by : (o : Option ℤ) → IsThere o → width_by size o ≡ None → ⊥
    by None k q = k
    by (Some x) k q = cc

shown_packet : (s : State) (code : ℕ) → IsVirtual s → IsShown s code → packet_in s code ≡ None → ⊥
shown_packet State.Known code v h e = h
shown_packet (State.Real tfm pk) code v h e = v
shown_packet (State.Virtual tfm vf) code v h e = by (packet_of vf code) h.1 e
  where
    by : (o : Option (List ℕ)) → IsThere o → o ≡ None → ⊥
    by None k q = k
    by (Some x) k q = cc

-- a bitmap that isn't kept
abbrev NotKept : Known → Type 0
NotKept k = IsThere (kept_bitmap k) → ⊥

shown_look : (s : State) (code : ℕ) (k : Known) → NotKept k → IsShown s code → look_in s code ≡ Some k → ⊥
shown_look State.Known code k n h e = h
shown_look (State.Real tfm None) code k n h e = cc
shown_look (State.Real tfm (Some pk)) code k n h e = let same : glyph_at pk code ≡ k = cc in n (subst (λ (x : Known). IsThere (kept_bitmap x)) same h.1)
shown_look (State.Virtual tfm vf) code k n h e = cc

look_loaded : (s : State) (code : ℕ) (k : Known) → look_in s code ≡ Some k → IsLoaded s
look_loaded State.Known code k e = absurd cc
look_loaded (State.Real tfm pk) code k e = tt
look_loaded (State.Virtual tfm vf) code k e = tt

virtual_loaded : (s : State) → IsVirtual s → IsLoaded s
virtual_loaded State.Known h = h
virtual_loaded (State.Real tfm pk) h = absurd h
virtual_loaded (State.Virtual tfm vf) h = tt

same_code : (a b : ℕ) → pos a ≡ pos b → a ≡ b
same_code a b e = cc

-- ---- local fonts

same_program : (p q : Program) → Some p ≡ Some q → p ≡ q
same_program p q e = cc

packet_fonts : (units : Units) (size : ℕ) (s : State) (code : ℕ) (p : Program) → program_in units size s code ≡ Some p → (p.scope.fonts ≡ locals_in units.num units.den size s) × (p.first ≡ head_of (locals_in units.num units.den size s))
packet_fonts units size State.Known code p e = absurd cc
packet_fonts units size (State.Real tfm pk) code p e = absurd cc
packet_fonts units size (State.Virtual tfm vf) code p e = by (lexed (packet_of vf code)) e
  where
    by : (o : Option (List Placed)) → packet_program units.num units.den size vf o ≡ Some p → (p.scope.fonts ≡ locals_of units.num units.den size vf) × (p.first ≡ head_of (locals_of units.num units.den size vf))
    by None q = absurd cc
    by (Some cs) q =
        let made : Program = record { scope = record { size = Some size; fonts = locals_of units.num units.den size vf }; first = head_of (locals_of units.num units.den size vf); commands = cs } in
        let same : made ≡ p = same_program made p q in
        (ap (λ (x : Program). x.scope.fonts) (sym same), ap (λ (x : Program). x.first) (sym same))

program_fonts : (set : FontSet) (id code : ℕ) (p : Program) → program_at set id code ≡ Some p → (p.scope.fonts ≡ locals_at set id) × (p.first ≡ head_of (locals_at set id))
unfolding program_at locals_at
program_fonts set id code p e = packet_fonts set.units (size_at set id) (state_at set id) code p e

no_bad : (a b : FontSet) (id code : ℕ) (parts : FontKeyParts) (p : Program) → program_at a id code ≡ Some p → Every (IsGood b) (acts_of p) → SelectsBad a id parts p → ⊥
no_bad a b id code parts p e g (inl (local, first, bad)) =
    let f = local_named a.units.num a.units.den (size_at a id) local in
    let fonts = program_fonts a id code p e in
    let h : IsGood b (select_act f.key) = first_good b p f (fonts.1 ∙ first) g in
    let wrong : IsGood b (select_act None) = subst (λ (o : Option Key). IsGood b (select_act o)) bad.bad.none h in
    wrong
no_bad a b id code parts p e g (inr (at, c, k, is, (local, same, none, bad))) =
    let s = selects_good b p.scope c.sel c.command k is (command_good (IsGood b) p at c g) in
    let fonts = program_fonts a id code p e in
    no_key (key_in (locals_at a id) k) s.0 none (ap (λ (fs : List Named). key_in fs k) (sym fonts.0) ∙ s.1)

-- ---- files

there : (o : Option Contents) (held : Contents) (fact : Contents → Type 0) → o ≡ Some held → WhereHeld o fact → fact held
there o held fact e w = subst (λ (x : Option Contents). WhereHeld x fact) e w

not_long : (o : Option (List ℕ)) (bytes : List ℕ) (limit : ℕ) → o ≡ Some bytes → length bytes ≤ limit → IsLong limit o → ⊥
not_long o bytes limit e few long = let l : limit < length bytes = subst (IsLong limit) e long in omega (arith, few, l)

not_there : (o : Option (List ℕ)) (limit : ℕ) → o ≡ None → IsLong limit o → ⊥
not_there o limit e long = subst (IsLong limit) e long

long_bytes : (o : Option (List ℕ)) (limit : ℕ) → IsLong limit o → (bytes : List ℕ) × (o ≡ Some bytes)
long_bytes None limit h = absurd h
long_bytes (Some bytes) limit h = (bytes, refl)

-- a file that is tried and is there is the first one
tried_first : (held : Contents) (before behind : List (List ℕ)) (name bytes : List ℕ) → first_of held before ≡ None → held name ≡ Some bytes → first_of held (before ++ name ∷ behind) ≡ Some bytes
tried_first held before behind name bytes e h =
    first_of_append held before (name ∷ behind)
    ∙ ap (λ (o : Option (List ℕ)). or_else o (first_of held (name ∷ behind))) e
    ∙ ap (λ (o : Option (List ℕ)). or_else o (first_of held behind)) h

has_tfm : (held : Contents) (units : Units) (want : Want) (key : Key) (s : State) → FontOf held units want key s → (tfm : Table) × HasTfm held key tfm
has_tfm held units want key State.Known f = absurd f
has_tfm held units want key (State.Real tfm pk) f = (tfm, f.1)
has_tfm held units want key (State.Virtual tfm vf) f = (tfm, f.2)

-- the VF file is right, or there is none
has_vf : (held : Contents) (units : Units) (want : Want) (key : Key) (s : State) → WantsPackets want → FontOf held units want key s → ((vf : VirtualFont) × HasVf held key vf) ⊎ (held (vf_name key) ≡ None)
has_vf held units want key State.Known w f = absurd f
has_vf held units want key (State.Real tfm pk) w f = inr (by want w f.0)
  where
    by : (want : Want) → WantsPackets want → IsReal held want key → held (vf_name key) ≡ None
    by wants.Widths w r = absurd w
    by wants.Packets w r = r
    by wants.Rasters w r = r
has_vf held units want key (State.Virtual tfm vf) w f = inl (vf, f.1)

-- a real font has its PK file
has_pk : (held : Contents) (units : Units) (want : Want) (key : Key) (s : State) → WantsRasters want → IsReal held want key → FontOf held units want key s → (pk : Font) × HasPk held units key pk × (raster_bytes_in s ≡ size pk)
has_pk held units want key State.Known w r f = absurd f
has_pk held units wants.Widths key (State.Real tfm o) w r f = absurd w
has_pk held units wants.Packets key (State.Real tfm o) w r f = absurd w
has_pk held units wants.Rasters key (State.Real tfm None) w r f = absurd f.2
has_pk held units wants.Rasters key (State.Real tfm (Some pk)) w r f = (pk, f.2, refl)
has_pk held units want key (State.Virtual tfm vf) w r f = absurd (not_both held want key vf r f.0 f.1)

module _ (set : FontSet) (key : Key) (s : State) (held : Contents) (told : Told) (tells : told.held ≡ Some held) (f : FontOf held set.units set.want key s) (room : raster_bytes set.fonts + raster_bytes_in s ≤ 2 ^ 30) where
  tfm_there : (name : List ℕ) → name ≡ tfm_name key → (tfm : Table) × (bytes : List ℕ) × (held name ≡ Some bytes) × (length bytes ≤ most_tfm) × IsTfm bytes tfm
  tfm_there name e =
      let t = has_tfm held set.units set.want key s f in
      let h = t.1 in
      (t.0, h.bytes, ap held e ∙ h.held_so, h.within, h.tells)

  not_missing : (name : List ℕ) → IsMissing set key name told → ⊥
  not_missing name (inl h) =
      let t = tfm_there name h.0 in
      none_some (held name) t.1 (there told.held held (λ x. x name ≡ None) tells h.1) t.2
  not_missing name (inr h) =
      let p = has_pk held set.units set.want key s h.wanted (there told.held held (λ x. IsReal x set.want key) tells h.real) f in
      let pk = p.1 in
      none_some (first_of held (pk_names set.units key)) pk.bytes (there told.held held (λ x. first_of x (pk_names set.units key) ≡ None) tells h.absent) pk.held_so

  vf_short : (name : List ℕ) → name ≡ vf_name key → ((vf : VirtualFont) × HasVf held key vf) ⊎ (held (vf_name key) ≡ None) → IsLong most_file (held name) → ⊥
  vf_short name e (inl v) long = let h = v.1 in not_long (held name) h.bytes most_file (ap held e ∙ h.held_so) h.within long
  vf_short name e (inr n) long = not_there (held name) most_file (ap held e ∙ n) long

  pk_short : (name : List ℕ) → IsPkFile set key name told → IsLong most_file (held name) → ⊥
  pk_short name h long =
      let p = has_pk held set.units set.want key s h.wanted (there told.held held (λ x. IsReal x set.want key) tells h.real) f in
      let pk = p.1 in
      let t = there told.held held (IsTried (pk_names set.units key) name) tells h.tried in
      let bytes = long_bytes (held name) most_file long in
      let first : first_of held (pk_names set.units key) ≡ Some bytes.0 = ap (first_of held) (sym t.among) ∙ tried_first held t.before t.behind name bytes.0 t.absent bytes.1 in
      let same : pk.bytes ≡ bytes.0 = same_bytes (first_of held (pk_names set.units key)) pk.bytes bytes.0 pk.held_so first in
      not_long (held name) bytes.0 most_file bytes.1 (subst (λ (bs : List ℕ). length bs ≤ most_file) same pk.within) long

  at_limit : (name : List ℕ) (limit most : ℕ) → limit ≡ most → IsLong limit (held name) → IsLong most (held name)
  at_limit name limit most e long = subst (λ (n : ℕ). IsLong n (held name)) e long

  not_too_long : (name : List ℕ) (limit : ℕ) → IsFontFile set key name limit told → IsLong limit (held name) → ⊥
  not_too_long name limit (inl h) long = let t = tfm_there name h.0 in not_long (held name) t.1 most_tfm t.2 t.3 (at_limit name limit most_tfm h.1 long)
  not_too_long name limit (inr (inl h)) long = vf_short name h.1 (has_vf held set.units set.want key s h.0 f) (at_limit name limit most_file h.2 long)
  not_too_long name limit (inr (inr h)) long = pk_short name h.0 (at_limit name limit most_file h.1 long)

  vf_right : (name bytes : List ℕ) → name ≡ vf_name key → ((vf : VirtualFont) × HasVf held key vf) ⊎ (held (vf_name key) ≡ None) → held name ≡ Some bytes → ((vf : VirtualFont) → IsVf bytes vf → ⊥) → ⊥
  vf_right name bytes e (inl v) h none =
      let k = v.1 in
      none v.0 (subst (λ (bs : List ℕ). IsVf bs v.0) (same_bytes (held name) k.bytes bytes (ap held e ∙ k.held_so) h) k.tells)
  vf_right name bytes e (inr n) h none = none_some (held name) bytes (ap held e ∙ n) h

  pk_right : (bytes : List ℕ) → IsFirstPk set key told bytes → NoFont bytes (raster_room set) → ⊥
  pk_right bytes h none =
      let p = has_pk held set.units set.want key s h.wanted (there told.held held (λ x. IsReal x set.want key) tells h.real) f in
      let pk = p.1 in
      let first = there told.held held (λ x. first_of x (pk_names set.units key) ≡ Some bytes) tells h.held in
      let is : IsPk bytes p.0 = subst (λ (bs : List ℕ). IsPk bs p.0) (same_bytes (first_of held (pk_names set.units key)) pk.bytes bytes pk.held_so first) pk.tells in
      let fits : size p.0 ≤ raster_room set = omega (arith, room, p.2) in
      none p.0 is fits

  -- the font can be loaded where the shelf has no fault
  can_load : (later : Told) (e : FontFault) → (Rose told.faults later.faults → ⊥) → NotLoaded set key told later e → e ≡ font.OutOfMemory
  can_load later (font.Missing n) shelf h = absurd (not_missing (text_of n) h.1)
  can_load later (font.FileTooLong n) shelf h = absurd (not_too_long (text_of n) h.1 h.2 (there told.held held (λ x. IsLong h.1 (x (text_of n))) tells h.3))
  can_load later (font.ReadFault n) shelf h = absurd (shelf h.0)
  can_load later (font.Tfm n x) shelf h =
      let t = tfm_there (text_of n) h.names in
      let same = same_bytes (held (text_of n)) t.1 h.bytes t.2 (there told.held held (λ y. y (text_of n) ≡ Some h.bytes) tells h.held) in
      absurd (h.none t.0 (subst (λ (bs : List ℕ). IsTfm bs t.0) same t.4))
  can_load later (font.Vf n x) shelf h =
      absurd (vf_right (text_of n) h.bytes h.names (has_vf held set.units set.want key s h.wanted f) (there told.held held (λ y. y (text_of n) ≡ Some h.bytes) tells h.held) h.none)
  can_load later (font.Pk n x) shelf h = absurd (pk_right h.bytes h.first h.none)
  can_load later font.RasterSpace shelf h = absurd (pk_right h.bytes h.first h.none)
  can_load later font.OutOfMemory shelf h = refl
  can_load later font.TooManyFonts shelf h = absurd h
  can_load later (font.BadSize p) shelf h = absurd h

-- ---- a page

module _ (one : OneFontOf) (held : Contents) (a b : FontSet) (alike : Alike held a b) (page : Program) (covers : Covers b (acts_of page)) where
  packet_good : (id code : ℕ) (program : Program) → PacketOf b page id code program → Every (IsGood b) (acts_of program)
  packet_good id code program p = subst (Every (IsGood b)) (packet_body b page id code program p) (covers.inside p.char p.reached)

  -- a frame of the page in the one set is good in the other
  some_good : (P : Program → Type 0) → InSome a page P → (program : Program) × Every (IsGood b) (acts_of program) × P program
  some_good P h = by (same_frame one held a b alike page P covers h)
    where
      by : InSome b page P → (program : Program) × Every (IsGood b) (acts_of program) × P program
      by (inl k) = (page, covers.here, k)
      by (inr k) = (k.2, packet_good k.0 k.1 k.2 k.3, k.4)

  in_frame : (s : Spot) (P : Program → ℕ → Type 0) → ((p : Program) (at : ℕ) → Every (IsGood b) (acts_of p) → P p at → ⊥) → InFrame a page s P → ⊥
  in_frame (spot.Page at) P f h = f page at covers.here h
  in_frame (spot.Packet id code at) P f h =
      let q = same_packet one held a b alike page id code h.0 covers h.1 in
      f h.0 at (packet_good q.0 code h.0 q.1) h.2

  -- a key that must be known is
  pub must_known : (key : Key) → MustKnow a page key → (j : ℕ) × (place_of b.fonts key ≡ Some j)
  must_known key h = let s = some_good (SelectsKey key) h in known_at (place_of b.fonts key) (key_known b s.0 key s.1 s.2)

  -- A character that is set in a frame of the page: its font in both sets.
  pub record Met (id : ℕ) (z : ℤ) : Type 0 where
    pub key : Key
    pub code : ℕ
    pub other : ℕ
    pub twin : Twin a b key id other
    pub sets : z ≡ pos code
    pub small : code < 256
    pub shown : IsShown (state_at b other) code

  met : (id : ℕ) (z : ℤ) → InSome a page (SetsIn a id z) → Met id z
  met id z h =
      let s = some_good (SetsIn a id z) h in
      let sets = s.2 in
      let c = sets.1 in
      let scope = let p = s.0 in p.scope in
      let g = char_good b scope c.sel c.command z sets.2 (command_good (IsGood b) s.0 sets.0 c s.1) in
      let p = good_place b (record { key = g.key; code = g.code }) g.good in
      record { key = g.key; code = g.code; other = p.0; twin = record { left = ap (id_of a) (sym g.selects) ∙ sets.3; right = p.1 }; sets = g.sets; small = g.small; shown = p.2 }

  met_loaded : (id : ℕ) (z : ℤ) (m : Met id z) → IsLoaded (state_at b m.other)
  met_loaded id z m = shown_loaded (state_at b m.other) m.code m.shown

  -- a font that must be loaded is
  pub must_loaded : (id : ℕ) → MustLoad a page id → (key : Key) × (j : ℕ) × Twin a b key id j × IsLoaded (state_at b j)
  must_loaded id h = let m = met id h.0 h.1 in (m.key, m.other, m.twin, met_loaded id h.0 m)

  -- where the font is loaded, the one set shows the character too
  shown_too : (id : ℕ) (z : ℤ) (m : Met id z) → IsLoaded (state_at a id) → IsShown (state_at a id) m.code
  shown_too id z m l = subst (λ (s : State). IsShown s m.code) (sym (state_twin one held a b alike m.key id m.other m.twin l (met_loaded id z m))) m.shown

  shown_code : (id code : ℕ) → InSome a page (SetsIn a id (pos code)) → IsLoaded (state_at a id) → IsShown (state_at a id) code
  shown_code id code h l = let m = met id (pos code) h in subst (IsShown (state_at a id)) (sym (same_code code m.code m.sets)) (shown_too id (pos code) m l)

  no_width : (id : ℕ) (z : ℤ) → InSome a page (SetsIn a id z) → HasNoWidth a id z → ⊥
  unfolding width_at
  no_width id z h (inl far) = let m = met id z h in omega (arith, far m.code m.sets, m.small)
  no_width id z h (inr (c, e, l, none)) =
      let here = subst (λ (y : ℤ). InSome a page (SetsIn a id y)) e h in
      shown_width (size_at a id) (state_at a id) c (shown_code id c here l) none

  no_packet : (id code : ℕ) → InSome a page (SetsIn a id (pos code)) → IsVirtual (state_at a id) → packet_at a id code ≡ None → ⊥
  unfolding packet_at
  no_packet id code h v e = shown_packet (state_at a id) code v (shown_code id code h (virtual_loaded (state_at a id) v)) e

  no_look : (id code : ℕ) (k : Known) → NotKept k → InSome a page (SetsIn a id (pos code)) → look_at a id code ≡ Some k → ⊥
  unfolding look_at
  no_look id code k n h e = shown_look (state_at a id) code k n (shown_code id code h (look_loaded (state_at a id) code k e)) e

  module _ (all : HaveTwins a b) (few : length b.fonts ≤ 1000) (room : raster_bytes b.fonts ≤ 2 ^ 30) (told : Told) (tells : told.held ≡ Some held) (later : Told) (shelf : Rose told.faults later.faults → ⊥) where
    not_full : (key : Key) → MustKnow a page key → IsFull a.fonts key → ⊥
    not_full key h full = let j = must_known key h in let more = one_more a b all key j.0 full.1 j.1 in omega (arith, few, more, full.0)

    loads : (e : FontFault) → CantLoad a page told later e → e ≡ font.OutOfMemory
    loads e (id, must, unread, fails) =
        let m = must_loaded id must in
        let key = m.0 in
        let j = m.1 in
        let t = m.2 in
        let s = state_at b j in
        let here : FontOf held b.units b.want key s = subst (λ (k : Key). FontOf held b.units b.want k s) (key_is b key j t.right) (alike.right j m.3) in
        let mine : FontOf held a.units a.want key s = subst (λ (u : Units). FontOf held u a.want key s) (sym alike.units) (subst (λ (w : Want). FontOf held b.units w key s) (sym alike.want) here) in
        let space = bytes_more a b all key id j t.left t.right unread in
        let fits : raster_bytes a.fonts + raster_bytes_in s ≤ 2 ^ 30 = omega (arith, space, room) in
        can_load a key s held told tells mine fits later e shelf (subst (λ (k : Key). NotLoaded a k told later e) (key_is a key id t.left) fails)

    font_fault : (e : FontFault) → FontFaultIs a page told later e → e ≡ font.OutOfMemory
    font_fault (font.BadSize parts) (id, code, program, packet, bad) =
        let q = same_packet one held a b alike page id code program covers packet in
        absurd (no_bad a b id code parts program packet.packet (packet_good q.0 code program q.1) bad)
    font_fault font.TooManyFonts h = absurd (not_full h.0 h.1 h.2)
    font_fault font.OutOfMemory h = refl
    font_fault (font.Missing n) h = loads (font.Missing n) h
    font_fault (font.FileTooLong n) h = loads (font.FileTooLong n) h
    font_fault (font.ReadFault n) h = loads (font.ReadFault n) h
    font_fault (font.Tfm n x) h = loads (font.Tfm n x) h
    font_fault (font.Vf n x) h = loads (font.Vf n x) h
    font_fault (font.Pk n x) h = loads (font.Pk n x) h
    font_fault font.RasterSpace h = loads font.RasterSpace h

    -- no fault of the page is there but want of memory
    pub load_faultless : (e : LoadFault) → LoadFaultIs a page told later e → e ≡ load.Font font.OutOfMemory
    load_faultless (load.UndefinedFont s) h = absurd (in_frame s SelectsNone (no_undefined b) h)
    load_faultless (load.NoFont s) h = absurd (in_frame s SetsNowhere (no_font b) h)
    load_faultless (load.NoChar id z) h = absurd (no_width id z h.0 h.1)
    load_faultless (load.NoPacket id code) h = absurd (no_packet id code h.0 h.1 h.2)
    load_faultless (load.NoGlyph id code) h = absurd (no_look id code Nothing (λ k. k) h.0 h.1)
    load_faultless (load.GlyphTooBig id code bytes) h = absurd (no_look id code (Large bytes) (λ k. k) h.0 h.1)
    load_faultless (load.Font f) h = ap (λ (x : FontFault). load.Font x) (font_fault f h)

pub had : OneFontOf → WhatCanBeHadIsHad
had one held a b page told later h tells shelf e = load_faultless one held a b h.alike page h.covers h.twins h.few h.room told tells later shelf e

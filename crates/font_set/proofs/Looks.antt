-- What is known of a font, by its state.
use Rattle.std.proofs.Common.{◌≡◌, ◌<◌, inl, inr, ◌↔◌, ℕ, ℤ, pos, negsuc, arith, Bool, true, false, List, [], ◌∷◌, map, Option, Some, None, slice_get, refl, sym, ap, subst, ◌∙◌, if◌then◌else◌, zero, suc}
use Rattle.std.specs.Prelude.{IsTrue, Result, Ok, Err, IfOk, IfErr}
use Rattle.std.specs.List.{AllByRecursion, Contains}
use Rattle.std.specs.Ordering.{int_eq}
use Rattle.dv_base.specs.FontName.{IsFontName}
use Rattle.dvi_doc.specs.declared.font.FontKey.{FontKey}
use Rattle.vf_packets.specs.Font.{LocalFont, VirtualFont, Apart, Has, first_number}
use Rattle.pk_raster.specs.Font as pk_font
use Rattle.font_set.specs.Fonts.{State, Entry, FontSet, key_at, state_at, size_at, state_in, vf_in, pk_in, bitmap_at, bitmap_by, kept_bitmap, fix_word_in, Mismatches, IsMismatched}
use Rattle.font_set.specs.Programs.{Named, HasNumber, key_in, head_of, locals_at, locals_in, locals_of, local_named, local_fonts}
use Rattle.pk_raster.specs.Laws.{AreRows}
use Rattle.font_set.specs.Stored.{IsSound, IsStored, AreStored, HasWanted, HaveWanted, IsFit, AreDrawn, IsFine, entry_of, state_of}
use Rattle.font_set.specs.declared.want.Want.{Want}
use Rattle.font_set.specs.Views.{key_of}
use Rattle.font_set.specs.declared.font.Font.{Font}
use Rattle.font_set.specs.Locals.{KeyAnswer, FirstAnswer, BadNumber, BadFirst, named_key}
use Rattle.font_set.specs.declared.fault.FontKeyParts.{FontKeyParts}
use Rattle.font_set.proofs.Stores.{key_is, state_is}

pub fine_in : (s : State) (code : ℕ) → IsSound s → code < 256 → IsFine (fix_word_in s code)
fine_in State.Known code h l = tt
fine_in (State.Real tfm pk) code h l = h.0 code l
fine_in (State.Virtual tfm vf) code h l = h.0 code l

pub drawn_in : (s : State) (pk : pk_font.Font) → IsSound s → pk_in s ≡ Some pk → AreDrawn (Some pk)
drawn_in State.Known pk h e = absurd cc
drawn_in (State.Real tfm o) pk h e = let same : o ≡ Some pk = e in subst AreDrawn same h.1
drawn_in (State.Virtual tfm vf) pk h e = absurd cc

pub fit_in : (s : State) (vf : VirtualFont) → IsSound s → vf_in s ≡ Some vf → IsFit vf
fit_in State.Known vf h e = absurd cc
fit_in (State.Real tfm pk) vf h e = absurd cc
fit_in (State.Virtual tfm v) vf h e = let same : v ≡ vf = cc in subst IsFit same h.1

pub mismatch_is : (set : FontSet) (id : ℕ) (k : FontKey) (f : Font) (b : Bool) → slice_get set.fonts id ≡ Some (entry_of (k, f)) → (IsTrue b ↔ Mismatches (key_of k).checksum (state_of f)) → (IsTrue b ↔ IsMismatched set id)
mismatch_is set id k f b e m =
    let key : key_at set id ≡ key_of k = key_is set id (entry_of (k, f)) e in
    let state : state_at set id ≡ state_of f = state_is set id (entry_of (k, f)) e in
    rw (key, state) m

-- ---- local fonts

pub no_locals : (set : FontSet) (id : ℕ) → vf_in (state_at set id) ≡ None → locals_at set id ≡ []
unfolding locals_at
no_locals set id e = by (state_at set id) e
  where
    by : (s : State) → vf_in s ≡ None → locals_in set.units.num set.units.den (size_at set id) s ≡ []
    by State.Known h = refl
    by (State.Real tfm pk) h = refl
    by (State.Virtual tfm vf) h = absurd cc

pub locals_are : (set : FontSet) (id : ℕ) (vf : VirtualFont) → vf_in (state_at set id) ≡ Some vf → locals_at set id ≡ map (local_named set.units.num set.units.den (size_at set id)) vf.locals
unfolding locals_at locals_of
locals_are set id vf e = by (state_at set id) e
  where
    by : (s : State) → vf_in s ≡ Some vf → locals_in set.units.num set.units.den (size_at set id) s ≡ map (local_named set.units.num set.units.den (size_at set id)) vf.locals
    by State.Known h = absurd cc
    by (State.Real tfm pk) h = absurd cc
    by (State.Virtual tfm v) h = let same : v ≡ vf = cc in ap (λ (x : VirtualFont). map (local_named set.units.num set.units.den (size_at set id)) x.locals) same

pub fonts_are : (set : FontSet) (id : ℕ) (vf : VirtualFont) → vf_in (state_at set id) ≡ Some vf → local_fonts (state_at set id) ≡ vf.locals
fonts_are set id vf e = by (state_at set id) e
  where
    by : (s : State) → vf_in s ≡ Some vf → local_fonts s ≡ vf.locals
    by State.Known h = absurd cc
    by (State.Real tfm pk) h = absurd cc
    by (State.Virtual tfm v) h = let same : v ≡ vf = cc in ap (λ (x : VirtualFont). x.locals) same

pub named_at : (ls : List LocalFont) (l : LocalFont) → AllByRecursion (λ (f : LocalFont). IsFontName f.name) ls → Contains ls l → IsFontName l.name
named_at [] l a h = absurd (omega (arith, h.1))
named_at (x ∷ ls) l a (zero, h, e) = subst (λ (f : LocalFont). IsFontName f.name) e a.0
named_at (x ∷ ls) l a (suc k, h, e) = named_at ls l a.1 (k, omega (arith, h), e)

has_number : (num den : ℤ) (size : ℕ) (ls : List LocalFont) (k : ℤ) → HasNumber (map (local_named num den size) ls) k → Has ls k
has_number num den size [] k h = absurd h
has_number num den size (l ∷ ls) k (inl e) = inl e
has_number num den size (l ∷ ls) k (inr h) = inr (has_number num den size ls k h)

pub no_number : (set : FontSet) (id : ℕ) (vf : VirtualFont) (k : ℤ) → vf_in (state_at set id) ≡ Some vf → (Has vf.locals k → ⊥) → HasNumber (locals_at set id) k → ⊥
no_number set id vf k e n h = n (has_number set.units.num set.units.den (size_at set id) vf.locals k (subst (λ (fs : List Named). HasNumber fs k) (locals_are set id vf e) h))

same_int : (z : ℤ) → int_eq z z ≡ true
same_int (pos n) = grind arith
same_int (negsuc n) = grind arith

other_int : (y z : ℤ) → (y ≡ z → ⊥) → int_eq y z ≡ false
other_int y z n = by (int_eq y z) refl
  where
    by : (b : Bool) → int_eq y z ≡ b → b ≡ false
    by false e = refl
    by true e = absurd (n (grind (arith, e)))

has_at : (ls : List LocalFont) (l : LocalFont) → Contains ls l → Has ls l.k
has_at [] l h = absurd (omega (arith, h.1))
has_at (x ∷ ls) l (zero, h, e) = inl (ap (λ (f : LocalFont). f.k) e)
has_at (x ∷ ls) l (suc n, h, e) = inr (has_at ls l (n, omega (arith, h), e))

key_named : (num den : ℤ) (size : ℕ) (ls : List LocalFont) (l : LocalFont) → Apart ls → Contains ls l → key_in (map (local_named num den size) ls) l.k ≡ (local_named num den size l).key
unfolding key_in
key_named num den size [] l a h = absurd (omega (arith, h.1))
key_named num den size (x ∷ ls) l a (zero, h, e) =
    subst (λ (f : LocalFont). (if int_eq x.k f.k then (local_named num den size x).key else key_in (map (local_named num den size) ls) f.k) ≡ (local_named num den size f).key) e (rw (same_int x.k) refl)
key_named num den size (x ∷ ls) l a (suc n, h, e) =
    let member : Contains ls l = (n, omega (arith, h), e) in
    let other : int_eq x.k l.k ≡ false = other_int x.k l.k (λ s. a l.k (inl (s, has_at ls l member))) in
    rw other (key_named num den size ls l (λ k t. a k (inr t)) member)

-- the key of a local font is the one that its number names
pub key_number : (set : FontSet) (id : ℕ) (vf : VirtualFont) (l : LocalFont) (k : ℤ) → vf_in (state_at set id) ≡ Some vf → IsFit vf → Contains vf.locals l → l.k ≡ k
    → key_in (locals_at set id) k ≡ (local_named set.units.num set.units.den (size_at set id) l).key
key_number set id vf l k e f m s =
    ap (λ (fs : List Named). key_in fs k) (locals_are set id vf e) ∙ ap (λ (z : ℤ). key_in (map (local_named set.units.num set.units.den (size_at set id)) vf.locals) z) (sym s)
    ∙ key_named set.units.num set.units.den (size_at set id) vf.locals l f.apart m

-- ---- the first local font

first_answer : (num den : ℤ) (size : ℕ) (ls : List LocalFont) (k : ℤ) (o : Option FontKey) → first_number ls ≡ Some k → KeyAnswer (map (local_named num den size) ls) k o → FirstAnswer (head_of (map (local_named num den size) ls)) o
unfolding key_in
first_answer num den size [] k o e a = absurd cc
first_answer num den size (l ∷ ls) k None e a = let same : l.k ≡ k = cc in a (inl same)
first_answer num den size (l ∷ ls) k (Some key) e a =
    let same : l.k ≡ k = cc in
    (sym (by k same) ∙ a.0, a.1)
  where
    by : (z : ℤ) → l.k ≡ z → key_in (map (local_named num den size) (l ∷ ls)) z ≡ (local_named num den size l).key
    by z s = subst (λ (y : ℤ). key_in (map (local_named num den size) (l ∷ ls)) y ≡ (local_named num den size l).key) s (rw (same_int l.k) refl)

pub first_is : (set : FontSet) (id : ℕ) (vf : VirtualFont) (k : ℤ) (o : Option FontKey) → vf_in (state_at set id) ≡ Some vf → first_number vf.locals ≡ Some k → KeyAnswer (locals_at set id) k o → FirstAnswer (head_of (locals_at set id)) o
first_is set id vf k o e f a =
    subst (λ (fs : List Named). FirstAnswer (head_of fs) o) (sym (locals_are set id vf e))
    (first_answer set.units.num set.units.den (size_at set id) vf.locals k o f (subst (λ (fs : List Named). KeyAnswer fs k o) (locals_are set id vf e) a))

pub no_first : (set : FontSet) (id : ℕ) → vf_in (state_at set id) ≡ None → FirstAnswer (head_of (locals_at set id)) None
no_first set id e = subst (λ (fs : List Named). FirstAnswer (head_of fs) None) (sym (no_locals set id e)) tt

pub empty_first : (set : FontSet) (id : ℕ) (vf : VirtualFont) → vf_in (state_at set id) ≡ Some vf → first_number vf.locals ≡ None → FirstAnswer (head_of (locals_at set id)) None
empty_first set id vf e f = subst (λ (fs : List Named). FirstAnswer (head_of fs) None) (sym (locals_are set id vf e)) (by vf.locals f)
  where
    by : (ls : List LocalFont) → first_number ls ≡ None → FirstAnswer (head_of (map (local_named set.units.num set.units.den (size_at set id)) ls)) None
    by [] g = tt
    by (l ∷ ls) g = absurd cc

head_number : (ls : List LocalFont) (l : LocalFont) (k : ℤ) → Apart ls → first_number ls ≡ Some k → l.k ≡ k → Contains ls l → (num den : ℤ) (size : ℕ) → head_of (map (local_named num den size) ls) ≡ Some (local_named num den size l)
head_number [] l k a f s m num den size = absurd cc
head_number (x ∷ ls) l k a f s (zero, h, e) num den size = ap (λ (y : LocalFont). Some (local_named num den size y)) e
head_number (x ∷ ls) l k a f s (suc n, h, e) num den size =
    let same : x.k ≡ k = cc in
    absurd (a k (inl (same, subst (λ (z : ℤ). Has ls z) s (has_at ls l (n, omega (arith, h), e)))))

pub bad_first : (set : FontSet) (id : ℕ) (vf : VirtualFont) (k : ℤ) (parts : FontKeyParts) → vf_in (state_at set id) ≡ Some vf → IsFit vf → first_number vf.locals ≡ Some k → BadNumber set id k parts → BadFirst set id parts
bad_first set id vf k parts e f g b =
    let local = b.0 in
    let member = subst (λ (ls : List LocalFont). Contains ls local) (fonts_are set id vf e) b.3.among in
    (local, ap (λ (fs : List Named). head_of fs) (locals_are set id vf e) ∙ head_number vf.locals local k f.apart g b.1 member set.units.num set.units.den (size_at set id), b.3)

no_key : (fs : List Named) (k : ℤ) → (HasNumber fs k → ⊥) → key_in fs k ≡ None
unfolding key_in
no_key [] k n = refl
no_key (f ∷ fs) k n = rw (other_int f.number k (λ e. n (inl e))) (no_key fs k (λ h. n (inr h)))

pub named_is : (fs : List Named) (k : ℤ) (P : FontKeyParts → Type 0) (r : Result (Option FontKey) FontKeyParts) → ((parts : FontKeyParts) → P parts → key_in fs k ≡ None) → IfOk r (KeyAnswer fs k) → IfErr r P → key_in fs k ≡ named_key r
named_is fs k P (Ok None) f a b = no_key fs k a
named_is fs k P (Ok (Some key)) f a b = a.0
named_is fs k P (Err parts) f a b = f parts b

-- ---- bitmaps

kept_bits : (k : pk_font.Known) (b : pk_font.Bitmap) → kept_bitmap k ≡ Some b → k ≡ pk_font.Known.Bits b
kept_bits pk_font.Known.Nothing b e = absurd cc
kept_bits (pk_font.Known.Large n) b e = absurd cc
kept_bits (pk_font.Known.Bits a) b e = let same : a ≡ b = cc in ap (λ (x : pk_font.Bitmap). pk_font.Known.Bits x) same

rows_by : (o : Option pk_font.Font) (code : ℕ) (b : pk_font.Bitmap) → AreDrawn o → bitmap_by o code ≡ Some b → AreRows b
rows_by None code b h e = absurd cc
rows_by (Some pk) code b h e = h code b (kept_bits (pk_font.glyph_at pk code) b e)

rows_in : (s : State) (code : ℕ) (b : pk_font.Bitmap) → IsSound s → bitmap_by (pk_in s) code ≡ Some b → AreRows b
rows_in State.Known code b h e = absurd cc
rows_in (State.Real tfm pk) code b h e = rows_by pk code b h.1 e
rows_in (State.Virtual tfm vf) code b h e = absurd cc

sound_at : (es : List Entry) (i : ℕ) → AllByRecursion IsStored es → IsSound (state_in (slice_get es i))
sound_at [] i h = tt
sound_at (e ∷ es) zero h = let s = h.0 in s.sound
sound_at (e ∷ es) (suc i) h = sound_at es i h.1

wanted_in : (want : Want) (es : List Entry) (i : ℕ) → HaveWanted want es → HasWanted want (state_in (slice_get es i))
wanted_in Want.Widths [] i h = tt
wanted_in Want.Packets [] i h = tt
wanted_in Want.Rasters [] i h = tt
wanted_in want (e ∷ es) zero h = h.0
wanted_in want (e ∷ es) (suc i) h = wanted_in want es i h.1

pub all_wanted : (set : FontSet) → HaveWanted set.want set.fonts → (id : ℕ) → HasWanted set.want (state_at set id)
unfolding state_at
all_wanted set h id = wanted_in set.want set.fonts id h

pub all_rows : (set : FontSet) → AreStored set.fonts → (id code : ℕ) (b : pk_font.Bitmap) → bitmap_at set id code ≡ Some b → AreRows b
unfolding bitmap_at state_at
all_rows set h id code b e = rows_in (state_in (slice_get set.fonts id)) code b (sound_at set.fonts id h.each) e

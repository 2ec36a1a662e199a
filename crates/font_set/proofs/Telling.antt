-- What a fault of one character says of the page, and what a fault in the midst of a run says of the whole run.
use Rattle.std.proofs.Common.{◌≡◌, ◌<◌, inl, inr, ℕ, ℤ, pos, Option, Some, None, refl, sym, ap, subst, ◌∙◌}
use Rattle.dv_base.specs.Shelf.{Contents, Told, Keeps}
use Rattle.dvi_doc.specs.declared.font.FontKey.{FontKey}
use Rattle.pk_raster.specs.Font.Known.{Nothing, Large}
use Rattle.font_set.specs.Key.{Key}
use Rattle.font_set.specs.Fonts.{FontSet, key_at, state_at, packet_at, IsLoaded, IsVirtual}
use Rattle.font_set.specs.Programs.{Named, Program, program_at, key_of_first}
use Rattle.font_set.specs.Views.{key_of}
use Rattle.font_set.specs.Locals.{FirstAnswer}
use Rattle.font_set.specs.FontFaults.{NotLoaded}
use Rattle.font_set.specs.LoadFaults.{InSome, SetsIn, HasNoWidth, look_at, MustKnow, MustLoad, FontFaultIs, LoadFaultIs}
use Rattle.font_set.specs.Growth.{Extends}
use Rattle.font_set.specs.Gains.{Gains, GainsFor}
use Rattle.font_set.specs.Search.{program_or, or_empty, BeginsIn, IsKeyOf, FirstNotKnown, OpenFault, MeetFault}
use Rattle.font_set.specs.declared.fault.FontFault.{FontFault}
use Rattle.font_set.specs.declared.fault.FontFault.TheVariants as font
use Rattle.font_set.specs.declared.fault.LoadFault.{LoadFault}
use Rattle.font_set.specs.declared.fault.LoadFault.TheVariants as load
use Rattle.font_set.proofs.Growing.{extends_self, program_later}
use Rattle.font_set.proofs.Later.{packet_loaded, set_later, set_packet}
use Rattle.font_set.proofs.Gaining.{gains_wider, gains_on}
use Rattle.font_set.proofs.Shelves.{loaded_before}

-- ---- an earlier shelf

module _ (set : FontSet) (page : Program) (a b c : Told) (k : Keeps a b) where
  font_before : (f : FontFault) → FontFaultIs set page b c f → FontFaultIs set page a c f
  font_before (font.Missing n) h = (h.0, h.1, h.2, loaded_before set (key_at set h.0) a b c k (font.Missing n) h.3)
  font_before (font.FileTooLong n) h = (h.0, h.1, h.2, loaded_before set (key_at set h.0) a b c k (font.FileTooLong n) h.3)
  font_before (font.ReadFault n) h = (h.0, h.1, h.2, loaded_before set (key_at set h.0) a b c k (font.ReadFault n) h.3)
  font_before (font.Tfm n e) h = (h.0, h.1, h.2, loaded_before set (key_at set h.0) a b c k (font.Tfm n e) h.3)
  font_before (font.Vf n e) h = (h.0, h.1, h.2, loaded_before set (key_at set h.0) a b c k (font.Vf n e) h.3)
  font_before (font.Pk n e) h = (h.0, h.1, h.2, loaded_before set (key_at set h.0) a b c k (font.Pk n e) h.3)
  font_before font.RasterSpace h = (h.0, h.1, h.2, loaded_before set (key_at set h.0) a b c k font.RasterSpace h.3)
  font_before font.OutOfMemory h = tt
  font_before font.TooManyFonts h = h
  font_before (font.BadSize parts) h = h

  -- a fault told in the midst of a run is told of the whole run
  pub fault_before : (e : LoadFault) → LoadFaultIs set page b c e → LoadFaultIs set page a c e
  fault_before (load.UndefinedFont s) h = h
  fault_before (load.NoFont s) h = h
  fault_before (load.NoChar id z) h = h
  fault_before (load.NoPacket id code) h = h
  fault_before (load.NoGlyph id code) h = h
  fault_before (load.GlyphTooBig id code bytes) h = h
  fault_before (load.Font f) h = font_before f h

-- ---- a packet that is opened

first_there : (o : Option Program) (key : FontKey) → FirstAnswer (or_empty o).first (Some key) → (p : Program) × (o ≡ Some p) × (key_of_first p.first ≡ Some (key_of key))
first_there None key h = absurd h
first_there (Some p) key h = (p, refl, by p.first h)
  where
    by : (f : Option Named) → FirstAnswer f (Some key) → key_of_first f ≡ Some (key_of key)
    by None g = absurd g
    by (Some f) g = g.0

-- the key of the first font of a packet
pub begins_in : (now new : FontSet) (id code : ℕ) (first : Option FontKey) (k : Key) → Extends now new → code < 256 → FirstAnswer (program_or now id code).first first → IsKeyOf first k → BeginsIn new id (pos code) k
begins_in now new id code None k x l h e = absurd e
begins_in now new id code (Some key) k x l h e =
    let p = first_there (program_at now id code) key h in
    (code, refl, l, p.0, program_later now new id code x (packet_loaded now id code p.0 p.1) ∙ p.1, p.2 ∙ ap (λ (q : Key). Some q) (sym e))

pub first_fault : (now : FontSet) (id code : ℕ) (first : Option FontKey) (f : FontFault) → code < 256 → FirstAnswer (program_or now id code).first first → FirstNotKnown now first f → OpenFault now id (pos code) f
first_fault now id code None f l h n = absurd n
first_fault now id code (Some key) font.TooManyFonts l h n = (key_of key, begins_in now now id code (Some key) (key_of key) (extends_self now) l h refl, n)
first_fault now id code (Some key) font.OutOfMemory l h n = tt
first_fault now id code (Some key) _ l h n = absurd n

pub open_gains : (held : Option Contents) (now new : FontSet) (id code : ℕ) (first : Option FontKey) → code < 256 → FirstAnswer (program_or now id code).first first
    → Gains held now new (λ i. ⊥) (IsKeyOf first) → Gains held now new (λ i. ⊥) (BeginsIn new id (pos code))
open_gains held now new id code first l h g =
    gains_wider held now new (λ i. ⊥) (λ i. ⊥) (IsKeyOf first) (BeginsIn new id (pos code)) (λ i none. none) (λ k e. begins_in now new id code first k g.extends l h e) g

-- ---- a character that is met

-- its font was loaded
pub load_gains : (held : Option Contents) (now new : FontSet) (id : ℕ) (z : ℤ) → Gains held now new (λ i. i ≡ id) (λ k. ⊥) → Gains held now new (λ i. i ≡ id) (BeginsIn new id z)
load_gains held now new id z g = gains_wider held now new (λ i. i ≡ id) (λ i. i ≡ id) (λ k. ⊥) (BeginsIn new id z) (λ i e. e) (λ k none. absurd none) g

-- and its packet was opened
pub meet_gains : (held : Option Contents) (now mid new : FontSet) (id code : ℕ) (z : ℤ) → z ≡ pos code → Gains held now mid (λ i. i ≡ id) (λ k. ⊥)
    → Gains held mid new (λ i. ⊥) (BeginsIn new id (pos code)) → Gains held now new (λ i. i ≡ id) (BeginsIn new id z)
meet_gains held now mid new id code z e g h =
    gains_on held now mid new (λ i. i ≡ id) (λ i. i ≡ id) (λ k. ⊥) (BeginsIn new id z) (λ i q. q) (λ k none. absurd none) g
    (gains_wider held mid new (λ i. ⊥) (λ i. i ≡ id) (BeginsIn new id (pos code)) (BeginsIn new id z) (λ i none. absurd none) (λ k b. subst (λ (y : ℤ). BeginsIn new id y k) (sym e) b) h)

module _ (set : FontSet) (page : Program) (id : ℕ) (z : ℤ) (s : InSome set page (SetsIn set id z)) where
  at_code : (code : ℕ) → z ≡ pos code → InSome set page (SetsIn set id (pos code))
  at_code code e = subst (λ (y : ℤ). InSome set page (SetsIn set id y)) e s

  pub begins_known : (key : Key) → BeginsIn set id z key → MustKnow set page key
  begins_known key (code, e, l, program, p, first) = inr (id, code, program, set_packet set page id code program l (at_code code e) p, inl first)

  open_told : (a b : Told) (f : FontFault) → OpenFault set id z f → FontFaultIs set page a b f
  open_told a b (font.BadSize parts) (code, e, l, program, p, bad) = (id, code, program, set_packet set page id code program l (at_code code e) p, inl bad)
  open_told a b font.TooManyFonts h = (h.0, begins_known h.0 h.1, h.2)
  open_told a b font.OutOfMemory h = tt
  open_told a b _ h = absurd h

  load_told : (a b : Told) (f : FontFault) → (IsLoaded (state_at set id) → ⊥) → NotLoaded set (key_at set id) a b f → FontFaultIs set page a b f
  load_told a b (font.BadSize parts) u h = absurd h
  load_told a b font.TooManyFonts u h = absurd h
  load_told a b font.OutOfMemory u h = tt
  load_told a b (font.Missing n) u h = (id, (z, s), u, h)
  load_told a b (font.FileTooLong n) u h = (id, (z, s), u, h)
  load_told a b (font.ReadFault n) u h = (id, (z, s), u, h)
  load_told a b (font.Tfm n e) u h = (id, (z, s), u, h)
  load_told a b (font.Vf n e) u h = (id, (z, s), u, h)
  load_told a b (font.Pk n e) u h = (id, (z, s), u, h)
  load_told a b font.RasterSpace u h = (id, (z, s), u, h)

  pub meet_told : (a b : Told) (e : LoadFault) → MeetFault set id z a b e → LoadFaultIs set page a b e
  meet_told a b (load.NoChar i y) h =
      let P = λ (i : ℕ). InSome set page (SetsIn set i y) × HasNoWidth set i y in
      subst P (sym h.0) (subst (λ (w : ℤ). InSome set page (SetsIn set id w)) (sym h.1) s, subst (HasNoWidth set id) (sym h.1) h.2)
  meet_told a b (load.NoPacket i code) h =
      let P = λ (i : ℕ). InSome set page (SetsIn set i (pos code)) × IsVirtual (state_at set i) × (packet_at set i code ≡ None) in
      subst P (sym h.0) (at_code code h.1, h.2, h.3)
  meet_told a b (load.NoGlyph i code) h =
      let P = λ (i : ℕ). InSome set page (SetsIn set i (pos code)) × (look_at set i code ≡ Some Nothing) in
      subst P (sym h.0) (at_code code h.1, h.2)
  meet_told a b (load.GlyphTooBig i code bytes) h =
      let P = λ (i : ℕ). InSome set page (SetsIn set i (pos code)) × (look_at set i code ≡ Some (Large bytes)) in
      subst P (sym h.0) (at_code code h.1, h.2)
  meet_told a b (load.Font f) (inl h) = open_told a b f h
  meet_told a b (load.Font f) (inr h) = load_told a b f h.0 h.1
  meet_told a b _ h = absurd h

-- what the set gains where a character is met is for the page in which it is set
pub met_gains : (held : Option Contents) (now new : FontSet) (page : Program) (id : ℕ) (z : ℤ) → InSome now page (SetsIn now id z) → Gains held now new (λ i. i ≡ id) (BeginsIn new id z) → GainsFor held now new page
met_gains held now new page id z s g =
    let t = set_later now new page id z g.extends s in
    gains_wider held now new (λ i. i ≡ id) (MustLoad new page) (BeginsIn new id z) (MustKnow new page)
    (λ i e. subst (MustLoad new page) (sym e) (z, t)) (begins_known new page id z t) g

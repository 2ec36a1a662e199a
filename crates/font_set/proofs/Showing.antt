-- What a loaded font has of a character, and how its packet begins.
use Rattle.std.proofs.Common.{◌≡◌, ℕ, ℤ, pos, List, [], Option, Some, None, refl, sym, ap, subst, ◌∙◌}
use Rattle.dv_base.specs.declared.units.Units.{Units}
use Rattle.dvi_ops.specs.Placed.{Placed, Lexes}
use Rattle.dvi_ops.specs.Reading.{commands_in}
use Rattle.dvi_ops.specs.Laws.{OneReading}
use Rattle.tfm_widths.specs.Widths.{Table, width_in}
use Rattle.vf_packets.specs.Font.{VirtualFont, packet_of}
use Rattle.vf_packets.specs.Programs.{IsProgram}
use Rattle.pk_raster.specs.Font.{Font, Known, glyph_at}
use Rattle.pk_raster.specs.Font.Known.{Nothing, Large}
use Rattle.font_set.specs.Fonts.{State, FontSet, kept_bitmap, state_at, size_at, width_at, width_of, width_by, packet_at, packet_in, IsLoaded, IsVirtual}
use Rattle.font_set.specs.Programs.{Named, Program, program_at, program_in, packet_program, lexed, locals_at, locals_of, locals_in, head_of}
use Rattle.font_set.specs.Covers.{IsShown, IsThere, HasBitmap}
use Rattle.font_set.specs.LoadFaults.{look_at, look_in}
use Rattle.font_set.specs.Search.{program_or, or_empty, bytes_or, IsLookFault, IsCharFault}
use Rattle.font_set.specs.Locals.{FirstAnswer}
use Rattle.font_set.specs.declared.fault.LoadFault.{LoadFault}
use Rattle.font_set.specs.declared.fault.LoadFault.TheVariants as load

wide : (size : ℕ) (o : Option ℤ) → (width_by size o ≡ None → ⊥) → IsThere o
wide size None h = h refl
wide size (Some x) h = tt

pub shown_real : (set : FontSet) (id code : ℕ) (tfm : Table) (pk : Option Font) → State.Real tfm pk ≡ state_at set id → (width_at set id code ≡ None → ⊥) → HasBitmap pk code → IsShown (state_at set id) code
unfolding width_at
shown_real set id code tfm pk e w b =
    let P : State → Type 0 = λ s. (width_of (size_at set id) s code ≡ None → ⊥) → IsShown s code in
    subst P e (λ h. (wide (size_at set id) (width_in tfm code) h, b)) w

pub shown_virtual : (set : FontSet) (id code : ℕ) (tfm : Table) (vf : VirtualFont) → State.Virtual tfm vf ≡ state_at set id → (width_at set id code ≡ None → ⊥) → IsThere (packet_of vf code) → IsShown (state_at set id) code
unfolding width_at
shown_virtual set id code tfm vf e w b =
    let P : State → Type 0 = λ s. (width_of (size_at set id) s code ≡ None → ⊥) → IsShown s code in
    subst P e (λ h. (wide (size_at set id) (width_in tfm code) h, b)) w

pub there : {A : Type 0} (o : Option A) (x : A) → o ≡ Some x → IsThere o
there o x e = subst IsThere (sym e) tt

pub unloaded : (set : FontSet) (id : ℕ) → State.Known ≡ state_at set id → IsLoaded (state_at set id) → ⊥
unloaded set id e l = subst IsLoaded (sym e) l

pub has_bits : (pk : Font) (code : ℕ) (k : Known) → k ≡ glyph_at pk code → IsThere (kept_bitmap k) → HasBitmap (Some pk) code
has_bits pk code k e h = subst (λ (x : Known). IsThere (kept_bitmap x)) e h

pub look_fault : (set : FontSet) (id code : ℕ) (tfm : Table) (pk : Option Font) → State.Real tfm pk ≡ state_at set id → (e : LoadFault) → IsLookFault pk id code e → IsCharFault set id (pos code) e
unfolding look_at
look_fault set id code tfm pk s (load.NoGlyph i c) h = (h.0, ap pos (sym h.1), subst (λ (n : ℕ). look_in (state_at set id) n ≡ Some Nothing) (sym h.1) (ap (λ (x : State). look_in x code) (sym s) ∙ h.2))
look_fault set id code tfm pk s (load.GlyphTooBig i c bytes) h = (h.0, ap pos (sym h.1), subst (λ (n : ℕ). look_in (state_at set id) n ≡ Some (Large bytes)) (sym h.1) (ap (λ (x : State). look_in x code) (sym s) ∙ h.2))
look_fault set id code tfm pk s _ h = absurd h

pub no_packet : (set : FontSet) (id code : ℕ) (tfm : Table) (vf : VirtualFont) → State.Virtual tfm vf ≡ state_at set id → packet_of vf code ≡ None → IsVirtual (state_at set id) × (packet_at set id code ≡ None)
unfolding packet_at
no_packet set id code tfm vf e n = (subst IsVirtual e tt, ap (λ (s : State). packet_in s code) (sym e) ∙ n)

-- ---- packets

no_program : (units : Units) (size : ℕ) (s : State) (code : ℕ) → packet_in s code ≡ None → program_in units size s code ≡ None
no_program units size State.Known code e = refl
no_program units size (State.Real tfm pk) code e = refl
no_program units size (State.Virtual tfm vf) code e = ap (λ (o : Option (List ℕ)). packet_program units.num units.den size vf (lexed o)) e

empty_packet : (set : FontSet) (id code : ℕ) → packet_at set id code ≡ None → program_at set id code ≡ None
unfolding packet_at program_at
empty_packet set id code e = no_program set.units (size_at set id) (state_at set id) code e

pub empty_lexed : (set : FontSet) (id code : ℕ) → packet_at set id code ≡ None → Lexes 0 (bytes_or (packet_at set id code)) (program_or set id code).commands
empty_lexed set id code e =
    subst (λ (bs : List ℕ). Lexes 0 bs (program_or set id code).commands) (sym (ap bytes_or e))
    (subst (Lexes 0 []) (sym (ap (λ (o : Option Program). (or_empty o).commands) (empty_packet set id code e))) refl)

pub empty_first : (set : FontSet) (id code : ℕ) → packet_at set id code ≡ None → FirstAnswer (program_or set id code).first None
empty_first set id code e = subst (λ (o : Option Named). FirstAnswer o None) (sym (ap (λ (o : Option Program). (or_empty o).first) (empty_packet set id code e))) tt

-- The commands of a packet, and its first font.
pub record Begins (set : FontSet) (id code : ℕ) (bytes : List ℕ) : Type 0 where
  pub spelled : Lexes 0 bytes (program_or set id code).commands
  pub first : (program_or set id code).first ≡ head_of (locals_at set id)

some_program : (units : Units) (size : ℕ) (s : State) (code : ℕ) (bytes : List ℕ) (cs : List Placed) → packet_in s code ≡ Some bytes → commands_in 0 bytes ≡ Some cs
    → ((or_empty (program_in units size s code)).commands ≡ cs) × ((or_empty (program_in units size s code)).first ≡ head_of (locals_in units.num units.den size s))
some_program units size State.Known code bytes cs e c = absurd cc
some_program units size (State.Real tfm pk) code bytes cs e c = absurd cc
some_program units size (State.Virtual tfm vf) code bytes cs e c =
    let q : lexed (packet_of vf code) ≡ Some cs = ap lexed e ∙ c in
    let p = ap (λ (o : Option (List Placed)). or_empty (packet_program units.num units.den size vf o)) q in
    (ap (λ (x : Program). x.commands) p, ap (λ (x : Program). x.first) p)

pub begins : OneReading → (set : FontSet) (id code : ℕ) (bytes : List ℕ) → packet_at set id code ≡ Some bytes → IsProgram bytes → Begins set id code bytes
unfolding packet_at program_at locals_at
begins one set id code bytes e g =
    let cs = g.commands in
    let c : commands_in 0 bytes ≡ Some cs = (one 0 bytes cs).0 g.spelled in
    let w = some_program set.units (size_at set id) (state_at set id) code bytes cs e c in
    record { spelled = subst (Lexes 0 bytes) (sym w.0) g.spelled; first = w.1 }

-- a character with bytes has a packet
pub has_program : OneReading → (set : FontSet) (id code : ℕ) (bytes : List ℕ) → packet_at set id code ≡ Some bytes → IsProgram bytes → (program : Program) × (program_at set id code ≡ Some program)
unfolding packet_at program_at
has_program one set id code bytes e g = by (state_at set id) e
  where
    by : (s : State) → packet_in s code ≡ Some bytes → (program : Program) × (program_in set.units (size_at set id) s code ≡ Some program)
    by State.Known q = absurd cc
    by (State.Real tfm pk) q = absurd cc
    by (State.Virtual tfm vf) q =
        let cs = g.commands in
        let c : commands_in 0 bytes ≡ Some cs = (one 0 bytes cs).0 g.spelled in
        let units = set.units in
        let size = size_at set id in (
          record { scope = record { size = Some size; fonts = locals_of units.num units.den size vf }; first = head_of (locals_of units.num units.den size vf); commands = cs },
          ap (λ (o : Option (List Placed)). packet_program units.num units.den size vf o) (ap lexed q ∙ c),
        )

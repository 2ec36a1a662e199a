-- A character of a virtual font runs its packet.
use Rattle.std.proofs.Common.{◌≡◌, ◌<◌, ◌-◌, ℕ, zero, suc, ℤ, pos, List, [], ◌∷◌, length, Option, Some, None, refl, sym, ap, ◌∙◌, arith, inl, inr}
use Rattle.dv_base.specs.declared.font_id.Spot.TheVariants as spot
use Rattle.dvi_ops.specs.Placed.{Placed, Lexes}
use Rattle.dvi_ops.specs.Laws.{OneReading}
use Rattle.positions.specs.Place.{Place}
use Rattle.font_set.specs.Key.{Key}
use Rattle.font_set.specs.Fonts.{FontSet, state_at, width_at, packet_at, IsVirtual}
use Rattle.font_set.specs.Programs.{program_at}
use Rattle.font_set.specs.Frames.{char_act, acts_of}
use Rattle.font_set.specs.Covers.{Covers}
use Rattle.font_set.specs.Count.{runs, count}
use Rattle.vf_expand.specs.Grid.{Grid}
use Rattle.vf_expand.specs.Pages.{chars, boxed, inner, frame_marks}
use Rattle.vf_expand.specs.Causes.{inside, IsCause}
use Rattle.vf_expand.specs.declared.fault.WalkFault.{WalkFault}
use Rattle.vf_expand.specs.declared.fault.WalkFault.TheVariants as fault
use Rattle.vf_expand.proofs.Chars.{packet_home, program_is, virtual_is, chars_virtual, chars_nested, runs_virtual, CoveredChar, packet_covers, first_is}

-- what a packet with these commands gives for its character
pub record Packet (g : Grid) (set : FontSet) (id code : ℕ) (p : Place) (nest : ℕ) (w : ℤ) (cs : List Placed) : Type 0 where
  pub there : program_at set id code ≡ Some (packet_home set id cs)
  pub covers : Covers set (acts_of (packet_home set id cs))
  pub same : chars g set nest (Some id) (pos code) p ≡ boxed w (frame_marks g set (nest - 1) (packet_home set id cs) (inner p))
  pub counts : runs set nest (Some id) (pos code) ≡ count set (nest - 1) (packet_home set id cs)

by_nest : (g : Grid) (set : FontSet) (id code : ℕ) (p : Place) (w : ℤ) (cs : List Placed) (n nest : ℕ) → nest ≡ suc n → nest - 1 ≡ n → program_at set id code ≡ Some (packet_home set id cs) → IsVirtual (state_at set id) → width_at set id code ≡ Some w → Covers set (acts_of (packet_home set id cs)) → Packet g set id code p nest w cs
by_nest g set id code p w cs n nest e d k v h c =
    let program = packet_home set id cs in
    record {
      there = k;
      covers = c;
      same =
          ap (λ (x : ℕ). chars g set x (Some id) (pos code) p) e
          ∙ chars_virtual g set n id code p w program v k h
          ∙ ap (boxed w) (first_is set program (frame_marks g set n program (inner p)) c)
          ∙ ap (λ (x : ℕ). boxed w (frame_marks g set x program (inner p))) (sym d);
      counts =
          ap (λ (x : ℕ). runs set x (Some id) (pos code)) e ∙ runs_virtual set n id code program k ∙ ap (λ (x : ℕ). count set x program) (sym d);
    }

pub packet : OneReading → (g : Grid) (set : FontSet) (sel : Option Key) (id code : ℕ) (p : Place) (nest : ℕ) (w : ℤ) (bytes : List ℕ) (cs : List Placed) → CoveredChar set sel id code → Covers set (char_act sel (pos code) ∷ []) → packet_at set id code ≡ Some bytes → Lexes 0 bytes cs → width_at set id code ≡ Some w → 0 < nest → Packet g set id code p nest w cs
packet one g set sel id code p nest w bytes cs k c e l h n =
    let there = program_is one set id code bytes cs e l in
    by_nest g set id code p w cs (nest - 1) nest (omega arith) refl there (virtual_is set id code bytes e) h (packet_covers set sel id code k (packet_home set id cs) there c)

-- no packet may be nested
pub nested : OneReading → (g : Grid) (set : FontSet) (id code : ℕ) (p : Place) (nest : ℕ) (w : ℤ) (bytes : List ℕ) (cs : List Placed) → packet_at set id code ≡ Some bytes → Lexes 0 bytes cs → width_at set id code ≡ Some w → nest ≡ 0 → chars g set nest (Some id) (pos code) p ≡ None
nested one g set id code p nest w bytes cs e l h n =
    ap (λ (x : ℕ). chars g set x (Some id) (pos code) p) n ∙ chars_nested g set id code p w (packet_home set id cs) (virtual_is set id code bytes e) (program_is one set id code bytes cs e l) h

pub nested_cause : (F : Type 0) (g : Grid) (set : FontSet) (id code : ℕ) (p : Place) (nest around : ℕ) (bytes : List ℕ) → packet_at set id code ≡ Some bytes → nest ≡ 0 → inside g set nest around (Some id) (pos code) p (let y : WalkFault F = fault.NestDeep id code in y)
unfolding inside
nested_cause F g set id code p nest around bytes e n = rw n (refl, refl, virtual_is set id code bytes e)

free_inside : {F : Type 0} (g : Grid) (set : FontSet) (id code : ℕ) (p : Place) (nest around : ℕ) (f : F) → inside g set nest around (Some id) (pos code) p (fault.Canvas f)
unfolding inside
free_inside g set id code p zero around f = tt
free_inside g set id code p (suc n) around f = inl tt

pub refused_inside : {F : Type 0} (g : Grid) (set : FontSet) (id code : ℕ) (p : Place) (nest around : ℕ) (f : F) → inside g set nest around (Some id) (pos code) p (fault.Canvas f)
refused_inside g set id code p nest around f = free_inside g set id code p nest around f

cause_by : {F : Type 0} (g : Grid) (set : FontSet) (id code : ℕ) (p : Place) (n nest around : ℕ) (bytes : List ℕ) (cs : List Placed) (e : WalkFault F) → nest ≡ suc n → nest - 1 ≡ n → packet_at set id code ≡ Some bytes → program_at set id code ≡ Some (packet_home set id cs) → IsCause g set (nest - 1) (packet_home set id cs) (inner p) (λ at. spot.Packet id code at) (length bytes) around e → inside g set nest around (Some id) (pos code) p e
unfolding inside
cause_by g set id code p n nest around bytes cs e h d k there c =
    rw h (inr (record { id = id; code = code; program = packet_home set id cs; bytes = bytes; same_font = refl; same_code = refl; packet = k; runs = there; stops = rw (sym d) c }))

pub packet_cause : {F : Type 0} (g : Grid) (set : FontSet) (id code : ℕ) (p : Place) (nest around : ℕ) (bytes : List ℕ) (cs : List Placed) (e : WalkFault F) → 0 < nest → packet_at set id code ≡ Some bytes → program_at set id code ≡ Some (packet_home set id cs) → IsCause g set (nest - 1) (packet_home set id cs) (inner p) (λ at. spot.Packet id code at) (length bytes) around e → inside g set nest around (Some id) (pos code) p e
packet_cause g set id code p nest around bytes cs e n k there c = cause_by g set id code p (nest - 1) nest around bytes cs e (omega arith) refl k there c

-- Files tell at most one font of a key.
use Rattle.std.proofs.Common.{◌≡◌, ℕ, ℤ, List, Option, Some, None, sym, ap, subst, ◌∙◌}
use Rattle.dv_base.specs.Shelf.{Contents}
use Rattle.dv_base.specs.declared.units.Units.{Units}
use Rattle.tfm_widths.specs.Widths.{Table, IsTfm}
use Rattle.pk_raster.specs.Font.{Font}
use Rattle.pk_raster.specs.File.{IsPk}
use Rattle.pk_raster.specs.Laws as pk
use Rattle.vf_packets.specs.Font.{VirtualFont}
use Rattle.vf_packets.specs.File.{IsVf}
use Rattle.vf_packets.specs.Laws as vf
use Rattle.font_set.specs.Key.{Key}
use Rattle.font_set.specs.Fonts.{State}
use Rattle.font_set.specs.FontOf.{HasTfm, HasVf, HasPk, HasRasters, IsReal, WantsPackets, tfm_name, vf_name, pk_names, first_of}
use Rattle.font_set.specs.Alike.{OneFontOf}
use Rattle.font_set.specs.declared.want.Want.{Want}
use Rattle.font_set.specs.declared.want.Want.TheVariants as wants

pub same_bytes : (o : Option (List ℕ)) (x y : List ℕ) → o ≡ Some x → o ≡ Some y → x ≡ y
same_bytes None x y e f = absurd cc
same_bytes (Some z) x y e f =
    let a : z ≡ x = cc in
    let b : z ≡ y = cc in
    sym a ∙ b

pub none_some : (o : Option (List ℕ)) (x : List ℕ) → o ≡ None → o ≡ Some x → ⊥
none_some None x e f = cc
none_some (Some y) x e f = cc

one_table : (bytes : List ℕ) (s t : Table) → IsTfm bytes s → IsTfm bytes t → s ≡ t
one_table bytes s t h k =
    ap (λ (n : ℕ). let x : Table = record { checksum = n; widths = s.widths } in x) (h.checksum ∙ sym k.checksum)
    ∙ ap (λ (ws : List (Option ℤ)). let x : Table = record { checksum = t.checksum; widths = ws } in x) (h.widths ∙ sym k.widths)

same_tfm : (held : Contents) (key : Key) (s t : Table) → HasTfm held key s → HasTfm held key t → s ≡ t
same_tfm held key s t h k = one_table h.bytes s t h.tells (subst (λ (bs : List ℕ). IsTfm bs t) (same_bytes (held (tfm_name key)) k.bytes h.bytes k.held_so h.held_so) k.tells)

same_vf : vf.OneFont → (held : Contents) (key : Key) (s t : VirtualFont) → HasVf held key s → HasVf held key t → s ≡ t
same_vf one held key s t h k = one h.bytes s t h.tells (subst (λ (bs : List ℕ). IsVf bs t) (same_bytes (held (vf_name key)) k.bytes h.bytes k.held_so h.held_so) k.tells)

same_pk : pk.OneFont → (held : Contents) (units : Units) (key : Key) (s t : Font) → HasPk held units key s → HasPk held units key t → s ≡ t
same_pk one held units key s t h k =
    one h.bytes s t h.tells (subst (λ (bs : List ℕ). IsPk bs t) (same_bytes (first_of held (pk_names units key)) k.bytes h.bytes k.held_so h.held_so) k.tells)

same_rasters : pk.OneFont → (held : Contents) (units : Units) (want : Want) (key : Key) (o p : Option Font) → HasRasters held units want key o → HasRasters held units want key p → o ≡ p
same_rasters one held units wants.Widths key o p h k = h ∙ sym k
same_rasters one held units wants.Packets key o p h k = h ∙ sym k
same_rasters one held units wants.Rasters key None p h k = absurd h
same_rasters one held units wants.Rasters key (Some x) None h k = absurd k
same_rasters one held units wants.Rasters key (Some x) (Some y) h k = ap (λ (f : Font). Some f) (same_pk one held units key x y h k)

-- no font is real and has packets
pub not_both : (held : Contents) (want : Want) (key : Key) (v : VirtualFont) → IsReal held want key → WantsPackets want → HasVf held key v → ⊥
not_both held wants.Widths key v r w h = w
not_both held wants.Packets key v r w h = none_some (held (vf_name key)) h.bytes r h.held_so
not_both held wants.Rasters key v r w h = none_some (held (vf_name key)) h.bytes r h.held_so

pub one_font : pk.OneFont → vf.OneFont → OneFontOf
one_font p v held units want key State.Known t h k = absurd h
one_font p v held units want key (State.Real a x) State.Known h k = absurd k
one_font p v held units want key (State.Real a x) (State.Real b y) h k =
    ap (λ (t : Table). State.Real t x) (same_tfm held key a b h.1 k.1) ∙ ap (λ (o : Option Font). State.Real b o) (same_rasters p held units want key x y h.2 k.2)
one_font p v held units want key (State.Real a x) (State.Virtual b y) h k = absurd (not_both held want key y h.0 k.0 k.1)
one_font p v held units want key (State.Virtual a x) State.Known h k = absurd k
one_font p v held units want key (State.Virtual a x) (State.Real b y) h k = absurd (not_both held want key x k.0 h.0 h.1)
one_font p v held units want key (State.Virtual a x) (State.Virtual b y) h k =
    ap (λ (t : Table). State.Virtual t x) (same_tfm held key a b h.2 k.2) ∙ ap (λ (f : VirtualFont). State.Virtual b f) (same_vf v held key x y h.1 k.1)

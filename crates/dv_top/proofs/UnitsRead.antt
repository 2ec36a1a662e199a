-- The units of a document that was read.
use Rattle.std.proofs.Common.{◌≡◌, ℕ, ℤ, pos, Option, ap, ◌∙◌}
use Rattle.dv_base.specs.declared.units.Units.{Units}
use Rattle.dvi_ops.specs.Command.{Preamble}
use Rattle.dvi_doc.specs.Document.{Document}
use Rattle.dvi_doc.specs.Grammar.{IsDoc}
use Rattle.dvi_doc.specs.Laws.{OneDocument}
use Rattle.dvi_doc.specs.View.{IsRead, ReadDoc}
use Rattle.dv_top.specs.Scaled.{magnified, units_of}

abbrev pub units_with : ℤ → ℤ → ℤ → ℤ → Units
units_with num den mag dpi = record { num = num; den = den; mag = mag; dpi = dpi }

-- units with the numbers of a document that was read
pub units_read : OneDocument → (r : ReadDoc) (d : Document) (h : Preamble) (m : Option ℕ) (dpi : ℕ) (a b c e : ℤ) → IsRead r → IsDoc r.bytes d → h ≡ r.head
    → a ≡ h.num → b ≡ h.den → c ≡ magnified h.mag m → e ≡ pos dpi → units_with a b c e ≡ units_of d m dpi
units_read one r d h m dpi a b c e (x, is, shows) doc head f g i j =
    let same : x ≡ d = one r.bytes x d is doc in
    let all : h ≡ d.head = head ∙ shows.0 ∙ ap (λ (y : Document). y.head) same in
    ap (λ (z : ℤ). units_with z b c e) (f ∙ ap (λ (p : Preamble). p.num) all)
    ∙ ap (λ (z : ℤ). units_with d.head.num z c e) (g ∙ ap (λ (p : Preamble). p.den) all)
    ∙ ap (λ (z : ℤ). units_with d.head.num d.head.den z e) (i ∙ ap (λ (p : Preamble). magnified p.mag m) all)
    ∙ ap (λ (z : ℤ). units_with d.head.num d.head.den (magnified d.head.mag m) z) j

-- The units of a document, in pixels.
use Rattle.std.specs.Prelude.{◌≡◌, ℕ, ℤ, pos, Option, Some, None}
use Rattle.dv_base.specs.UnitPixels.{IsUsable}
use Rattle.dv_base.specs.declared.units.Units.{Units}
use Rattle.dvi_doc.specs.Document.{Document}
use Rattle.dv_top.specs.declared.outcome.Outcome.{Outcome}
use Rattle.dv_top.specs.declared.outcome.Outcome.TheVariants as outcome

-- the magnification in force: the one that is asked for, else the document's own
abbrev pub magnified : ℤ → Option ℕ → ℤ
magnified own None = own
magnified own (Some mag) = pos mag

-- the units of a document at a magnification and a resolution
abbrev pub units_of : Document → Option ℕ → ℕ → Units
units_of doc mag dpi = record { num = doc.head.num; den = doc.head.den; mag = magnified doc.head.mag mag; dpi = pos dpi }

-- these units of the document turn into no pixels, and the outcome tells of it
abbrev pub NotScaled : Document → Option ℕ → ℕ → Outcome → Type 0
NotScaled doc mag dpi o = (units : Units) × (o ≡ outcome.BadConv units) × (units ≡ units_of doc mag dpi) × (IsUsable units → ⊥)

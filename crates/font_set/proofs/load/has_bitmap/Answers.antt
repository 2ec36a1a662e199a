use Rattle.std.proofs.Common.{Option, Some, refl, ap, sym, subst, ◌∙◌}
use Rattle.pk_raster.specs.Font.{Font, Known}
use Rattle.font_set.specs.Covers.{HasBitmap}
use Rattle.font_set.specs.LoadFaults.{look_by}
use Rattle.font_set.proofs.Showing.{has_bits}
use Rattle.font_set.proofs.load.has_bitmap.Goals as goal

pub returns-in-Here-clause-ok : goal.returns-in-Here-clause-ok
returns-in-Here-clause-ok c = subst (λ (o : Option Font). HasBitmap o c.args.code) (sym c.in-Some.is) (has_bits c.in-Some.pk c.args.code _ c.in-Here.ensures tt)

pub returns-in-None-clause-fault : goal.returns-in-None-clause-fault
returns-in-None-clause-fault c = (refl, refl, ap (λ (o : Option Font). look_by o c.args.code) c.in-Some.is ∙ ap (λ (k : Known). Some k) (sym c.in-None.ensures))

pub returns-in-TooBig-clause-fault : goal.returns-in-TooBig-clause-fault
returns-in-TooBig-clause-fault c = (refl, refl, ap (λ (o : Option Font). look_by o c.args.code) c.in-Some.is ∙ ap (λ (k : Known). Some k) (sym c.in-TooBig.ensures))

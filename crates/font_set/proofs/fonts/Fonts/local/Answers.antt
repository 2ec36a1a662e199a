use Rattle.std.proofs.Common.{◌≡◌, ℤ, to_z, of_z, w64, Option, sym, ap, ◌∙◌}
use Rattle.std.proofs.lemmas.Int.{to_z-of_z}
use Rattle.font_set.specs.Key.{Key}
use Rattle.font_set.specs.Locals.{BadNumber}
use Rattle.font_set.specs.Programs.{id_of, locals_at, key_in}
use Rattle.font_set.proofs.Looks.{named_is}
use Rattle.font_set.proofs.fonts.Fonts.local.Goals as goal

pub returns-in-Some-clause-value : goal.returns-in-Some-clause-value
returns-in-Some-clause-value c =
    let set = c.args.self.now in
    let fs = locals_at set c.args.id in
    let z = to_z w64 (of_z w64 c.args.k) in
    let number : to_z w64 (of_z w64 c.args.k) ≡ c.args.k = to_z-of_z w64 c.args.k c.ranges.k in
    let named = named_is fs z (BadNumber set c.args.id z) c.key_of_local.result (λ p b. b.2) c.key_of_local.ensures.key c.key_of_local.ensures.bad in
    c.id.ensures.value ∙ ap (λ (o : Option Key). id_of set o) (c.in-Some.ensures ∙ sym named ∙ ap (λ (y : ℤ). key_in fs y) number)

pub returns-in-None-clause-value : goal.returns-in-None-clause-value
returns-in-None-clause-value c =
    let set = c.args.self.now in
    let fs = locals_at set c.args.id in
    let z = to_z w64 (of_z w64 c.args.k) in
    let number : to_z w64 (of_z w64 c.args.k) ≡ c.args.k = to_z-of_z w64 c.args.k c.ranges.k in
    let named = named_is fs z (BadNumber set c.args.id z) c.key_of_local.result (λ p b. b.2) c.key_of_local.ensures.key c.key_of_local.ensures.bad in
    ap (λ (o : Option Key). id_of set o) (c.in-None.ensures ∙ sym named ∙ ap (λ (y : ℤ). key_in fs y) number)

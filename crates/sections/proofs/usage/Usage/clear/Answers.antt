use Rattle.std.proofs.Common.{◌≡◌, ◌/◌, ℕ, List, Bool, false, true, length, slice_index_or, sym, ap, subst, ◌∙◌}
use Rattle.sections.specs.Places.{StandsAt}
use Rattle.sections.proofs.Marking.{font_placed, kept_cleared}
use Rattle.sections.proofs.usage.Usage.clear.Goals as goal

pub unmark-requires-clause-of_fonts : goal.unmark-requires-clause-of_fonts
unmark-requires-clause-of_fonts c =
    subst (λ (fs : List Bool). (id : ℕ) → slice_index_or fs id false ≡ true → (p : ℕ) × StandsAt c.deref.result.now p × (p / 256 ≡ id)) (sym c.deref_mut-2.ensures.value)
    (subst (λ (ps : List ℕ). (id : ℕ) → slice_index_or c.self.inside.fonts.items id false ≡ true → (p : ℕ) × StandsAt ps p × (p / 256 ≡ id)) (sym c.deref.ensures.value)
    (λ id e. font_placed c.self.inside id c.self.invariant e))

pub invariant_of-self : goal.invariant_of-self
invariant_of-self c =
    kept_cleared c.self.inside c.unmark.new.taken c.unmark.new.fonts c.clear.new.self c.self.invariant (c.unmark.ensures.many ∙ ap length c.deref_mut.ensures.value)
    (c.unmark.ensures.many_fonts ∙ ap length c.deref_mut-2.ensures.value) c.unmark.ensures.taken c.unmark.ensures.fonts c.clear.ensures.items c.clear.ensures.len c.clear.ensures.capacity

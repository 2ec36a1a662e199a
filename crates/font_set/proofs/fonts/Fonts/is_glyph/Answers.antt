use Rattle.std.proofs.Common.{◌≡◌, ℕ, ℤ, Option, Some, None, refl, ap, sym, ◌∙◌, true≢false}
use Rattle.std.specs.Prelude.{is_some}
use Rattle.font_set.specs.Fonts.{State, packet_at, packet_in, size_at, state_at, width_at, width_by, fix_word_in}
use Rattle.font_set.specs.Stored.{state_of}
use Rattle.font_set.proofs.Showing.{shown_real}
use Rattle.font_set.proofs.fonts.Fonts.is_glyph.Goals as goal

no_width : (size : ℕ) (o : Option ℤ) → width_by size o ≡ None → o ≡ None
no_width size None e = refl
no_width size (Some f) e = absurd cc

pub returns-in-Real-clause-shown : goal.returns-in-Real-clause-shown
unfolding width_at
returns-in-Real-clause-shown c = λ drawn.
    shown_real c.args.self.now c.args.id c.args.code c.in-Real.tfm c.in-Real.pk (ap state_of (sym c.in-Real.is) ∙ c.font.ensures.value) (λ none. true≢false (sym c.if-is_none.ensures ∙ ap is_some (c.fix_word.ensures.value ∙ no_width (size_at c.args.self.now c.args.id) (fix_word_in (state_at c.args.self.now c.args.id) c.args.code) none))) (c.is_drawn.ensures drawn)

pub returns-in-Real-clause-real : goal.returns-in-Real-clause-real
unfolding packet_at
returns-in-Real-clause-real c = λ drawn. ap (λ (s : State). packet_in s c.args.code) (sym (ap state_of (sym c.in-Real.is) ∙ c.font.ensures.value))

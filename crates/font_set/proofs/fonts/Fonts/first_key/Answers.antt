use Rattle.std.proofs.Common.{rules, ◌≡◌, FitsSigned, ℤ, to_z, of_z, w64, sym, ap, subst, ◌∙◌}
use Rattle.std.proofs.lemmas.Int.{to_z-of_z}
use Rattle.font_set.specs.Locals.{KeyAnswer, BadNumber}
use Rattle.font_set.specs.Programs.{locals_at}
use Rattle.std.proofs.lemmas.Result.{err_from_is_err_and}
use Rattle.font_set.specs.Fonts.{State, vf_in}
use Rattle.font_set.specs.Stored.{state_of}
use Rattle.font_set.proofs.Looks.{fit_in, no_first, empty_first, first_is, bad_first}
use Rattle.font_set.proofs.fonts.Fonts.first_key.Goals as goal

pub returns-in_default-clause-key : goal.returns-in_default-clause-key
returns-in_default-clause-key c = no_first c.args.self.now c.args.id (ap (λ (s : State). vf_in s) (sym c.font.ensures.value) ∙ c.in_default.ensures)

pub returns-in_err-key_of_local-in-Some-first_local-clause-bad : goal.returns-in_err-key_of_local-in-Some-first_local-clause-bad
returns-in_err-key_of_local-in-Some-first_local-clause-bad c =
    let fit = fit_in (state_of c.font.result.now) c.in-Some.vf.now c.font.ensures.sound c.in-Some.ensures in
    let has = ap (λ (s : State). vf_in s) (sym c.font.ensures.value) ∙ c.in-Some.ensures in
    let fits : FitsSigned w64 c.in-Some-first_local.k = search rules in
    let number : to_z w64 (of_z w64 c.in-Some-first_local.k) ≡ c.in-Some-first_local.k = to_z-of_z w64 c.in-Some-first_local.k fits in
    let p = err_from_is_err_and c.from_residual.result c.from_residual.ensures.1 in
    rw (p.1, p.2)
    (bad_first c.args.self.now c.args.id c.in-Some.vf.now c.in-Some-first_local.k c.in_err-key_of_local-in-Some-first_local.field-0.0 has fit (sym c.in-Some-first_local.ensures)
    (subst (λ (z : ℤ). BadNumber c.args.self.now c.args.id z c.in_err-key_of_local-in-Some-first_local.field-0.0) number c.in_err-key_of_local-in-Some-first_local.ensures.bad))

pub returns-in_ok-key_of_local-in-Some-first_local-clause-key : goal.returns-in_ok-key_of_local-in-Some-first_local-clause-key
returns-in_ok-key_of_local-in-Some-first_local-clause-key c =
    let has = ap (λ (s : State). vf_in s) (sym c.font.ensures.value) ∙ c.in-Some.ensures in
    let fits : FitsSigned w64 c.in-Some-first_local.k = search rules in
    let number : to_z w64 (of_z w64 c.in-Some-first_local.k) ≡ c.in-Some-first_local.k = to_z-of_z w64 c.in-Some-first_local.k fits in
    first_is c.args.self.now c.args.id c.in-Some.vf.now c.in-Some-first_local.k c.in_ok-key_of_local-in-Some-first_local.field-0 has (sym c.in-Some-first_local.ensures)
    (subst (λ (z : ℤ). KeyAnswer (locals_at c.args.self.now c.args.id) z c.in_ok-key_of_local-in-Some-first_local.field-0) number c.in_ok-key_of_local-in-Some-first_local.ensures.key)

pub returns-in-None-clause-key : goal.returns-in-None-clause-key
returns-in-None-clause-key c =
    let has = ap (λ (s : State). vf_in s) (sym c.font.ensures.value) ∙ c.in-Some.ensures in
    empty_first c.args.self.now c.args.id c.in-Some.vf.now has (sym c.in-None.ensures)

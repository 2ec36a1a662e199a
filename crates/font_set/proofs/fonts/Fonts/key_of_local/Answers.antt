use Rattle.std.proofs.Common.{◌≡◌, ℕ, ℤ, to_z, of_z, w64, List, sym, ap, subst, ◌∙◌}
use Rattle.std.proofs.lemmas.Int.{to_z-of_z}
use Rattle.std.proofs.lemmas.Result.{err_from_is_err_and}
use Rattle.std.specs.List.{Contains}
use Rattle.vf_packets.specs.Font.{Has, LocalFont}
use Rattle.font_set.specs.Locals.{IsBadSize}
use Rattle.vf_packets.specs.LocalViews.{local_view}
use Rattle.font_set.specs.Fonts.{State, FontSet, vf_in, size_at}
use Rattle.font_set.specs.LocalKey.{local_key}
use Rattle.font_set.specs.Programs.{Named, HasNumber}
use Rattle.font_set.specs.Stored.{state_of}
use Rattle.font_set.proofs.Looks.{fonts_are, no_locals, no_number, named_at, fit_in, key_number}
use Rattle.font_set.proofs.fonts.Fonts.key_of_local.Goals as goal

pub returns-in_default-clause-key : goal.returns-in_default-clause-key
returns-in_default-clause-key c =
    let none = ap (λ (s : State). vf_in s) (sym c.font.ensures.value) ∙ c.in_default.ensures in
    λ h. subst (λ (fs : List Named). HasNumber fs c.args.k) (no_locals c.args.self.now c.args.id none) h

pub local_key-requires-clause-name : goal.local_key-requires-clause-name
local_key-requires-clause-name c =
    let fit = fit_in (state_of c.font.result.now) c.in-Some.vf.now c.font.ensures.sound c.in-Some.ensures in
    named_at c.in-Some.vf.now.locals (local_view c.in-Some-local.local.now) fit.named c.in-Some-local.ensures.0

pub returns-in_ok-local_key-in-Some-local-clause-key : goal.returns-in_ok-local_key-in-Some-local-clause-key
returns-in_ok-local_key-in-Some-local-clause-key c =
    let set = c.args.self.now in
    let local = local_view c.in-Some-local.local.now in
    let fit = fit_in (state_of c.font.result.now) c.in-Some.vf.now c.font.ensures.sound c.in-Some.ensures in
    let has = ap (λ (s : State). vf_in s) (sym c.font.ensures.value) ∙ c.in-Some.ensures in
    let number : to_z w64 (of_z w64 c.args.k) ≡ c.args.k = to_z-of_z w64 c.args.k c.ranges.k in
    let made = c.in_ok-local_key-in-Some-local.ensures.key in (
      key_number set c.args.id c.in-Some.vf.now local c.args.k has fit c.in-Some-local.ensures.0 (c.in-Some-local.ensures.1 ∙ number)
          ∙ ap (λ (n : ℕ). local_key set.units.num set.units.den n local) (sym c.size.ensures.value)
          ∙ ap (λ (s : FontSet). local_key s.units.num s.units.den c.size.result local) (sym c.self.view_is)
          ∙ made.0,
      made.1,
    )

pub returns-in-None-clause-key : goal.returns-in-None-clause-key
returns-in-None-clause-key c =
    let has = ap (λ (s : State). vf_in s) (sym c.font.ensures.value) ∙ c.in-Some.ensures in
    let number : to_z w64 (of_z w64 c.args.k) ≡ c.args.k = to_z-of_z w64 c.args.k c.ranges.k in
    no_number c.args.self.now c.args.id c.in-Some.vf.now c.args.k has (subst (λ (z : ℤ). Has c.in-Some.vf.now.locals z → ⊥) number c.in-None.ensures)

pub returns-in_err-local_key-in-Some-local-clause-bad : goal.returns-in_err-local_key-in-Some-local-clause-bad
returns-in_err-local_key-in-Some-local-clause-bad c =
    let set = c.args.self.now in
    let local = local_view c.in-Some-local.local.now in
    let fit = fit_in (state_of c.font.result.now) c.in-Some.vf.now c.font.ensures.sound c.in-Some.ensures in
    let has = ap (λ (s : State). vf_in s) (sym c.font.ensures.value) ∙ c.in-Some.ensures in
    let number : to_z w64 (of_z w64 c.args.k) ≡ c.args.k = to_z-of_z w64 c.args.k c.ranges.k in
    let parts = c.in_err-local_key-in-Some-local.field-0.0 in
    let bad = c.in_err-local_key-in-Some-local.ensures.bad in
    let sized = subst (λ (n : ℕ). IsBadSize c.self.inside.units n local parts) c.size.ensures.value bad in
    let here = subst (λ (s : FontSet). IsBadSize s.units (size_at set c.args.id) local parts) c.self.view_is sized in
    let none =
    key_number set c.args.id c.in-Some.vf.now local c.args.k has fit c.in-Some-local.ensures.0 (c.in-Some-local.ensures.1 ∙ number) ∙ here.none in
    let among = subst (λ (ls : List LocalFont). Contains ls local) (sym (fonts_are set c.args.id c.in-Some.vf.now has)) c.in-Some-local.ensures.0 in
    let p = err_from_is_err_and c.from_residual.result c.from_residual.ensures.1 in
    rw (p.1, p.2) (local, c.in-Some-local.ensures.1 ∙ number, none, record { among = among; bad = here })

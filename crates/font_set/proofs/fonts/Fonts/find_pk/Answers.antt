use Rattle.std.proofs.Common.{◌+◌, ◌-◌, ℕ, ap, subst, ◌∙◌}
use Rattle.std.proofs.lemmas.Result.{err_from_is_err_and}
use Rattle.font_set.specs.Files.{CandidateGives}
use Rattle.font_set.specs.Views.{key_of}
use Rattle.font_set.proofs.Shelves.{first_candidate, first_tried, candidate_not_read, second_not_read, third_not_read, second_found, third_found}
use Rattle.font_set.proofs.fonts.Fonts.find_pk.Goals as goal

pub returns-in_err-found-clause-fault : goal.returns-in_err-found-clause-fault
returns-in_err-found-clause-fault g c =
    let key = key_of c.args.key.now in
    let r = c.resolution-resolution.result in
    let p = err_from_is_err_and c.from_residual.result c.from_residual.ensures.1 in
    rw (p.1, p.2)
    (candidate_not_read c.args.self.now key r (g.S.Shelf.told c.args.shelf.now) (g.S.Shelf.told c.candidate.new.shelf) c.in_err-found.field-0.0 c.requires.wanted c.requires.real
    (first_candidate c.args.self.now key r c.resolution-resolution.ensures.value) (first_tried c.args.self.now key r (g.S.Shelf.told c.args.shelf.now) c.resolution-resolution.ensures.value) c.in_err-found.ensures.fault)

pub returns-in_err-found-2-clause-fault : goal.returns-in_err-found-2-clause-fault
returns-in_err-found-2-clause-fault g c =
    let key = key_of c.args.key.now in
    let r = c.resolution-resolution.result in
    let s = c.saturating_sub-below.result in
    let e = c.in_err-found-2.field-0.0 in
    let a = g.S.Shelf.told c.args.shelf.now in
    let b = g.S.Shelf.told c.candidate.new.shelf in
    let d = g.S.Shelf.told c.candidate-2.new.shelf in
    let below = c.saturating_sub-below.ensures ∙ ap (λ (n : ℕ). n - 1) c.resolution-resolution.ensures.value in
    let p = err_from_is_err_and c.from_residual-in_err-found-2.result c.from_residual-in_err-found-2.ensures.1 in
    rw (p.1, p.2)
    (second_not_read c.args.self.now key a b r c.resolution-resolution.ensures.value c.candidate.ensures.keeps
    (subst (CandidateGives key r a b) c.in_default.is c.in_ok-found.ensures.read) d s e c.requires.wanted c.requires.real below c.in_err-found-2.ensures.fault)

pub returns-in-Some-2-clause-found : goal.returns-in-Some-2-clause-found
returns-in-Some-2-clause-found g c =
    let key = key_of c.args.key.now in
    let r = c.resolution-resolution.result in
    let s = c.saturating_sub-below.result in
    let a = g.S.Shelf.told c.args.shelf.now in
    let b = g.S.Shelf.told c.candidate.new.shelf in
    let d = g.S.Shelf.told c.candidate-2.new.shelf in
    let below = c.saturating_sub-below.ensures ∙ ap (λ (n : ℕ). n - 1) c.resolution-resolution.ensures.value in
    second_found c.args.self.now key a b r c.resolution-resolution.ensures.value c.candidate.ensures.keeps
    (subst (CandidateGives key r a b) c.in_default.is c.in_ok-found.ensures.read) d s c.in-Some-2.found below
    (subst (CandidateGives key s b d) c.in-Some-2.is c.in_ok-found-2.ensures.read)

pub returns-in_err-found-3-clause-fault : goal.returns-in_err-found-3-clause-fault
returns-in_err-found-3-clause-fault g c =
    let key = key_of c.args.key.now in
    let r = c.resolution-resolution.result in
    let s = c.saturating_sub-below.result in
    let t = c.resolution-resolution.result + 1 in
    let e = c.in_err-found-3.field-0.0 in
    let a = g.S.Shelf.told c.args.shelf.now in
    let b = g.S.Shelf.told c.candidate.new.shelf in
    let d = g.S.Shelf.told c.candidate-2.new.shelf in
    let f = g.S.Shelf.told c.candidate-3.new.shelf in
    let below = c.saturating_sub-below.ensures ∙ ap (λ (n : ℕ). n - 1) c.resolution-resolution.ensures.value in
    let above = ap (λ (n : ℕ). n + 1) c.resolution-resolution.ensures.value in
    let p = err_from_is_err_and c.from_residual-in_err-found-3.result c.from_residual-in_err-found-3.ensures.1 in
    rw (p.1, p.2)
    (third_not_read c.args.self.now key a b r c.resolution-resolution.ensures.value c.candidate.ensures.keeps
    (subst (CandidateGives key r a b) c.in_default.is c.in_ok-found.ensures.read) d f s t e c.requires.wanted c.requires.real below above c.candidate-2.ensures.keeps
    (subst (CandidateGives key s b d) c.in_default-2.is c.in_ok-found-2.ensures.read) c.in_err-found-3.ensures.fault)

pub returns-in-Some-3-clause-found : goal.returns-in-Some-3-clause-found
returns-in-Some-3-clause-found g c =
    let key = key_of c.args.key.now in
    let r = c.resolution-resolution.result in
    let s = c.saturating_sub-below.result in
    let t = c.resolution-resolution.result + 1 in
    let a = g.S.Shelf.told c.args.shelf.now in
    let b = g.S.Shelf.told c.candidate.new.shelf in
    let d = g.S.Shelf.told c.candidate-2.new.shelf in
    let f = g.S.Shelf.told c.candidate-3.new.shelf in
    let below = c.saturating_sub-below.ensures ∙ ap (λ (n : ℕ). n - 1) c.resolution-resolution.ensures.value in
    let above = ap (λ (n : ℕ). n + 1) c.resolution-resolution.ensures.value in
    third_found c.args.self.now key a b r c.resolution-resolution.ensures.value c.candidate.ensures.keeps
    (subst (CandidateGives key r a b) c.in_default.is c.in_ok-found.ensures.read) d f s t c.in-Some-3.found below above c.candidate-2.ensures.keeps
    (subst (CandidateGives key s b d) c.in_default-2.is c.in_ok-found-2.ensures.read)
    (subst (CandidateGives key t d f) c.in-Some-3.is c.in_ok-found-3.ensures.read)

use Rattle.std.proofs.Common.{◌≡◌, ◌∙◌, ℤ, to_z, of_z, refl, sym, subst, w64}
use Rattle.std.proofs.lemmas.Int.{to_z-of_z}
use Rattle.std.specs.List.{Contains}
use Rattle.dvi_doc.specs.Grammar.{Defines, IsNamed, IsSized}
use Rattle.dvi_ops.specs.Command.{Definition}
use Rattle.dvi_ops.specs.View.{def_view}
use Rattle.dvitype_list.proofs.Selecting.{key_none, key_one}
use Rattle.dvitype_list.proofs.Widening.{any_self, knew, not_knew}
use Rattle.dvitype_list.proofs.fonts.select.Goals as goal

pub returns-in-Some-clause-ok : goal.returns-in-Some-clause-ok
returns-in-Some-clause-ok c =
    let ds = c.args.doc.now.fonts in
    let def = def_view c.definition.result in
    let found = subst (λ (d : Definition). Contains ds d × (d.k ≡ to_z w64 (of_z w64 c.args.k))) (sym c.definition.ensures) c.in-Some.ensures.found in
    knew c.args.fonts.now c.learn.new.fonts ds c.args.k def c.learn.result
    (key_one ds def c.args.k found.0 (found.1 ∙ to_z-of_z w64 c.args.k c.ranges.k) (c.requires.given c.args.k)) c.learn.ensures.ok

pub returns-in-Some-clause-fault : goal.returns-in-Some-clause-fault
returns-in-Some-clause-fault c =
    let ds = c.args.doc.now.fonts in
    let def = def_view c.definition.result in
    let found = subst (λ (d : Definition). Contains ds d × (d.k ≡ to_z w64 (of_z w64 c.args.k))) (sym c.definition.ensures) c.in-Some.ensures.found in
    not_knew c.args.fonts.now ds c.args.k c.args.at def c.learn.result
    (key_one ds def c.args.k found.0 (found.1 ∙ to_z-of_z w64 c.args.k c.ranges.k) (c.requires.given c.args.k)) c.learn.ensures.fault

pub returns-in-None-clause-fault : goal.returns-in-None-clause-fault
returns-in-None-clause-fault c =
    let ds = c.args.doc.now.fonts in
    (refl, key_none ds c.args.k (λ h. c.in-None.ensures.found (subst (λ (z : ℤ). Defines ds z) (sym (to_z-of_z w64 c.args.k c.ranges.k)) h)))

pub returns-in-None-clause-gains : goal.returns-in-None-clause-gains
returns-in-None-clause-gains c = λ held. any_self held c.args.fonts.now

pub learn-requires-clause-named : goal.learn-requires-clause-named
learn-requires-clause-named c = subst IsNamed (sym c.definition.ensures) c.in-Some.ensures.named

pub learn-requires-clause-sized : goal.learn-requires-clause-sized
learn-requires-clause-sized c = subst IsSized (sym c.definition.ensures) c.in-Some.ensures.sized

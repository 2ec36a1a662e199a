use Rattle.std.proofs.Common.{ℕ, ℤ, subst, rules, List, Option, FitsSigned, w64}
use Rattle.std.proofs.lemmas.Int.{to_z-of_z}
use Rattle.std.specs.List.Sorted.{IsPermutation}
use Rattle.dvi_ops.specs.Numbered.{numbered}
use Rattle.dvi_ops.proofs.Numbering.{twice_of, once_of}
use Rattle.dvi_doc.specs.Grammar.{numbers_of}
use Rattle.dvi_doc.specs.PartFaults.{AreJudged}
use Rattle.dvi_doc.specs.declared.fault.DocFault.{DocFault}
use Rattle.dvi_doc.specs.Standing.{definitions_at}
use Rattle.dvi_doc.proofs.fonts.Fonts.new.Goals as goal

pub returns-in-Some-twice-clause-fault : goal.returns-in-Some-twice-clause-fault
returns-in-Some-twice-clause-fault c =
    let fits : FitsSigned w64 c.in-Some-twice.k = search rules in
    let f = c.found.inside in
    let ns = numbers_of (definitions_at f.bytes.now f.fonts.items) in
    let same : IsPermutation (numbered 0 ns) c.new-index.result = subst (λ (ps : List (ℤ × ℕ)). IsPermutation ps c.new-index.result) c.found.invariant.1 c.new-index.ensures in
    rw (to_z-of_z w64 c.in-Some-twice.k fits, ← c.found.view_is) (twice_of ns c.new-index.result c.in-Some-twice.k same c.in-Some-twice.ensures)

pub invariant_of-result : goal.invariant_of-result
invariant_of-result c =
    let f = c.found.inside in
    (c.found.invariant.0, subst (λ (ps : List (ℤ × ℕ)). IsPermutation ps c.new-index.result) c.found.invariant.1 c.new-index.ensures)

pub returns-clause-found : goal.returns-clause-found
returns-clause-found c =
    let f = c.found.inside in
    let ds = definitions_at f.bytes.now f.fonts.items in
    let ns = numbers_of ds in
    let same : IsPermutation (numbered 0 ns) c.new-index.result = subst (λ (ps : List (ℤ × ℕ)). IsPermutation ps c.new-index.result) c.found.invariant.1 c.new-index.ensures in
    let once = once_of ns c.new-index.result same c.in_default-twice.ensures in
    let good = subst (λ (o : Option DocFault). AreJudged ds o) c.in_default.is c.found.invariant.2 in
    (c.found.view_is, (once, good.0, good.1))

pub returns-clause-stands : goal.returns-clause-stands
returns-clause-stands c = c.found.invariant.0

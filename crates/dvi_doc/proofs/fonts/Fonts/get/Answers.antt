use Rattle.std.proofs.Common.{FitsSigned, w64, rules}
use Rattle.std.proofs.lemmas.Int.{to_z-of_z}
use Rattle.dvi_ops.proofs.Numbering.{none_of}
use Rattle.dvi_doc.specs.Grammar.{numbers_of}
use Rattle.dvi_doc.specs.Standing.{definitions_at}
use Rattle.dvi_doc.proofs.Standing.{which_of, font_found}
use Rattle.dvi_doc.proofs.fonts.Fonts.get.Goals as goal

pub returns-in_err-which-clause-found : goal.returns-in_err-which-clause-found
returns-in_err-which-clause-found c =
    let fits : FitsSigned w64 c.args.k = search rules in
    let none = rw (to_z-of_z w64 c.args.k fits) at c.in_err-which.ensures in
    let f = c.self.inside in
    rw (← c.self.view_is, c.from_residual.ensures) (none_of (numbers_of (definitions_at f.bytes.now f.fonts.items)) f.index c.args.k c.self.invariant.1 none)

pub returns-clause-found : goal.returns-clause-found
returns-clause-found c =
    let fits : FitsSigned w64 c.args.k = search rules in
    let found = rw (to_z-of_z w64 c.args.k fits) at c.in_ok-which.ensures in
    let f = c.self.inside in
    rw (← c.self.view_is) (font_found f.bytes.now f.fonts.items f.index c.args.k c.in_ok-which.which c.index.result.now c.self.invariant.1 found c.index.ensures)

pub index-requires : goal.index-requires
index-requires c =
    let fits : FitsSigned w64 c.args.k = search rules in
    let found = rw (to_z-of_z w64 c.args.k fits) at c.in_ok-which.ensures in
    let f = c.self.inside in
    let inside = (which_of f.bytes.now f.fonts.items f.index c.args.k c.in_ok-which.which c.self.invariant.1 found).0 in
    search rules

pub returns-in_err-which-clause-stands : goal.returns-in_err-which-clause-stands
returns-in_err-which-clause-stands c = rw (← c.self.view_is) c.self.invariant.0

pub returns-clause-stands : goal.returns-clause-stands
returns-clause-stands c = rw (← c.self.view_is) c.self.invariant.0

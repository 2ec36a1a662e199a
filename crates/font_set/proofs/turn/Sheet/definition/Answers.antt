use Rattle.std.proofs.Common.{◌∙◌, ℤ, Some, sym, ap, subst, w64}
use Rattle.std.proofs.lemmas.Int.{to_z-of_z}
use Rattle.dvi_ops.specs.Command.{Definition}
use Rattle.dvi_doc.specs.Grammar.{Defines}
use Rattle.dvi_doc.specs.View.{says}
use Rattle.font_set.specs.Found.{PageBytes}
use Rattle.font_set.specs.Programs.{key_by, key_in, HasNumber}
use Rattle.font_set.proofs.Defining.{page_definition, page_no_key}
use Rattle.font_set.proofs.turn.Sheet.definition.Goals as goal

pub returns-in_err-font-clause-found : goal.returns-in_err-font-clause-found
returns-in_err-font-clause-found c =
    let ds = c.self.inside.doc.now.fonts in
    let s = c.args.self.now in
    let none : HasNumber s.page.scope.fonts c.args.k → ⊥ =
    subst (λ (p : PageBytes). HasNumber p.page.scope.fonts c.args.k → ⊥) c.self.view_is
    (page_no_key ds c.self.inside.first c.self.inside.bytes.now c.args.k (subst (λ (k : ℤ). Defines ds k → ⊥) (to_z-of_z w64 c.args.k c.ranges.k) c.in_err-font.ensures.found)) in
    rw c.from_residual.ensures none

pub returns-clause-found : goal.returns-clause-found
returns-clause-found c =
    let sheet = c.self.inside in
    let k = c.args.k in
    let font = says sheet.doc.now c.in_ok-font.font.now in
    let found = c.in_ok-font.ensures.found in
    ap (λ (s : PageBytes). key_in s.page.scope.fonts k) (sym c.self.view_is)
    ∙ page_definition sheet.doc.now.fonts sheet.first sheet.bytes.now font k c.self.invariant found.0 (found.1 ∙ to_z-of_z w64 k c.ranges.k)
    ∙ ap (λ (d : Definition). Some (key_by d)) (sym c.definition.ensures)

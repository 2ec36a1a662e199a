use Rattle.std.proofs.Common.{◌≡◌, ℕ, subst, sym, ap, ◌∙◌, List}
use Rattle.std.specs.List.{All}
use Rattle.dvi_ops.specs.Command.{Definition}
use Rattle.dvi_doc.specs.Grammar.{IsNamed, IsSized}
use Rattle.dvi_doc.specs.Standing.{Stands, fonts_in}
use Rattle.dvi_doc.specs.View.{ReadDoc}
use Rattle.dvi_doc.specs.declared.font_def.FontDef.{FontDef}
use Rattle.dvi_doc.proofs.doc.Doc.fonts.Goals as goal

pub returns-clause-stands : goal.returns-clause-stands
returns-clause-stands c =
    let bytes : c.self.inside.fonts.bytes ≡ c.args.self.now.bytes = c.self.invariant.4 ∙ ap (λ (d : ReadDoc). d.bytes) c.self.view_is in
    subst (λ (bs : List ℕ). All (Stands bs) c.all.result.now) bytes (subst (λ (fs : List FontDef). All (Stands c.self.inside.fonts.bytes) fs) (sym c.all.ensures.places) c.all.ensures.stands)

pub returns-clause-named : goal.returns-clause-named
returns-clause-named c =
    let all : All IsNamed (fonts_in c.self.inside.fonts) = subst (λ (l : List Definition). All IsNamed l) (sym c.self.invariant.2.3) c.self.invariant.1.3.0.1 in
    rw (← c.self.view_is) all

pub returns-clause-sized : goal.returns-clause-sized
returns-clause-sized c =
    let all : All IsSized (fonts_in c.self.inside.fonts) = subst (λ (l : List Definition). All IsSized l) (sym c.self.invariant.2.3) c.self.invariant.1.3.0.2 in
    rw (← c.self.view_is) all

use Rattle.std.proofs.Common.{◌≡◌, ℕ, subst, sym, List, to_z, of_z, w64}
use Rattle.std.specs.List.{All}
use Rattle.dvi_ops.specs.Command.{Definition}
use Rattle.dvi_doc.specs.Grammar.{Defines, IsNamed, IsSized}
use Rattle.dvi_doc.specs.Standing.{Stands, definition_at, fonts_in}
use Rattle.dvi_doc.proofs.Standing.{found_among, one_stands, one_is}
use Rattle.dvi_doc.proofs.doc.Doc.font.Goals as goal

pub returns-clause-stands : goal.returns-clause-stands
returns-clause-stands c =
    let fonts = c.self.inside.fonts in
    let k = to_z w64 (of_z w64 c.args.k) in
    rw (← c.self.view_is) (found_among (Stands c.self.inside.bytes.now) (λ f. (definition_at fonts.bytes f.at).k ≡ k) (Defines (fonts_in fonts) k → ⊥) fonts.places c.get.result c.get.ensures.found
    (λ f h. subst (λ (bs : List ℕ). Stands bs f) c.self.invariant.4 (one_stands fonts.bytes fonts.places f c.get.ensures.stands h)))

pub returns-clause-named : goal.returns-clause-named
returns-clause-named c =
    let fonts = c.self.inside.fonts in
    let all : All IsNamed (fonts_in fonts) = subst (λ (l : List Definition). All IsNamed l) (sym c.self.invariant.2.3) c.self.invariant.1.3.0.1 in
    let k = to_z w64 (of_z w64 c.args.k) in
    rw (← c.self.view_is) (found_among (λ f. IsNamed (definition_at c.self.inside.bytes.now f.at)) (λ f. (definition_at fonts.bytes f.at).k ≡ k) (Defines (fonts_in fonts) k → ⊥) fonts.places c.get.result c.get.ensures.found
    (λ f h. subst (λ (bs : List ℕ). IsNamed (definition_at bs f.at)) c.self.invariant.4 (one_is IsNamed fonts.bytes fonts.places f all h)))

pub returns-clause-sized : goal.returns-clause-sized
returns-clause-sized c =
    let fonts = c.self.inside.fonts in
    let all : All IsSized (fonts_in fonts) = subst (λ (l : List Definition). All IsSized l) (sym c.self.invariant.2.3) c.self.invariant.1.3.0.2 in
    let k = to_z w64 (of_z w64 c.args.k) in
    rw (← c.self.view_is) (found_among (λ f. IsSized (definition_at c.self.inside.bytes.now f.at)) (λ f. (definition_at fonts.bytes f.at).k ≡ k) (Defines (fonts_in fonts) k → ⊥) fonts.places c.get.result c.get.ensures.found
    (λ f h. subst (λ (bs : List ℕ). IsSized (definition_at bs f.at)) c.self.invariant.4 (one_is IsSized fonts.bytes fonts.places f all h)))

use Rattle.std.proofs.Common.{◌≡◌, ◌∙◌, ap, sym, to_z, of_z, subst, IsTrue, ◌↔◌, rules, FitsSigned, w32, w64}
use Rattle.std.proofs.lemmas.Int.{to_z-of_z}
use Rattle.dvi_ops.specs.Command.{Definition}
use Rattle.dvi_ops.specs.View.{def_view}
use Rattle.dvi_doc.specs.Standing.{FontsIn, Stands, definition_at, fonts_in}
use Rattle.dvi_doc.proofs.Defined.{has_by, contains_defines}
use Rattle.dvi_doc.proofs.Standing.{contained_at, one_stands}
use Rattle.dvi_doc.proofs.fonts.Fonts.has.Goals as goal

pub returns-in-Some : goal.returns-in-Some
returns-in-Some c =
    let d = def_view c.args.def.now in
    let fits : FitsSigned w32 c.args.def.now.k = search rules in
    let wide : FitsSigned w64 c.from.result = search rules in
    let same : to_z w64 (of_z w64 c.from.result) ≡ d.k = to_z-of_z w64 c.from.result wide ∙ c.from.ensures ∙ to_z-of_z w32 c.args.def.now.k fits in
    let f = c.in-Some.ensures.found in
    let s = c.args.self.now in
    let font = c.in-Some.font.now in
    let x = definition_at s.bytes font.at in
    let read : def_view c.read.result ≡ x = c.read.ensures ∙ ap (λ (f : FontsIn). definition_at f.bytes font.at) c.self.view_is in
    let equal : IsTrue c.is_same.result ↔ (x ≡ d) = subst (λ (y : Definition). IsTrue c.is_same.result ↔ (y ≡ d)) read c.is_same.ensures in
    has_by c.is_same.result (fonts_in s) x d equal (contained_at s.bytes s.places font f.0) c.requires (f.1 ∙ same)

pub returns-in-None : goal.returns-in-None
returns-in-None c =
    let fits : FitsSigned w32 c.args.def.now.k = search rules in
    let wide : FitsSigned w64 c.from.result = search rules in
    let same : to_z w64 (of_z w64 c.from.result) ≡ c.args.def.now.k = to_z-of_z w64 c.from.result wide ∙ c.from.ensures ∙ to_z-of_z w32 c.args.def.now.k fits in
    let undefined = rw same at c.in-None.ensures.found in
    λ h. undefined (contains_defines (fonts_in c.args.self.now) (def_view c.args.def.now) h)

pub read-requires : goal.read-requires
read-requires c =
    let s = c.args.self.now in
    let font = c.in-Some.font.now in
    let f = c.in-Some.ensures in
    subst (λ (p : FontsIn). Stands p.bytes font) (sym c.self.view_is) (one_stands s.bytes s.places font f.stands f.found.0)

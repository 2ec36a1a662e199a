use Rattle.std.proofs.Common.{◌≡◌, ◌++◌, ◌+◌, ◌∷◌, [], sym, ap, ◌∙◌, subst, rules, FitsSigned, w32, List, take, slice_index_or, to_z, of_z, w64}
use Rattle.std.proofs.lemmas.Int.{to_z-of_z}
use Rattle.std.proofs.lemmas.List.{take_all, map_more, get_or_default}
use Rattle.std.proofs.lemmas.List.Elements.{All-append, All-cons, All-nil}
use Rattle.std.specs.List.{All, Contains}
use Rattle.dvi_ops.specs.Command.{Definition}
use Rattle.dvi_ops.specs.View.{def_view}
use Rattle.dvi_doc.specs.Grammar.{AllAmong}
use Rattle.dvi_doc.specs.Standing.{FontsIn, Stands, definition_at, definitions_at, fonts_in}
use Rattle.dvi_doc.specs.declared.font_def.FontDef.{FontDef}
use Rattle.dvi_doc.proofs.Standing.{contained_at, one_stands}
use Rattle.dvi_doc.proofs.fonts.Fonts.check.Goals as goal

pub read-def-requires : goal.read-def-requires
read-def-requires c =
    let none : FontDef = record { at = 0 } in
    let font = slice_index_or c.args.earlier.now c.loop-font.font-index none in
    subst (λ (p : FontsIn). Stands p.bytes font) (sym c.self.view_is) (one_stands c.args.self.now.bytes c.args.earlier.now font c.requires.stands (c.loop-font.font-index, c.loop-font-test.true, get_or_default c.args.earlier.now c.loop-font.font-index font none c.loop-font-test.true))

pub returns-then-not-has-clause-fault : goal.returns-then-not-has-clause-fault
returns-then-not-has-clause-fault c =
    let bytes = c.args.self.now.bytes in
    let none : FontDef = record { at = 0 } in
    let font = slice_index_or c.args.earlier.now c.loop-font.font-index none in
    let d = def_view c.read-def.result in
    let fits : FitsSigned w32 c.read-def.result.k = search rules in
    let wide : FitsSigned w64 c.from.result = search rules in
    let same : to_z w64 (of_z w64 c.from.result) ≡ d.k = to_z-of_z w64 c.from.result wide ∙ c.from.ensures ∙ to_z-of_z w32 c.read-def.result.k fits in
    let read : d ≡ definition_at bytes font.at = c.read-def.ensures ∙ ap (λ (f : FontsIn). definition_at f.bytes font.at) c.self.view_is in
    let among = contained_at bytes c.args.earlier.now font (c.loop-font.font-index, c.loop-font-test.true, get_or_default c.args.earlier.now c.loop-font.font-index font none c.loop-font-test.true) in
    (d, subst (λ (x : Definition). Contains (definitions_at bytes c.args.earlier.now) x) (sym read) among, sym same, c.if-not-has.ensures)

pub loop-font-preserved : goal.loop-font-preserved
loop-font-preserved c =
    let bytes = c.args.self.now.bytes in
    let fonts = fonts_in c.args.self.now in
    let earlier = c.args.earlier.now in
    let i = c.loop-font.font-index in
    let none : FontDef = record { at = 0 } in
    let font = slice_index_or c.args.earlier.now c.loop-font.font-index none in
    let P : Definition → Type 0 = λ d. Contains fonts d in
    let read : def_view c.read-def.result ≡ definition_at bytes font.at = c.read-def.ensures ∙ ap (λ (f : FontsIn). definition_at f.bytes font.at) c.self.view_is in
    let one : P (definition_at bytes font.at) = subst P read c.if-not-has.ensures in
    let more : definitions_at bytes (take (i + 1) earlier) ≡ definitions_at bytes (take i earlier) ++ definition_at bytes font.at ∷ [] =
    map_more (λ (f : FontDef). definition_at bytes f.at) earlier i font c.loop-font-test.true ∙ ap (λ (f : FontDef). definitions_at bytes (take i earlier) ++ definition_at bytes f.at ∷ []) (get_or_default c.args.earlier.now c.loop-font.font-index font none c.loop-font-test.true) in
    subst (λ (l : List Definition). All P l) (sym more) (All-append P (definitions_at bytes (take i earlier)) (definition_at bytes font.at ∷ []) c.loop-font.invariant (All-cons P (definition_at bytes font.at) [] one (All-nil P)))

pub returns-clause-same : goal.returns-clause-same
returns-clause-same c =
    subst (λ (l : List FontDef). AllAmong (fonts_in c.args.self.now) (definitions_at c.args.self.now.bytes l)) (take_all c.loop-font.font-index c.args.earlier.now c.loop-font-test.false) c.loop-font.invariant

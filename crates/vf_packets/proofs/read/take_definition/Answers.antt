use Rattle.std.proofs.Common.{◌≡◌, ◌∙◌, ◌++◌, ◌∷◌, [], ap, List, rules, FitsSigned, w32, w64}
use Rattle.std.specs.Prelude.{map}
use Rattle.std.proofs.lemmas.Int.{to_z-of_z}
use Rattle.dvi_ops.specs.View.{def_view}
use Rattle.vf_packets.specs.File.{local_of}
use Rattle.vf_packets.specs.LocalViews.{local_view}
use Rattle.vf_packets.specs.declared.local.Local.{Local}
use Rattle.vf_packets.proofs.Locating.{local_more, not_named, short_definition}
use Rattle.vf_packets.proofs.Numbered.{locals_more}
use Rattle.vf_packets.proofs.read.take_definition.Goals as goal

pub returns-in_default-clause-err : goal.returns-in_default-clause-err
returns-in_default-clause-err c =
    let n = c.in_default.ensures in
    short_definition c.one_spelling.ensures c.args.bytes.now (map local_view c.args.fonts.now.items) c.args.at c.requires.reached c.requires.byte n.0 n.1

pub returns-in_default-local_font-clause-err : goal.returns-in_default-local_font-clause-err
returns-in_default-local_font-clause-err c =
    let d = def_view c.in-Some.def in
    let f = c.in-Some.ensures in
    let fits : FitsSigned w32 c.in-Some.def.k = search rules in
    let wide : FitsSigned w64 c.from.result = search rules in
    rw (to_z-of_z w64 c.from.result wide ∙ c.from.ensures ∙ to_z-of_z w32 c.in-Some.def.k fits)
    (not_named c.one_spelling.ensures c.args.bytes.now (map local_view c.args.fonts.now.items) c.args.at c.in-Some.next d c.requires.reached f.0 f.1 c.requires.byte f.2 c.in_default-local_font.ensures)

pub returns-clause-ok : goal.returns-clause-ok
returns-clause-ok c =
    let old = c.args.fonts.now.items in
    let d = def_view c.in-Some.def in
    let f = c.in-Some.ensures in
    let font = c.in-Some-local_font.font in
    let items : c.push_reserved.new.self.items ≡ old ++ font ∷ [] = c.push_reserved.ensures.items ∙ ap (λ (fs : List Local). fs ++ font ∷ []) c.reserve.ensures.items in
    let is = locals_more c.push_reserved.new.self.items old font (local_of d) items c.in-Some-local_font.ensures.1 in
    local_more c.args.bytes.now (map local_view old) (map local_view c.push_reserved.new.self.items) c.args.at c.in-Some.next d c.requires.reached f.0 f.1 c.requires.byte f.2 is c.in-Some-local_font.ensures.0

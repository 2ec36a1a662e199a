use Rattle.std.proofs.Common.{◌<◌, ◌∙◌, arith, length, map, ap, rules, refl}
use Rattle.std.proofs.lemmas.List.{length-map}
use Rattle.dvi_doc.specs.View.{page_view, outline}
use Rattle.dvi_doc.proofs.Judged.{page_there, body_bytes}
use Rattle.dvi_doc.proofs.OneFile.{one_document}
use Rattle.dvi_doc.proofs.doc.Doc.body.Goals as goal

pub slice_bounds-result-count : goal.slice_bounds-result-count
slice_bounds-result-count c =
    let d = c.self.inside in
    let few : c.args.page < length d.pages.items = omega (arith, c.requires, length-map d.pages.items page_view, ap (λ w. length w.pages) c.self.view_is) in
    (page_there c.one_spelling.ensures d.bytes.now c.self.invariant.0 d.pages.items c.args.page c.index-found.result.now c.self.invariant.1 c.self.invariant.2.1 few c.index-found.ensures).0

pub slice_bounds-result-start : goal.slice_bounds-result-start
slice_bounds-result-start c =
    let d = c.self.inside in
    let few : c.args.page < length d.pages.items = omega (arith, c.requires, length-map d.pages.items page_view, ap (λ w. length w.pages) c.self.view_is) in
    let p = page_there c.one_spelling.ensures d.bytes.now c.self.invariant.0 d.pages.items c.args.page c.index-found.result.now c.self.invariant.1 c.self.invariant.2.1 few c.index-found.ensures in
    let a = p.0 in let b = p.1 in search rules

pub slice_bounds-result-end : goal.slice_bounds-result-end
slice_bounds-result-end c =
    let d = c.self.inside in
    let few : c.args.page < length d.pages.items = omega (arith, c.requires, length-map d.pages.items page_view, ap (λ w. length w.pages) c.self.view_is) in
    let p = page_there c.one_spelling.ensures d.bytes.now c.self.invariant.0 d.pages.items c.args.page c.index-found.result.now c.self.invariant.1 c.self.invariant.2.1 few c.index-found.ensures in
    let a = p.0 in let b = p.1 in search rules

pub returns-clause-bytes : goal.returns-clause-bytes
returns-clause-bytes c =
    let d = c.self.inside in
    let few : c.args.page < length d.pages.items = omega (arith, c.requires, length-map d.pages.items page_view, ap (λ w. length w.pages) c.self.view_is) in
    let there = page_there c.one_spelling.ensures d.bytes.now c.self.invariant.0 d.pages.items c.args.page c.index-found.result.now c.self.invariant.1 c.self.invariant.2.1 few c.index-found.ensures in
    rw (← c.self.view_is) (page_view c.index-found.result.now, body_bytes d.pages.items c.args.page c.index-found.result.now few c.index-found.ensures, there.0, there.1, refl)

pub returns-clause-commands : goal.returns-clause-commands
returns-clause-commands c =
    let d = c.self.inside in
    let few : c.args.page < length d.pages.items = omega (arith, c.requires, length-map d.pages.items page_view, ap (λ w. length w.pages) c.self.view_is) in
    rw (← c.self.view_is) (λ doc is.
    let same = one_document c.one_spelling.ensures d.bytes.now c.self.invariant.0 doc c.self.invariant.1 is in
    (page_there c.one_spelling.ensures d.bytes.now doc d.pages.items c.args.page c.index-found.result.now is (c.self.invariant.2.1 ∙ ap (λ x. map outline x.pages) same) few c.index-found.ensures).2)

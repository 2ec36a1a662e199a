use Rattle.std.proofs.Common.{◌+◌, ℕ, List, ℤ, arith, subst, sym, ap, ◌∙◌, length}
use Rattle.std.specs.List.{All}
use Rattle.dvi_ops.specs.Shortest.{IsWord}
use Rattle.font_set.specs.Fonts.{FontSet}
use Rattle.vf_expand.specs.Causes.{IsMany}
use Rattle.dvicopy_out.specs.Measured.{IsTakeable, Took}
use Rattle.dvicopy_out.proofs.Making.{marks_of_set_at, put_marks_at}
use Rattle.dvicopy_out.proofs.Walked.{cause_here, count_here, counts_here, measured_fonts, measured_page, outcome_here, page_here, page_ready, shallow_here, takeable}
use Rattle.dvicopy_out.proofs.copying.measure_page.Goals as goal

pub page-requires-clause-can : goal.page-requires-clause-can
page-requires-clause-can c = λ p is m may among.
    subst (λ (s : FontSet). IsTakeable s m) (sym (c.begin_page.ensures.fonts ∙ c.requires.fonts)) (takeable _ _ _ m may)

pub returns-in-Err-clause-cause : goal.returns-in-Err-clause-cause
returns-in-Err-clause-cause c =
    let r = c.args.doc.now in
    let here = page_here r c.args.page c.requires.read c.requires.covered.there in
    cause_here c.one_document.ensures c.pages_by_place.ensures c.args.walker.now.grid c.args.fonts.now r c.args.page here.0 c.in-Err.fault c.requires.read here.1 (c.in-Err.ensures.cause here.0 here.1)

pub returns-in-Err-clause-many : goal.returns-in-Err-clause-many
returns-in-Err-clause-many c =
    let r = c.args.doc.now in
    let here = page_here r c.args.page c.requires.read c.requires.covered.there in
    subst (λ (n : ℕ). IsMany (c.args.walker.now.steps + n) c.in-Err.fault) (sym (count_here c.pages_by_place.ensures c.args.fonts.now r c.args.page here.0 c.requires.read here.1)) (c.in-Err.ensures.many here.0 here.1)

pub returns-in-Ok-clause-bytes : goal.returns-in-Ok-clause-bytes
returns-in-Ok-clause-bytes c =
    let r = c.args.doc.now in
    let here = page_here r c.args.page c.requires.read c.requires.covered.there in
    let same = outcome_here c.pages_by_place.ensures c.args.walker.now.grid c.args.fonts.now r c.args.page here.0 c.requires.read here.1 in
    c.bytes.ensures
    ∙ measured_page c.args.walker.now.grid c.args.fonts.now r c.args.page here.0 c.begin_page.new.self c.page.new.canvas same (c.begin_page.ensures.fonts ∙ c.requires.fonts) c.begin_page.ensures.pen c.begin_page.ensures.bytes (c.in-Ok.ensures.ok here.0 here.1)

pub returns-in-Ok-clause-ready : goal.returns-in-Ok-clause-ready
returns-in-Ok-clause-ready c =
    let r = c.args.doc.now in
    let here = page_here r c.args.page c.requires.read c.requires.covered.there in
    let same = outcome_here c.pages_by_place.ensures c.args.walker.now.grid c.args.fonts.now r c.args.page here.0 c.requires.read here.1 in
    page_ready Took c.begin_page.new.self c.page.new.canvas c.args.walker.now.grid c.args.fonts.now r c.args.page here.0 same (c.in-Ok.ensures.ok here.0 here.1) (ap (λ (xs : List ℤ). length xs) (counts_here c.pages.result.now r c.args.page _ c.pages.ensures c.requires.covered.there) ∙ c.counts.ensures.ten)
    (shallow_here c.pages_by_place.ensures c.args.walker.now.grid c.args.fonts.now r c.args.page here.0 c.requires.read here.1 (c.in-Ok.ensures.shallow here.0 here.1))

pub returns-in-Ok-clause-steps : goal.returns-in-Ok-clause-steps
returns-in-Ok-clause-steps c =
    let r = c.args.doc.now in
    let here = page_here r c.args.page c.requires.read c.requires.covered.there in
    let steps = c.in-Ok.ensures.steps here.0 here.1 in
    let same = count_here c.pages_by_place.ensures c.args.fonts.now r c.args.page here.0 c.requires.read here.1 in
    omega (arith, steps, same)

pub returns-in-Ok-clause-same : goal.returns-in-Ok-clause-same
returns-in-Ok-clause-same c =
    let here = page_here c.args.doc.now c.args.page c.requires.read c.requires.covered.there in
    measured_fonts c.args.fonts.now c.begin_page.new.self c.page.new.canvas _ (c.begin_page.ensures.fonts ∙ c.requires.fonts) (c.in-Ok.ensures.ok here.0 here.1)

pub returns-in-Ok-clause-put : goal.returns-in-Ok-clause-put
returns-in-Ok-clause-put c =
    let r = c.args.doc.now in
    let k = c.args.page in
    let set = c.args.fonts.now in
    let grid = c.args.walker.now.grid in
    let here = page_here r k c.requires.read c.requires.covered.there in
    let same = outcome_here c.pages_by_place.ensures grid set r k here.0 c.requires.read here.1 in
    let came = c.in-Ok.ensures.came here.0 here.1 in
    let told = counts_here c.pages.result.now r k _ c.pages.ensures c.requires.covered.there in
    record {
      page = record {
        ten = ap (λ (xs : List ℤ). length xs) told ∙ c.counts.ensures.ten;
        words = subst (All IsWord) (sym told) c.counts.ensures.words;
        marks = put_marks_at grid set r k _ same came;
      };
      of_set = marks_of_set_at c.painted_rules.ensures grid set r k _ same came;
    }

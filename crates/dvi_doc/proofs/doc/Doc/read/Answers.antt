use Rattle.std.proofs.Common.{◌≡◌, ◌<◌, ◌∙◌, ℕ, ap, subst, sym, refl, rules, arith, List, length}
use Rattle.std.proofs.lemmas.Result.{err_from_is_err_and}
use Rattle.std.specs.List.{All}
use Rattle.dvi_doc.specs.Grammar.{AllAmong}
use Rattle.dvi_doc.specs.Faults.{FaultIn}
use Rattle.dvi_doc.specs.PartFaults.{Differs}
use Rattle.dvi_doc.specs.Standing.{FontsIn, Stands, fonts_in}
use Rattle.dvi_doc.specs.declared.font_def.FontDef.{FontDef}
use Rattle.dvi_doc.proofs.Judged.{font_fault, differs_fault, tail_fault, same_bytes, doc_found}
use Rattle.dvi_doc.proofs.Refuted.{refute}
use Rattle.dvi_ops.specs.Command.{Preamble}
use Rattle.dvi_doc.proofs.Comments.{short_comment}
use Rattle.dvi_doc.proofs.doc.Doc.read.Goals as goal

pub returns-in_err-parts-clause-none : goal.returns-in_err-parts-clause-none
returns-in_err-parts-clause-none c =
    let p = err_from_is_err_and c.from_residual.result c.from_residual.ensures.1 in
    rw (p.1, p.2) (refute c.one_spelling.ensures c.args.bytes.now c.in_err-parts.field-0.0 c.in_err-parts.ensures.fault)

pub returns-in_err-fonts-clause-none : goal.returns-in_err-fonts-clause-none
returns-in_err-fonts-clause-none c =
    let p = err_from_is_err_and c.from_residual-in_err-fonts.result c.from_residual-in_err-fonts.ensures.1 in
    let e = c.in_err-fonts.field-0.0 in
    let f : FaultIn c.args.bytes.now e = font_fault c.args.bytes.now c.in_ok-parts.parts e c.in_ok-parts.ensures.found c.in_err-fonts.ensures.fault in
    rw (p.1, p.2) (refute c.one_spelling.ensures c.args.bytes.now e f)

pub returns-in_err-fonts-clause-fault : goal.returns-in_err-fonts-clause-fault
returns-in_err-fonts-clause-fault c =
    let p = err_from_is_err_and c.from_residual-in_err-fonts.result c.from_residual-in_err-fonts.ensures.1 in
    let e = c.in_err-fonts.field-0.0 in
    rw (p.1, p.2) (font_fault c.args.bytes.now c.in_ok-parts.parts e c.in_ok-parts.ensures.found c.in_err-fonts.ensures.fault)

-- the fonts, and the definitions between the pages and in them, stand in the same bytes
pub check-requires-clause-stands : goal.check-requires-clause-stands
check-requires-clause-stands c =
    let f = c.in_ok-parts.ensures.found in
    let here : c.in_ok-fonts.fonts.bytes ≡ c.args.bytes.now = ap (λ (x : FontsIn). x.bytes) c.in_ok-fonts.ensures.found.0 ∙ f.4 in
    let held : All (Stands c.in_ok-fonts.fonts.bytes) c.in_ok-parts.parts.body.earlier.items = subst (λ (bs : List ℕ). All (Stands bs) c.in_ok-parts.parts.body.earlier.items) (sym here) f.3 in
    subst (λ (l : List FontDef). All (Stands c.in_ok-fonts.fonts.bytes) l) (sym c.deref.ensures.value) held

pub returns-in_err-check-clause-fault : goal.returns-in_err-check-clause-fault
returns-in_err-check-clause-fault c =
    let p = err_from_is_err_and c.from_residual-in_err-check.result c.from_residual-in_err-check.ensures.1 in
    let e = c.in_err-check.field-0.0 in
    let f = c.in_ok-parts.ensures.found in
    let fonts = fonts_in c.in_ok-fonts.fonts in
    let differs = same_bytes c.args.bytes.now c.in_ok-parts.parts.body.earlier.items (λ ds. Differs fonts ds e) c.deref.result.now c.in_ok-fonts.fonts.bytes c.deref.ensures.value (ap (λ (x : FontsIn). x.bytes) c.in_ok-fonts.ensures.found.0 ∙ f.4) c.in_err-check.ensures.fault in
    rw (p.1, p.2) (differs_fault c.args.bytes.now c.in_ok-parts.parts fonts e f (ap fonts_in c.in_ok-fonts.ensures.found.0) differs)

pub returns-in_err-check-clause-none : goal.returns-in_err-check-clause-none
returns-in_err-check-clause-none c =
    let p = err_from_is_err_and c.from_residual-in_err-check.result c.from_residual-in_err-check.ensures.1 in
    let e = c.in_err-check.field-0.0 in
    let f = c.in_ok-parts.ensures.found in
    let fonts = fonts_in c.in_ok-fonts.fonts in
    let differs = same_bytes c.args.bytes.now c.in_ok-parts.parts.body.earlier.items (λ ds. Differs fonts ds e) c.deref.result.now c.in_ok-fonts.fonts.bytes c.deref.ensures.value (ap (λ (x : FontsIn). x.bytes) c.in_ok-fonts.ensures.found.0 ∙ f.4) c.in_err-check.ensures.fault in
    let found : FaultIn c.args.bytes.now e = differs_fault c.args.bytes.now c.in_ok-parts.parts fonts e f (ap fonts_in c.in_ok-fonts.ensures.found.0) differs in
    rw (p.1, p.2) (refute c.one_spelling.ensures c.args.bytes.now e found)

pub returns-in_err-check_tail-clause-fault : goal.returns-in_err-check_tail-clause-fault
returns-in_err-check_tail-clause-fault c =
    let p = err_from_is_err_and c.from_residual-in_err-check_tail.result c.from_residual-in_err-check_tail.ensures.1 in
    let e = c.in_err-check_tail.field-0.0 in
    let n : c.len.result ≡ length c.in_ok-parts.parts.body.pages.items = search rules in
    rw (p.1, p.2) (tail_fault c.args.bytes.now c.in_ok-parts.parts c.len.result e c.in_ok-parts.ensures.found n c.in_err-check_tail.ensures.fault)

pub returns-in_err-check_tail-clause-none : goal.returns-in_err-check_tail-clause-none
returns-in_err-check_tail-clause-none c =
    let p = err_from_is_err_and c.from_residual-in_err-check_tail.result c.from_residual-in_err-check_tail.ensures.1 in
    let e = c.in_err-check_tail.field-0.0 in
    let n : c.len.result ≡ length c.in_ok-parts.parts.body.pages.items = search rules in
    let f : FaultIn c.args.bytes.now e = tail_fault c.args.bytes.now c.in_ok-parts.parts c.len.result e c.in_ok-parts.ensures.found n c.in_err-check_tail.ensures.fault in
    rw (p.1, p.2) (refute c.one_spelling.ensures c.args.bytes.now e f)

pub invariant_of-result : goal.invariant_of-result
invariant_of-result c =
    let f = c.in_ok-parts.ensures.found in
    let fonts = fonts_in c.in_ok-fonts.fonts in
    let here : c.in_ok-fonts.fonts.bytes ≡ c.args.bytes.now = ap (λ (x : FontsIn). x.bytes) c.in_ok-fonts.ensures.found.0 ∙ f.4 in
    let among = same_bytes c.args.bytes.now c.in_ok-parts.parts.body.earlier.items (λ ds. AllAmong fonts ds) c.deref.result.now c.in_ok-fonts.fonts.bytes c.deref.ensures.value here c.in_ok-check.ensures.same in
    let n : c.len.result ≡ length c.in_ok-parts.parts.body.pages.items = search rules in
    let r = doc_found c.args.bytes.now c.in_ok-parts.parts fonts c.len.result f (ap fonts_in c.in_ok-fonts.ensures.found.0) c.in_ok-fonts.ensures.found.1 among n c.in_ok-check_tail.ensures.same in
    let short = short_comment c.args.bytes.now r.0 (λ i. (let g = c.type_inv.bytes i in omega (arith, g))) r.1 in
    (r.0, r.1, r.2, subst (λ (h : Preamble). length h.comment < 256) (sym r.2.0) short, here)

pub returns-clause-found : goal.returns-clause-found
returns-clause-found c =
    let f = c.in_ok-parts.ensures.found in
    let fonts = fonts_in c.in_ok-fonts.fonts in
    let here : c.in_ok-fonts.fonts.bytes ≡ c.args.bytes.now = ap (λ (x : FontsIn). x.bytes) c.in_ok-fonts.ensures.found.0 ∙ f.4 in
    let among = same_bytes c.args.bytes.now c.in_ok-parts.parts.body.earlier.items (λ ds. AllAmong fonts ds) c.deref.result.now c.in_ok-fonts.fonts.bytes c.deref.ensures.value here c.in_ok-check.ensures.same in
    let n : c.len.result ≡ length c.in_ok-parts.parts.body.pages.items = search rules in
    (refl, doc_found c.args.bytes.now c.in_ok-parts.parts fonts c.len.result f (ap fonts_in c.in_ok-fonts.ensures.found.0) c.in_ok-fonts.ensures.found.1 among n c.in_ok-check_tail.ensures.same)

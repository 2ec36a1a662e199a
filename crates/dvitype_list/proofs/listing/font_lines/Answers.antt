use Rattle.std.proofs.Common.{arith, ◌++◌, [], ap, sym, take, drop, ◌+◌, List}
use Rattle.std.proofs.lemmas.List.{append-nil}
use Rattle.dv_base.specs.TrayLaws.{kept_start, kept_more}
use Rattle.dvi_ops.specs.Command.{Definition}
use Rattle.dvi_ops.specs.View.{def_view}
use Rattle.dvi_doc.specs.View.{says}
use Rattle.dvitype_list.specs.Texts.{font_line, font_lines}
use Rattle.dvitype_list.proofs.Gathering.{at_err, cut_longer, gathered_is}
use Rattle.dvitype_list.proofs.Texting.{fonts_last, fonts_rest, fonts_step, more_is, more_whole}
use Rattle.dvitype_list.proofs.listing.font_lines.Goals as goal

pub loop-font-init : goal.loop-font-init
loop-font-init g c = record { keeps = kept_start _; goes = λ first text h. gathered_is _ _ _ text (text ++ []) (sym (append-nil text)) h }

pub definition-requires : goal.definition-requires
definition-requires g c = c.fonts-font-items.ensures.stands c.loop-font.font-index _ c.loop-font-test.true

pub font_line-requires : goal.font_line-requires
font_line-requires g c = omega (arith, c.loop-font.invariant.keeps.begun_same, c.requires.begun)

pub loop-font-preserved : goal.loop-font-preserved
loop-font-preserved g c =
    let doc = c.args.doc.now in
    let i = c.loop-font.font-index in
    let d = def_view c.definition.result in
    let next = fonts_step (says doc) c.fonts-font-items.result.now doc.fonts i _ d c.fonts-font-items.ensures.fonts c.loop-font-test.true c.definition.ensures in
    record {
      keeps = kept_more _ _ _ c.loop-font.invariant.keeps c.font_line.ensures.keeps;
      goes = λ first text h. gathered_is _ _ _ _ _ (more_is text (font_lines (take i doc.fonts)) (font_line d) _ next) (c.in_ok-font_line.ensures.ok first (text ++ font_lines (take i doc.fonts)) (c.loop-font.invariant.goes first text h));
    }

pub returns-in_err-font_line-clause-cut : goal.returns-in_err-font_line-clause-cut
returns-in_err-font_line-clause-cut g c = λ first text h.
    let doc = c.args.doc.now in
    let i = c.loop-font.font-index in
    let d = def_view c.definition.result in
    let whole = fonts_rest (says doc) c.fonts-font-items.result.now doc.fonts i _ d c.fonts-font-items.ensures.fonts c.loop-font-test.true c.definition.ensures in
    at_err c.from_residual.result
    (cut_longer first (g.T.Tray.seen c.font_line.new.tray) _ (font_lines (drop (i + 1) doc.fonts)) (text ++ font_lines doc.fonts)
    (more_whole text (font_lines (take i doc.fonts)) (font_line d) (font_lines (drop (i + 1) doc.fonts)) (font_lines doc.fonts) whole)
    (c.in_err-font_line.ensures.cut first (text ++ font_lines (take i doc.fonts)) (c.loop-font.invariant.goes first text h)))

pub returns-clause-ok : goal.returns-clause-ok
returns-clause-ok g c = λ first text h.
    let doc = c.args.doc.now in
    let i = c.loop-font.font-index in
    let all = fonts_last (says doc) c.fonts-font-items.result.now doc.fonts i c.fonts-font-items.ensures.fonts (omega (arith, c.loop-font-test.false)) in
    gathered_is _ _ _ _ _ (ap (λ (ds : List Definition). text ++ font_lines ds) all) (c.loop-font.invariant.goes first text h)

use Rattle.std.proofs.Common.{◌∙◌, ℤ, sym, ap, subst, w64}
use Rattle.std.proofs.lemmas.Int.{to_z-of_z}
use Rattle.dvi_ops.specs.Command.{Definition}
use Rattle.dvi_doc.specs.Grammar.{Defines}
use Rattle.dvi_doc.specs.View.{says}
use Rattle.font_set.specs.Fonts.{place_of}
use Rattle.font_set.specs.Programs.{select, id_of, key_by}
use Rattle.vf_expand.proofs.Selecting.{key_none, key_one}
use Rattle.vf_expand.proofs.home.Frame.select.Goals as goal

pub returns-in_err-font-in-Page : goal.returns-in_err-font-in-Page
unfolding select
returns-in_err-font-in-Page c =
    let ds = c.in-Page.doc.now.fonts in
    let none : Defines ds c.args.k → ⊥ = λ h. c.in_err-font-in-Page.ensures.found (subst (λ (z : ℤ). Defines ds z) (sym (to_z-of_z w64 c.args.k c.ranges.k)) h) in
    rw c.in-Page.is (c.from_residual.ensures ∙ sym (ap (id_of c.args.self.now.fonts.now) (key_none ds c.args.k none)))

pub returns-in_ok-font-in-Page : goal.returns-in_ok-font-in-Page
unfolding select
returns-in_ok-font-in-Page c =
    let ds = c.in-Page.doc.now.fonts in
    let found = c.in_ok-font-in-Page.ensures.found in
    let once = rw c.in-Page.is at c.requires.given in
    let def = says c.in-Page.doc.now c.in_ok-font-in-Page.font.now in
    rw c.in-Page.is
    (c.id_of.ensures.value
    ∙ ap (λ (d : Definition). place_of c.args.self.now.fonts.now.fonts (key_by d)) c.definition.ensures
    ∙ sym (ap (id_of c.args.self.now.fonts.now) (key_one ds def c.args.k found.0 (found.1 ∙ to_z-of_z w64 c.args.k c.ranges.k) (once c.args.k))))

pub returns-in-Packet : goal.returns-in-Packet
unfolding select
returns-in-Packet c =
    let h = rw (to_z-of_z w64 c.args.k c.ranges.k) at c.local.ensures.value in
    rw c.in-Packet.is h

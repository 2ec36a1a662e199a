use Rattle.std.proofs.Common.{◌≡◌, ◌+◌, ℕ, List, length, pos, arith, refl, sym, ap, subst, ◌∙◌}
use Rattle.std.specs.Prelude.{slice_range}
use Rattle.dvi_ops.specs.Command.Command.{Set}
use Rattle.dvi_ops.specs.Spelling.{Spell, byte_at}
use Rattle.dvi_ops.proofs.Texts.{set_single}
use Rattle.font_set.specs.Found.{PageBytes}
use Rattle.font_set.specs.Search.{bytes_of}
use Rattle.font_set.specs.declared.turn.Asked.TheVariants as asked
use Rattle.font_set.specs.declared.turn.Turn.{Turn}
use Rattle.font_set.specs.declared.turn.Does.TheVariants as does
use Rattle.font_set.proofs.Turning.{reads}
use Rattle.font_set.proofs.fonts.Fonts.glyph_at.Goals as goal

pub returns-then-is_glyph-clause-reads : goal.returns-then-is_glyph-clause-reads
returns-then-is_glyph-clause-reads c =
    let s = c.args.sheet.now in
    let p = c.args.place.now in
    let bytes = c.sheet.inside.bytes.now in
    let code = byte_at bytes p.at in
    let t : Turn = record { next = p.at + 1; does = does.Sets (pos code) } in
    let same : bytes_of c.args.self.now s.bytes p.home ≡ bytes = ap (bytes_of c.args.self.now s.bytes) c.in-Page.is ∙ sym (ap (λ (q : PageBytes). q.bytes) c.sheet.view_is) in
    let x = set_single bytes p.at (omega (arith, c.requires.inside, c.requires.placed.ends, ap length same)) c.if-code-lt128.true in
    reads c.one_spelling.ensures s c.args.self.now p t (asked.Char (pos code)) (Set (pos code)) c.requires.inside c.requires.placed (omega arith) (omega (arith, c.requires.inside))
    (subst (λ (bs : List ℕ). Spell (Set (pos code)) (slice_range bs p.at (p.at + 1))) (sym same) x.2) refl refl

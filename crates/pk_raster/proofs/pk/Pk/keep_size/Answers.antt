use Rattle.std.proofs.Common.{rules, [], sym, refl, ◌∙◌, ap, set}
use Rattle.std.proofs.lemmas.List.{append-nil}
use Rattle.pk_raster.specs.Font.{Font, glyph_at}
use Rattle.pk_raster.specs.Font.Known.{Large}
use Rattle.pk_raster.specs.declared.pk.Entry.TheVariants as entry
use Rattle.pk_raster.proofs.Kept.{written, kept}
use Rattle.pk_raster.proofs.pk.Pk.keep_size.Goals as goal

pub invariant_of-self : goal.invariant_of-self
invariant_of-self c =
    let rows = c.self.inside.rows.items in
    kept rows [] rows c.self.inside.entries.items c.args.code (entry.TooBig c.args.bytes) (sym (append-nil rows)) c.self.invariant (search rules)
    (ap (λ (x : Font). glyph_at x c.args.code) c.self.view_is ∙ c.requires) tt refl

pub returns : goal.returns
returns c =
    let rows = c.self.inside.rows.items in
    let w = written rows [] rows c.self.inside.entries.items c.args.code (entry.TooBig c.args.bytes) (sym (append-nil rows)) c.self.invariant.placed in
    ap (λ gs. record { checksum = c.self.inside.checksum; glyphs = gs }) w
    ∙ ap (λ (x : Font). record { checksum = x.checksum; glyphs = set x.glyphs c.args.code (Large c.args.bytes) }) c.self.view_is

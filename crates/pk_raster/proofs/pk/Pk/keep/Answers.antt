use Rattle.std.proofs.Common.{rules, ◌≡◌, ◌+◌, ◌∙◌, ap, set, length}
use Rattle.pk_raster.specs.Font.{Font, glyph_at}
use Rattle.pk_raster.specs.Font.Known.{Bits}
use Rattle.pk_raster.specs.declared.pk.Place.{Place}
use Rattle.pk_raster.specs.declared.pk.Entry.TheVariants as entry
use Rattle.pk_raster.proofs.Kept.{written_here, kept, range_new}
use Rattle.pk_raster.proofs.pk.Pk.keep.Goals as goal

pub invariant_of-self-2 : goal.invariant_of-self-2
invariant_of-self-2 c =
    let rows = c.self.inside.rows.items in
    let more = c.args.bitmap.now in
    let all = c.extend_from_slice.new.self.items in
    let grown = c.in_ok-extend_from_slice.ensures.items in
    let p : Place = record { sizes = c.args.sizes; start = c.len-start.result; end = c.len-end.result } in
    let s : p.start ≡ length rows = search rules in
    let e : p.end ≡ length rows + length more = search rules in
    kept rows more all c.self.inside.entries.items c.args.code (entry.Here p) grown c.self.invariant (search rules)
    (ap (λ (x : Font). glyph_at x c.args.code) c.self.view_is ∙ c.requires)
    (search rules) (ap length (range_new rows more all p.start p.end grown s e))

pub returns-clause-kept : goal.returns-clause-kept
returns-clause-kept c =
    let rows = c.self.inside.rows.items in
    let p : Place = record { sizes = c.args.sizes; start = c.len-start.result; end = c.len-end.result } in
    let s : p.start ≡ length rows = search rules in
    let e : p.end ≡ length rows + length c.args.bitmap.now = search rules in
    let w = written_here rows c.args.bitmap.now c.extend_from_slice.new.self.items c.self.inside.entries.items c.args.code p c.in_ok-extend_from_slice.ensures.items c.self.invariant.placed s e in
    ap (λ gs. record { checksum = c.self.inside.checksum; glyphs = gs }) w
    ∙ ap (λ (x : Font). record { checksum = x.checksum; glyphs = set x.glyphs c.args.code (Bits (record { w = c.args.sizes.w; h = c.args.sizes.h; hoff = c.args.sizes.hoff; voff = c.args.sizes.voff; rows = c.args.bitmap.now })) }) c.self.view_is

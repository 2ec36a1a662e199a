use Rattle.std.proofs.Common.{arith, ◌∙◌, ap, ◌*◌, ◌≡◌, rules, length, sym, subst, ℕ, refl}
use Rattle.std.specs.List.{flat_map}
use Rattle.std.proofs.lemmas.Result.{err_from_is_err_and}
use Rattle.std.proofs.lemmas.Grind.{common_steps}
use Rattle.pk_raster.specs.Numbers.{nybbles}
use Rattle.pk_raster.specs.Bits.{padded}
use Rattle.pk_raster.specs.Raster.{IsRaster}
use Rattle.pk_raster.specs.Glyph.{stride, dyn_f}
use Rattle.pk_raster.proofs.Drawn.{few_pixels, first_run}
use Rattle.pk_raster.proofs.glyph.run_rows.Goals as goal

pub decode-requires-clause-fresh : goal.decode-requires-clause-fresh
decode-requires-clause-fresh c =
    let len : length c.in_ok-vec.field-0.items ≡ stride c.args.w = search rules in
    record {
      filled = refl;
      repeat = refl;
      rows = c.new.ensures.items;
      row = grind (arith, common_steps);
      wide = c.requires.wide;
      fits = omega (arith, len);
      some = c.requires.high;
      limit = few_pixels c.args.w c.args.h c.requires.small;
    }

pub returns-in_err-decode-clause-none : goal.returns-in_err-decode-clause-none
returns-in_err-decode-clause-none c =
    let p = err_from_is_err_and c.from_residual-in_err-decode.result c.from_residual-in_err-decode.ensures.1 in
    rw (p.1, p.2) (λ ne rows r.
    let R : ℕ → Type 0 = λ v. IsRaster (dyn_f c.args.flag) v c.args.w c.args.h (nybbles c.args.raster.now) rows in
    c.in_err-decode.ensures.none ne rows (subst R (sym (first_run c.args.flag)) r))

pub returns-clause-found : goal.returns-clause-found
returns-clause-found c =
    let f = c.in_ok-decode.ensures.found in
    let R : ℕ → Type 0 = λ v. IsRaster (dyn_f c.args.flag) v c.args.w c.args.h (nybbles c.args.raster.now) f.0 in
    let len : length c.in_ok-vec.field-0.items ≡ stride c.args.w = search rules in
    (f.0, subst R (first_run c.args.flag) f.1, f.2 ∙ ap (λ k. flat_map (padded (8 * k)) f.0) len)

use Rattle.std.proofs.Common.{◌≡◌, ℕ, List, ◌++◌, ◌∙◌, ap, sym, append_assoc, rules}
use Rattle.pk_raster.proofs.Rows.{concat_more}
use Rattle.pk_raster.proofs.board.add_row.Goals as goal

added : (old now new row more next : List ℕ) → new ≡ now ++ row → now ≡ old ++ more → next ≡ more ++ row → new ≡ old ++ next
added old now new row more next e f g = e ∙ ap (λ xs. xs ++ row) f ∙ append_assoc old more row ∙ ap (λ xs. old ++ xs) (sym g)

pub loop-time-preserved : goal.loop-time-preserved
loop-time-preserved c = added _ _ _ c.args.row.now _ _ (search rules) c.loop-time.invariant (concat_more c.loop-time._time c.args.row.now)

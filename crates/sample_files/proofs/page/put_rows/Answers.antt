use Rattle.std.proofs.Common.{◌≡◌, ℕ, ap, ◌∙◌, refl}
use Rattle.sample_files.specs.Letters.{after}
use Rattle.sample_files.specs.Pages.{row, rows}
use Rattle.sample_files.proofs.Counts.{after_none, after_turn, begun, grown, rows_more, rows_none}
use Rattle.sample_files.proofs.page.put_rows.Goals as goal

pub loop-number-init : goal.loop-number-init
loop-number-init c = record { bytes = begun _ _ (rows_none _); state = let e = after_none c.args.state.now in cc }

pub loop-number-preserved : goal.loop-number-preserved
loop-number-preserved c =
    record {
      bytes =
          grown _ (rows c.loop-number.number c.args.state.now) (row c.loop-number.number c.loop-number.state) _ _ _ c.loop-number.invariant.bytes c.in_ok-put_row.ensures.bytes
          (let e = rows_more c.loop-number.number c.args.state.now in cc);
      state =
          (c.in_ok-put_row.ensures.state ∙ ap (λ (s : ℕ). after 60 s) c.loop-number.invariant.state)
          ∙ after_turn 60 c.loop-number.number c.args.state.now;
    }

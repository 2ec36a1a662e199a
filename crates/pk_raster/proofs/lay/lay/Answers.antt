use Rattle.std.proofs.Common.{◌≡◌, ◌+◌, length, arith, sym, refl, ◌∙◌, ap}
use Rattle.pk_raster.specs.Bits.{colour}
use Rattle.pk_raster.specs.declared.board.Board.{Board}
use Rattle.std.proofs.lemmas.List.{length-replicate}
use Rattle.pk_raster.proofs.Laying.{passes, ran_zero, ran_some, rowed, behind}
use Rattle.pk_raster.proofs.lay.lay.Goals as goal

pub returns-then-board-clause-err : goal.returns-then-board-clause-err
returns-then-board-clause-err c = λ part made s. passes (colour c.args.black) c.args.count c.args.board.now part made c.rows.board c.rows.rest (c.rows.invariant.shown part made s) (omega (arith, c.rows.invariant.below)) (omega arith)

pub returns-then-board-2-clause-err : goal.returns-then-board-2-clause-err
returns-then-board-2-clause-err c = λ part made s. passes (colour c.args.black) c.args.count c.args.board.now part made c.rows.board c.rows.rest (c.rows.invariant.shown part made s) (omega arith) (omega arith)

pub returns-then-rest-eq0-clause-ok : goal.returns-then-rest-eq0-clause-ok
returns-then-rest-eq0-clause-ok c = λ part made s. ran_zero (colour c.args.black) c.args.count c.args.board.now part made c.rows.board c.rows.rest (c.rows.invariant.shown part made s) (omega arith)

pub rows-preserved : goal.rows-preserved
rows-preserved c =
    let b = c.rows.board in
    let f = c.fill_to.new.board in
    let next = c.end_row.new.board in
    let ended = c.in_ok-end_row.ensures.ok in
    let lr : length next.row.items ≡ length b.row.items = ap length ended.row ∙ length-replicate (length f.row.items) 0 ∙ c.fill_to.ensures.length in
    let wd : f.width ≡ b.width = ap (λ (x : Board). x.width) c.fill_to.ensures.same in
    record {
      shown = λ part made s.
          let mid = c.rows.invariant.shown part made s in
          rowed (colour c.args.black) c.args.count c.args.board.now part made b c.rows.rest mid f b.width (omega (arith, c.rows.invariant.below)) (omega arith)
          (c.fill_to.ensures.row mid.now (sym mid.shows.filled) (behind mid.shows)) c.fill_to.ensures.length c.fill_to.ensures.same next ended refl (omega arith) (omega (arith, c.requires.below));
      below = omega (arith, ended.filled, ended.width, wd, c.rows.invariant.below);
      fits = omega (arith, ended.width, wd, c.rows.invariant.fits, lr);
      size = lr ∙ c.rows.invariant.size;
      room = λ z. omega (arith, ended.repeat, z);
      closed = λ z. (ended.filled, ended.repeat);
    }

pub returns-clause-ok : goal.returns-clause-ok
returns-clause-ok c = λ part made s.
    let mid = c.rows.invariant.shown part made s in
    ran_some (colour c.args.black) c.args.count c.args.board.now part made c.rows.board c.rows.rest mid c.fill_to-2.new.board (c.rows.board.filled + c.rows.rest)
    (omega arith) (omega arith) (c.fill_to-2.ensures.row mid.now (sym mid.shows.filled) (behind mid.shows)) c.fill_to-2.ensures.length c.fill_to-2.ensures.same refl (omega arith)

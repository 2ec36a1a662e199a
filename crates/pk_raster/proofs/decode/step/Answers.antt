use Rattle.std.proofs.Common.{ℕ, ◌-◌, ◌*◌, ◌<◌, ◌≤◌, arith, subst, ◌^◌}
use Rattle.std.proofs.lemmas.Result.{err_from_is_err_and}
use Rattle.pk_raster.specs.Numbers.{nybbles}
use Rattle.pk_raster.specs.Runs.{Run, Repeat}
use Rattle.pk_raster.specs.Reading.{Takes}
use Rattle.pk_raster.specs.Bits.{colour}
use Rattle.pk_raster.specs.Progress.{Reached, Refuses}
use Rattle.pk_raster.specs.declared.items.Piece.{Piece}
use Rattle.pk_raster.specs.declared.board.RasterFault.TheVariants as fault
use Rattle.pk_raster.proofs.Reaching.{missed, twice, repeat_past, repeated_on}
use Rattle.pk_raster.proofs.Running.{run_taken, repeat_taken, exact, run_long, lay_refused, run_on, small_left, colour_not}
use Rattle.pk_raster.proofs.decode.step.Goals as goal

pub returns-in_err-piece-clause-err : goal.returns-in_err-piece-clause-err
returns-in_err-piece-clause-err c = λ c0 w h l r.
    let p = err_from_is_err_and c.from_residual.result c.from_residual.ensures.1 in
    rw (p.1, p.2) (missed c.args.dyn_f c0 w h (nybbles c.args.raster.now) c.args.at (colour c.args.black) c.args.board.now r c.requires.some c.requires.below c.in_err-piece.field-0.0 c.in_err-piece.ensures.fault)

pub returns-then-board-gt0-clause-err : goal.returns-then-board-gt0-clause-err
returns-then-board-gt0-clause-err c = λ c0 w h l r.
    let ns = nybbles c.args.raster.now in
    let T : Piece → Type 0 = λ p. Takes c.args.dyn_f ns c.args.at p c.in_ok-piece.next in
    let t = subst T c.in-Repeat.is c.in_ok-piece.ensures.found in
    let x = repeat_taken c.args.dyn_f ns c.args.at c.in_ok-piece.next c.in-Repeat.count t in
    twice c.args.dyn_f c0 w h ns c.args.at (colour c.args.black) c.args.board.now r c.requires.some c.requires.below x.n c.in_ok-piece.next (omega (arith, x.count, t.positive)) t.within x.item (omega arith)

pub returns-then-count-board-clause-err : goal.returns-then-count-board-clause-err
returns-then-count-board-clause-err c = λ c0 w h l r.
    let ns = nybbles c.args.raster.now in
    let T : Piece → Type 0 = λ p. Takes c.args.dyn_f ns c.args.at p c.in_ok-piece.next in
    let t = subst T c.in-Repeat.is c.in_ok-piece.ensures.found in
    let x = repeat_taken c.args.dyn_f ns c.args.at c.in_ok-piece.next c.in-Repeat.count t in
    repeat_past c.args.dyn_f c0 w h ns c.args.at (colour c.args.black) c.args.board.now r c.requires.some c.requires.below x.n c.in_ok-piece.next (omega (arith, x.count, t.positive)) t.within x.item (omega arith) (omega (arith, x.count))

pub returns-else-count-board-clause-ok : goal.returns-else-count-board-clause-ok
returns-else-count-board-clause-ok c = λ c0 w h l r.
    let ns = nybbles c.args.raster.now in
    let f = c.args.dyn_f in
    let b = c.args.board.now in
    let k = c.in-Repeat.count in
    let T : Piece → Type 0 = λ p. Takes f ns c.args.at p c.in_ok-piece.next in
    let t = subst T c.in-Repeat.is c.in_ok-piece.ensures.found in
    let s = small_left f c0 w h ns c.args.at (colour c.args.black) b r c.requires.below l in
    let x = exact f ns c.args.at c.in_ok-piece.next k Repeat (omega (arith, s)) (repeat_taken f ns c.args.at c.in_ok-piece.next k t) in
    repeated_on f c0 w h ns c.args.at (colour c.args.black) b r c.requires.some c.requires.below k c.in_ok-piece.next t.positive t.within x (omega arith) (omega arith)

pub returns-then-count-ge-MANY-clause-err : goal.returns-then-count-ge-MANY-clause-err
returns-then-count-ge-MANY-clause-err c = λ c0 w h l r.
    let ns = nybbles c.args.raster.now in
    let f = c.args.dyn_f in
    let T : Piece → Type 0 = λ p. Takes f ns c.args.at p c.in_ok-piece.next in
    let t = subst T c.in-Run.is c.in_ok-piece.ensures.found in
    let x = run_taken f ns c.args.at c.in_ok-piece.next c.in-Run.count t in
    let m : 2 ^ 40 ≤ x.n = (let q = x.count in omega (arith, q)) in
    let P : ℕ → Type 0 = λ v. Reached f c0 v h ns c.args.at (colour c.args.black) c.args.board.now → h * v < 2 ^ 40 → Refuses f c0 v h ns fault.RunsPast in
    subst P r.width (λ q u. run_long f c0 h ns c.args.at (colour c.args.black) c.args.board.now q c.requires.some c.requires.below x.n c.in_ok-piece.next t.within x.item u m) r l

pub returns-in_err-lay-in-Run-clause-err : goal.returns-in_err-lay-in-Run-clause-err
returns-in_err-lay-in-Run-clause-err c = λ c0 w h l r.
    let ns = nybbles c.args.raster.now in
    let f = c.args.dyn_f in
    let k = c.in-Run.count in
    let T : Piece → Type 0 = λ p. Takes f ns c.args.at p c.in_ok-piece.next in
    let t = subst T c.in-Run.is c.in_ok-piece.ensures.found in
    let x = exact f ns c.args.at c.in_ok-piece.next k Run (omega arith) (run_taken f ns c.args.at c.in_ok-piece.next k t) in
    let P : ℕ → Type 0 = λ v. Reached f c0 v h ns c.args.at (colour c.args.black) c.args.board.now → Refuses f c0 v h ns c.in_err-lay-in-Run.field-0.0 in
    let p = err_from_is_err_and c.from_residual-in_err-lay-in-Run.result c.from_residual-in_err-lay-in-Run.ensures.1 in
    rw (p.1, p.2) (subst P r.width (λ q. lay_refused f c0 h ns c.args.at (colour c.args.black) c.args.board.now q c.requires.some c.requires.below k c.in_ok-piece.next t.within x c.in_err-lay-in-Run.field-0.0 (c.in_err-lay-in-Run.ensures.err q.now q.made q.shows)) r)

pub returns-in_ok-lay-in-Run-clause-ok : goal.returns-in_ok-lay-in-Run-clause-ok
returns-in_ok-lay-in-Run-clause-ok c = λ c0 w h l r.
    let ns = nybbles c.args.raster.now in
    let f = c.args.dyn_f in
    let k = c.in-Run.count in
    let T : Piece → Type 0 = λ p. Takes f ns c.args.at p c.in_ok-piece.next in
    let t = subst T c.in-Run.is c.in_ok-piece.ensures.found in
    let x = exact f ns c.args.at c.in_ok-piece.next k Run (omega arith) (run_taken f ns c.args.at c.in_ok-piece.next k t) in
    let P : ℕ → Type 0 = λ v. Reached f c0 v h ns c.args.at (colour c.args.black) c.args.board.now → Reached f c0 v h ns c.in_ok-piece.next (1 - colour c.args.black) c.lay.new.board in
    let C : ℕ → Type 0 = λ v. Reached f c0 w h ns c.in_ok-piece.next v c.lay.new.board in
    let e = c.in_ok-lay-in-Run.ensures in
    subst C (colour_not c.args.black) (subst P r.width (λ q. run_on f c0 h ns c.args.at (colour c.args.black) c.args.board.now q c.requires.some c.requires.below k c.in_ok-piece.next t.within x c.lay.new.board (e.ok q.now q.made q.shows) e.closed e.room) r)

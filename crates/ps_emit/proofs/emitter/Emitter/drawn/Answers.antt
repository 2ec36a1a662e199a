use Rattle.std.proofs.Common.{subst, append_assoc, ◌++◌, rules, w64}
use Rattle.std.specs.Prelude.{FitsSigned}
use Rattle.std.proofs.lemmas.Int.{to_z-of_z}
use Rattle.font_set.specs.Views.{bitmap_of}
use Rattle.ps_subset.specs.FontText.{hex_text}
use Rattle.ps_emit.specs.LetterLines.{letter_head, letter_tail}
use Rattle.ps_emit.specs.Shown.{out_of}
use Rattle.ps_emit.specs.Written.{Cut, Writes, cut_writes, cut_longer}
use Rattle.ps_emit.proofs.Pieces.{ahead_then, cut_ahead, writes_ahead}
use Rattle.ps_emit.proofs.emitter.Emitter.drawn.Goals as goal

pub returns-in_err-rows-clause-writes : goal.returns-in_err-rows-clause-writes
returns-in_err-rows-clause-writes g c =
    let b = bitmap_of c.args.glyph.now in
    let head = letter_head c.args.code b in
    let rows = hex_text 32 c.args.glyph.now.rows.now in
    let tail = letter_tail b c.args.pixels in
    cut_writes _ _ _ _ c.from_residual.ensures.0
    (subst (λ bs. Cut bs (out_of c.args.self.now) (out_of c.rows.new.self)) (append_assoc head rows tail) (cut_longer (head ++ rows) tail _ _ (rw c.head.ensures.value at c.in_err-rows.ensures.cut)))

pub returns-in_err-make_room-clause-writes : goal.returns-in_err-make_room-clause-writes
returns-in_err-make_room-clause-writes g c =
    let b = bitmap_of c.args.glyph.now in
    let head = letter_head c.args.code b in
    let rows = hex_text 32 c.args.glyph.now.rows.now in
    let tail = letter_tail b c.args.pixels in
    cut_writes _ _ _ _ c.from_residual-in_err-make_room.ensures.0
    (subst (λ bs. Cut bs (out_of c.args.self.now) (out_of c.make_room.new.self)) (append_assoc head rows tail)
    (cut_ahead (head ++ rows) tail _ c.rows.new.self c.make_room.new.self (rw c.head.ensures.value at c.in_ok-rows.ensures.ahead) c.in_err-make_room.ensures.cut))

pub returns-clause-writes : goal.returns-clause-writes
returns-clause-writes g c =
    let b = bitmap_of c.args.glyph.now in
    let head = letter_head c.args.code b in
    let rows = hex_text 32 c.args.glyph.now.rows.now in
    let tail = letter_tail b c.args.pixels in
    let pixels : FitsSigned w64 c.args.pixels = search rules in
    subst (λ bs. Writes bs (out_of c.args.self.now) (out_of c.put_line.new.self) c.put_line.result) (append_assoc head rows tail)
    (writes_ahead (head ++ rows) tail _ c.make_room.new.self c.put_line.new.self c.put_line.result (ahead_then (head ++ rows) _ c.rows.new.self c.make_room.new.self (rw c.head.ensures.value at c.in_ok-rows.ensures.ahead) c.in_ok-make_room.ensures.ahead) (rw (c.tail.ensures, to_z-of_z w64 c.args.pixels pixels) at c.put_line.ensures.writes))

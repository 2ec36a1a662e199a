use Rattle.std.proofs.Common.{◌<◌, refl, sym, ap, ◌∙◌, subst, rules, append_assoc, length, [], ◌++◌, List, ℕ}
use Rattle.std.proofs.lemmas.List.{append-nil}
use Rattle.ps_subset.specs.FontText.{hex_text}
use Rattle.ps_emit.specs.Shown.{out_of, holds_more}
use Rattle.ps_emit.specs.LetterLines.{row_text}
use Rattle.ps_emit.specs.Pending.{Ahead}
use Rattle.ps_emit.specs.Written.{Cut}
use Rattle.ps_emit.proofs.HexRows.{room, row_more, next_row}
use Rattle.ps_emit.proofs.Pieces.{nothing_ahead, ahead_more, cut_ahead, on_err}
use Rattle.ps_emit.proofs.emitter.Emitter.rows.Goals as goal

pub loop-rest-init : goal.loop-rest-init
loop-rest-init g c = record {
  begun = c.requires;
  done = [];
  ahead = subst (λ bs. Ahead bs c.args.self.now c.args.self.now) (sym (append-nil c.args.self.now.line)) (nothing_ahead c.args.self.now);
  whole = refl;
  holds = record { loan_same = refl; fonts_same = refl; comments_same = refl; pass_same = refl };
  sheet = refl;
}

pub loop-rest-preserved : goal.loop-rest-preserved
loop-rest-preserved g c =
    let inv = c.loop-rest.invariant in
    let line : List ℕ = c.args.self.now.line in
    let more = row_text c.loop-rest.follows c.split_at.result.0.now in
    let some : 0 < length c.loop-rest.rest.now = search rules in
    let next = next_row c.loop-rest.rest.now c.split_at.result.0.now c.split_at.result.1.now c.min.result c.min.ensures c.split_at.ensures.front c.split_at.ensures.back some in
    let step = c.in_ok-row.ensures.ahead in
    record {
      begun = rw (step.wrote.keeps.begun_same) inv.begun;
      done = inv.done ++ more;
      ahead = subst (λ bs. Ahead bs c.args.self.now c.row.new.self) (append_assoc line inv.done more) (ahead_more (line ++ inv.done) more c.args.self.now c.loop-rest.self c.row.new.self inv.ahead step);
      whole =
          append_assoc inv.done more (hex_text 0 c.split_at.result.1.now)
          ∙ ap (λ bs. inv.done ++ bs) (sym (row_more c.loop-rest.follows c.split_at.result.0.now c.split_at.result.1.now next.some next.few next.whole))
          ∙ ap (λ bs. inv.done ++ hex_text (room c.loop-rest.follows) bs) next.joined
          ∙ inv.whole;
      holds = holds_more _ _ _ inv.holds c.in_ok-row.ensures.holds;
      sheet = c.in_ok-row.ensures.sheet ∙ inv.sheet;
    }

pub returns-in_err-row-clause-cut : goal.returns-in_err-row-clause-cut
returns-in_err-row-clause-cut g c =
    let inv = c.loop-rest.invariant in
    let line : List ℕ = c.args.self.now.line in
    let left = hex_text (room c.loop-rest.follows) c.loop-rest.rest.now in
    on_err c.from_residual.result _
    (subst (λ bs. Cut bs (out_of c.args.self.now) (out_of c.row.new.self)) (append_assoc line inv.done left ∙ ap (λ bs. line ++ bs) inv.whole)
    (cut_ahead (line ++ inv.done) left c.args.self.now c.loop-rest.self c.row.new.self inv.ahead c.in_err-row.ensures.cut))

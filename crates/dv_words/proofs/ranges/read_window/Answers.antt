use Rattle.std.proofs.Common.{◌<◌, ◌∙◌, length, arith}
use Rattle.dv_words.proofs.Lists.{window_cut}
use Rattle.dv_words.proofs.ranges.read_window.Goals as goal

pub returns : goal.returns
returns c =
    let some : 0 < length c.args.item.now = grind arith in
    let more : 0 < length c.split_at-2.result.1.now = grind arith in
    let first = c.page_number-2.ensures in
    let last = c.page_number-3.ensures in
    c.both-2.ensures ∙ rw (first, last) (window_cut c.args.item.now c.split_at.result.1.now c.split_at-2.result.0.now c.split_at-2.result.1.now c.split_at-3.result.1.now c.first_dash.result
    c.split_at.ensures.back c.first_dash.ensures.place c.split_at-2.ensures.front c.split_at-2.ensures.back some more c.split_at-3.ensures.back)

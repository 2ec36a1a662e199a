use Rattle.dv_words.proofs.Spanned.{IsSpanned}
use Rattle.dv_words.proofs.spans.find_spans.Given as goal

abbrev pub invariant-loop-window : goal.invariant-loop-window
invariant-loop-window l = IsSpanned l.numbers l.wanted l.window-index l.spans.items

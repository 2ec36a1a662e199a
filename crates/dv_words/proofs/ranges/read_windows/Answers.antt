use Rattle.std.proofs.Common.{◌≡◌, ◌<◌, ◌∙◌, ℕ, take, drop, length, arith, ap, sym}
use Rattle.std.specs.List.{position_or_len}
use Rattle.specials.specs.Commas.{is_comma}
use Rattle.dv_words.specs.Windows.{window_of}
use Rattle.dv_words.proofs.Lists.{unread, wrong_item, ended, one_more}
use Rattle.dv_words.proofs.ranges.read_windows.Goals as goal

pub loop-window-init : goal.loop-window-init
loop-window-init c = unread c.args.list.now c.args.windows.now.items

pub returns-in-None : goal.returns-in-None
returns-in-None c =
    let e = c.split_at.ensures.front ∙ ap (λ (n : ℕ). take n c.loop-window.rest.now) c.first_comma.ensures.place in
    wrong_item c.args.list.now c.args.windows.now.items c.loop-window.windows.items c.loop-window.rest.now c.loop-window.invariant
    (ap window_of (sym e) ∙ sym c.read_window.ensures ∙ c.in-None.is)

pub returns-then-is_empty : goal.returns-then-is_empty
returns-then-is_empty c =
    let e = c.split_at.ensures.front ∙ ap (λ (n : ℕ). take n c.loop-window.rest.now) c.first_comma.ensures.place in
    let a : c.split_at.result.1.now ≡ drop (position_or_len is_comma c.loop-window.rest.now) c.loop-window.rest.now =
    c.split_at.ensures.back ∙ ap (λ (n : ℕ). drop n c.loop-window.rest.now) c.first_comma.ensures.place in
    let none : length c.split_at.result.1.now ≡ 0 = grind arith in
    rw c.in_ok-push-in-Some.ensures.items (ended c.args.list.now c.args.windows.now.items c.loop-window.windows.items c.loop-window.rest.now c.in-Some.window c.loop-window.invariant
    (ap window_of (sym e) ∙ sym c.read_window.ensures ∙ c.in-Some.is) (ap length (sym a) ∙ none))

pub loop-window-preserved : goal.loop-window-preserved
loop-window-preserved c =
    let e = c.split_at.ensures.front ∙ ap (λ (n : ℕ). take n c.loop-window.rest.now) c.first_comma.ensures.place in
    let a : c.split_at.result.1.now ≡ drop (position_or_len is_comma c.loop-window.rest.now) c.loop-window.rest.now =
    c.split_at.ensures.back ∙ ap (λ (n : ℕ). drop n c.loop-window.rest.now) c.first_comma.ensures.place in
    let some : 0 < length c.split_at.result.1.now = grind arith in
    let tail = c.split_at-in-loop-window.ensures.back ∙ ap (drop 1) a in
    rw (c.in_ok-push-in-Some.ensures.items, tail) (one_more c.args.list.now c.args.windows.now.items c.loop-window.windows.items c.loop-window.rest.now c.in-Some.window c.loop-window.invariant
    (ap window_of (sym e) ∙ sym c.read_window.ensures ∙ c.in-Some.is) (rw a at some))

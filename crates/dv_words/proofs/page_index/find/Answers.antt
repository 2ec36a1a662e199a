use Rattle.std.proofs.Common.{◌≡◌, ◌<◌, ◌≤◌, pos, length, get_or, arith, sym, ap, w64, to_z, of_z, rules}
use Rattle.std.proofs.lemmas.List.{get_or_default}
use Rattle.dv_words.proofs.Index.{nowhere_behind, here, elsewhere}
use Rattle.dv_words.proofs.page_index.find.Goals as goal

pub returns-then-at-pairs-clause-place : goal.returns-then-at-pairs-clause-place
returns-then-at-pairs-clause-place c =
    let same : to_z w64 (of_z w64 c.args.number) ≡ c.args.number = search rules in
    let near = rw same at c.near-at.ensures.near in
    let out : length c.args.pairs.now ≤ c.near-at.result = grind arith in
    rw c.if-physical.false (sym (nowhere_behind c.args.numbers.now c.args.pairs.now c.requires c.args.number c.args.start c.near-at.result near out))

pub returns-then-found-number-clause-place : goal.returns-then-found-number-clause-place
returns-then-found-number-clause-place c =
    let same : to_z w64 (of_z w64 c.args.number) ≡ c.args.number = search rules in
    let near = rw same at c.near-at.ensures.near in
    let inside : c.near-at.result < length c.args.pairs.now = grind (arith, c.near-at.ensures.inside) in
    let e = get_or c.args.pairs.now c.near-at.result (pos 0, 0) in
    let number : e.0 ≡ c.args.number = search rules in
    rw c.if-physical.false (sym (here c.args.numbers.now c.args.pairs.now c.requires c.args.number c.args.start c.near-at.result e near inside
    (get_or_default c.args.pairs.now c.near-at.result (pos 0, 0) e inside) number))

pub returns-else-found-number-clause-place : goal.returns-else-found-number-clause-place
returns-else-found-number-clause-place c =
    let same : to_z w64 (of_z w64 c.args.number) ≡ c.args.number = search rules in
    let near = rw same at c.near-at.ensures.near in
    let inside : c.near-at.result < length c.args.pairs.now = grind (arith, c.near-at.ensures.inside) in
    let e = get_or c.args.pairs.now c.near-at.result (pos 0, 0) in
    rw c.if-physical.false (sym (elsewhere c.args.numbers.now c.args.pairs.now c.requires c.args.number c.args.start c.near-at.result e near inside
    (get_or_default c.args.pairs.now c.near-at.result (pos 0, 0) e inside) (λ h. c.if-found-number.false (ap (of_z w64) h))))

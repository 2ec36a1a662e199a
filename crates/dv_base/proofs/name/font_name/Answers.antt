use Rattle.std.proofs.Common.{arith, ◌<◌, ◌≤◌, ⊎_elim, length}
use Rattle.std.proofs.lemmas.Str.{IsUtf8-from_ascii}
use Rattle.std.proofs.lemmas.List.{get_or_past}
use Rattle.std.proofs.lemmas.Bool.{cases_lt}
use Rattle.dv_base.proofs.name.font_name.Goals as goal

pub unreachable-requires : goal.unreachable-requires
unreachable-requires c =
    let name = c.args.name.now in
    let is = c.if-not-is_font_name.ensures in
    c.in-Err.ensures.cases.0 (IsUtf8-from_ascii name (λ k. ⊎_elim
    (λ (l : k < length name). (let b = is.2 k 0 l in let q = b.1 in omega (arith, q)))
    (λ (l : length name ≤ k). omega (arith, get_or_past name k 0 l))
    (cases_lt k (length name))))

use Rattle.std.proofs.Common.{ap, ◌∙◌, sym, length, ◌++◌, ◌∷◌, [], List, ℕ, ◌≡◌, arith, length-append, subst}
use Rattle.dv_top.specs.Texts.{texts_in, total}
use Rattle.dv_top.proofs.Gathered.{texts_more, total_more}
use Rattle.dv_top.proofs.heads.Heads.push.Goals as goal

pub invariant_of-self-2 : goal.invariant_of-self-2
invariant_of-self-2 c =
    let ns = c.self.inside.lengths.items in
    let bs = c.self.inside.bytes.items in
    let text = c.args.text.now in
    let lengths : c.push_reserved.new.self.items ≡ ns ++ length text ∷ [] = c.push_reserved.ensures.items ∙ ap (λ (l : List ℕ). l ++ length text ∷ []) c.reserve.ensures.items in
    omega (arith, ap total lengths, total_more ns (length text), c.self.invariant, ap length c.in_ok-extend_from_slice.ensures.items, length-append bs text)

pub returns : goal.returns
returns c =
    let ns = c.self.inside.lengths.items in
    let bs = c.self.inside.bytes.items in
    let text = c.args.text.now in
    let lengths : c.push_reserved.new.self.items ≡ ns ++ length text ∷ [] = c.push_reserved.ensures.items ∙ ap (λ (l : List ℕ). l ++ length text ∷ []) c.reserve.ensures.items in
    (λ i. texts_in (lengths i) (c.in_ok-extend_from_slice.ensures.items i)) ∙ texts_more ns bs text c.self.invariant ∙ ap (λ (l : List (List ℕ)). l ++ text ∷ []) c.self.view_is

use Rattle.std.proofs.Common.{◌≡◌, ℕ, ℤ, List, [], ◌∷◌, ◌++◌, length, map, take, get_or, subst, ap, ◌∙◌, arith, rules, FitsSigned, w32}
use Rattle.std.proofs.lemmas.Int.{to_z-of_z}
use Rattle.std.proofs.lemmas.List.{take_all, length-take}
use Rattle.std.specs.List.Sorted.{IsPermutation}
use Rattle.dvi_ops.specs.Numbered.{numbered}
use Rattle.vf_packets.specs.Font.{numbers_of}
use Rattle.vf_packets.specs.LocalViews.{local_view}
use Rattle.vf_packets.specs.declared.local.Local.{Local}
use Rattle.vf_packets.proofs.Numbered.{numbered_more}
use Rattle.vf_packets.proofs.local.index_of.Goals as goal

pub loop-place-preserved : goal.loop-place-preserved
loop-place-preserved c =
    let fonts = c.args.fonts.now in
    let place = c.loop-place.place in
    let f = c.index-fonts-place.result in
    let k : f.k ≡ (get_or fonts place f).k = ap (λ (l : Local). l.k) c.index-fonts-place.is in
    let long : length (take place fonts) ≡ place = grind (arith, length-take place fonts, c.loop-place-test.true) in
    let same : c.in-Ok.place ≡ place = search rules in
    let fits : FitsSigned w32 f.k = search rules in
    (rw (to_z-of_z w32 f.k fits) at c.in_ok-push.ensures) ∙ ap (λ (n : ℕ). c.loop-place.numbers ++ (f.k, n) ∷ []) same ∙ ap (λ (l : List (ℤ × ℕ)). l ++ (f.k, place) ∷ []) c.loop-place.invariant
    ∙ ap (λ (n : ℤ). numbered 0 (numbers_of (map local_view (take place fonts))) ++ (n, place) ∷ []) k ∙ numbered_more fonts place f c.loop-place-test.true long

pub returns : goal.returns
returns c =
    let is = c.loop-place.invariant ∙ ap (λ (l : List Local). numbered 0 (numbers_of (map local_view l))) (take_all c.loop-place.place c.args.fonts.now c.loop-place-test.false) in
    subst (λ (l : List (ℤ × ℕ)). IsPermutation l c.new.result) is c.new.ensures

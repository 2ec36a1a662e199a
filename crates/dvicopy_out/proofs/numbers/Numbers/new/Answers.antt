use Rattle.std.proofs.Common.{◌≡◌, ◌<◌, ℕ, arith, ap, ◌∙◌, length}
use Rattle.std.proofs.lemmas.List.{length-set}
use Rattle.font_set.specs.Fonts.{state_at}
use Rattle.dvicopy_out.specs.Numbered.{is_real, number_of, one_where}
use Rattle.dvicopy_out.proofs.Numbering.{reals_next, table_set}
use Rattle.dvicopy_out.proofs.numbers.Numbers.new.Goals as goal

pub loop-place-preserved : goal.loop-place-preserved
loop-place-preserved c =
    let inv = c.loop-place.invariant in
    let k = c.loop-place.place in
    let set = c.args.fonts.now in
    let within : k < length set.fonts = omega (arith, c.loop-place-test.true, c.count-place-end.ensures.value) in
    let long : k < length c.loop-place.table = omega (arith, inv.long, c.loop-place-test.true, c.count-place-end.ensures.few) in
    let one : c.one_where-next.result ≡ one_where (is_real (state_at set k)) = c.one_where-next.ensures.value ∙ ap one_where (c.is_real.ensures ∙ ap (λ (n : ℕ). is_real (state_at set n)) c.id_at.ensures) in
    record {
      table = λ id h. table_set c.loop-place.table k id c.loop-place.next (number_of set) long inv.table inv.next h;
      next = omega (arith, reals_next set k within, inv.next, one);
      few = omega (arith, inv.few, c.one_where-next.ensures.most);
      long = length-set c.loop-place.table k c.loop-place.next ∙ inv.long;
    }

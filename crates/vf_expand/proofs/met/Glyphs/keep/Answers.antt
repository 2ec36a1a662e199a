use Rattle.std.proofs.Common.{◌≡◌, ◌%◌, arith, ℕ, subst, sym}
use Rattle.vf_expand.specs.Wide.{IsChar}
use Rattle.vf_expand.specs.declared.met.Met.{Met}
use Rattle.vf_expand.proofs.Kept.{each_met}
use Rattle.vf_expand.proofs.met.Glyphs.keep.Goals as goal

pub returns : goal.returns
returns c = λ g fs met char.
    let code : c.slot_of.result % 256 ≡ c.args.code = rw c.slot_of.ensures.value (omega (arith, c.ranges.code.fits)) in
    let m : Met = record { page = c.args.self.now.page; font = c.args.font; glyph = c.args.glyph; wide = c.args.wide } in
    record {
      each = each_met g fs c.args.self.now.page c.args.self.now.met.items c.slot_of.result m (omega (arith, c.slot_of.ensures.inside, c.args.self.now.slots)) met.each (λ same. subst (λ (n : ℕ). IsChar g fs c.args.font n c.args.glyph c.args.wide) (sym code) char);
      starts = met.starts;
    }

use Rattle.std.proofs.lemmas.Result.{err_from_is_err_and}
use Rattle.dv_base.specs.Shelf.{Keeps}
use Rattle.font_set.specs.Views.{key_of}
use Rattle.font_set.proofs.Shelves.{keeps_self, loaded_before}
use Rattle.font_set.proofs.fonts.Fonts.read_font.Goals as goal
use Rattle.font_set.proofs.fonts.Fonts.read_font.Goals.{in-Widths, in-Packets+in_ok-vf-in-Packets}

pub returns-in_err-tfm-in-Some-clause-fault : goal.returns-in_err-tfm-in-Some-clause-fault
returns-in_err-tfm-in-Some-clause-fault g c =
    let a = g.S.Shelf.told c.args.shelf.now in
    let b = g.S.Shelf.told c.match-self.shelf in
    let d = g.S.Shelf.told c.read_tfm.new.shelf in
    let keeps : Keeps a b =
    elim c.match-self.branch [
      | in-Widths w ↦ rw (w.shelf-is) (keeps_self a)
      | in-Packets+in_ok-vf-in-Packets w ↦ rw (w.shelf-is) w.read_vf.ensures.keeps
    ] in
    let p = err_from_is_err_and c.from_residual-in_err-tfm-in-Some.result c.from_residual-in_err-tfm-in-Some.ensures.1 in
    rw (p.1, p.2) (loaded_before c.args.self.now (key_of c.args.key.now) a b d keeps c.in_err-tfm-in-Some.field-0.0 c.in_err-tfm-in-Some.ensures.fault)

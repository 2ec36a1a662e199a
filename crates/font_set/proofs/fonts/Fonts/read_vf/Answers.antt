use Rattle.std.proofs.Common.{rules, ◌≢◌, inl, inr, refl, subst}
use Rattle.std.proofs.lemmas.Result.{err_from_is_err_and}
use Rattle.dv_base.specs.FileName.{text_of}
use Rattle.vf_packets.specs.declared.fault.VfFault.TheVariants.{OutOfMemory}
use Rattle.font_set.specs.Files.{ReadGives}
use Rattle.font_set.specs.Views.{key_of}
use Rattle.font_set.proofs.Packets.{vf_fit}
use Rattle.font_set.proofs.Shelves.{not_read, has_vf}
use Rattle.font_set.proofs.fonts.Fonts.read_vf.Goals as goal

pub returns-in_err-bytes-clause-fault : goal.returns-in_err-bytes-clause-fault
returns-in_err-bytes-clause-fault g c =
    let p = err_from_is_err_and c.from_residual.result c.from_residual.ensures.1 in
    rw (p.1, p.2)
    (not_read c.args.self.now (key_of c.args.key.now) c.appended-name.result 4194304 (g.S.Shelf.told c.args.shelf.now) (g.S.Shelf.told c.read_file.new.shelf) c.in_err-bytes.field-0.0
    (inr (inl (c.requires.wanted, c.appended-name.ensures, refl))) c.in_err-bytes.ensures.fault)

pub returns-in-Ok-clause-vf : goal.returns-in-Ok-clause-vf
returns-in-Ok-clause-vf g c =
    let a = g.S.Shelf.told c.args.shelf.now in
    let b = g.S.Shelf.told c.read_file.new.shelf in
    let read = subst (ReadGives (text_of c.appended-name.result) 4194304 a b) c.in-Some.is c.in_ok-bytes.ensures.read in (
      has_vf a.held (key_of c.args.key.now) (text_of c.appended-name.result) c.in-Some.bytes.items c.in-Ok.vf c.appended-name.ensures read.0 read.1 c.in-Ok.ensures.found,
      vf_fit c.in-Some.bytes.items c.in-Ok.vf read.0 c.in-Ok.ensures.found,
    )

pub returns-in-Err : goal.returns-in-Err
returns-in-Err g c =
    let a = g.S.Shelf.told c.args.shelf.now in
    let b = g.S.Shelf.told c.read_file.new.shelf in
    let read = subst (ReadGives (text_of c.appended-name.result) 4194304 a b) c.in-Some.is c.in_ok-bytes.ensures.read in
    let ours : c.in-Err.fault ≢ OutOfMemory = search rules in
    record {
      vf = tt;
      fault =
          record {
            wanted = c.requires.wanted;
            names = c.appended-name.ensures;
            bytes = c.in-Some.bytes.items;
            held = read.1;
            fault = c.in-Err.ensures.fault;
            ours = ours;
            none = c.in-Err.ensures.none ours;
          };
      keeps = c.read_file.ensures.keeps;
    }

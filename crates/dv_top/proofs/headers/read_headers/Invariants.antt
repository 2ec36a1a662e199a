use Rattle.std.proofs.Common.{◌≡◌, length, map, take}
use Rattle.std.specs.Prelude.{vec_capacity, vec_len}
use Rattle.dv_base.specs.FileName.{text_of}
use Rattle.dv_base.specs.Shelf.{Keeps}
use Rattle.dv_top.specs.Headers.{HeldEach}
use Rattle.dv_top.proofs.headers.read_headers.Given as goal

abbrev pub invariant-loop-name : goal.invariant-loop-name
invariant-loop-name g l =
    let told = g.S.Shelf.told in
    record {
      held : HeldEach (told l.fn.shelf) (map text_of (take l.name-index l.names)) (map (λ f. f.items) l.files.items);
      count : vec_len l.files ≡ l.name-index;
      room : vec_capacity l.files ≡ length l.names;
      keeps : Keeps (told l.fn.shelf) (told l.shelf);
    }

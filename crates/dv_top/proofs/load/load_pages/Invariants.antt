use Rattle.std.proofs.Common.{List, take}
use Rattle.dv_base.specs.Shelf.{Keeps}
use Rattle.dvi_doc.specs.Document.{PageOf}
use Rattle.dv_top.specs.Covered.{CoversPages}
use Rattle.dv_top.specs.Loading.{GainsPages, Orders}
use Rattle.dv_top.specs.Selecting.{ArePages}
use Rattle.dv_top.proofs.load.load_pages.Given as goal

abbrev pub invariant-loop-place : goal.invariant-loop-place
invariant-loop-place g l =
    let told = g.S.Shelf.told in
    record {
      covers : (pages : List PageOf) → ArePages l.doc l.places pages → CoversPages l.fonts l.doc.fonts (take l.place-index pages);
      gains : (pages : List PageOf) → ArePages l.doc l.places pages → GainsPages (told l.fn.shelf) l.doc.fonts (take l.place-index pages) l.fn.fonts l.fonts;
      orders : (pages : List PageOf) → ArePages l.doc l.places pages → Orders l.doc.fonts (take l.place-index pages) l.fn.fonts l.fonts;
      keeps : Keeps (told l.fn.shelf) (told l.shelf);
    }

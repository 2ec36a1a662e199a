use Rattle.std.proofs.Common.{ℕ, List, take}
use Rattle.dv_base.specs.Shelf.{Keeps}
use Rattle.dv_base.specs.Tray.{KeepsNames, Seen}
use Rattle.dvi_doc.specs.Document.{Document}
use Rattle.dvi_doc.specs.Grammar.{IsDoc}
use Rattle.font_set.specs.Gains.{Gains}
use Rattle.dvitype_list.specs.Gathered.{Gathered}
use Rattle.dvitype_list.specs.Kept.{Any, Ran, Stands}
use Rattle.dvitype_list.specs.Listing.{pages_run}
use Rattle.dvitype_list.specs.Standing.{Standing}
use Rattle.dvitype_list.specs.Widths.{setting}
use Rattle.dvitype_list.proofs.listing.pages.Given as goal

abbrev pub invariant-loop-place : goal.invariant-loop-place
invariant-loop-place g l =
    let seen = g.T.Tray.seen in
    let told = g.S.Shelf.told in
    record {
      keeps : KeepsNames (seen l.fn.tray) (seen l.tray);
      shelf : Keeps (told l.fn.shelf) (told l.shelf);
      gains : Gains (told l.fn.shelf).held l.fn.fonts l.fonts Any Any;
      stands : (st : Standing) × Stands l.fonts l.state st;
      goes : (d : Document) → IsDoc l.scene.doc.now.bytes d → (begun : Seen) (text : List ℕ) (st : Standing) → Gathered begun (seen l.fn.tray) l.fn.out.kept.items text → Stands l.fn.fonts l.fn.state st →
          Ran (pages_run (setting l.scene.conv l.scene.doc.now.fonts l.fonts) l.scene.detail d.pages (take l.place-index l.places) st) l.fonts l.state begun (seen l.tray) l.out.kept.items text;
    }

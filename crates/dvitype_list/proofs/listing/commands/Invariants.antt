use Rattle.std.proofs.Common.{ℕ, List, ◌+◌, ◌-◌, ◌≤◌, length, drop}
use Rattle.dv_base.specs.Shelf.{Keeps}
use Rattle.dv_base.specs.Tray.{KeepsNames, Seen}
use Rattle.dvi_doc.specs.Grammar.{AllInner}
use Rattle.dvi_ops.specs.Placed.{Lexes, Placed}
use Rattle.font_set.specs.Gains.{Gains}
use Rattle.dvitype_list.specs.Gathered.{Gathered}
use Rattle.dvitype_list.specs.Kept.{Any, Going, Stands}
use Rattle.dvitype_list.specs.Standing.{Standing}
use Rattle.dvitype_list.specs.Widths.{setting}
use Rattle.dvitype_list.proofs.listing.commands.Given as goal

abbrev pub invariant-loop-at : goal.invariant-loop-at
invariant-loop-at g l =
    let seen = g.T.Tray.seen in
    let told = g.S.Shelf.told in
    record {
      inside : l.at ≤ length l.body;
      ahead : (rest : List Placed) × Lexes (l.first + l.at) (drop l.at l.body) rest × AllInner rest;
      keeps : KeepsNames (seen l.fn.tray) (seen l.tray);
      shelf : Keeps (told l.fn.shelf) (told l.shelf);
      gains : Gains (told l.fn.shelf).held l.fn.fonts l.fonts Any Any;
      stands : (st : Standing) × Stands l.fonts l.state st;
      goes : (begun : Seen) (text : List ℕ) (st : Standing) (cs : List Placed) → Gathered begun (seen l.fn.tray) l.fn.out.kept.items text → Stands l.fn.fonts l.fn.state st → Lexes l.first l.body cs →
          Going (setting l.scene.conv l.scene.doc.now.fonts l.fonts) l.scene.detail cs (l.first + l.at) (drop l.at l.body) st l.fonts l.state begun (seen l.tray) l.out.kept.items text;
    }

abbrev pub decreases-loop-at : goal.decreases-loop-at
decreases-loop-at g l = length l.body - l.at

use Rattle.std.proofs.Common.{◌≡◌, ap, ◌∙◌}
use Rattle.dv_base.specs.MemShelf.{held_of, told_of}
use Rattle.dv_base.specs.Shelf.{Told}
use Rattle.dv_top.proofs.SampleFiles.{nothing_held, three_files}
use Rattle.dv_top.proofs.sample.sample_shelf.Goals as goal

pub returns : goal.returns
returns c =
    record {
      held = held_of c.add-3.new.self;
      holds = ap (λ (t : Told). t.held) c.in_ok-add-3.ensures.counts;
      files =
          three_files
          c.args.pages
          (held_of c.new-shelf.result)
          (held_of c.add.new.self)
          (held_of c.add-2.new.self)
          (held_of c.add-3.new.self)
          _
          _
          _
          (λ name. nothing_held (held_of c.new-shelf.result) name (ap (λ (t : Told). t.held) c.new-shelf.ensures.nothing))
          c.in_ok-add.ensures.puts
          c.in_ok-add-2.ensures.puts
          c.in_ok-add-3.ensures.puts
          (let e = c.in_ok-document.ensures in cc)
          (let e = c.in_ok-widths.ensures in cc)
          (let e = c.in_ok-bitmaps.ensures in cc);
      faults =
          ap (λ (t : Told). t.faults) c.in_ok-add-3.ensures.counts
          ∙ (ap (λ (t : Told). t.faults) c.in_ok-add-2.ensures.counts
          ∙ (ap (λ (t : Told). t.faults) c.in_ok-add.ensures.counts
          ∙ ap (λ (t : Told). t.faults) c.new-shelf.ensures.nothing));
    }

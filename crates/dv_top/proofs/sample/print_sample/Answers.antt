use Rattle.std.proofs.Common.{arith}
use Rattle.dv_base.specs.MemShelf.{told_of}
use Rattle.dv_words.specs.JobView.{print_view}
use Rattle.dv_top.proofs.SampleEnd.{sample_wanting}
use Rattle.dv_top.proofs.sample.print_sample.Goals as goal

pub returns : goal.returns
returns g c =
    record {
      leaves =
          sample_wanting
          (print_view c.sample_print.result)
          (told_of c.args.shelf.now)
          (told_of c.print_job.new.shelf)
          (g.T.Tray.seen c.args.tray.now)
          (g.T.Tray.seen c.print_job.new.tray)
          c.in-Err.outcome
          c.sample_print.ensures.view
          c.in_default.not-WriteFault
          c.in-Err.ensures.leaves;
      later = c.in-Err.ensures.later;
    }

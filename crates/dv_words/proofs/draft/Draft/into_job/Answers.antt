use Rattle.std.proofs.Common.{ap}
use Rattle.std.specs.Option.{option_map}
use Rattle.dv_base.specs.FileName.{text_of}
use Rattle.dv_words.specs.Jobs.Job.{Printing, Listing, Copying}
use Rattle.dv_words.proofs.draft.Draft.into_job.Goals as goal

pub returns-in-Dvips : goal.returns-in-Dvips
returns-in-Dvips c =
    (text_of c.in_ok-input.input, ap (option_map text_of) c.in_ok-input.was, rw c.in-Dvips.is (ap Printing c.into_print_job.ensures))

pub returns-in-Dvitype : goal.returns-in-Dvitype
returns-in-Dvitype c =
    (text_of c.in_ok-input.input, ap (option_map text_of) c.in_ok-input.was, rw c.in-Dvitype.is (ap Listing c.into_list_job.ensures))

pub returns-in-Dvicopy : goal.returns-in-Dvicopy
returns-in-Dvicopy c =
    (text_of c.in_ok-input.input, ap (option_map text_of) c.in_ok-input.was, rw c.in-Dvicopy.is (ap Copying c.into_copy_job.ensures))

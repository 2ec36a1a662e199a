-- What contracts see of the program's jobs.
use Rattle.dv_base.specs.FileName.{text_of}
use Rattle.dv_words.specs.Jobs.{PrintJob, ListJob, CopyJob, Job}
use Rattle.dv_words.specs.Jobs.Job.{Printing, Listing, Copying, Sampling}
use Rattle.dv_words.specs.declared.job.PrintJob.{PrintJob as ThePrintJob}
use Rattle.dv_words.specs.declared.job.ListJob.{ListJob as TheListJob}
use Rattle.dv_words.specs.declared.job.CopyJob.{CopyJob as TheCopyJob}
use Rattle.dv_words.specs.declared.job.Job.{Job as TheJob}
use Rattle.dv_words.specs.declared.job.Job.TheVariants as the

abbrev pub print_view : ThePrintJob → PrintJob
print_view j =
    record {
      input = text_of j.input;
      output = text_of j.output;
      windows = j.windows;
      limit = j.limit;
      reverse = j.reverse;
      parity = j.parity;
      copies = j.copies;
      collated = j.collated;
      mag = j.mag;
      dpi = j.dpi;
      per_section = j.per_section;
      headers = j.headers;
      quiet = j.quiet;
      comments = j.comments;
      paper = j.paper;
      offset = j.offset;
      drift = j.drift;
      memory = j.memory;
      pass_ps = j.pass_ps;
    }

abbrev pub list_view : TheListJob → ListJob
list_view j = record { input = text_of j.input; start = j.start; most = j.most; dpi = j.dpi; mag = j.mag; detail = j.detail }

abbrev pub copy_view : TheCopyJob → CopyJob
copy_view j = record { input = text_of j.input; output = text_of j.output; start = j.start; most = j.most; mag = j.mag }

abbrev pub job_view : TheJob → Job
job_view (the.Print job) = Printing (print_view job)
job_view (the.List job) = Listing (list_view job)
job_view (the.Copy job) = Copying (copy_view job)
job_view (the.Sample pages) = Sampling pages

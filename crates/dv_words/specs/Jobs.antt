-- The jobs that words ask for, and the job of a draft that has an input.
use Rattle.std.specs.Prelude.{◌≡◌, ℕ, ℤ, List, [], ◌∷◌, Bool, false, Option, Some, None, codes, ◌||◌}
use Rattle.std.specs.Option.{option_map, unwrap_or}
use Rattle.dv_words.specs.Draft.{Draft}
use Rattle.dv_words.specs.Names.{printed_name}
use Rattle.dv_words.specs.declared.draft.Bound.{Bound}
use Rattle.dv_words.specs.declared.pages.Window.{Window}
use Rattle.dv_words.specs.declared.pages.Parity.{Parity}
use Rattle.dv_words.specs.declared.pages.Windows.{Windows}
use Rattle.dv_words.specs.declared.pages.Windows.TheVariants.{All, One, Many}
use Rattle.dv_words.specs.declared.tool.Tool.{Tool}
use Rattle.dv_words.specs.declared.tool.Tool.TheVariants.{Dvips, Dvitype, Dvicopy}

pub record PrintJob : Type 0 where
  pub input : List ℕ
  pub output : List ℕ
  pub windows : Windows
  pub limit : Option ℕ
  pub reverse : Bool
  pub parity : Parity
  pub copies : ℕ
  pub collated : ℕ
  pub mag : Option ℕ
  pub dpi : ℕ × ℕ
  pub per_section : Option ℕ
  pub headers : List (List ℕ)
  pub quiet : Bool
  pub comments : Bool
  pub paper : Option (ℤ × ℤ)
  pub offset : ℤ × ℤ
  pub drift : ℕ
  pub memory : ℕ
  pub pass_ps : Bool

pub record ListJob : Type 0 where
  pub input : List ℕ
  pub start : Option ℤ
  pub most : ℕ
  pub dpi : ℕ
  pub mag : Option ℕ
  pub detail : ℕ

pub record CopyJob : Type 0 where
  pub input : List ℕ
  pub output : List ℕ
  pub start : Option ℤ
  pub most : ℕ
  pub mag : Option ℕ

pub data Job : Type 0 where
  Printing : (job : PrintJob) → Job
  Listing : (job : ListJob) → Job
  Copying : (job : CopyJob) → Job
  Sampling : (pages : ℕ) → Job

-- where either number counts pages from 1, both do
abbrev pub is_physical : Option Bound → Bool
is_physical bound = unwrap_or (option_map (λ b. b.physical) bound) false

abbrev pub number_in : Option Bound → Option ℤ
number_in bound = option_map (λ b. b.number) bound

abbrev pub one_window : Option Bound → Option Bound → Windows
one_window None None = All
one_window (Some first) last = One (Some first.number) (number_in last) (first.physical || is_physical last)
one_window None (Some last) = One None (Some last.number) last.physical

abbrev pub windows_in : List Window → Option Bound → Option Bound → Windows
windows_in [] first last = one_window first last
windows_in (w ∷ ws) first last = Many (w ∷ ws)

abbrev pub print_job : List ℕ → Draft → PrintJob
print_job input d =
    record {
      input = input;
      output = unwrap_or d.output (printed_name input);
      windows = windows_in d.ranges d.first d.last;
      limit = d.limit;
      reverse = d.reverse;
      parity = d.parity;
      copies = d.copies;
      collated = d.collated;
      mag = d.magnification;
      dpi = (unwrap_or d.across 600, unwrap_or d.down 600);
      per_section = d.per_section;
      headers = d.headers;
      quiet = d.quiet;
      comments = d.comments;
      paper = d.paper;
      offset = d.offset;
      drift = d.drift;
      memory = d.memory;
      pass_ps = d.pass_ps;
    }

abbrev pub list_job : List ℕ → Draft → ListJob
list_job input d =
    record {
      input = input;
      start = number_in d.first;
      most = unwrap_or d.limit 1000000;
      dpi = unwrap_or d.across 300;
      mag = d.magnification;
      detail = d.detail;
    }

abbrev pub copy_job : List ℕ → Draft → CopyJob
copy_job input d =
    record {
      input = input;
      output = unwrap_or d.output (codes "-");
      start = number_in d.first;
      most = unwrap_or d.limit 1000000;
      mag = d.magnification;
    }

-- the job of a tool with this input
abbrev pub job_of : Tool → List ℕ → Draft → Job
job_of Dvips input d = Printing (print_job input d)
job_of Dvitype input d = Listing (list_job input d)
job_of Dvicopy input d = Copying (copy_job input d)

-- the draft has an input, and this is its job
abbrev pub HasJob : Tool → Draft → Job → Type 0
HasJob tool d job = (input : List ℕ) × (d.input ≡ Some input) × (job ≡ job_of tool input d)

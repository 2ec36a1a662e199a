-- Which pages are chosen. A document is here the list of its pages' numbers, TeX's count 0; a place counts from 0. How windows, parity,
-- limit, reversal and repetition follow one another is this project's own.
use Rattle.std.specs.Prelude.{◌+◌, ◌-◌, ◌%◌, ℕ, zero, suc, ℤ, pos, List, [], ◌∷◌, ◌++◌, Bool, true, false, not, Option, Some, None, Result, Ok, Err, nat_le, nat_lt, nat_eq, int_lt, int_le, nat_abs, length, take, reverse, map, ◌&&◌, if◌then◌else◌}
use Rattle.std.specs.List.{list_any}
use Rattle.std.specs.Option.{ok_or}
use Rattle.dv_words.specs.Finding.{first_from}
use Rattle.dv_words.specs.declared.pages.Window.{Window}
use Rattle.dv_words.specs.declared.pages.Windows.{Windows}
use Rattle.dv_words.specs.declared.pages.Windows.TheVariants as windows
use Rattle.dv_words.specs.declared.pages.Parity.{Parity}
use Rattle.dv_words.specs.declared.pages.Parity.TheVariants.{All, Odd, Even}
use Rattle.dv_words.specs.declared.spans.Span.{Span}
use Rattle.dv_words.specs.declared.spans.Wanted.{Wanted}

-- each window by its two numbers; without one it begins with the first page, or ends with the last
abbrev pub one_of : Window → Wanted
one_of w = record { first = Some w.first; last = Some w.last; physical = false }

abbrev pub wanted_in : Windows → List Wanted
wanted_in windows.All = record { first = None; last = None; physical = false } ∷ []
wanted_in (windows.One first last physical) = record { first = first; last = last; physical = physical } ∷ []
wanted_in (windows.Many list) = map one_of list

-- a page by its physical number, which counts from 1, from the start on
abbrev pub counted : ℕ → ℤ → ℕ → Option ℕ
counted start number pages = if int_lt (pos start) number && int_le number (pos pages) then Some (nat_abs number - 1) else None

abbrev pub find : Bool → ℕ → ℤ → List ℤ → Option ℕ
find true start number numbers = counted start number (length numbers)
find false start number numbers = first_from 0 start number numbers

-- without a number, from the first page on
abbrev pub start_at : Bool → Option ℤ → List ℤ → Result ℕ ℤ
start_at physical None numbers = Ok 0
start_at physical (Some first) numbers = ok_or (find physical 0 first numbers) first

abbrev pub behind : Result ℕ ℤ → Result ℕ ℤ
behind (Ok place) = Ok (place + 1)
behind (Err number) = Err number

-- without a number, up to the last page
abbrev pub stop_at : Bool → Option ℤ → ℕ → List ℤ → Result ℕ ℤ
stop_at physical None start numbers = Ok (length numbers)
stop_at physical (Some last) start numbers = behind (ok_or (find physical start last numbers) last)

abbrev pub up_to : ℕ → Result ℕ ℤ → Result Span ℤ
up_to start (Ok stop) = Ok (record { start = start; stop = stop })
up_to start (Err number) = Err number

abbrev pub from_start : Wanted → List ℤ → Result ℕ ℤ → Result Span ℤ
from_start w numbers (Ok start) = up_to start (stop_at w.physical w.last start numbers)
from_start w numbers (Err number) = Err number

-- the places of a window, or the first of its numbers that isn't there
abbrev pub span_of : List ℤ → Wanted → Result Span ℤ
span_of numbers w = from_start w numbers (start_at w.physical w.first numbers)

abbrev pub and_then : Result Span ℤ → Result (List Span) ℤ → Result (List Span) ℤ
and_then (Ok span) (Ok spans) = Ok (span ∷ spans)
and_then (Ok span) (Err number) = Err number
and_then (Err number) rest = Err number

-- the same of several windows, one after another
abbrev pub spans_of : List ℤ → List Wanted → Result (List Span) ℤ
spans_of numbers [] = Ok []
spans_of numbers (w ∷ ws) = and_then (span_of numbers w) (spans_of numbers ws)

abbrev pub covers : ℕ → Span → Bool
covers place span = nat_le span.start place && nat_lt place span.stop

abbrev pub is_odd : ℤ → Bool
is_odd number = nat_eq (nat_abs number % 2) 1

abbrev pub keeps : Parity → ℤ → Bool
keeps All number = true
keeps Odd number = is_odd number
keeps Even number = not (is_odd number)

-- the places in any of the windows whose numbers have the parity, in file order; `place` is that of the list's first number
abbrev pub kept_from : ℕ → List Span → Parity → List ℤ → List ℕ
kept_from place spans parity [] = []
kept_from place spans parity (n ∷ ns) =
    if list_any (covers place) spans && keeps parity n then place ∷ kept_from (suc place) spans parity ns
    else kept_from (suc place) spans parity ns

abbrev pub limited : Option ℕ → List ℕ → List ℕ
limited None places = places
limited (Some limit) places = take limit places

abbrev pub turned : Bool → List ℕ → List ℕ
turned reversed places = if reversed then reverse places else places

abbrev pub times : ℕ → List ℕ → List ℕ
times zero places = []
times (suc n) places = places ++ times n places

-- windows, parity, limit, reversal, repetition
abbrev pub chosen : List ℤ → List Span → Parity → Option ℕ → Bool → ℕ → List ℕ
chosen numbers spans parity limit reversed collated = times collated (turned reversed (limited limit (kept_from 0 spans parity numbers)))

-- What each option sets, and after what it may stand.
use Rattle.std.specs.Prelude.{ℕ, ℤ, pos, List, [], ◌∷◌, ◌++◌, Bool, true, false, not, Option, Some, None, nat_eq, nat_lt, int_lt, length, codes, ◌&&◌, if◌then◌else◌}
use Rattle.std.specs.List.{before_first, after_first}
use Rattle.std.specs.Option.{option_map, option_zip, is_none}
use Rattle.specials.specs.Commas.{is_comma}
use Rattle.specials.specs.Dimension.{dimension_of}
use Rattle.dv_words.specs.Names.{name_of, is_word}
use Rattle.dv_words.specs.Numbers.{number_from, page_number}
use Rattle.dv_words.specs.Draft.{Draft}
use Rattle.dv_words.specs.Windows.{windows_of}
use Rattle.dv_words.specs.declared.pages.Window.{Window}
use Rattle.dv_words.specs.declared.pages.Parity.{Parity}
use Rattle.dv_words.specs.declared.pages.Parity.TheVariants.{All, Odd, Even}
use Rattle.dv_words.specs.declared.draft.Bound.{Bound}
use Rattle.dv_words.specs.declared.setting.Setting.{Setting}
use Rattle.dv_words.specs.declared.setting.Setting.TheVariants as setting

-- a page's number; behind `=` (61) it counts the pages from 1
abbrev pub bound_of : List ℕ → Option Bound
bound_of [] = None
bound_of (c ∷ cs) = if nat_eq c 61 then option_map (λ n. record { physical = true; number = n }) (page_number cs)
    else option_map (λ n. record { physical = false; number = n }) (page_number (c ∷ cs))

-- paper by name: width and height in scaled points
abbrev pub paper_of : List ℕ → Option (ℤ × ℤ)
paper_of name =
    if is_word name (codes "letter") then Some (pos 40258437, pos 52099153)
    else if is_word name (codes "legal") then Some (pos 40258437, pos 66308014)
    else if is_word name (codes "tabloid") then Some (pos 52099153, pos 80516874)
    else if is_word name (codes "ledger") then Some (pos 80516874, pos 52099153)
    else if is_word name (codes "a3") then Some (pos 55380990, pos 78316552)
    else if is_word name (codes "a4") then Some (pos 39158276, pos 55380990)
    else if is_word name (codes "a5") then Some (pos 27597261, pos 39158276)
    else None

-- two dimensions with a comma between
abbrev pub pair_of : List ℕ → Option (ℤ × ℤ)
pair_of p = option_zip (dimension_of (before_first is_comma p)) (dimension_of (after_first is_comma p))

abbrev pub if_above_zero : Option (ℤ × ℤ) → Option (ℤ × ℤ)
if_above_zero None = None
if_above_zero (Some size) = if int_lt (pos 0) size.0 && int_lt (pos 0) size.1 then Some size else None

-- a flag has the empty parameter
abbrev pub only : List ℕ → List ℕ → (Draft → Draft) → Option (Draft → Draft)
only text parameter change = if is_word parameter text then Some change else None

-- What an option's parameter sets, where it is one. Of several the last one counts, since each sets its field anew; headers and ranges grow.
abbrev pub reads : Setting → List ℕ → Option (Draft → Draft)
reads setting.First p = option_map (λ b d. record d { first = Some b }) (bound_of p)
reads setting.Last p = option_map (λ b d. record d { last = Some b }) (bound_of p)
reads setting.Ranges p = option_map (λ ws d. record d { ranges = d.ranges ++ ws }) (windows_of p)
reads setting.Limit p = option_map (λ k d. record d { limit = Some k }) (number_from 1 1000000 p)
reads setting.Reverse p = only [] p (λ d. record d { reverse = true })
reads setting.Odd p = only [] p (λ d. record d { parity = Odd })
reads setting.Even p = only [] p (λ d. record d { parity = Even })
reads setting.Copies p = option_map (λ k d. record d { copies = k }) (number_from 1 999 p)
reads setting.Collated p = option_map (λ k d. record d { collated = k }) (number_from 1 999 p)
reads setting.Magnification p = option_map (λ k d. record d { magnification = Some k }) (number_from 10 100000 p)
reads setting.Resolution p = option_map (λ k d. record d { across = Some k; down = Some k }) (number_from 10 10000 p)
reads setting.Across p = option_map (λ k d. record d { across = Some k }) (number_from 10 10000 p)
reads setting.Down p = option_map (λ k d. record d { down = Some k }) (number_from 10 10000 p)
reads setting.PerSection p = option_map (λ k d. record d { per_section = Some k }) (number_from 1 1000000 p)
reads setting.Header p = option_map (λ name d. record d { headers = d.headers ++ name ∷ [] }) (name_of p)
reads setting.Quiet p = only [] p (λ d. record d { quiet = true })
reads setting.Bare p = only [] p (λ d. record d { comments = false })
reads setting.Output p = option_map (λ name d. record d { output = Some name }) (name_of p)
reads setting.Paper p = option_map (λ size d. record d { paper = Some size }) (paper_of p)
reads setting.PaperSize p = option_map (λ size d. record d { paper = Some size }) (if_above_zero (pair_of p))
reads setting.Offset p = option_map (λ offset d. record d { offset = offset }) (pair_of p)
reads setting.Drift p = option_map (λ k d. record d { drift = k }) (number_from 0 1000 p)
reads setting.Memory p = option_map (λ k d. record d { memory = k }) (number_from 1 2147483647 p)
reads setting.PassPs p = only (codes "ps") p (λ d. record d { pass_ps = true })
reads setting.Start p = option_map (λ n d. record d { first = Some (record { physical = false; number = n }) }) (page_number p)
reads setting.Detail p = option_map (λ k d. record d { detail = k }) (number_from 0 1 p)

abbrev pub is_parity : Parity → Parity → Bool
is_parity All All = true
is_parity Odd Odd = true
is_parity Even Even = true
is_parity _ _ = false

abbrev pub are_none : List Window → Bool
are_none [] = true
are_none (w ∷ ws) = false

-- After what an option may stand: no numbers of pages together with ranges, odd pages not together with even ones, at most 64 headers.
abbrev pub stands : Setting → Draft → Bool
stands setting.First d = are_none d.ranges
stands setting.Last d = are_none d.ranges
stands setting.Ranges d = is_none d.first && is_none d.last
stands setting.Odd d = not (is_parity d.parity Even)
stands setting.Even d = not (is_parity d.parity Odd)
stands setting.Header d = nat_lt (length d.headers) 64
stands _ d = true

-- Two classes of settings, of which no public clause speaks: flags, and settings that grow
abbrev pub is_flag : Setting → Bool
is_flag setting.Reverse = true
is_flag setting.Odd = true
is_flag setting.Even = true
is_flag setting.Quiet = true
is_flag setting.Bare = true
is_flag setting.PassPs = true
is_flag _ = false

abbrev pub grows : Setting → Bool
grows setting.Ranges = true
grows setting.Header = true
grows _ = false

-- Lists of windows of pages.
use Rattle.std.specs.Prelude.{◌≡◌, ℕ, ℤ, List, [], ◌∷◌, ◌++◌, Bool, true, false, Option, Some, None, nat_eq, nat_lt, length, ◌||◌, if◌then◌else◌}
use Rattle.std.specs.List.{position_or_len, before_first, after_first, slice_split}
use Rattle.specials.specs.Commas.{is_comma}
use Rattle.dv_words.specs.Numbers.{page_number}
use Rattle.dv_words.specs.declared.pages.Window.{Window}

abbrev pub both : Option ℤ → Option ℤ → Option Window
both (Some n) (Some m) = Some (record { first = n; last = m })
both (Some n) None = None
both None m = None

abbrev pub is_dash : ℕ → Bool
is_dash c = nat_eq c 45 || nat_eq c 58

-- n, n-m or n:m; the minus sign of n is no dash between two numbers
abbrev pub window_of : List ℕ → Option Window
window_of [] = None
window_of (c ∷ cs) = if nat_lt (position_or_len is_dash cs) (length cs) then both (page_number (c ∷ before_first is_dash cs)) (page_number (after_first is_dash cs))
    else both (page_number (c ∷ cs)) (page_number (c ∷ cs))

abbrev pub join : Option Window → Option (List Window) → Option (List Window)
join (Some w) (Some ws) = Some (w ∷ ws)
join (Some w) None = None
join None ws = None

abbrev pub all_windows : List (List ℕ) → Option (List Window)
all_windows [] = Some []
all_windows (item ∷ items) = join (window_of item) (all_windows items)

-- such items, with commas between them
abbrev pub windows_of : List ℕ → Option (List Window)
windows_of list = all_windows (slice_split is_comma list)

-- what reading a list does to the windows before it
abbrev pub Adds : Option (List Window) → List Window → Bool → List Window → Type 0
Adds None before done after = done ≡ false
Adds (Some ws) before done after = (done ≡ true) × (after ≡ before ++ ws)

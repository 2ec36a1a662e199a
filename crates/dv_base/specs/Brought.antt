-- Pixels that are brought near others.
use Rattle.std.specs.Prelude.{◌≡◌, ◌≤◌, ◌+◌, ◌⊎◌, ℕ, ℤ, pos, ◌+ℤ◌, ◌-ℤ◌, neg_ℤ}
use Rattle.std.specs.Int.{int_max, int_min}

-- n, brought into the range from t - e to t + e
unfoldable pub brought : ℤ → ℤ → ℤ → ℤ
brought t e n = int_max (t -ℤ e) (int_min n (t +ℤ e))

-- What leads from a range to a number: nothing where it is inside; else one, and the number is the next to the range.
abbrev pub IsWay : ℕ → ℕ → ℕ → ℤ → Type 0
IsWay least most q way =
    ((way ≡ pos 0) × (least ≤ q) × (q ≤ most)) ⊎ (((way ≡ pos 1) × (q ≡ most + 1)) ⊎ ((way ≡ neg_ℤ (pos 1)) × (q + 1 ≡ least)))

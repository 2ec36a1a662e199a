-- TeX's units of length, as ratios to a point. 72.27 points make an inch, and an inch is 2.54 centimetres.
use Rattle.std.specs.Prelude.{ℕ, List, Bool, Option, Some, None, nat_eq, codes, if◌then◌else◌}
use Rattle.std.specs.Cmp.Lexicographic.{pointwise}

abbrev pub is_text : List ℕ → List ℕ → Bool
is_text a b = pointwise nat_eq a b

-- how many points one of the unit has, as numerator and denominator, where the text names a unit
abbrev pub ratio_of : List ℕ → Option (ℕ × ℕ)
ratio_of unit =
    if is_text unit (codes "pt") then Some (1, 1)
    else if is_text unit (codes "pc") then Some (12, 1)
    else if is_text unit (codes "in") then Some (7227, 100)
    else if is_text unit (codes "cm") then Some (7227, 254)
    else if is_text unit (codes "mm") then Some (7227, 2540)
    else if is_text unit (codes "bp") then Some (7227, 7200)
    else if is_text unit (codes "dd") then Some (1238, 1157)
    else if is_text unit (codes "cc") then Some (14856, 1157)
    else if is_text unit (codes "sp") then Some (1, 65536)
    else None

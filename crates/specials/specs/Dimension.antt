-- A dimension as users write it (TeX's units): an optional minus sign, up to seven digits, optionally a point and up to six digits, with
-- at least one digit in all, and a unit. Its value is in scaled points, 65536 of which make a point. How many digits may stand, and that
-- the value is cut towards zero, is this project's own.
use Rattle.std.specs.Prelude.{ℕ, ℤ, pos, neg_ℤ, List, [], ◌∷◌, Bool, Option, Some, None, length, nat_eq, nat_le, nat_lt, ◌&&◌, ◌+◌, ◌*◌, ◌/◌, ◌^◌, if◌then◌else◌}
use Rattle.std.specs.Option.{option_map}
use Rattle.std.specs.Str.Parse.{digits_value}
use Rattle.specials.specs.Decimals.{digits_of, behind_digits}
use Rattle.specials.specs.Units.{ratio_of}

-- behind the whole digits: the digits after a point, where there is one
abbrev pub part_of : List ℕ → List ℕ
part_of [] = []
part_of (c ∷ cs) = if nat_eq c 46 then digits_of cs else []

-- behind the whole digits: the unit
abbrev pub unit_of : List ℕ → List ℕ
unit_of [] = []
unit_of (c ∷ cs) = if nat_eq c 46 then behind_digits cs else c ∷ cs

-- as many digits before and after the point as may stand
abbrev pub are_few : ℕ → ℕ → Bool
are_few whole part = nat_le whole 7 && nat_le part 6 && nat_lt 0 (whole + part)

-- a size of at most 2^31-1 scaled points
abbrev pub if_small : ℕ → Option ℕ
if_small size = if nat_lt size (2 ^ 31) then Some size else None

-- the number `whole.part` of the unit with this ratio, in scaled points, cut
abbrev pub scaled_points : List ℕ → List ℕ → ℕ × ℕ → ℕ
scaled_points whole part ratio =
    (digits_value 10 whole * 10 ^ length part + digits_value 10 part) * 65536 * ratio.0 / (10 ^ length part * ratio.1)

abbrev pub sized : List ℕ → List ℕ → Option (ℕ × ℕ) → Option ℕ
sized whole part None = None
sized whole part (Some ratio) = if are_few (length whole) (length part) then if_small (scaled_points whole part ratio) else None

-- a dimension without its sign
abbrev pub size_of : List ℕ → Option ℕ
size_of text = sized (digits_of text) (part_of (behind_digits text)) (ratio_of (unit_of (behind_digits text)))

-- a dimension; 45 is the minus sign
abbrev pub dimension_of : List ℕ → Option ℤ
dimension_of [] = None
dimension_of (c ∷ cs) = if nat_eq c 45 then option_map (λ n. neg_ℤ (pos n)) (size_of cs) else option_map pos (size_of (c ∷ cs))

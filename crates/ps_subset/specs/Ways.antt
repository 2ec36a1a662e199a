-- The ways behind a string: which name shows it and then moves on.
use Rattle.std.specs.Prelude.{ℕ, zero, suc, List, ℤ, pos, negsuc, Option, Some, None, codes}

-- a name that shows a string and moves by -4 to 4 pixels, 0 left out
abbrev pub short_name : ℤ → Option (List ℕ)
short_name (negsuc (suc (suc (suc zero)))) = Some (codes "l")
short_name (negsuc (suc (suc zero))) = Some (codes "m")
short_name (negsuc (suc zero)) = Some (codes "n")
short_name (negsuc zero) = Some (codes "o")
short_name (pos (suc zero)) = Some (codes "q")
short_name (pos (suc (suc zero))) = Some (codes "r")
short_name (pos (suc (suc (suc zero)))) = Some (codes "s")
short_name (pos (suc (suc (suc (suc zero))))) = Some (codes "t")
short_name _ = None

-- a name that shows a string and moves by delta and -4 to 4 pixels
abbrev pub near_name : ℤ → Option (List ℕ)
near_name (negsuc (suc (suc (suc zero)))) = Some (codes "c")
near_name (negsuc (suc (suc zero))) = Some (codes "d")
near_name (negsuc (suc zero)) = Some (codes "e")
near_name (negsuc zero) = Some (codes "f")
near_name (pos zero) = Some (codes "g")
near_name (pos (suc zero)) = Some (codes "h")
near_name (pos (suc (suc zero))) = Some (codes "i")
near_name (pos (suc (suc (suc zero)))) = Some (codes "j")
near_name (pos (suc (suc (suc (suc zero))))) = Some (codes "k")
near_name _ = None

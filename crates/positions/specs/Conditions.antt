-- What a canvas keeps from call to call.
use Rattle.std.specs.Prelude.{◌↔◌}
use Rattle.positions.specs.Mark.{Mark}

-- the later canvas can take exactly the marks that the earlier one can
abbrev pub SameCondition : {C : Type 0} → (C → Mark → Type 0) → C → C → Type 0
SameCondition can old new = (mark : Mark) → can old mark ↔ can new mark

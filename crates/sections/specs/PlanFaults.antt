-- When a page isn't planned.
use Rattle.std.specs.Prelude.{◌≡◌, ◌<◌, ◌≤◌, ℕ}
use Rattle.font_set.specs.Fonts.{FontSet}
use Rattle.sections.specs.Used.{Used, is_used}
use Rattle.sections.specs.Cost.{cost}
use Rattle.sections.specs.declared.planner.PlanFault.{PlanFault}
use Rattle.sections.specs.declared.planner.PlanFault.TheVariants as fault

-- The page, counted from 1, costs more than the budget by itself, and this is what it needs; memory may be wanting for one that doesn't.
abbrev pub PlanFaultIs : FontSet → ℕ → ℕ → Used → PlanFault → Type 0
PlanFaultIs set budget page used (fault.PageTooBig p need have) = (p ≡ page) × (need ≡ cost set (is_used used)) × (have ≡ budget) × (budget < cost set (is_used used))
PlanFaultIs set budget page used fault.OutOfMemory = cost set (is_used used) ≤ budget

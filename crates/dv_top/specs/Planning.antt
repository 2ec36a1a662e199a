-- Why pages can't be put into sections, and what a draft of the sections has. No public clause cites this module.
use Rattle.std.specs.Prelude.{◌≡◌, ◌≤◌, ◌⊎◌, ℕ, List, length, Option, MatchOption}
use Rattle.positions.specs.Mark.{Mark}
use Rattle.font_set.specs.Fonts.{FontSet}
use Rattle.sections.specs.Cost.{marks_cost}
use Rattle.sections.specs.Planned.{IsPlanned, Planning, pages_given}
use Rattle.sections.specs.declared.planner.PlanFault.{PlanFault}
use Rattle.sections.specs.declared.planner.PlanFault.TheVariants as plan
use Rattle.dv_top.specs.Each.{Each}
use Rattle.dv_top.specs.Reasons.{IsTooBig}
use Rattle.dv_top.specs.declared.outcome.Outcome.{Outcome}
use Rattle.dv_top.specs.declared.outcome.Outcome.TheVariants as outcome

-- the outcome that tells of a page that can't be planned
abbrev pub PlanTells : PlanFault → Outcome → Type 0
PlanTells (plan.PageTooBig page need have) o = o ≡ outcome.PageTooBig page need have
PlanTells plan.OutOfMemory o = o ≡ outcome.OutOfMemory

-- Memory was refused, or a page costs too much.
abbrev pub PlanFails : FontSet → ℕ → List (List Mark) → Outcome → Type 0
PlanFails set budget pages o =
    (o ≡ outcome.OutOfMemory) ⊎ ((page : ℕ) × (need : ℕ) × (have : ℕ) × (o ≡ outcome.PageTooBig page need have) × IsTooBig set budget pages page need have)

-- Why these pages can't all be planned: memory was refused, or one of them costs too much.
abbrev pub IsUnplanned : FontSet → ℕ → List (List Mark) → PlanFault → Type 0
IsUnplanned set budget pages (plan.PageTooBig page need have) = IsTooBig set budget pages page need have
IsUnplanned set budget pages plan.OutOfMemory = Unit {0}

-- each page is within the budget
abbrev pub AreLight : FontSet → ℕ → List (List Mark) → Type 0
AreLight set budget pages = Each (λ marks. marks_cost set marks ≤ budget) pages

-- A draft: a planner, and the fault that it met first.
pub record Drafted : Type 0 where
  pub planning : Planning
  pub fault : Option PlanFault

-- all of these pages are planned, and each is within the budget
pub record IsWhole (set : FontSet) (p : Planning) (pages : List (List Mark)) : Type 0 where
  pub planned : IsPlanned set p pages
  pub count : pages_given p ≡ length pages
  pub light : AreLight set p.budget pages

-- A draft was given these pages, for sections with these limits: all of them are planned, or its fault tells why they can't be.
pub record HasDrafted (set : FontSet) (budget : ℕ) (most : Option ℕ) (d : Drafted) (pages : List (List Mark)) : Type 0 where
  pub budget_is : d.planning.budget ≡ budget
  pub most_is : d.planning.most ≡ most
  pub so_far : MatchOption d.fault (IsWhole set d.planning pages) (λ fault. IsUnplanned set budget pages fault)

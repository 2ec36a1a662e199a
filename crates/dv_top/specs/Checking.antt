-- Why pages can't be walked over.
use Rattle.std.specs.Prelude.{◌≡◌, ◌<◌, ◌⊎◌, List, Option, Some, None}
use Rattle.positions.specs.declared.canvas.NoFault.{NoFault}
use Rattle.dvi_ops.specs.Command.{Definition}
use Rattle.dvi_doc.specs.Document.{PageOf}
use Rattle.font_set.specs.Fonts.{FontSet}
use Rattle.vf_expand.specs.Grid.{Grid}
use Rattle.vf_expand.specs.Page.{IsPageCause, pages_count}
use Rattle.vf_expand.specs.declared.fault.WalkFault.{WalkFault}
use Rattle.vf_expand.specs.declared.fault.WalkFault.TheVariants as walk
use Rattle.dv_top.specs.Printing.{most_steps}
use Rattle.dv_top.specs.Sources.{InSomePage}
use Rattle.dv_top.specs.Tells.{WalkTells}
use Rattle.dv_top.specs.declared.outcome.Outcome.{Outcome}
use Rattle.dv_top.specs.declared.outcome.Outcome.TheVariants as outcome

-- Why the pages can't be walked over: a fault stands in one of them, or they run too many commands.
abbrev pub StopsIn : Grid → FontSet → List Definition → List PageOf → WalkFault NoFault → Type 0
StopsIn g set ds pages walk.TooManySteps = most_steps < pages_count set ds pages
StopsIn g set ds pages (walk.Canvas f) = ⊥
StopsIn g set ds pages fault = InSomePage pages (λ p. IsPageCause g set ds p fault)

-- and the outcome tells of it
abbrev pub IsWalkReason : Grid → FontSet → List Definition → List PageOf → Outcome → Type 0
IsWalkReason g set ds pages o = (fault : WalkFault NoFault) × WalkTells set fault o × StopsIn g set ds pages fault

-- The pages can't be printed: memory was refused, or they can't be walked over.
abbrev pub CheckFails : Grid → FontSet → List Definition → List PageOf → Outcome → Type 0
CheckFails g set ds pages o = (o ≡ outcome.OutOfMemory) ⊎ IsWalkReason g set ds pages o

-- the same fault of a walk, where it isn't one of the canvas
abbrev pub alone : {F : Type 0} → WalkFault F → Option (WalkFault NoFault)
alone (walk.StackUnder spot) = Some (walk.StackUnder spot)
alone (walk.StackLeft spot) = Some (walk.StackLeft spot)
alone (walk.StackDeep spot) = Some (walk.StackDeep spot)
alone (walk.NestDeep id code) = Some (walk.NestDeep id code)
alone walk.TooManySteps = Some walk.TooManySteps
alone (walk.Overflow spot) = Some (walk.Overflow spot)
alone (walk.Canvas f) = None

-- The outcome of a walk whose canvas takes memory: that was refused, or the outcome tells of the fault.
abbrev pub StopTells : {F : Type 0} → FontSet → WalkFault F → Outcome → Type 0
StopTells set fault o = (o ≡ outcome.OutOfMemory) ⊎ ((f : WalkFault NoFault) × (alone fault ≡ Some f) × WalkTells set f o)

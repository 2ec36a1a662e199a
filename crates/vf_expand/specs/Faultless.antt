-- A page whose marks are defined has no fault of its own; only a push can be too deep in it, and its commands can be too many.
use Rattle.std.specs.Prelude.{◌≡◌, List, Some}
use Rattle.positions.specs.Mark.{Mark}
use Rattle.dvi_ops.specs.Command.{Definition}
use Rattle.dvi_doc.specs.Document.{PageOf}
use Rattle.font_set.specs.Fonts.{FontSet}
use Rattle.vf_expand.specs.Grid.{Grid, State}
use Rattle.vf_expand.specs.Page.{page_marks, IsPageCause}
use Rattle.vf_expand.specs.declared.fault.WalkFault.{WalkFault}
use Rattle.vf_expand.specs.declared.fault.WalkFault.TheVariants as fault

-- a fault that can come where the marks are defined
abbrev pub LeavesMarks : {F : Type 0} → WalkFault F → Type 0
LeavesMarks (fault.StackDeep x) = Unit {0}
LeavesMarks fault.TooManySteps = Unit {0}
LeavesMarks (fault.Canvas f) = Unit {0}
LeavesMarks _ = ⊥

-- (what the canvas answers doesn't matter here, so its faults are those of one value)
abbrev pub MarkedIsFaultless : Type 0
MarkedIsFaultless = (g : Grid) (set : FontSet) (ds : List Definition) (p : PageOf) (r : List Mark × State) → page_marks g set ds p.commands ≡ Some r → (e : WalkFault (Unit {0})) → IsPageCause g set ds p e → LeavesMarks e

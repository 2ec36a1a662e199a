-- What loading the fonts of pages leaves. No public clause cites this module.
use Rattle.std.specs.Prelude.{◌≡◌, List, fold}
use Rattle.indexmap.specs.IndexSet.{insert_key}
use Rattle.dv_base.specs.Shelf.{Told}
use Rattle.dvi_ops.specs.Command.{Definition}
use Rattle.dvi_doc.specs.Document.{PageOf}
use Rattle.font_set.specs.Fonts.{FontSet}
use Rattle.font_set.specs.Growth.{Extends, keys_now}
use Rattle.font_set.specs.Key.{same_key}
use Rattle.font_set.specs.Gains.{Gains}
use Rattle.font_set.specs.LoadFaults.{LoadFaultIs, MustKnow, MustLoad}
use Rattle.font_set.specs.declared.fault.LoadFault.{LoadFault}
use Rattle.dv_top.specs.Covered.{Expands, selected_keys}
use Rattle.dv_top.specs.Each.{Each}
use Rattle.dv_top.specs.Sources.{InSomePage, frame_of}
use Rattle.dv_top.specs.Tells.{LoadTells}
use Rattle.dv_top.specs.declared.outcome.Outcome.{Outcome}

-- A set gains for these pages what must be known and loaded for them, and nothing else.
abbrev pub GainsPages : Told → List Definition → List PageOf → FontSet → FontSet → Type 0
GainsPages told ds pages old new =
    Gains told.held old new (λ id. InSomePage pages (λ p. MustLoad new (frame_of ds p) id)) (λ key. InSomePage pages (λ p. MustKnow new (frame_of ds p) key))

-- A fault stands in one of the pages, and the outcome tells of it.
abbrev pub IsLoadReason : FontSet → List Definition → List PageOf → Told → Told → Outcome → Type 0
IsLoadReason set ds pages old new o = (fault : LoadFault) × LoadTells set fault o × InSomePage pages (λ p. LoadFaultIs set (frame_of ds p) old new fault)

-- The fonts of the pages can't be had, and the set of those that were known before has grown to this one.
abbrev pub LoadFails : FontSet → List Definition → List PageOf → Told → Told → Outcome → Type 0
LoadFails none ds pages old new o = (set : FontSet) × GainsPages old ds pages none set × IsLoadReason set ds pages old new o

-- A set has made known what the pages select, in their order, however it grows later.
abbrev pub Orders : List Definition → List PageOf → FontSet → FontSet → Type 0
Orders ds pages old new =
    (later : FontSet) → Extends new later → Each (Expands later ds) pages → keys_now new ≡ fold (insert_key same_key) (keys_now old) (selected_keys later ds pages)

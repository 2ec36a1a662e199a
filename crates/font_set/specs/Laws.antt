-- What follows from the definitions alone.
use Rattle.std.specs.Prelude.{◌≡◌, ℕ, List, Some, fold}
use Rattle.indexmap.specs.IndexSet.{insert_key}
use Rattle.font_set.specs.Key.{Key, same_key}
use Rattle.font_set.specs.Fonts.{Entry, FontSet, place_of}
use Rattle.font_set.specs.Programs.{Program}
use Rattle.font_set.specs.Frames.{FontAct, acts_of}
use Rattle.font_set.specs.Covers.{Covers}
use Rattle.font_set.specs.Growth.{Extends, keys_now}
use Rattle.font_set.specs.Search.{InOrder}
use Rattle.font_set.specs.Expand.{Expanded, expand, keys_of}
use Rattle.font_set.specs.Shapes.{shapes_of}

-- Two keys that have one id are one key.
abbrev pub OneKey : Type 0
OneKey = (es : List Entry) (k l : Key) (i : ℕ) → place_of es k ≡ Some i → place_of es l ≡ Some i → k ≡ l

-- A set that covers frames still covers them when it has grown.
abbrev pub CoversLater : Type 0
CoversLater = (old new : FontSet) (acts : List FontAct) → Extends old new → Covers old acts → Covers new acts

-- Where a page was covered, and its keys became known in the order of its frames, they did so in the order in which the expanded tree
-- of the page has them, each new key once. The tree is the same however the set has grown.
abbrev pub InOrderOfTree : Type 0
InOrderOfTree = (old new later : FontSet) (page : Program) → InOrder old new page → Covers new (acts_of page) → Extends new later
    → (n : ℕ) (x : Expanded) → expand (shapes_of later) n page ≡ Some x → keys_now new ≡ fold (insert_key same_key) (keys_now old) (keys_of x)

-- When a set of fonts covers frames.
use Rattle.std.specs.Prelude.{◌≡◌, ◌<◌, ℕ, List, Option, Some, None}
use Rattle.tfm_widths.specs.Widths.{width_in}
use Rattle.vf_packets.specs.Font.{packet_of}
use Rattle.pk_raster.specs.Font.{Font}
use Rattle.font_set.specs.Fonts.{State, FontSet, place_of, state_at, bitmap_by}
use Rattle.font_set.specs.Acts.{Every, IsReached}
use Rattle.font_set.specs.Acts.Act.{Selects, Runs, Wrong}
use Rattle.font_set.specs.Frames.{Char, FontAct, body}

abbrev pub IsThere : {A : Type 0} → Option A → Type 0
IsThere None = ⊥
IsThere (Some x) = Unit {0}

-- where bitmaps are wanted, the character has one within the limit
abbrev pub HasBitmap : Option Font → ℕ → Type 0
HasBitmap None code = Unit {0}
HasBitmap (Some pk) code = IsThere (bitmap_by (Some pk) code)

-- The font is loaded, and has what the character needs: a width, and its bitmap or its packet.
abbrev pub IsShown : State → ℕ → Type 0
IsShown State.Known code = ⊥
IsShown (State.Real tfm pk) code = IsThere (width_in tfm code) × HasBitmap pk code
IsShown (State.Virtual tfm vf) code = IsThere (width_in tfm code) × IsThere (packet_of vf code)

abbrev pub IsKnownAt : Option ℕ → Type 0
IsKnownAt o = IsThere o

abbrev pub IsShownAt : FontSet → Option ℕ → ℕ → Type 0
IsShownAt set None code = ⊥
IsShownAt set (Some id) code = IsShown (state_at set id) code

-- a key that is selected is known, and a character that is set can be shown
abbrev pub IsGood : FontSet → FontAct → Type 0
IsGood set (Selects key) = IsKnownAt (place_of set.fonts key)
IsGood set (Runs ch) = (ch.code < 256) × IsShownAt set (place_of set.fonts ch.key) ch.code
IsGood set Wrong = ⊥

-- The set covers these acts: they are good, and so are those of each packet that they reach.
pub record Covers (set : FontSet) (acts : List FontAct) : Type 0 where
  pub here : Every (IsGood set) acts
  pub inside : (ch : Char) → IsReached (body set) acts ch → Every (IsGood set) (body set ch)

-- The character of this font and code is set in a frame that these acts reach.
abbrev pub IsSet : FontSet → List FontAct → ℕ → ℕ → Type 0
IsSet set acts id code = (ch : Char) × IsReached (body set) acts ch × (place_of set.fonts ch.key ≡ Some id) × (ch.code ≡ code)

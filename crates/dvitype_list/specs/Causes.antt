-- Why a listing ends before a command: each fault is one of that command, judged by what stands before it.
use Rattle.std.specs.Prelude.{◌≡◌, ℕ, ◌-◌, ◌^◌, ◌<◌, ◌⊎◌, ℤ, pos, ◌+ℤ◌, [], length, Some, None, unsigned_abs}
use Rattle.indexmap.specs.IndexSet.{insert_key}
use Rattle.dv_base.specs.Shelf.{Told}
use Rattle.dv_base.specs.declared.font_id.Spot.TheVariants as spot
use Rattle.positions.specs.Place.{Place}
use Rattle.dvi_ops.specs.Command.{Command}
use Rattle.dvi_ops.specs.Command.Command.{Set, Fnt, Push, Pop, Eop, SetRule, PutRule, Right, W0, W, X0, X, Down, Y0, Y, Z0, Z}
use Rattle.dvi_ops.specs.Placed.{Placed}
use Rattle.font_set.specs.Key.{Key, same_key}
use Rattle.font_set.specs.Fonts.{FontSet, place_of, state_at, width_at, IsLoaded}
use Rattle.font_set.specs.FontFaults.{NotLoaded}
use Rattle.font_set.specs.LoadFaults.{IsCharCommand}
use Rattle.font_set.specs.Programs.{key_in}
use Rattle.font_set.specs.declared.fault.FontFault.{FontFault}
use Rattle.font_set.specs.declared.fault.FontFault.TheVariants as font
use Rattle.font_set.specs.declared.fault.LoadFault.{LoadFault}
use Rattle.font_set.specs.declared.fault.LoadFault.TheVariants as load
use Rattle.dvitype_list.specs.Standing.{Standing, Setting}
use Rattle.dvitype_list.specs.Turns.{width_in, most_open, most_known}
use Rattle.dvitype_list.specs.declared.fault.ListFault.{ListFault}
use Rattle.dvitype_list.specs.declared.fault.ListFault.TheVariants as fault

-- the size of a number is above 2^31 - 1
abbrev pub IsLarge : ℤ → Type 0
IsLarge z = 2 ^ 31 - 1 < unsigned_abs z

-- a rule or a move would make h, v or a size of the rule too large
abbrev pub Passes : Command → Place → Type 0
Passes (SetRule a b) p = IsLarge a ⊎ (IsLarge b ⊎ IsLarge (p.h +ℤ b))
Passes (PutRule a b) p = IsLarge a ⊎ IsLarge b
Passes (Right q) p = IsLarge (p.h +ℤ q)
Passes W0 p = IsLarge (p.h +ℤ p.w)
Passes (W q) p = IsLarge (p.h +ℤ q)
Passes X0 p = IsLarge (p.h +ℤ p.x)
Passes (X q) p = IsLarge (p.h +ℤ q)
Passes (Down q) p = IsLarge (p.v +ℤ q)
Passes Y0 p = IsLarge (p.v +ℤ p.y)
Passes (Y q) p = IsLarge (p.v +ℤ q)
Passes Z0 p = IsLarge (p.v +ℤ p.z)
Passes (Z q) p = IsLarge (p.v +ℤ q)
Passes _ p = ⊥

-- so would the command, which may set a character of this width
abbrev pub Overflows : Setting → Command → Standing → Type 0
Overflows s (Set z) st = (w : ℤ) × (width_in s st.font z ≡ Some w) × IsLarge (st.place.h +ℤ w)
Overflows s c st = Passes c st.place

-- a number is selected that the document doesn't define
abbrev pub SelectsNone : Setting → Command → Type 0
SelectsNone s c = (k : ℤ) × (c ≡ Fnt k) × (key_in s.fonts k ≡ None)

-- a font is selected with which more than 1,000 would be known
abbrev pub SelectsMore : Setting → Command → Standing → Type 0
SelectsMore s c st = (k : ℤ) × (c ≡ Fnt k) × (key : Key) × (key_in s.fonts k ≡ Some key) × (most_known < length (insert_key same_key st.known key))

-- a character is set, and no font is selected
abbrev pub SetsNowhere : Command → Standing → Type 0
SetsNowhere c st = (z : ℤ) × IsCharCommand c z × (st.font ≡ None)

-- A character with this code is set in a font that has this number in the set.
pub record SetsIn (set : FontSet) (c : Command) (st : Standing) (id : ℕ) (z : ℤ) : Type 0 where
  pub char : IsCharCommand c z
  pub key : Key
  pub font : st.font ≡ Some key
  pub place : place_of set.fonts key ≡ Some id

-- the code isn't from 0 to 255, or the font has no width for it
abbrev pub IsWidthless : FontSet → ℕ → ℤ → Type 0
IsWidthless set id z = ((c : ℕ) → z ≡ pos c → 255 < c) ⊎ ((c : ℕ) × (z ≡ pos c) × (width_at set id c ≡ None))

-- a character is set in a font whose TFM file was read, and which has no such code or no width for it
abbrev pub SetsNone : FontSet → Command → Standing → ℕ → ℤ → Type 0
SetsNone set c st id z = SetsIn set c st id z × IsLoaded (state_at set id) × IsWidthless set id z

-- the files of the font with this key weren't read
abbrev pub IsUnreadIn : FontSet → Key → Type 0
IsUnreadIn set key = (id : ℕ) × (place_of set.fonts key ≡ Some id) × (IsLoaded (state_at set id) → ⊥)

-- a character is set in a font that isn't loaded and can't be; the shelf told this before the listing, and this after it
abbrev pub SetsUnread : FontSet → Told → Told → Command → Standing → FontFault → Type 0
SetsUnread set old new c st f = (z : ℤ) × IsCharCommand c z × (key : Key) × (st.font ≡ Some key) × NotLoaded set key old new f × IsUnreadIn set key

abbrev pub FontStops : Setting → FontSet → Told → Told → Command → Standing → FontFault → Type 0
FontStops s set old new c st font.TooManyFonts = SelectsMore s c st
FontStops s set old new c st font.OutOfMemory = ⊥
FontStops s set old new c st f = SetsUnread set old new c st f

abbrev pub LoadStops : Setting → FontSet → Told → Told → Placed → Standing → LoadFault → Type 0
LoadStops s set old new c st (load.UndefinedFont x) = (x ≡ spot.Page c.place) × SelectsNone s c.command
LoadStops s set old new c st (load.NoFont x) = (x ≡ spot.Page c.place) × SetsNowhere c.command st
LoadStops s set old new c st (load.NoChar id z) = SetsNone set c.command st id z
LoadStops s set old new c st (load.Font f) = FontStops s set old new c.command st f
LoadStops s set old new c st _ = ⊥

-- Why this command can't be run where this stands before it.
abbrev pub IsStop : Setting → FontSet → Told → Told → Placed → Standing → ListFault → Type 0
IsStop s set old new c st (fault.Load f) = LoadStops s set old new c st f
IsStop s set old new c st (fault.StackUnder x) = (x ≡ spot.Page c.place) × (c.command ≡ Pop) × (st.pushes ≡ [])
IsStop s set old new c st (fault.StackLeft x) = (x ≡ spot.Page c.place) × (c.command ≡ Eop) × (0 < length st.pushes)
IsStop s set old new c st (fault.StackDeep x) = (x ≡ spot.Page c.place) × (c.command ≡ Push) × (length st.pushes ≡ most_open)
IsStop s set old new c st (fault.Overflow x) = (x ≡ spot.Page c.place) × Overflows s c.command st
IsStop s set old new c st fault.WriteFault = ⊥
IsStop s set old new c st fault.OutOfMemory = ⊥

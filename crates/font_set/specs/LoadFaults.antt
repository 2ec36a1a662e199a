-- Why the fonts of a page are refused, by the set that the call leaves.
use Rattle.std.specs.Prelude.{◌≡◌, ◌<◌, ◌⊎◌, ℕ, ℤ, pos, List, [], ◌∷◌, ◌++◌, Option, Some, None}
use Rattle.dv_base.specs.Shelf.{Told}
use Rattle.dv_base.specs.declared.font_id.Spot.{Spot}
use Rattle.dv_base.specs.declared.font_id.Spot.TheVariants as spot
use Rattle.dvi_ops.specs.Command.{Command}
use Rattle.dvi_ops.specs.Command.Command.{Set, Put, Fnt}
use Rattle.dvi_ops.specs.Placed.{Placed}
use Rattle.pk_raster.specs.Font.{Font, Known, glyph_at}
use Rattle.pk_raster.specs.Font.Known.{Nothing, Large}
use Rattle.font_set.specs.Key.{Key}
use Rattle.font_set.specs.Fonts.{State, FontSet, place_of, key_at, state_at, width_at, packet_at, IsLoaded, IsVirtual}
use Rattle.font_set.specs.Programs.{Scope, Program, HasNumber, key_in, program_at, key_of_first, id_of}
use Rattle.font_set.specs.Locals.{BadNumber, BadFirst}
use Rattle.font_set.specs.FontFaults.{IsFull, NotLoaded}
use Rattle.font_set.specs.Acts.{IsReached}
use Rattle.font_set.specs.Frames.{Char, selected, acts_of, body}
use Rattle.font_set.specs.declared.fault.FontKeyParts.{FontKeyParts}
use Rattle.font_set.specs.declared.fault.FontFault.{FontFault}
use Rattle.font_set.specs.declared.fault.FontFault.TheVariants as font
use Rattle.font_set.specs.declared.fault.LoadFault.{LoadFault}
use Rattle.font_set.specs.declared.fault.LoadFault.TheVariants as load

-- the font that is selected behind these commands
abbrev pub selected_after : Scope → Option Key → List Placed → Option Key
selected_after scope sel [] = sel
selected_after scope sel (c ∷ cs) = selected_after scope (selected scope sel c.command) cs

-- A command of a frame, and the font that is selected before it.
pub record CommandOf (program : Program) (at : ℕ) : Type 0 where
  pub before : List Placed
  pub command : Command
  pub behind : List Placed
  pub whole : before ++ record { place = at; command = command } ∷ behind ≡ program.commands
  pub sel : Option Key
  pub selects : sel ≡ selected_after program.scope (key_of_first program.first) before

-- A packet that is run in the frames of a page.
pub record PacketOf (set : FontSet) (page : Program) (id code : ℕ) (program : Program) : Type 0 where
  pub char : Char
  pub reached : IsReached (body set) (acts_of page) char
  pub font : place_of set.fonts char.key ≡ Some id
  pub same : char.code ≡ code
  pub packet : program_at set id code ≡ Some program

-- the frame at a spot, and the place in it
abbrev pub InFrame : FontSet → Program → Spot → (Program → ℕ → Type 0) → Type 0
InFrame set page (spot.Page at) P = P page at
InFrame set page (spot.Packet id code at) P = (program : Program) × PacketOf set page id code program × P program at

-- one of the frames of a page
abbrev pub InSome : FontSet → Program → (Program → Type 0) → Type 0
InSome set page P = P page ⊎ ((id : ℕ) × (code : ℕ) × (program : Program) × PacketOf set page id code program × P program)

abbrev pub IsCharCommand : Command → ℤ → Type 0
IsCharCommand (Set z) y = z ≡ y
IsCharCommand (Put z) y = z ≡ y
IsCharCommand _ y = ⊥

-- the command at the place selects a number that its frame doesn't define
abbrev pub SelectsNone : Program → ℕ → Type 0
SelectsNone program at = (c : CommandOf program at) × (k : ℤ) × (c.command ≡ Fnt k) × (HasNumber program.scope.fonts k → ⊥)

-- it sets a character, and no font is selected
abbrev pub SetsNowhere : Program → ℕ → Type 0
SetsNowhere program at = (c : CommandOf program at) × (z : ℤ) × IsCharCommand c.command z × (c.sel ≡ None)

-- a character of this font and code is set
abbrev pub SetsIn : FontSet → ℕ → ℤ → Program → Type 0
SetsIn set id z program = (at : ℕ) × (c : CommandOf program at) × IsCharCommand c.command z × (id_of set c.sel ≡ Some id)

-- the code isn't from 0 to 255, or the font is loaded and has no width for it
abbrev pub HasNoWidth : FontSet → ℕ → ℤ → Type 0
HasNoWidth set id z = ((c : ℕ) → z ≡ pos c → 255 < c) ⊎ ((c : ℕ) × (z ≡ pos c) × IsLoaded (state_at set id) × (width_at set id c ≡ None))

-- what the bitmaps of a font tell of a code
abbrev pub look_by : Option Font → ℕ → Option Known
look_by None code = None
look_by (Some pk) code = Some (glyph_at pk code)

abbrev pub look_in : State → ℕ → Option Known
look_in State.Known code = None
look_in (State.Real tfm pk) code = look_by pk code
look_in (State.Virtual tfm vf) code = None

unfoldable pub look_at : FontSet → ℕ → ℕ → Option Known
look_at set id code = look_in (state_at set id) code

-- ---- what a page needs

-- the frame begins in the font of this key, or a command of the frame selects it
abbrev pub SelectsKey : Key → Program → Type 0
SelectsKey key program =
    (key_of_first program.first ≡ Some key)
    ⊎ ((at : ℕ) × (c : CommandOf program at) × (k : ℤ) × (c.command ≡ Fnt k) × (key_in program.scope.fonts k ≡ Some key))

-- The font must be known: it is selected in a frame of the page.
abbrev pub MustKnow : FontSet → Program → Key → Type 0
MustKnow set page key = InSome set page (SelectsKey key)

-- The font must be loaded: a character is set in it in a frame of the page.
abbrev pub MustLoad : FontSet → Program → ℕ → Type 0
MustLoad set page id = (z : ℤ) × InSome set page (SetsIn set id z)

-- ---- faults

-- A packet of this font begins in, or selects, a local font with these parts, which has a size that isn't as it should be.
abbrev pub SelectsBad : FontSet → ℕ → FontKeyParts → Program → Type 0
SelectsBad set id parts program = BadFirst set id parts ⊎ ((at : ℕ) × (c : CommandOf program at) × (k : ℤ) × (c.command ≡ Fnt k) × BadNumber set id k parts)

-- The font must be loaded, it isn't yet, and it can't be.
abbrev pub CantLoad : FontSet → Program → Told → Told → FontFault → Type 0
CantLoad set page old new f = (id : ℕ) × MustLoad set page id × (IsLoaded (state_at set id) → ⊥) × NotLoaded set (key_at set id) old new f

-- What a fault of a font says, where the shelf told this before the call, and this after it: a packet of the page selects the local
-- font; the key is selected in a frame of the page, 1,000 are known, and this one isn't; or the font must be loaded, and it can't be.
-- Want of memory says nothing.
abbrev pub FontFaultIs : FontSet → Program → Told → Told → FontFault → Type 0
FontFaultIs set page old new (font.BadSize parts) = (id : ℕ) × (code : ℕ) × (program : Program) × PacketOf set page id code program × SelectsBad set id parts program
FontFaultIs set page old new font.TooManyFonts = (key : Key) × MustKnow set page key × IsFull set.fonts key
FontFaultIs set page old new font.OutOfMemory = Unit {0}
FontFaultIs set page old new f = CantLoad set page old new f

-- What each fault says of the frames of the page.
abbrev pub LoadFaultIs : FontSet → Program → Told → Told → LoadFault → Type 0
LoadFaultIs set page old new (load.UndefinedFont s) = InFrame set page s SelectsNone
LoadFaultIs set page old new (load.NoFont s) = InFrame set page s SetsNowhere
LoadFaultIs set page old new (load.NoChar id z) = InSome set page (SetsIn set id z) × HasNoWidth set id z
LoadFaultIs set page old new (load.NoPacket id code) = InSome set page (SetsIn set id (pos code)) × IsVirtual (state_at set id) × (packet_at set id code ≡ None)
LoadFaultIs set page old new (load.NoGlyph id code) = InSome set page (SetsIn set id (pos code)) × (look_at set id code ≡ Some Nothing)
LoadFaultIs set page old new (load.GlyphTooBig id code bytes) = InSome set page (SetsIn set id (pos code)) × (look_at set id code ≡ Some (Large bytes))
LoadFaultIs set page old new (load.Font f) = FontFaultIs set page old new f

-- The search for the fonts of a page: frames as they stand in bytes.
use Rattle.std.specs.Prelude.{◌≡◌, ◌<◌, ◌⊎◌, ℕ, ◌+◌, ℤ, pos, List, [], ◌∷◌, length, drop, Option, Some, None, slice_get, slice_range, nat_eq, fold, if◌then◌else◌}
use Rattle.dv_base.specs.Shelf.{Told}
use Rattle.dv_base.specs.declared.font_id.Spot.{Spot}
use Rattle.dv_base.specs.declared.font_id.Spot.TheVariants as spot
use Rattle.dvi_ops.specs.Command.{Command, Definition}
use Rattle.dvi_ops.specs.Command.Command.{Set, Put, Fnt}
use Rattle.dvi_ops.specs.Placed.{Placed, Lexes}
use Rattle.dvi_doc.specs.declared.font.FontKey.{FontKey}
use Rattle.font_set.specs.Key.{Key, IsKey, same_key, blank_key}
use Rattle.font_set.specs.Fonts.{FontSet, place_of, key_at, state_at, packet_at, IsLoaded, IsVirtual}
use Rattle.dvi_ops.specs.Reading.{commands_in}
use Rattle.font_set.specs.Programs.{Named, Scope, Program, HasNumber, key_in, key_of_first, page_program, program_at, locals_at}
use Rattle.indexmap.specs.IndexSet.{insert_key}
use Rattle.dvi_doc.specs.View.{Outline, ReadDoc}
use Rattle.font_set.specs.Growth.{Learnt, keys_now}
use Rattle.font_set.specs.Locals.{BadNumber, BadFirst}
use Rattle.font_set.specs.FontFaults.{IsFull, NotKnown, NotLoaded}
use Rattle.font_set.specs.Acts.{Inside}
use Rattle.font_set.specs.Frames.{Char, FontAct, acts_of, body}
use Rattle.font_set.specs.Views.{key_of}
use Rattle.font_set.specs.LoadFaults.{IsCharCommand, HasNoWidth, look_at, look_by}
use Rattle.pk_raster.specs.Font.{Font}
use Rattle.pk_raster.specs.Font.Known.{Nothing, Large}
use Rattle.font_set.specs.declared.fault.FontFault.{FontFault}
use Rattle.font_set.specs.declared.fault.FontFault.TheVariants as font
use Rattle.font_set.specs.declared.fault.LoadFault.{LoadFault}
use Rattle.font_set.specs.declared.fault.LoadFault.TheVariants as load
use Rattle.font_set.specs.declared.agenda.Home.{Home}
use Rattle.font_set.specs.declared.agenda.Home.TheVariants as home
use Rattle.font_set.specs.declared.agenda.Place.{Place}
use Rattle.font_set.specs.declared.turn.Does.{Does}
use Rattle.font_set.specs.declared.turn.Does.TheVariants as does
use Rattle.font_set.specs.declared.turn.Turn.{Turn}

-- ---- frames as they stand in bytes

abbrev pub or_none : Option (List Placed) → List Placed
or_none None = []
or_none (Some cs) = cs

-- a page whose commands these bytes spell
unfoldable pub page_in : List Definition → ℕ → List ℕ → Program
page_in ds first bytes = page_program ds (or_none (commands_in first bytes))

abbrev pub empty_program : Program
empty_program = record { scope = record { size = None; fonts = [] }; first = None; commands = [] }

abbrev pub or_empty : Option Program → Program
or_empty None = empty_program
or_empty (Some p) = p

-- the packet of a character, which is empty where the font is real
abbrev pub program_or : FontSet → ℕ → ℕ → Program
program_or set id code = or_empty (program_at set id code)

abbrev pub bytes_or : Option (List ℕ) → List ℕ
bytes_or None = []
bytes_or (Some bytes) = bytes

module _ (set : FontSet) where
  abbrev pub program_of : Program → Home → Program
  program_of page home.Page = page
  program_of page (home.Packet id code) = program_or set id code

  abbrev pub bytes_of : List ℕ → Home → List ℕ
  bytes_of bytes home.Page = bytes
  bytes_of bytes (home.Packet id code) = bytes_or (packet_at set id code)

  -- the font of a packet is loaded
  abbrev pub IsHome : Home → Type 0
  IsHome home.Page = Unit {0}
  IsHome (home.Packet id code) = (id < length set.fonts) × IsLoaded (state_at set id)

  -- the selected font by key and by id
  abbrev pub IsSel : Option Key → Option ℕ → Type 0
  IsSel None None = Unit {0}
  IsSel None (Some id) = ⊥
  IsSel (Some k) None = ⊥
  IsSel (Some k) (Some id) = place_of set.fonts k ≡ Some id

-- the fonts of a frame by their numbers
abbrev pub fonts_of : FontSet → Program → Home → List Named
fonts_of set page home.Page = page.scope.fonts
fonts_of set page (home.Packet id code) = locals_at set id

abbrev pub first_of : ℕ → Home → ℕ
first_of first home.Page = first
first_of first (home.Packet id code) = 0

abbrev pub spot_at : Home → ℕ → Spot
spot_at home.Page at = spot.Page at
spot_at (home.Packet id code) at = spot.Packet id code at

-- ---- one turn

-- what a command does with fonts
abbrev pub Tells : Scope → Command → Does → Type 0
Tells scope (Fnt k) does.Nothing = ⊥
Tells scope (Set z) does.Nothing = ⊥
Tells scope (Put z) does.Nothing = ⊥
Tells scope _ does.Nothing = Unit {0}
Tells scope c (does.Selects key) = (k : ℤ) × (c ≡ Fnt k) × (key_in scope.fonts k ≡ Some (key_of key))
Tells scope c (does.Sets z) = IsCharCommand c z

-- a key that is selected may be made known
abbrev pub IsSelectable : Does → Type 0
IsSelectable (does.Selects key) = IsKey (key_of key)
IsSelectable _ = Unit {0}

-- The next of the commands, and what is behind it.
pub record Next (from at next : ℕ) (bytes : List ℕ) (rest : List Placed) : Type 0 where
  pub command : Command
  pub behind : List Placed
  pub split : rest ≡ record { place = from + at; command = command } ∷ behind
  pub lexed : Lexes (from + next) (drop next bytes) behind

abbrev pub IsTurn : Scope → ℕ → ℕ → List ℕ → Turn → Type 0
IsTurn scope from at bytes t = (rest : List Placed) → Lexes (from + at) (drop at bytes) rest → (n : Next from at t.next bytes rest) × Tells scope n.command t.does

-- the number names a local font of the packet's font, a size of which isn't as it should be
abbrev pub BadAt : FontSet → Home → ℤ → FontFault → Type 0
BadAt set home.Page k f = ⊥
BadAt set (home.Packet id code) k (font.BadSize parts) = BadNumber set id k parts
BadAt set (home.Packet id code) k _ = ⊥

-- the next of the commands selects a font, whose number is like this
abbrev pub SelectsAt : ℕ → ℕ → List ℕ → (ℤ → Type 0) → Type 0
SelectsAt from at bytes P = (rest : List Placed) → Lexes (from + at) (drop at bytes) rest → (c : Command) × (behind : List Placed) × (rest ≡ record { place = from + at; command = c } ∷ behind) × (k : ℤ) × (c ≡ Fnt k) × P k

abbrev pub IsTurnFault : FontSet → Home → Scope → ℕ → ℕ → List ℕ → LoadFault → Type 0
IsTurnFault set h scope from at bytes (load.UndefinedFont s) = (s ≡ spot_at h (from + at)) × SelectsAt from at bytes (λ k. HasNumber scope.fonts k → ⊥)
IsTurnFault set h scope from at bytes (load.Font f) = SelectsAt from at bytes (λ k. BadAt set h k f)
IsTurnFault set h scope from at bytes _ = ⊥

-- why a character of a loaded font can't be shown
abbrev pub IsCharFault : FontSet → ℕ → ℤ → LoadFault → Type 0
IsCharFault set id z (load.NoChar i y) = (i ≡ id) × (y ≡ z) × HasNoWidth set id z
IsCharFault set id z (load.NoPacket i code) = (i ≡ id) × (z ≡ pos code) × IsVirtual (state_at set id) × (packet_at set id code ≡ None)
IsCharFault set id z (load.NoGlyph i code) = (i ≡ id) × (z ≡ pos code) × (look_at set id code ≡ Some Nothing)
IsCharFault set id z (load.GlyphTooBig i code bytes) = (i ≡ id) × (z ≡ pos code) × (look_at set id code ≡ Some (Large bytes))
IsCharFault set id z _ = ⊥

-- why the bitmap of a character isn't there
abbrev pub IsLookFault : Option Font → ℕ → ℕ → LoadFault → Type 0
IsLookFault pk id code (load.NoGlyph i c) = (i ≡ id) × (c ≡ code) × (look_by pk code ≡ Some Nothing)
IsLookFault pk id code (load.GlyphTooBig i c bytes) = (i ≡ id) × (c ≡ code) × (look_by pk code ≡ Some (Large bytes))
IsLookFault pk id code _ = ⊥

-- The packet of a character of this font and code, which is like this.
abbrev pub WithPacket : FontSet → ℕ → ℤ → (Program → Type 0) → Type 0
WithPacket set id z P = (code : ℕ) × (z ≡ pos code) × (code < 256) × (program : Program) × (program_at set id code ≡ Some program) × P program

-- the packet begins in the font of this key
abbrev pub BeginsIn : FontSet → ℕ → ℤ → Key → Type 0
BeginsIn set id z key = WithPacket set id z (λ program. key_of_first program.first ≡ Some key)

-- why a packet can't begin
abbrev pub NoBegin : FontSet → ℕ → ℕ → FontFault → Type 0
NoBegin set id code (font.BadSize parts) = (program : Program) × (program_at set id code ≡ Some program) × BadFirst set id parts
NoBegin set id code _ = ⊥

-- the key of the font in which it begins
abbrev pub IsKeyOf : Option FontKey → Key → Type 0
IsKeyOf None k = ⊥
IsKeyOf (Some key) k = k ≡ key_of key

-- why that font isn't made known
abbrev pub FirstNotKnown : FontSet → Option FontKey → FontFault → Type 0
FirstNotKnown set None f = ⊥
FirstNotKnown set (Some key) f = NotKnown set.fonts (key_of key) f

-- why a packet isn't opened
abbrev pub OpenFault : FontSet → ℕ → ℤ → FontFault → Type 0
OpenFault set id z (font.BadSize parts) = WithPacket set id z (λ program. BadFirst set id parts)
OpenFault set id z font.TooManyFonts = (key : Key) × BeginsIn set id z key × IsFull set.fonts key
OpenFault set id z font.OutOfMemory = Unit {0}
OpenFault set id z _ = ⊥

-- why a character can't be met, where the shelf told this before and this now
abbrev pub MeetFault : FontSet → ℕ → ℤ → Told → Told → LoadFault → Type 0
MeetFault set id z old new (load.Font f) = OpenFault set id z f ⊎ ((IsLoaded (state_at set id) → ⊥) × NotLoaded set (key_at set id) old new f)
MeetFault set id z old new e = IsCharFault set id z e

-- the key may be made known
abbrev pub IsFirstKey : Option FontKey → Type 0
IsFirstKey None = Unit {0}
IsFirstKey (Some key) = IsKey (key_of key)

-- no font was loaded, nor any but this one
abbrev pub SameStates : FontSet → FontSet → Type 0
SameStates old new = (i : ℕ) → state_at new i ≡ state_at old i

abbrev pub LoadsOnly : FontSet → FontSet → ℕ → Type 0
LoadsOnly old new id = (i : ℕ) → (i ≡ id → ⊥) → state_at new i ≡ state_at old i

-- the first font of a packet was made known
abbrev pub LearntFirst : FontSet → FontSet → Option FontKey → Option ℕ → Type 0
LearntFirst old new None o = (new ≡ old) × (o ≡ None)
LearntFirst old new (Some key) o = Learnt old new (key_of key) × SameStates old new × (id : ℕ) × (o ≡ Some id) × (place_of new.fonts (key_of key) ≡ Some id)

-- ---- the frames of a page as the packets of one search

-- The page is a packet that no character runs: no code is 256.
abbrev pub root : Char
root = record { key = blank_key; code = 256 }

unfoldable pub rooted : Program → FontSet → Char → List FontAct
rooted page set ch = if nat_eq ch.code 256 then acts_of page else body set ch

abbrev pub moves : Place → ℕ → Option ℕ → Place
moves p next font = record { home = p.home; at = next; end = p.end; font = font }

-- Where the page has an expansion, its keys were made known in their order, each new one once.
abbrev pub InOrder : FontSet → FontSet → Program → Type 0
InOrder old new page = (n : ℕ) (all : List Key) → Inside (rooted page new) n root all → keys_now new ≡ fold (insert_key same_key) (keys_now old) all

abbrev pub program_in : ReadDoc → Option Outline → Program
program_in doc None = empty_program
program_in doc (Some p) = page_in doc.fonts p.first (slice_range doc.bytes p.first p.eop)

-- the commands of a page, by its place in the document
unfoldable pub page_of : ReadDoc → ℕ → Program
page_of doc page = program_in doc (slice_get doc.pages page)

-- What the code keeps between two commands. (No public clause cites this module.)
use Rattle.std.specs.Prelude.{◌≡◌, ◌<◌, ◌≤◌, ◌++◌, Bool, ℕ, ◌/◌, ℤ, pos, List, length, reverse, Option, Some, None, unsigned_abs}
use Rattle.indexmap.specs.IndexSet.{insert_key}
use Rattle.dvi_ops.specs.Command.{Command, Definition}
use Rattle.dvi_ops.specs.Command.Command.{Set, Put, Fnt, Push, Pop, Eop, Bop, Pre, Post, PostPost}
use Rattle.dv_base.specs.Shelf.{Told}
use Rattle.dv_base.specs.Tray.{Seen}
use Rattle.dvi_ops.specs.Placed.{Placed, Lexes}
use Rattle.dv_base.specs.declared.font_id.Spot.{Spot}
use Rattle.font_set.specs.Key.{Key, same_key}
use Rattle.font_set.specs.Fonts.{FontSet, place_of}
use Rattle.font_set.specs.Fonts.{State as FontState, key_at, state_at, IsLoaded}
use Rattle.font_set.specs.FontFaults.{NotLoaded}
use Rattle.font_set.specs.Programs.{Named, key_in}
use Rattle.font_set.specs.declared.fault.FontFault.{FontFault}
use Rattle.font_set.specs.declared.fault.FontFault.TheVariants as font
use Rattle.font_set.specs.declared.fault.LoadFault.TheVariants as load
use Rattle.font_set.specs.Growth.{keys_now}
use Rattle.dvitype_list.specs.Standing.{Standing, Setting}
use Rattle.dvitype_list.specs.Turns.{turned}
use Rattle.dvitype_list.specs.Causes.{IsStop, IsUnreadIn, IsWidthless}
use Rattle.dvitype_list.specs.Gathered.{Gathered, Cut}
use Rattle.dvitype_list.specs.Listing.{Run, line_of, commands_run}
use Rattle.dvitype_list.specs.Listing.Course.{Ends, Stops}
use Rattle.dvitype_list.specs.Widths.{width_by}
use Rattle.dvitype_list.specs.declared.fault.ListFault.{ListFault}
use Rattle.dvitype_list.specs.declared.fault.ListFault.TheVariants as fault
use Rattle.dvitype_list.specs.declared.state.Selected.{Selected}
use Rattle.dvitype_list.specs.declared.state.State.{State}

-- a command of a page, its eop included
abbrev pub IsInPage : Command → Type 0
IsInPage (Bop counts back) = ⊥
IsInPage (Pre head) = ⊥
IsInPage (Post tail) = ⊥
IsInPage (PostPost back id) = ⊥
IsInPage _ = Unit {0}

-- a command that changes the place alone, or nothing
abbrev pub IsPlain : Command → Type 0
IsPlain (Set code) = ⊥
IsPlain (Put code) = ⊥
IsPlain (Fnt k) = ⊥
IsPlain Push = ⊥
IsPlain Pop = ⊥
IsPlain Eop = ⊥
IsPlain (Bop counts back) = ⊥
IsPlain (Pre head) = ⊥
IsPlain (Post tail) = ⊥
IsPlain (PostPost back id) = ⊥
IsPlain _ = Unit {0}

-- the font with this number in the set and this space is the one of the key
abbrev pub IsSelected : FontSet → Option Selected → Option Key → Type 0
IsSelected set None None = Unit {0}
IsSelected set (Some f) (Some key) = (place_of set.fonts key ≡ Some f.id) × (f.space ≡ pos (key.size / 6))
IsSelected set None (Some key) = ⊥
IsSelected set (Some f) None = ⊥

-- the key of a definition
abbrev pub defined_key : Definition → Key
defined_key d = record { name = d.name; checksum = d.checksum; size = unsigned_abs d.size; design = unsigned_abs d.design }

-- A key is known now, and is that of the selected font.
pub record Learned (old new : FontSet) (key : Key) (f : Selected) : Type 0 where
  pub selected : IsSelected new (Some f) (Some key)
  pub learns : keys_now new ≡ insert_key same_key (keys_now old) key
  pub few : length (keys_now new) ≤ 1000

-- why a key isn't known
abbrev pub NotLearned : FontSet → Key → ListFault → Type 0
NotLearned old key (fault.Load (load.Font font.TooManyFonts)) = 1000 < length (insert_key same_key (keys_now old) key)
NotLearned old key fault.OutOfMemory = Unit {0}
NotLearned old key _ = ⊥

-- A number of the document was selected.
pub record Knew (old new : FontSet) (fonts : List Named) (k : ℤ) (f : Selected) : Type 0 where
  pub key : Key
  pub names : key_in fonts k ≡ Some key
  pub learned : Learned old new key f

-- why a number wasn't selected, where it stands at this spot
abbrev pub NotKnew : FontSet → List Named → ℤ → Spot → ListFault → Type 0
NotKnew old fonts k sp (fault.Load (load.UndefinedFont x)) = (x ≡ sp) × (key_in fonts k ≡ None)
NotKnew old fonts k sp e = (key : Key) × (key_in fonts k ≡ Some key) × NotLearned old key e

-- the font of the key is loaded, and has no width for the code
abbrev pub LacksWidth : FontSet → Option Key → ℕ → ℤ → Type 0
LacksWidth set key id z = (k : Key) × (key ≡ Some k) × (place_of set.fonts k ≡ Some id) × IsLoaded (state_at set id) × IsWidthless set id z

-- the font of the key can't be loaded
abbrev pub IsUnread : FontSet → Told → Told → Option Key → FontFault → Type 0
IsUnread set old new key font.TooManyFonts = ⊥
IsUnread set old new key font.OutOfMemory = ⊥
IsUnread set old new key f = (k : Key) × (key ≡ Some k) × NotLoaded set k old new f × IsUnreadIn set k

abbrev pub WidthFault : FontSet → Told → Told → Option Key → ℤ → Spot → ListFault → Type 0
WidthFault set old new key z sp (fault.Load (load.NoFont x)) = (x ≡ sp) × (key ≡ None)
WidthFault set old new key z sp (fault.Load (load.NoChar id y)) = (y ≡ z) × LacksWidth set key id z
WidthFault set old new key z sp (fault.Load (load.Font f)) = IsUnread set old new key f
WidthFault set old new key z sp _ = ⊥

-- why a character has no width in the font of a key, where it stands at this spot
abbrev pub NoWidth : FontSet → Told → Told → Option Key → ℤ → Spot → ListFault → Type 0
NoWidth set old new key z sp fault.OutOfMemory = Unit {0}
NoWidth set old new key z sp e = (width_by set key z ≡ None) × WidthFault set old new key z sp e

-- why a font isn't loaded that wasn't before
abbrev pub StaysUnread : FontSet → Told → Told → ℕ → FontFault → Type 0
StaysUnread set old new id f = (state_at set id ≡ FontState.Known) × NotLoaded set (key_at set id) old new f

-- why a character has no width in a font
abbrev pub NoWidthAt : FontSet → Told → Told → ℕ → ℤ → ListFault → Type 0
NoWidthAt set old new id z (fault.Load (load.NoChar i y)) = (i ≡ id) × (y ≡ z) × IsLoaded (state_at set id) × IsWidthless set id z
NoWidthAt set old new id z (fault.Load (load.Font font.OutOfMemory)) = ⊥
NoWidthAt set old new id z (fault.Load (load.Font f)) = StaysUnread set old new id f
NoWidthAt set old new id z fault.OutOfMemory = Unit {0}
NoWidthAt set old new id z _ = ⊥

-- (of what a set gains, that it comes from the files is all that is asked here)
abbrev pub Any : {A : Type 0} → A → Type 0
Any x = Unit {0}

-- the fault names the font and the code, for which it has no width
abbrev pub IsNoChar : FontSet → ℕ → ℤ → ListFault → Type 0
IsNoChar set id z (fault.Load (load.NoChar i y)) = (i ≡ id) × (y ≡ z) × IsWidthless set id z
IsNoChar set id z _ = ⊥

-- The code's state is what stands there.
pub record Stands (set : FontSet) (state : State) (st : Standing) : Type 0 where
  pub place : st.place ≡ state.pos
  pub font : IsSelected set state.font st.font
  pub pushes : st.pushes ≡ reverse state.saved.items
  pub known : st.known ≡ keys_now set

-- What a command leaves that was run: this stands behind it.
pub record Turned (s : Setting) (c : Command) (st : Standing) (set : FontSet) (state : State) : Type 0 where
  pub behind : Standing
  pub is : turned s c st ≡ Some behind
  pub stands : Stands set state behind

-- Why a command wasn't run where this stands before it.
abbrev pub NotTurned : Setting → FontSet → Told → Told → Placed → Standing → ListFault → Type 0
NotTurned s set old new c st fault.OutOfMemory = Unit {0}
NotTurned s set old new c st e = (turned s c.command st ≡ None) × IsStop s set old new c st e

-- What a command leaves that was run and listed.
pub record Went (s : Setting) (detail : Bool) (c : Placed) (st : Standing) (set : FontSet) (state : State) (first now : Seen) (kept text : List ℕ) : Type 0 where
  pub behind : Standing
  pub is : turned s c.command st ≡ Some behind
  pub stands : Stands set state behind
  pub gathered : Gathered first now kept (text ++ line_of detail c behind.place)

-- What a run leaves that ends: this stands behind it, and its text was gathered behind another.
pub record Ran (r : Run) (set : FontSet) (state : State) (first now : Seen) (kept text : List ℕ) : Type 0 where
  pub behind : Standing
  pub ends : r.course ≡ Ends behind
  pub stands : Stands set state behind
  pub gathered : Gathered first now kept (text ++ r.text)

-- The commands before a place of the bytes were run; the bytes from there on are the others.
pub record Going (s : Setting) (detail : Bool) (cs : List Placed) (at : ℕ) (ahead : List ℕ) (st : Standing) (set : FontSet) (state : State) (first now : Seen) (kept text : List ℕ) : Type 0 where
  pub before : List Placed
  pub rest : List Placed
  pub whole : before ++ rest ≡ cs
  pub lexed : Lexes at ahead rest
  pub ran : Ran (commands_run s detail before st) set state first now kept text

-- a front of the text was gathered behind what stands before it
abbrev pub GatheredFront : Seen → Seen → List ℕ → List ℕ → List ℕ → Type 0
GatheredFront first now kept before text = (front : List ℕ) × (rest : List ℕ) × (front ++ rest ≡ text) × Gathered first now kept (before ++ front)

-- The run stops at a command for which the fault is the cause, and its text was gathered behind what stands before it.
pub record Stopped (r : Run) (s : Setting) (set : FontSet) (told_old told_new : Told) (first now : Seen) (kept before : List ℕ) (e : ListFault) : Type 0 where
  pub command : Placed
  pub standing : Standing
  pub stops : r.course ≡ Stops command standing
  pub why : IsStop s set told_old told_new command standing e
  pub gathered : Gathered first now kept (before ++ r.text)

-- What is left at a fault: where the tray failed, a front of the text went out; where memory was refused, a front was gathered; each other
-- fault is the one at which the run stops.
abbrev pub Failed : Run → Setting → FontSet → Told → Told → Seen → Seen → List ℕ → List ℕ → ListFault → Type 0
Failed r s set told_old told_new first now kept before fault.WriteFault = Cut first now (before ++ r.text)
Failed r s set told_old told_new first now kept before fault.OutOfMemory = GatheredFront first now kept before r.text
Failed r s set told_old told_new first now kept before e = Stopped r s set told_old told_new first now kept before e

-- The run ends, and its text was gathered.
pub record Finished (r : Run) (first now : Seen) (kept before : List ℕ) : Type 0 where
  pub standing : Standing
  pub ends : r.course ≡ Ends standing
  pub gathered : Gathered first now kept (before ++ r.text)

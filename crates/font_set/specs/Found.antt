-- How far the search for the fonts of a page has come: places in bytes beside the frames that are open.
use Rattle.std.specs.Prelude.{◌≡◌, ◌≤◌, ◌<◌, ◌+◌, ◌-◌, ◌*◌, ◌^◌, ◌⊎◌, ℕ, ℤ, pos, List, [], ◌∷◌, ◌++◌, Bool, true, false, length, drop, Option, Some, None, slice_index_or, slice_set}
use Rattle.dvi_ops.specs.Placed.{Placed, Lexes}
use Rattle.dvi_doc.specs.declared.font.FontKey.{FontKey}
use Rattle.font_set.specs.Key.{Key, same_key}
use Rattle.font_set.specs.Fonts.{FontSet, place_of, state_at, IsLoaded}
use Rattle.font_set.specs.Programs.{Program, key_of_first}
use Rattle.font_set.specs.Acts.Act.{Runs}
use Rattle.font_set.specs.Frames.{Char, FontAct, acts_from}
use Rattle.font_set.specs.Covers.{IsGood, IsShown, IsSet}
use Rattle.font_set.specs.LoadFaults.{selected_after}
use Rattle.font_set.specs.Progress.{Frame, Search}
use Rattle.font_set.specs.Growth.{Extends, Loaded, keys_now}
use Rattle.font_set.specs.Locals.{FirstAnswer}
use Rattle.font_set.specs.Search.{LearntFirst, LoadsOnly, IsSelectable, fonts_of, program_of, program_or, bytes_of, first_of, IsHome, IsSel, IsTurn, rooted, root}
use Rattle.font_set.specs.declared.agenda.Home.{Home}
use Rattle.font_set.specs.declared.agenda.Home.TheVariants as home
use Rattle.font_set.specs.declared.agenda.Place.{Place}
use Rattle.font_set.specs.declared.turn.Turn.{Turn}

-- A page: the commands, their bytes, and the place of the first byte in the file.
pub record PageBytes : Type 0 where
  pub page : Program
  pub bytes : List ℕ
  pub first : ℕ

-- The bytes spell the commands of the page, which begins in no font.
pub record IsPage (s : PageBytes) : Type 0 where
  pub short : s.first + length s.bytes < 2 ^ 31
  pub lexed : Lexes s.first s.bytes s.page.commands
  pub none : s.page.first ≡ None

-- The places that are open, the last first, and a mark for each character that was met: that of the code c of the font i has the
-- place 256 i + c.
pub record Todo : Type 0 where
  pub places : List Place
  pub met : List Bool

-- ---- the measure

abbrev pub one_if_not : Bool → ℕ
one_if_not true = 0
one_if_not false = 1

-- how many characters were not met
abbrev pub unmarked : List Bool → ℕ
unmarked [] = 0
unmarked (v ∷ vs) = one_if_not v + unmarked vs

-- the bytes that are ahead, and one for each place
abbrev pub ahead_sum : List Place → ℕ
ahead_sum [] = 0
ahead_sum (p ∷ ps) = p.end - p.at + 1 + ahead_sum ps

-- what is left to do: a packet has at most 4,194,304 bytes
abbrev pub left_to_do : Todo → ℕ
left_to_do t = unmarked t.met * 4194306 + ahead_sum t.places

-- ---- places and frames

abbrev pub In : List Char → Char → Type 0
In [] ch = ⊥
In (x ∷ xs) ch = (ch ≡ x) ⊎ In xs ch

abbrev pub IsMarked : List Bool → ℕ → Type 0
IsMarked vs p = slice_index_or vs p false ≡ true

abbrev pub FontFrame : Type 0
FontFrame = Frame Key Char

-- the character of the font and of this code was met
abbrev pub WasMet : List Bool → ℕ → ℤ → Type 0
WasMet vs font z = (code : ℕ) × (z ≡ pos code) × (code < 256) × IsMarked vs (font * 256 + code)

-- A font is loaded only where it was before, or where a character of it is set in a frame.
abbrev pub LoadsSet : FontSet → FontSet → List FontAct → Type 0
LoadsSet old new acts = (id : ℕ) → IsLoaded (state_at new id) → IsLoaded (state_at old id) ⊎ ((code : ℕ) × IsSet new acts id code)

-- what a place names is the frame's character
abbrev pub IsChar : FontSet → Home → Char → Type 0
IsChar set home.Page ch = ch ≡ root
IsChar set (home.Packet id code) ch = (ch.code < 256) × (place_of set.fonts ch.key ≡ Some id) × (ch.code ≡ code)

-- a character of the font is one of these
pub record HasSeen (set : FontSet) (seen : List Char) (id : ℕ) : Type 0 where
  pub char : Char
  pub listed : In seen char
  pub small : char.code < 256
  pub placed : place_of set.fonts char.key ≡ Some id

module _ (page : Program) (bytes : List ℕ) (first : ℕ) where
  -- A place in the bytes of a frame: the commands before it and those from there on, the font that is selected there, and the acts
  -- that are ahead.
  pub record IsAt (set : FontSet) (p : Place) (f : FontFrame) : Type 0 where
    pub char : IsChar set p.home f.packet
    pub given : IsHome set p.home
    pub ends : length (bytes_of set bytes p.home) ≡ p.end
    pub short : first_of first p.home + p.end < 2 ^ 31
    pub before : List Placed
    pub rest : List Placed
    pub whole : before ++ rest ≡ (program_of set page p.home).commands
    pub lexed : Lexes (first_of first p.home + p.at) (drop p.at (bytes_of set bytes p.home)) rest
    pub sel : Option Key
    pub selects : sel ≡ selected_after (program_of set page p.home).scope (key_of_first (program_of set page p.home).first) before
    pub ahead : f.ahead ≡ acts_from (program_of set page p.home).scope sel rest
    pub same : IsSel set sel p.font

  -- the last place is the first frame
  abbrev pub Pairs : FontSet → List Place → List FontFrame → Type 0
  Pairs set [] [] = Unit {0}
  Pairs set [] (f ∷ fs) = ⊥
  Pairs set (p ∷ ps) [] = ⊥
  Pairs set (p ∷ ps) (f ∷ fs) = IsAt set p f × Pairs set ps fs

  -- How far the search is, from the set at the start to the set now: each character that was met can be shown, each mark is of one of
  -- them, no font is loaded but for them, and however the set may grow, the search is as far.
  pub record Found (old now : FontSet) (vs : List Bool) (ps : List Place) : Type 0 where
    pub seen : List Char
    pub frames : List FontFrame
    pub pairs : Pairs now ps frames
    pub shown : (ch : Char) → In seen ch → (ch ≡ root) ⊎ IsGood now (Runs ch)
    pub listed : (m : ℕ) → IsMarked vs m → (ch : Char) × (id : ℕ) × In seen ch × (ch.code < 256) × (place_of now.fonts ch.key ≡ Some id) × (m ≡ id * 256 + ch.code)
    pub loads : (id : ℕ) → IsLoaded (state_at now id) → IsLoaded (state_at old id) ⊎ HasSeen now seen id
    pub extends : Extends old now
    pub search : (G : FontSet) → Extends now G → Search same_key (rooted page G) root (keys_now old) (In seen) (keys_now now) frames

  -- the command that was read at a place
  abbrev pub TurnHere : FontSet → Place → Turn → Type 0
  TurnHere set p t = IsTurn (program_of set page p.home).scope (first_of first p.home) p.at (bytes_of set bytes p.home) t

-- ---- steps

abbrev pub FoundAt : PageBytes → FontSet → FontSet → List Bool → List Place → Type 0
FoundAt s old now vs ps = Found s.page s.bytes s.first old now vs ps

-- At a place stand commands that can be read.
pub record IsPlaced (s : PageBytes) (set : FontSet) (p : Place) : Type 0 where
  pub given : IsHome set p.home
  pub ends : length (bytes_of set s.bytes p.home) ≡ p.end
  pub short : first_of s.first p.home + p.end < 2 ^ 31
  pub rest : List Placed
  pub lexed : Lexes (first_of s.first p.home + p.at) (drop p.at (bytes_of set s.bytes p.home)) rest
  pub fonts : p.at < p.end → (program_of set s.page p.home).scope.fonts ≡ fonts_of set s.page p.home

-- The command at a place was read.
pub record Reads (s : PageBytes) (set : FontSet) (p : Place) (t : Turn) : Type 0 where
  pub further : p.at < t.next
  pub within : t.next ≤ p.end
  pub command : TurnHere s.page s.bytes s.first set p t
  pub selectable : IsSelectable t.does

-- The last place goes on: what was found stays, and less is left to do.
pub record Steps (s : PageBytes) (p : Place) (now new : FontSet) (a b : Todo) : Type 0 where
  pub extends : Extends now new
  pub found : (old : FontSet) → FoundAt s old now a.met (p ∷ a.places) → FoundAt s old new b.met b.places
  pub less : left_to_do b < left_to_do a + (p.end - p.at + 1)

-- A packet was opened in its first font.
pub record Opens (now new : FontSet) (id code : ℕ) (a b : Todo) : Type 0 where
  pub end : ℕ
  pub key : Option FontKey
  pub font : Option ℕ
  pub short : end ≤ 4194304
  pub long : length (bytes_of now [] (home.Packet id code)) ≡ end
  pub lexed : Lexes 0 (bytes_of now [] (home.Packet id code)) (program_or now id code).commands
  pub begins : FirstAnswer (program_or now id code).first key
  pub learnt : LearntFirst now new key font
  pub marks : b.met ≡ slice_set a.met (id * 256 + code) true
  pub within : id * 256 + code < length a.met
  pub places : b.places ≡ record { home = home.Packet id code; at = 0; end = end; font = font } ∷ a.places

-- A character is met: its font is loaded and has it, and its packet is opened.
pub record Meets (now new : FontSet) (id : ℕ) (z : ℤ) (a b : Todo) : Type 0 where
  pub mid : FontSet
  pub code : ℕ
  pub sets : z ≡ pos code
  pub small : code < 256
  pub loaded : Loaded now mid id
  pub others : LoadsOnly now mid id
  pub shown : IsShown (state_at mid id) code
  pub opens : Opens mid new id code a b

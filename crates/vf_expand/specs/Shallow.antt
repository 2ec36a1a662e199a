-- Pages and packets whose pushes are never too deep.
use Rattle.std.specs.Prelude.{◌≡◌, ℕ, zero, suc, ◌+◌, ◌<◌, ℤ, pos, List, length, Option, Some}
use Rattle.positions.specs.Place.{Place}
use Rattle.dvi_ops.specs.Command.{Command}
use Rattle.dvi_ops.specs.Command.Command.{Push, Set, Put}
use Rattle.dvi_ops.specs.Placed.{Placed}
use Rattle.font_set.specs.Fonts.{FontSet}
use Rattle.font_set.specs.Programs.{Program, program_at}
use Rattle.vf_expand.specs.Grid.{Grid, State}
use Rattle.vf_expand.specs.Meaning.{Meaning}
use Rattle.vf_expand.specs.Pages.{meaning, start_in, inner}
use Rattle.vf_expand.specs.Causes.{Moment}

-- the packet of a command's character finds room; inside says of which characters this is so
abbrev pub CharFinds : (Option ℕ → ℤ → Place → Type 0) → Command → State → Type 0
CharFinds inside (Set z) s = inside s.font z s.place
CharFinds inside (Put z) s = inside s.font z s.place
CharFinds inside _ s = Unit {0}

-- The command finds room where these pushes are open in its frame and so many in the frames around it: a push finds fewer than 1,000
-- open, and so does each push of the packet that a character runs.
abbrev pub FindsRoom : (ℕ → Option ℕ → ℤ → Place → Type 0) → ℕ → Command → List Place → State → Type 0
FindsRoom inside around c os s = (c ≡ Push → around + length os < 1000) × CharFinds (inside (around + length os)) c s

-- each of the commands does, judged by what the commands before it leave
abbrev pub AllFindRoom : (ℕ → Option ℕ → ℤ → Place → Type 0) → Meaning → State → List Placed → ℕ → Type 0
AllFindRoom inside m first cs around = (place : ℕ) (o : Moment m first cs place) → FindsRoom inside around o.command o.pushes o.state

-- The packet of a character finds room at a place, where packets may be nested n deep from here on and so many pushes are open.
unfoldable pub PacketFinds : Grid → FontSet → ℕ → ℕ → Option ℕ → ℤ → Place → Type 0
PacketFinds g set zero around font z p = Unit {0}
PacketFinds g set (suc n) around font z p =
    (id code : ℕ) (program : Program) → font ≡ Some id → z ≡ pos code → program_at set id code ≡ Some program
    → AllFindRoom (PacketFinds g set n) (meaning g set n program.scope) (start_in set program (inner p)) program.commands around

-- No push of a frame that begins at a place, or of the packets that it runs, finds 1,000 pushes open.
abbrev pub IsShallow : Grid → FontSet → ℕ → Program → Place → ℕ → Type 0
IsShallow g set n program p around = AllFindRoom (PacketFinds g set n) (meaning g set n program.scope) (start_in set program p) program.commands around

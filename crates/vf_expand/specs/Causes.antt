-- Why a walk stops. Each command is judged by what the commands before it leave, and a packet by what stands at its character.
use Rattle.std.specs.Prelude.{◌≡◌, ℕ, zero, suc, ◌+◌, ◌-◌, ◌^◌, ◌<◌, ◌⊎◌, ℤ, pos, ◌+ℤ◌, List, [], ◌∷◌, ◌++◌, length, Option, Some, unsigned_abs}
use Rattle.dv_base.specs.declared.font_id.Spot.{Spot}
use Rattle.dv_base.specs.declared.font_id.Spot.TheVariants as spot
use Rattle.positions.specs.Place.{Place}
use Rattle.positions.specs.Mark.{Mark}
use Rattle.dvi_ops.specs.Command.{Command}
use Rattle.dvi_ops.specs.Command.Command.{Push, Pop, Set, Put, SetRule, PutRule, Right, W0, W, X0, X, Down, Y0, Y, Z0, Z}
use Rattle.dvi_ops.specs.Placed.{Placed}
use Rattle.font_set.specs.Fonts.{FontSet, state_at, packet_at, IsVirtual}
use Rattle.font_set.specs.Programs.{Program, program_at}
use Rattle.vf_expand.specs.Grid.{Grid, State}
use Rattle.vf_expand.specs.Meaning.{Meaning}
use Rattle.vf_expand.specs.Turn.{Standing, left_by}
use Rattle.vf_expand.specs.Pages.{meaning, start_in, inner}
use Rattle.vf_expand.specs.declared.fault.WalkFault.{WalkFault}
use Rattle.vf_expand.specs.declared.fault.WalkFault.TheVariants as fault
use Rattle.vf_expand.specs.declared.fault.Halt.{Halt}
use Rattle.vf_expand.specs.declared.fault.Halt.TheVariants as halt

-- The moment before the command at a place: the commands before it have been run from the first state, and leave these open pushes and
-- this state.
pub record Moment (m : Meaning) (first : State) (cs : List Placed) (at : ℕ) : Type 0 where
  pub before : List Placed
  pub command : Command
  pub behind : List Placed
  pub pushes : List Place
  pub state : State
  pub whole : before ++ record { place = at; command = command } ∷ behind ≡ cs
  pub left : left_by m first before ≡ Some (record { pushes = pushes; state = state })

-- the size of a number is above 2^31 - 1
abbrev pub IsLarge : ℤ → Type 0
IsLarge z = 2 ^ 31 - 1 < unsigned_abs z

-- the command would make h, v or a size of a rule too large
abbrev pub Passes : Meaning → Command → State → Type 0
Passes m (Set z) s = (r : List Mark × ℤ) × (m.char s.font z s.place ≡ Some r) × IsLarge (s.place.h +ℤ r.1)
Passes m (SetRule a b) s = IsLarge (m.amount a) ⊎ (IsLarge (m.amount b) ⊎ IsLarge (s.place.h +ℤ m.amount b))
Passes m (PutRule a b) s = IsLarge (m.amount a) ⊎ IsLarge (m.amount b)
Passes m (Right q) s = IsLarge (s.place.h +ℤ m.amount q)
Passes m W0 s = IsLarge (s.place.h +ℤ s.place.w)
Passes m (W q) s = IsLarge (s.place.h +ℤ m.amount q)
Passes m X0 s = IsLarge (s.place.h +ℤ s.place.x)
Passes m (X q) s = IsLarge (s.place.h +ℤ m.amount q)
Passes m (Down q) s = IsLarge (s.place.v +ℤ m.amount q)
Passes m Y0 s = IsLarge (s.place.v +ℤ s.place.y)
Passes m (Y q) s = IsLarge (s.place.v +ℤ m.amount q)
Passes m Z0 s = IsLarge (s.place.v +ℤ s.place.z)
Passes m (Z q) s = IsLarge (s.place.v +ℤ m.amount q)
Passes m _ s = ⊥

-- a pop with no push open in its frame
abbrev pub IsUnder : Command → List Place → Type 0
IsUnder c os = (c ≡ Pop) × (os ≡ [])

-- a push that would be open as the 1,001st, those of the frames around counted
abbrev pub IsDeep : ℕ → Command → List Place → Type 0
IsDeep around c os = (c ≡ Push) × (around + length os ≡ 1000)

-- Why the command itself can't be run where these pushes are open and this is the state; sp is where the command stands, and around
-- how many pushes are open in the frames around it.
abbrev pub IsOwnCause : {F : Type 0} → Meaning → Spot → ℕ → Command → List Place → State → WalkFault F → Type 0
IsOwnCause m sp around c os s (fault.StackUnder x) = (x ≡ sp) × IsUnder c os
IsOwnCause m sp around c os s (fault.StackLeft x) = ⊥
IsOwnCause m sp around c os s (fault.StackDeep x) = (x ≡ sp) × IsDeep around c os
IsOwnCause m sp around c os s (fault.NestDeep id code) = ⊥
IsOwnCause m sp around c os s fault.TooManySteps = Unit {0}
IsOwnCause m sp around c os s (fault.Overflow x) = (x ≡ sp) × Passes m c s
IsOwnCause m sp around c os s (fault.Canvas f) = Unit {0}

-- why the character of a command can't be shown; inside says why one can't
abbrev pub IsCharCause : {F : Type 0} → (Option ℕ → ℤ → Place → WalkFault F → Type 0) → Command → State → WalkFault F → Type 0
IsCharCause inside (Set z) s e = inside s.font z s.place e
IsCharCause inside (Put z) s e = inside s.font z s.place e
IsCharCause inside _ s e = ⊥

abbrev pub IsTurnCause : {F : Type 0} → Meaning → Spot → ℕ → (Option ℕ → ℤ → Place → WalkFault F → Type 0) → Command → List Place → State → WalkFault F → Type 0
IsTurnCause m sp around inside c os s e = IsOwnCause m sp around c os s e ⊎ IsCharCause inside c s e

-- A push is left open at the end, whose place is this.
abbrev pub IsLeft : {F : Type 0} → Meaning → State → List Placed → Spot → WalkFault F → Type 0
IsLeft m first cs end (fault.StackLeft x) = (x ≡ end) × (a : Standing) × (left_by m first cs ≡ Some a) × (0 < length a.pushes)
IsLeft m first cs end _ = ⊥

-- Why a walk over these commands stops: at one of them, or at the end. at tells the spot of a place; inside says why a character can't
-- be shown where so many pushes are open around its packet.
abbrev pub IsCauseBy : {F : Type 0} → (ℕ → Option ℕ → ℤ → Place → WalkFault F → Type 0) → Meaning → State → List Placed → (ℕ → Spot) → ℕ → ℕ → WalkFault F → Type 0
IsCauseBy inside m first cs at end around e =
    ((place : ℕ) × (o : Moment m first cs place) × IsTurnCause m (at place) around (inside (around + length o.pushes)) o.command o.pushes o.state e)
    ⊎ IsLeft m first cs (at end) e

-- The character is of a virtual font, and no further packet may be nested.
abbrev pub IsNested : {F : Type 0} → FontSet → Option ℕ → ℤ → WalkFault F → Type 0
IsNested set font z (fault.NestDeep id code) = (font ≡ Some id) × (z ≡ pos code) × IsVirtual (state_at set id)
IsNested set font z fault.TooManySteps = Unit {0}
IsNested set font z (fault.Canvas f) = Unit {0}
IsNested set font z _ = ⊥

-- Faults that are counted or answered elsewhere: of these nothing is said here.
abbrev pub IsFree : {F : Type 0} → WalkFault F → Type 0
IsFree fault.TooManySteps = Unit {0}
IsFree (fault.Canvas f) = Unit {0}
IsFree _ = ⊥

-- A walk through the packet of the character stops.
pub record InPacket {F : Type 0} (set : FontSet) (walk : ℕ → ℕ → Program → ℕ → WalkFault F → Type 0) (font : Option ℕ) (z : ℤ) (e : WalkFault F) : Type 0 where
  pub id : ℕ
  pub code : ℕ
  pub program : Program
  pub bytes : List ℕ
  pub same_font : font ≡ Some id
  pub same_code : z ≡ pos code
  pub packet : packet_at set id code ≡ Some bytes
  pub runs : program_at set id code ≡ Some program
  pub stops : walk id code program (length bytes) e

-- Why a character can't be shown at a place, where packets may be nested n deep from here on.
unfoldable pub inside : {F : Type 0} → Grid → FontSet → ℕ → ℕ → Option ℕ → ℤ → Place → WalkFault F → Type 0
inside g set zero around font z p e = IsNested set font z e
inside g set (suc n) around font z p e =
    IsFree e
    ⊎ InPacket set
    (λ id code program end e. IsCauseBy (inside g set n) (meaning g set n program.scope) (start_in set program (inner p)) program.commands (λ at. spot.Packet id code at) end around e)
    font z e

-- Why a walk through a frame stops that begins at a place.
abbrev pub IsCause : {F : Type 0} → Grid → FontSet → ℕ → Program → Place → (ℕ → Spot) → ℕ → ℕ → WalkFault F → Type 0
IsCause g set n program p at end around e = IsCauseBy (inside g set n) (meaning g set n program.scope) (start_in set program p) program.commands at end around e

-- the canvas refused a mark
abbrev pub IsRefusal : {F : Type 0} → Halt F → Type 0
IsRefusal (halt.Canvas f) = Unit {0}
IsRefusal halt.Passed = ⊥

-- why a command that is neither push nor pop, and sets no character, is not done
abbrev pub IsHaltCause : {F : Type 0} → Meaning → Command → State → Halt F → Type 0
IsHaltCause m c s halt.Passed = Passes m c s
IsHaltCause m c s (halt.Canvas f) = Unit {0}

-- too many steps come only where the sum passes the limit
abbrev pub IsMany : {F : Type 0} → ℕ → WalkFault F → Type 0
IsMany total fault.TooManySteps = 50000000 < total
IsMany total _ = Unit {0}

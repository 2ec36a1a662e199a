-- What a walk gives to a canvas.
use Rattle.std.specs.Prelude.{◌≡◌, ℤ, pos, ◌≤ℤ◌, List, [], ◌∷◌, ◌++◌, Option, Some, None}
use Rattle.std.specs.List.{Contains}
use Rattle.positions.specs.Place.{Place}
use Rattle.positions.specs.Mark.{Glyph, Mark, IsModerate}
use Rattle.positions.specs.Mark.Mark.{OfGlyph, OfRule, OfSpecial}
use Rattle.vf_expand.specs.Grid.{State}
use Rattle.vf_expand.specs.Marks.{Outcome}
use Rattle.vf_expand.specs.Turn.{Turn}
use Rattle.vf_expand.specs.declared.fault.WalkFault.{WalkFault}
use Rattle.vf_expand.specs.declared.fault.WalkFault.TheVariants as fault
use Rattle.vf_expand.specs.declared.fault.Halt.{Halt}
use Rattle.vf_expand.specs.declared.fault.Halt.TheVariants as halt

-- A mark that a frame may have: its numbers are not too large, a rule comes only where it is painted, so it has a column and a row at
-- least, and a glyph is one that is painted.
abbrev pub MayCome : (Glyph → Type 0) → Mark → Type 0
MayCome paints (OfGlyph glyph) = IsModerate (OfGlyph glyph) × paints glyph
MayCome paints (OfRule rule) = IsModerate (OfRule rule) × (pos 1 ≤ℤ rule.columns) × (pos 1 ≤ℤ rule.rows)
MayCome paints (OfSpecial special) = IsModerate (OfSpecial special)

-- Each of the marks may come.
abbrev pub AllCome : (Glyph → Type 0) → List Mark → Type 0
AllCome paints [] = Unit {0}
AllCome paints (m ∷ ms) = MayCome paints m × AllCome paints ms

-- From the earlier canvas to the later one these marks were taken, and each of them may come.
abbrev pub Took : {C : Type 0} → (Glyph → Type 0) → (C → C → List Mark → Type 0) → C → C → List Mark → Type 0
Took paints takes old new ms = takes old new ms × AllCome paints ms

-- no glyph is painted
abbrev pub Nothing : Glyph → Type 0
Nothing glyph = ⊥

-- the mark is one of these, where these are defined
abbrev pub IsAmong : Option (List Mark) → Mark → Type 0
IsAmong None m = Unit {0}
IsAmong (Some ms) m = Contains ms m

-- The canvas can take what comes: each of these marks, where they are defined, and else each mark that may come at all.
abbrev pub CanTake : {C : Type 0} → (C → Mark → Type 0) → (Glyph → Type 0) → C → Option (List Mark) → Type 0
CanTake can paints c o = (m : Mark) → MayCome paints m → IsAmong o m → can c m

-- exactly the marks of a page were taken
abbrev pub TookPage : {C : Type 0} → (C → C → List Mark → Type 0) → C → C → Outcome → Type 0
TookPage takes old new None = ⊥
TookPage takes old new (Some r) = takes old new r.0

-- exactly the marks of the outcome were taken, and this is the state behind it
abbrev pub Follows : {C : Type 0} → (C → C → List Mark → Type 0) → C → C → State → Outcome → Type 0
Follows takes old new s None = ⊥
Follows takes old new s (Some r) = takes old new r.0 × (r.1 ≡ s)

-- exactly the marks of the turn were taken, and these are the open pushes and the state behind it
abbrev pub FollowsTurn : {C : Type 0} → (C → C → List Mark → Type 0) → C → C → List Place → State → Option Turn → Type 0
FollowsTurn takes old new os s None = ⊥
FollowsTurn takes old new os s (Some t) = takes old new t.marks × (t.pushes ≡ os) × (t.state ≡ s)

-- some marks were taken
abbrev pub TookSome : {C : Type 0} → (C → C → List Mark → Type 0) → C → C → Type 0
TookSome takes old new = (ms : List Mark) × takes old new ms

-- A front of the marks was taken and the next one refused; where the marks are undefined, some marks and some mark.
abbrev pub RefusesNext : {C F : Type 0} → (C → C → List Mark → Mark → F → Type 0) → C → C → F → Option (List Mark) → Type 0
RefusesNext refuses old new f None = (ms : List Mark) × (m : Mark) × refuses old new ms m f
RefusesNext refuses old new f (Some all) = (ms : List Mark) × (m : Mark) × (rest : List Mark) × refuses old new ms m f × (ms ++ m ∷ rest ≡ all)

-- What a walk that stopped has done of these marks. Where a limit of the format stopped it, the marks are undefined.
abbrev pub Stops : {C F : Type 0} → (C → C → List Mark → Type 0) → (C → C → List Mark → Mark → F → Type 0) → C → C → Option (List Mark) → WalkFault F → Type 0
Stops takes refuses old new o (fault.StackUnder spot) = (o ≡ None) × TookSome takes old new
Stops takes refuses old new o (fault.StackLeft spot) = (o ≡ None) × TookSome takes old new
Stops takes refuses old new o (fault.StackDeep spot) = TookSome takes old new
Stops takes refuses old new o (fault.Overflow spot) = (o ≡ None) × TookSome takes old new
Stops takes refuses old new o (fault.NestDeep font code) = (o ≡ None) × TookSome takes old new
Stops takes refuses old new o fault.TooManySteps = TookSome takes old new
Stops takes refuses old new o (fault.Canvas f) = RefusesNext refuses old new f o

-- the marks of a character were taken, and this is its width
abbrev pub TookChar : {C : Type 0} → (C → C → List Mark → Type 0) → C → C → ℤ → Option (List Mark × ℤ) → Type 0
TookChar takes old new width None = ⊥
TookChar takes old new width (Some r) = takes old new r.0 × (r.1 ≡ width)

abbrev pub char_marks : Option (List Mark × ℤ) → Option (List Mark)
char_marks None = None
char_marks (Some r) = Some r.0

-- What a command that is neither push nor pop, and sets no character, and that is not done, has done of its marks.
abbrev pub Halts : {C F : Type 0} → (C → C → List Mark → Mark → F → Type 0) → C → C → Option (List Mark) → Halt F → Type 0
Halts refuses old new o halt.Passed = (o ≡ None) × (new ≡ old)
Halts refuses old new o (halt.Canvas f) = RefusesNext refuses old new f o

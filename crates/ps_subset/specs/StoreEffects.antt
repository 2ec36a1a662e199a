-- The operators on dictionaries, arrays and saved states (PostScript Language Reference, 8.1: "Dictionary", "Array" and "Virtual memory"). Dictionaries and
-- arrays are places of a store; a save keeps a copy of it.
use Rattle.std.specs.Prelude.{ℕ, suc, ◌+◌, List, [], ◌∷◌, ◌++◌, Option, Some, None, Bool, true, false, if◌then◌else◌, ◌&&◌, ◌||◌, nat_eq, nat_lt, nat_le, length, slice_get, slice_set, option_and_then, reverse}
use Rattle.ps_subset.specs.Fraction.{natural_of}
use Rattle.ps_subset.specs.State.{Object, Number, Literal, Array, Dictionary, Mark, Save, Cell, Elements, Entries, Copy, Machine, Event, PutArray, Outcome, failed, entry, with_entry, entries_of, elements_of, push}

-- Dictionaries. def takes a value and a literal name into the dictionary on top, which has the key or room.
abbrev pub holds_key : Option Object → Bool
holds_key (Some x) = true
holds_key None = false

abbrev pub defined : Option Cell → List Cell → ℕ → List ℕ → Object → Option (List Cell)
defined (Some (Entries room es)) store d key value =
    if holds_key (entry key es) || nat_lt (length es) room
    then Some (slice_set store d (Entries room (with_entry key value es))) else None
defined _ store d key value = None

abbrev pub with_store : Option (List Cell) → List Object → Machine → Option Machine
with_store (Some store) rest m = Some (record m { operands = rest; store = store })
with_store None rest m = None

abbrev pub define : List ℕ → List ℕ → Object → List Object → Machine → Option Machine
define (d ∷ ds) key value rest m = with_store (defined (slice_get m.store d) m.store d key value) rest m
define [] key value rest m = None

abbrev pub def_effect : List Object → Machine → Option Machine
def_effect (value ∷ Literal key ∷ rest) m = define m.dictionaries key value rest m
def_effect _ m = None

-- something new at the end of the store
abbrev pub make : Cell → (ℕ → Object) → List Object → Machine → Option Machine
make cell name rest m = Some (record m { operands = name (length m.store) ∷ rest; store = m.store ++ cell ∷ [] })

-- at most 20 dictionaries stand on the stack, the system dictionary counted
abbrev pub begin_effect : List Object → Machine → Option Machine
begin_effect (Dictionary d ∷ rest) m =
    if nat_lt (length m.dictionaries) 19 then Some (record m { operands = rest; dictionaries = d ∷ m.dictionaries }) else None
begin_effect _ m = None

-- the system dictionary and the one above it stay
abbrev pub end_effect : List ℕ → Machine → Option Machine
end_effect (d ∷ e ∷ ds) m = Some (record m { dictionaries = e ∷ ds })
end_effect _ m = None

-- the operands above the topmost mark, the lowest first, and those below it
abbrev pub down_to_mark : List Object → List Object → Option (List Object × List Object)
down_to_mark [] taken = None
down_to_mark (Mark ∷ rest) taken = Some (taken, rest)
down_to_mark (x ∷ rest) taken = down_to_mark rest (x ∷ taken)

abbrev pub close_effect : Option (List Object × List Object) → Machine → Option Machine
close_effect (Some parts) m = make (Elements parts.0) Array parts.1 m
close_effect None m = None

-- Saves: at most 15. A save keeps the store, the font directory and the graphics state, not the stacked graphics states.
abbrev pub save_effect : Machine → Option Machine
save_effect m =
    if nat_lt (length m.saves) 15
    then push (Save m.saves_made) (record m { saves = record { id = m.saves_made; store = m.store; fonts = m.fonts; graphics = m.graphics } ∷ m.saves; saves_made = suc m.saves_made })
    else None

-- the saves from a given one on down; none where it was dropped
abbrev pub saves_from : ℕ → List Copy → List Copy
saves_from n [] = []
saves_from n (c ∷ cs) = if nat_eq c.id n then (c ∷ cs) else saves_from n cs

-- Nothing that was made since: a new array or dictionary stands at the store's end.
abbrev pub is_old : ℕ → Object → Bool
is_old made (Array a) = nat_lt a made
is_old made (Dictionary d) = nat_lt d made
is_old made _ = true

abbrev pub all_old : ℕ → List Object → Bool
all_old made [] = true
all_old made (x ∷ xs) = is_old made x && all_old made xs

abbrev pub all_below : ℕ → List ℕ → Bool
all_below made [] = true
all_below made (d ∷ ds) = nat_lt d made && all_below made ds

-- restore brings a save's copy back and drops it and the later ones; neither stack may hold what was made since
abbrev pub brought_back : List Copy → List Object → Machine → Option Machine
brought_back [] rest m = None
brought_back (c ∷ cs) rest m =
    if all_old (length c.store) rest && all_below (length c.store) m.dictionaries
    then Some (record m { operands = rest; store = c.store; fonts = c.fonts; graphics = c.graphics; saves = cs })
    else None

abbrev pub restore_effect : List Object → Machine → Option Machine
restore_effect (Save n ∷ rest) m = brought_back (saves_from n m.saves) rest m
restore_effect _ m = None

-- whether an array is put is told
abbrev pub put_events : Object → ℕ → List Event
put_events (Array a) i = PutArray i ∷ []
put_events _ i = []

abbrev pub put_at : Option Cell → ℕ → ℕ → Object → List Object → Machine → Outcome
put_at (Some (Elements xs)) a i x rest m =
    if nat_lt i (length xs) then (Some (record m { operands = rest; store = slice_set m.store a (Elements (slice_set xs i x)) }), put_events x i) else failed
put_at _ a i x rest m = failed

abbrev pub put_by : Option ℕ → ℕ → Object → List Object → Machine → Outcome
put_by (Some i) a x rest m = put_at (slice_get m.store a) a i x rest m
put_by None a x rest m = failed

abbrev pub put_effect : List Object → Machine → Outcome
put_effect (x ∷ Number i ∷ Array a ∷ rest) m = put_by (natural_of i) a x rest m
put_effect _ m = failed

abbrev pub got : Option Object → List Object → Machine → Option Machine
got (Some x) rest m = Some (record m { operands = x ∷ rest })
got None rest m = None

-- an array's element, or a dictionary's value
abbrev pub get_effect : List Object → Machine → Option Machine
get_effect (Number i ∷ Array a ∷ rest) m = option_and_then (λ n. got (slice_get (elements_of (slice_get m.store a)) n) rest m) (natural_of i)
get_effect (Literal key ∷ Dictionary d ∷ rest) m = got (entry key (entries_of (slice_get m.store d))) rest m
get_effect _ m = None

abbrev pub aload_on : Option Cell → ℕ → List Object → Machine → Option Machine
aload_on (Some (Elements xs)) a rest m =
    if nat_le (length xs + length rest + 1) 500 then Some (record m { operands = Array a ∷ (reverse xs ++ rest) }) else None
aload_on _ a rest m = None

abbrev pub aload_effect : List Object → Machine → Option Machine
aload_effect (Array a ∷ rest) m = aload_on (slice_get m.store a) a rest m
aload_effect _ m = None

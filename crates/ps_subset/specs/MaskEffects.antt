-- imagemask (PostScript Language Reference, 4.10: "Images"): a procedure gives the rows of samples, and a mask is painted where the scale and offset say.
use Rattle.std.specs.Prelude.{ℕ, zero, suc, ◌+◌, ◌-◌, ◌*◌, ◌/◌, ◌^◌, List, [], ◌∷◌, Option, Some, None, Bool, true, false, if◌then◌else◌, ◌&&◌, ◌||◌, nat_eq, nat_lt, nat_le, length, slice_get, take, drop}
use Rattle.ps_subset.specs.Fraction.{Fraction, minus, times, size, natural_of}
use Rattle.ps_subset.specs.Token.{Body}
use Rattle.ps_subset.specs.State.{Object, Number, Truth, Text, Procedure, Array, Cell, Elements, Frame, Character, Machine, Event, Mask, Outcome, failed, go_on, same_objects}

-- imagemask. Whether a row of w samples has a sample 1: the bits of a byte count from the highest, and those past the row's end count for
-- nothing.
abbrev pub row_marks : ℕ → List ℕ → Bool
row_marks w [] = false
row_marks w (b ∷ bs) = if nat_le w 8 then nat_lt 0 (b / 2 ^ (8 - w)) else (nat_lt 0 b || row_marks (w - 8) bs)

abbrev pub row_bytes : ℕ → ℕ
row_bytes w = (w + 7) / 8

abbrev pub rows_mark : ℕ → ℕ → List ℕ → Bool
rows_mark w zero bytes = false
rows_mark w (suc h) bytes = row_marks w (take (row_bytes w) bytes) || rows_mark w h (drop (row_bytes w) bytes)

-- a mask without a sample 1 is none
abbrev pub mask_events : Bool → Event → List Event
mask_events true e = e ∷ []
mask_events false e = []

abbrev pub mask_at : Option Character → Frame → Fraction → Fraction → ℕ → ℕ → List ℕ → Event
mask_at by f tx ty w h rows =
    Mask by (record { x = minus f.offset_x (times f.scale_x tx); y = minus f.offset_y (times f.scale_y ty) }) (record { x = size f.scale_x; y = size f.scale_y }) w h rows

-- the procedure has left one string, of h rows that are padded to bytes, over the operands that were there
abbrev pub painted : List Object → List Object → Fraction → Fraction → ℕ → ℕ → Machine → Outcome
painted (Text rows ∷ below) rest tx ty w h m =
    if nat_eq (length rows) (h * row_bytes w) && same_objects below rest
    then (Some (record m { operands = below }), mask_events (rows_mark w h rows) (mask_at m.showing m.graphics.frame tx ty w h rows))
    else failed
painted _ rest tx ty w h m = failed

abbrev pub is_number : ℕ → Option ℕ → Bool
is_number n (Some m) = nat_eq n m
is_number n None = false

-- the last two numbers of a matrix [1 0 0 1 tx ty]
abbrev pub shift_of : Option Cell → Option (Fraction × Fraction)
shift_of (Some (Elements (Number a ∷ Number b ∷ Number c ∷ Number d ∷ Number tx ∷ Number ty ∷ []))) =
    if is_number 1 (natural_of a) && is_number 0 (natural_of b) && is_number 0 (natural_of c) && is_number 1 (natural_of d) then Some (tx, ty) else None
shift_of _ = None

abbrev pub count_of : Object → Option ℕ
count_of (Number x) = natural_of x
count_of _ = None

abbrev pub mask_by : (Body → Machine → Outcome) → Body → Option (Fraction × Fraction) → Option ℕ → Option ℕ → List Object → Machine → Outcome
mask_by beside procedure (Some (tx, ty)) (Some (suc w)) (Some (suc h)) rest m =
    if nat_le (suc h * row_bytes (suc w)) 16777216
    then go_on (beside procedure (record m { operands = rest })) (λ n. painted n.operands rest tx ty (suc w) (suc h) n)
    else failed
mask_by beside procedure _ _ _ rest m = failed

-- The matrix and the sizes are judged before the procedure runs; the place and the size of a sample are those after it.
abbrev pub imagemask_effect : (Body → Machine → Outcome) → List Object → Machine → Outcome
imagemask_effect beside (Procedure procedure ∷ Array a ∷ Truth ∷ h ∷ w ∷ rest) m =
    mask_by beside procedure (shift_of (slice_get m.store a)) (count_of w) (count_of h) rest m
imagemask_effect beside _ m = failed

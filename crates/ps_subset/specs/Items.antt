-- The items of a page, the lines that write them, and the events that they owe. Lines go on from what the lines before them have left: the place, the
-- font, and the way that was kept.
use Rattle.std.specs.Prelude.{ℕ, ◌<◌, ◌≤◌, ◌^◌, ◌≡◌, List, [], ◌∷◌, ◌++◌, length, ℤ, pos, nat_abs, ◌-ℤ◌, ◌<ℤ◌, codes, Bool, true, false, nat_eq, if◌then◌else◌, Option, Some, None, ◌⊎◌}
use Rattle.ps_subset.specs.Fraction.{same_ℤ}
use Rattle.ps_subset.specs.State.{Event, TextShown}
use Rattle.ps_subset.specs.Prolog.{line}
use Rattle.ps_subset.specs.Job.{Job, IsInRange, pixel_place, rule_mask}
use Rattle.ps_subset.specs.Lines.{signed_field}
use Rattle.ps_subset.specs.Fonts.{Letter, Font, font_name, letter_codes, string_masks, string_end}
use Rattle.ps_subset.specs.Ways.{short_name, near_name}
use Rattle.ps_subset.specs.Strings.{string_text}
use Rattle.ps_subset.specs.Blocks.{block_lines}
use Rattle.ps_subset.specs.State as state

-- What stands on a page, each at its pixel: a stretch of letters of a font, a rule of so many columns and rows whose lower left pixel it is,
-- and a block of bytes that is passed on unread.
pub data Item : Type 0 where
  Stretch : ℕ → List Letter → ℤ → ℤ → Item
  Rule : ℤ → ℤ → ℤ → ℤ → Item
  Block : List ℕ → ℤ → ℤ → Item

abbrev pub x_of : Item → ℤ
x_of (Stretch id ls x y) = x
x_of (Rule columns rows x y) = x
x_of (Block bytes x y) = x

abbrev pub y_of : Item → ℤ
y_of (Stretch id ls x y) = y
y_of (Rule columns rows x y) = y
y_of (Block bytes x y) = y

-- Pages. What the lines before an item have left: the place, the font that they have set, delta, and whether the next move names its pixel
-- whatever the place is.
pub record Pen : Type 0 where
  pub x : ℤ
  pub y : ℤ
  pub font : Option ℕ
  pub delta : ℤ
  pub lost : Bool

abbrev pub first_pen : Pen
first_pen = record { x = pos 0; y = pos 0; font = None; delta = pos 0; lost = false }

abbrev pub is_set : Option ℕ → ℕ → Bool
is_set (Some k) id = nat_eq k id
is_set None id = false

abbrev pub font_line : Pen → ℕ → List ℕ
font_line pen id = if is_set pen.font id then [] else ((font_name id ++ codes " ") ++ line (codes "F"))

abbrev pub to_line : ℤ → ℤ → List ℕ
to_line x y = signed_field x ++ (signed_field y ++ line (codes "a"))

abbrev pub move_line : Pen → ℤ → ℤ → List ℕ
move_line pen x y =
    if pen.lost then to_line x y
    else if same_ℤ pen.y y then (if same_ℤ pen.x x then [] else (signed_field (x -ℤ pen.x) ++ line (codes "w")))
    else if same_ℤ pen.x x then (signed_field (y -ℤ pen.y) ++ line (codes "x"))
    else to_line x y

-- How a stretch's line ends, by the way to the next item: a short one by its own name, one near delta by its own name, any other by b, and
-- y leads to another row.
abbrev pub way_end : Option (List ℕ) → Option (List ℕ) → ℤ → List ℕ
way_end (Some short) near dx = line short
way_end None (Some near) dx = line near
way_end None None dx = signed_field dx ++ line (codes "b")

abbrev pub delta_behind : Option (List ℕ) → ℤ → ℤ → ℤ
delta_behind (Some short) delta dx = delta
delta_behind None delta dx = dx

abbrev pub row_end : ℤ → ℤ → List ℕ
row_end delta dx = if same_ℤ dx (pos 0) then line (codes "p") else way_end (short_name dx) (near_name (dx -ℤ delta)) dx

abbrev pub row_delta : ℤ → ℤ → ℤ
row_delta delta dx = if same_ℤ dx (pos 0) then delta else delta_behind (short_name dx) delta dx

-- (x, y) is the pixel behind the stretch
abbrev pub stretch_end : ℤ → ℤ → ℤ → Option (ℤ × ℤ) → List ℕ
stretch_end delta x y None = line (codes "p")
stretch_end delta x y (Some (x', y')) = if same_ℤ y y' then row_end delta (x' -ℤ x) else (signed_field x' ++ (signed_field y' ++ line (codes "y")))

abbrev pub pen_behind_stretch : ℕ → ℤ → ℤ → ℤ → Option (ℤ × ℤ) → Pen
pen_behind_stretch id delta x y None = record { x = x; y = y; font = Some id; delta = delta; lost = false }
pen_behind_stretch id delta x y (Some (x', y')) = record { x = x'; y = y'; font = Some id; delta = if same_ℤ y y' then row_delta delta (x' -ℤ x) else delta; lost = false }

-- an item's lines, where the next one is at a given pixel, and the pen behind it
abbrev pub item_lines : Pen → Item → Option (ℤ × ℤ) → List ℕ
item_lines pen (Stretch id ls x y) next = font_line pen id ++ (move_line pen x y ++ (string_text (letter_codes ls) ++ stretch_end pen.delta (string_end x ls) y next))
item_lines pen (Rule columns rows x y) next = move_line pen x y ++ (signed_field columns ++ (signed_field rows ++ line (codes "v")))
item_lines pen (Block bytes x y) next = move_line pen x y ++ block_lines bytes

abbrev pub pen_behind : Pen → Item → Option (ℤ × ℤ) → Pen
pen_behind pen (Stretch id ls x y) next = pen_behind_stretch id pen.delta (string_end x ls) y next
pen_behind pen (Rule columns rows x y) next = record pen { x = x; y = y; lost = false }
pen_behind pen (Block bytes x y) next = record pen { x = x; y = y; lost = true }

abbrev pub next_place : List Item → Option (ℤ × ℤ)
next_place [] = None
next_place (i ∷ is) = Some (x_of i, y_of i)

abbrev pub lines_from : Pen → List Item → List ℕ
lines_from pen [] = []
lines_from pen (i ∷ is) = item_lines pen i (next_place is) ++ lines_from (pen_behind pen i (next_place is)) is

abbrev pub item_events : Job → Item → List Event
item_events j (Stretch id ls x y) = TextShown (font_name id) (letter_codes ls) (pixel_place j x y) ∷ string_masks j (font_name id) x y ls
item_events j (Rule columns rows x y) = rule_mask j x y columns rows ∷ []
item_events j (Block bytes x y) = state.Block bytes ∷ []

abbrev pub items_events : Job → List Item → List Event
items_events j [] = []
items_events j (i ∷ is) = item_events j i ++ items_events j is

abbrev pub IsIn : Letter → List Letter → Type 0
IsIn l [] = ⊥
IsIn l (x ∷ xs) = (x ≡ l) ⊎ IsIn l xs

abbrev pub AllIn : List Letter → List Letter → Type 0
AllIn [] xs = Unit {0}
AllIn (l ∷ ls) xs = IsIn l xs × AllIn ls xs

abbrev pub font_in : List Font → ℕ → Option Font
font_in [] id = None
font_in (f ∷ fs) id = if nat_eq f.id id then Some f else font_in fs id

-- half of the numbers that are printed, so that a way between two is one of them
abbrev pub IsSmall : ℤ → Type 0
IsSmall z = nat_abs z < 2 ^ 61

abbrev pub IsGoodItem : List Font → Item → Type 0
IsGoodItem fonts (Stretch id ls x y) = IsSmall x × IsSmall y × IsSmall (string_end x ls) × (length ls ≤ 50) × ((f : Font) × (font_in fonts id ≡ Some f) × AllIn ls f.letters)
IsGoodItem fonts (Rule columns rows x y) = IsSmall x × IsSmall y × (pos 0 <ℤ columns) × IsInRange columns × (pos 0 <ℤ rows) × IsInRange rows
IsGoodItem fonts (Block bytes x y) = IsSmall x × IsSmall y × (length bytes < 2 ^ 63)

abbrev pub AllGoodItems : List Font → List Item → Type 0
AllGoodItems fonts [] = Unit {0}
AllGoodItems fonts (i ∷ is) = IsGoodItem fonts i × AllGoodItems fonts is

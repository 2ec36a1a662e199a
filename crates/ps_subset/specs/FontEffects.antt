-- The operators on fonts (PostScript Language Reference, 5.7: "Type 3 fonts"): a font is a dictionary whose BuildChar paints a character, and show runs it for
-- each code of a string.
use Rattle.std.specs.Prelude.{ℕ, ◌+◌, List, [], ◌∷◌, Option, Some, None, Bool, false, if◌then◌else◌, ◌&&◌, nat_lt, nat_le, length, slice_get, codes, pos, bytes_eq}
use Rattle.ps_subset.specs.Fraction.{Fraction, whole, plus, times, natural_of, is_zero}
use Rattle.ps_subset.specs.Token.{Body}
use Rattle.ps_subset.specs.State.{Object, Number, Literal, Text, Procedure, Array, Dictionary, Entry, Cell, Place, Graphics, FontEntry, Character, Machine, FontMade, TextShown, Outcome, quiet, failed, more, go_on, entry, entries_of, same_objects}
use Rattle.ps_subset.specs.StoreEffects.{holds_key, defined}
use Rattle.ps_subset.specs.MaskEffects.{is_number, shift_of}

-- the font directory with one more font at its end, or with the one of this key changed
abbrev pub with_font : List ℕ → ℕ → List FontEntry → List FontEntry
with_font key d [] = record { key = key; dictionary = d } ∷ []
with_font key d (f ∷ fs) = if bytes_eq f.key key then (record { key = key; dictionary = d } ∷ fs) else (f ∷ with_font key d fs)

abbrev pub font_entered : Option (List Cell) → List ℕ → ℕ → List Object → Machine → Outcome
font_entered (Some store) key d rest m = (Some (record m { operands = Dictionary d ∷ rest; store = store; fonts = with_font key d m.fonts }), FontMade key ∷ [])
font_entered None key d rest m = failed

-- the dictionary's FID becomes the key
abbrev pub definefont_effect : List Object → Machine → Outcome
definefont_effect (Dictionary d ∷ Literal key ∷ rest) m = font_entered (defined (slice_get m.store d) m.store d (codes "FID") (Literal key)) key d rest m
definefont_effect _ m = failed

abbrev pub setfont_effect : List Object → Machine → Option Machine
setfont_effect (Dictionary d ∷ rest) m =
    if holds_key (entry (codes "FID") (entries_of (slice_get m.store d))) then Some (record m { operands = rest; graphics = record m.graphics { font = Some d } }) else None
setfont_effect _ m = None

-- only where a character is shown, and once
abbrev pub noted : Option Character → Option Fraction → Fraction → List Object → Machine → Option Machine
noted (Some who) None wx rest m = Some (record m { operands = rest; width = Some wx })
noted _ _ wx rest m = None

abbrev pub setcachedevice_effect : List Object → Machine → Option Machine
setcachedevice_effect (Number ury ∷ Number urx ∷ Number lly ∷ Number llx ∷ Number wy ∷ Number wx ∷ rest) m =
    if is_zero wy then noted m.showing m.width wx rest m else None
setcachedevice_effect _ m = None

-- show. A font that it takes has FontType 3, FontMatrix [1 0 0 1 0 0], and a literal name as its FID, which is its key.
abbrev pub is_unit : Option (Fraction × Fraction) → Bool
is_unit (Some (tx, ty)) = is_zero tx && is_zero ty
is_unit None = false

abbrev pub has_unit_matrix : Option Object → List Cell → Bool
has_unit_matrix (Some (Array a)) store = is_unit (shift_of (slice_get store a))
has_unit_matrix _ store = false

abbrev pub key_by : Option Object → Option Object → Bool → Option (List ℕ)
key_by (Some (Number three)) (Some (Literal key)) unit = if is_number 3 (natural_of three) && unit then Some key else None
key_by _ _ unit = None

abbrev pub font_key : List Entry → List Cell → Option (List ℕ)
font_key es store = key_by (entry (codes "FontType") es) (entry (codes "FID") es) (has_unit_matrix (entry (codes "FontMatrix") es) store)

-- What a character's BuildChar starts from: the font's dictionary and the code are on top, and the place has become the offset.
abbrev pub in_character : List ℕ → ℕ → ℕ → Place → Machine → Machine
in_character key d code p m = record m {
  operands = Number (whole (pos code)) ∷ Dictionary d ∷ m.operands;
  graphics = record m.graphics { frame = record m.graphics.frame { offset_x = p.x; offset_y = p.y }; place = None };
  pushed = m.graphics ∷ m.pushed;
  showing = Some (record { key = key; code = code });
  width = None;
}

-- after it the graphics state is taken back, and the place grows by the width
abbrev pub grown : Graphics → List Graphics → Option Place → Fraction → Machine → Option Machine
grown g gs (Some p) wx m = Some (record m { graphics = record g { place = Some (record p { x = plus p.x (times g.frame.scale_x wx) }) }; pushed = gs })
grown g gs None wx m = None

abbrev pub taken_back : List Graphics → Option Fraction → Machine → Option Machine
taken_back (g ∷ gs) (Some wx) m = grown g gs g.place wx m
taken_back _ _ m = None

-- it has noted a width, and left the operands that were there
abbrev pub built : Machine → Machine → Outcome
built before m =
    if same_objects m.operands before.operands then quiet (taken_back m.pushed m.width (record m { showing = before.showing; width = before.width })) else failed

abbrev pub build_by : (Body → Machine → Outcome) → List ℕ → ℕ → ℕ → Place → Option Object → Machine → Outcome
build_by deeper key d code p (Some (Procedure build)) m =
    if nat_lt (length m.pushed) 31 && nat_le (length m.operands + 2) 500 then go_on (deeper build (in_character key d code p m)) (built m) else failed
build_by deeper key d code p _ m = failed

abbrev pub character : (Body → Machine → Outcome) → List ℕ → ℕ → Option ℕ → Option Place → Machine → Outcome
character deeper key code (Some d) (Some p) m = build_by deeper key d code p (entry (codes "BuildChar") (entries_of (slice_get m.store d))) m
character deeper key code _ _ m = failed

-- one code after another
unfoldable pub characters : (Body → Machine → Outcome) → List ℕ → List ℕ → Machine → Outcome
characters deeper key [] m = (Some m, [])
characters deeper key (c ∷ cs) m = go_on (character deeper key c m.graphics.font m.graphics.place m) (characters deeper key cs)

abbrev pub show_by : (Body → Machine → Outcome) → Option (List ℕ) → List ℕ → Place → Machine → Outcome
show_by deeper (Some key) text p m = more (TextShown key text p ∷ []) (characters deeper key text m)
show_by deeper None text p m = failed

abbrev pub show_at : (Body → Machine → Outcome) → Option ℕ → Option Place → List ℕ → Machine → Outcome
show_at deeper (Some d) (Some p) text m = show_by deeper (font_key (entries_of (slice_get m.store d)) m.store) text p m
show_at deeper _ _ text m = failed

abbrev pub show_effect : (Body → Machine → Outcome) → List Object → Machine → Outcome
show_effect deeper (Text text ∷ rest) m = show_at deeper m.graphics.font m.graphics.place text (record m { operands = rest })
show_effect deeper _ m = failed

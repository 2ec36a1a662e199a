-- The marks of an expanded tree, with the fonts of a set.
use Rattle.std.specs.Prelude.{ℕ, ℤ, Bool, true, false, List, [], ◌∷◌, Option, Some, None}
use Rattle.positions.specs.Mark.{Mark}
use Rattle.positions.specs.Place.{Place}
use Rattle.font_set.specs.Fonts.{FontSet, place_of}
use Rattle.font_set.specs.Expand.{Expanded}
use Rattle.vf_expand.specs.Grid as grid
use Rattle.vf_expand.specs.Grid.{Grid}
use Rattle.vf_expand.specs.Meaning.{Meaning}
use Rattle.vf_expand.specs.Marks.{Outcome, after, step, set_char, put_char, in_font, restored}
use Rattle.vf_expand.specs.Pages.{space_of, amount_of, glyph_at, inner, boxed}

-- a command that neither selects a font nor sets a character
abbrev pub bare : Grid → FontSet → Option ℕ → Meaning
bare g set size = record { grid = g; space = space_of set; amount = amount_of size; select = λ k. None; char = λ font z p. None }

abbrev pub put_or_set : Grid → Bool → grid.State → Option (List Mark × ℤ) → Outcome
put_or_set g true s o = set_char g s o
put_or_set g false s o = put_char s o

abbrev pub glyph_of : Grid → Option ℕ → ℕ → Place → ℤ → Option (List Mark × ℤ)
glyph_of g None code p width = None
glyph_of g (Some id) code p width = Some (glyph_at g id code p width ∷ [], width)

unfoldable pub expanded_marks : Grid → FontSet → Expanded → grid.State → Outcome
expanded_marks g set Expanded.Done s = Some ([], s)
expanded_marks g set (Expanded.Plain size c x) s = after (step (bare g set size) c.command s) (expanded_marks g set x)
expanded_marks g set (Expanded.InFont key x) s = after (in_font s (place_of set.fonts key)) (expanded_marks g set x)
expanded_marks g set (Expanded.Glyph key code width moves x) s =
    after (put_or_set g moves s (glyph_of g (place_of set.fonts key) code s.place width)) (expanded_marks g set x)
expanded_marks g set (Expanded.Boxed key code width moves nodes x) s =
    after (put_or_set g moves s (boxed width (expanded_marks g set nodes (record { place = inner s.place; font = None })))) (expanded_marks g set x)
expanded_marks g set (Expanded.Grouped i x) s = after (expanded_marks g set i s) (λ r. expanded_marks g set x (restored s.place r))

abbrev pub marks_expanded : Grid → FontSet → Option Expanded → grid.State → Outcome
marks_expanded g set None s = None
marks_expanded g set (Some x) s = expanded_marks g set x s

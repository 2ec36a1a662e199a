-- The line of a glyph in two parts, before and behind its rows. (No public clause cites this module: its words are those of the writer.)
use Rattle.std.specs.Prelude.{ℕ, ℤ, Bool, true, false, List, ◌∷◌, ◌++◌, codes, decimal, pos, ◌-ℤ◌}
use Rattle.std.specs.Fmt.{signed_decimal}
use Rattle.pk_raster.specs.Font.{Bitmap}
use Rattle.ps_subset.specs.Lines.{natural_field, signed_field}
use Rattle.ps_subset.specs.FontText.{hex_text}

abbrev pub letter_head : ℕ → Bitmap → List ℕ
letter_head code b =
    decimal code ++ (codes "[" ++ (natural_field b.w ++ (natural_field b.h ++ (codes "true[1 0 0 1 " ++ (signed_field b.hoff ++ (signed_decimal b.voff ++ codes "]{<"))))))

abbrev pub behind_rows : (width w h hoff voff : ℤ) → List ℕ
behind_rows width w h hoff voff =
    codes ">}" ++ (signed_field width ++ (codes "0 " ++ (signed_field (pos 0 -ℤ hoff) ++ (signed_field (pos 0 -ℤ voff) ++ (signed_field (w -ℤ hoff) ++
    (signed_decimal (h -ℤ voff) ++ codes "]D\n"))))))

abbrev pub letter_tail : Bitmap → ℤ → List ℕ
letter_tail b width = behind_rows width (pos b.w) (pos b.h) b.hoff b.voff

-- the line of a glyph that is printed as it is
abbrev pub drawn_line : ℕ → Bitmap → ℤ → List ℕ
drawn_line code b width = letter_head code b ++ (hex_text 32 b.rows ++ letter_tail b width)

-- at most 32 bytes of rows, behind a line end where others stand before them
abbrev pub row_text : Bool → List ℕ → List ℕ
row_text true bytes = 10 ∷ hex_text 32 bytes
row_text false bytes = hex_text 32 bytes

-- What a run warns of: fonts whose checksums don't agree, and specials that mean nothing to it.
use Rattle.std.specs.Prelude.{ℕ, List, [], ◌∷◌, ◌++◌, Bool, true, false, not, ◌&&◌, ◌||◌, codes, map, nat_eq, take, length, Option, Some, None, if◌then◌else◌}
use Rattle.positions.specs.Mark.{Mark}
use Rattle.specials.specs.Special.{Meaning, special_of}
use Rattle.specials.specs.Special.Meaning.{Paper, BadPaper, Header, Literal, Unknown}
use Rattle.tfm_widths.specs.Widths.{Table}
use Rattle.pk_raster.specs.Font.{Font}
use Rattle.font_set.specs.Fonts.{FontSet, State, key_at, state_at}
use Rattle.sections.specs.Below.{those_below}
use Rattle.dv_top.specs.Escaped.{escaped}
use Rattle.dv_top.specs.Specials.{specials_of}

-- ---- fonts

-- two checksums that are both told, and differ; 0 tells nothing
abbrev pub differ : ℕ → ℕ → Bool
differ a b = not (nat_eq a 0) && not (nat_eq b 0) && not (nat_eq a b)

abbrev pub pk_differs : Table → Option Font → Bool
pk_differs tfm None = false
pk_differs tfm (Some pk) = differ tfm.checksum pk.checksum

-- the checksums of a font's key and its files don't agree
abbrev pub mismatches : ℕ → State → Bool
mismatches key State.Known = false
mismatches key (State.Real tfm pk) = differ key tfm.checksum || pk_differs tfm pk
mismatches key (State.Virtual tfm vf) = differ key tfm.checksum || differ tfm.checksum vf.checksum

abbrev pub is_mismatched : FontSet → ℕ → Bool
is_mismatched set id = mismatches (key_at set id).checksum (state_at set id)

abbrev pub checksum_line : FontSet → ℕ → List ℕ
checksum_line set id = codes "texdvi: warning: checksum " ++ (key_at set id).name

-- a line for each font of the set whose checksums don't agree, in the order of their numbers
abbrev pub checksum_lines : FontSet → List (List ℕ)
checksum_lines set = map (checksum_line set) (those_below (is_mismatched set) (length set.fonts))

-- ---- specials

-- whether nothing is done for a special; a literal one may be passed on
abbrev pub is_idle : Bool → Meaning → Bool
is_idle pass (Paper width height) = false
is_idle pass BadPaper = true
is_idle pass (Header name) = false
is_idle pass (Literal text) = not pass
is_idle pass Unknown = true

-- the first bytes of a special, as many as are shown
abbrev pub head_of : List ℕ → List ℕ
head_of special = take 60 special

-- the heads of the specials for which nothing is done
abbrev pub heads_in : Bool → List (List ℕ) → List (List ℕ)
heads_in pass [] = []
heads_in pass (special ∷ specials) = if is_idle pass (special_of special) then head_of special ∷ heads_in pass specials else heads_in pass specials

abbrev pub special_line : List ℕ → List ℕ
special_line head = codes "texdvi: warning: special " ++ escaped head

-- a line for each of them
abbrev pub special_lines : Bool → List (List ℕ) → List (List ℕ)
special_lines pass specials = map special_line (heads_in pass specials)

-- ---- all of them, whole lines

-- What a run warns of these fonts and these pages: fonts first, then specials in the order of the pages. A quiet one warns of nothing.
abbrev pub warnings_of : Bool → Bool → FontSet → List (List Mark) → List (List ℕ)
warnings_of true pass set pages = []
warnings_of false pass set pages = checksum_lines set ++ special_lines pass (specials_of pages)

-- Short texts at the edges of the machine's rules: where a limit stands, and what restore, grestore, put, get and imagemask refuse.
use Rattle.std.specs.Prelude.{◌≡◌, [], ◌∷◌, ◌++◌, Some, None, pos, codes}
use Rattle.ps_subset.specs.Token.{Number, Text, Meaningless}
use Rattle.ps_subset.specs.Reading.{tokens}
use Rattle.ps_subset.specs.State.{PutArray, Mask}
use Rattle.ps_subset.specs.Run.{events}
use Rattle.ps_subset.specs.Samples.{fraction, nested_braces}

-- All six bytes of white space end a word and stand inside hexadecimal strings; the letters there go to f.
abbrev pub WhiteSpace : Type 0
WhiteSpace =
    (tokens (49 ∷ 0 ∷ 50 ∷ 9 ∷ 51 ∷ 10 ∷ 52 ∷ 12 ∷ 53 ∷ 13 ∷ 54 ∷ 32 ∷ []) ≡ Number (pos 1) ∷ Number (pos 2) ∷ Number (pos 3) ∷ Number (pos 4) ∷ Number (pos 5) ∷ Number (pos 6) ∷ []) ×
    (tokens (60 ∷ 56 ∷ 0 ∷ 12 ∷ 70 ∷ 62 ∷ []) ≡ Text (143 ∷ []) ∷ []) ×
    (tokens (codes "<8g>") ≡ Meaningless ∷ []) ×
    (tokens (codes "<8G>") ≡ Meaningless ∷ []) ×
    (tokens (codes "<8:>") ≡ Meaningless ∷ [])

-- A count is at most 65,535. So is the number of copies.
abbrev pub Counts : Type 0
Counts =
    (events (codes "65535 dict ") ≡ Some []) ×
    (events (codes "65536 dict ") ≡ None) ×
    (events (codes "65536 array ") ≡ None) ×
    (events (codes "-1 array ") ≡ None) ×
    (events (codes "1 2 div array ") ≡ None) ×
    (events (codes "/#copies 65536 def showpage ") ≡ None)

-- The depth of a procedure is that of its deepest token, not of its first one.
abbrev pub Depths : Type 0
Depths =
    (events (codes "{1" ++ (nested_braces 99 ++ codes "}")) ≡ Some []) ×
    (events (codes "{1" ++ (nested_braces 100 ++ codes "}")) ≡ None)

-- restore: neither stack may hold an array or a dictionary that was made since.
abbrev pub Restores : Type 0
Restores =
    (events (codes "[1]save restore ") ≡ Some []) ×
    (events (codes "save[1]exch restore ") ≡ None) ×
    (events (codes "1 dict save restore ") ≡ Some []) ×
    (events (codes "save 1 dict exch restore ") ≡ None) ×
    (events (codes "1 dict begin save restore ") ≡ Some []) ×
    (events (codes "save 1 dict begin restore ") ≡ None) ×
    (events (codes "save save exch restore restore ") ≡ None) ×
    (events (codes "grestore ") ≡ None)

-- Arrays: an index is below the length, put is for arrays alone, and get is for dictionaries too.
abbrev pub Elements : Type 0
Elements =
    (events (codes "[7]0 get pop ") ≡ Some []) ×
    (events (codes "[7]1 get ") ≡ None) ×
    (events (codes "[7]0 8 put ") ≡ Some []) ×
    (events (codes "[7]1 8 put ") ≡ None) ×
    (events (codes "3 array 2[]put ") ≡ Some (PutArray 2 ∷ [])) ×
    (events (codes "1 dict dup begin/a 7 def end/a get ") ≡ Some []) ×
    (events (codes "1 dict/a get ") ≡ None) ×
    (events (codes "1 dict/a 1 put ") ≡ None) ×
    (events (codes "7 8 1 index pop ") ≡ Some []) ×
    (events (codes "7 8 2 index ") ≡ None) ×
    (events (codes "7 8 2 2 roll ") ≡ Some []) ×
    (events (codes "7 8 2 3 roll ") ≡ None) ×
    (events (codes "7 8 3 1 roll ") ≡ None) ×
    (events (codes "1 dict aload ") ≡ None)

-- imagemask: each of the first four numbers of the matrix counts, and it has six.
abbrev pub Matrices : Type 0
Matrices =
    (events (codes "8 1 true[1 0 0 1 0 0]{<80>}imagemask ") ≡ Some (Mask None (record { x = fraction 0 0; y = fraction 0 0 }) (record { x = fraction 1 0; y = fraction 1 0 }) 8 1 (128 ∷ []) ∷ [])) ×
    (events (codes "8 1 true[2 0 0 1 0 0]{<80>}imagemask ") ≡ None) ×
    (events (codes "8 1 true[1 1 0 1 0 0]{<80>}imagemask ") ≡ None) ×
    (events (codes "8 1 true[1 0 1 1 0 0]{<80>}imagemask ") ≡ None) ×
    (events (codes "8 1 true[1 0 0 2 0 0]{<80>}imagemask ") ≡ None) ×
    (events (codes "8 1 true[1 0 0 1 0]{<80>}imagemask ") ≡ None)

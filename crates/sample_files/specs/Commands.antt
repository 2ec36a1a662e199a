-- The commands of the document, each in its shortest spelling (DVI format, the table of commands).
use Rattle.std.specs.Prelude.{ℕ, ◌^◌, List, [], ◌∷◌, ◌++◌, drop, nat_lt, replicate, if◌then◌else◌}
use Rattle.std.specs.Int.{bytes_high_first}

-- a number of four bytes, and one of two, the highest byte first
abbrev pub four : ℕ → List ℕ
four n = bytes_high_first 4 n

abbrev pub two : ℕ → List ℕ
two n = bytes_high_first 2 n

-- the four bytes of -1
abbrev pub minus_one : ℕ
minus_one = 0xffff_ffff

-- put_rule of a height and a width
abbrev pub put_rule : ℕ → ℕ → List ℕ
put_rule a b = 137 ∷ [] ++ four a ++ four b

-- nine counts 0
unfoldable pub no_counts : List ℕ
no_counts = replicate 36 0

-- bop, whose first count is this one and whose nine others are 0, with the place of the bop before
abbrev pub bop : ℕ → ℕ → List ℕ
bop count back = 139 ∷ [] ++ four count ++ no_counts ++ four back

abbrev pub eop : List ℕ
eop = 140 ∷ []

abbrev pub push : List ℕ
push = 141 ∷ []

abbrev pub pop : List ℕ
pop = 142 ∷ []

-- right3 of a distance from 2^15 to 2^23
abbrev pub right : ℕ → List ℕ
right q = 145 ∷ bytes_high_first 3 q

-- down3 or down4 of a distance from 2^15 to 2^31
abbrev pub down : ℕ → List ℕ
down q = if nat_lt q (2 ^ 23) then 159 ∷ bytes_high_first 3 q else 160 ∷ four q

-- fnt_num_0
abbrev pub select : List ℕ
select = 171 ∷ []

-- fnt_def1 of the number 0: the check sum 0, ten points as size and design size, no area and the name smp
abbrev pub definition : List ℕ
definition = 243 ∷ 0 ∷ [] ++ four 0 ++ four 655360 ++ four 655360 ++ 0 ∷ 3 ∷ 115 ∷ 109 ∷ 112 ∷ []

-- TeX's units without magnification: num, den and mag
abbrev pub units : List ℕ
units = four 25400000 ++ four 473628672 ++ four 1000

-- pre with the format's version 2 and an empty comment
abbrev pub pre : List ℕ
pre = 247 ∷ 2 ∷ [] ++ units ++ 0 ∷ []

-- post: the place of the last bop, no page's height or width told, one push at most, and the number of pages
abbrev pub post : ℕ → ℕ → List ℕ
post back pages = 248 ∷ [] ++ four back ++ units ++ four 0 ++ four 0 ++ two 1 ++ two pages

-- post_post with the place of post, and the bytes behind it
abbrev pub trailer : ℕ → List ℕ
trailer post = 249 ∷ [] ++ four post ++ 2 ∷ 223 ∷ 223 ∷ 223 ∷ 223 ∷ []

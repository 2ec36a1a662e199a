-- The document: pre, its pages, post, and what ends the file.
use Rattle.std.specs.Prelude.{ℕ, zero, suc, ◌+◌, ◌*◌, List, [], ◌++◌}
use Rattle.sample_files.specs.Commands.{definition, minus_one, post, pre, trailer}
use Rattle.sample_files.specs.Letters.{after}
use Rattle.sample_files.specs.Pages.{page}

-- Where page n begins, counted from 0, and what stands behind n pages: each has 3,686 bytes, the first 19 more.
abbrev pub place : ℕ → ℕ
place zero = 15
place (suc n) = 34 + suc n * 3686

-- the place of the last of n pages
abbrev pub back : ℕ → ℕ
back zero = minus_one
back (suc n) = place n

-- The first n pages. The generator begins at 1 and goes on over all pages.
unfoldable pub first_pages : ℕ → List ℕ
first_pages zero = []
first_pages (suc n) = first_pages n ++ page (suc n) (back n) (after (n * 2400) 1)

-- what stands before page n
abbrev pub before_page : ℕ → List ℕ
before_page n = pre ++ first_pages n

-- the file with n pages
abbrev pub document : ℕ → List ℕ
document n = before_page n ++ post (back n) n ++ definition ++ trailer (place n)

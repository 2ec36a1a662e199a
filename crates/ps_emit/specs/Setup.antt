-- The lines at the head of a text, by the setup of a job: the structured comments, the prolog and the setup's own lines.
use Rattle.std.specs.Prelude.{ℕ, ◌+◌, ◌*◌, ◌/◌, List, [], ◌∷◌, ◌++◌, ℤ, nat_abs, length, codes, decimal, Bool, true, false}
use Rattle.dv_base.specs.FileName.{text_of}
use Rattle.ps_subset.specs.Prolog.{line, prolog}
use Rattle.ps_subset.specs.Job.{Job}
use Rattle.ps_subset.specs.Blocks.{headers_lines}
use Rattle.ps_subset.specs.Lines.{comment_line, head_lines, setup_lines}
use Rattle.ps_emit.specs.declared.setup.Setup.{Setup}

-- a length in scaled points as whole points of PostScript, 72 an inch, rounded up
abbrev pub points_up : ℤ → ℕ
points_up length = (nat_abs length * 7200 + 473628671) / 473628672

-- the numbers that the prolog's TS takes
abbrev pub job_of : Setup → Job
job_of s = record { height = s.paper.1; across = s.dpi.0; down = s.dpi.1; origin_x = s.origin.0; origin_y = s.origin.1 }

-- the comments at the head; with none asked for, the first line alone
abbrev pub head_of : Bool → Setup → List (List ℕ)
head_of true s =
    codes "%!PS-Adobe-2.0" ∷
    codes "%%Creator: texdvi" ∷
    (codes "%%Title: " ++ text_of s.title) ∷
    (codes "%%Pages: " ++ decimal s.pages) ∷
    (codes "%%BoundingBox: 0 0 " ++ (decimal (points_up s.paper.0) ++ 32 ∷ decimal (points_up s.paper.1))) ∷
    codes "%%EndComments" ∷ []
head_of false s = codes "%!PS" ∷ []

-- the comments at the head, and the one before the prolog
abbrev pub head_text : Bool → Setup → List ℕ
head_text comments s = head_lines (head_of comments s) ++ comment_line comments (codes "%%BeginProlog")

-- what stands between the prolog, with its headers, and the first section
abbrev pub job_text : Bool → Setup → List ℕ
job_text comments s =
    comment_line comments (codes "%%EndProlog") ++
    (comment_line comments (codes "%%BeginSetup") ++
    (setup_lines s.copies (job_of s) ++
    comment_line comments (codes "%%EndSetup")))

-- all that stands before the first section
abbrev pub prologue_of : Bool → Setup → List (List ℕ) → List ℕ
prologue_of comments s headers = head_text comments s ++ (prolog ++ (headers_lines headers ++ job_text comments s))

-- all that stands behind the last section
abbrev pub trailer_of : Bool → List ℕ
trailer_of comments = comment_line comments (codes "%%Trailer") ++ (line (codes "end") ++ comment_line comments (codes "%%EOF"))

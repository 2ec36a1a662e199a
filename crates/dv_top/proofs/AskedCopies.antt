-- What every job of dvicopy is that accepted words ask for.
use Rattle.std.proofs.Common.{◌≡◌, ◌≤◌, ℕ, List, Option, Some, None, refl, sym, subst}
use Rattle.std.specs.Prelude.{IfSome}
use Rattle.dv_words.specs.Draft.{Draft}
use Rattle.dv_words.specs.Jobs.{CopyJob, HasJob, Job, copy_job}
use Rattle.dv_words.specs.Jobs.Job.{Copying}
use Rattle.dv_words.specs.Words.{Asks}
use Rattle.dv_words.specs.declared.tool.Tool.{Tool}
use Rattle.dv_words.specs.declared.tool.Tool.TheVariants.{Dvips, Dvitype, Dvicopy}
use Rattle.dv_top.specs.Wanted.{IsGoodCopy}
use Rattle.dv_top.proofs.AskedJobs.{GoodDraft, IsIn, first_draft, good_reads}

small : (o : Option ℕ) → IsIn 10 100000 o → IfSome o (λ m. m ≤ 100000)
small None h = tt
small (Some m) h = h.1

copying : (tool : Tool) (d : Draft) (job : CopyJob) → GoodDraft d → HasJob tool d (Copying job) → IsGoodCopy job
copying Dvicopy d job g (input, is, same) = subst IsGoodCopy (sym (copying_in job (copy_job input d) same)) (record { mag = small d.magnification g.3 })
  where
    copying_in : (a b : CopyJob) → Copying a ≡ Copying b → a ≡ b
    copying_in a b e = cc
copying Dvitype d job g (input, is, same) = absurd (cc)
copying Dvips d job g (input, is, same) = absurd (cc)

pub good_copy : (words : List (List ℕ)) (job : CopyJob) → Asks words (Copying job) → IsGoodCopy job
good_copy words job h = by job h refl
  where
    by : {all : List (List ℕ)} {j : Job} (job : CopyJob) → Asks all j → j ≡ Copying job → IsGoodCopy job
    by job (Asks.tool {draft = draft} {job = j} tool is reading has) same = copying tool draft job (good_reads tool reading first_draft) (subst (HasJob tool draft) same has)
    by job (Asks.sample is asked) same = absurd (cc)

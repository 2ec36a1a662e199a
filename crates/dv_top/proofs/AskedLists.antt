-- What every job of dvitype is that accepted words ask for.
use Rattle.std.proofs.Common.{◌≡◌, ◌≤◌, ℕ, List, Option, Some, None, arith, refl, sym, subst}
use Rattle.std.specs.Prelude.{IfSome}
use Rattle.std.specs.Option.{unwrap_or}
use Rattle.dv_words.specs.Draft.{Draft}
use Rattle.dv_words.specs.Jobs.{HasJob, Job, ListJob, list_job}
use Rattle.dv_words.specs.Jobs.Job.{Listing}
use Rattle.dv_words.specs.Words.{Asks}
use Rattle.dv_words.specs.declared.tool.Tool.{Tool}
use Rattle.dv_words.specs.declared.tool.Tool.TheVariants.{Dvips, Dvitype, Dvicopy}
use Rattle.dv_top.specs.AskedList.{IsGoodListJob}
use Rattle.dv_top.proofs.AskedJobs.{GoodDraft, IsIn, first_draft, good_reads}

resolution : (o : Option ℕ) → IsIn 10 10000 o → unwrap_or o 300 ≤ 10000
resolution None h = omega arith
resolution (Some n) h = h.1

magnified : (o : Option ℕ) → IsIn 10 100000 o → IfSome o (λ m. m ≤ 100000)
magnified None h = tt
magnified (Some m) h = h.1

listing : (tool : Tool) (d : Draft) (job : ListJob) → GoodDraft d → HasJob tool d (Listing job) → IsGoodListJob job
listing Dvitype d job g (input, is, same) = subst IsGoodListJob (sym (listing_in job (list_job input d) same)) (record { dpi = resolution d.across g.1; mag = magnified d.magnification g.3 })
  where
    listing_in : (a b : ListJob) → Listing a ≡ Listing b → a ≡ b
    listing_in a b e = cc
listing Dvips d job g (input, is, same) = absurd (cc)
listing Dvicopy d job g (input, is, same) = absurd (cc)

pub good_list_job : (words : List (List ℕ)) (job : ListJob) → Asks words (Listing job) → IsGoodListJob job
good_list_job words job h = by job h refl
  where
    by : {all : List (List ℕ)} {j : Job} (job : ListJob) → Asks all j → j ≡ Listing job → IsGoodListJob job
    by job (Asks.tool {draft = draft} {job = j} tool is reading has) same = listing tool draft job (good_reads tool reading first_draft) (subst (HasJob tool draft) same has)
    by job (Asks.sample is asked) same = absurd (cc)

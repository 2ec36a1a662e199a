-- How many pages the words of sample ask for.
use Rattle.std.proofs.Common.{◌≡◌, ◌≤◌, ℕ, List, Some, refl, subst, arith}
use Rattle.dv_words.specs.Draft.{Draft}
use Rattle.dv_words.specs.Jobs.{HasJob, Job}
use Rattle.dv_words.specs.Jobs.Job.{Sampling}
use Rattle.dv_words.specs.Numbers.{number_of}
use Rattle.dv_words.specs.Words.{Asks}
use Rattle.dv_words.specs.declared.tool.Tool.{Tool}
use Rattle.dv_words.specs.declared.tool.Tool.TheVariants.{Dvips, Dvitype, Dvicopy}
use Rattle.dv_top.proofs.AskedJobs.{from_between}

no_sample : (tool : Tool) (d : Draft) (pages : ℕ) → HasJob tool d (Sampling pages) → pages ≤ 1000
no_sample Dvips d pages (input, is, same) = absurd (cc)
no_sample Dvitype d pages (input, is, same) = absurd (cc)
no_sample Dvicopy d pages (input, is, same) = absurd (cc)

pub sample_pages : (words : List (List ℕ)) (pages : ℕ) → Asks words (Sampling pages) → pages ≤ 1000
sample_pages words pages h = by pages h refl
  where
    by : {all : List (List ℕ)} {j : Job} (pages : ℕ) → Asks all j → j ≡ Sampling pages → pages ≤ 1000
    by pages (Asks.tool {draft = draft} {job = j} tool is reading has) same = no_sample tool draft pages (subst (HasJob tool draft) same has)
    by pages (Asks.sample {number = number} {pages = n} is asked) same =
        let e : n ≡ pages = cc in
        let few : n ≤ 1000 = (from_between 1 1000 (number_of number) n asked).1 in omega (arith, e, few)

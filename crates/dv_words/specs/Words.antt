-- What a list of words asks for. It begins with the name of a tool; the words behind it are read item by item.
use Rattle.std.specs.Prelude.{◌≡◌, ℕ, List, [], ◌∷◌, Some, codes}
use Rattle.dv_words.specs.Draft.{Draft, no_draft}
use Rattle.dv_words.specs.Grammar.{Reads}
use Rattle.dv_words.specs.Jobs.{Job, HasJob}
use Rattle.dv_words.specs.Jobs.Job.{Sampling}
use Rattle.dv_words.specs.Numbers.{number_from}
use Rattle.dv_words.specs.Tools.{grammar}
use Rattle.dv_words.specs.declared.tool.Tool.{Tool}
use Rattle.dv_words.specs.declared.tool.Tool.TheVariants.{Dvips, Dvitype, Dvicopy}

abbrev pub name_of_tool : Tool → List ℕ
name_of_tool Dvips = codes "dvips"
name_of_tool Dvitype = codes "dvitype"
name_of_tool Dvicopy = codes "dvicopy"

-- the words ask for the job: of a tool, or of a sample of so many pages
pub data Asks : List (List ℕ) → Job → Type 0 where
  tool : {word : List ℕ} {words : List (List ℕ)} {draft : Draft} {job : Job} (tool : Tool) → word ≡ name_of_tool tool
      → Reads (grammar tool) words no_draft draft → HasJob tool draft job → Asks (word ∷ words) job
  sample : {word number : List ℕ} {pages : ℕ} → word ≡ codes "sample" → number_from 1 1000 number ≡ Some pages
      → Asks (word ∷ (number ∷ [])) (Sampling pages)

abbrev pub Accepted : List (List ℕ) → Type 0
Accepted words = (job : Job) × Asks words job

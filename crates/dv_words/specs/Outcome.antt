-- The answers of reading the words behind a tool's name.
use Rattle.std.specs.Prelude.{ℕ, List}
use Rattle.dv_words.specs.Draft.{Draft, no_draft}
use Rattle.dv_words.specs.Grammar.{Reads, Accepts}
use Rattle.dv_words.specs.Jobs.{Job, HasJob}
use Rattle.dv_words.specs.Language.{IsWrongAt}
use Rattle.dv_words.specs.Tools.{grammar}
use Rattle.dv_words.specs.declared.tool.Tool.{Tool}
use Rattle.dv_words.specs.declared.fault.WordFault.{WordFault}
use Rattle.dv_words.specs.declared.fault.WordFault.TheVariants.{Bad, OutOfMemory}

-- the words are items that lead to a draft whose job this is
pub record IsJobOf (tool : Tool) (words : List (List ℕ)) (job : Job) : Type 0 where
  pub draft : Draft
  pub reads : Reads (grammar tool) words no_draft draft
  pub has : HasJob tool draft job

abbrev pub IsCause : Tool → List (List ℕ) → WordFault → Type 0
IsCause tool words (Bad index) = IsWrongAt (Accepts (grammar tool) no_draft) words index
IsCause tool words OutOfMemory = Unit {0}

-- Faults of words, and what the words behind `sample` are.
use Rattle.std.specs.Prelude.{◌≡◌, ℕ, List, [], ◌∷◌, Some, codes, ◌≢◌, ◌+◌, ◌<◌}
use Rattle.dv_words.specs.Language.{IsWrongAt}
use Rattle.dv_words.specs.Numbers.{number_from}
use Rattle.dv_words.specs.Words.{Accepted, name_of_tool}
use Rattle.dv_words.specs.declared.fault.WordFault.{WordFault}
use Rattle.dv_words.specs.declared.fault.WordFault.TheVariants.{Bad, OutOfMemory}
use Rattle.dv_words.specs.declared.words.Named.{Named}
use Rattle.dv_words.specs.declared.words.Named.TheVariants as named

-- the index is that of the first word that no accepted list has there
abbrev pub IsFault : List (List ℕ) → WordFault → Type 0
IsFault words (Bad index) = IsWrongAt Accepted words index
IsFault words OutOfMemory = Unit {0}

abbrev pub IsNoTool : List ℕ → Type 0
IsNoTool word = (word ≢ codes "dvips") × (word ≢ codes "dvitype") × (word ≢ codes "dvicopy") × (word ≢ codes "sample")

abbrev pub IsNamed : List ℕ → Named → Type 0
IsNamed word (named.Tool tool) = word ≡ name_of_tool tool
IsNamed word named.Sample = word ≡ codes "sample"
IsNamed word named.Nothing = IsNoTool word

-- the same fault one word further
abbrev pub behind : WordFault → WordFault
behind (Bad index) = Bad (index + 1)
behind OutOfMemory = OutOfMemory

abbrev pub IsBelow : WordFault → ℕ → Type 0
IsBelow (Bad index) limit = index < limit
IsBelow OutOfMemory limit = Unit {0}

-- the words behind `sample`
abbrev pub SampleWords : List (List ℕ) → ℕ → Type 0
SampleWords words pages = (number : List ℕ) × (words ≡ number ∷ []) × (number_from 1 1000 number ≡ Some pages)

abbrev pub HasSample : List (List ℕ) → Type 0
HasSample words = (pages : ℕ) × SampleWords words pages

-- What taking a word answers. No public clause cites it.
use Rattle.std.specs.Prelude.{◌≡◌, Bool, true, false, Option, Some, None}
use Rattle.dv_words.specs.Draft.{Draft}
use Rattle.dv_words.specs.Stepping.{State}
use Rattle.dv_words.specs.Views.{state_of}
use Rattle.dv_words.specs.declared.setting.Setting.{Setting}
use Rattle.dv_words.specs.declared.step.Taken.{Taken}
use Rattle.dv_words.specs.declared.step.Taken.TheVariants as taken

abbrev pub NameGives : Option Draft → Bool → Draft → Type 0
NameGives None took new = took ≡ false
NameGives (Some d) took new = (took ≡ true) × (new ≡ d)

abbrev pub state_after : Taken → Draft → Option (State Setting Draft)
state_after taken.Wrong d = None
state_after (taken.Right waits) d = Some (state_of waits d)

-- the answer and the draft make the state after the word
abbrev pub StepGives : Option (State Setting Draft) → Taken → Draft → Type 0
StepGives next answer new = state_after answer new ≡ next

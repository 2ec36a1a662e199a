use Rattle.std.proofs.Common.{◌∙◌, ap, sym, arith}
use Rattle.std.specs.String.{string_bytes}
use Rattle.dv_words.specs.Numbers.{number_from}
use Rattle.dv_words.proofs.Whole.{sample_empty, sample_number}
use Rattle.dv_words.proofs.words.read_sample.Goals as goal

pub returns-then-is_empty-clause-cause : goal.returns-then-is_empty-clause-cause
returns-then-is_empty-clause-cause c = sample_empty string_bytes c.args.words.now (grind arith)

pub returns-in_default-clause-cause : goal.returns-in_default-clause-cause
returns-in_default-clause-cause c =
    sample_number string_bytes c.args.words.now c.index-words-0.result (grind arith) c.index-words-0.is
    (ap (number_from 1 1000) (sym (c.as_bytes.ensures.value ∙ c.as_str.ensures.value)) ∙ sym c.number_from.ensures.value ∙ c.in_default.is)

use Rattle.ps_subset.proofs.PageSamples.{one_rule_bytes, one_rule_events, no_pages_bytes, no_pages_events, one_letter_bytes, one_letter_events, blank_bytes, blank_masks, fonts_bytes, items_bytes, every_ending, sample_events}
use Rattle.ps_subset.proofs.SampleNumbers.{sample_numbers}
use Rattle.ps_subset.proofs.laws.printed_texts.Goals as goal

pub returns-clause-rule_bytes : goal.returns-clause-rule_bytes
returns-clause-rule_bytes c = one_rule_bytes

pub returns-clause-rule_events : goal.returns-clause-rule_events
returns-clause-rule_events c = one_rule_events

pub returns-clause-empty_bytes : goal.returns-clause-empty_bytes
returns-clause-empty_bytes c = no_pages_bytes

pub returns-clause-empty_events : goal.returns-clause-empty_events
returns-clause-empty_events c = no_pages_events

pub returns-clause-letter_bytes : goal.returns-clause-letter_bytes
returns-clause-letter_bytes c = one_letter_bytes

pub returns-clause-letter_events : goal.returns-clause-letter_events
returns-clause-letter_events c = one_letter_events

pub returns-clause-blank : goal.returns-clause-blank
returns-clause-blank c = blank_bytes

pub returns-clause-blank_masks : goal.returns-clause-blank_masks
returns-clause-blank_masks c = blank_masks

pub returns-clause-fonts : goal.returns-clause-fonts
returns-clause-fonts c = fonts_bytes

pub returns-clause-items : goal.returns-clause-items
returns-clause-items c = items_bytes

pub returns-clause-endings : goal.returns-clause-endings
returns-clause-endings c = every_ending

pub returns-clause-events : goal.returns-clause-events
returns-clause-events c = sample_events

pub returns-clause-numbers : goal.returns-clause-numbers
returns-clause-numbers c = sample_numbers

use Rattle.std.specs.Char.{is_ascii_digit}
use Rattle.specials.proofs.Digits.{digits_in_front}
use Rattle.specials.proofs.decimals.split_digits.Goals as goal

pub returns-clause-digits : goal.returns-clause-digits
returns-clause-digits c = rw (c.split_at.ensures.front, c.leading_digits.ensures.count) (digits_in_front is_ascii_digit c.args.text.now)

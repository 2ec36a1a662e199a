use Rattle.std.proofs.Common.{◌≡◌, sym, ◌∙◌, subst, ◌+◌, ◌/◌, ◌%◌, ◌&&◌, ◌||◌, nat_eq, arith, true, false}
use Rattle.std.specs.Prelude.{nat_le}
use Rattle.std.proofs.lemmas.Bool.Decides.{nat_tests}
use Rattle.ps_subset.specs.Strings.{ReadsBack}
use Rattle.ps_subset.proofs.Codes.{escape_marked, escape_plain, escape_octal, one_set, two_set, four_set}
use Rattle.ps_subset.proofs.Strings.{reads_back}
use Rattle.ps_subset.proofs.code.escape.Goals as goal

pub returns-then-code-eq92-clause-spelled : goal.returns-then-code-eq92-clause-spelled
returns-then-code-eq92-clause-spelled c =
    let marked : (nat_eq c.args.code 40 || nat_eq c.args.code 41 || nat_eq c.args.code 92) ≡ true = grind (arith, nat_tests, c.if-code-eq92.either) in
    two_set c.args.out.now 92 c.args.code c.told-out ∙ sym (escape_marked c.args.code marked)

pub returns-then-code-eq92-clause-read_back : goal.returns-then-code-eq92-clause-read_back
returns-then-code-eq92-clause-read_back c = subst (ReadsBack c.args.code) (sym (returns-then-code-eq92-clause-spelled c)) (reads_back c.args.code c.ranges.code.fits)

pub returns-then-code-le126-clause-spelled : goal.returns-then-code-le126-clause-spelled
returns-then-code-le126-clause-spelled c =
    let marked : (nat_eq c.args.code 40 || nat_eq c.args.code 41 || nat_eq c.args.code 92) ≡ false = grind (arith, nat_tests, c.if-code-eq92.false) in
    let plain : (nat_le 32 c.args.code && nat_le c.args.code 126) ≡ true = grind (arith, nat_tests, c.if-code-ge32.true, c.if-code-le126.true) in
    one_set c.args.out.now c.args.code c.told-out ∙ sym (escape_plain c.args.code marked plain)

pub returns-then-code-le126-clause-read_back : goal.returns-then-code-le126-clause-read_back
returns-then-code-le126-clause-read_back c = subst (ReadsBack c.args.code) (sym (returns-then-code-le126-clause-spelled c)) (reads_back c.args.code c.ranges.code.fits)

pub returns-else-code-ge32-clause-spelled : goal.returns-else-code-ge32-clause-spelled
returns-else-code-ge32-clause-spelled c =
    let marked : (nat_eq c.args.code 40 || nat_eq c.args.code 41 || nat_eq c.args.code 92) ≡ false = grind (arith, nat_tests, c.if-code-eq92.false) in
    let plain : (nat_le 32 c.args.code && nat_le c.args.code 126) ≡ false = grind (arith, nat_tests, c.else-code-ge32.either) in
    four_set c.args.out.now 92 (48 + c.args.code / 64) (48 + c.args.code / 8 % 8) (48 + c.args.code % 8) c.told-out ∙ sym (escape_octal c.args.code marked plain)

pub returns-else-code-ge32-clause-read_back : goal.returns-else-code-ge32-clause-read_back
returns-else-code-ge32-clause-read_back c = subst (ReadsBack c.args.code) (sym (returns-else-code-ge32-clause-spelled c)) (reads_back c.args.code c.ranges.code.fits)

use Rattle.std.proofs.Common.{rules, tests, sym, ◌∙◌}
use Rattle.std.specs.Prelude.{nat_eq}
use Rattle.std.specs.Cmp.Lexicographic.{pointwise}
use Rattle.std.proofs.lemmas.Iterator.{YieldsList-from_slice}
use Rattle.std.proofs.lemmas.Iterator.Search.{any_from_yields_List}
use Rattle.dv_base.specs.FileName.{text_of}
use Rattle.dv_top.proofs.Gathered.{among_these}
use Rattle.dv_top.proofs.notes.is_among.Goals as goal

pub returns : goal.returns
returns c =
    any_from_yields_List (λ n. pointwise nat_eq (text_of n) c.args.name.now) _ _ _ c.any.ensures.ran (YieldsList-from_slice c.args.names.now cc) (λ x b q k. search (rules, tests))
    ∙ among_these c.args.name.now c.args.names.now

use Rattle.vf_expand.proofs.Alike.{count_alike, faultless_alike}
use Rattle.vf_expand.proofs.AlikeMarks.{marks_alike}
use Rattle.vf_expand.proofs.laws.alike_pages.Goals as goal

pub returns : goal.returns
returns c =
    record {
      faultless = λ held a b alike g. faultless_alike (Unit {0}) c.one_font.ensures held a b alike g;
      count = λ held a b alike. count_alike c.one_font.ensures held a b alike;
      marks = λ held a b alike g. marks_alike c.one_font.ensures held a b alike g;
    }

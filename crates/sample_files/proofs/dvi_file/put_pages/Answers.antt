use Rattle.std.proofs.Common.{◌≡◌, ℕ, ap, ◌∙◌, ◌+◌}
use Rattle.sample_files.specs.Letters.{after}
use Rattle.sample_files.specs.Document.{first_pages}
use Rattle.sample_files.specs.Pages.{page}
use Rattle.sample_files.proofs.Counts.{after_none, after_turn, begun, grown, pages_more, pages_none}
use Rattle.sample_files.proofs.dvi_file.put_pages.Goals as goal

pub loop-before-init : goal.loop-before-init
loop-before-init c = record { bytes = begun _ _ pages_none; state = let e = after_none 1 in cc }

pub loop-before-preserved : goal.loop-before-preserved
loop-before-preserved c =
    record {
      bytes =
          grown _ (first_pages c.loop-before.before) (page (c.loop-before.before + 1) c.back.result c.loop-before.state) _ _ _ c.loop-before.invariant.bytes c.in_ok-put_page.ensures.bytes
          (let e = pages_more c.loop-before.before in cc);
      state =
          (c.in_ok-put_page.ensures.state ∙ ap (λ (s : ℕ). after 2400 s) c.loop-before.invariant.state)
          ∙ after_turn 2400 c.loop-before.before 1;
    }

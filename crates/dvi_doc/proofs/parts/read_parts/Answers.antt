use Rattle.std.proofs.Common.{◌+◌, inr, refl, subst, ℕ}
use Rattle.dvi_ops.specs.Command.Command.{Pre, PostPost}
use Rattle.dvi_ops.specs.View.{head_view, tail_view}
use Rattle.dvi_doc.specs.Order.{SpelledTo, reading, at_start}
use Rattle.dvi_doc.specs.Standing.{definitions_at, fonts_in}
use Rattle.dvi_doc.specs.Order.Part.{Behind}
use Rattle.dvi_doc.proofs.Reached.{reach_start, reach_more}
use Rattle.dvi_doc.proofs.Refuted.{pre_first}
use Rattle.dvi_doc.proofs.Gathered.{file_from}
use Rattle.dvi_doc.proofs.parts.read_parts.Goals as goal

pub returns-then-start-ends-clause-fault : goal.returns-then-start-ends-clause-fault
returns-then-start-ends-clause-fault c =
    let bytes = c.args.bytes.now in
    let pre = c.in_ok-head.ensures.found in
    let trailer = c.in_ok-ends.ensures.found in
    inr (inr (
      trailer.0,
      0,
      at_start,
      Pre (head_view c.in_ok-head.head),
      c.in_ok-head.start,
      reach_start bytes,
      pre.0,
      pre_first c.one_spelling.ensures bytes c.in_ok-ends.ends c.in_ok-head.start c.in_ok-ends.back (head_view c.in_ok-head.head) pre.0 trailer.1,
      c.if-start-ends.true,
    ))

pub read_pages-requires-clause-reached : goal.read_pages-requires-clause-reached
read_pages-requires-clause-reached c =
    let bytes = c.args.bytes.now in
    let pre = c.in_ok-head.ensures.found in
    reach_more bytes 0 c.in_ok-head.start at_start (Pre (head_view c.in_ok-head.head)) (reach_start bytes) pre.0 (tt, tt, tt, pre.1) tt

pub returns-then-back-post-clause-fault : goal.returns-then-back-post-clause-fault
returns-then-back-post-clause-fault c =
    let bytes = c.args.bytes.now in
    let trailer = c.in_ok-ends.ensures.found in
    let body = c.in_ok-body.ensures.found in
    let ending = c.in_ok-fonts.ensures.found in
    let last = c.in_ok-body.body.tail.back in
    let post = c.in_ok-body.body.post in
    (reading Behind last post, c.in_ok-ends.back, 2, (ending.1.1 last post body.5, c.in_ok-ends.ends + 6, trailer.1), refl, c.if-back-post.true)

pub returns-clause-found : goal.returns-clause-found
returns-clause-found c =
    let bytes = c.args.bytes.now in
    let pre = c.in_ok-head.ensures.found in
    let trailer = c.in_ok-ends.ensures.found in
    let body = c.in_ok-body.ensures.found in
    let b = c.in_ok-body.body in
    let ending = c.in_ok-fonts.ensures.found in
    let last : SpelledTo bytes c.in_ok-ends.ends (c.in_ok-ends.ends + 6) (PostPost b.post 2) =
    subst (λ (n : ℕ). SpelledTo bytes c.in_ok-ends.ends (c.in_ok-ends.ends + 6) (PostPost n 2)) c.if-back-post.false trailer.1 in
    let f = file_from bytes c.in_ok-head.start b.next c.in_ok-ends.ends (head_view c.in_ok-head.head) b.post (tail_view b.tail) b.pages.items (definitions_at bytes b.earlier.items) (fonts_in c.in_ok-fonts.fonts)
    pre.0 pre.1 body.0 body.3 body.2 body.1 ending.1.0 trailer.0 last in
    (f.0, f.1, (f.2, f.3, f.4, f.5, f.6), body.4, ending.0)

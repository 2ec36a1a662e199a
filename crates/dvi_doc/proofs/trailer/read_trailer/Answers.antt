use Rattle.dvi_doc.proofs.Trailers.{trailer_found}
use Rattle.dvi_doc.proofs.trailer.read_trailer.Goals as goal

pub returns-clause-found : goal.returns-clause-found
returns-clause-found c =
    trailer_found c.args.bytes.now c.filling_start-whole.result c.read_u32.result c.if-whole-lt6.false c.if-bytes-whole-lt4.false c.if-bytes-whole.false c.if-bytes-at-ne-VERSION.false c.filling_start-whole.ensures c.read_u32.ensures

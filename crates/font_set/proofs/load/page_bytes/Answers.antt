use Rattle.font_set.proofs.Paging.{page_is, is_page}
use Rattle.font_set.proofs.load.page_bytes.Goals as goal

pub returns-clause-page : goal.returns-clause-page
returns-clause-page c = page_is c.args.doc.now c.args.page c.pages.result.now _ c.body.result.now c.pages.ensures c.body.ensures.bytes

pub returns-clause-is_page : goal.returns-clause-is_page
returns-clause-is_page c =
    is_page c.one_reading.ensures c.args.doc.now c.args.page c.pages.result.now _ c.body.result.now c.requires.read c.requires.short c.pages.ensures c.body.ensures.bytes c.body.ensures.commands

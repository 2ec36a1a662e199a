use Rattle.font_set.proofs.fonts.Fonts.load_page.Goals as goal

pub returns-clause-covers : goal.returns-clause-covers
returns-clause-covers g c = rw c.page_bytes-first.ensures.page c.search.ensures.covers

pub returns-clause-order : goal.returns-clause-order
returns-clause-order g c = rw c.page_bytes-first.ensures.page c.search.ensures.order

pub returns-clause-loads : goal.returns-clause-loads
returns-clause-loads g c = rw c.page_bytes-first.ensures.page c.search.ensures.loads

pub returns-clause-fault : goal.returns-clause-fault
returns-clause-fault g c = rw c.page_bytes-first.ensures.page c.search.ensures.fault

pub returns-clause-gains : goal.returns-clause-gains
returns-clause-gains g c = rw c.page_bytes-first.ensures.page c.search.ensures.gains

use Rattle.dvi_doc.proofs.fonts.Fonts.all.Goals as goal

pub returns-clause-stands : goal.returns-clause-stands
returns-clause-stands c = rw (← c.self.view_is) c.self.invariant.0

use Rattle.journal_reading.proofs.cells.cell_of.Goals as goal

pub returns-in-Some-clause-number : goal.returns-in-Some-clause-number
returns-in-Some-clause-number c number is = ((c.in-Some.ensures.some number).0 is).0

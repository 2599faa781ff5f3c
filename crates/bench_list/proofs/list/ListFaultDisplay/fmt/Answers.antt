use Rattle.bench_list.proofs.list.ListFaultDisplay.fmt.Goals as goal

pub returns-in-TooManyRows-clause-writes : goal.returns-in-TooManyRows-clause-writes
returns-in-TooManyRows-clause-writes g c = rw c.in-TooManyRows.is c.write-in-TooManyRows.ensures.writes

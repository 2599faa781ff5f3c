use Rattle.walk.proofs.Checks.{apart, decides}
use Rattle.walk.proofs.Walks.{station_law}
use Rattle.walk.proofs.Table.first_failure.Goals as goal

pub returns-clause-walk : goal.returns-clause-walk
returns-clause-walk g c =
    decides g.F.Field.laws g.met.F.PrimeField.numbers c.args.self.rows.now c.args.self.ends.now c.search_rows.result c.search_rows.ensures

pub returns-clause-apart : goal.returns-clause-apart
returns-clause-apart g c =
    apart g.F.Field.laws g.met.F.PrimeField.numbers c.args.self.rows.now c.args.self.ends.now c.search_rows.result c.search_rows.ensures

pub returns-clause-law : goal.returns-clause-law
returns-clause-law g c = station_law g.F.Field.laws g.met.F.PrimeField.numbers

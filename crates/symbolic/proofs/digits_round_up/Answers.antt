use Rattle.symbolic.proofs.Logs.{rounded}
use Rattle.symbolic.proofs.digits_round_up.Goals as goal

pub returns : goal.returns
returns c = rounded c.args.n c.ranges.n.fits

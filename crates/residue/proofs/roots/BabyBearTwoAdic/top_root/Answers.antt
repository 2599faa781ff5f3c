use Rattle.std.proofs.Common.{◌∙◌}
use Rattle.residue.specs.Moduli.{babybear_prime}
use Rattle.residue.specs.Laws.TwoAdic.{thirty_one}
use Rattle.residue.proofs.Powers.{power_named}
use Rattle.residue.proofs.roots.BabyBearTwoAdic.top_root.Goals as goal

pub returns : goal.returns
returns c = c.from_u32.ensures ∙ power_named 2013265921 babybear_prime thirty_one 15

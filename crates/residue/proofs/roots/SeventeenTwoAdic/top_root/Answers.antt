use Rattle.std.proofs.Common.{◌∙◌}
use Rattle.residue.specs.Moduli.{seventeen_prime}
use Rattle.residue.specs.Laws.TwoAdic.{three}
use Rattle.residue.proofs.Powers.{power_named}
use Rattle.residue.proofs.roots.SeventeenTwoAdic.top_root.Goals as goal

pub returns : goal.returns
returns c = c.from_u32.ensures ∙ power_named 17 seventeen_prime three 1

use Rattle.std.proofs.Common.{◌*◌, ◌%◌, sym, ap, ◌∙◌, mod-lt, arith, rules}
use Rattle.residue.specs.Laws.Modular.{turn}
use Rattle.residue.specs.Laws.Residue.{left_positive, inverse_is}
use Rattle.residue.proofs.arith.ResidueField.inverse.Goals as goal

pub loop-left-preserved : goal.loop-left-preserved
loop-left-preserved g c =
    let (found_below, some, below, was) = c.loop-left.invariant in
    let left = c.loop-left.left in (
      c.mul-found.result.below,
      left_positive g.row.P (omega arith) (search rules) left c.loop-left-test.true below,
      omega (arith, mod-lt g.row.P {m = left} some),
      ap (λ t. c.args.self.value * t.value % g.row.P) c.mul-found.ensures ∙ turn g.row.P c.args.self.value c.loop-left.found.0 left some below was,
    )

pub returns : goal.returns
returns g c =
    sym (inverse_is g.row.P _ (search rules) c.args.self.value _ c.args.self.below (omega arith))

use Rattle.std.proofs.Common.{ℕ, Option, ◌∙◌, ap₂, arith}
use Rattle.std.specs.Option.{unwrap_or}
use Rattle.domain.proofs.Fronted.{written}
use Rattle.domain.proofs.split.fill.Goals as goal

pub loop-i-preserved : goal.loop-i-preserved
loop-i-preserved g c =
    let d = c.args.d in
    let k = c.args.k in
    let i = c.loop-i.i in
    let f : ℕ → Option g.row.D.Denot = λ j. g.D.Domain.pieces d j k in
    written f i c.args.pieces.now c.loop-i.pieces c.index-pieces-i.result c.unwrap_or.result c.loop-i.invariant
    (c.unwrap_or.ensures ∙ ap₂ unwrap_or c.piece.ensures c.index-pieces-i.is) (omega (arith, c.requires))

use Rattle.std.proofs.Common.{map, subst}
use Rattle.transcript.specs.Roles.{prover, verifier}
use Rattle.rehearsal.specs.Runs.{run}
use Rattle.rehearsal.specs.Driven.{meant}
use Rattle.rehearsal.specs.Agreement.{Agree}
use Rattle.rehearsal.proofs.Agreeing.{ends_agree}
use Rattle.rehearsal.proofs.rehearse.rehearse.Goals as goal

pub returns : goal.returns
returns g c =
    let st = g.S.Sponge.steps in
    let dr = g.E.Challenge.draws in
    let sh = c.args.shape in
    let s = c.args.prover_sponge.now in
    let ps = map (meant g.F.PrimeField.numbered) c.args.asked.now in
    let vs = map (meant g.F.PrimeField.numbered) c.args.replied.now in
    record {
      proving = c.drive-prover.ensures.run;
      checking = c.drive-verifier.ensures.run;
      proved = c.drive-prover.ensures.left;
      checked = c.drive-verifier.ensures.left;
      agree = λ e. subst (λ t. Agree st dr sh s (run st dr sh prover s ps) (run st dr sh verifier t vs)) e (ends_agree st dr sh s ps vs);
    }

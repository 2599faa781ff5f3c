use Rattle.std.proofs.Common.{map, ap, ◌∙◌, arith, take_all}
use Rattle.transcript.specs.Takes.{takes}
use Rattle.transcript.specs.Seed.{seed}
use Rattle.ends.specs.Ends.{end_of}
use Rattle.rehearsal.specs.declared.run.Run.TheVariants.{Start}
use Rattle.rehearsal.specs.Runs.{start, sponge_of, calls}
use Rattle.rehearsal.specs.Driven.{meant, seen, shows}
use Rattle.rehearsal.proofs.Driving.{went_on, seen_shown}
use Rattle.rehearsal.proofs.run.drive.Goals as goal

pub loop-request-preserved : goal.loop-request-preserved
loop-request-preserved g c =
    (omega arith, went_on g.S.Sponge.steps g.E.Challenge.draws g.R.Role.role (meant g.F.PrimeField.numbered) c.args.requests.now c.loop-request.request-index c.request-item.result (Start c.new.result) c.new.new.sponge c.loop-request.run c.loop-request.sponge c.one_request-run.result c.one_request-run.new.sponge c.loop-request-test.true c.request-item.is c.loop-request.invariant.1 c.one_request-run.ensures)

pub returns : goal.returns
returns g c =
    let st = g.S.Sponge.steps in
    let dr = g.E.Challenge.draws in
    let role = g.R.Role.role in
    let sh = c.args.shape in
    let f = meant g.F.PrimeField.numbered in
    let begun = start (takes st (seed sh) c.args.sponge.now) in
    let went = c.loop-request.invariant.1 sh begun (ap (λ h. Start (end_of h)) c.new.ensures.end) c.new.ensures.left in
    let all = take_all c.loop-request.request-index c.args.requests.now c.loop-request-test.false in
    record {
      run = c.shown.ensures ∙ ap shows (went.0 ∙ ap (λ rs. seen sh (calls st dr sh role (map f rs) begun)) all) ∙ seen_shown g.row.R.Denot sh (calls st dr sh role (map f c.args.requests.now) begun);
      left = went.1 ∙ ap (λ rs. sponge_of (calls st dr sh role (map f rs) begun)) all;
    }

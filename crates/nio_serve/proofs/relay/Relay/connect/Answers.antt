use Rattle.std.proofs.Common.{◌∙◌, ap, arith}
use Rattle.nio_link.specs.Places.{place_after_connect}
use Rattle.nio_serve.proofs.Connecting.{unmade_status}
use Rattle.nio_serve.proofs.Working.{later_all}
use Rattle.nio_serve.proofs.relay.Relay.connect.Goals as goal

pub returns-in-Some-Err-clause-status : goal.returns-in-Some-Err-clause-status
returns-in-Some-Err-clause-status g c =
    let made = c.in-Some-Err.ensures in
    let hung = c.hang_up.ensures in
    unmade_status c.args.self.now c.args.to _ _ _ _ _ _ _ _ c.requires.stage c.requires.status
    (hung.quiet.links c.args.links.client ∙ made.links c.args.links.client)
    (hung.quiet.links c.args.links.target ∙ made.links c.args.links.target) c.in-Some-Err.field-0-0 _ _
    (made.places c.args.links.client c.requires.apart.0)
    (made.place ∙ ap (λ r. place_after_connect r c.args.to) c.in-Some-Err.field-0-is) hung.client
    (hung.quiet.places c.args.links.target) hung.target

pub returns-in-Some-Err-clause-begins : goal.returns-in-Some-Err-clause-begins
returns-in-Some-Err-clause-begins g c =
    let made = c.in-Some-Err.ensures in
    let hung = c.hang_up.ensures in
    record {
      links = λ k. hung.quiet.links k ∙ made.links k;
      places = λ k not_client not_target. hung.places k not_client not_target ∙ made.places k not_target;
      faults = λ k not_target. hung.quiet.faults k ∙ made.others k not_target;
      ready = λ k not_client not_target. hung.ready k not_client not_target ∙ made.ready_else k not_target;
      later = λ k. omega (
        arith,
        hung.quiet.faults k,
        later_all (g.W.Way.faults c.args.net.now) (g.W.Way.faults c.connect.new.net) c.args.links.target made.cause.later
            made.others k,
      );
      polls = hung.quiet.polls ∙ made.polls;
    }

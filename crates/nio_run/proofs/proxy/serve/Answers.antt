use Rattle.std.proofs.Common.{◌≡◌, ℕ, subst}
use Rattle.nio_tickets.specs.Answers.{serve_answer_of}
use Rattle.nio_reactor.proofs.Nets.{members}
use Rattle.nio_run.proofs.ByWorkers.{does_many}
use Rattle.nio_run.proofs.Serves.{does_over, outcome_ends, outcome_rose}
use Rattle.nio_run.specs.Many.{DoesMany}
use Rattle.nio_run.proofs.proxy.serve.Goals as goal

pub returns-in-Select-clause-proxy : goal.returns-in-Select-clause-proxy
returns-in-Select-clause-proxy g c = λ one. record {
  served = c.serve_select-served.result;
  serves = c.serve_select-served.ensures;
  says = c.say.ensures.said;
}

pub returns-in-Group-clause-proxy : goal.returns-in-Group-clause-proxy
returns-in-Group-clause-proxy g c = λ one.
    does_over g.K.Sink c.args.output.now c.say-in-Group.new.output c.say-in-Group.result c.args.plan (members g.N.Poller g.N.Net) c.args.net _
    _ c.into_net.result c.over-jobs.ensures c.into_net.ensures c.serve_group-served.result
    c.serve_group-served.ensures c.say-in-Group.ensures.said

pub returns-in-Future-clause-proxy : goal.returns-in-Future-clause-proxy
returns-in-Future-clause-proxy g c = λ one.
    does_over g.K.Sink c.args.output.now c.say-in-Future.new.output c.say-in-Future.result c.args.plan (members g.N.Poller g.N.Net)
    c.args.net _ _ c.into_net-in-Future.result c.over-jobs-in-Future.ensures c.into_net-in-Future.ensures
    (serve_answer_of c.serve_future-served.result) c.serve_future-served.ensures
    (rw c.serve_answer.ensures at c.say-in-Future.ensures.said)

pub returns-in-Many-clause-many : goal.returns-in-Many-clause-many
returns-in-Many-clause-many g c = λ workers is.
    let its = c.serve_over_first-served.ensures in
    let same : c.in-Many.workers ≡ workers = cc is in
    subst (λ (w : ℕ). DoesMany g.K.Sink (members g.N.Poller g.N.Net) c.args.plan w c.args.net
    c.serve_over_first-served.new.net c.args.more.now.items c.serve_over_first-served.new.more.items
    c.args.output.now c.say-in-Many.new.output c.say-in-Many.result) same
    (does_many g.K.Sink (members g.N.Poller g.N.Net) c.args.plan c.in-Many.workers c.args.net
    c.serve_over_first-served.new.net c.args.more.now.items c.serve_over_first-served.new.more.items
    c.args.output.now c.say-in-Many.new.output c.say-in-Many.result c.serve_over_first-served.result its.serves
    (rw c.many_answer.ensures at c.say-in-Many.ensures.said) its.count its.others its.few)

pub returns-in-Select-clause-ends : goal.returns-in-Select-clause-ends
returns-in-Select-clause-ends g c =
    outcome_ends g.K.Sink c.args.output.now c.say.new.output c.say.result c.serve_select-served.result c.say.ensures.said

pub returns-in-Select-clause-rose : goal.returns-in-Select-clause-rose
returns-in-Select-clause-rose g c =
    outcome_rose g.K.Sink c.args.output.now c.say.new.output c.say.result c.serve_select-served.result c.say.ensures.said

pub returns-in-Group-clause-ends : goal.returns-in-Group-clause-ends
returns-in-Group-clause-ends g c =
    outcome_ends g.K.Sink c.args.output.now c.say-in-Group.new.output c.say-in-Group.result c.serve_group-served.result c.say-in-Group.ensures.said

pub returns-in-Group-clause-rose : goal.returns-in-Group-clause-rose
returns-in-Group-clause-rose g c =
    outcome_rose g.K.Sink c.args.output.now c.say-in-Group.new.output c.say-in-Group.result c.serve_group-served.result c.say-in-Group.ensures.said

pub returns-in-Future-clause-ends : goal.returns-in-Future-clause-ends
returns-in-Future-clause-ends g c =
    outcome_ends g.K.Sink c.args.output.now c.say-in-Future.new.output c.say-in-Future.result c.serve_answer.result c.say-in-Future.ensures.said

pub returns-in-Future-clause-rose : goal.returns-in-Future-clause-rose
returns-in-Future-clause-rose g c =
    outcome_rose g.K.Sink c.args.output.now c.say-in-Future.new.output c.say-in-Future.result c.serve_answer.result c.say-in-Future.ensures.said

pub returns-in-Many-clause-ends : goal.returns-in-Many-clause-ends
returns-in-Many-clause-ends g c =
    outcome_ends g.K.Sink c.args.output.now c.say-in-Many.new.output c.say-in-Many.result c.many_answer.result c.say-in-Many.ensures.said

pub returns-in-Many-clause-rose : goal.returns-in-Many-clause-rose
returns-in-Many-clause-rose g c =
    outcome_rose g.K.Sink c.args.output.now c.say-in-Many.new.output c.say-in-Many.result c.many_answer.result c.say-in-Many.ensures.said

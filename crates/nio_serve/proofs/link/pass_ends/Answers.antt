use Rattle.nio_serve.proofs.Ends.{end_moved, end_source}
use Rattle.nio_serve.proofs.link.pass_ends.Goals as goal

pub returns-clause-client : goal.returns-clause-client
returns-clause-client g c =
    let apart = c.requires.apart.0 in
    let work = c.pass_end.ensures.work in
    let passed = end_moved (work.links c.args.links.client apart apart) (work.places c.args.links.client apart apart)
    (end_source c.args.back.now c.pass_end.ensures.source c.requires.client) in
    c.pass_end-2.ensures.sink c.pass_end.new.incoming passed

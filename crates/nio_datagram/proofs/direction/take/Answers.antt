use Rattle.std.proofs.Common.{◌≡◌, ap, refl, ◌∙◌}
use Rattle.nio_datagram.proofs.PassLaws.{takes_advances, takes_none_failed, takes_passing}
use Rattle.nio_datagram.specs.Datagrams.{Datagram}
use Rattle.nio_datagram.specs.Passing.{peer_told}
use Rattle.nio_datagram.proofs.direction.take.Goals as goal

pub returns-clause-passing : goal.returns-clause-passing
returns-clause-passing g c =
    let source : c.greet.new.source
    ≡ record c.args.source.now { peer = peer_told c.receive-heard.result c.args.source.now.peer } =
    c.greet.ensures
    ∙ ap (λ (d : Datagram). let e : Datagram = record d { peer = peer_told c.receive-heard.result d.peer } in e)
    c.receive-heard.ensures.link in
    let takes = c.receive-heard.ensures.takes in
    rw (source, takes.direction)
    (takes_passing _ _ c.receive-heard.result takes.made takes.filled c.requires.passing c.requires.empty takes.told
    takes.net)

pub returns-clause-advances : goal.returns-clause-advances
returns-clause-advances g c =
    let source : c.greet.new.source
    ≡ record c.args.source.now { peer = peer_told c.receive-heard.result c.args.source.now.peer } =
    c.greet.ensures
    ∙ ap (λ (d : Datagram). let e : Datagram = record d { peer = peer_told c.receive-heard.result d.peer } in e)
    c.receive-heard.ensures.link in
    takes_advances _ _ c.receive-heard.result c.requires.passing.apart c.receive-heard.ensures.takes
    c.requires.passing.passes.unheard source refl

pub returns-clause-still : goal.returns-clause-still
returns-clause-still g c =
    takes_none_failed _ _ _ _ _ _ c.receive-heard.result c.more_of.result c.receive-heard.ensures.takes c.more_of.ensures

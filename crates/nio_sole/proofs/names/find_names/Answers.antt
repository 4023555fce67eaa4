use Rattle.std.proofs.Common.{refl, sym, ◌∙◌}
use Rattle.nio_sole.proofs.Finding.{names_of, name_after, missing_first, finds_both, finds_nothing}
use Rattle.nio_sole.proofs.names.find_names.Goals as goal

pub returns-in-None : goal.returns-in-None
returns-in-None c =
    names_of c.args.call.now (sym c.names.ensures ∙ c.in-None.is)
    (finds_nothing c.requires.ready c.requires.unpinned (λ now plan. refl) tt)

pub returns-in-One : goal.returns-in-One
returns-in-One c = names_of c.args.call.now (sym c.names.ensures ∙ c.in-One.is) c.find_name.ensures

pub returns-in-Some : goal.returns-in-Some
returns-in-Some c =
    names_of c.args.call.now (sym c.names.ensures ∙ c.in-Two.is) (missing_first c.in-Some.ensures)

pub returns-in-None-find_name : goal.returns-in-None-find_name
returns-in-None-find_name c =
    names_of c.args.call.now (sym c.names.ensures ∙ c.in-Two.is)
    (finds_both c.in-None-find_name.ensures c.find_name-in-None-find_name.ensures
    (λ acts a b. (name_after c.in-Two.first acts a, b)))

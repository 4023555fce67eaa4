use Rattle.std.proofs.Common.{Option, Ok, List, false, ◌∙◌, subst}
use Rattle.std.specs.Prelude.{is_some}
use Rattle.nio_steps.proofs.CallLaws.{returned, ran_then, left_after, call_as}
use Rattle.nio_steps.specs.Calls.{CallClause}
use Rattle.nio_steps.specs.Looking.{look_at_keys}
use Rattle.nio_steps.specs.Runs.{Completes}
use Rattle.nio_steps.specs.SelectCalls.{Selection, begin_below}
use Rattle.nio_steps.specs.declared.looked.LookedKey.{LookedKey}
use Rattle.nio_words.specs.Views.{view}
use Rattle.nio_select.specs.Asked.{known_of}
use Rattle.nio_select.specs.Beginning.{BeginsBelow}
use Rattle.nio_select.proofs.Beginnings.{answered, known_same}
use Rattle.nio_select.proofs.beginning.begin_below.Goals as goal

pub returns-clause-call : goal.returns-clause-call
returns-clause-call c = λ mode.
    let known = known_of c.args.asked.now in
    let new = c.look_at_keys.new.asked in
    let over : CallClause c.args.me (Completes (look_at_keys c.args.sel c.args.bound known))
    (view c.args.w.now c.args.p.now) (view c.args.w.now c.look_at_keys.new.p) new.keys =
    subst (λ (k : Option (List LookedKey)). CallClause c.args.me (Completes (look_at_keys c.args.sel c.args.bound k))
    (view c.args.w.now c.args.p.now) (view c.args.w.now c.look_at_keys.new.p) new.keys)
    (known_same c.args.asked.now c.make_room.new.self c.make_room.ensures.keys c.make_room.ensures.stamp)
    c.look_at_keys.ensures.call in
    let found : Selection = record {
      selector = c.args.sel;
      mode = mode;
      bound = c.args.bound;
      looked = new.keys;
      listed = is_some known;
    } in
    let call : CallClause c.args.me (Completes (begin_below c.args.sel mode known c.args.bound false))
    (view c.args.w.now c.args.p.now) (view c.args.w.now c.look_at_keys.new.p) (Ok found) =
    returned (ran_then _ over (left_after over.acts)) in
    let same = answered c.args.sel mode c.args.bound c.args.asked.now new
    (c.look_at_keys.ensures.beside.stamp ∙ c.make_room.ensures.stamp) in
    subst (λ (s : Selection). CallClause c.args.me (BeginsBelow c.args.sel mode known c.args.bound)
    (view c.args.w.now c.args.p.now) (view c.args.w.now c.look_at_keys.new.p) (Ok s)) same
    (call_as (BeginsBelow c.args.sel mode known c.args.bound) (Ok found) (λ acts run. run) call)

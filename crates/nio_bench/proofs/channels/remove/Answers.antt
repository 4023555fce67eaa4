use Rattle.std.proofs.Common.{◌≡◌, true, false, None, refl, rules}
use Rattle.nio_channel.proofs.Held.{had_stays}
use Rattle.nio_channel.proofs.Idle.{turn_now, begun_now, may_remove_found, may_put_removed}
use Rattle.nio_history.specs.Acts.{frees_index}
use Rattle.nio_history.specs.Conditions.{has_turn, has_begun}
use Rattle.nio_history.specs.Permanent.{the_turn, a_selection}
use Rattle.nio_history.specs.Sets.{in_cancelled_set}
use Rattle.nio_words.specs.Passes.{state_seen}
use Rattle.nio_bench.specs.SetUp.{caller, selector}
use Rattle.nio_bench.proofs.SetUp.{stays_step, stays_then}
use Rattle.nio_bench.proofs.channels.remove.Goals as goal

pub returns-then-is_some : goal.returns-then-is_some
returns-then-is_some c = stays_step c.take_turn.ensures refl refl c.requires.idle

pub begin_look-requires-clause-turn : goal.begin_look-requires-clause-turn
begin_look-requires-clause-turn c =
    let free : c.take_turn.result ≡ None = search rules in
    turn_now c.take_turn.ensures free

pub returns-then-begin_look : goal.returns-then-begin_look
returns-then-begin_look c =
    let turn = stays_step c.take_turn.ensures refl refl c.requires.idle in
    stays_then turn (stays_step c.begin_look.ensures refl refl turn.idle)

pub returns-then-not-stage : goal.returns-then-not-stage
returns-then-not-stage c =
    let turn = stays_step c.take_turn.ensures refl refl c.requires.idle in
    let begun = stays_then turn (stays_step c.begin_look.ensures refl refl turn.idle) in
    stays_then begun (stays_step c.look_key-stage.ensures refl refl begun.idle)

pub remove-found-requires-clause-may : goal.remove-found-requires-clause-may
remove-found-requires-clause-may c =
    let free : c.take_turn.result ≡ None = search rules in
    let turn : has_turn (state_seen c.take_turn.new.p) caller selector ≡ true = turn_now c.take_turn.ensures free in
    let unshut : c.begin_look.result.shut ≡ false = search rules in
    let begun : has_begun (state_seen c.begin_look.new.p) caller selector
    ≡ true = begun_now c.begin_look.ensures unshut c.take_turn.ensures.pass turn in
    let inside : in_cancelled_set c.look_key-stage.result ≡ true = search rules in
    may_remove_found c.look_key-stage.ensures c.begin_look.ensures.pass begun inside

pub returns-then-found : goal.returns-then-found
returns-then-found c =
    let turn = stays_step c.take_turn.ensures refl refl c.requires.idle in
    let begun = stays_then turn (stays_step c.begin_look.ensures refl refl turn.idle) in
    let looked = stays_then begun (stays_step c.look_key-stage.ensures refl refl begun.idle) in
    stays_then looked (stays_step c.remove-found.ensures refl refl looked.idle)

pub put_free-requires-clause-may : goal.put_free-requires-clause-may
put_free-requires-clause-may c =
    let free : c.take_turn.result ≡ None = search rules in
    let turn : has_turn (state_seen c.take_turn.new.p) caller selector ≡ true = turn_now c.take_turn.ensures free in
    let unshut : c.begin_look.result.shut ≡ false = search rules in
    let begun : has_begun (state_seen c.begin_look.new.p) caller selector
    ≡ true = begun_now c.begin_look.ensures unshut c.take_turn.ensures.pass turn in
    let frees : frees_index c.remove-found.result ≡ true = search rules in
    may_put_removed c.remove-found.ensures c.look_key-stage.ensures.pass
    (had_stays (a_selection selector) c.look_key-stage.ensures refl refl c.begin_look.ensures.pass begun) frees

pub give_turn-requires-clause-turn : goal.give_turn-requires-clause-turn
give_turn-requires-clause-turn c =
    let free : c.take_turn.result ≡ None = search rules in
    let turn : has_turn (state_seen c.take_turn.new.p) caller selector ≡ true = turn_now c.take_turn.ensures free in
    had_stays (the_turn selector) c.put_free.ensures refl refl c.remove-found.ensures.pass
    (had_stays (the_turn selector) c.remove-found.ensures refl refl c.look_key-stage.ensures.pass
    (had_stays (the_turn selector) c.look_key-stage.ensures refl refl c.begin_look.ensures.pass
    (had_stays (the_turn selector) c.begin_look.ensures refl refl c.take_turn.ensures.pass turn)))

pub returns : goal.returns
returns c =
    let turn = stays_step c.take_turn.ensures refl refl c.requires.idle in
    let begun = stays_then turn (stays_step c.begin_look.ensures refl refl turn.idle) in
    let looked = stays_then begun (stays_step c.look_key-stage.ensures refl refl begun.idle) in
    let removed = stays_then looked (stays_step c.remove-found.ensures refl refl looked.idle) in
    let put = stays_then removed (stays_step c.put_free.ensures refl refl removed.idle) in
    stays_then put (stays_step c.give_turn.ensures refl refl put.idle)

use Rattle.std.proofs.Common.{List, None, [], ◌∷◌, ◌++◌, false, refl, ap, ◌∙◌}
use Rattle.nio_sole.proofs.Desks.{made_for}
use Rattle.nio_sole.specs.declared.desk.Desk.{Desk}
use Rattle.nio_race.proofs.SettingOff.{left_places, left_progress, moved_places, moved_progress}
use Rattle.nio_race.specs.declared.racer.Racer.{Racer}
use Rattle.nio_race.proofs.set_off.set_off_one.Goals as goal

pub returns-in-Ok-clause-ok : goal.returns-in-Ok-clause-ok
returns-in-Ok-clause-ok c =
    let w = c.args.w.now in
    let d = c.args.d.now in
    let n = c.args.number in
    let d' : Desk = record {
      pass = c.hand_over.new.p;
      selections = c.move_selections.new.from;
      closings = c.move_closings.new.from;
      group = d.group;
      pipes = d.pipes;
    } in
    let own : Desk = record {
      pass = c.in-Ok.pass;
      selections = c.move_selections.new.to;
      closings = c.move_closings.new.to;
      group = None;
      pipes = c.new.result;
    } in
    let begun = c.move_selections.ensures in
    let shut = c.move_closings.ensures in
    let racer : Racer = record {
      number = n;
      desk = own;
      ends = c.none.result;
      sleeper = c.in_ok-sleeper.sleeper;
      replies = c.in_ok-replies.replies;
      lacks_memory = false;
    } in
    record {
      racer = racer;
      takes_over = record {
        number_is = refl;
        pass = c.in-Ok.ensures;
        places = left_places w d d' own n c.requires.places begun.moved shut.moved
            (begun.from, begun.to, shut.from, shut.to)
            (made_for w d.pass c.hand_over.new.p d.pipes.items c.in-Ok.ensures.sees.sight c.requires.places.pipes);
        own_places = moved_places w d d' own n c.requires.places begun.moved shut.moved
            (begun.from, begun.to, shut.from, shut.to) c.new.ensures.items;
        own = moved_progress w d d' own n c.requires.places begun.moved shut.moved
            (begun.from, begun.to, shut.from, shut.to) refl c.new.ensures.items;
        others = left_progress w d d' own n c.requires.places begun.moved shut.moved
            (begun.from, begun.to, shut.from, shut.to);
        unanswered = c.in_ok-replies.ensures.items;
        in_memory = refl;
        endless = record { sources = c.none.ensures.sources; sinks = c.none.ensures.sinks };
        pipes = refl;
      };
      added = c.push_reserved.ensures.items ∙ ap (λ (rs : List Racer). rs ++ racer ∷ []) c.reserve.ensures.items;
    }

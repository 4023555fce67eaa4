use Rattle.std.proofs.Common.{◌≡◌, ◌∙◌, Err, List, [], ◌∷◌, refl, subst, sym, ap, inr}
use mathlib.Core.List.{IsPrefix}
use Rattle.nio_base.specs.declared.numbers.ChanId.{ChanId}
use Rattle.nio_board.specs.Board.{BoardView, IsSameSeat}
use Rattle.nio_link.specs.Links.{IsUnused}
use Rattle.nio_link.specs.Nets.{view_of}
use Rattle.nio_link.specs.Places.{IsVacant}
use Rattle.nio_link.specs.declared.place.Place.{Place}
use Rattle.nio_serve.specs.Serving.{links_of, listener, run_channels}
use Rattle.nio_serve.specs.declared.serving.ServeError.TheVariants.{NetFault, Memory}
use Rattle.nio_serve.proofs.Promise.{Ran, answers_err, fault_of, fresh_still, listen_role, listen_stands, listens_first}
use Rattle.nio_serve.proofs.Promise.{nothing_served, registers_all, registers_some, served_first, serves_by, serves_of}
use Rattle.nio_serve.proofs.Watching.{prefix_is, seat_then, where_failed, where_ok}
use Rattle.nio_serve.proofs.Ways.{members}
use Rattle.nio_serve.proofs.serving.serve_on.Goals as goal

pub listen-requires : goal.listen-requires
listen-requires g c = record {
  later = λ s _. c.requires.fresh.unasked _;
  vacant = λ s. subst (λ (p : Place). IsVacant p.standing) (sym (c.requires.fresh.unasked _)) tt;
}

pub returns-in-Err-clause-serves : goal.returns-in-Err-clause-serves
returns-in-Err-clause-serves g c = nothing_served _ _ _ Memory c.requires.fresh refl (λ never. absurd (cc))

pub returns-then-is_err-clause-serves : goal.returns-then-is_err-clause-serves
returns-then-is_err-clause-serves g c =
    nothing_served _ _ _ NetFault
    (fresh_still _ _ _ _ _ c.if-is_err.ensures.value c.listen.ensures c.requires.fresh) c.listen.ensures.accepted
    (λ _. inr (where_failed _ (sym c.if-is_err.ensures.value) c.listen.ensures.cause.failed))

pub returns-in-Err-clause-within : goal.returns-in-Err-clause-within
returns-in-Err-clause-within g c clients more =
    subst (λ (xs : List ChanId). IsPrefix xs (run_channels clients))
    (sym (c.in-Err.ensures.refused.registered ∙ c.requires.unregistered)) (run_channels clients, refl)

pub returns-then-is_err-clause-within : goal.returns-then-is_err-clause-within
returns-then-is_err-clause-within g c clients more =
    let registered : c.into_board.result.registered ≡ listener ∷ [] =
    ap (λ (b : BoardView). b.registered) c.into_board.ensures
    ∙ (c.in-Ok.ensures.registered ∙ ap run_channels c.in-Ok.ensures.unbegun.clients) in
    subst (λ (xs : List ChanId). IsPrefix xs (run_channels clients)) (sym registered) (links_of clients, refl)

pub run-outcome-requires : goal.run-outcome-requires
run-outcome-requires g c = record {
  listens = listens_first _ _ c.in-Ok.ensures.watched
      (listen_stands _ _ _ _ c.if-is_err.ensures.value c.listen.ensures.place);
  served = served_first c.args.plan (g.W.Way.link c.listen.new.net) (g.W.Way.place c.listen.new.net)
      c.in-Ok.proxy.connections (λ k. subst IsUnused (sym (c.listen.ensures.links k)) (c.requires.fresh.carried k))
      (λ k other. c.listen.ensures.places k other ∙ c.requires.fresh.unasked k) c.in-Ok.ensures.unbegun
      c.requires.plan.few_at_once c.requires.plan.few_connections;
  watched = c.in-Ok.ensures.registered;
}

pub close_all-requires : goal.close_all-requires
close_all-requires g c =
    record { served = c.run-outcome.ensures.serving.served; listens = c.run-outcome.ensures.listens }

pub returns-in-Ok-outcome : goal.returns-in-Ok-outcome
returns-in-Ok-outcome g c =
    let c0 = c.in-Ok.proxy.connections in
    let c1 = c.run-outcome.new.self.connections in
    let ran : Ran (members g.W.Polls g.W.Way) c.args.plan c.args.net.now c.listen.new.net c.run-outcome.new.net
    c.close_all.new.net c0 c1 = record {
      links = c.listen.ensures.links;
      fresh = c.requires.fresh.carried;
      here = c.listen.ensures.cause.later;
      others = c.listen.ensures.others;
      polls = c.listen.ensures.polls;
      accepted = c.listen.ensures.accepted;
      asked = listen_role _ _ _ _ c.if-is_err.ensures.value c.listen.ensures.place;
      first = c.in-Ok.ensures.unbegun;
      serving = c.run-outcome.ensures.serving;
      role = c.run-outcome.ensures.role;
      quiet = c.close_all.ensures.quiet;
      vacant = c.close_all.ensures.vacant;
    } in
    let n = members g.W.Polls g.W.Way in
    let board : c.into_board-board.result.registered ≡ c.run-outcome.new.self.board.registered =
    ap (λ (b : BoardView). b.registered) c.into_board-board.ensures in
    let registered : c.into_board-board.result.registered ≡ run_channels c1.clients =
    board ∙ where_ok c.in-Ok-outcome.is c.run-outcome.ensures.watching.all in
    record {
      serves = serves_of n c.args.plan c.args.net.now c.listen.new.net c.run-outcome.new.net c.close_all.new.net c0 c1 ran
          c.in-Ok-outcome.ensures.ended;
      seat = subst (IsSameSeat c.args.board) (sym c.into_board-board.ensures)
          (seat_then c.in-Ok.ensures.seat c.run-outcome.ensures.watching.seat);
      registered = registers_all n c.args.plan c.args.net.now c.listen.new.net c.run-outcome.new.net c.close_all.new.net
          c0 c1 ran c.into_board-board.result.registered registered;
      within = registers_some n c.args.plan c.args.net.now c.listen.new.net c.run-outcome.new.net c.close_all.new.net
          c0 c1 ran c.into_board-board.result.registered (prefix_is _ _ registered);
    }

pub returns-in-Err-outcome : goal.returns-in-Err-outcome
returns-in-Err-outcome g c =
    let c0 = c.in-Ok.proxy.connections in
    let c1 = c.run-outcome.new.self.connections in
    let ran : Ran (members g.W.Polls g.W.Way) c.args.plan c.args.net.now c.listen.new.net c.run-outcome.new.net
    c.close_all.new.net c0 c1 = record {
      links = c.listen.ensures.links;
      fresh = c.requires.fresh.carried;
      here = c.listen.ensures.cause.later;
      others = c.listen.ensures.others;
      polls = c.listen.ensures.polls;
      accepted = c.listen.ensures.accepted;
      asked = listen_role _ _ _ _ c.if-is_err.ensures.value c.listen.ensures.place;
      first = c.in-Ok.ensures.unbegun;
      serving = c.run-outcome.ensures.serving;
      role = c.run-outcome.ensures.role;
      quiet = c.close_all.ensures.quiet;
      vacant = c.close_all.ensures.vacant;
    } in
    let n = members g.W.Polls g.W.Way in
    let answers = answers_err c.args.plan c1.clients (view_of n c.args.net.now) (view_of n c.close_all.new.net)
    c.in-Err-outcome.error
    (λ same. fault_of n c.args.plan c.args.net.now c.listen.new.net c.run-outcome.new.net c.close_all.new.net c0 c1 ran
    (c.in-Err-outcome.ensures.cause (ap Err same))) in
    let board : c.into_board-board.result.registered ≡ c.run-outcome.new.self.board.registered =
    ap (λ (b : BoardView). b.registered) c.into_board-board.ensures in
    record {
      serves = serves_by n c.args.plan c.args.net.now c.listen.new.net c.run-outcome.new.net c.close_all.new.net c0 c1 ran
          (Err c.in-Err-outcome.error) answers;
      seat = subst (IsSameSeat c.args.board) (sym c.into_board-board.ensures)
          (seat_then c.in-Ok.ensures.seat c.run-outcome.ensures.watching.seat);
      registered = tt;
      within = registers_some n c.args.plan c.args.net.now c.listen.new.net c.run-outcome.new.net c.close_all.new.net
          c0 c1 ran c.into_board-board.result.registered
          (subst (λ (xs : List ChanId). IsPrefix xs (run_channels c1.clients)) (sym board)
          c.run-outcome.ensures.watching.within);
    }

-- The callers of the shared table until they take their seats.
use Rattle.std.proofs.Common.{◌≡◌, ◌≢◌, ℕ, ◌+◌, ◌<◌, ◌≤◌, ⊎_elim, Bool, false, Option, Some, Result, Ok, Err, OnOk}
use Rattle.std.proofs.Common.{is_err, List, [], ◌∷◌, ◌++◌, length, slice_index_or, refl, sym, ap, subst}
use Rattle.std.proofs.Common.{◌∙◌, arith, eqb-true, eq-eqb, length-append}
use Rattle.std.proofs.Math.Seq.{get_or-append_seam}
use Rattle.std.proofs.lemmas.Bool.{cases_eq, cases_lt, ne_eqb}
use Rattle.std.proofs.lemmas.List.{get_or_append_left}
use Rattle.std.proofs.lemmas.Result.{on_ok_weaker}
use Rattle.nio_base.specs.declared.numbers.CallerNo.{CallerNo}
use Rattle.nio_base.specs.declared.numbers.SelNo.{SelNo}
use Rattle.nio_base.specs.declared.kind.Kind.{Kind}
use Rattle.nio_base.specs.declared.numbers.ChanId.{ChanId}
use Rattle.nio_history.proofs.OneMore.{mine-own, mine-other}
use Rattle.nio_history.proofs.OwnPins.{pins_are_own}
use Rattle.nio_history.specs.Histories.{event_of, mine}
use Rattle.nio_history.specs.OwnEvents.{keeps_pin}
use Rattle.nio_history.specs.PassViews.{HasSelector}
use Rattle.nio_history.specs.declared.act.Act.{Act}
use Rattle.nio_history.specs.declared.act.Act.TheVariants.{DrawBit}
use Rattle.nio_history.specs.declared.event.Event.{Event}
use Rattle.nio_orderly.proofs.LookUps.{selector_found}
use Rattle.nio_orderly.specs.Made.{Made, table_call}
use Rattle.nio_poller.proofs.Ready.{selector_same}
use Rattle.nio_reactor.specs.Placing.{caller}
use Rattle.nio_reactor.specs.Seats.{AreNewcomers, HaveDrawn, HaveSeats, IsHandingOut, IsNewcomer, IsSeat, LeavesSeat}
use Rattle.nio_reactor.specs.Seats.{channels_for}
use Rattle.nio_board.proofs.Calls.{DidCall, IsFree, did_unpinned, only_drawn, unregistered_after}
use Rattle.nio_serve.proofs.Watching.{on_ok_any}
use Rattle.nio_serve.specs.Serving.{run_channels}
use Rattle.nio_board.specs.Board.{BoardView, IsIdle, IsSameSeat}
use Rattle.nio_board.specs.Called.{HasCalled, IsUnregistered}
use Rattle.nio_board.specs.declared.deal.Deal.{Deal}
use Rattle.nio_steps.proofs.PinLaws.{pins_are_given_back}
use Rattle.nio_steps.specs.Calls.{CallClause}
use Rattle.nio_steps.specs.ChannelCalls.{open_channel_plan}
use Rattle.nio_steps.specs.KeyCalls.{find_selector_plan}
use Rattle.nio_steps.specs.Names.{selector}
use Rattle.nio_steps.specs.Runs.{Completes}
use Rattle.nio_steps.specs.SelectCalls.{open_selector_plan}
use Rattle.nio_steps.specs.declared.refusal.ChannelError.{ChannelError}
use Rattle.nio_steps.specs.declared.refusal.SelectorsSpent.{SelectorsSpent}
use Rattle.nio_steps.specs.TableCalls.{find_selector, open_channel, open_selector}
use Rattle.nio_words.specs.Drawing.{Drawn, Draws}
use Rattle.nio_words.specs.declared.drawing.DrawError.{DrawError}
use Rattle.nio_words.specs.Passes.{Holds, IsPassOf, IsReady, acts_seen, limits_of, seen}
use Rattle.nio_words.specs.Sharing.{HandsOver}
use Rattle.nio_words.specs.Views.{view}
use Rattle.nio_words.specs.declared.words.Pass.{Pass}
use Rattle.nio_words.specs.declared.words.Words.{Words}

-- ---- a caller that goes on

-- by no act, whatever others did
pub newcomer_same : (w : Words) (p q : Pass) (n : CallerNo) → IsNewcomer w p n → IsPassOf w q → Holds q n
    → acts_seen q n ≡ acts_seen p n → IsNewcomer w q n
newcomer_same w p q n is pass held same = record {
  ready = record { pass = pass; number = held };
  unpinned = λ s i. pins_are_own (limits_of w) n s i (seen q) pass.legal
      ∙ (ap (keeps_pin s.0 i) same
      ∙ (sym (pins_are_own (limits_of w) n s i (seen p) is.ready.pass.legal) ∙ is.unpinned s i));
  unregistered = subst (IsUnregistered (limits_of w)) (sym same) is.unregistered;
}

-- by a call that may come at any time, and registers nothing
newcomer_call : (w : Words) (p q : Pass) (n : CallerNo) (call : Made) → IsFree call → DidCall w p q n call
    → IsNewcomer w p n → IsNewcomer w q n
newcomer_call w p q n call free did is = record {
  ready = did.ready;
  unpinned = did.unpinned;
  unregistered = unregistered_after call free did is.unregistered;
}

-- the other callers go on by no act
newcomers_call : (w : Words) (p q : Pass) (k : ℕ) (call : Made) → IsFree call → DidCall w p q (caller 0) call → 0 < k
    → AreNewcomers w p k → AreNewcomers w q k
newcomers_call w p q k call free did some are n below =
    ⊎_elim
    (λ (same : n.0 ≡ 0).
    subst (IsNewcomer w q) (sym (ap caller same))
    (newcomer_call w p q (caller 0) call free did (are (caller 0) some)))
    (λ (other : n.0 ≡ 0 → ⊥).
    let is = are n below in
    newcomer_same w p q n is did.ready.pass (held n is.ready.number)
    (did.did.history.others n (eq-eqb _ 1 is.ready.number) (λ same. other (ap (λ (m : CallerNo). m.0) same))))
    (cases_eq n.0 0)
  where
    held : (m : CallerNo) → Holds p m → Holds q m
    held m has = eqb-true _ 1 (ap (λ (f : CallerNo → Bool). f m) did.did.held ∙ eq-eqb _ 1 has)

pub after_open_selector : (w : Words) (p q : Pass) (k : ℕ) (answer : Result SelNo SelectorsSpent) → 0 < k
    → AreNewcomers w p k
    → CallClause (caller 0) (Completes (open_selector_plan (limits_of w))) (view w p) (view w q) answer
    → IsReady w q (caller 0) → AreNewcomers w q k
after_open_selector w p q k answer some are clause ready =
    newcomers_call w p q k (table_call open_selector answer) (record { may_come = λ now. tt; registers_nothing = refl })
    (did_unpinned (table_call open_selector answer) (λ acts run. run) (pins_are_given_back.open_selector _) clause ready
    (are (caller 0) some).unpinned) some are

pub after_open_channel : (w : Words) (p q : Pass) (k : ℕ) (kind : Kind) (answer : Result ChanId ChannelError) → 0 < k
    → AreNewcomers w p k
    → CallClause (caller 0) (Completes (open_channel_plan (limits_of w) kind)) (view w p) (view w q) answer
    → IsReady w q (caller 0) → AreNewcomers w q k
after_open_channel w p q k kind answer some are clause ready =
    newcomers_call w p q k (table_call (open_channel kind) answer)
    (record { may_come = λ now. tt; registers_nothing = refl })
    (did_unpinned (table_call (open_channel kind) answer) (λ acts run. run) (pins_are_given_back.open_channel _ _)
    clause ready (are (caller 0) some).unpinned) some are

pub after_find_selector : (w : Words) (p q : Pass) (n : CallerNo) (number : ℕ) (answer : Option SelNo)
    → IsNewcomer w p n
    → CallClause n (Completes (find_selector_plan (limits_of w) number)) (view w p) (view w q) answer
    → IsReady w q n → IsNewcomer w q n
after_find_selector w p q n number answer is clause ready =
    newcomer_call w p q n (table_call (find_selector number) answer)
    (record { may_come = λ now. tt; registers_nothing = refl })
    (did_unpinned (table_call (find_selector number) answer) (λ acts run. run) (pins_are_given_back.find_selector _ _)
    clause ready is.unpinned) is

-- ---- the draws

drawn_newcomer : (w : Words) (q : Pass) (n : CallerNo) → IsPassOf w q → Holds q n
    → acts_seen q n ≡ DrawBit n false ∷ [] → IsNewcomer w q n
drawn_newcomer w q n pass held acts = record {
  ready = record { pass = pass; number = held };
  unpinned = λ s i. pins_are_own (limits_of w) n s i (seen q) pass.legal ∙ ap (keeps_pin s.0 i) acts;
  unregistered = only_drawn (limits_of w) n (acts_seen q n) acts;
}

one_drawn : (w : Words) (p q : Pass) (number : CallerNo) → HaveDrawn w p number.0 → Draws w p q number false
    → HaveDrawn w q (number.0 + 1)
one_drawn w p q number before draws = record {
  pass = draws.pass;
  only = (draws.only before.only).0;
  drawn = λ n below. ⊎_elim
      (λ (same : n.0 ≡ number.0).
      subst (IsNewcomer w q) (sym (ap caller same))
      (drawn_newcomer w q number draws.pass (draws.holds refl)
      (ap (mine number) grown
      ∙ (mine-own number (seen p) drawing (eq-eqb number.0 number.0 refl)
      ∙ ap (λ (l : List Act). l ++ DrawBit number false ∷ []) (before.rest number (omega arith))))))
      (λ (other : n.0 ≡ number.0 → ⊥).
      let is = before.drawn n (earlier n.0 number.0 below other) in
      newcomer_same w p q n is draws.pass (draws.keeps n is.ready.number) (still n other))
      (cases_eq n.0 number.0);
  rest = λ n above. still n (λ same. absurd (omega (arith, above, same))) ∙ before.rest n (omega (arith, above));
}
  where
    drawing : Event
    drawing = event_of number (DrawBit number false)

    grown : seen q ≡ seen p ++ drawing ∷ []
    grown = (draws.only before.only).1

    earlier : (a b : ℕ) → a < b + 1 → (a ≡ b → ⊥) → a < b
    earlier a b below other = omega (arith, below, other)

    still : (n : CallerNo) → (n.0 ≡ number.0 → ⊥) → acts_seen q n ≡ acts_seen p n
    still n other =
        ap (mine n) grown
        ∙ mine-other n (seen p) drawing (ne_eqb number.0 n.0 (λ is. other (sym is)))

pub next_drawn : (w : Words) (p q : Pass) (k : ℕ) (answer : Result (Unit {0}) DrawError) → HaveDrawn w p k
    → false ≡ is_err answer → Drawn w p q (caller k) answer → HaveDrawn w q (k + 1)
next_drawn w p q k (Ok done) before made drawn = one_drawn w p q (caller k) before drawn.1
next_drawn w p q k (Err error) before made drawn = absurd (cc)

-- ---- the passes are handed out

pub handed_newcomer : (w : Words) (p q given : Pass) (n : CallerNo) → IsNewcomer w p n → HandsOver w n p q given
    → IsNewcomer w given n
handed_newcomer w p q given n is hands =
    newcomer_same w p given n is hands.sees.given_pass ((hands.given_number n).1 refl)
    (ap (mine n) hands.sees.given_sight)

kept_newcomer : (w : Words) (p q given : Pass) (n m : CallerNo) → IsNewcomer w p n → n.0 ≢ m.0
    → HandsOver w m p q given → IsNewcomer w q n
kept_newcomer w p q given n m is other hands =
    newcomer_same w p q n is hands.sees.pass
    ((hands.numbers n).1 (is.ready.number, λ same. other (ap (λ (c : CallerNo). c.0) same)))
    (ap (mine n) hands.sees.sight)

pub begins_handing_out : (w : Words) (p : Pass) (passes : List Pass) (n : ℕ) → AreNewcomers w p (n + 1) → passes ≡ []
    → IsHandingOut w p passes 0 n
begins_handing_out w p passes n are none = record {
  acceptor = are (caller 0) (omega arith);
  rest = λ v above below. are (caller (v + 1)) (omega (arith, below));
  seats = subst (HaveSeats w (λ pass. pass)) (sym none) (λ v x below. absurd (omega (arith, below)));
  count = ap length none;
}

pub goes_on_handing_out : (w : Words) (p q given : Pass) (passes more : List Pass) (k n : ℕ) → k < n
    → IsHandingOut w p passes k n → HandsOver w (caller (k + 1)) p q given → more ≡ passes ++ given ∷ []
    → IsHandingOut w q more (k + 1) n
goes_on_handing_out w p q given passes more k n below at hands more_is = record {
  acceptor = kept_newcomer w p q given (caller 0) (caller (k + 1)) at.acceptor (λ same. absurd (omega (arith, same)))
      hands;
  rest = λ v above few. kept_newcomer w p q given (caller (v + 1)) (caller (k + 1))
      (at.rest v (omega (arith, above)) few) (λ same. absurd (omega (arith, same, above))) hands;
  seats = subst (HaveSeats w (λ pass. pass)) (sym more_is) (λ v x less. ⊎_elim
      (λ (earlier : v < length passes).
      subst (λ (pass : Pass). IsNewcomer w pass (caller (v + 1)))
      (sym (get_or_append_left passes (given ∷ []) x v earlier)) (at.seats v x earlier))
      (λ (last : length passes ≤ v).
      let here : v ≡ length passes = omega (arith, last, less, length-append passes (given ∷ [])) in
      let is : slice_index_or (passes ++ given ∷ []) v x ≡ given
      = ap (λ j. slice_index_or (passes ++ given ∷ []) j x) here ∙ get_or-append_seam passes given [] x in
      let its : k + 1 ≡ v + 1 = omega (arith, here, at.count) in
      subst (λ (pass : Pass). IsNewcomer w pass (caller (v + 1))) (sym is)
      (subst (λ j. IsNewcomer w given (caller j)) its
      (handed_newcomer w p q given (caller (k + 1)) (at.rest k (omega arith) below) hands)))
      (cases_lt v (length passes)));
  count = ap length more_is ∙ (length-append passes (given ∷ []) ∙ ap (λ m. m + 1) at.count);
}

-- ---- a seat is taken

pub seated_idle : (w : Words) (p q given : Pass) (n : CallerNo) (s : SelNo) → IsNewcomer w p n
    → HandsOver w n p q given → HasSelector (view w p) s → IsIdle w given n s
seated_idle w p q given n s is hands made =
    let newcomer = handed_newcomer w p q given n is hands in
    record {
      ready = newcomer.ready;
      unpinned = newcomer.unpinned;
      selector = selector_same w p given s hands.sees.given_sight made;
    }

pub seat_is : (w : Words) (number : ℕ) (deal : Deal) (s : SelNo) (board : BoardView) (acts : List Act)
    → board.words ≡ w → board.caller ≡ caller number → board.selector ≡ s → board.deal ≡ Some deal
    → board.registered ≡ [] → Completes (find_selector_plan (limits_of w) number) acts (Some s)
    → IsSeat w number deal board
seat_is w number deal s board acts words_are caller_is selector_is deal_is none run = record {
  words = words_are;
  caller_is = caller_is;
  selector_is = selector_is ∙ selector_found (limits_of w) number acts s run;
  deal_is = deal_is;
  registered_is = none;
}

-- ---- a seat is left

pub left_seat : {T E : Type 0} (w : Words) (number : ℕ) (deal : Deal) (registered : List ChanId)
    (before after : BoardView) (pass : Pass) (result : Result T E) → IsSeat w number deal before
    → IsSameSeat before after
    → OnOk result (after.registered ≡ registered) → IsReady w pass after.caller
    → HasCalled (limits_of w) (acts_seen pass after.caller) after.deal after.selector after.registered
    → LeavesSeat w number deal registered pass result
left_seat w number deal registered before after pass result seat same all ready called =
    let caller_is : after.caller ≡ caller number = same.caller ∙ seat.caller_is in
    let selector_is : after.selector ≡ selector number = same.selector ∙ seat.selector_is in
    let deal_is : after.deal ≡ Some deal = same.deal ∙ seat.deal_is in
    record {
      ready = subst (IsReady w pass) caller_is ready;
      called = on_ok_weaker result
          (λ (all_are : after.registered ≡ registered).
          subst (λ n. HasCalled (limits_of w) (acts_seen pass n) (Some deal) (selector number) registered) caller_is
          (subst (λ d. HasCalled (limits_of w) (acts_seen pass after.caller) d (selector number) registered) deal_is
          (subst (λ s. HasCalled (limits_of w) (acts_seen pass after.caller) after.deal s registered) selector_is
          (subst (λ k. HasCalled (limits_of w) (acts_seen pass after.caller) after.deal after.selector k) all_are
          called)))) all;
    }

channels_are : (clients : List ChanId) → (length clients ≡ 0 → ⊥) → run_channels clients ≡ channels_for clients
channels_are [] some = absurd (some refl)
channels_are (client ∷ rest) some = refl

-- of a worker that has put in these, where it has any connections: at Ok all of them
pub left_served : {T E : Type 0} (w : Words) (number : ℕ) (deal : Deal) (clients : List ChanId) (conns : ℕ)
    (before after : BoardView) (pass : Pass) (result : Result T E) → (conns ≡ 0 → ⊥) → IsSeat w number deal before
    → IsSameSeat before after → OnOk result (length clients ≡ conns)
    → OnOk result (after.registered ≡ run_channels clients) → IsReady w pass after.caller
    → HasCalled (limits_of w) (acts_seen pass after.caller) after.deal after.selector after.registered
    → LeavesSeat w number deal (channels_for clients) pass result
left_served w number deal clients conns before after pass result some seat same long all ready called =
    left_seat w number deal (channels_for clients) before after pass result seat same
    (on_ok_both result (λ long_is all_are.
    all_are ∙ channels_are clients (λ none. some (sym long_is ∙ none))) long all) ready called
  where
    on_ok_both : {T E P Q R : Type 0} (r : Result T E) → (P → Q → R) → OnOk r P → OnOk r Q → OnOk r R
    on_ok_both (Ok x) both p q = both p q
    on_ok_both (Err e) both p q = tt

-- and of one that has none
pub left_idle : {T E : Type 0} (w : Words) (number : ℕ) (deal : Deal) (clients : List ChanId) (pass : Pass)
    (result : Result T E) → clients ≡ [] → IsNewcomer w pass (caller number)
    → LeavesSeat w number deal (channels_for clients) pass result
left_idle w number deal clients pass result none is = record {
  ready = is.ready;
  called = on_ok_any result
      (subst (λ cs. HasCalled (limits_of w) (acts_seen pass (caller number)) (Some deal) (selector number)
      (channels_for cs)) (sym none) is.unregistered);
}

-- and where a seat was refused
pub left_unseated : {T E : Type 0} (w : Words) (number : ℕ) (deal : Deal) (registered : List ChanId) (pass : Pass)
    (error : E)
    → IsReady w pass (caller number) → LeavesSeat {T = T} w number deal registered pass (Err error)
left_unseated w number deal registered pass error ready = record { ready = ready; called = tt }

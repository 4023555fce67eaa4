-- What work on a proxy leaves of the registered channels.
use Rattle.std.proofs.Common.{◌≡◌, inl, inr, ◌+◌, true, false, Result, Ok, Err, OnOk, OnErr, is_err, List, []}
use Rattle.std.proofs.Common.{◌∷◌, ◌++◌, length, refl, sym, ap, ◌∙◌, subst, append_assoc, length-append}
use mathlib.Core.List.{IsPrefix}
use Rattle.std.proofs.lemmas.List.{append-nil}
use Rattle.nio_base.specs.declared.numbers.ChanId.{ChanId}
use Rattle.nio_board.specs.Board.{BoardView, IsSameBoard, IsSameSeat}
use Rattle.nio_serve.specs.Serving.{run_channels, target_of}
use Rattle.nio_serve.specs.Statuses.{WatchesSome}
use Rattle.nio_serve.specs.Watching.{Watching, WatchesAll}
use Rattle.nio_serve.specs.declared.connections.Connections.{Connections}
use Rattle.nio_serve.specs.declared.link.Links.{Links}
use Rattle.nio_serve.proofs.Clients.{run_push}

pub seat_none : (b : BoardView) → IsSameSeat b b
seat_none b = record { words = refl; caller = refl; selector = refl; deal = refl }

pub seat_then : {a b c : BoardView} → IsSameSeat a b → IsSameSeat b c → IsSameSeat a c
seat_then first second = record {
  words = second.words ∙ first.words;
  caller = second.caller ∙ first.caller;
  selector = second.selector ∙ first.selector;
  deal = second.deal ∙ first.deal;
}

pub board_none : (b : BoardView) → IsSameBoard b b
board_none b = record { seat = seat_none b; registered = refl }

pub board_then : {a b c : BoardView} → IsSameBoard a b → IsSameBoard b c → IsSameBoard a c
board_then first second =
    record { seat = seat_then first.seat second.seat; registered = second.registered ∙ first.registered }

pub on_ok_any : {T E P : Type 0} (r : Result T E) → P → OnOk r P
on_ok_any (Ok x) p = p
on_ok_any (Err e) p = tt

-- a list is a prefix of itself
pub prefix_all : (xs : List ChanId) → IsPrefix xs xs
prefix_all xs = ([], append-nil xs)

pub prefix_is : (xs ys : List ChanId) → xs ≡ ys → IsPrefix xs ys
prefix_is xs ys same = subst (IsPrefix xs) same (prefix_all xs)

-- no channel was registered, and the clients are the same
pub watching_kept : {A E : Type 0} (r : Result A E) {a b : BoardView} (c0 c1 : Connections) → IsSameBoard a b
    → c1.clients ≡ c0.clients → WatchesAll a c0 → Watching a b c1 r
watching_kept r {b = b} c0 c1 same clients before =
    let all : WatchesAll b c1 = same.registered ∙ (before ∙ ap run_channels (sym clients)) in
    record { seat = same.seat; all = on_ok_any r all; within = prefix_is b.registered (run_channels c1.clients) all }

-- work after other work
pub watching_then : {A E : Type 0} {r : Result A E} {a b d : BoardView} {c : Connections} → IsSameSeat a b
    → Watching b d c r → Watching a d c r
watching_then seat watching =
    record { seat = seat_then seat watching.seat; all = watching.all; within = watching.within }

-- what holds where a call failed, or where it didn't
pub where_failed : {T E P : Type 0} (result : Result T E) → is_err result ≡ true → OnErr result P → P
where_failed (Ok value) failed holds = absurd (cc)
where_failed (Err error) failed holds = holds

pub where_done : {T E P : Type 0} (result : Result T E) → is_err result ≡ false → OnOk result P → P
where_done (Ok value) done holds = holds
where_done (Err error) done holds = absurd (cc)

pub where_ok : {T E P : Type 0} {r : Result T E} {x : T} → r ≡ Ok x → OnOk r P → P
where_ok {P = P} is on = subst (λ q. OnOk q P) is on

-- the same board, and the same clients
pub watched_on : {a b : BoardView} (c0 c1 : Connections) → IsSameBoard a b → c1.clients ≡ c0.clients → WatchesAll a c0
    → WatchesAll b c1
watched_on c0 c1 same clients before = same.registered ∙ (before ∙ ap run_channels (sym clients))

-- a client was added, and both of its connection's channels registered
pub watching_added : {A E : Type 0} (r : Result A E) {a b : BoardView} (c0 c1 : Connections) (links : Links)
    → IsSameSeat a b → WatchesAll a c0 → c1.clients ≡ c0.clients ++ links.client ∷ [] → links.target ≡ target_of links.client
    → b.registered ≡ a.registered ++ links.client ∷ links.target ∷ [] → Watching a b c1 r
watching_added r {a = a} {b = b} c0 c1 links seat before more target registered =
    let all : WatchesAll b c1 =
    registered
    ∙ (ap (λ (t : ChanId). a.registered ++ links.client ∷ t ∷ []) target
    ∙ (ap (λ xs. xs ++ links.client ∷ target_of links.client ∷ []) before
    ∙ (sym (run_push c0.clients links.client) ∙ ap run_channels (sym more)))) in
    record { seat = seat; all = on_ok_any r all; within = prefix_is b.registered (run_channels c1.clients) all }

-- a client was added, and some of the two registered
pub watching_dropped : {A E : Type 0} (r : Result A E) {e : E} {a b : BoardView} (c0 c1 : Connections) (links : Links)
    → IsSameSeat a b → WatchesAll a c0 → c1.clients ≡ c0.clients ++ links.client ∷ [] → links.target ≡ target_of links.client
    → WatchesSome links a.registered b.registered → r ≡ Err e → Watching a b c1 r
watching_dropped r {a = a} {b = b} c0 c1 links seat before more target some failed =
    let run = run_channels c0.clients in
    let end : run_channels c1.clients ≡ run ++ links.client ∷ links.target ∷ [] =
    ap run_channels more
    ∙ (run_push c0.clients links.client
    ∙ ap (λ (t : ChanId). run ++ links.client ∷ t ∷ []) (sym target)) in
    record {
      seat = seat;
      all = subst (λ q. OnOk q (WatchesAll b c1)) (sym failed) tt;
      within = subst (IsPrefix b.registered) (sym end) (elim some [
        | inl none ↦ (
          links.client ∷ links.target ∷ [],
          ap (λ xs. xs ++ links.client ∷ links.target ∷ []) (none ∙ before),
        )
        | inr (inl one) ↦ (
          links.target ∷ [],
          ap (λ xs. xs ++ links.target ∷ []) (one ∙ ap (λ xs. xs ++ links.client ∷ []) before)
              ∙ append_assoc run (links.client ∷ []) (links.target ∷ []),
        )
        | inr (inr both) ↦ (
          [],
          append-nil b.registered ∙ (both ∙ ap (λ xs. xs ++ links.client ∷ links.target ∷ []) before),
        )
      ]);
    }

pub longer : {A : Type 0} (xs more : List A) (x : A) → more ≡ xs ++ x ∷ [] → length more ≡ length xs + 1
longer xs more x is = ap length is ∙ length-append xs (x ∷ [])

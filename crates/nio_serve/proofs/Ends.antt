-- The ends of a connection, from piece of work to piece of work.
use Rattle.std.proofs.Common.{◌≡◌, Bool, true, false, Result, OnOk, is_err, refl, sym, ap, subst, ◌∙◌}
use Rattle.nio_link.specs.Links.{Link}
use Rattle.nio_link.specs.Places.{closed, place_after_close}
use Rattle.nio_link.specs.declared.place.Place.{Place}
use Rattle.nio_link.specs.declared.place.Standing.TheVariants.{Gone}
use Rattle.nio_relay.specs.Connection.{Carried}
use Rattle.nio_relay.specs.Flow.{Flow, IsLawful}
use Rattle.nio_serve.proofs.Watching.{where_done}
use Rattle.nio_serve.specs.Relaying.{IsEnd, IsTarget, SameSink, SameSource, carried, open_or_shut}
use Rattle.nio_serve.specs.Serving.{HasCarried}
use Rattle.nio_serve.specs.Statuses.{IsLive, IsRelaying}
use Rattle.nio_serve.specs.declared.relay.Stage.{Stage}
use Rattle.nio_serve.specs.declared.relay.Stage.TheVariants as stage

open_gone : (b : Bool) → closed (open_or_shut b) ≡ Gone
open_gone true = refl
open_gone false = refl

pub end_gone : {l : Link} {p : Place} {c : Carried} (q : Place) → q ≡ place_after_close p → IsEnd l p c
    → q.standing ≡ Gone
end_gone {c = c} q is_closed is = ap (λ (x : Place). x.standing) is_closed ∙ ap closed is.stands ∙ open_gone c.shut

-- the link and its place are the same
pub end_moved : {l0 l1 : Link} {p0 p1 : Place} {c : Carried} → l1 ≡ l0 → p1 ≡ p0 → IsEnd l0 p0 c → IsEnd l1 p1 c
end_moved {l0} {l1} {p0} {p1} {c} links places is =
    subst (λ l. IsEnd l p1 c) (sym links) (subst (λ p. IsEnd l0 p c) (sym places) is)

-- the direction that takes from it has taken the same
pub end_source : {l : Link} {p : Place} {f g : Flow} (incoming : Flow) → SameSource f g → IsEnd l p (carried f incoming)
    → IsEnd l p (carried g incoming)
end_source {l} {p} {f} {g} incoming same is =
    subst (λ taken. IsEnd l p (record { got = taken; ended = g.ended; put = incoming.written; shut = incoming.shut }))
    (sym same.taken)
    (subst (λ ended. IsEnd l p (record { got = f.taken; ended = ended; put = incoming.written; shut = incoming.shut }))
    (sym same.ended) is)

-- the direction that writes to it has written the same
pub end_sink : {l : Link} {p : Place} {f g : Flow} (outgoing : Flow) → SameSink f g → IsEnd l p (carried outgoing f)
    → IsEnd l p (carried outgoing g)
end_sink {l} {p} {f} {g} outgoing same is =
    subst (λ put. IsEnd l p (record { got = outgoing.taken; ended = outgoing.ended; put = put; shut = g.shut }))
    (sym same.written)
    (subst (λ shut. IsEnd l p (record { got = outgoing.taken; ended = outgoing.ended; put = f.written; shut = shut }))
    (sym same.shut) is)

-- a connection of which no call has failed is relayed still
pub still_live : {T E : Type 0} (result : Result T E) (made : Stage) (there back : Flow) (client target : Link)
    (p q : Place) → is_err result ≡ false → OnOk result (IsRelaying made there back client target p q)
    → IsLawful there → IsLawful back → IsLive made there back client target p q
still_live result made there back client target p q done relaying there_lawful back_lawful = record {
  relaying = where_done result done relaying;
  there_lawful = there_lawful;
  back_lawful = back_lawful;
}

pub target_carried : (made : Stage) (l : Link) (p : Place) (c : Carried) → IsTarget made l p c → HasCarried l c
target_carried stage.Accepted l p c is = is.carried
target_carried stage.Connecting l p c is = is.carried
target_carried stage.Connected l p c is = is.carried

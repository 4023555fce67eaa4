-- What a relay promises, from what it came to before its sockets were closed.
use Rattle.std.proofs.Common.{◌≡◌, inl, inr, Err, ap, ◌∙◌, refl}
use Rattle.nio_base.specs.declared.numbers.Addr.{Addr}
use Rattle.nio_datagram.specs.Nets.{PacketView, NoneFailed}
use Rattle.nio_datagram.specs.Places.{place_after_close}
use Rattle.nio_datagram.specs.Relaying.{IsAsked, IsDone, Quits, Ran}
use Rattle.nio_datagram.specs.Serving.{client_chan, target_chan, HasRelayed, IsLeft, LeavesNothing, NoneRose, OneRose}
use Rattle.nio_datagram.specs.Serving.{RelaysPackets, Serves, ServesAllOr}
use Rattle.nio_datagram.specs.declared.net.Place.{Place}
use Rattle.nio_datagram.specs.declared.net.Place.TheVariants.{Unbound, Bound, Closed}
use Rattle.nio_datagram.specs.declared.relay.Relay.{Relay}
use Rattle.nio_relay.specs.declared.plan.PacketPlan.{PacketPlan}
use Rattle.nio_datagram.specs.declared.serving.PacketServeError.{PacketServeError}
use Rattle.nio_datagram.specs.declared.serving.PacketServeError.TheVariants.{NetFault, Memory}
use Rattle.nio_datagram.specs.declared.serving.PacketsServed.{PacketsServed}

pub relays_after : (target : Addr) (y z : PacketView) → Quits y z → RelaysPackets target y.traffic
    → RelaysPackets target z.traffic
relays_after target y z quits relays = record {
  to_target = rw (quits.traffic client_chan, quits.traffic target_chan) relays.to_target;
  to_client = rw (quits.traffic client_chan, quits.traffic target_chan) relays.to_client;
}

pub relayed_of : (plan : PacketPlan) (r : Relay) (y z : PacketView) (served : PacketsServed) → IsDone plan r y
    → Quits y z → served.forth ≡ r.forth.sent → served.back ≡ r.back.sent
    → HasRelayed plan z.traffic z.place served
relayed_of plan r y z served done quits forth back = record {
  all_went = rw (quits.traffic target_chan) done.all_went;
  forth_count = forth ∙ done.forth_count;
  back_count = rw (quits.traffic client_chan) (back ∙ done.back_count);
  listened = quits.client_place ∙ ap place_after_close done.bound.listening;
  bound = quits.target_place ∙ ap place_after_close done.bound.bound;
}

pub none_failed_after : (x y z : PacketView) → NoneFailed x.faults y.faults x.poll_faults y.poll_faults → Quits y z
    → NoneFailed x.faults z.faults x.poll_faults z.poll_faults
none_failed_after x y z none quits = record {
  calls = λ c. quits.faults c ∙ none.calls c;
  polls = quits.polls ∙ none.polls;
}

left_after : (wanted : Addr) (p : Place) → IsAsked wanted p → IsLeft wanted (place_after_close p)
left_after wanted Unbound asked = tt
left_after wanted (Bound at) asked = asked
left_after wanted (Closed at) asked = absurd asked

pub leaves_of : (plan : PacketPlan) (r : Relay) (x y z : PacketView) → Ran plan r x y → Quits y z
    → LeavesNothing plan x.traffic z.traffic x.place z.place x.faults z.faults x.poll_faults z.poll_faults
leaves_of plan r x y z ran quits = record {
  listened = rw quits.client_place (left_after plan.listen (y.place client_chan) ran.placed.client_asked);
  bound = rw quits.target_place (left_after plan.local (y.place target_chan) ran.placed.target_asked);
  other_traffic = λ c not_client not_target. quits.traffic c ∙ ran.works.traffic c not_client not_target;
  other_places = λ c not_client not_target.
      quits.places c not_client not_target ∙ ran.works.places c not_client not_target;
  other_faults = λ c not_client not_target. quits.faults c ∙ ran.works.faults c not_client not_target;
  later = λ c. rw (quits.faults c) (ran.works.later c);
  polls = rw quits.polls ran.works.polls;
}

pub serves_err : (plan : PacketPlan) (x y z : PacketView) (error : PacketServeError)
    → (error ≡ NetFault → OneRose x.faults y.faults x.poll_faults y.poll_faults) → Quits y z
    → Serves plan z.traffic z.place x.faults z.faults x.poll_faults z.poll_faults (Err error)
serves_err plan x y z NetFault cause quits =
    rw (quits.faults client_chan, quits.faults target_chan, quits.polls) (cause refl)
serves_err plan x y z Memory cause quits = tt

no_fault : (x z : PacketView) → NoneRose x.faults z.faults x.poll_faults z.poll_faults
    → OneRose x.faults z.faults x.poll_faults z.poll_faults → ⊥
no_fault x z none (inl rose) = none.polls rose
no_fault x z none (inr (inl rose)) = none.on_client rose
no_fault x z none (inr (inr rose)) = none.on_target rose

pub complete_err : (plan : PacketPlan) (x z : PacketView) (error : PacketServeError)
    → Serves plan z.traffic z.place x.faults z.faults x.poll_faults z.poll_faults (Err error)
    → NoneRose x.faults z.faults x.poll_faults z.poll_faults → ServesAllOr plan z.traffic z.place (Err error)
complete_err plan x z NetFault serves none = no_fault x z none serves
complete_err plan x z Memory serves none = tt

-- What a receive and a send make of a direction.
use Rattle.std.proofs.Common.{◌≡◌, ◌≢◌, ℕ, if◌then◌else◌, Bool, true, false}
use Rattle.std.proofs.Common.{IsTrue, Option, Some, None, Result, Ok, Err}
use Rattle.std.proofs.Common.{OnOk, List, [], ◌∷◌, ◌++◌, take, refl, ap, sym, subst, ◌∙◌}
use Rattle.std.proofs.lemmas.Bool.{not-false, not-true}
use Rattle.std.proofs.lemmas.List.Elements.{filter-append}
use Rattle.std.proofs.Common.{filter, eq-eqb}
use Rattle.std.proofs.lemmas.List.{map-append, append-nil}
use Rattle.std.specs.Str.{bytes_eq}
use Rattle.std.specs.Option.{option_to_list}
use Rattle.nio_base.specs.declared.numbers.Addr.{Addr}
use Rattle.nio_base.specs.declared.numbers.ChanId.{ChanId}
use Rattle.nio_bytes.specs.Cause.{HasCause}
use Rattle.nio_link.proofs.Channels.{all_same, channel_is_or_not}
use Rattle.nio_link.specs.Links.{IsSameBut}
use Rattle.nio_link.specs.declared.net.Failed.{Failed}
use Rattle.nio_base.specs.Ops.{is_within}
use Rattle.nio_datagram.proofs.Bits.{receive_keeps_write, send_keeps_read}
use Rattle.nio_datagram.proofs.Counting.{later_all}
use Rattle.nio_datagram.specs.Datagrams.{Datagram, as_fault, heard_of}
use Rattle.nio_datagram.specs.Packets.{Packet, Traffic, after_receive, after_send, first_sender, is_stranger, bytes_of}
use Rattle.nio_datagram.specs.Packets.{heard_from, is_same_addr}
use Rattle.nio_datagram.specs.Nets.{PacketView, NoneFailed, Receives}
use Rattle.nio_datagram.specs.Places.{IsBound}
use Rattle.nio_datagram.specs.Passing.{PassState, Passing, Advances, IsPassing, Takes, Gives, peer_told, held_after}
use Rattle.nio_datagram.specs.Passing.{heard_by, more_of}
use Rattle.nio_datagram.specs.declared.link.Heard.{Heard}
use Rattle.nio_datagram.specs.declared.link.Heard.TheVariants as heard
use Rattle.nio_datagram.specs.declared.link.PacketError.{PacketError}
use Rattle.nio_datagram.specs.declared.net.Came.{Came}
use Rattle.nio_datagram.specs.declared.net.Came.TheVariants as came

-- ---- counts that stay

pub none_failed : (f : ChanId → ℕ) (p : ℕ) → NoneFailed f f p p
none_failed f p = record { calls = λ c. refl; polls = refl }

pub none_failed_then : (f g h : ChanId → ℕ) (p q r : ℕ) → NoneFailed f g p q → NoneFailed g h q r → NoneFailed f h p r
none_failed_then f g h p q r one two = record {
  calls = λ c. two.calls c ∙ one.calls c;
  polls = two.polls ∙ one.polls;
}

-- a call that didn't fail left every count as it was
pub call_none_failed : {T : Type 0} (made : Result T Failed) (c : ChanId) (f g : ChanId → ℕ) (p q : ℕ)
    → HasCause (f c) (g c) made → IsSameBut c f g → q ≡ p → OnOk made (NoneFailed f g p q)
call_none_failed (Ok value) c f g p q cause others polls = record {
  calls = all_same channel_is_or_not c f g cause.still others;
  polls = polls;
}
call_none_failed (Err failed) c f g p q cause others polls = tt

heard_test : (b : Bool) (len : ℕ) (from : Addr) (P : Type 0) → P
    → OnOk (more_of (if b then Ok heard.Stranger else Ok (heard.Packet len from))) P
heard_test true len from P p = p
heard_test false len from P p = p

more_on_ok : (made : Result Came Failed) (peer : Option Addr) (P : Type 0) → OnOk made P
    → OnOk (more_of (heard_of peer made)) P
more_on_ok (Ok (came.Packet len from)) peer P p = heard_test (is_stranger peer from) len from P p
more_on_ok (Ok came.NotYet) peer P p = p
more_on_ok (Err failed) peer P p = tt

pub takes_none_failed : (c : ChanId) (peer : Option Addr) (before now : Passing) (x y : PacketView)
    (result : Result Heard PacketError) (more : Result Bool PacketError) → Takes c peer before now x y result
    → more ≡ more_of result → OnOk more (NoneFailed x.faults y.faults x.poll_faults y.poll_faults)
takes_none_failed c peer before now x y result more takes is =
    subst (λ r. OnOk r (NoneFailed x.faults y.faults x.poll_faults y.poll_faults))
    (sym (is ∙ ap more_of takes.told))
    (more_on_ok takes.made peer _
    (call_none_failed takes.made c x.faults y.faults x.poll_faults y.poll_faults takes.net.cause takes.net.others
    takes.net.polls))

fault_on_ok : {T : Type 0} (made : Result T Failed) (P : Type 0) → OnOk made P → OnOk (as_fault made) P
fault_on_ok (Ok value) P p = p
fault_on_ok (Err failed) P p = tt

pub gives_none_failed : (c : ChanId) (to : Addr) (before now : Passing) (x y : PacketView)
    (result : Result Bool PacketError) → Gives c to before now x y result
    → OnOk result (NoneFailed x.faults y.faults x.poll_faults y.poll_faults)
gives_none_failed c to before now x y result gives =
    subst (λ r. OnOk r (NoneFailed x.faults y.faults x.poll_faults y.poll_faults)) (sym gives.told)
    (fault_on_ok gives.made _
    (call_none_failed gives.made c x.faults y.faults x.poll_faults y.poll_faults gives.net.cause gives.net.others
    gives.net.polls))

-- ---- sending

send_came : (r : Result Bool Failed) (to : Addr) (bytes : List ℕ) (x : Traffic) → (after_send r to bytes x).came ≡ x.came
send_came (Ok true) to bytes x = refl
send_came (Ok false) to bytes x = refl
send_came (Err failed) to bytes x = refl

pub gives_advances : (s t : PassState) (to : Addr) (result : Result Bool PacketError)
    → s.source.channel.number ≢ s.sink.channel.number → Gives s.sink.channel to s.direction t.direction s.net t.net result
    → t.source ≡ s.source → t.sink ≡ s.sink → Advances s.source.channel s.sink.channel s t
gives_advances s t to result numbers gives source sink =
    let apart : s.source.channel ≢ s.sink.channel = λ same. numbers (ap (λ (c : ChanId). c.number) same) in record {
      sink = sink;
      source = rw source refl;
      connected = λ peer is. ap (λ (d : Datagram). d.peer) source ∙ is;
      first = λ is.
          ap (λ (d : Datagram). d.peer) source ∙ is
          ∙ ap (λ (x : Traffic). first_sender x.came) (sym (gives.net.traffic_else s.source.channel apart));
      went = ap (λ (x : Traffic). x.went) (gives.net.traffic_else s.source.channel apart);
      came = ap (λ (x : Traffic). x.came) gives.net.traffic
          ∙ send_came gives.made to gives.bytes (s.net.traffic s.sink.channel);
      traffic = λ c not_source not_sink. gives.net.traffic_else c not_sink;
      faults = λ c not_source not_sink. gives.net.others c not_sink;
      later = later_all s.net.faults t.net.faults s.sink.channel gives.net.cause.later gives.net.others;
      places = gives.net.places;
      polls = gives.net.polls;
      writes = λ within.
          subst (λ x. IsTrue (is_within 4 x)) (sym (gives.net.ready_else s.source.channel.number numbers)) within;
      reads = λ within.
          subst (λ x. IsTrue (is_within 1 x)) (sym gives.net.ready)
          (send_keeps_read gives.made (s.net.ready s.sink.channel.number) within);
    }

-- ---- receiving

receive_went : (r : Result Came Failed) (buffer : List ℕ) (x : Traffic) → (after_receive r buffer x).went ≡ x.went
receive_went (Ok (came.Packet len from)) buffer x = refl
receive_went (Ok came.NotYet) buffer x = refl
receive_went (Err failed) buffer x = refl

-- the first sender stays the first
first_stays : (peer : Addr) (packets : List Packet) (p : Packet) → Some peer ≡ first_sender packets
    → Some peer ≡ first_sender (packets ++ p ∷ [])
first_stays peer [] p is = absurd (cc)
first_stays peer (one ∷ later) p is = is

first_of : (packets : List Packet) (p : Packet) → packets ≡ [] → Some p.addr ≡ first_sender (packets ++ p ∷ [])
first_of packets p none = rw none refl

-- a packet of a peer, or of the first sender
first_heard : (b : Bool) (peer : Option Addr) (len : ℕ) (from : Addr) (bytes : List ℕ) (packets : List Packet)
    → is_stranger peer from ≡ b → (peer ≡ None → packets ≡ []) → peer ≡ first_sender packets
    → peer_told (if b then Ok heard.Stranger else Ok (heard.Packet len from)) peer
    ≡ first_sender (packets ++ record { addr = from; bytes = bytes } ∷ [])
first_heard true None len from bytes packets test unheard is = absurd (cc)
first_heard true (Some peer) len from bytes packets test unheard is = first_stays peer packets _ is
first_heard false None len from bytes packets test unheard is = first_of packets _ (unheard refl)
first_heard false (Some peer) len from bytes packets test unheard is = first_stays peer packets _ is

first_after : (made : Result Came Failed) (peer : Option Addr) (buffer : List ℕ) (x : Traffic)
    → (peer ≡ None → x.came ≡ []) → peer ≡ first_sender x.came
    → peer_told (heard_of peer made) peer ≡ first_sender (after_receive made buffer x).came
first_after (Ok (came.Packet len from)) peer buffer x unheard is =
    first_heard (is_stranger peer from) peer len from (take len buffer) x.came refl unheard is
first_after (Ok came.NotYet) peer buffer x unheard is = is
first_after (Err failed) peer buffer x unheard is = is

-- a peer stays
peer_stays : (result : Result Heard PacketError) (peer : Addr) → peer_told result (Some peer) ≡ Some peer
peer_stays (Ok (heard.Packet len from)) peer = refl
peer_stays (Ok heard.Stranger) peer = refl
peer_stays (Ok heard.NotYet) peer = refl
peer_stays (Err error) peer = refl

pub takes_advances : (s t : PassState) (result : Result Heard PacketError)
    → s.source.channel.number ≢ s.sink.channel.number
    → Takes s.source.channel s.source.peer s.direction t.direction s.net t.net result
    → (s.source.peer ≡ None → (s.net.traffic s.source.channel).came ≡ [])
    → t.source ≡ record s.source { peer = peer_told result s.source.peer } → t.sink ≡ s.sink → Advances s.source.channel s.sink.channel s t
takes_advances s t result numbers takes unheard source sink =
    let other : s.sink.channel ≢ s.source.channel = λ same. numbers (sym (ap (λ (c : ChanId). c.number) same)) in
    let peer : t.source.peer ≡ peer_told result s.source.peer = ap (λ (d : Datagram). d.peer) source in
    record {
      sink = sink;
      source = source ∙ ap (λ p. let d : Datagram = record s.source { peer = p } in d) (sym peer);
      connected = λ who is. peer ∙ ap (peer_told result) is ∙ peer_stays result who;
      first = λ is.
          peer ∙ ap (λ r. peer_told r s.source.peer) takes.told
          ∙ first_after takes.made s.source.peer takes.filled (s.net.traffic s.source.channel) unheard is
          ∙ ap (λ (x : Traffic). first_sender x.came) (sym takes.net.traffic);
      went = ap (λ (x : Traffic). x.went) takes.net.traffic
          ∙ receive_went takes.made takes.filled (s.net.traffic s.source.channel);
      came = ap (λ (x : Traffic). x.came) (takes.net.traffic_else s.sink.channel other);
      traffic = λ c not_source not_sink. takes.net.traffic_else c not_source;
      faults = λ c not_source not_sink. takes.net.others c not_source;
      later = later_all s.net.faults t.net.faults s.source.channel takes.net.cause.later takes.net.others;
      places = takes.net.places;
      polls = takes.net.polls;
      writes = λ within.
          subst (λ x. IsTrue (is_within 4 x)) (sym takes.net.ready)
          (receive_keeps_write takes.made (s.net.ready s.source.channel.number) within);
      reads = λ within.
          subst (λ x. IsTrue (is_within 1 x)) (sym (takes.net.ready_else s.sink.channel.number (λ same. numbers (sym same)))) within;
    }

same_bytes : (xs : List ℕ) → bytes_eq xs xs ≡ true
same_bytes [] = refl
same_bytes (x ∷ xs) = rw (eq-eqb x x refl, same_bytes xs)

same_self : (a : Addr) → is_same_addr a a ≡ true
same_self a = rw (same_bytes a.ip, eq-eqb a.port a.port refl)

heard_one : (b : Bool) (peer : Addr) (p : Packet) → is_same_addr peer p.addr ≡ b
    → heard_from peer (p ∷ []) ≡ (if b then p.bytes ∷ [] else [])
heard_one true peer p is = rw is
heard_one false peer p is = rw is

-- one packet more is heard, or not
heard_more : (b : Bool) (peer : Addr) (packets : List Packet) (p : Packet) → is_same_addr peer p.addr ≡ b
    → heard_from peer (packets ++ p ∷ []) ≡ heard_from peer packets ++ (if b then p.bytes ∷ [] else [])
heard_more b peer packets p is =
    ap bytes_of (filter-append (λ (q : Packet). is_same_addr peer q.addr) packets (p ∷ []))
    ∙ map-append (λ (q : Packet). q.bytes) (filter (λ (q : Packet). is_same_addr peer q.addr) packets)
    (filter (λ (q : Packet). is_same_addr peer q.addr) (p ∷ []))
    ∙ ap (λ (xs : List (List ℕ)). heard_from peer packets ++ xs) (heard_one b peer p is)

order_heard : (b : Bool) (peer : Option Addr) (len : ℕ) (from : Addr) (filled : List ℕ) (packets went : List Packet)
    → is_stranger peer from ≡ b → (peer ≡ None → packets ≡ []) → bytes_of went ++ [] ≡ heard_by peer packets
    → bytes_of went
    ++ option_to_list (held_after (if b then Ok heard.Stranger else Ok (heard.Packet len from)) filled None)
    ≡ heard_by (peer_told (if b then Ok heard.Stranger else Ok (heard.Packet len from)) peer)
    (packets ++ record { addr = from; bytes = take len filled } ∷ [])
order_heard true None len from filled packets went test unheard order = absurd (cc)
order_heard true (Some peer) len from filled packets went test unheard order =
    order
    ∙ sym (heard_more false peer packets _ (not-true (is_same_addr peer from) test)
    ∙ append-nil (heard_from peer packets))
order_heard false None len from filled packets went test unheard order =
    let none : bytes_of went ≡ [] = sym (append-nil (bytes_of went)) ∙ order in
    rw (none, unheard refl) (sym (heard_one true from _ (same_self from)))
order_heard false (Some peer) len from filled packets went test unheard order =
    ap (λ (xs : List (List ℕ)). xs ++ take len filled ∷ []) (sym (append-nil (bytes_of went)) ∙ order)
    ∙ sym (heard_more true peer packets _ (not-false (is_same_addr peer from) test))

order_after : (made : Result Came Failed) (peer : Option Addr) (filled : List ℕ) (x : Traffic) (went : List Packet)
    → (peer ≡ None → x.came ≡ []) → bytes_of went ++ [] ≡ heard_by peer x.came
    → bytes_of went ++ option_to_list (held_after (heard_of peer made) filled None)
    ≡ heard_by (peer_told (heard_of peer made) peer) (after_receive made filled x).came
order_after (Ok (came.Packet len from)) peer filled x went unheard order =
    order_heard (is_stranger peer from) peer len from filled x.came went refl unheard order
order_after (Ok came.NotYet) peer filled x went unheard order = order
order_after (Err failed) peer filled x went unheard order = order

unheard_after : (made : Result Came Failed) (peer : Option Addr) (filled : List ℕ) (x : Traffic)
    → (peer ≡ None → x.came ≡ []) → peer_told (heard_of peer made) peer ≡ None
    → (after_receive made filled x).came ≡ []
unheard_after (Ok (came.Packet len from)) None filled x unheard is = absurd (cc)
unheard_after (Ok (came.Packet len from)) (Some peer) filled x unheard is = stays (is_stranger (Some peer) from) is
  where
    stays : (b : Bool)
        → peer_told (if b then Ok heard.Stranger else Ok (heard.Packet len from)) (Some peer) ≡ None
        → (after_receive (Ok (came.Packet len from)) filled x).came ≡ []
    stays true is = absurd (cc)
    stays false is = absurd (cc)
unheard_after (Ok came.NotYet) peer filled x unheard is = unheard is
unheard_after (Err failed) peer filled x unheard is = unheard is

pub takes_passing : (s : PassState) (net : PacketView) (result : Result Heard PacketError) (made : Result Came Failed)
    (filled : List ℕ) → IsPassing s → s.direction.held ≡ None → result ≡ heard_of s.source.peer made
    → Receives s.source.channel s.net net filled made → IsPassing (record {
      source = record s.source { peer = peer_told result s.source.peer };
      sink = s.sink;
      direction = record s.direction { held = held_after result filled s.direction.held };
      net = net;
    })
takes_passing s net result made filled passing empty told receives =
    let other : s.sink.channel ≢ s.source.channel =
    λ same. passing.apart (sym (ap (λ (c : ChanId). c.number) same)) in
    let order : bytes_of (s.net.traffic s.sink.channel).went ++ []
    ≡ heard_by s.source.peer (s.net.traffic s.source.channel).came =
    ap (λ (o : Option (List ℕ)). bytes_of (s.net.traffic s.sink.channel).went ++ option_to_list o) (sym empty)
    ∙ passing.passes.order in
    record {
      source = passing.source;
      sink = passing.sink;
      apart = passing.apart;
      source_stands = subst IsBound (sym (receives.places s.source.channel)) passing.source_stands;
      sink_stands = subst IsBound (sym (receives.places s.sink.channel)) passing.sink_stands;
      passes = rw (told, empty, receives.traffic, receives.traffic_else s.sink.channel other) (record {
        order = order_after made s.source.peer filled (s.net.traffic s.source.channel)
            (s.net.traffic s.sink.channel).went passing.passes.unheard order;
        unheard = unheard_after made s.source.peer filled (s.net.traffic s.source.channel) passing.passes.unheard;
        sent_to = passing.passes.sent_to;
        count = passing.passes.count;
      });
    }

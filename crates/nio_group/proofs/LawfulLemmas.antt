-- What keeps a group lawful.
use Rattle.std.proofs.Common.{◌≡◌, ◌≢◌, ℕ, ◌<◌, ◌≤◌, true, eqb, List, [], ◌∷◌, ◌++◌, get_or, set, length, sym, ap, ◌∙◌}
use Rattle.std.proofs.Common.{subst, arith, get_or-set_same, get_or-set_other, false, Option, Some, None, refl}
use Rattle.std.proofs.lemmas.Bool.{false≢true, eqb-true, eqb-false}
use Rattle.std.proofs.lemmas.List.{get_or_append_left, length-set, length_push}
use Rattle.nio_group.specs.declared.channel.Channel.{Channel}
use Rattle.nio_group.specs.declared.channel.Endpoint.TheVariants.{Stream}
use Rattle.nio_group.specs.declared.channel.Link.TheVariants.{Connecting}
use Rattle.nio_base.specs.declared.group.OpKind.{OpKind}
use Rattle.nio_base.specs.declared.group.OpKind.TheVariants.{Connect}
use Rattle.nio_group.specs.Flight.{Flight, accepted, in_flight, IsPendingAs, op_at}
use Rattle.nio_group.specs.Group.{Group, IsLawful, no_channel, is_ready_for, channel_at}
use Rattle.nio_group.proofs.TableLemmas.{by_test}
use Rattle.nio_group.proofs.ListLemmas.{get_or-push, within-where}
use Rattle.nio_group.proofs.QueueLemmas.{QueueHolds}
use Rattle.nio_group.proofs.NameLemmas.{AreOfChannels, of-channels, of-channel_made}
use Rattle.nio_group.proofs.PendingLemmas.{pending-own}
use Rattle.nio_group.specs.Stages.{is_pending}
use Rattle.nio_group.specs.declared.operation.Operation.{Operation}

-- what a change of the operations keeps, whatever channel they stand on
pub record IsFlightLawful (f : Flight) (op_limit : ℕ) : Type 0 where
  pub queued_once : QueueHolds f.operations f.queue
  pub few_in_flight : in_flight f ≤ f.limit
  pub few_accepted : accepted f ≤ op_limit

pub flight-lawful : (g : Group) → IsLawful g → IsFlightLawful g.flight g.op_limit
flight-lawful g lawful =
    record {
      queued_once = lawful.queued_once;
      few_in_flight = lawful.few_in_flight;
      few_accepted = lawful.few_accepted;
    }

-- only operations change: no more are pending, and those that connect stay
pub lawful-operations : (g : Group) (f : Flight) → IsLawful g → IsFlightLawful f g.op_limit
    → AreOfChannels f.operations g.channels
    → ((c : ℕ) (kind : OpKind) (n : ℕ) → IsPendingAs f c kind n → IsPendingAs g.flight c kind n)
    → ((c n : ℕ) → IsPendingAs g.flight c Connect n → IsPendingAs f c Connect n)
    → IsLawful (record g { flight = f })
lawful-operations g f lawful flight of less stay =
    record {
      queued_once = flight.queued_once;
      made = of.made;
      present = of.present;
      pending_open = λ n c kind h. lawful.pending_open n c kind (less c kind n h);
      pending_ready = λ n c kind h. lawful.pending_ready n c kind (less c kind n h);
      one_each = λ m n c kind a b. lawful.one_each m n c kind (less c kind m a) (less c kind n b);
      connecting = λ c is_open is. let there = lawful.connecting c is_open is in (there.0, stay c there.0 there.1);
      few_in_flight = flight.few_in_flight;
      few_channels = lawful.few_channels;
      few_accepted = flight.few_accepted;
    }

-- an open channel is one of the list's
pub open-within : (cs : List Channel) (c : ℕ) → (get_or cs c no_channel).is_open ≡ true → c < length cs
open-within cs c is_open = within-where (λ (ch : Channel). ch.is_open) cs c no_channel refl is_open

-- where every channel is closed nothing is pending
pub nothing-pending : (g : Group) → IsLawful g → ((c : ℕ) → (channel_at g c).is_open ≡ false) → (n : ℕ)
    → is_pending (op_at g.flight n) ≡ false
nothing-pending g lawful closed n = by_slot (op_at g.flight n) refl
  where
    by_slot : (slot : Option Operation) → op_at g.flight n ≡ slot → is_pending slot ≡ false
    by_slot None is = refl
    by_slot (Some op) is =
        by_test (is_pending (Some op))
        (λ t. absurd
        (false≢true (sym (closed op.chan.number) ∙ lawful.pending_open n op.chan.number op.kind (rw is (pending-own op t)))))
        (λ f. f)

-- one more channel is made, which isn't connecting
pub lawful-channel_made : (g : Group) (ch : Channel) → IsLawful g → length g.channels < g.channel_limit
    → (ch.endpoint ≡ Stream Connecting → ⊥) → IsLawful (record g { channels = g.channels ++ ch ∷ [] })
lawful-channel_made g ch lawful room not_connecting =
    let of = of-channel_made g.flight.operations g.channels ch (of-channels g lawful) in
    record {
      queued_once = lawful.queued_once;
      made = of.made;
      present = of.present;
      pending_open = λ n c kind h. let was = lawful.pending_open n c kind h in rw (stays c was) was;
      pending_ready = λ n c kind h. let was = lawful.pending_open n c kind h in
          rw (stays c was) (lawful.pending_ready n c kind h);
      one_each = lawful.one_each;
      connecting = λ c is_open is.
          by_test (eqb c (length g.channels))
          (λ t. let has = rw t at (get_or-push g.channels ch no_channel c) in
          absurd (not_connecting (sym (ap (λ (x : Channel). x.endpoint) has) ∙ is)))
          (λ f. let has = rw f at (get_or-push g.channels ch no_channel c) in
          lawful.connecting c (sym (ap (λ (x : Channel). x.is_open) has) ∙ is_open)
          (sym (ap (λ (x : Channel). x.endpoint) has) ∙ is));
      few_in_flight = lawful.few_in_flight;
      few_channels = omega (arith, length_push g.channels ch);
      few_accepted = lawful.few_accepted;
    }
  where
    stays : (c : ℕ) → (get_or g.channels c no_channel).is_open ≡ true
        → get_or (g.channels ++ ch ∷ []) c no_channel ≡ get_or g.channels c no_channel
    stays c is_open = get_or_append_left g.channels (ch ∷ []) no_channel c (open-within g.channels c is_open)

-- what is known of the operations that are pending on a channel that changes
pub record IsFitFor (f : Flight) (c : ℕ) (ch : Channel) : Type 0 where
  pub open_for : (kind : OpKind) (n : ℕ) → IsPendingAs f c kind n → ch.is_open ≡ true
  pub ready_for : (kind : OpKind) (n : ℕ) → IsPendingAs f c kind n → is_ready_for ch.endpoint kind ≡ true
  pub once_for : (kind : OpKind) (m n : ℕ) → IsPendingAs f c kind m → IsPendingAs f c kind n → m ≡ n
  pub connects : ch.is_open ≡ true → ch.endpoint ≡ Stream Connecting → (n : ℕ) × IsPendingAs f c Connect n

-- one channel changes, and what is pending on it
pub lawful-channel : (g : Group) (f : Flight) (c : ℕ) (ch : Channel) → IsLawful g → c < length g.channels
    → IsFlightLawful f g.op_limit → AreOfChannels f.operations (set g.channels c ch) → IsFitFor f c ch
    → ((d : ℕ) (kind : OpKind) (n : ℕ) → d ≢ c → IsPendingAs f d kind n → IsPendingAs g.flight d kind n)
    → ((d n : ℕ) → d ≢ c → IsPendingAs g.flight d Connect n → IsPendingAs f d Connect n)
    → IsLawful (record g { flight = f; channels = set g.channels c ch })
lawful-channel g f c ch lawful l flight of own less stay =
    record {
      queued_once = flight.queued_once;
      made = of.made;
      present = of.present;
      pending_open = λ n d kind h.
          by_test (eqb d c)
          (λ t. let same = eqb-true d c t in
          rw (here d same) (own.open_for kind n (subst (λ (e : ℕ). IsPendingAs f e kind n) same h)))
          (λ e. let differ = eqb-false d c e in
          rw (there d differ) (lawful.pending_open n d kind (less d kind n differ h)));
      pending_ready = λ n d kind h.
          by_test (eqb d c)
          (λ t. let same = eqb-true d c t in
          rw (here d same) (own.ready_for kind n (subst (λ (e : ℕ). IsPendingAs f e kind n) same h)))
          (λ e. let differ = eqb-false d c e in
          rw (there d differ) (lawful.pending_ready n d kind (less d kind n differ h)));
      one_each = λ m n d kind a b.
          by_test (eqb d c)
          (λ t. let same = eqb-true d c t in
          own.once_for kind m n (subst (λ (e : ℕ). IsPendingAs f e kind m) same a)
          (subst (λ (e : ℕ). IsPendingAs f e kind n) same b))
          (λ e. let differ = eqb-false d c e in
          lawful.one_each m n d kind (less d kind m differ a) (less d kind n differ b));
      connecting = λ d is_open is.
          by_test (eqb d c)
          (λ t. let same = eqb-true d c t in
          let found = own.connects (rw (here d same) at is_open) (rw (here d same) at is) in
          (found.0, subst (λ (e : ℕ). IsPendingAs f e Connect found.0) (sym same) found.1))
          (λ e. let differ = eqb-false d c e in
          let found = lawful.connecting d (rw (there d differ) at is_open) (rw (there d differ) at is) in
          (found.0, stay d found.0 differ found.1));
      few_in_flight = flight.few_in_flight;
      few_channels = let few = lawful.few_channels in omega (arith, length-set g.channels c ch);
      few_accepted = flight.few_accepted;
    }
  where
    here : (d : ℕ) → d ≡ c → get_or (set g.channels c ch) d no_channel ≡ ch
    here d same =
        subst (λ (e : ℕ). get_or (set g.channels c ch) e no_channel ≡ ch) (sym same)
        (get_or-set_same g.channels c ch no_channel l)

    there : (d : ℕ) → d ≢ c → get_or (set g.channels c ch) d no_channel ≡ get_or g.channels d no_channel
    there d differ = get_or-set_other g.channels c d ch no_channel differ

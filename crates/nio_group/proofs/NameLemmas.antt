-- Which channels the operations in flight are of, and how many are of each.
use Rattle.std.proofs.Common.{◌≡◌, ◌≢◌, ℕ, ◌+◌, ◌<◌, ◌≤◌, Bool, true, false, cond, eqb, ◌&&◌, List, [], ◌∷◌, ◌++◌}
use Rattle.std.proofs.Common.{suc, Option, Some, None, is_some, count_by, get_or, set, map, length, refl, sym, ap, ◌∙◌, subst, arith}
use Rattle.std.proofs.Common.{◌⊎◌, inl, inr, get_or-set_same, get_or-set_other}
use Rattle.std.proofs.lemmas.Bool.{false≢true, eqb-true, eqb-false, and_parts, ne_eqb}
use Rattle.std.proofs.lemmas.List.{get_or_append_left, get_or_past, length-set, length_push}
use Rattle.std.proofs.lemmas.Option.{none-some, same_Some}
use Rattle.std.proofs.Math.ListN.{get_or-map}
use Rattle.nio_base.specs.declared.numbers.GChan.{GChan}
use Rattle.nio_group.specs.declared.channel.Channel.{Channel}
use Rattle.nio_group.specs.declared.operation.Operation.{Operation}
use Rattle.nio_group.specs.declared.pending.Pending as slots
use Rattle.nio_group.specs.Flight.{Flight, op_at, closed_on, in_flight_on}
use Rattle.nio_group.specs.Group.{Group, IsLawful, no_channel}
use Rattle.nio_group.specs.GroupKept.{AreCounted}
use Rattle.nio_group.specs.Pending.{nothing_pending}
use Rattle.nio_group.specs.Stages.{is_on, is_pending, is_pending_on, stage_is_pending}
use Rattle.nio_group.proofs.IndexLemmas.{count_by-cons}
use Rattle.nio_group.proofs.ListLemmas.{eqb-same, get_or-push, get_or-set}
use Rattle.nio_group.proofs.TableLemmas.{by_test, count_by-set}

-- each operation in flight is of a channel that was made, and a pending one of the channel that its number has
pub record AreOfChannels (xs : List (Option Operation)) (cs : List Channel) : Type 0 where
  pub made : (n : ℕ) (op : Operation) → get_or xs n None ≡ Some op
      → (op.chan.number < length cs) × (op.chan.serial ≤ (get_or cs op.chan.number no_channel).serial)
  pub present : (n : ℕ) (op : Operation) → get_or xs n None ≡ Some op → stage_is_pending op.stage ≡ true
      → eqb (get_or cs op.chan.number no_channel).serial op.chan.serial ≡ true

pub of-channels : (g : Group) → IsLawful g → AreOfChannels g.flight.operations g.channels
of-channels g lawful = record { made = lawful.made; present = lawful.present }

-- ---- changes of operations

-- an operation that isn't pending, of the channel of the one whose place it takes
abbrev pub KeepsChan : Option Operation → Option Operation → Type 0
KeepsChan old None = Unit {0}
KeepsChan old (Some new) =
    (op : Operation) × (old ≡ Some op) × (new.chan ≡ op.chan) × (stage_is_pending new.stage ≡ false)

pub of-changed : (xs ys : List (Option Operation)) (cs : List Channel)
    → ((n : ℕ) → (get_or ys n None ≡ get_or xs n None) ⊎ KeepsChan (get_or xs n None) (get_or ys n None))
    → AreOfChannels xs cs → AreOfChannels ys cs
of-changed xs ys cs changes of =
    record {
      made = λ n op is.
          elim (changes n) [
            | inl same ↦ of.made n op (sym same ∙ is)
            | inr keeps ↦
                let old : KeepsChan (get_or xs n None) (Some op) = subst (KeepsChan (get_or xs n None)) is keeps in
                subst (λ (chan : GChan). (chan.number < length cs)
                × (chan.serial ≤ (get_or cs chan.number no_channel).serial)) (sym old.2) (of.made n old.0 old.1)
          ];
      present = λ n op is pending.
          elim (changes n) [
            | inl same ↦ of.present n op (sym same ∙ is) pending
            | inr keeps ↦
                let old : KeepsChan (get_or xs n None) (Some op) = subst (KeepsChan (get_or xs n None)) is keeps in
                absurd (false≢true (sym old.3 ∙ pending))
          ];
    }

pub of-set : (xs : List (Option Operation)) (cs : List Channel) (i : ℕ) (slot : Option Operation) → i < length xs
    → KeepsChan (get_or xs i None) slot → AreOfChannels xs cs → AreOfChannels (set xs i slot) cs
of-set xs cs i slot l keeps =
    of-changed xs (set xs i slot) cs
    (λ n.
    by_test (eqb n i)
    (λ t. let same = eqb-true n i t in
    inr (subst (λ (k : ℕ). KeepsChan (get_or xs k None) (get_or (set xs i slot) k None)) (sym same)
    (subst (KeepsChan (get_or xs i None)) (sym (get_or-set_same xs i slot None l)) keeps)))
    (λ e. inl (get_or-set_other xs i n slot None (eqb-false n i e))))

closed-keeps : (c : ℕ) (slot : Option Operation) → (closed_on c slot ≡ slot) ⊎ KeepsChan slot (closed_on c slot)
closed-keeps c None = inl refl
closed-keeps c (Some op) =
    by_test (is_pending_on c (Some op)) (λ t. rw t (inr (op, refl, refl, refl))) (λ f. rw f (inl refl))

pub of-closed : (c : ℕ) (xs : List (Option Operation)) (cs : List Channel) → AreOfChannels xs cs
    → AreOfChannels (map (closed_on c) xs) cs
of-closed c xs cs =
    of-changed xs (map (closed_on c) xs) cs
    (λ n. rw (get_or-map (closed_on c) xs n None) (closed-keeps c (get_or xs n None)))

pub of-pushed : (xs : List (Option Operation)) (cs : List Channel) (op : Operation)
    → (op.chan.number < length cs) × (op.chan.serial ≤ (get_or cs op.chan.number no_channel).serial)
    → (stage_is_pending op.stage ≡ true → eqb (get_or cs op.chan.number no_channel).serial op.chan.serial ≡ true)
    → AreOfChannels xs cs → AreOfChannels (xs ++ Some op ∷ []) cs
of-pushed xs cs op made present of =
    record {
      made = λ n op' is.
          by_test (eqb n (length xs))
          (λ t.
          let same = same_Some op op' (sym (rw t at (get_or-push xs (Some op) None n)) ∙ is) in
          subst (λ (o : Operation). (o.chan.number < length cs)
          × (o.chan.serial ≤ (get_or cs o.chan.number no_channel).serial)) same made)
          (λ f. of.made n op' (sym (rw f at (get_or-push xs (Some op) None n)) ∙ is));
      present = λ n op' is.
          by_test (eqb n (length xs))
          (λ t.
          let same = same_Some op op' (sym (rw t at (get_or-push xs (Some op) None n)) ∙ is) in
          subst (λ (o : Operation). stage_is_pending o.stage ≡ true
          → eqb (get_or cs o.chan.number no_channel).serial o.chan.serial ≡ true) same present)
          (λ f. of.present n op' (sym (rw f at (get_or-push xs (Some op) None n)) ∙ is));
    }

-- ---- changes of channels

-- where the channel that has a number changes, its serial grows at most, and not while an operation of it is pending
pub of-channel : (xs : List (Option Operation)) (cs : List Channel) (c : ℕ) (ch : Channel) → c < length cs
    → (get_or cs c no_channel).serial ≤ ch.serial
    → ((n : ℕ) (op : Operation) → get_or xs n None ≡ Some op → stage_is_pending op.stage ≡ true → op.chan.number ≡ c
    → ch.serial ≡ (get_or cs c no_channel).serial)
    → AreOfChannels xs cs → AreOfChannels xs (set cs c ch)
of-channel xs cs c ch l grows stays of =
    record {
      made = λ n op is.
          let was = of.made n op is in
          let has = get_or-set cs c ch no_channel op.chan.number l in
          by_test (eqb op.chan.number c)
          (λ t.
          let same = eqb-true op.chan.number c t in
          let put : get_or (set cs c ch) op.chan.number no_channel ≡ ch = rw t at has in
          let there = subst (λ (k : ℕ). op.chan.serial ≤ (get_or cs k no_channel).serial) same was.1 in
          (omega (arith, length-set cs c ch, was.0), rw put (omega arith)))
          (λ f. let put : get_or (set cs c ch) op.chan.number no_channel
          ≡ get_or cs op.chan.number no_channel = rw f at has in
          (omega (arith, length-set cs c ch, was.0), rw put was.1));
      present = λ n op is pending.
          let was = of.present n op is pending in
          let has = get_or-set cs c ch no_channel op.chan.number l in
          by_test (eqb op.chan.number c)
          (λ t.
          let same = eqb-true op.chan.number c t in
          let put : get_or (set cs c ch) op.chan.number no_channel ≡ ch = rw t at has in
          let there = subst (λ (k : ℕ). eqb (get_or cs k no_channel).serial op.chan.serial ≡ true) same was in
          rw (put, stays n op is pending same) there)
          (λ f. let put : get_or (set cs c ch) op.chan.number no_channel
          ≡ get_or cs op.chan.number no_channel = rw f at has in
          rw put was);
    }

pub of-channel_made : (xs : List (Option Operation)) (cs : List Channel) (ch : Channel) → AreOfChannels xs cs
    → AreOfChannels xs (cs ++ ch ∷ [])
of-channel_made xs cs ch of =
    record {
      made = λ n op is.
          let was = of.made n op is in
          let has = get_or_append_left cs (ch ∷ []) no_channel op.chan.number was.0 in
          (omega (arith, length_push cs ch, was.0), rw has was.1);
      present = λ n op is pending.
          rw (get_or_append_left cs (ch ∷ []) no_channel op.chan.number (of.made n op is).0) (of.present n op is pending);
    }

-- ---- how many operations of each channel are in flight

-- the name of the channel that a number has
abbrev pub name_in : List Channel → ℕ → GChan
name_in cs c = record { number = c; serial = (get_or cs c no_channel).serial }

-- another operation of the same channel is counted as the one whose place it takes
pub count-same : (chan : GChan) (xs : List (Option Operation)) (i : ℕ) (slot : Option Operation) → i < length xs
    → is_on chan slot ≡ is_on chan (get_or xs i None) → count_by (is_on chan) (set xs i slot) ≡ count_by (is_on chan) xs
count-same chan xs i slot l same =
    let counts = rw same at (count_by-set (is_on chan) xs i slot None l) in
    omega (arith, counts)

on-closed : (chan : GChan) (c : ℕ) (slot : Option Operation) → is_on chan (closed_on c slot) ≡ is_on chan slot
on-closed chan c None = refl
on-closed chan c (Some op) = by_test (is_pending_on c (Some op)) (λ t. rw t refl) (λ f. rw f refl)

pub count-closed_on : (chan : GChan) (c : ℕ) (xs : List (Option Operation))
    → count_by (is_on chan) (map (closed_on c) xs) ≡ count_by (is_on chan) xs
count-closed_on chan c [] = refl
count-closed_on chan c (x ∷ xs) =
    let bits : cond {A = ℕ} (is_on chan (closed_on c x)) 1 0 ≡ cond {A = ℕ} (is_on chan x) 1 0 = ap {B = ℕ}
    (λ (b : Bool). cond b 1 0) (on-closed chan c x) in
    omega (
      arith,
      count_by-cons (is_on chan) (closed_on c x) (map (closed_on c) xs),
      count_by-cons (is_on chan) x xs,
      bits,
      count-closed_on chan c xs,
    )

-- no operation is counted of a channel that none is of
pub count-none : (chan : GChan) (xs : List (Option Operation))
    → ((n : ℕ) (op : Operation) → get_or xs n None ≡ Some op → is_on chan (Some op) ≡ true → ⊥)
    → count_by (is_on chan) xs ≡ 0
count-none chan [] none = refl
count-none chan (None ∷ xs) none =
    omega (arith, count_by-cons (is_on chan) None xs, count-none chan xs (λ n. none (suc n)))
count-none chan (Some op ∷ xs) none =
    by_test (is_on chan (Some op))
    (λ t. absurd (none 0 op refl t))
    (λ f.
    let bit : cond {A = ℕ} (is_on chan (Some op)) 1 0 ≡ 0 = ap {B = ℕ} (λ (b : Bool). cond b 1 0) f in
    omega (arith, count_by-cons (is_on chan) (Some op) xs, bit, count-none chan xs (λ n. none (suc n))))

-- no more operations are counted of one channel than are in flight
pub count-few : (chan : GChan) (xs : List (Option Operation)) → count_by (is_on chan) xs ≤ count_by is_some xs
count-few chan [] = omega arith
count-few chan (None ∷ xs) =
    omega (arith, count_by-cons (is_on chan) None xs, count_by-cons is_some None xs, count-few chan xs)
count-few chan (Some op ∷ xs) =
    by_test (is_on chan (Some op))
    (λ t.
    let bit : cond {A = ℕ} (is_on chan (Some op)) 1 0 ≡ 1 = ap {B = ℕ} (λ (b : Bool). cond b 1 0) t in
    omega (arith, count_by-cons (is_on chan) (Some op) xs, count_by-cons is_some (Some op) xs, bit, count-few chan xs))
    (λ f.
    let bit : cond {A = ℕ} (is_on chan (Some op)) 1 0 ≡ 0 = ap {B = ℕ} (λ (b : Bool). cond b 1 0) f in
    omega (arith, count_by-cons (is_on chan) (Some op) xs, count_by-cons is_some (Some op) xs, bit, count-few chan xs))

-- an operation that is of a channel is counted
pub count-some : (chan : GChan) (xs : List (Option Operation)) (i : ℕ) → i < length xs
    → is_on chan (get_or xs i None) ≡ true → 1 ≤ count_by (is_on chan) xs
count-some chan xs i l is =
    let counts = rw is at (count_by-set (is_on chan) xs i None None l) in
    omega (arith, counts)

pub on-parts : (chan : GChan) (op : Operation) → is_on chan (Some op) ≡ true
    → (chan.number ≡ op.chan.number) × (chan.serial ≡ op.chan.serial)
on-parts chan op is =
    let parts = and_parts (eqb chan.number op.chan.number) (eqb chan.serial op.chan.serial) is in
    (eqb-true chan.number op.chan.number parts.0, eqb-true chan.serial op.chan.serial parts.1)

-- whether an operation is of the channel that a number has
pub on-other : (cs : List Channel) (d : ℕ) (op : Operation) → d ≢ op.chan.number
    → is_on (name_in cs d) (Some op) ≡ false
on-other cs d op differ = rw (ne_eqb d op.chan.number differ) refl

pub on-own : (cs : List Channel) (op : Operation) → is_on (name_in cs op.chan.number) (Some op)
    ≡ eqb (get_or cs op.chan.number no_channel).serial op.chan.serial
on-own cs op = rw (eqb-same op.chan.number) refl

-- the names of channels, where one changes and keeps its serial
pub name-set : (cs : List Channel) (c : ℕ) (ch : Channel) (d : ℕ) → c < length cs
    → ch.serial ≡ (get_or cs c no_channel).serial → name_in (set cs c ch) d ≡ name_in cs d
name-set cs c ch d l same =
    let has = get_or-set cs c ch no_channel d l in
    by_test (eqb d c)
    (λ t.
    let put : get_or (set cs c ch) d no_channel ≡ ch = rw t at has in
    let was : (get_or cs d no_channel).serial ≡ (get_or cs c no_channel).serial = ap
    (λ (k : ℕ). (get_or cs k no_channel).serial) (eqb-true d c t) in
    ap (λ (s : ℕ). record { number = d; serial = s }) (ap (λ (x : Channel). x.serial) put ∙ same ∙ sym was))
    (λ f.
    let put : get_or (set cs c ch) d no_channel ≡ get_or cs d no_channel = rw f at has in
    ap (λ (x : Channel). record { number = d; serial = x.serial }) put)

pub name-other : (cs : List Channel) (c : ℕ) (ch : Channel) (d : ℕ) → d ≢ c
    → name_in (set cs c ch) d ≡ name_in cs d
name-other cs c ch d differ =
    ap (λ (x : Channel). record { number = d; serial = x.serial }) (get_or-set_other cs c d ch no_channel differ)

-- where a first channel is made with a number
pub name-push : (cs : List Channel) (ch : Channel) (d : ℕ) → ch.serial ≡ 0 → name_in (cs ++ ch ∷ []) d ≡ name_in cs d
name-push cs ch d first =
    by_test (eqb d (length cs))
    (λ t.
    let put : get_or (cs ++ ch ∷ []) d no_channel ≡ ch = rw t at (get_or-push cs ch no_channel d) in
    let same = eqb-true d (length cs) t in
    let was : get_or cs d no_channel ≡ no_channel = get_or_past cs d no_channel (omega arith) in
    ap (λ (s : ℕ). record { number = d; serial = s })
    (ap (λ (x : Channel). x.serial) put ∙ first ∙ sym (ap (λ (x : Channel). x.serial) was)))
    (λ f.
    let put : get_or (cs ++ ch ∷ []) d no_channel ≡ get_or cs d no_channel = rw f at (get_or-push cs ch no_channel d) in
    ap (λ (x : Channel). record { number = d; serial = x.serial }) put)

-- as many operations of each channel are in flight as before
pub counted-same : (f f' : Flight) (cs cs' : List Channel) (ps : List slots.Pending)
    → ((c : ℕ) → in_flight_on f' (name_in cs' c) ≡ in_flight_on f (name_in cs c)) → AreCounted f cs ps
    → AreCounted f' cs' ps
counted-same f f' cs cs' ps same counted c = counted c ∙ sym (same c)

-- what is kept of one channel changes
pub counted-channel : (f f' : Flight) (cs cs' : List Channel) (ps : List slots.Pending) (c : ℕ) (p : slots.Pending)
    → c < length ps → ((d : ℕ) → d ≢ c → in_flight_on f' (name_in cs' d) ≡ in_flight_on f (name_in cs d))
    → p.in_flight ≡ in_flight_on f' (name_in cs' c) → AreCounted f cs ps → AreCounted f' cs' (set ps c p)
counted-channel f f' cs cs' ps c p l others own counted d =
    let has = get_or-set ps c p nothing_pending d l in
    by_test (eqb d c)
    (λ t.
    let same = eqb-true d c t in
    ap (λ (q : slots.Pending). q.in_flight) (rw t at has)
    ∙ own
    ∙ ap (λ (k : ℕ). in_flight_on f' (name_in cs' k)) (sym same))
    (λ e.
    ap (λ (q : slots.Pending). q.in_flight) (rw e at has)
    ∙ counted d
    ∙ sym (others d (eqb-false d c e)))

-- the same, where as many operations of each channel are in flight
pub counted-slots : (f f' : Flight) (cs cs' : List Channel) (ps : List slots.Pending) (c : ℕ) (p : slots.Pending)
    → c < length ps → ((d : ℕ) → in_flight_on f' (name_in cs' d) ≡ in_flight_on f (name_in cs d))
    → p.in_flight ≡ (get_or ps c nothing_pending).in_flight → AreCounted f cs ps → AreCounted f' cs' (set ps c p)
counted-slots f f' cs cs' ps c p l same stays counted =
    counted-channel f f' cs cs' ps c p l (λ d differ. same d) (stays ∙ counted c ∙ sym (same c)) counted

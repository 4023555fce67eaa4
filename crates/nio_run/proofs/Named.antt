-- The command that the words say.
use Rattle.std.proofs.Common.{◌≡◌, ◌≢◌, ◌⊎◌, inl, inr, ℕ, Option, Some, None, List, [], ◌∷◌, Result, Ok, Err}
use Rattle.std.proofs.Common.{slice_index_or, refl, sym, ap, ◌∙◌, ◌≤◌, arith}
use Rattle.nio_command.specs.Options.{Text}
use Rattle.nio_command.specs.Words.{AsksForWay, AsksForWorkers, BeginsPackets, BeginsProxy, HasOptions}
use Rattle.nio_command.specs.Words.{IsInRange, IsPacketsCommand}
use Rattle.nio_command.specs.Words.{IsProxyCommand}
use Rattle.nio_relay.specs.declared.plan.PacketPlan.{PacketPlan}
use Rattle.nio_command.specs.declared.command.Command.{Command}
use Rattle.nio_command.specs.declared.command.Command.TheVariants.{Load, Packets, Proxy}
use Rattle.nio_command.specs.declared.command.WordsError.{WordsError}
use Rattle.nio_command.specs.declared.command.WordsError.TheVariants.{Usage, Memory}
use Rattle.nio_command.specs.declared.way.ProxyWay.{ProxyWay}
use Rattle.nio_command.specs.declared.way.ProxyWay.TheVariants.{Select, Group, Future, Many}
use Rattle.nio_bytes.specs.declared.source.Source as source
use Rattle.nio_jobs.specs.Plans.{HasSlotForEach}
use Rattle.nio_relay.specs.Plan.{IsServable}
use Rattle.nio_relay.specs.declared.plan.ProxyPlan.{ProxyPlan}
use Rattle.nio_script.specs.Input.{StopsPastLongest}
use Rattle.nio_script.specs.declared.status.Status.{Status}
use Rattle.nio_script.specs.declared.status.Status.TheVariants.{TooLong}
use Rattle.std.specs.Io.KnownBytes.{prepend_known}
use Rattle.nio_run.specs.Proxy.{HasOneNet, HasWorkers, IsServableBy}

abbrev first_byte : List (List ℕ) → ℕ
first_byte words = slice_index_or (slice_index_or words 0 []) 0 0

-- words whose first begins with another byte than `p` (112) have no options
pub without_options : (words : List (List ℕ)) (a : ℕ) (xs : List ℕ) (rest : List (List ℕ)) → words ≡ (a ∷ xs) ∷ rest
    → (a ≡ 112 → ⊥) → HasOptions words → ⊥
without_options words a xs rest is other (inl begins) = other (ap first_byte (sym is ∙ begins.begins))
without_options words a xs rest is other (inr begins) = other (ap first_byte (sym is ∙ begins.begins))

pub or_memory : (r : Result Command WordsError) (command : Command) → (r ≢ Err Memory → r ≡ Ok command)
    → (r ≡ Ok command) ⊎ (r ≡ Err Memory)
or_memory (Ok x) command is = inl (is (λ e. cc e))
or_memory (Err Usage) command is = inl (is (λ e. cc e))
or_memory (Err Memory) command is = inr refl

-- the plan of a command is the one that the words say
pub its_plan : (x : Command) (p p' : ProxyPlan) (w w' : ProxyWay) → x ≡ Proxy p w
    → (◌≡◌ {A = Result Command WordsError} (Ok x) (Ok (Proxy p' w')))
    ⊎ (◌≡◌ {A = Result Command WordsError} (Ok x) (Err Memory)) → p ≡ p'
its_plan x p p' w w' is (inl same) = let e : ◌≡◌ {A = Result Command WordsError} (Ok (Proxy p w)) (Ok (Proxy p' w')) =
    ap (λ (y : Command). Ok y) (sym is) ∙ same in cc e
its_plan x p p' w w' is (inr clash) = absurd (cc clash)

pub its_command : (x y : Command)
    → (◌≡◌ {A = Result Command WordsError} (Ok x) (Ok y)) ⊎ (◌≡◌ {A = Result Command WordsError} (Ok x) (Err Memory))
    → x ≡ y
its_command x y (inl same) = cc same
its_command x y (inr clash) = absurd (cc clash)

-- and so is its way
pub its_way : (x : Command) (p p' : ProxyPlan) (w w' : ProxyWay) → x ≡ Proxy p w
    → (◌≡◌ {A = Result Command WordsError} (Ok x) (Ok (Proxy p' w')))
    ⊎ (◌≡◌ {A = Result Command WordsError} (Ok x) (Err Memory)) → w ≡ w'
its_way x p p' w w' is (inl same) = let e : ◌≡◌ {A = Result Command WordsError} (Ok (Proxy p w)) (Ok (Proxy p' w')) =
    ap (λ (y : Command). Ok y) (sym is) ∙ same in cc e
its_way x p p' w w' is (inr clash) = absurd (cc clash)

-- where the words don't ask for a net for each worker, the way has one net
pub not_many : (words : List (List ℕ)) (x : Command) (p : ProxyPlan) (w : ProxyWay) → x ≡ Proxy p w
    → ((q : ProxyPlan) (v : ProxyWay) → ◌≡◌ {A = Result Command WordsError} (Ok x) (Ok (Proxy q v))
    → IsProxyCommand words q v)
    → ((q : ProxyPlan) (workers : ℕ) → IsProxyCommand words q (Many workers) → ⊥) → HasOneNet w
not_many words x p Select is says none = tt
not_many words x p (Group count) is says none = tt
not_many words x p Future is says none = tt
not_many words x p (Many workers) is says none =
    none p workers (says p (Many workers) (ap (λ (y : Command). Ok y) is))

-- the plan that the words say can be served
pub its_servable : (words : List (List ℕ)) (p : ProxyPlan) (w : ProxyWay) → IsProxyCommand words p w
    → IsServableBy w p × HasWorkers w
its_servable words p w says = (by_plan w says.asks.in_range, by_way w says.asks.by_way)
  where
    by_range : (v : ProxyWay) → IsInRange p v → p.conns ≤ 4294967295 → IsServable p
    by_range v h few = record {
      some_connections = h.some_connections;
      few_connections = few;
      some_at_once = omega (arith, h.at_once);
      few_at_once = omega (arith, h.at_once);
    }

    by_slots : (v : ProxyWay) → IsInRange p v → p.conns ≤ 16000 → HasSlotForEach p
    by_slots v h few = record {
      servable = by_range v h (omega (arith, few));
      each = omega (arith, few, h.at_once);
    }

    by_plan : (v : ProxyWay) → IsInRange p v → IsServableBy v p
    by_plan Select h = by_range Select h h.few_connections
    by_plan (Group count) h = by_slots (Group count) h h.few_connections
    by_plan Future h = by_slots Future h h.few_connections
    by_plan (Many count) h = by_range (Many count) h h.few_connections

    by_workers : (most : ℕ) (o : Option Text) (count : ℕ) → 4 ≤ most → AsksForWorkers most o count
        → (1 ≤ count) × (count ≤ most)
    by_workers most None count four h = (omega (arith, h), omega (arith, h, four))
    by_workers most (Some text) count four h = (h.0, h.1)

    by_way : (w : ProxyWay) → AsksForWay says.values.way says.values.workers w → HasWorkers w
    by_way Select h = tt
    by_way (Group count) h = by_workers 64 says.values.workers count (omega arith) h.1
    by_way Future h = tt
    by_way (Many count) h = by_workers 15 says.values.workers count (omega arith) h.1

-- the rounds of a command are those that the words say
pub its_rounds : (x : Command) (n m : ℕ) → x ≡ Load n → ◌≡◌ {A = Result Command WordsError} (Ok x) (Ok (Load m)) → n ≡ m
its_rounds x n m is same = let e : ◌≡◌ {A = Result Command WordsError} (Ok (Load n)) (Ok (Load m)) =
    ap (λ (y : Command). Ok y) (sym is) ∙ same in cc e

-- the words of a plan begin with `proxy`
pub begins_proxy : (words : List (List ℕ)) (x : Command) (p : ProxyPlan) (w : ProxyWay) → x ≡ Proxy p w
    → ((q : ProxyPlan) (v : ProxyWay) → ◌≡◌ {A = Result Command WordsError} (Ok x) (Ok (Proxy q v))
    → IsProxyCommand words q v)
    → BeginsProxy words
begins_proxy words x p w is says = let it : IsProxyCommand words p w = says p w (ap (λ (y : Command). Ok y) is) in
    record { rest = it.rest; begins = it.begins }

-- the way of a command has workers
pub its_workers : (x : Command) (p : ProxyPlan) (w : ProxyWay) → x ≡ Proxy p w
    → ((q : ProxyPlan) (v : ProxyWay) → ◌≡◌ {A = Result Command WordsError} (Ok x) (Ok (Proxy q v))
    → IsServableBy v q × HasWorkers v)
    → HasWorkers w
its_workers x p w is says = (says p w (ap (λ (y : Command). Ok y) is)).1

-- words that say nothing are no `proxy`
pub no_plan : (x : WordsError) (p : ProxyPlan) (w : ProxyWay) → x ≡ Usage
    → (◌≡◌ {A = Result Command WordsError} (Err x) (Ok (Proxy p w)))
    ⊎ (◌≡◌ {A = Result Command WordsError} (Err x) (Err Memory)) → ⊥
no_plan x p w is (inl clash) = absurd (cc clash)
no_plan x p w is (inr clash) = let e : ◌≡◌ {A = Result Command WordsError} (Err Usage) (Err Memory) =
    ap (λ (y : WordsError). Err y) (sym is) ∙ clash in absurd (cc e)

-- ---- packets

-- the plan of packets is the one that the words say
pub its_packets : (x : Command) (p p' : PacketPlan) → x ≡ Packets p
    → (◌≡◌ {A = Result Command WordsError} (Ok x) (Ok (Packets p')))
    ⊎ (◌≡◌ {A = Result Command WordsError} (Ok x) (Err Memory)) → p ≡ p'
its_packets x p p' is (inl same) = let e : ◌≡◌ {A = Result Command WordsError} (Ok (Packets p)) (Ok (Packets p')) =
    ap (λ (y : Command). Ok y) (sym is) ∙ same in cc e
its_packets x p p' is (inr clash) = absurd (cc clash)

-- the words of such a plan begin with `packets`
pub begins_packets : (words : List (List ℕ)) (x : Command) (p : PacketPlan) → x ≡ Packets p
    → ((q : PacketPlan) → ◌≡◌ {A = Result Command WordsError} (Ok x) (Ok (Packets q)) → IsPacketsCommand words q)
    → BeginsPackets words
begins_packets words x p is says =
    let it : IsPacketsCommand words p = says p (ap (λ (y : Command). Ok y) is) in
    record { rest = it.rest; begins = it.begins }

-- words that say nothing are no `packets`
pub no_packets : (x : WordsError) (p : PacketPlan) → x ≡ Usage
    → (◌≡◌ {A = Result Command WordsError} (Err x) (Ok (Packets p)))
    ⊎ (◌≡◌ {A = Result Command WordsError} (Err x) (Err Memory)) → ⊥
no_packets x p is (inl clash) = absurd (cc clash)
no_packets x p is (inr clash) = let e : ◌≡◌ {A = Result Command WordsError} (Err Usage) (Err Memory) =
    ap (λ (y : WordsError). Err y) (sym is) ∙ clash in absurd (cc e)

-- no words are both
pub proxy_no_packets : (x : Command) (p : ProxyPlan) (w : ProxyWay) (q : PacketPlan) → x ≡ Proxy p w
    → (◌≡◌ {A = Result Command WordsError} (Ok x) (Ok (Packets q)))
    ⊎ (◌≡◌ {A = Result Command WordsError} (Ok x) (Err Memory)) → ⊥
proxy_no_packets x p w q is (inl clash) =
    let e : ◌≡◌ {A = Result Command WordsError} (Ok (Proxy p w)) (Ok (Packets q)) =
    ap (λ (y : Command). Ok y) (sym is) ∙ clash in absurd (cc e)
proxy_no_packets x p w q is (inr clash) = absurd (cc clash)

pub packets_no_proxy : (x : Command) (q : PacketPlan) (p : ProxyPlan) (w : ProxyWay) → x ≡ Packets q
    → (◌≡◌ {A = Result Command WordsError} (Ok x) (Ok (Proxy p w)))
    ⊎ (◌≡◌ {A = Result Command WordsError} (Ok x) (Err Memory)) → ⊥
packets_no_proxy x q p w is (inl clash) =
    let e : ◌≡◌ {A = Result Command WordsError} (Ok (Packets q)) (Ok (Proxy p w)) =
    ap (λ (y : Command). Ok y) (sym is) ∙ clash in absurd (cc e)
packets_no_proxy x q p w is (inr clash) = absurd (cc clash)

-- ---- nothing was read

none_taken : (known : Option (List ℕ)) → known ≡ prepend_known [] known
none_taken None = refl
none_taken (Some bytes) = refl

-- nothing is taken from a source that isn't read
pub takes_none : {S : Type 0} (s : source.Ghosts S) (input : S) (status : Status) → (status ≡ TooLong → ⊥)
    → StopsPastLongest s input input (status ≡ TooLong)
takes_none s input status short = record {
  count = 0;
  taken = record { bytes = []; taken = none_taken (s.left input); counted = refl };
  few = omega arith;
  exactly = (λ long. absurd (short long), λ none. absurd (omega (arith, none)));
}

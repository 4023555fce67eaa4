-- Which command words are.
use Rattle.std.proofs.Common.{◌≡◌, ◌≢◌, ◌↔◌, ◌∙◌, ◌<◌, ◌≤◌, ℕ, List, [], ◌∷◌, Result, Ok, Err, Option, Some, None}
use Rattle.std.proofs.Common.{codes}
use Rattle.std.proofs.Common.{length, map, arith, refl, sym, ap, subst, true, get_or, Global, String, take, drop, ◌-◌, suc}
use Rattle.std.specs.Prelude.{IfSome, IsSomeAnd}
use Rattle.std.specs.Fmt.{decimal}
use Rattle.std.specs.Option.{ok_or}
use Rattle.std.specs.List.{flat_map, slice_index_or}
use Rattle.std.proofs.lemmas.List.Sorted.{length_permutation}
use Rattle.nio_command.specs.Options.{AreOptions, Text, Written, apart, given, joined, option_words}
use Rattle.nio_command.specs.Texts.{AreNoOptions, AreNoPacketOptions, IsNoOption}
use Rattle.nio_command.specs.Values.{PacketValues, ProxyValues, packet_options, proxy_options}
use Rattle.nio_command.specs.Words.{AsksFor, AsksForPackets, AsksForWay, AsksForWorkers, IsCommand, IsPacketsCommand}
use Rattle.nio_command.specs.Words.{IsProxyCommand, most_connections}
use Rattle.nio_relay.specs.declared.plan.PacketPlan.{PacketPlan}
use Rattle.nio_command.proofs.Addresses.{address_plain}
use Rattle.nio_command.proofs.Numbers.{decimal_plain}
use Rattle.nio_relay.specs.declared.plan.ProxyPlan.{ProxyPlan}
use Rattle.std.proofs.lemmas.Grind.{common_steps}
use Rattle.std.specs.String.{string_bytes}
use Rattle.std.specs.Str.{bytes_eq}
use Rattle.std.proofs.lemmas.Slice.Eq.{bytes_eq-Decides}
use Rattle.nio_command.specs.declared.command.Command.{Command}
use Rattle.nio_command.specs.declared.way.ProxyWay.{ProxyWay}
use Rattle.nio_command.specs.declared.way.ProxyWay.TheVariants.{Select, Group, Future, Many}
use Rattle.nio_command.specs.declared.command.Command.TheVariants.{Script, Check, CheckFirst, Race, Timed, Load, Proxy}
use Rattle.nio_command.specs.declared.command.Command.TheVariants.{Packets}
use Rattle.nio_command.specs.declared.command.WordsError.{WordsError}
use Rattle.nio_command.specs.declared.command.WordsError.TheVariants.{Usage, Memory}

nothing_written : (ws : List Written) → [] ≡ flat_map option_words ws → map given ws ≡ []
nothing_written [] e = refl
nothing_written (joined n v ∷ ws) e = absurd (cc)
nothing_written (apart n v ∷ ws) e = absurd (cc)

-- no words are not the options
not_options : (o : Text × Text) (os : List (Text × Text)) (words : List Text) → words ≡ [] → AreOptions words (o ∷ os)
    → ⊥
not_options o os words none are =
    let gs = map given are.written in
    let nothing : gs ≡ [] = nothing_written are.written (sym none ∙ are.spelled) in
    let some : suc (length os) ≡ length gs = length_permutation gs (o ∷ os) are.order in
    let zero : length gs ≡ 0 = ap length nothing in
    omega arith

-- a single word that is none of these names no command
pub not_named : (word : Text) (command : Command) → word ≢ codes "script" → word ≢ codes "check"
    → word ≢ codes "check-1"
    → word ≢ codes "race" → word ≢ codes "timed" → IsCommand (word ∷ []) command → ⊥
not_named word Script s k f r t h = s (cc)
not_named word Check s k f r t h = k (cc)
not_named word CheckFirst s k f r t h = f (cc)
not_named word Race s k f r t h = r (cc)
not_named word Timed s k f r t h = t (cc)
not_named word (Load rounds) s k f r t h = let two : word ∷ [] ≡ codes "load" ∷ decimal rounds ∷ [] =
    h.says in absurd (cc)
not_named word (Proxy plan way) s k f r t h =
    let begins : word ∷ [] ≡ codes "proxy" ∷ h.rest = h.begins in
    let none : h.rest ≡ [] = cc in
    not_options _ _ h.rest none h.options
not_named word (Packets plan) s k f r t h =
    let begins : word ∷ [] ≡ codes "packets" ∷ h.rest = h.begins in
    let none : h.rest ≡ [] = cc in
    not_options _ _ h.rest none h.options

-- the clause on Usage, from the two on `Ok`
pub usage_from : (words : List Text) (r : Result Command WordsError) → ((c : Command) → r ≡ Ok c → IsCommand words c)
    → ((c : Command) → IsCommand words c → r ≢ Err Memory → r ≡ Ok c)
    → r ≢ Err Memory → (r ≡ Err Usage) ↔ ((c : Command) → IsCommand words c → ⊥)
usage_from words r found only room = (
  (λ e c is. let ok = only c is room in cc),
  (λ none. by_cases r refl none),
)
  where
    by_cases : (x : Result Command WordsError) → r ≡ x → ((c : Command) → IsCommand words c → ⊥) → r ≡ Err Usage
    by_cases (Ok c) e none = absurd (none c (found c e))
    by_cases (Err Usage) e none = e
    by_cases (Err Memory) e none = absurd (room e)

-- the words behind `proxy` are the options
pub same_rest : (words : List Text) (plan : ProxyPlan) (way : ProxyWay)
    → (is : IsProxyCommand (codes "proxy" ∷ words) plan way) → AreOptions words (proxy_options is.values)
same_rest words plan way is =
    let begins : codes "proxy" ∷ words ≡ codes "proxy" ∷ is.rest = is.begins in
    let same : is.rest ≡ words = cc in
    subst (λ (ws : List Text). AreOptions ws (proxy_options is.values)) same is.options

-- the words behind `packets` are the options
pub packets_rest : (words : List Text) (plan : PacketPlan) → (is : IsPacketsCommand (codes "packets" ∷ words) plan)
    → AreOptions words (packet_options is.values)
packets_rest words plan is =
    let begins : codes "packets" ∷ words ≡ codes "packets" ∷ is.rest = is.begins in
    let same : is.rest ≡ words = cc in
    subst (λ (ws : List Text). AreOptions ws (packet_options is.values)) same is.options

-- no value that asks for packets begins with a hyphen
pub plain_packet_values : (v : PacketValues) (plan : PacketPlan) → AsksForPackets v plan → AreNoPacketOptions v
plain_packet_values v plan h = record {
  listen = subst IsNoOption (sym h.listen) (address_plain plan.listen h.in_range.listen);
  local = subst IsNoOption (sym h.local) (address_plain plan.local h.in_range.local);
  target = subst IsNoOption (sym h.target) (address_plain plan.target h.in_range.target);
  count = subst IsNoOption (sym h.count)
      (decimal_plain plan.count (let few = h.in_range.packets.few_packets in omega arith));
}

-- no value that asks for a way begins with a hyphen
plain_way : (text : Text) (workers : Option Text) (way : ProxyWay) → AsksForWay text workers way → IsNoOption text
plain_way text workers Select h = subst IsNoOption (sym h.0) (λ e. omega arith)
plain_way text workers (Group count) h = subst IsNoOption (sym h.0) (λ e. omega arith)
plain_way text workers Future h = subst IsNoOption (sym h.0) (λ e. omega arith)
plain_way text workers (Many count) h = subst IsNoOption (sym h.0) (λ e. omega arith)

plain_count : (most : ℕ) (workers : Option Text) (count : ℕ) → most ≤ 64 → AsksForWorkers most workers count
    → IfSome workers IsNoOption
plain_count most None count few h = tt
plain_count most (Some text) count few h =
    subst IsNoOption (sym h.2) (decimal_plain count (omega (arith, few, h.1)))

plain_workers : (text : Text) (workers : Option Text) (way : ProxyWay) → AsksForWay text workers way
    → IfSome workers IsNoOption
plain_workers text workers Select h = subst (λ (o : Option Text). IfSome o IsNoOption) (sym h.1) tt
plain_workers text workers (Group count) h = plain_count 64 workers count (omega arith) h.1
plain_workers text workers Future h = subst (λ (o : Option Text). IfSome o IsNoOption) (sym h.1) tt
plain_workers text workers (Many count) h = plain_count 15 workers count (omega arith) h.1

few_connections : (way : ProxyWay) → most_connections way ≤ 4294967295
few_connections Select = omega arith
few_connections (Group count) = omega arith
few_connections Future = omega arith
few_connections (Many count) = omega arith

-- no value that asks for a plan begins with a hyphen
pub plain_values : (v : ProxyValues) (plan : ProxyPlan) (way : ProxyWay) → AsksFor v plan way → AreNoOptions v
plain_values v plan way h = record {
  way = plain_way v.way v.workers way h.by_way;
  listen = subst IsNoOption (sym h.listen) (address_plain plan.listen h.in_range.listen);
  target = subst IsNoOption (sym h.target) (address_plain plan.target h.in_range.target);
  conns = subst IsNoOption (sym h.conns)
      (decimal_plain plan.conns (omega (arith, h.in_range.few_connections, few_connections way)));
  workers = plain_workers v.way v.workers way h.by_way;
}

-- an option that is turned into a result
pub some_as : {X E : Type 0} (o : Option X) (P : X → Type 0) (e : E) (r : Result X E) (y : X) → IsSomeAnd o P
    → r ≡ ok_or o e
    → r ≡ Ok y → P y
some_as None P e r y h is ok = absurd h
some_as (Some x) P e r y h is ok = let same : x ≡ y = cc in subst P same h

pub if_some_as : {X E : Type 0} (o : Option X) (P : X → Type 0) (e : E) (r : Result X E) (y : X) → IfSome o P
    → r ≡ ok_or o e
    → r ≡ Ok y → P y
if_some_as None P e r y h is ok = absurd (cc)
if_some_as (Some x) P e r y h is ok = let same : x ≡ y = cc in subst P same h

pub some_no_err : {X E : Type 0} (o : Option X) (P : X → Type 0) (e f : E) (r : Result X E) → IsSomeAnd o P
    → r ≡ ok_or o e
    → r ≡ Err f → ⊥
some_no_err None P e f r h is bad = absurd h
some_no_err (Some x) P e f r h is bad = cc

-- ---- the words, from their first

behind_first : (words : List (String Global)) (w : String Global) → w ≡ slice_index_or words 0 w → 1 ≤ length words
    → map string_bytes words ≡ string_bytes w ∷ map string_bytes (take (length words - 1) (drop 1 words))
behind_first [] w is some = absurd (omega arith)
behind_first (x ∷ xs) w is some = grind (arith, common_steps)

-- words whose first is this one
pub behind_word : (word : Text) (words : List (String Global)) (w : String Global) (text : Text)
    → w ≡ slice_index_or words 0 w → 1 ≤ length words
    → text ≡ string_bytes w → bytes_eq text word ≡ true
    → map string_bytes words ≡ word ∷ map string_bytes (take (length words - 1) (drop 1 words))
behind_word word words w text is some same e =
    behind_first words w is some
    ∙ ap (λ (t : Text). t ∷ map string_bytes (take (length words - 1) (drop 1 words)))
    (sym same ∙ (bytes_eq-Decides text word).0 e)

-- two words whose first is `load`
pub behind_load : (words : List (String Global)) (w r : String Global) (first second : Text)
    → w ≡ slice_index_or words 0 w
    → r ≡ slice_index_or words 1 r → 2 ≤ length words → length words < 3
    → first ≡ string_bytes w → bytes_eq first (codes "load") ≡ true → second ≡ string_bytes r
    → map string_bytes words ≡ codes "load" ∷ second ∷ []
behind_load [] w r first second one two some few same e also = absurd (omega arith)
behind_load (x ∷ []) w r first second one two some few same e also = absurd (omega arith)
behind_load (x ∷ y ∷ []) w r first second one two some few same e also =
    ap (λ (t : Text). t ∷ string_bytes y ∷ [])
    (ap string_bytes (sym one) ∙ sym same ∙ (bytes_eq-Decides first (codes "load")).0 e)
    ∙ ap (λ (t : Text). codes "load" ∷ t ∷ []) (ap string_bytes (sym two) ∙ sym also)
behind_load (x ∷ y ∷ z ∷ words) w r first second one two some few same e also = absurd (omega arith)

abbrev pub made : Command → Result Command WordsError
made command = Ok command

pub same_command : (a b : Command) → made a ≡ made b → b ≡ a
same_command a b e = cc

-- the first and the second letter of the first word
abbrev initial : List Text → ℕ
initial [] = 0
initial (w ∷ ws) = get_or w 0 0

abbrev second : List Text → ℕ
second [] = 0
second (w ∷ ws) = get_or w 1 0

no_memory : {X : Type 0} (r : Result X WordsError) (x : X) → r ≡ Ok x → r ≡ Err Memory → ⊥
no_memory r x is e = cc

same_read : {X : Type 0} (r : Result X WordsError) (x y : X) → r ≡ Ok x → r ≡ Ok y → x ≡ y
same_read r x y is e = cc

-- what is read behind `proxy` is the only command
pub only_proxy : (words rest : List Text) (r : Result (ProxyPlan × ProxyWay) WordsError) (plan : ProxyPlan)
    (way : ProxyWay) → words ≡ codes "proxy" ∷ rest → r ≡ Ok (plan, way)
    → ((p : ProxyPlan) (w : ProxyWay) → IsProxyCommand (codes "proxy" ∷ rest) p w → r ≢ Err Memory → r ≡ Ok (p, w))
    → (command : Command) → IsCommand words command → made (Proxy plan way) ≡ made command
only_proxy words rest r plan way begins is only Script h = let bad : 112 ≡ 115 = ap initial (sym begins ∙ h) in
    absurd (omega (arith, bad))
only_proxy words rest r plan way begins is only Check h = let bad : 112 ≡ 99 = ap initial (sym begins ∙ h) in
    absurd (omega (arith, bad))
only_proxy words rest r plan way begins is only CheckFirst h = let bad : 112 ≡ 99 = ap initial (sym begins ∙ h) in
    absurd (omega (arith, bad))
only_proxy words rest r plan way begins is only Race h = let bad : 112 ≡ 114 = ap initial (sym begins ∙ h) in
    absurd (omega (arith, bad))
only_proxy words rest r plan way begins is only Timed h = let bad : 112 ≡ 116 = ap initial (sym begins ∙ h) in
    absurd (omega (arith, bad))
only_proxy words rest r plan way begins is only (Load rounds) h =
    let bad : 112 ≡ 108 = ap initial (sym begins ∙ h.says) in
    absurd (omega (arith, bad))
only_proxy words rest r plan way begins is only (Proxy p w) h =
    let read : r ≡ Ok (p, w) = only p w
    (subst (λ (ws : List Text). IsProxyCommand ws p w) begins h) (no_memory r (plan, way) is) in
    let same : (plan, way) ≡ (p, w) = same_read r (plan, way) (p, w) is read in
    ap (λ (x : ProxyPlan × ProxyWay). made (Proxy x.0 x.1)) same
only_proxy words rest r plan way begins is only (Packets p) h =
    let bad : 114 ≡ 97 = ap second (sym begins ∙ h.begins) in
    absurd (omega (arith, bad))

-- what is read behind `packets` is the only command
pub only_packets : (words rest : List Text) (r : Result PacketPlan WordsError) (plan : PacketPlan)
    → words ≡ codes "packets" ∷ rest → r ≡ Ok plan
    → ((p : PacketPlan) → IsPacketsCommand (codes "packets" ∷ rest) p → r ≢ Err Memory → r ≡ Ok p)
    → (command : Command) → IsCommand words command → made (Packets plan) ≡ made command
only_packets words rest r plan begins is only Script h = let bad : 112 ≡ 115 = ap initial (sym begins ∙ h) in
    absurd (omega (arith, bad))
only_packets words rest r plan begins is only Check h = let bad : 112 ≡ 99 = ap initial (sym begins ∙ h) in
    absurd (omega (arith, bad))
only_packets words rest r plan begins is only CheckFirst h = let bad : 112 ≡ 99 = ap initial (sym begins ∙ h) in
    absurd (omega (arith, bad))
only_packets words rest r plan begins is only Race h = let bad : 112 ≡ 114 = ap initial (sym begins ∙ h) in
    absurd (omega (arith, bad))
only_packets words rest r plan begins is only Timed h = let bad : 112 ≡ 116 = ap initial (sym begins ∙ h) in
    absurd (omega (arith, bad))
only_packets words rest r plan begins is only (Load rounds) h =
    let bad : 112 ≡ 108 = ap initial (sym begins ∙ h.says) in
    absurd (omega (arith, bad))
only_packets words rest r plan begins is only (Proxy p w) h =
    let bad : 97 ≡ 114 = ap second (sym begins ∙ h.begins) in
    absurd (omega (arith, bad))
only_packets words rest r plan begins is only (Packets p) h =
    let read : r ≡ Ok p = only p
    (subst (λ (ws : List Text). IsPacketsCommand ws p) begins h) (no_memory r plan is) in
    ap (λ (x : PacketPlan). made (Packets x)) (same_read r plan p is read)

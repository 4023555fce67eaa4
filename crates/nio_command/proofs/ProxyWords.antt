-- The options of `proxy`.
use Rattle.std.proofs.Common.{◌≡◌, ◌∙◌, ◌≤◌, List, [], ◌∷◌, false, Option, Some, None, map, inl, inr, refl, sym, ap}
use Rattle.std.proofs.Common.{subst, codes}
use Rattle.std.proofs.Common.{arith}
use Rattle.std.specs.Prelude.{IfSome}
use Rattle.std.specs.List.{Contains}
use Rattle.clap.specs.Simple.{matches_of}
use Rattle.clap.specs.Walk.{Row, Text, first_of}
use Rattle.clap.specs.Matches.{first_value, found_of}
use Rattle.clap.specs.declared.parser.matches.ArgMatches.{ArgMatches}
use Rattle.nio_command.specs.Apps.{proxy_app}
use Rattle.nio_command.specs.Options.{AreOptions}
use Rattle.nio_command.specs.Texts.{AreNoOptions, FindsValues, IsNoOption, IsParse}
use Rattle.nio_command.specs.Values.{ProxyValues, proxy_options, workers_option}
use Rattle.nio_command.proofs.Apps.{is_required, proxy_names, proxy_table}
use Rattle.nio_command.proofs.Givens.{Distinct, Given, in_found, nothing_distinct, row, times, times_contained}
use Rattle.nio_command.proofs.LongWords.{IsPlainName, lacks_test}
use Rattle.nio_command.proofs.OptionWords.{AreNeeded, Each, IsFound, IsTaken, IsWritable, are_options, more_options}
use Rattle.nio_command.proofs.OptionWords.{options_taken, value_of}
use Rattle.nio_command.proofs.Orders.{names_of_options}
use Rattle.nio_command.proofs.Table.{IsName}

-- ---- no two have one name

workers_distinct : (w : Option Text) → Distinct (workers_option w)
workers_distinct None = nothing_distinct
workers_distinct (Some e) = more_options (codes "workers", e) [] refl nothing_distinct

not_workers : (n : Text) (w : Option Text) → times n ((codes "workers", n) ∷ []) ≡ 0
    → times n (workers_option w) ≡ 0
not_workers n None none = refl
not_workers n (Some e) none = none

proxy_distinct : (v : ProxyValues) → Distinct (proxy_options v)
proxy_distinct v =
    let four = workers_option v.workers in
    let three = (codes "conns", v.conns) ∷ four in
    let two = (codes "target", v.target) ∷ three in
    let one = (codes "listen", v.listen) ∷ two in
    more_options (codes "way", v.way) one (not_workers (codes "way") v.workers refl)
    (more_options (codes "listen", v.listen) two (not_workers (codes "listen") v.workers refl)
    (more_options (codes "target", v.target) three (not_workers (codes "target") v.workers refl)
    (more_options (codes "conns", v.conns) four (not_workers (codes "conns") v.workers refl)
    (workers_distinct v.workers))))

-- ---- what `clap` finds

last_found : (w : Option Text) (rows : List Row) → first_of (codes "workers") rows ≡ w
    → Each (IsFound rows) (workers_option w)
last_found None rows found = tt
last_found (Some e) rows found = (found, tt)

-- where `--workers` isn't found, no option has that name
known_options : (v : ProxyValues) (w : Option Text) (gs : List Given) → v.workers ≡ w → Distinct gs
    → first_of (codes "workers") (map row gs) ≡ v.workers → (g : Given) → Contains gs g → IsName proxy_names g.0
    → IsName (names_of_options (proxy_options (record v { workers = w }))) g.0
known_options v (Some e) gs is distinct finds g there known = known
known_options v None gs is distinct finds g there (inl same) = inl same
known_options v None gs is distinct finds g there (inr (inl same)) = inr (inl same)
known_options v None gs is distinct finds g there (inr (inr (inl same))) = inr (inr (inl same))
known_options v None gs is distinct finds g there (inr (inr (inr (inl same)))) = inr (inr (inr (inl same)))
known_options v None gs is distinct finds g there (inr (inr (inr (inr (inl same))))) =
    let found : first_of g.0 (map row gs) ≡ Some g.1 = in_found g.0 g.1 gs distinct there in
    let bad : None ≡ Some g.1 = sym (finds ∙ is) ∙ ap (λ (m : Text). first_of m (map row gs)) same ∙ found in
    absurd (cc)
known_options v None gs is distinct finds g there (inr (inr (inr (inr (inr h))))) = absurd h

-- words without a fault, in which the values are found, are the options
pub are_proxy_options : (words : List Text) (m : ArgMatches) (v : ProxyValues) → IsParse proxy_app words m
    → FindsValues (found_of m) v → AreOptions words (proxy_options v)
are_proxy_options words m v parse finds =
    let value : (n : Text) → first_of n (matches_of proxy_app words) ≡ first_value (found_of m) n =
    λ n. sym (value_of proxy_app proxy_names words m n proxy_table parse) in
    let last : first_of (codes "workers") (matches_of proxy_app words) ≡ v.workers =
    value (codes "workers") ∙ finds.workers in
    are_options proxy_app proxy_names proxy_table words (proxy_options v) parse.no_dashes parse.no_fault
    (proxy_distinct v) (
      value (codes "way") ∙ finds.way,
      (
        value (codes "listen") ∙ finds.listen,
        (
          value (codes "target") ∙ finds.target,
          (
            value (codes "conns") ∙ finds.conns,
            last_found v.workers (matches_of proxy_app words) last,
          ),
        ),
      ),
    )
    (λ gs distinct rows g there known. known_options v v.workers gs refl distinct
    (subst (λ (rs : List Row). first_of (codes "workers") rs ≡ v.workers) rows last) g there known)

-- ---- what the options are to `clap`

plain_name : (n : Text) → IsName proxy_names n → IsPlainName n
plain_name n (inl same) =
    subst IsPlainName same (record { no_equals = lacks_test 61 (codes "way") refl; some = λ e. (cc) })
plain_name n (inr (inl same)) =
    subst IsPlainName same (record { no_equals = lacks_test 61 (codes "listen") refl; some = λ e. (cc) })
plain_name n (inr (inr (inl same))) =
    subst IsPlainName same (record { no_equals = lacks_test 61 (codes "target") refl; some = λ e. (cc) })
plain_name n (inr (inr (inr (inl same)))) =
    subst IsPlainName same (record { no_equals = lacks_test 61 (codes "conns") refl; some = λ e. (cc) })
plain_name n (inr (inr (inr (inr (inl same))))) =
    subst IsPlainName same (record { no_equals = lacks_test 61 (codes "workers") refl; some = λ e. (cc) })
plain_name n (inr (inr (inr (inr (inr h))))) = absurd h

writable : (n v : Text) → IsName proxy_names n → IsNoOption v → IsWritable proxy_names (n, v)
writable n v known plain = (known, plain_name n known, plain)

writable_last : (w : Option Text) → IfSome w IsNoOption → Each (IsWritable proxy_names) (workers_option w)
writable_last None plain = tt
writable_last (Some e) plain = (writable (codes "workers") e (inr (inr (inr (inr (inl refl))))) plain, tt)

all_needed : (v : ProxyValues) → AreNeeded proxy_names (proxy_options v)
all_needed v n (inl same) =
    inr (v.way, subst (λ (m : Text). Contains (proxy_options v) (m, v.way)) same (0, omega arith, refl))
all_needed v n (inr (inl same)) =
    inr (v.listen, subst (λ (m : Text). Contains (proxy_options v) (m, v.listen)) same (1, omega arith, refl))
all_needed v n (inr (inr (inl same))) =
    inr (v.target, subst (λ (m : Text). Contains (proxy_options v) (m, v.target)) same (2, omega arith, refl))
all_needed v n (inr (inr (inr (inl same)))) =
    inr (v.conns, subst (λ (m : Text). Contains (proxy_options v) (m, v.conns)) same (3, omega arith, refl))
all_needed v n (inr (inr (inr (inr (inl same))))) = inl (subst (λ (m : Text). is_required m ≡ false) same refl)
all_needed v n (inr (inr (inr (inr (inr h))))) = absurd h

pub proxy_taken : (words : List Text) (v : ProxyValues) → AreOptions words (proxy_options v) → AreNoOptions v
    → IsTaken proxy_app words (proxy_options v)
proxy_taken words v are plain =
    options_taken proxy_app proxy_names proxy_table words (proxy_options v) are (proxy_distinct v) (
      writable (codes "way") v.way (inl refl) plain.way,
      (
        writable (codes "listen") v.listen (inr (inl refl)) plain.listen,
        (
          writable (codes "target") v.target (inr (inr (inl refl))) plain.target,
          (
            writable (codes "conns") v.conns (inr (inr (inr (inl refl)))) plain.conns,
            writable_last v.workers plain.workers,
          ),
        ),
      ),
    ) (all_needed v)

-- the value of `--workers` is found where it is given, and nowhere else
last_taken : (words : List Text) (v : ProxyValues) (w : Option Text) → v.workers ≡ w
    → IsTaken proxy_app words (proxy_options v) → first_of (codes "workers") (matches_of proxy_app words) ≡ w
last_taken words v (Some e) is taken =
    taken.finds (codes "workers", e)
    (subst (λ (w : Option Text). Contains (proxy_options (record v { workers = w })) (codes "workers", e)) (sym is)
    (4, omega arith, refl))
last_taken words v None is taken = go (first_of (codes "workers") (matches_of proxy_app words)) refl
  where
    go : (o : Option Text) → first_of (codes "workers") (matches_of proxy_app words) ≡ o
        → first_of (codes "workers") (matches_of proxy_app words) ≡ None
    go None e = e
    go (Some e) found =
        let some : 1 ≤ times (codes "workers") (proxy_options (record v { workers = None })) =
        times_contained (codes "workers") e (proxy_options (record v { workers = None }))
        (subst (λ (w : Option Text). Contains (proxy_options (record v { workers = w })) (codes "workers", e)) is
        (taken.back (codes "workers", e) found)) in
        absurd (omega arith)

-- what is taken is found
pub proxy_found : (words : List Text) (m : ArgMatches) (v : ProxyValues) → IsParse proxy_app words m
    → IsTaken proxy_app words (proxy_options v) → FindsValues (found_of m) v
proxy_found words m v parse taken =
    let value : (n : Text) → first_value (found_of m) n ≡ first_of n (matches_of proxy_app words) =
    λ n. value_of proxy_app proxy_names words m n proxy_table parse in
    record {
      way = value (codes "way") ∙ taken.finds (codes "way", v.way) (0, omega arith, refl);
      listen = value (codes "listen") ∙ taken.finds (codes "listen", v.listen) (1, omega arith, refl);
      target = value (codes "target") ∙ taken.finds (codes "target", v.target) (2, omega arith, refl);
      conns = value (codes "conns") ∙ taken.finds (codes "conns", v.conns) (3, omega arith, refl);
      workers = value (codes "workers") ∙ last_taken words v v.workers refl taken;
    }

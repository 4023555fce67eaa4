-- The options of `packets`.
use Rattle.std.proofs.Common.{◌≡◌, ◌∙◌, List, [], ◌∷◌, inl, inr, refl, sym, subst, codes, arith}
use Rattle.std.specs.List.{Contains}
use Rattle.clap.specs.Simple.{matches_of}
use Rattle.clap.specs.Walk.{Text, first_of}
use Rattle.clap.specs.Matches.{first_value, found_of}
use Rattle.clap.specs.declared.parser.matches.ArgMatches.{ArgMatches}
use Rattle.nio_command.specs.Apps.{packets_app}
use Rattle.nio_command.specs.Options.{AreOptions}
use Rattle.nio_command.specs.Texts.{AreNoPacketOptions, FindsPacketValues, IsNoOption, IsParse}
use Rattle.nio_command.specs.Values.{PacketValues, packet_options}
use Rattle.nio_command.proofs.Apps.{packets_names, packets_table}
use Rattle.nio_command.proofs.Givens.{Distinct, nothing_distinct}
use Rattle.nio_command.proofs.LongWords.{IsPlainName, lacks_test}
use Rattle.nio_command.proofs.OptionWords.{AreNeeded, IsTaken, IsWritable, are_options, more_options}
use Rattle.nio_command.proofs.OptionWords.{options_taken, value_of}
use Rattle.nio_command.proofs.Table.{IsName}

packets_distinct : (v : PacketValues) → Distinct (packet_options v)
packets_distinct v =
    let three = (codes "count", v.count) ∷ [] in
    let two = (codes "target", v.target) ∷ three in
    let one = (codes "local", v.local) ∷ two in
    more_options (codes "listen", v.listen) one refl
    (more_options (codes "local", v.local) two refl
    (more_options (codes "target", v.target) three refl
    (more_options (codes "count", v.count) [] refl nothing_distinct)))

-- words without a fault, in which the values are found, are the options
pub are_packet_options : (words : List Text) (m : ArgMatches) (v : PacketValues) → IsParse packets_app words m
    → FindsPacketValues (found_of m) v → AreOptions words (packet_options v)
are_packet_options words m v parse finds =
    let value : (n : Text) → first_of n (matches_of packets_app words) ≡ first_value (found_of m) n =
    λ n. sym (value_of packets_app packets_names words m n packets_table parse) in
    are_options packets_app packets_names packets_table words (packet_options v) parse.no_dashes parse.no_fault
    (packets_distinct v) (
      value (codes "listen") ∙ finds.listen,
      (
        value (codes "local") ∙ finds.local,
        (
          value (codes "target") ∙ finds.target,
          (
            value (codes "count") ∙ finds.count,
            tt,
          ),
        ),
      ),
    ) (λ gs distinct rows g there known. known)

plain_name : (n : Text) → IsName packets_names n → IsPlainName n
plain_name n (inl same) =
    subst IsPlainName same (record { no_equals = lacks_test 61 (codes "listen") refl; some = λ e. (cc) })
plain_name n (inr (inl same)) =
    subst IsPlainName same (record { no_equals = lacks_test 61 (codes "local") refl; some = λ e. (cc) })
plain_name n (inr (inr (inl same))) =
    subst IsPlainName same (record { no_equals = lacks_test 61 (codes "target") refl; some = λ e. (cc) })
plain_name n (inr (inr (inr (inl same)))) =
    subst IsPlainName same (record { no_equals = lacks_test 61 (codes "count") refl; some = λ e. (cc) })
plain_name n (inr (inr (inr (inr h)))) = absurd h

writable : (n v : Text) → IsName packets_names n → IsNoOption v → IsWritable packets_names (n, v)
writable n v known plain = (known, plain_name n known, plain)

all_needed : (v : PacketValues) → AreNeeded packets_names (packet_options v)
all_needed v n (inl same) =
    inr (v.listen, subst (λ (m : Text). Contains (packet_options v) (m, v.listen)) same (0, omega arith, refl))
all_needed v n (inr (inl same)) =
    inr (v.local, subst (λ (m : Text). Contains (packet_options v) (m, v.local)) same (1, omega arith, refl))
all_needed v n (inr (inr (inl same))) =
    inr (v.target, subst (λ (m : Text). Contains (packet_options v) (m, v.target)) same (2, omega arith, refl))
all_needed v n (inr (inr (inr (inl same)))) =
    inr (v.count, subst (λ (m : Text). Contains (packet_options v) (m, v.count)) same (3, omega arith, refl))
all_needed v n (inr (inr (inr (inr h)))) = absurd h

pub packets_taken : (words : List Text) (v : PacketValues) → AreOptions words (packet_options v) → AreNoPacketOptions v
    → IsTaken packets_app words (packet_options v)
packets_taken words v are plain =
    options_taken packets_app packets_names packets_table words (packet_options v) are (packets_distinct v) (
      writable (codes "listen") v.listen (inl refl) plain.listen,
      (
        writable (codes "local") v.local (inr (inl refl)) plain.local,
        (
          writable (codes "target") v.target (inr (inr (inl refl))) plain.target,
          (
            writable (codes "count") v.count (inr (inr (inr (inl refl)))) plain.count,
            tt,
          ),
        ),
      ),
    ) (all_needed v)

-- what is taken is found
pub packets_found : (words : List Text) (m : ArgMatches) (v : PacketValues) → IsParse packets_app words m
    → IsTaken packets_app words (packet_options v) → FindsPacketValues (found_of m) v
packets_found words m v parse taken =
    let value : (n : Text) → first_value (found_of m) n ≡ first_of n (matches_of packets_app words) =
    λ n. value_of packets_app packets_names words m n packets_table parse in
    record {
      listen = value (codes "listen") ∙ taken.finds (codes "listen", v.listen) (0, omega arith, refl);
      local = value (codes "local") ∙ taken.finds (codes "local", v.local) (1, omega arith, refl);
      target = value (codes "target") ∙ taken.finds (codes "target", v.target) (2, omega arith, refl);
      count = value (codes "count") ∙ taken.finds (codes "count", v.count) (3, omega arith, refl);
    }

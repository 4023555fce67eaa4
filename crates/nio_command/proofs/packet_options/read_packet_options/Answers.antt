-- What `clap` tells of the parse, and what that says of the words.
use Rattle.std.proofs.Common.{[], map, ◌≡◌, sym, subst}
use Rattle.std.specs.String.{string_bytes}
use Rattle.std.proofs.lemmas.Option.{IfSome_then}
use Rattle.clap.specs.Faults.{fault_of}
use Rattle.clap.specs.Simple.{App}
use Rattle.nio_command.specs.Apps.{packets_app}
use Rattle.nio_command.specs.Texts.{IsParse, packet_texts_of}
use Rattle.nio_command.proofs.OptionWords.{none_or_some}
use Rattle.nio_command.proofs.PacketWords.{are_packet_options, packets_found, packets_taken}
use Rattle.nio_command.proofs.packet_options.read_packet_options.Goals as goal
use Rattle.nio_command.proofs.packet_options.read_packet_options.Goals.{Joined-matches}

parse : (c : Joined-matches) → IsParse packets_app (map string_bytes c.args.words.now) c.in-Some.matches
parse c =
    subst (λ (a : App). IsParse a (map string_bytes c.args.words.now) c.in-Some.matches) c.in_ok-command.ensures
    (rw c.in-Some.is at c.in_ok-matches.ensures.found)

pub returns-in-Some-clause-found : goal.returns-in-Some-clause-found
returns-in-Some-clause-found c =
    IfSome_then c.texts_found.result c.texts_found.ensures.found
    (λ t finds.
    are_packet_options (map string_bytes c.args.words.now) c.in-Some.matches (packet_texts_of t) (parse c) finds)

pub returns-in-Some-clause-only : goal.returns-in-Some-clause-only
returns-in-Some-clause-only c = λ v are plain.
    let words = map string_bytes c.args.words.now in
    c.texts_found.ensures.only v (packets_found words c.in-Some.matches v (parse c) (packets_taken words v are plain))

pub returns-in-None-clause-only : goal.returns-in-None-clause-only
returns-in-None-clause-only c = λ v are plain.
    let words = map string_bytes c.args.words.now in
    let taken = packets_taken words v are plain in
    none_or_some c.in_ok-matches.field-0 c.in-None.is
    (c.in_ok-matches.ensures.only taken.no_dashes
    (subst (λ (a : App). fault_of a words ≡ []) (sym c.in_ok-command.ensures) taken.no_fault))

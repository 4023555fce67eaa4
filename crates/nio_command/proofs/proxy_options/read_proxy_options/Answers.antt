-- What `clap` tells of the parse, and what that says of the words.
use Rattle.std.proofs.Common.{[], map, ◌≡◌, sym, subst}
use Rattle.std.specs.String.{string_bytes}
use Rattle.std.proofs.lemmas.Option.{IfSome_then}
use Rattle.clap.specs.Faults.{fault_of}
use Rattle.clap.specs.Simple.{App}
use Rattle.nio_command.specs.Apps.{proxy_app}
use Rattle.nio_command.specs.Texts.{IsParse, texts_of}
use Rattle.nio_command.proofs.OptionWords.{none_or_some}
use Rattle.nio_command.proofs.ProxyWords.{are_proxy_options, proxy_found, proxy_taken}
use Rattle.nio_command.proofs.proxy_options.read_proxy_options.Goals as goal
use Rattle.nio_command.proofs.proxy_options.read_proxy_options.Goals.{Joined-matches}

parse : (c : Joined-matches) → IsParse proxy_app (map string_bytes c.args.words.now) c.in-Some.matches
parse c =
    subst (λ (a : App). IsParse a (map string_bytes c.args.words.now) c.in-Some.matches) c.in_ok-command.ensures
    (rw c.in-Some.is at c.in_ok-matches.ensures.found)

pub returns-in-Some-clause-found : goal.returns-in-Some-clause-found
returns-in-Some-clause-found c =
    IfSome_then c.texts_found.result c.texts_found.ensures.found
    (λ t finds. are_proxy_options (map string_bytes c.args.words.now) c.in-Some.matches (texts_of t) (parse c) finds)

pub returns-in-Some-clause-only : goal.returns-in-Some-clause-only
returns-in-Some-clause-only c = λ v are plain.
    let words = map string_bytes c.args.words.now in
    c.texts_found.ensures.only v (proxy_found words c.in-Some.matches v (parse c) (proxy_taken words v are plain))

pub returns-in-None-clause-only : goal.returns-in-None-clause-only
returns-in-None-clause-only c = λ v are plain.
    let words = map string_bytes c.args.words.now in
    let taken = proxy_taken words v are plain in
    none_or_some c.in_ok-matches.field-0 c.in-None.is
    (c.in_ok-matches.ensures.only taken.no_dashes
    (subst (λ (a : App). fault_of a words ≡ []) (sym c.in_ok-command.ensures) taken.no_fault))

-- What `clap` tells of the parse.
use Rattle.std.proofs.Common.{codes, map, true, ◌≡◌, ◌∙◌, sym, subst}
use Rattle.std.specs.String.{string_bytes}
use Rattle.std.specs.List.{list_any}
use Rattle.std.proofs.lemmas.Bool.{false≢true}
use Rattle.std.specs.Str.{bytes_eq}
use Rattle.clap.proofs.WalkLemmas.{list_any-map}
use Rattle.clap.specs.declared.error.kind.ErrorKind.TheVariants.{OutOfMemory}
use Rattle.clap.specs.Simple.{app_of}
use Rattle.clap.specs.Faults.{fault_of}
use Rattle.clap.specs.Kinds.{FailsBy}
use Rattle.nio_command.proofs.OptionWords.{only_memory}
use Rattle.nio_command.proofs.options.find_options.Goals as goal

pub returns-then-has_dashes-clause-only : goal.returns-then-has_dashes-clause-only
returns-then-has_dashes-clause-only c = λ none fault.
    let any : c.has_dashes.result ≡ list_any (λ w. bytes_eq w (codes "--")) (map string_bytes c.args.words.now) =
    c.has_dashes.ensures ∙ list_any-map (λ w. bytes_eq w (codes "--")) string_bytes c.args.words.now in
    cc (none, any, c.if-has_dashes.true)

pub returns-in-Ok-clause-found : goal.returns-in-Ok-clause-found
returns-in-Ok-clause-found c = record {
  no_dashes = sym (c.has_dashes.ensures
      ∙ list_any-map (λ w. bytes_eq w (codes "--")) string_bytes c.args.words.now)
      ∙ c.if-has_dashes.false;
  no_fault = subst (FailsBy (fault_of (app_of c.args.command) (map string_bytes c.args.words.now))) c.in-Ok.is
      (c.try_get_matches_from.ensures.kinds c.requires);
  matches = c.in-Ok.ensures.matches;
}

pub returns-clause-only : goal.returns-clause-only
returns-clause-only c = λ none fault.
    let words = map string_bytes c.args.words.now in
    let fails = c.try_get_matches_from.ensures.kinds c.requires in
    let kinds = subst (FailsBy (fault_of (app_of c.args.command) words)) c.in-Err.is fails in
    let memory = only_memory (fault_of (app_of c.args.command) words) c.in-Err.error fault kinds in
    let same : c.kind.result ≡ OutOfMemory = c.kind.ensures ∙ memory in
    let is = c.eq.ensures in
    let now : c.eq.result ≡ true = rw same at is in
    absurd (false≢true (sym c.if-eq.false ∙ now))

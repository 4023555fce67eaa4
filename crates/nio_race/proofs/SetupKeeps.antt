-- What a setup leaves in the pipes is what its lines say.
use Rattle.std.proofs.Common.{◌≢◌, ℕ, ◌<◌, List, [], ◌∷◌, ◌++◌, length, zip, refl, sym, ap, ◌∙◌, subst}
use Rattle.std.proofs.Common.{append_assoc, arith}
use Rattle.std.proofs.lemmas.List.{append-nil, get_or_default}
use Rattle.std.proofs.lemmas.List.Elements.{All-from_get_or}
use Rattle.std.specs.List.{AllPairs}
use Rattle.nio_base.specs.declared.limits.Limits.{Limits}
use Rattle.nio_base.specs.declared.numbers.ChanId.{ChanId}
use Rattle.nio_language.specs.declared.call.ScriptCall.{ScriptCall}
use Rattle.nio_language.specs.declared.reply.Reply.{Reply}
use Rattle.nio_plain.proofs.ReachedSound.{sound-opening}
use Rattle.nio_plain.specs.Answer.{left_by_script, left_from}
use Rattle.nio_plain.specs.ScriptState.{Pipe, ScriptState, script_opening}
use Rattle.nio_plain.specs.Seq.{seq}
use Rattle.nio_plain.specs.Seq.Pipes.{no_pipe, pipe_at}
use Rattle.nio_plain.specs.declared.rules.Rules.TheVariants.{Now}
use Rattle.nio_serial.specs.Serial.{replies_from}
use Rattle.nio_sole.proofs.ScriptLines.{script_left}
use Rattle.nio_sole.specs.Stands.{progress_of}
use Rattle.nio_sole.specs.declared.desk.Desk.{Desk}
use Rattle.nio_words.specs.Passes.{limits_of, seen}
use Rattle.nio_words.specs.declared.words.Words.{Words}
use Rattle.nio_race.proofs.SetupCalls.{goes-seq}
use Rattle.nio_race.proofs.SetupKept.{AreKept}
use Rattle.nio_race.specs.Setup.{HasSetUp, KeepsPipeOfSetup, KeepsSetup}

-- ---- a whole setup

kept-opening : (l : Limits) → AreKept l [] script_opening
kept-opening l = record {
  sound = sound-opening Now l;
  each = λ k h. absurd (omega arith);
  sources_differ = λ j k hj hk ne. absurd (omega arith);
  sinks_differ = λ j k hj hk ne. absurd (omega arith);
  unopened = λ c unopened n. record { read = refl; written = refl; end = refl; untold = λ tells. omega (arith, tells.1) };
}

kept-calls : (l : Limits) (calls : List ScriptCall) (log : List (ScriptCall × Reply)) (st : ScriptState)
    → AreKept l log st → AreKept l (log ++ zip calls (replies_from l st calls)) (left_from Now l st calls)
kept-calls l [] log st kept =
    subst (λ (xs : List (ScriptCall × Reply)). AreKept l xs st) (sym (append-nil log)) kept
kept-calls l (c ∷ calls) log st kept =
    let done = seq Now l st c.caller c.call in
    let rest = zip calls (replies_from l done.left calls) in
    subst (λ (xs : List (ScriptCall × Reply)). AreKept l xs (left_from Now l done.left calls))
    (append_assoc log ((c, done.reply) ∷ []) rest)
    (kept-calls l calls (log ++ (c, done.reply) ∷ []) done.left (goes-seq l log st kept c.caller c.call))

apart-of : (pipes : List Pipe) (f : Pipe → ChanId)
    → ((j k : ℕ) → j < length pipes → k < length pipes → j ≢ k → f (pipe_at pipes j) ≢ f (pipe_at pipes k))
    → AllPairs (λ p q. f p ≢ f q) pipes
apart-of pipes f differ i j d before within same =
    let low : i < length pipes = omega arith in
    differ i j low within (λ e. omega arith)
    (ap f (get_or_default pipes i no_pipe d low)
    ∙ (same ∙ ap f (get_or_default pipes j d no_pipe within)))

-- the owners are callers
abbrev HasOwners : Limits → Pipe → Type 0
HasOwners l p = (p.reader.0 < l.callers) × (p.writer.0 < l.callers)

pub keeps-setup : (l : Limits) (setup : List ScriptCall) → KeepsSetup l setup (left_by_script Now l setup).pipes
keeps-setup l setup =
    let left = left_by_script Now l setup in
    let kept : AreKept l (zip setup (replies_from l script_opening setup)) left =
    kept-calls l setup [] script_opening (kept-opening l) in
    record {
      are_pipes = record {
        owners = All-from_get_or (HasOwners l) left.pipes no_pipe
            (λ k h. let p = kept.each k h in (p.reader, p.writer));
        sources_differ = apart-of left.pipes (λ p. p.source) kept.sources_differ;
        sinks_differ = apart-of left.pipes (λ p. p.sink) kept.sinks_differ;
      };
      each = All-from_get_or (KeepsPipeOfSetup l setup) left.pipes no_pipe
          (λ k h.
          let said = (kept.each k h).said in
          record { bytes = said.bytes; seal = said.seal; told = said.told });
    }

pub setup-kept : (w : Words) (d : Desk) (setup : List ScriptCall) → HasSetUp w d setup
    → KeepsSetup (limits_of w) setup (progress_of d).pipes
setup-kept w d setup has =
    let stands = has.stands in
    let some = stands.ready (record { 0 = 0 }) (omega (arith, stands.fit.some_callers)) in
    let left = script_left (limits_of w) setup (seen d.pass) (progress_of d) stands.fit some.pass.legal has.set_up in
    subst (KeepsSetup (limits_of w) setup) (sym (ap (λ (st : ScriptState). st.pipes) left))
    (keeps-setup (limits_of w) setup)

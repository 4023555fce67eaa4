-- What `script` writes by the rules of now is a legal history by them.
use Rattle.std.proofs.Common.{◌≡◌, ℕ, List, subst}
use Rattle.nio_base.specs.declared.limits.Limits.{Limits}
use Rattle.nio_bytes.specs.declared.sink.Sink as sink
use Rattle.nio_plain.specs.Answer.{answer_to}
use Rattle.nio_plain.specs.declared.rules.Rules.TheVariants.{Now}
use Rattle.nio_script.specs.Output.{IsWritten}
use Rattle.nio_script.proofs.LegalHistory.{history_is_legal}
use Rattle.nio_words.specs.Passes.{limits_of}
use Rattle.nio_words.specs.declared.words.Pass.{Pass}
use Rattle.nio_words.specs.declared.words.Words.{Words}
use Rattle.nio_run.specs.Commands.{IsAnsweredOn, WritesLegal}

pub writes_legal : {K : Type 0} (k : sink.Ghosts K) (w : Words) (output output' : K) (pass : Pass) (l : Limits)
    (text : List ℕ)
    → limits_of w ≡ l → IsAnsweredOn k w output output' pass text → WritesLegal k output output' Now l text
writes_legal k w output output' pass l text limits answered = record {
  calls = answered.calls;
  script = answered.script;
  written = subst (λ m. IsWritten k output output' (answer_to Now m answered.calls)) limits answered.written;
  legal = history_is_legal Now l text answered.calls answered.script (λ i default within. tt);
}

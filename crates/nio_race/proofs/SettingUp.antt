-- The setup's lines are made one after the other.
use Rattle.std.proofs.Common.{◌≡◌, ℕ, ◌+◌, List, ◌∷◌, ◌++◌, take, drop, sym, ap, ◌∙◌, subst, append_assoc, []}
use Rattle.nio_language.specs.Replies.{history_line}
use Rattle.nio_language.specs.declared.call.ScriptCall.{ScriptCall}
use Rattle.nio_plain.specs.Answer.{answer_from, answer_to}
use Rattle.nio_plain.specs.ScriptState.{ScriptState}
use Rattle.nio_plain.specs.Seq.{seq}
use Rattle.nio_plain.specs.declared.rules.Rules.TheVariants.{Now}
use Rattle.nio_sole.proofs.ScriptLines.{line_more}
use Rattle.nio_sole.specs.Said.{state_at}
use Rattle.nio_sole.specs.declared.desk.Desk.{Desk}
use Rattle.nio_words.specs.Passes.{limits_of}
use Rattle.nio_words.specs.declared.words.Words.{Words}
use Rattle.nio_race.specs.Setup.{HasSetUp, SaysAndWrites}

-- So many lines were made. What was written and the answer to the rest are the whole answer.
pub record IsSettingUp (w : Words) (d : Desk) (setup : List ScriptCall) (index : ℕ) (before now : List ℕ) : Type 0 where
  pub set_up : HasSetUp w d (take index setup)
  pub text : now ++ answer_from Now (limits_of w) (state_at d) (index + 1) (drop index setup) ≡ before
      ++ answer_to Now (limits_of w) setup

pub goes_on : (w : Words) (d d' : Desk) (setup : List ScriptCall) (index : ℕ) (before now now' : List ℕ)
    (c : ScriptCall)
    → take (index + 1) setup ≡ take index setup ++ c ∷ [] → drop index setup ≡ c ∷ drop (index + 1) setup
    → IsSettingUp w d setup index before now → SaysAndWrites w d d' (index + 1) c now now'
    → IsSettingUp w d' setup (index + 1) before now'
goes_on w d d' setup index before now now' c one_more first at made =
    let l = limits_of w in
    let says = made.says in
    let rest = drop (index + 1) setup in
    record {
      set_up = subst (λ (cs : List ScriptCall). HasSetUp w d' cs) (sym one_more) (record {
        stands = says.stands;
        set_up = line_more w d d' (take index setup) c made.reply at.set_up.set_up says;
      });
      text =
          ap (λ (xs : List ℕ). xs ++ answer_from Now l (state_at d') (index + 1 + 1) rest) made.writes
          ∙ (append_assoc now (history_line (index + 1) c.caller c.call made.reply)
          (answer_from Now l (state_at d') (index + 1 + 1) rest)
          ∙ (ap (λ r. now
          ++ (history_line (index + 1) c.caller c.call r ++ answer_from Now l (state_at d') (index + 1 + 1) rest))
          says.reply
          ∙ (ap (λ (st : ScriptState). now
          ++ (history_line (index + 1) c.caller c.call (seq Now l (state_at d) c.caller c.call).reply
          ++ answer_from Now l st (index + 1 + 1) rest)) says.left
          ∙ (ap (λ (cs : List ScriptCall). now ++ answer_from Now l (state_at d) (index + 1) cs) (sym first)
          ∙ at.text))));
    }

-- A legal history of lines that don't overlap is a run of their script by the documented system.
use Rattle.std.proofs.Common.{◌≡◌, false, List, [], ◌∷◌, ◌++◌, map, true, refl, ap, sym, ◌∙◌, subst, append_assoc}
use Rattle.std.proofs.lemmas.List.{append-nil}
use Rattle.nio_base.specs.Limits.{IsFit}
use Rattle.nio_base.specs.declared.limits.Limits.{Limits}
use Rattle.nio_history.proofs.OneMore.{state_after-more}
use Rattle.nio_history.proofs.Stays.{beginnings_are_legal}
use Rattle.nio_history.specs.Histories.{state_after, event_of, IsLegal}
use Rattle.nio_history.specs.State.{with_drawn}
use Rattle.nio_history.specs.declared.act.Act.TheVariants.{DrawBit}
use Rattle.nio_history.specs.declared.event.Event.{Event}
use Rattle.nio_plain.specs.Answer.{left_from}
use Rattle.nio_plain.specs.ScriptState.{ScriptState}
use Rattle.nio_plain.specs.Seq.Replies.{Replied}
use Rattle.nio_plain.specs.declared.rules.Rules.TheVariants.{Now}
use Rattle.nio_serial.proofs.Histories.{line-runs-amount, draws-stay}
use Rattle.nio_serial.proofs.Staying.{begins-between}
use Rattle.nio_serial.specs.Between.{IsBetween}
use Rattle.nio_serial.specs.Documented.{Progress, nothing_yet, documented}
use Rattle.nio_serial.specs.Serial.{Entry, draw, line, history_of, AreLines, left_in_progress, script_of, replies_of}
use Rattle.nio_serial.specs.Serial.{replies_from, SerialLinesAmount}

-- the same from a history on
record AmountFrom (l : Limits) (now : Progress) (past : List Event) (entries : List Entry) : Type 0 where
  replies : replies_of entries ≡ replies_from l (documented (state_after past) now) (script_of entries)
  left : documented (state_after (past ++ history_of entries)) (left_in_progress now entries)
      ≡ left_from Now l (documented (state_after past) now) (script_of entries)
  between : IsBetween l (state_after (past ++ history_of entries)) (left_in_progress now entries)

module _ (l : Limits) (fit : IsFit l) where
  amount_from : (entries : List Entry) (now : Progress) (past : List Event) → IsLegal l (past ++ history_of entries)
      → IsBetween l (state_after past) now → AreLines l now entries → AmountFrom l now past entries
  amount_from [] now past legal between lines = record {
    replies = refl;
    left = ap (λ (events : List Event). documented (state_after events) now) (append-nil past);
    between = subst (λ (events : List Event). IsBetween l (state_after events) now) (sym (append-nil past)) between;
  }
  amount_from (draw n ∷ later) now past legal between lines =
      let e = event_of n (DrawBit n false) in
      let joined : (past ++ e ∷ []) ++ history_of later ≡ past ++ e ∷ history_of later = append_assoc past (e ∷ [])
      (history_of later) in
      let after : state_after (past ++ e ∷ []) ≡ with_drawn (state_after past) n.0 true = state_after-more past e in
      let same : documented (state_after (past ++ e ∷ [])) now ≡ documented (state_after past) now = ap
      (λ st. documented st now) after in
      let rest = amount_from later now (past ++ e ∷ []) (subst (IsLegal l) (sym joined) legal)
      (subst (λ st. IsBetween l st now) (sym after) (draws-stay l (state_after past) now n between)) lines in
      record {
        replies = rest.replies ∙ ap (λ (st : ScriptState). replies_from l st (script_of later)) same;
        left = ap (λ (events : List Event). documented (state_after events) (left_in_progress now later)) (sym joined)
            ∙ (rest.left ∙ ap (λ (st : ScriptState). left_from Now l st (script_of later)) same);
        between = subst (λ (events : List Event). IsBetween l (state_after events) (left_in_progress now later)) joined
            rest.between;
      }
  amount_from (line me word acts said ∷ later) now past legal between lines =
      let events = map (event_of me) acts in
      let joined : (past ++ events) ++ history_of later ≡ past ++ (events ++ history_of later) =
      append_assoc past events (history_of later) in
      let legal' = subst (IsLegal l) (sym joined) legal in
      let first = line-runs-amount l now me word past acts said fit between
      (beginnings_are_legal l (past ++ events) ((past ++ events) ++ history_of later)
      (history_of later, refl) legal') lines.0 in
      let rest = amount_from later said.left (past ++ events) legal' first.between lines.1 in
      record {
        replies = (λ j. said.reply ∷ rest.replies j)
            ∙ ap (λ (a : Replied). a.reply ∷ replies_from l a.left (script_of later)) (sym first.replied);
        left = ap (λ (xs : List Event). documented (state_after xs) (left_in_progress said.left later)) (sym joined)
            ∙ (rest.left ∙ ap (λ (a : Replied). left_from Now l a.left (script_of later)) (sym first.replied));
        between = subst (λ (xs : List Event). IsBetween l (state_after xs) (left_in_progress said.left later)) joined
            rest.between;
      }

pub serial-lines-amount : SerialLinesAmount
serial-lines-amount l entries fit legal lines =
    let all = amount_from l fit entries nothing_yet [] legal (begins-between l) lines in
    record { replies = all.replies; left = all.left; between = all.between }

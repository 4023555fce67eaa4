-- The lines of a script, one after the other.
use Rattle.std.proofs.Common.{◌≡◌, ℕ, zero, suc, List, [], ◌∷◌, ◌++◌, map, Ok, false, refl, sym, ap, ◌∙◌, subst, append_assoc}
use Rattle.std.proofs.Common.{arith}
use Rattle.std.proofs.lemmas.List.{append-nil, map-append}
use Rattle.nio_base.specs.Limits.{IsFit}
use Rattle.nio_base.specs.declared.limits.Limits.{Limits}
use Rattle.nio_base.specs.declared.numbers.CallerNo.{CallerNo}
use Rattle.nio_history.specs.Histories.{IsLegal, event_of, state_after}
use Rattle.nio_history.specs.declared.act.Act.TheVariants.{DrawBit}
use Rattle.nio_history.specs.declared.event.Event.{Event}
use Rattle.nio_language.specs.declared.call.ScriptCall.{ScriptCall}
use Rattle.nio_language.specs.declared.reply.Reply.{Reply}
use Rattle.nio_plain.specs.Answer.{left_by_script}
use Rattle.nio_plain.specs.ScriptState.{script_opening}
use Rattle.nio_plain.specs.declared.rules.Rules.TheVariants.{Now}
use Rattle.nio_serial.proofs.Serial.{serial-lines-amount}
use Rattle.nio_serial.specs.Documented.{Progress, documented, nothing_yet}
use Rattle.nio_serial.specs.Serial.{AmountToScript, AreLines, Entry, draw, history_of, left_in_progress, line, replies_from}
use Rattle.nio_serial.specs.Serial.{replies_of, script_of}
use Rattle.nio_sole.specs.Drawn.{draws}
use Rattle.nio_sole.specs.Said.{SaysLine}
use Rattle.nio_sole.specs.ScriptLines.{AreScriptLines, ScriptLine, entry_of}
use Rattle.nio_sole.specs.Stands.{progress_of}
use Rattle.nio_sole.specs.declared.desk.Desk.{Desk}
use Rattle.nio_words.specs.Passes.{limits_of, seen}
use Rattle.nio_words.specs.declared.words.Words.{Words}

-- ---- entries and one more

lines-more : (l : Limits) (now : Progress) (entries : List Entry) (e : Entry) → AreLines l now entries
    → AreLines l (left_in_progress now entries) (e ∷ []) → AreLines l now (entries ++ e ∷ [])
lines-more l now [] e are one = one
lines-more l now (draw n ∷ later) e are one = lines-more l now later e are one
lines-more l now (line me word acts said ∷ later) e are one = (are.0, lines-more l said.left later e are.1 one)

left-more : (now : Progress) (entries : List Entry) (e : Entry)
    → left_in_progress now (entries ++ e ∷ []) ≡ left_in_progress (left_in_progress now entries) (e ∷ [])
left-more now [] e = refl
left-more now (draw n ∷ later) e = left-more now later e
left-more now (line me word acts said ∷ later) e = left-more said.left later e

history-more : (entries : List Entry) (e : Entry)
    → history_of (entries ++ e ∷ []) ≡ history_of entries ++ history_of (e ∷ [])
history-more [] e = refl
history-more (draw n ∷ later) e = ap (λ (es : List Event). event_of n (DrawBit n false) ∷ es) (history-more later e)
history-more (line me word acts said ∷ later) e =
    ap (λ (es : List Event). map (event_of me) acts ++ es) (history-more later e)
    ∙ sym (append_assoc (map (event_of me) acts) (history_of later) (history_of (e ∷ [])))

-- ---- the lines behind the draws

-- what a draw before them doesn't change is so behind all draws
behind_draws : (Holds : List Entry → Type 0) → ((n : CallerNo) (es : List Entry) → Holds es → Holds (draw n ∷ es))
    → (k : ℕ) (es : List Entry) → Holds es → Holds (draws k ++ es)
behind_draws Holds more zero es here = here
behind_draws Holds more (suc k) es here =
    let n : CallerNo = record { 0 = k } in
    subst Holds (sym (append_assoc (draws k) (draw n ∷ []) es))
    (behind_draws Holds more k (draw n ∷ es) (more n es here))

script-is : (lines : List ScriptLine) → script_of (map entry_of lines) ≡ map (λ x. x.call) lines
script-is [] = refl
script-is (x ∷ lines) = ap (λ (cs : List ScriptCall). x.call ∷ cs) (script-is lines)

replies-are : (lines : List ScriptLine) → replies_of (map entry_of lines) ≡ map (λ x. x.said.reply) lines
replies-are [] = refl
replies-are (x ∷ lines) = ap (λ (rs : List Reply). x.said.reply ∷ rs) (replies-are lines)

module _ (l : Limits) (lines : List ScriptLine) where
  abbrev all_of : List Entry
  all_of = draws l.callers ++ map entry_of lines

  left_of_all : left_in_progress nothing_yet all_of ≡ left_in_progress nothing_yet (map entry_of lines)
  left_of_all =
      behind_draws
      (λ es. left_in_progress nothing_yet es ≡ left_in_progress nothing_yet (map entry_of lines)) (λ n es e. e)
      l.callers (map entry_of lines) refl

  script_of_all : script_of all_of ≡ map (λ x. x.call) lines
  script_of_all =
      behind_draws (λ es. script_of es ≡ map (λ x. x.call) lines) (λ n es e. e) l.callers (map entry_of lines)
      (script-is lines)

  replies_of_all : replies_of all_of ≡ map (λ x. x.said.reply) lines
  replies_of_all =
      behind_draws (λ es. replies_of es ≡ map (λ x. x.said.reply) lines) (λ n es e. e) l.callers
      (map entry_of lines) (replies-are lines)

  amount : IsFit l → IsLegal l (history_of all_of) → AreLines l nothing_yet (map entry_of lines)
      → AmountToScript l all_of
  amount fit legal runs =
      serial-lines-amount l all_of fit legal
      (behind_draws (AreLines l nothing_yet) (λ n es are. are) l.callers (map entry_of lines) runs)

-- a legal history of a script leaves the documented state
pub script_left : (l : Limits) (calls : List ScriptCall) (history : List Event) (now : Progress) → IsFit l
    → IsLegal l history → AreScriptLines l calls history now
    → documented (state_after history) now ≡ left_by_script Now l calls
script_left l calls history now fit legal is =
    ap (λ (es : List Event). documented (state_after es) now) is.history_is
    ∙ (ap (documented (state_after (history_of (all_of l is.lines)))) (is.leaves ∙ sym (left_of_all l is.lines))
    ∙ ((amount l is.lines fit (subst (IsLegal l) is.history_is legal) is.runs).left
    ∙ ap (left_by_script Now l) (script_of_all l is.lines ∙ is.of_calls)))

-- ---- no line, and one more

pub no_line : (l : Limits) (history : List Event) (now : Progress) → history ≡ history_of (draws l.callers)
    → now ≡ nothing_yet → AreScriptLines l [] history now
no_line l history now drawn idle = record {
  lines = [];
  history_is = drawn ∙ ap history_of (sym (append-nil (draws l.callers)));
  of_calls = refl;
  runs = tt;
  replies = refl;
  leaves = idle;
}

pub line_more : (w : Words) (d d' : Desk) (calls : List ScriptCall) (c : ScriptCall) (r : Reply)
    → AreScriptLines (limits_of w) calls (seen d.pass) (progress_of d) → SaysLine w d d' c.caller c.call (Ok r)
    → AreScriptLines (limits_of w) (calls ++ c ∷ []) (seen d'.pass) (progress_of d')
line_more w d d' calls c r is says =
    let l = limits_of w in
    let x : ScriptLine = record {
      call = c;
      acts = says.made.acts;
      said = record { reply = r; left = progress_of d' };
    } in
    let lines = is.lines ++ x ∷ [] in
    let entries : map entry_of lines ≡ map entry_of is.lines ++ entry_of x ∷ [] =
    map-append entry_of is.lines (x ∷ []) in
    let history : seen d'.pass ≡ history_of (all_of l lines) =
    says.made.grew
    ∙ (ap (λ (es : List Event). es ++ map (event_of c.caller) says.made.acts) is.history_is
    ∙ (ap (λ (es : List Event). history_of (all_of l is.lines) ++ es)
    (sym (append-nil (map (event_of c.caller) says.made.acts)))
    ∙ (sym (history-more (all_of l is.lines) (entry_of x))
    ∙ ap history_of
    (append_assoc (draws l.callers) (map entry_of is.lines) (entry_of x ∷ [])
    ∙ ap (λ (es : List Entry). draws l.callers ++ es) (sym entries))))) in
    let runs : AreLines l nothing_yet (map entry_of lines) =
    subst (AreLines l nothing_yet) (sym entries)
    (lines-more l nothing_yet (map entry_of is.lines) (entry_of x) is.runs
    (subst (λ (p : Progress). AreLines l p (entry_of x ∷ [])) is.leaves (says.made.run, tt))) in
    let of_calls : map (λ y. y.call) lines ≡ calls ++ c ∷ [] =
    map-append (λ (y : ScriptLine). y.call) is.lines (x ∷ []) ∙ ap (λ (cs : List ScriptCall). cs ++ c ∷ []) is.of_calls in
    let some = says.stands.ready (record { 0 = 0 }) (omega (arith, says.stands.fit.some_callers)) in
    let amounts = amount l lines says.stands.fit (subst (IsLegal l) history some.pass.legal) runs in
    record {
      lines = lines;
      history_is = history;
      of_calls = of_calls;
      runs = runs;
      replies =
          sym (replies_of_all l lines)
          ∙ (amounts.replies ∙ ap (replies_from l script_opening) (script_of_all l lines ∙ of_calls));
      leaves =
          sym (ap (left_in_progress nothing_yet) entries ∙ left-more nothing_yet (map entry_of is.lines) (entry_of x));
    }

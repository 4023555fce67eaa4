-- What is kept while the calls of a script are made.
use Rattle.std.proofs.Common.{◌≡◌, ℕ, ◌+◌, List, [], ◌∷◌, ◌++◌, inl, sym, ap, ◌∙◌, subst, append_assoc}
use Rattle.std.proofs.lemmas.List.{append-nil}
use Rattle.nio_base.specs.declared.limits.Limits.{Limits}
use Rattle.nio_bytes.specs.declared.sink.Sink as sink
use Rattle.nio_language.specs.declared.call.ScriptCall.{ScriptCall}
use Rattle.nio_plain.specs.Answer.{answer_from, left_from}
use Rattle.nio_plain.specs.ScriptState.{ScriptState}
use Rattle.nio_plain.specs.declared.rules.Rules.{Rules}
use Rattle.nio_plain.specs.declared.system.System as system
use Rattle.nio_script.specs.Output.{Gathers, IsWritten, Writes, WritesPrefix}
use Rattle.nio_script.specs.Run.{MakesAll, MakesOne, MakesPrefix, StopsWithin, WritesOfMade, line_for, left_by_call}
use Rattle.nio_script.proofs.Made.{all_of_one, left_after, makes_after, makes_both, stops_after}
use Rattle.nio_script.proofs.Writing.{writes_both, writes_prefix_after}

-- Some calls were made, and the rest of them are left. What was written and what is kept back is the answer to the calls
-- that were made: with the lines of more calls behind it, it is the answer to these and those.
pub record IsRunning {K Y : Type 0} (k : sink.Ghosts K) (y : system.Ghosts Y) (output output' : K) (run run' : Y)
    (kept : List ℕ) (number : ℕ) (rest calls : List ScriptCall) : Type 0 where
  pub bytes : List ℕ
  pub written : Writes k output output' bytes
  pub made : List ScriptCall
  pub answer : (more : List ScriptCall)
      → bytes ++ (kept ++ answer_from (y.rules run) (y.limits run) (y.state run') number more)
      ≡ answer_from (y.rules run) (y.limits run) (y.state run) 1 (made ++ more)
  pub parts : made ++ rest ≡ calls
  pub makes : MakesAll y run run' made
  pub left : y.state run' ≡ left_from (y.rules run) (y.limits run) (y.state run) made
  pub still : k.faults output' ≡ k.faults output
  pub kept_on : y.kept run run'
  pub rules : y.rules run' ≡ y.rules run
  pub limits : y.limits run' ≡ y.limits run

-- some of what is kept back and of a line is some of that and of the answer to its call
pub written_line : {K : Type 0} (k : sink.Ghosts K) (output now : K) (rules : Rules) (l : Limits) (st : ScriptState)
    (kept : List ℕ) (number : ℕ) (call : ScriptCall)
    → WritesPrefix k output now (kept ++ line_for rules l st number call)
    → WritesPrefix k output now (kept ++ answer_from rules l st number (call ∷ []))
written_line k output now rules l st kept number call some =
    subst (λ (xs : List ℕ). WritesPrefix k output now (kept ++ xs)) (sym (append-nil (line_for rules l st number call)))
    some

module _ {K Y : Type 0} (k : sink.Ghosts K) (y : system.Ghosts Y) (output mid now : K) (run before : Y) (kept : List ℕ)
    (number : ℕ) where
  -- no call is left
  module _ (calls : List ScriptCall) (running : IsRunning k y output mid run before kept number [] calls) where
    all_made : running.made ≡ calls
    all_made = sym (append-nil running.made) ∙ running.parts

    -- what was written and what is kept back is the whole answer
    pub answer_whole : running.bytes ++ kept ≡ answer_from (y.rules run) (y.limits run) (y.state run) 1 calls
    answer_whole =
        ap (λ xs. running.bytes ++ xs) (sym (append-nil kept))
        ∙ (running.answer []
        ∙ ap (answer_from (y.rules run) (y.limits run) (y.state run) 1) running.parts)

    pub makes_whole : MakesPrefix y run before calls calls
    makes_whole =
        let some : MakesPrefix y run before calls running.made = record {
          begins = ([], running.parts);
          makes = running.makes;
          left = running.left;
        } in
        subst (MakesPrefix y run before calls) all_made some

    -- what is kept back is written
    pub whole_behind : IsWritten k mid now kept
        → IsWritten k output now (answer_from (y.rules run) (y.limits run) (y.state run) 1 calls)
    whole_behind all = record {
      taken = subst (Writes k output now) answer_whole
          (writes_both k output mid now running.bytes kept running.written all.taken);
      flushed = all.flushed;
    }

    -- some of what is kept back is written
    written_behind : WritesPrefix k mid now kept
        → WritesPrefix k output now (answer_from (y.rules run) (y.limits run) (y.state run) 1 calls)
    written_behind some =
        subst (WritesPrefix k output now) (ap (λ xs. running.bytes ++ xs) (append-nil kept) ∙ answer_whole)
        (writes_prefix_after k output mid now running.bytes kept [] running.written some)

    pub cut_behind : WritesPrefix k mid now kept
        → WritesOfMade k y output now run [] 1 (MakesPrefix y run before calls)
    cut_behind some = record { made = calls; makes = makes_whole; written = written_behind some }

    pub stops_behind : WritesPrefix k mid now kept
        → WritesOfMade k y output now run [] 1 (StopsWithin y run before calls)
    stops_behind some = record { made = calls; makes = inl makes_whole; written = written_behind some }

  module _ (call : ScriptCall) (rest calls : List ScriptCall)
      (running : IsRunning k y output mid run before kept number (call ∷ rest) calls) where
    -- the line of the next call
    abbrev pub next_line : List ℕ
    next_line = line_for (y.rules before) (y.limits before) (y.state before) number call

    -- the state that it leaves
    abbrev pub next_state : ScriptState
    next_state = left_by_call (y.rules before) (y.limits before) (y.state before) call

    -- the answer to some calls from here on, by the rules and the limits of the beginning
    same_answer : (more : List ScriptCall)
        → answer_from (y.rules before) (y.limits before) (y.state before) number more
        ≡ answer_from (y.rules run) (y.limits run) (y.state before) number more
    same_answer more =
        ap (λ (rules : Rules). answer_from rules (y.limits before) (y.state before) number more) running.rules
        ∙ ap (λ (l : Limits). answer_from (y.rules run) l (y.state before) number more) running.limits

    -- what was written, what is kept back, the next line, and the answer to more calls after it
    pub answer_on : (more : List ScriptCall) → running.bytes
        ++ ((kept ++ next_line) ++ answer_from (y.rules run) (y.limits run) next_state (number + 1) more)
        ≡ answer_from (y.rules run) (y.limits run) (y.state run) 1 ((running.made ++ call ∷ []) ++ more)
    answer_on more =
        let by = λ (rules : Rules) (l : Limits).
        running.bytes
        ++ (kept ++ (line_for rules l (y.state before) number call ++ answer_from (y.rules run) (y.limits run)
        (left_by_call rules l (y.state before) call) (number + 1) more)) in
        ap (λ xs. running.bytes ++ xs)
        (append_assoc kept next_line (answer_from (y.rules run) (y.limits run) next_state (number + 1) more))
        ∙ ap (λ rules. by rules (y.limits before)) running.rules ∙ ap (by (y.rules run)) running.limits
        ∙ running.answer (call ∷ more)
        ∙ ap (answer_from (y.rules run) (y.limits run) (y.state run) 1) (sym (append_assoc running.made (call ∷ []) more))

    -- of what is kept back and the lines of some calls more, some is written
    written_on : (some : List ScriptCall)
        → WritesPrefix k mid now (kept ++ answer_from (y.rules before) (y.limits before) (y.state before) number some)
        → WritesPrefix k output now
        (answer_from (y.rules run) (y.limits run) (y.state run) 1 (running.made ++ some))
    written_on some written =
        let line = kept ++ answer_from (y.rules before) (y.limits before) (y.state before) number some in
        subst (WritesPrefix k output now)
        (ap (λ xs. running.bytes ++ xs) (append-nil line ∙ ap (λ xs. kept ++ xs) (same_answer some))
        ∙ running.answer some)
        (writes_prefix_after k output mid now running.bytes line [] running.written written)

    -- the sink fails behind the next call
    pub cut_amid : (after : Y)
        → WritesOfMade k y mid now before kept number (MakesPrefix y before after (call ∷ []))
        → WritesOfMade k y output now run [] 1 (MakesPrefix y run after calls)
    cut_amid after some = record {
      made = running.made ++ some.made;
      makes = makes_after y run before running.made running.makes running.left running.rules running.limits after
          (call ∷ []) rest calls some.made running.parts some.makes;
      written = written_on some.made some.written;
    }

    -- the next call was made, or it lacked memory
    pub stops_amid : (after : Y)
        → WritesOfMade k y mid now before kept number (StopsWithin y before after (call ∷ []))
        → WritesOfMade k y output now run [] 1 (StopsWithin y run after calls)
    stops_amid after some = record {
      made = running.made ++ some.made;
      makes = stops_after y run before running.made running.makes running.left running.rules running.limits after
          (call ∷ []) rest calls some.made running.parts some.makes;
      written = written_on some.made some.written;
    }

    -- the next call is answered
    pub goes_on : (after : Y) (kept' : List ℕ) → Gathers k mid now kept kept' next_line
        → MakesOne y before after call → k.faults now ≡ k.faults mid
        → y.kept run after → y.rules after ≡ y.rules before → y.limits after ≡ y.limits before
        → IsRunning k y output now run after kept' (number + 1) rest calls
    goes_on after kept' gathers makes still kept_on rules limits = record {
      bytes = running.bytes ++ gathers.bytes;
      written = writes_both k output mid now running.bytes gathers.bytes running.written gathers.written;
      made = running.made ++ call ∷ [];
      answer = λ more.
          let after_all = answer_from (y.rules run) (y.limits run) (y.state after) (number + 1) more in
          append_assoc running.bytes gathers.bytes (kept' ++ after_all)
          ∙ ap (λ xs. running.bytes ++ xs) (sym (append_assoc gathers.bytes kept' after_all))
          ∙ ap (λ xs. running.bytes ++ (xs ++ after_all)) gathers.rest
          ∙ ap (λ st. running.bytes
          ++ ((kept ++ next_line) ++ answer_from (y.rules run) (y.limits run) st (number + 1) more)) makes.left
          ∙ answer_on more;
      parts = append_assoc running.made (call ∷ []) rest ∙ running.parts;
      makes = makes_both y run before after running.made (call ∷ []) running.makes
          (all_of_one y before after call makes);
      left = makes.left
          ∙ left_after y run before running.made running.makes running.left running.rules running.limits (call ∷ []);
      still = still ∙ running.still;
      kept_on = kept_on;
      rules = rules ∙ running.rules;
      limits = limits ∙ running.limits;
    }

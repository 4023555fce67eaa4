-- What some calls of a script did, and what they leave.
use Rattle.std.proofs.Common.{◌≡◌, ⊎_elim, inl, inr, List, [], ◌∷◌, ◌++◌, Ok, Err, refl, sym, ap, ◌∙◌, subst}
use Rattle.std.proofs.Common.{append_assoc}
use Rattle.std.proofs.lemmas.List.{append-nil}
use Rattle.std.specs.declared.alloc.AllocError.{AllocError}
use mathlib.Core.List.{IsPrefix}
use Rattle.nio_base.specs.declared.limits.Limits.{Limits}
use Rattle.nio_language.specs.declared.call.ScriptCall.{ScriptCall}
use Rattle.nio_language.specs.declared.reply.Reply.{Reply}
use Rattle.nio_plain.proofs.CallLawsWakeups.{left_from-append}
use Rattle.nio_plain.specs.Answer.{left_from}
use Rattle.nio_plain.specs.ScriptState.{ScriptState}
use Rattle.nio_plain.specs.Seq.{seq}
use Rattle.nio_plain.specs.declared.rules.Rules.{Rules}
use Rattle.nio_plain.specs.declared.system.System as system
use Rattle.nio_script.specs.Run.{LacksNext, MakesAll, MakesOne, MakesPrefix, StopsWithin, left_by_call}

-- some calls, from the first one on, are so also behind others
begins_behind : (made some more rest calls : List ScriptCall) → made ++ (more ++ rest) ≡ calls → IsPrefix some more
    → IsPrefix (made ++ some) calls
begins_behind made some more rest calls parts begins = (
  begins.0 ++ rest,
  append_assoc made some (begins.0 ++ rest)
      ∙ ap (λ xs. made ++ xs) (sym (append_assoc some begins.0 rest) ∙ ap (λ xs. xs ++ rest) begins.1)
      ∙ parts,
)

-- calls and then more
pub makes_both : {Y : Type 0} (y : system.Ghosts Y) (run mid run' : Y) (made more : List ScriptCall)
    → MakesAll y run mid made → MakesAll y mid run' more → MakesAll y run run' (made ++ more)
makes_both y run mid run' [] more is later = subst (λ x. MakesAll y x run' more) is later
makes_both y run mid run' (c ∷ made) more all later =
    (all.0, all.1, makes_both y all.0 mid run' made more all.2 later)

module _ {Y : Type 0} (y : system.Ghosts Y) (run : Y) where
  -- the state that these calls leave
  abbrev pub left_from_run : List ScriptCall → ScriptState
  left_from_run made = left_from (y.rules run) (y.limits run) (y.state run) made

  -- the call was made, and gave this reply
  pub makes_one : (run' : Y) (c : ScriptCall) (r : Reply) → y.does run run' c (Ok r)
      → r ≡ (seq (y.rules run) (y.limits run) (y.state run) c.caller c.call).reply
      → y.state run' ≡ left_by_call (y.rules run) (y.limits run) (y.state run) c → MakesOne y run run' c
  makes_one run' c r did is left = record {
    does = subst (λ (x : Reply). y.does run run' c (Ok x)) is did;
    left = left;
  }

  -- one call is all calls
  pub all_of_one : (run' : Y) (c : ScriptCall) → MakesOne y run run' c → MakesAll y run run' (c ∷ [])
  all_of_one run' c made = (run', made, refl)

  -- no call was made
  pub makes_none : (calls : List ScriptCall) → MakesPrefix y run run calls []
  makes_none calls = record {
    begins = (calls, refl);
    makes = refl;
    left = refl;
  }

  -- the first call lacked memory
  pub lacks_first : (run' : Y) (c : ScriptCall) (e : AllocError) → y.does run run' c (Err e)
      → y.state run' ≡ y.state run → LacksNext y run run' (c ∷ []) []
  lacks_first run' c e did same = record {
    next = c;
    begins = ([], refl);
    before = run;
    makes = refl;
    error = e;
    lacks = did;
    left = same;
  }

  -- every call was made
  pub makes_all : (run' : Y) (calls : List ScriptCall) → MakesAll y run run' calls
      → y.state run' ≡ left_from_run calls → MakesPrefix y run run' calls calls
  makes_all run' calls makes left = record {
    begins = ([], append-nil calls);
    makes = makes;
    left = left;
  }

  -- the one call was made
  pub prefix_of_one : (run' : Y) (c : ScriptCall) → MakesOne y run run' c → MakesPrefix y run run' (c ∷ []) (c ∷ [])
  prefix_of_one run' c made = makes_all run' (c ∷ []) (all_of_one run' c made) made.left

  -- some calls were made, by the same rules and limits
  module _ (mid : Y) (made : List ScriptCall) (makes : MakesAll y run mid made)
      (left : y.state mid ≡ left_from_run made)
      (same_rules : y.rules mid ≡ y.rules run) (same_limits : y.limits mid ≡ y.limits run) where
    -- and then more
    pub left_after : (more : List ScriptCall)
        → left_from (y.rules mid) (y.limits mid) (y.state mid) more ≡ left_from_run (made ++ more)
    left_after more =
        ap (λ (r : Rules). left_from r (y.limits mid) (y.state mid) more) same_rules
        ∙ ap (λ (l : Limits). left_from (y.rules run) l (y.state mid) more) same_limits
        ∙ ap (λ (st : ScriptState). left_from (y.rules run) (y.limits run) st more) left
        ∙ sym (left_from-append (y.rules run) (y.limits run) (y.state run) made more)

    module _ (run' : Y) (more rest calls some : List ScriptCall) (parts : made ++ (more ++ rest) ≡ calls) where
      -- and then some of the next ones
      pub makes_after : MakesPrefix y mid run' more some → MakesPrefix y run run' calls (made ++ some)
      makes_after next = record {
        begins = begins_behind made some more rest calls parts next.begins;
        makes = makes_both y run mid run' made some makes next.makes;
        left = next.left ∙ left_after some;
      }

      -- and then one that lacked memory
      pub lacks_after : LacksNext y mid run' more some → LacksNext y run run' calls (made ++ some)
      lacks_after lacks = record {
        next = lacks.next;
        begins = subst (λ xs. IsPrefix xs calls) (sym (append_assoc made some (lacks.next ∷ [])))
            (begins_behind made (some ++ lacks.next ∷ []) more rest calls parts lacks.begins);
        before = lacks.before;
        makes = makes_both y run mid lacks.before made some makes lacks.makes;
        error = lacks.error;
        lacks = lacks.lacks;
        left = lacks.left ∙ left_after some;
      }

      -- or perhaps one that lacked memory
      pub stops_after : StopsWithin y mid run' more some → StopsWithin y run run' calls (made ++ some)
      stops_after next =
          ⊎_elim (λ (p : MakesPrefix y mid run' more some). inl (makes_after p))
          (λ (lacks : LacksNext y mid run' more some). inr (lacks_after lacks)) next

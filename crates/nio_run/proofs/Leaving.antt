-- What a script does on the table, from what its calls did with the table's only use.
use Rattle.std.proofs.Common.{◌≡◌, suc, ◌+◌, ◌<◌, ◌++◌, [], ◌∷◌, nat_lt, true, Bool, List, length, if◌then◌else◌, rules}
use Rattle.std.proofs.Common.{refl, ap, sym, ◌∙◌, subst, ◌⊎◌, inl, inr, append_assoc, arith}
use Rattle.std.proofs.Math.Logic.{∥∥₁_map}
use Rattle.std.proofs.lemmas.List.{append-nil, length-append}
use mathlib.Core.List.{IsPrefix}
use Rattle.nio_base.specs.Limits.{IsFit}
use Rattle.nio_base.specs.declared.numbers.CallerNo.{CallerNo}
use Rattle.nio_history.proofs.Stays.{facts_are_permanent}
use Rattle.nio_history.specs.Histories.{state_after, IsLegal}
use Rattle.nio_history.specs.Permanent.{caller_drawn}
use Rattle.nio_history.specs.declared.event.Event.{Event}
use Rattle.nio_language.specs.declared.call.ScriptCall.{ScriptCall}
use Rattle.nio_orderly.specs.Orderly.{IsWhole}
use Rattle.nio_plain.specs.Answer.{left_by_script, left_from}
use Rattle.nio_plain.specs.ScriptState.{ScriptState, script_opening}
use Rattle.nio_plain.specs.Seq.{seq}
use Rattle.nio_plain.specs.declared.rules.Rules.TheVariants.{Now}
use Rattle.nio_plain.specs.declared.system.System as system
use Rattle.nio_race.proofs.Promise.{owed_before}
use Rattle.nio_script.specs.Run.{LacksNext, MakesAll, MakesPrefix, StopsWithin}
use Rattle.nio_serial.specs.Documented.{Progress, documented}
use Rattle.nio_sole.proofs.ScriptLines.{line_more}
use Rattle.nio_sole.specs.Drawn.{AreAllDrawn}
use Rattle.nio_sole.specs.Said.{LacksLine}
use Rattle.nio_sole.specs.ScriptLines.{AreScriptLines}
use Rattle.nio_sole.specs.Sole.{Does, HasMadeLines, Kept, in_progress, limits_of, pass_of, rules_of, state_of, words_of}
use Rattle.nio_sole.specs.declared.sole.Sole.{Sole}
use Rattle.nio_words.specs.Passes as passes
use Rattle.nio_words.specs.Rule.{longer}
use Rattle.nio_words.specs.Sharing.{Joins}
use Rattle.nio_words.specs.declared.words.Pass.{Pass}
use Rattle.nio_words.specs.declared.words.Words.{Words}
use Rattle.nio_run.specs.Commands.{LacksNextOn, Leaves, MakesAllOn, MakesPrefixOn, StopsWithinOn}

-- the longer of a list and of one that begins with it is that one
longer_is : (xs ys : List Event) → IsPrefix xs ys → longer xs ys ≡ ys
longer_is xs ys begins = by_rest begins.0 begins.1
  where
    by_rest : (rest : List Event) → xs ++ rest ≡ ys → longer xs ys ≡ ys
    by_rest [] joined =
        subst (λ (zs : List Event). longer xs zs ≡ zs) (sym (append-nil xs) ∙ joined)
        (either (nat_lt (length xs) (length xs)))
      where
        either : (b : Bool) → (if b then xs else xs) ≡ xs
        either true = refl
        either _ = refl
    by_rest (e ∷ rest) joined =
        let more : length ys ≡ length xs + suc (length rest) = sym (ap length joined) ∙ length-append xs (e ∷ rest) in
        let less : length xs < length ys = omega (arith, more) in
        let is_less : nat_lt (length xs) (length ys) ≡ true = search rules in
        ap (λ b. if b then ys else xs) is_less

-- either way
pub either_way : {A B C D : Type 0} → (A → C) → (B → D) → A ⊎ B → C ⊎ D
either_way f g (inl a) = inl (f a)
either_way f g (inr b) = inr (g b)

-- ---- the calls of a script

-- the table's only use, as a system
abbrev pub sole_system : system.Ghosts Sole
sole_system = record { limits = limits_of; rules = rules_of; state = state_of; kept = Kept; does = Does }

-- some calls were made, and then these
calls_more : (first last : Sole) (made calls : List ScriptCall) → HasMadeLines first made
    → MakesAll sole_system first last calls
    → (words_of last ≡ words_of first) × HasMadeLines last (made ++ calls)
calls_more first last made [] has same = (
  ap words_of same,
  subst (λ (s : Sole). HasMadeLines s (made ++ [])) (sym same) (subst (HasMadeLines first) (sym (append-nil made)) has),
)
calls_more first last made (c ∷ later) has makes =
    let mid = makes.0 in
    let did = makes.1.does in
    let reply = (seq Now (limits_of first) (state_of first) c.caller c.call).reply in
    let one : HasMadeLines mid (made ++ c ∷ []) =
    subst (λ (v : Words). AreScriptLines (passes.limits_of v) (made ++ c ∷ []) (passes.seen (pass_of mid))
    (in_progress mid)) (sym did.table) (line_more (words_of first) first.desk mid.desk made c reply has did.says) in
    let rest = calls_more mid last (made ++ c ∷ []) later one makes.2 in (
      rest.0 ∙ did.table,
      subst (HasMadeLines last) (append_assoc made (c ∷ []) later) rest.1,
    )

-- What was made of a script with the table's only use is what the table shows.
pub record AreOnTable (w : Words) (first last : Sole) (after : Pass) : Type 0 where
  pub all : (calls : List ScriptCall) → MakesAll sole_system first last calls
      → state_of last ≡ left_from Now (limits_of first) (state_of first) calls → MakesAllOn w after calls
  pub some : (calls made : List ScriptCall) → MakesPrefix sole_system first last calls made
      → MakesPrefixOn w after calls made
  pub stops : (calls made : List ScriptCall) → StopsWithin sole_system first last calls made
      → StopsWithinOn w after calls made

module _ (w : Words) (first last : Sole) (kept : Kept first last) (table : words_of first ≡ w) where
  same_table : words_of last ≡ w
  same_table = kept.table ∙ table

  pub joined_table : (p : Pass) → p ≡ pass_of last
      → ((n : CallerNo) → n.0 < (limits_of last).callers → passes.IsReady (words_of last) p n) → passes.IsPassOf w p
  joined_table p is ready =
      let fit : IsFit (passes.limits_of w) = w.fit in
      let some : 0 < (limits_of last).callers = subst (λ (v : Words). 0 < (passes.limits_of v).callers) (sym same_table)
      (omega (arith, fit)) in
      subst (λ (v : Words). passes.IsPassOf v p) same_table (ready (record { 0 = 0 }) some).pass

  -- where a pass that saw what the first had seen is joined with the last, it sees what the last has seen
  sees_last : (before other after : Pass) → passes.seen before ≡ passes.seen (pass_of first)
      → other ≡ pass_of last → Joins w before other after → passes.seen after ≡ passes.seen (pass_of last)
  sees_last before other after sight is joins =
      joins.sight
      ∙ (longer_is (passes.seen before) (passes.seen other)
      (subst (λ (es : List Event). IsPrefix es (passes.seen other)) (sym sight)
      (subst (λ (p : Pass). IsPrefix (passes.seen (pass_of first)) (passes.seen p)) (sym is) kept.later))
      ∙ ap passes.seen is)

  module _ (before other after : Pass) (sight : passes.seen before ≡ passes.seen (pass_of first))
      (is : other ≡ pass_of last) (joins : Joins w before other after) where
    seen_last : passes.seen after ≡ passes.seen (pass_of last)
    seen_last = sees_last before other after sight is joins

    module _ (drawn : AreAllDrawn (limits_of first) (passes.state_seen (pass_of first)))
        (ready : (n : CallerNo) → n.0 < (limits_of last).callers → passes.IsReady (words_of last) other n)
        (whole : ∥ IsWhole (limits_of last) (passes.seen other) ∥₁) where
      whole_after : ∥ IsWhole (passes.limits_of w) (passes.seen after) ∥₁
      whole_after =
          subst (λ (v : Words). ∥ IsWhole (passes.limits_of v) (passes.seen after) ∥₁) same_table
          (subst (λ (es : List Event). ∥ IsWhole (limits_of last) es ∥₁) (sym (seen_last ∙ ap passes.seen (sym is)))
          whole)

      leaves : (st : ScriptState) → state_of last ≡ st → Leaves w after (in_progress last) st
      leaves st state = record {
        state = ap (λ (es : List Event). documented (state_after es) (in_progress last)) seen_last ∙ state;
        drawn = λ n below.
            ap (λ (es : List Event). (state_after es).drawn n.0) seen_last
            ∙ facts_are_permanent (passes.limits_of w) (passes.seen (pass_of first)) (passes.seen (pass_of last))
            kept.later (subst (IsLegal (passes.limits_of w)) seen_last joins.pass.legal) (caller_drawn n.0)
            (drawn n (subst (λ (v : Words). n.0 < (passes.limits_of v).callers) (sym table) below));
        holds = λ n below. record {
          pass = joins.pass;
          number = (joins.numbers n).1
              (inr (ready n
              (subst (λ (v : Words). n.0 < (passes.limits_of v).callers) (sym same_table) below)).number);
        };
        whole = whole_after;
        owed = λ earlier begins. ∥∥₁_map whole_after
            (λ here. owed_before (passes.limits_of w) (passes.seen after) earlier w.fit joins.pass.legal begins here);
      }

      module _ (opening : state_of first ≡ script_opening) (none : HasMadeLines first []) where
        -- the state that these calls leave
        left_by : (made : List ScriptCall) → left_from Now (limits_of first) (state_of first) made
            ≡ left_by_script Now (passes.limits_of w) made
        left_by made =
            ap (λ (st : ScriptState). left_from Now (limits_of first) st made) opening
            ∙ ap (λ (v : Words). left_by_script Now (passes.limits_of v) made) table

        -- what one of the same table has made
        lines_on : (some : Sole) (made : List ScriptCall) → MakesAll sole_system first some made
            → AreScriptLines (passes.limits_of w) made (passes.seen (pass_of some)) (in_progress some)
        lines_on some made makes =
            let calls = calls_more first some [] made none makes in
            subst (λ (v : Words). AreScriptLines (passes.limits_of v) made (passes.seen (pass_of some)) (in_progress some))
            (calls.0 ∙ table) calls.1

        makes_all_on : (calls : List ScriptCall) → MakesAll sole_system first last calls
            → state_of last ≡ left_from Now (limits_of first) (state_of first) calls → MakesAllOn w after calls
        makes_all_on calls makes left = record {
          now = in_progress last;
          lines = subst (λ (es : List Event). AreScriptLines (passes.limits_of w) calls es (in_progress last))
              (sym seen_last) (lines_on last calls makes);
          left = leaves (left_by_script Now (passes.limits_of w) calls) (left ∙ left_by calls);
        }

        makes_prefix_on : (calls made : List ScriptCall) → MakesPrefix sole_system first last calls made
            → MakesPrefixOn w after calls made
        makes_prefix_on calls made some = record {
          begins = some.begins;
          makes = makes_all_on made some.makes some.left;
        }

        lacks_next_on : (calls made : List ScriptCall) → LacksNext sole_system first last calls made
            → LacksNextOn w after calls made
        lacks_next_on calls made some =
            let before = some.before in
            let same : words_of before ≡ w = (calls_more first before [] made none some.makes).0 ∙ table in
            let lacks : LacksLine (passes.limits_of w) (in_progress before) some.next
            (passes.seen (pass_of before)) (passes.seen (pass_of last)) =
            subst (λ (v : Words). LacksLine (passes.limits_of v) (in_progress before) some.next
            (passes.seen (pass_of before)) (passes.seen (pass_of last))) same some.lacks.says.lacks in
            record {
              next = some.next;
              begins = some.begins;
              before = passes.seen (pass_of before);
              now = in_progress before;
              lines = lines_on before made some.makes;
              lacks = subst (λ (es : List Event). LacksLine (passes.limits_of w) (in_progress before) some.next
                  (passes.seen (pass_of before)) es) (sym seen_last) lacks;
              left = subst (λ (now : Progress). Leaves w after now (left_by_script Now (passes.limits_of w) made))
                  some.lacks.says.still
                  (leaves (left_by_script Now (passes.limits_of w) made) (some.left ∙ left_by made));
            }

        stops_within_on : (calls made : List ScriptCall) → StopsWithin sole_system first last calls made
            → StopsWithinOn w after calls made
        stops_within_on calls made some = either_way (makes_prefix_on calls made) (lacks_next_on calls made) some

        pub on_table : AreOnTable w first last after
        on_table = record { all = makes_all_on; some = makes_prefix_on; stops = stops_within_on }

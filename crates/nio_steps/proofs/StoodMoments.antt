-- When what a beginning selection with the selector's list has on it stood.
use Rattle.std.proofs.Common.{◌≡◌, ℕ, zero, suc, ◌/◌, ◌<◌, nat_lt, Bool, true, false}
use Rattle.std.proofs.Common.{Ok, Some, List, [], ◌∷◌, ◌++◌, refl, ap, sym, ◌∙◌, subst, append_assoc, eq-eqb, arith}
use Rattle.std.specs.List.{Contains}
use mathlib.Core.List.{IsPrefix}
use Rattle.std.proofs.lemmas.Bool.{or_from, lt-ltb, ltb-true, ltb-false}
use Rattle.std.proofs.lemmas.List.{append-nil}
use Rattle.std.proofs.lemmas.List.Elements.{All-contains, Contains-append_left, Contains-append_right}
use Rattle.nio_base.specs.declared.limits.Limits.{Limits}
use Rattle.nio_base.specs.declared.numbers.CallerNo.{CallerNo}
use Rattle.nio_base.specs.declared.numbers.SelNo.{SelNo}
use Rattle.nio_history.proofs.Legal.{legal_beginning, legal_next}
use Rattle.nio_history.proofs.OneMore.{mine-append, has_none-append}
use Rattle.nio_history.proofs.Selections.{key_set_stays}
use Rattle.nio_history.proofs.Stays.{facts_are_permanent, only_itself_gives_back}
use Rattle.nio_history.specs.Answers.{Answers, index_at}
use Rattle.nio_history.specs.Conditions.{has_begun}
use Rattle.nio_history.specs.Histories.{state_after, mine, event_of, IsStep, IsLegal}
use Rattle.nio_history.specs.Holders.{Keeps}
use Rattle.nio_history.specs.Lists.{IsRight}
use Rattle.nio_history.specs.OwnEvents.{has, gives_turn}
use Rattle.nio_history.specs.Permanent.{a_selection, below_keys_high}
use Rattle.nio_history.specs.Pins.{removes}
use Rattle.nio_history.specs.Questions.{Question, question_of, answer_of}
use Rattle.nio_history.specs.Sets.{is_valid}
use Rattle.nio_history.specs.State.{State}
use Rattle.nio_history.specs.declared.act.Act.{Act}
use Rattle.nio_history.specs.declared.act.Act.TheVariants.{LookInterest, LookKeys, LookTouched, TakeTouched, LookIndex}
use Rattle.nio_history.specs.declared.act.Act.TheVariants.{BeginLook}
use Rattle.nio_history.specs.declared.event.Event.{Event}
use Rattle.nio_history.specs.declared.found.IndexWord.{IndexWord}
use Rattle.nio_history.specs.declared.found.Mode.{Mode}
use Rattle.nio_history.specs.declared.found.Stage.{Stage}
use Rattle.nio_steps.proofs.BeginLaws.{Begun, begin-parts}
use Rattle.nio_steps.proofs.Enlisted.{entry_stands, listed_there}
use Rattle.nio_steps.proofs.ListedBy.{keys-look}
use Rattle.nio_steps.proofs.IndexOutcomes.{IsClear, by_look, by_taking, Outcome, is_clear, is_removed, is_found}
use Rattle.nio_steps.proofs.IndexOutcomes.{is_outside, FoundListed, begin-outcome}
use Rattle.nio_steps.proofs.Lists.{parted}
use Rattle.nio_steps.proofs.OwnActs.{at_own, mine-own_first, part_at}
use Rattle.nio_steps.proofs.OwnSteps.{step_at}
use Rattle.nio_steps.proofs.Relisted.{as_listed}
use Rattle.nio_steps.proofs.SelectionLaws.{asks_give, not-gives, none_of-append}
use Rattle.nio_steps.proofs.StandLaws.{look-act, begun_since, over-keeps}
use Rattle.nio_steps.proofs.Unlisted.{unlisted-cons}
use Rattle.nio_steps.proofs.ValidKeys.{valid_here, valid_in_set, in_set-fits}
use Rattle.nio_steps.proofs.WhereUntouched.{clear_untouched, untouched_stands}
use Rattle.nio_steps.specs.ChannelCalls.{words_below}
use Rattle.nio_steps.specs.ListLaws.{lists_index, StoodThen, WasValid, HadInterest}
use Rattle.nio_steps.specs.Lists.{KnowsList, IsFoundBelow, listed_at}
use Rattle.nio_steps.specs.Looking.{look_at_keys}
use Rattle.nio_steps.specs.Runs.{Completes}
use Rattle.nio_steps.specs.SelectCalls.{Selection, Begins}
use Rattle.nio_steps.specs.Steps.{gate_in, index_in, number_in, operations_in, word_in}
use Rattle.nio_steps.specs.declared.looked.LookedKey.{LookedKey}

-- What a caller with the list did since the selection began: `opened` is the history up to the look by which it began,
-- after `start`, and `later` the one since; `since` is what the caller did after it had gone over the keys.
pub record IsOpened (l : Limits) (n : CallerNo) (start opened later : List Event) (s : SelNo) (known : List LookedKey)
    (bound : ℕ) (looked : List LookedKey) (since : List Act) : Type 0 where
  pub legal : IsLegal l ((start ++ opened) ++ later)
  pub knows : KnowsList l n start s known
  pub unlisted : (i : ℕ) → has (lists_index s.0 i) (mine n opened) ≡ false
  pub begun : has_begun (state_after (start ++ opened)) n s ≡ true
  pub keys : Act
  pub over : List Act
  pub own : mine n later ≡ keys ∷ (over ++ since)
  pub asks_keys : question_of keys ≡ Question.look_keys s
  pub bound_is : bound ≡ number_in (answer_of keys)
  pub runs_over : Completes (look_at_keys s bound (Some known)) over looked

-- a look at a high-water mark, and another one later: it doesn't fall
marks_rise : (l : Limits) (n : CallerNo) (start opened later : List Event) (s : SelNo) (mark bound : ℕ) (ys : List Act)
    → IsLegal l ((start ++ opened) ++ later) → Contains (mine n start) (LookKeys s mark)
    → mine n later ≡ LookKeys s bound ∷ ys → mark < suc bound
marks_rise l n start opened later s mark bound ys legal look own =
    let first = at_own n start (LookKeys s mark) look in
    let second = step_at l n (start ++ opened) later [] (LookKeys s bound) ys legal own in
    let rest : List Event = event_of n (LookKeys s mark) ∷ (first.later ++ (opened ++ later)) in
    let whole : (start ++ opened) ++ later ≡ first.past ++ rest
    = ap (λ events. (events ++ opened) ++ later) first.parts ∙ simp append_assoc in
    let legal_rest : IsLegal l (first.past ++ rest) = subst (IsLegal l) whole legal in
    let is : mark ≡ (state_after first.past).keys_high s.0
    = ap number_in (legal_next l first.past (event_of n (LookKeys s mark)) (first.later ++ (opened ++ later))
    legal_rest).answers in
    let between : List Event = event_of n (LookKeys s mark) ∷ (first.later ++ (opened ++ second.past)) in
    let joined : (start ++ opened) ++ second.past ≡ first.past ++ between
    = ap (λ events. (events ++ opened) ++ second.past) first.parts ∙ simp append_assoc in
    let now : bound ≡ (state_after ((start ++ opened) ++ second.past)).keys_high s.0 = ap number_in second.step.answers in
    by_mark mark is
    (λ m low. ltb-true m bound
    (ap (λ (b : ℕ). nat_lt m b) now
    ∙ facts_are_permanent l first.past ((start ++ opened) ++ second.past) (between, sym joined) second.legal_past
    (below_keys_high s.0 m) (lt-ltb m ((state_after first.past).keys_high s.0) low)))
  where
    by_mark : (x : ℕ) → x ≡ (state_after (at_own n start (LookKeys s mark) look).past).keys_high s.0
        → ((m : ℕ) → m < (state_after (at_own n start (LookKeys s mark) look).past).keys_high s.0 → m < bound)
        → x < suc bound
    by_mark zero same below = omega arith
    by_mark (suc m) same below = let low = below m (omega (arith, same)) in omega (arith, low)

module _ (l : Limits) (n : CallerNo) (start opened later : List Event) (s : SelNo) (known : List LookedKey)
    (bound : ℕ) (looked : List LookedKey) (since : List Act)
    (o : IsOpened l n start opened later s known bound looked since) where
  keys-is : o.keys ≡ LookKeys s bound
  keys-is = keys-look s o.keys o.asks_keys ∙ ap (LookKeys s) (sym o.bound_is)

  over-gives : has (gives_turn s.0) o.over ≡ false
  over-gives = over-keeps s bound (Some known) o.over looked o.runs_over

  -- a time since the selection began at which this stood; the caller did `acts` from then on till it had gone over the
  -- keys
  pub record Moment (i : ℕ) (Fact : State → Type 0) : Type 0 where
    pub past : List Event
    pub rest : List Event
    pub parts : later ≡ past ++ rest
    pub legal_past : IsLegal l ((start ++ opened) ++ past)
    pub begun_then : has_begun (state_after ((start ++ opened) ++ past)) n s ≡ true
    pub acts : List Act
    pub own : mine n rest ≡ acts ++ since
    pub gives : has (gives_turn s.0) acts ≡ false
    pub spares : has (removes s.0 i) acts ≡ false
    pub fact : Fact (state_after ((start ++ opened) ++ past))

  -- what the caller did in the whole call
  pub own_whole : mine n (opened ++ later) ≡ mine n opened ++ o.keys ∷ (o.over ++ since)
  own_whole = mine-append n opened later ∙ ap (λ xs. mine n opened ++ xs) o.own

  pub contained : (act : Act) → Contains o.over act → Contains (mine n (opened ++ later)) act
  contained act there =
      subst (λ xs. Contains xs act) (sym own_whole)
      (Contains-append_right (mine n opened) (o.keys ∷ (o.over ++ since)) act
      (Contains-append_right (o.keys ∷ []) (o.over ++ since) act (Contains-append_left o.over since act there)))

  pub legal_whole : IsLegal l (start ++ (opened ++ later))
  legal_whole = subst (IsLegal l) (append_assoc start opened later) o.legal

  -- a moment in the whole history
  pub moment_parts : {i : ℕ} {Fact : State → Type 0} (then : Moment i Fact)
      → start ++ (opened ++ later) ≡ ((start ++ opened) ++ then.past) ++ then.rest
  moment_parts then =
      sym (append_assoc start opened later) ∙ (ap (λ events. (start ++ opened) ++ events) then.parts
      ∙ sym (append_assoc (start ++ opened) then.past then.rest))

  pub moment_begins : {i : ℕ} {Fact : State → Type 0} (then : Moment i Fact)
      → IsPrefix start ((start ++ opened) ++ then.past)
  moment_begins then = (opened ++ then.past, sym (append_assoc start opened then.past))

  -- just before a step among those that go over the keys
  record Among (act : Act) (ys : List Act) : Type 0 where
    past : List Event
    rest : List Event
    parts : later ≡ past ++ event_of n act ∷ rest
    step : IsStep l ((start ++ opened) ++ past) (event_of n act)
    legal_past : IsLegal l ((start ++ opened) ++ past)
    begun_then : has_begun (state_after ((start ++ opened) ++ past)) n s ≡ true
    own : mine n (event_of n act ∷ rest) ≡ (act ∷ ys) ++ since
    gives : has (gives_turn s.0) (act ∷ ys) ≡ false
    unlisted : (i : ℕ) → has (lists_index s.0 i) o.over ≡ false
        → has (lists_index s.0 i) (mine n (opened ++ past)) ≡ false

  among : (act : Act) (xs ys : List Act) → o.over ≡ xs ++ act ∷ ys → Among act ys
  among act xs ys parts =
      let own : mine n later ≡ (o.keys ∷ xs) ++ act ∷ (ys ++ since) = o.own
      ∙ ap (λ zs. o.keys ∷ zs) (ap (λ zs. zs ++ since) parts ∙ append_assoc xs (act ∷ ys) since) in
      let at = step_at l n (start ++ opened) later (o.keys ∷ xs) act (ys ++ since) o.legal own in
      let gives = has_none-append (gives_turn s.0) xs (act ∷ ys) (ap (has (gives_turn s.0)) (sym parts) ∙ over-gives) in
      let gives_past : has (gives_turn s.0) (mine n at.past) ≡ false = ap (has (gives_turn s.0)) at.own_past
      ∙ or_from _ _ (not-gives s.0 o.keys (ap (asks_give s.0) o.asks_keys)) gives.0 in
      record {
        past = at.past;
        rest = at.rest;
        parts = at.parts;
        step = at.step;
        legal_past = at.legal_past;
        begun_then = only_itself_gives_back l n (start ++ opened) at.past at.legal_past (a_selection s) gives_past o.begun;
        own = mine-own_first n (event_of n act) at.rest (eq-eqb n.0 n.0 refl) ∙ ap (λ zs. act ∷ zs) at.own_rest;
        gives = gives.1;
        unlisted = λ i none.
            ap (has (lists_index s.0 i))
            (mine-append n opened at.past ∙ ap (λ zs. mine n opened ++ zs) at.own_past)
            ∙ none_of-append (lists_index s.0 i) (mine n opened) (o.keys ∷ xs) (o.unlisted i)
            (unlisted-cons s.0 i o.keys xs _ o.asks_keys refl
            (has_none-append (lists_index s.0 i) xs (act ∷ ys)
            (ap (has (lists_index s.0 i)) (sym parts) ∙ none)).0);
      }

  -- a step that shows that the index isn't touched
  right-then : (i : ℕ) (act : Act) → Contains o.over act → has (lists_index s.0 i) o.over ≡ false
      → has (removes s.0 i) o.over ≡ false
      → ((st : State) → Answers st n act → st.touched s.0 i ≡ false)
      → Moment i (λ st. IsRight st s i (listed_at known i))
  right-then i act there lists spares shows =
      let cut = parted o.over act there in
      let at = among act cut.past cut.later cut.parts in
      let joined : start ++ (opened ++ at.past) ≡ (start ++ opened) ++ at.past = sym (append_assoc start opened at.past) in
      let untouched = shows (state_after ((start ++ opened) ++ at.past)) at.step.answers in
      record {
        past = at.past;
        rest = event_of n act ∷ at.rest;
        parts = at.parts;
        legal_past = at.legal_past;
        begun_then = at.begun_then;
        acts = act ∷ cut.later;
        own = at.own;
        gives = at.gives;
        spares = (has_none-append (removes s.0 i) cut.past (act ∷ cut.later)
            (ap (has (removes s.0 i)) (sym cut.parts) ∙ spares)).1;
        fact = subst (λ events. IsRight (state_after events) s i (listed_at known i)) joined
            (untouched_stands l n s i known start (opened ++ at.past) o.knows
            (subst (IsLegal l) (sym joined) at.legal_past) (at.unlisted i lists)
            (subst (λ events. has_begun (state_after events) n s ≡ true) (sym joined) at.begun_then)
            (subst (λ events. (state_after events).touched s.0 i ≡ false) (sym joined) untouched));
      }

  pub clear-right : (i : ℕ) → IsClear s i o.over → has (lists_index s.0 i) o.over ≡ false
      → has (removes s.0 i) o.over ≡ false → Moment i (λ st. IsRight st s i (listed_at known i))
  clear-right i (by_look word there clear) lists spares =
      right-then i (LookTouched s (i / 64) word) there lists spares
      (λ st answers. clear_untouched st s.0 i word (ap word_in answers) clear)
  clear-right i (by_taking word there clear) lists spares =
      right-then i (TakeTouched s (i / 64) word) there lists spares
      (λ st answers. clear_untouched st s.0 i word (ap word_in answers) clear)

  -- ---- a key of the list

  pub record StoodKey (key : LookedKey) : Type 0 where
    pub valid : Moment key.index (WasValid s key)
    pub interest : StoodThen (start ++ opened) later (HadInterest s key)

  -- it was on the list, and its index wasn't touched
  known-stood : (key : LookedKey) → Contains known key
      → Moment key.index (λ st. IsRight st s key.index (listed_at known key.index)) → StoodKey key
  known-stood key there then =
      let i = key.index in
      let st = state_after ((start ++ opened) ++ then.past) in
      let e = as_listed key in
      let is = entry_stands st s.0 i e (sym (listed_there known key o.knows.right.rise there) ∙ then.fact.stands) in
      record {
        valid = record {
          past = then.past;
          rest = then.rest;
          parts = then.parts;
          legal_past = then.legal_past;
          begun_then = then.begun_then;
          acts = then.acts;
          own = then.own;
          gives = then.gives;
          spares = then.spares;
          fact = record {
            valid = valid_here l ((start ++ opened) ++ then.past) s.0 i key.serial then.legal_past is.valid is.serial;
            channel = is.channel;
          };
        };
        interest = record {
          past = then.past;
          rest = then.rest;
          parts = then.parts;
          stood = record { serial = is.serial; interest = is.interest };
        };
      }

  -- it was found by the looks at its index
  found-valid : (key : LookedKey) (found : FoundListed s o.over key) → Moment key.index (WasValid s key)
  found-valid key found =
      let i = key.index in
      let act = LookIndex s i found.word in
      let at = among act found.before found.later found.parts in
      let st = state_after ((start ++ opened) ++ at.past) in
      let is : found.word ≡ index_at st s.0 i = ap index_in at.step.answers in
      let k : Stage = st.key s.0 i in
      let stage_is : k ≡ found.word.stage = ap (λ (w : IndexWord). w.stage) (sym is) in
      record {
        past = at.past;
        rest = event_of n act ∷ at.rest;
        parts = at.parts;
        legal_past = at.legal_past;
        begun_then = at.begun_then;
        acts = act ∷ found.later;
        own = at.own;
        gives = at.gives;
        spares = or_from _ _ refl found.spared;
        fact = record {
          valid = valid_here l ((start ++ opened) ++ at.past) s.0 i key.serial at.legal_past
              (ap is_valid stage_is ∙ found.valid) (ap (λ (x : Stage). x.serial) stage_is ∙ found.serial);
          channel = ap (λ (x : Stage). x.chan) stage_is ∙ found.channel;
        };
      }

  -- it has its interest set then, at a later time
  interest-then : (key : LookedKey) (then : Moment key.index (WasValid s key))
      → Contains then.acts (LookInterest s key.index key.interest)
      → StoodThen (start ++ opened) later (HadInterest s key)
  interest-then key then there =
      let i = key.index in
      let act = LookInterest s i key.interest in
      let cut = parted then.acts act there in
      let before = (start ++ opened) ++ then.past in
      let joined : before ++ then.rest ≡ (start ++ opened) ++ later = append_assoc (start ++ opened) then.past then.rest
      ∙ ap (λ events. (start ++ opened) ++ events) (sym then.parts) in
      let own : mine n then.rest ≡ cut.past ++ act ∷ (cut.later ++ since) = then.own
      ∙ (ap (λ zs. zs ++ since) cut.parts ∙ append_assoc cut.past (act ∷ cut.later) since) in
      let at = step_at l n before then.rest cut.past act (cut.later ++ since) (subst (IsLegal l) (sym joined) o.legal)
      own in
      let gives = (has_none-append (gives_turn s.0) cut.past (act ∷ cut.later)
      (ap (has (gives_turn s.0)) (sym cut.parts) ∙ then.gives)).0 in
      let spares = (has_none-append (removes s.0 i) cut.past (act ∷ cut.later)
      (ap (has (removes s.0 i)) (sym cut.parts) ∙ then.spares)).0 in
      let keeps : Keeps l n (a_selection s) before at.past = record {
        legal = at.legal_past;
        has_it = then.begun_then;
        kept = ap (has (gives_turn s.0)) at.own_past ∙ gives;
      } in
      let set = key_set_stays l n s before at.past keeps (record { index = i; serial = key.serial })
      (ap (has (removes s.0 i)) at.own_past ∙ spares)
      (valid_in_set ((state_after before).key s.0 i) key.serial then.fact.valid) in
      let st = state_after (before ++ at.past) in
      let stood : HadInterest s key st = record {
        serial = (in_set-fits (st.key s.0 i) key.serial set).1;
        interest = sym (ap operations_in at.step.answers);
      } in
      record {
        past = then.past ++ at.past;
        rest = event_of n act ∷ at.rest;
        parts = then.parts ∙ (ap (λ events. then.past ++ events) at.parts
            ∙ sym (append_assoc then.past at.past (event_of n act ∷ at.rest)));
        stood = subst (λ events. HadInterest s key (state_after events))
            (append_assoc (start ++ opened) then.past at.past) stood;
      }

  found-stood : (key : LookedKey) → FoundListed s o.over key → StoodKey key
  unfolding found-valid
  found-stood key found =
      let then = found-valid key found in
      record {
        valid = then;
        interest = interest-then key then
            (Contains-append_right (LookIndex s key.index found.word ∷ []) found.later
            (LookInterest s key.index key.interest) found.interest);
      }

  -- the keys of the list are below the bound
  known-below : (key : LookedKey) → Contains known key → key.index / 64 < words_below bound
  known-below key there =
      let below = All-contains (λ e. IsFoundBelow (mine n start) s e.index) known key o.knows.right.below there in
      let rises = marks_rise l n start opened later s below.mark bound (o.over ++ since) o.legal below.found
      (o.own ∙ ap (λ act. act ∷ (o.over ++ since)) keys-is) in
      omega (arith, below.below, rises)

  by_outcome : (key : LookedKey) → Contains looked key → Outcome s key.index known o.over looked → StoodKey key
  by_outcome key there (is_clear clear left) =
      known-stood key (All-contains (λ e. e.index ≡ key.index → Contains known e) looked key left.kept there refl)
      (clear-right key.index clear left.lists left.spares)
  by_outcome key there (is_removed found gone none) =
      absurd (All-contains (λ e. e.index ≡ key.index → ⊥) looked key none there refl)
  by_outcome key there (is_found other at found only) =
      let same = All-contains (λ e. e.index ≡ key.index → e ≡ other) looked key only there refl in
      found-stood key (subst (FoundListed s o.over) (sym same) found)
  by_outcome key there (is_outside word looks outside none) =
      absurd (All-contains (λ e. e.index ≡ key.index → ⊥) looked key none there refl)

  pub key-stood : (key : LookedKey) → Contains looked key → StoodKey key
  key-stood key there = by_place (nat_lt (key.index / 64) (words_below bound)) refl
    where
      by_place : (b : Bool) → nat_lt (key.index / 64) (words_below bound) ≡ b → StoodKey key
      by_place true low =
          by_outcome key there
          ((begin-outcome s key.index known bound o.over looked o.runs_over).passed
          (ltb-true (key.index / 64) (words_below bound) low))
      by_place false low =
          let high = ltb-false (key.index / 64) (words_below bound) low in
          let left = (begin-outcome s key.index known bound o.over looked o.runs_over).ahead high in
          absurd (omega (
            arith,
            high,
            known-below key
                (All-contains (λ e. e.index ≡ key.index → Contains known e) looked key left.kept there refl),
          ))

-- ---- a beginning

-- a beginning that was cut after the look by which it began
pub opened-at : (l : Limits) (n : CallerNo) (start opened later : List Event) (s : SelNo) (mode : Mode)
    (known : List LookedKey) (acts : List Act) (selection : Selection) (since : List Act)
    (begun : Begun s mode (Some known) acts selection)
    → IsLegal l ((start ++ opened) ++ later) → KnowsList l n start s known
    → mine n opened ≡ begun.gate ∷ begun.take ∷ begun.look ∷ []
    → mine n later ≡ begun.keys ∷ (begun.over ++ since)
    → IsOpened l n start opened later s known selection.bound selection.looked since
opened-at l n start opened later s mode known acts selection since begun legal knows own_opened own_later =
    let found = gate_in (answer_of begun.look) in
    let first = mine n start ++ begun.gate ∷ begun.take ∷ [] in
    let own : mine n (start ++ opened) ≡ first ++ BeginLook s found ∷ []
    = mine-append n start opened
    ∙ (ap (λ xs. mine n start ++ xs) own_opened
    ∙ (ap (λ act. mine n start ++ begun.gate ∷ begun.take ∷ act ∷ []) (look-act s begun.look begun.asks_look)
    ∙ sym (append_assoc (mine n start) (begun.gate ∷ begun.take ∷ []) (BeginLook s found ∷ [])))) in
    record {
      legal = legal;
      knows = knows;
      unlisted = λ i. ap (has (lists_index s.0 i)) own_opened
          ∙ unlisted-cons s.0 i begun.gate (begun.take ∷ begun.look ∷ []) _ begun.asks_gate refl
          (unlisted-cons s.0 i begun.take (begun.look ∷ []) _ begun.asks_take refl
          (unlisted-cons s.0 i begun.look [] _ begun.asks_look refl refl));
      begun = begun_since l n (start ++ opened) s first found [] (legal_beginning l (start ++ opened) later legal) own
          begun.opens refl;
      keys = begun.keys;
      over = begun.over;
      own = own_later;
      asks_keys = begun.asks_keys;
      bound_is = begun.bound;
      runs_over = begun.runs_over;
    }

-- a beginning in a history, cut after the look by which it began
pub record CutCall (l : Limits) (n : CallerNo) (start call : List Event) (s : SelNo) (known : List LookedKey)
    (selection : Selection) : Type 0 where
  pub opened : List Event
  pub later : List Event
  pub parts : call ≡ opened ++ later
  pub is : IsOpened l n start opened later s known selection.bound selection.looked []

pub cut_call : (l : Limits) (n : CallerNo) (start call : List Event) (s : SelNo) (mode : Mode) (known : List LookedKey)
    (selection : Selection) → IsLegal l (start ++ call) → KnowsList l n start s known
    → Begins s mode (Some known) (mine n call) (Ok selection) → CutCall l n start call s known selection
cut_call l n start call s mode known selection legal knows run =
    let begun = begin-parts s mode (Some known) (mine n call) selection run in
    let cut = part_at n call (begun.gate ∷ begun.take ∷ begun.look ∷ []) (begun.keys ∷ begun.over) begun.parts in
    let joined : (start ++ cut.past) ++ cut.later ≡ start ++ call = append_assoc start cut.past cut.later
    ∙ ap (λ events. start ++ events) (sym cut.parts) in
    record {
      opened = cut.past;
      later = cut.later;
      parts = cut.parts;
      is = opened-at l n start cut.past cut.later s mode known (mine n call) selection [] begun
          (subst (IsLegal l) (sym joined) legal) knows cut.mine_past
          (cut.mine_later ∙ ap (λ xs. begun.keys ∷ xs) (sym (append-nil begun.over)));
    }

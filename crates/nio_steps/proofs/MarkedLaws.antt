-- A selection marks keys that it looked at and that are in the key set.
use Rattle.std.proofs.Common.{◌≡◌, ℕ, ◌≤◌, ◌||◌, Bool, true, false, Result, List, [], ◌∷◌, ◌++◌, refl, ap}
use Rattle.std.proofs.Common.{None}
use Rattle.nio_steps.proofs.BeginLaws.{unlisted-parts}
use Rattle.std.proofs.Common.{sym, ◌∙◌, subst, append_assoc, eq-eqb, arith}
use Rattle.std.specs.List.{All, Contains}
use Rattle.std.proofs.lemmas.Bool.{or_from}
use Rattle.std.proofs.lemmas.List.{append-nil}
use Rattle.std.proofs.lemmas.List.Elements.{All-contains}
use Rattle.std.proofs.lemmas.List.Folds.{list_any-append}
use Rattle.nio_base.specs.declared.limits.Limits.{Limits}
use Rattle.nio_base.specs.declared.numbers.CallerNo.{CallerNo}
use Rattle.nio_base.specs.declared.numbers.SelNo.{SelNo}
use Rattle.nio_history.proofs.KeyChanges.{KeepsStages, stages_keep}
use Rattle.nio_history.proofs.Legal.{legal_beginning, legal_next}
use Rattle.nio_history.proofs.OneMore.{state_after-more, mine-append, has_none-append}
use Rattle.nio_history.proofs.Selections.{key_set_stays}
use Rattle.nio_history.specs.Histories.{state_after, mine, event_of, IsLegal}
use Rattle.nio_history.specs.Holders.{Keeps}
use Rattle.nio_history.specs.Permanent.{a_selection}
use Rattle.nio_history.specs.OwnEvents.{has, gives_turn}
use Rattle.nio_history.specs.Pins.{removes}
use Rattle.nio_history.specs.Questions.{question_of, answer_of}
use Rattle.nio_history.specs.Sets.{is_in_key_set, is_valid}
use Rattle.nio_history.specs.State.{State}
use Rattle.nio_history.specs.Turns.{removes_on}
use Rattle.nio_history.specs.declared.act.Act.{Act}
use Rattle.nio_history.specs.declared.act.Act.TheVariants.{LookKey, BeginLook, Mark}
use Rattle.nio_history.specs.declared.event.Event.{Event}
use Rattle.nio_history.specs.declared.found.Mark.{Mark as KeyMark}
use Rattle.nio_history.specs.declared.found.Stage.{Stage}
use Rattle.nio_steps.proofs.EachLaws.{each_run, split}
use Rattle.nio_steps.proofs.Lists.{contains-middle}
use Rattle.nio_steps.proofs.LookedLaws.{found_valid}
use Rattle.nio_steps.proofs.OwnActs.{cut_at, mine-own_first}
use Rattle.nio_steps.proofs.SelectionLaws.{NoMark, Replies, after-replies, asks_mark, marks-no_give, marks-no_remove}
use Rattle.nio_steps.proofs.SelectionLaws.{removes_none, not-gives, asks_give}
use Rattle.nio_steps.proofs.StandLaws.{look-act, begun_since, over-keeps}
use Rattle.nio_steps.proofs.ToldLaws.{marks_only_as_told}
use Rattle.nio_steps.proofs.ValidKeys.{valid_here, valid_in_set, in_set-fits}
use Rattle.nio_steps.specs.Laws.{MarksLookedKey, MarksLookedKeys}
use Rattle.nio_steps.specs.SelectCalls.{Selection, Poll, Tells, ToldReply, mark_entry, after_marks, told_plan}
use Rattle.nio_steps.specs.Selections.{IsBegun}
use Rattle.nio_steps.specs.Steps.{stage_in, gate_in}
use Rattle.nio_steps.specs.Sweeps.{sweep_over}
use Rattle.nio_steps.specs.declared.looked.LookedKey.{LookedKey}

-- ---- a key keeps its channel

-- the index was claimed by then; its serial rises, and while it has the same one its key is of the same channel
record KeepsChannel (was k : Stage) : Type 0 where
  claimed : k.claimed ≡ true
  serial : was.serial ≤ k.serial
  channel : k.serial ≡ was.serial → k.chan ≡ was.chan

both_ways : (b : Bool) → b ≡ true → b ≡ false → ⊥
both_ways true is is_not = cc is_not
both_ways false is is_not = cc is

keeps_channel-stages : (st : State) (was : Stage) (s i : ℕ)
    → KeepsStages (λ _. Unit {0}) st (λ a b k. a ≡ s → b ≡ i → KeepsChannel was k)
keeps_channel-stages st was s i = record {
  claimed = λ s' i' c unclaimed old at_s at_i. absurd
      (both_ways (st.key s'.0 i').claimed (old at_s at_i).claimed unclaimed);
  published = λ s' i' found may old at_s at_i. let o = old at_s at_i in
      record { claimed = o.claimed; serial = o.serial; channel = o.channel };
  cancelled = λ s' i' found may old at_s at_i. let o = old at_s at_i in
      record { claimed = o.claimed; serial = o.serial; channel = o.channel };
  removed = λ s' i' found may old at_s at_i. let o = old at_s at_i in
      record { claimed = o.claimed; serial = o.serial; channel = o.channel };
  again = λ s' i' c from may unpinned old at_s at_i.
      let low = (old at_s at_i).serial in
      record { claimed = refl; serial = omega (arith, low); channel = λ same. absurd (omega (arith, low, same)) };
}

keeps_channel : (l : Limits) (was : Stage) (s i : ℕ) (past later : List Event) → IsLegal l (past ++ later)
    → KeepsChannel was ((state_after past).key s i)
    → KeepsChannel was ((state_after (past ++ later)).key s i)
keeps_channel l was s i past [] legal here =
    subst (λ events. KeepsChannel was ((state_after events).key s i)) (sym (append-nil past)) here
keeps_channel l was s i past (e ∷ later) legal here =
    let st : State = state_after past in
    let step = legal_next l past e later legal in
    let joined : (past ++ e ∷ []) ++ later ≡ past ++ e ∷ later = append_assoc past (e ∷ []) later in
    let next = stages_keep (λ _. Unit {0}) st e.caller (λ a b k. a ≡ s → b ≡ i → KeepsChannel was k)
    (keeps_channel-stages st was s i) e.act tt step.answers s i (λ _ _. here) refl refl in
    subst (λ events. KeepsChannel was ((state_after events).key s i)) joined
    (keeps_channel l was s i (past ++ e ∷ []) later (subst (IsLegal l) (sym joined) legal)
    (subst (λ (x : State). KeepsChannel was (x.key s i)) (sym (state_after-more past e)) next))

-- ---- what a caller did before a mark

-- what none of the first acts is, none before this one is, which isn't among the others
none_before : (p q : Act → Bool) (xs : List Act) (x : Act) (ys us vs : List Act) → xs ++ x ∷ ys ≡ us ++ vs → p x ≡ true
    → All (λ act. p act ≡ false) vs → has q us ≡ false → has q xs ≡ false
none_before p q [] x ys us vs same it none_vs none_us = refl
none_before p q (a ∷ xs) x ys [] vs same it none_vs none_us =
    absurd (both_ways (p x) it
    (All-contains (λ act. p act ≡ false) vs x none_vs
    (subst (λ acts. Contains acts x) same (contains-middle (a ∷ xs) x ys))))
none_before p q (a ∷ xs) x ys (u ∷ us) vs same it none_vs none_us =
    let first : a ≡ u = cc same in
    let rest : xs ++ x ∷ ys ≡ us ++ vs = cc same in
    let parts = or_none (q u) (has q us) none_us in
    or_from (q a) (has q xs) (ap q first ∙ parts.0) (none_before p q xs x ys us vs rest it none_vs parts.1)
  where
    or_none : (b c : Bool) → (b || c) ≡ false → (b ≡ false) × (c ≡ false)
    or_none true c none = absurd (cc none)
    or_none false c none = (refl, none)

-- a key of the key set stays there, with its channel, while the caller selects and doesn't remove it
pub key_stays : (l : Limits) (n : CallerNo) (s : SelNo) (entry : LookedKey) (past later : List Event)
    → Keeps l n (a_selection s) past later → has (removes s.0 entry.index) (mine n later) ≡ false
    → is_in_key_set ((state_after past).key s.0 entry.index) entry.serial ≡ true
    → ((state_after past).key s.0 entry.index).chan ≡ entry.channel
    → (is_in_key_set ((state_after (past ++ later)).key s.0 entry.index) entry.serial ≡ true)
    × (((state_after (past ++ later)).key s.0 entry.index).chan ≡ entry.channel)
key_stays l n s entry past later keeps spared here channel_is =
    let i = entry.index in
    let k : Stage = (state_after past).key s.0 i in
    let now = (state_after (past ++ later)).key s.0 i in
    let its = in_set-fits k entry.serial here in
    let set = key_set_stays l n s past later keeps (record { index = i; serial = entry.serial }) spared here in
    let same : now.serial ≡ k.serial = (in_set-fits now entry.serial set).1 ∙ sym its.1 in
    let channel =
    (keeps_channel l k s.0 i past later keeps.legal
    (record { claimed = its.0; serial = omega arith; channel = λ _. refl })).channel same in
    (set, channel ∙ channel_is)

-- ---- the key stays till a mark

module _ (l : Limits) (n : CallerNo) (before past : List Event) (selection : Selection) (entry : LookedKey)
    (legal : IsLegal l (before ++ past)) (begun : IsBegun (mine n before) selection)
    (unlisted : selection.listed ≡ false)
    (there : Contains selection.looked entry) (no_give : has (gives_turn selection.selector.0) (mine n past) ≡ false)
    (no_remove : has (removes_on selection.selector.0) (mine n past) ≡ false) where
  stays : (is_in_key_set ((state_after (before ++ past)).key selection.selector.0 entry.index) entry.serial ≡ true)
      × (((state_after (before ++ past)).key selection.selector.0 entry.index).chan ≡ entry.channel)
  stays =
      let s = selection.selector in
      let i = entry.index in
      let first = unlisted-parts (mine n before) selection begun unlisted in
      let looked = found_valid s selection.bound first.over selection.looked entry first.runs_over there in
      let stage = looked.stage in
      let found = gate_in (answer_of first.look) in
      let e0 = event_of n (LookKey s i stage) in
      -- the history up to the look at the key
      let earlier = begun.earlier ++ first.gate ∷ first.take ∷ [] in
      let middle = first.keys ∷ looked.before in
      let to_look : List Act = earlier ++ BeginLook s found ∷ middle in
      let since : List Act = looked.later ++ begun.since in
      let own : mine n before ≡ to_look ++ LookKey s i stage ∷ since
      = begun.parts ∙ (ap (λ xs. begun.earlier ++ (xs ++ begun.since)) first.parts
      ∙ (ap (λ x. begun.earlier ++ ((first.gate ∷ first.take ∷ x ∷ first.keys ∷ first.over) ++ begun.since))
      (look-act s first.look first.asks_look)
      ∙ (ap (λ xs. begun.earlier
      ++ ((first.gate ∷ first.take ∷ BeginLook s found ∷ first.keys ∷ xs) ++ begun.since))
      looked.parts ∙ simp append_assoc))) in
      let cut = cut_at n before to_look (LookKey s i stage) since own in
      let later : List Event = e0 ∷ (cut.later ++ past) in
      let joined : cut.past ++ later ≡ before ++ past = sym (append_assoc cut.past (e0 ∷ cut.later) past)
      ∙ ap (λ events. events ++ past) (sym cut.parts) in
      let legal' : IsLegal l (cut.past ++ later) = subst (IsLegal l) (sym joined) legal in
      let legal_past = legal_beginning l cut.past later legal' in
      -- the caller has begun there
      let over_keeps = over-keeps s selection.bound None first.over selection.looked first.runs_over in
      let over_parts : has (gives_turn s.0) (looked.before ++ LookKey s i stage ∷ looked.later)
      ≡ false = ap (has (gives_turn s.0)) (sym looked.parts) ∙ over_keeps in
      let before_keeps : has (gives_turn s.0) looked.before ≡ false
      = (has_none-append (gives_turn s.0) looked.before (LookKey s i stage ∷ looked.later) over_parts).0 in
      let later_keeps : has (gives_turn s.0) (LookKey s i stage ∷ looked.later)
      ≡ false
      = (has_none-append (gives_turn s.0) looked.before (LookKey s i stage ∷ looked.later) over_parts).1 in
      let middle_keeps : has (gives_turn s.0) middle ≡ false
      = or_from _ _ (not-gives s.0 first.keys (ap (asks_give s.0) first.asks_keys)) before_keeps in
      let has_begun_there = begun_since l n cut.past s earlier found middle legal_past cut.mine_past first.opens
      middle_keeps in
      -- what the caller did from there on
      let acts : mine n later ≡ LookKey s i stage ∷ (since ++ mine n past)
      = mine-own_first n e0 (cut.later ++ past) (eq-eqb n.0 n.0 refl)
      ∙ ap (λ xs. LookKey s i stage ∷ xs)
      (mine-append n cut.later past ∙ ap (λ xs. xs ++ mine n past) cut.mine_later) in
      let keeps_since : has (gives_turn s.0) since ≡ false = list_any-append (gives_turn s.0) looked.later begun.since
      ∙ or_from _ _ later_keeps begun.goes_on in
      let kept : has (gives_turn s.0) (mine n later) ≡ false = ap (has (gives_turn s.0)) acts
      ∙ (list_any-append (gives_turn s.0) since (mine n past) ∙ or_from _ _ keeps_since no_give) in
      let spares_since : has (removes s.0 i) since ≡ false
      = list_any-append (removes s.0 i) looked.later begun.since
      ∙ or_from _ _ looked.spared (removes_none s.0 i begun.since begun.unremoved) in
      let spared : has (removes s.0 i) (mine n later) ≡ false
      = ap (has (removes s.0 i)) acts
      ∙ (list_any-append (removes s.0 i) since (mine n past)
      ∙ or_from _ _ spares_since (removes_none s.0 i (mine n past) no_remove)) in
      -- what the look found
      let st = state_after cut.past in
      let k : Stage = st.key s.0 i in
      let is : stage ≡ k = ap stage_in (legal_next l cut.past e0 (cut.later ++ past) legal').answers in
      let here = valid_in_set k entry.serial
      (valid_here l cut.past s.0 i entry.serial legal_past (ap is_valid (sym is) ∙ looked.valid)
      (ap (λ (x : Stage). x.serial) (sym is) ∙ looked.serial)) in
      let keeps : Keeps l n (a_selection s) cut.past later = record {
        legal = legal';
        has_it = has_begun_there;
        kept = kept;
      } in
      subst (λ events. (is_in_key_set ((state_after events).key s.0 i) entry.serial ≡ true)
      × (((state_after events).key s.0 i).chan ≡ entry.channel)) joined
      (key_stays l n s entry cut.past later keeps spared here
      (ap (λ (x : Stage). x.chan) (sym is) ∙ looked.channel))

-- ---- the law

-- where each looked key stays in the key set till a mark
pub marks_where_kept : (l : Limits) (n : CallerNo) (before past later : List Event) (selection : Selection) (poll : Poll)
    (answer : ToldReply) (s : SelNo) (i told : ℕ) (from : KeyMark) (found : Result (Unit {0}) KeyMark)
    → IsLegal l (before ++ (past ++ event_of n (Mark s i from told found) ∷ later))
    → Tells selection poll (mine n (past ++ event_of n (Mark s i from told found) ∷ later)) answer
    → ((entry : LookedKey) → Contains selection.looked entry → IsLegal l (before ++ past)
    → has (gives_turn selection.selector.0) (mine n past) ≡ false
    → has (removes_on selection.selector.0) (mine n past) ≡ false
    → (is_in_key_set ((state_after (before ++ past)).key selection.selector.0 entry.index) entry.serial ≡ true)
    × (((state_after (before ++ past)).key selection.selector.0 entry.index).chan ≡ entry.channel))
    → MarksLookedKey (state_after (before ++ past)) selection poll.pairs s i told
unfolding told_plan
marks_where_kept l n before past later selection poll answer s i told from found legal run kept =
    let act = Mark s i from told found in
    let e = event_of n act in
    let acts : mine n (past ++ e ∷ later) ≡ mine n past ++ act ∷ mine n later = mine-append n past (e ∷ later)
    ∙ ap (λ xs. mine n past ++ xs) (mine-own_first n e later (eq-eqb n.0 n.0 refl)) in
    let as_told = marks_only_as_told selection poll (mine n (past ++ e ∷ later)) answer run s i told from found
    (subst (λ xs. Contains xs act) (sym acts) (contains-middle (mine n past) act (mine n later))) in
    let t = selection.selector in
    let parts = split (sweep_over selection.looked (mark_entry t poll.pairs) 0) (after_marks selection poll.elapsed)
    (mine n (past ++ e ∷ later)) answer run in
    let no_marks =
    (each_run (NoMark t.0) (Replies selection parts.middle) (after_marks selection poll.elapsed parts.middle)
    parts.second answer (after-replies selection poll.elapsed parts.middle) parts.runs_second).0 in
    let is_mark : asks_mark t.0 (question_of act) ≡ true = eq-eqb s.0 t.0
    (ap (λ (x : SelNo). x.0) as_told.on_selector) in
    let none = λ (q : Act → Bool) (none_first : has q parts.first ≡ false).
    none_before (λ a. asks_mark t.0 (question_of a)) q (mine n past) act (mine n later) parts.first parts.second
    (sym acts ∙ parts.parts) is_mark no_marks none_first in
    let no_give = none (gives_turn t.0)
    (marks-no_give t poll.pairs selection.looked parts.first parts.middle parts.runs_first) in
    let no_remove = none (removes_on t.0)
    (marks-no_remove t poll.pairs selection.looked parts.first parts.middle parts.runs_first) in
    let legal' : IsLegal l (before ++ past) = legal_beginning l (before ++ past) (e ∷ later)
    (subst (IsLegal l) (sym (append_assoc before past (e ∷ later))) legal) in
    let entry = as_told.entry in
    let here = kept entry as_told.looked legal' no_give no_remove in
    let st = state_after (before ++ past) in
    let at = subst (λ (j : ℕ). (is_in_key_set (st.key t.0 j) entry.serial ≡ true)
    × ((st.key t.0 j).chan ≡ entry.channel)) as_told.at_index here in
    let at_s = subst (λ (x : SelNo). (is_in_key_set (st.key x.0 i) entry.serial ≡ true)
    × ((st.key x.0 i).chan ≡ entry.channel)) (sym as_told.on_selector) at in
    record { as_told = as_told; in_set = at_s.0; channel = at_s.1 }

pub marks_looked_keys : MarksLookedKeys
marks_looked_keys l n before past later selection poll answer s i told from found legal begun unlisted run =
    marks_where_kept l n before past later selection poll answer s i told from found legal run
    (λ entry looked legal' no_give no_remove. stays l n before past selection entry legal' begun unlisted looked no_give
    no_remove)

-- A selection with the selector's list marks keys of the list that are in the key set.
use Rattle.std.proofs.Common.{◌≡◌, Some, List, [], ◌∷◌, ◌++◌, false, true, ap, sym, ◌∙◌, subst, append_assoc}
use Rattle.std.specs.List.{Contains}
use Rattle.std.proofs.lemmas.List.{append_cancel_left}
use Rattle.nio_base.specs.declared.limits.Limits.{Limits}
use Rattle.nio_base.specs.declared.numbers.CallerNo.{CallerNo}
use Rattle.nio_history.proofs.OneMore.{mine-append}
use Rattle.nio_history.specs.Histories.{state_after, mine, IsLegal}
use Rattle.nio_history.specs.Holders.{Keeps}
use Rattle.nio_history.specs.OwnEvents.{has, gives_turn}
use Rattle.nio_history.specs.Permanent.{a_selection}
use Rattle.nio_history.specs.Pins.{removes}
use Rattle.nio_history.specs.Sets.{is_in_key_set}
use Rattle.nio_history.specs.Turns.{removes_on}
use Rattle.nio_history.specs.declared.event.Event.{Event}
use Rattle.nio_steps.proofs.BeginLaws.{Begun, begin-parts}
use Rattle.nio_steps.proofs.MarkedLaws.{key_stays, marks_where_kept}
use Rattle.nio_steps.proofs.OwnActs.{part_at}
use Rattle.nio_steps.proofs.SelectionLaws.{none_of-append, removes_none}
use Rattle.nio_steps.proofs.StoodMoments.{key-stood, opened-at}
use Rattle.nio_steps.proofs.ValidKeys.{valid_in_set}
use Rattle.nio_steps.specs.ListLaws.{MarksListedKeys}
use Rattle.nio_steps.specs.Lists.{KnowsList}
use Rattle.nio_steps.specs.SelectCalls.{Selection}
use Rattle.nio_steps.specs.Selections.{IsBegun}
use Rattle.nio_steps.specs.declared.looked.LookedKey.{LookedKey}

module _ (l : Limits) (n : CallerNo) (start between past : List Event) (selection : Selection) (known : List LookedKey)
    (entry : LookedKey)
    (legal : IsLegal l ((start ++ between) ++ past)) (knows : KnowsList l n start selection.selector known)
    (begun : IsBegun (mine n (start ++ between)) selection) (earlier_is : begun.earlier ≡ mine n start)
    (known_is : begun.known ≡ Some known) (there : Contains selection.looked entry)
    (no_give : has (gives_turn selection.selector.0) (mine n past) ≡ false)
    (no_remove : has (removes_on selection.selector.0) (mine n past) ≡ false) where
  listed-stays : (is_in_key_set ((state_after ((start ++ between) ++ past)).key selection.selector.0 entry.index)
      entry.serial ≡ true)
      × (((state_after ((start ++ between) ++ past)).key selection.selector.0 entry.index).chan ≡ entry.channel)
  listed-stays =
      let s = selection.selector in
      let i = entry.index in
      let first = subst (λ known'. Begun s selection.mode known' begun.beginning selection) known_is
      (begin-parts s selection.mode begun.known begun.beginning selection begun.begins) in
      -- what the caller did since `start`
      let since = begun.since ++ mine n past in
      let own_between : mine n between ≡ begun.beginning ++ begun.since
      = append_cancel_left (mine n start) (mine n between) (begun.beginning ++ begun.since)
      (sym (mine-append n start between)
      ∙ (begun.parts ∙ ap (λ xs. xs ++ (begun.beginning ++ begun.since)) earlier_is)) in
      let own : mine n (between ++ past)
      ≡ (first.gate ∷ first.take ∷ first.look ∷ []) ++ first.keys ∷ (first.over ++ since)
      = mine-append n between past
      ∙ (ap (λ xs. xs ++ mine n past) (own_between ∙ ap (λ xs. xs ++ begun.since) first.parts)
      ∙ ap (λ xs. first.gate ∷ first.take ∷ first.look ∷ first.keys ∷ xs)
      (append_assoc first.over begun.since (mine n past))) in
      let cut = part_at n (between ++ past) (first.gate ∷ first.take ∷ first.look ∷ [])
      (first.keys ∷ (first.over ++ since)) own in
      let joined : (start ++ cut.past) ++ cut.later ≡ (start ++ between) ++ past
      = append_assoc start cut.past cut.later
      ∙ (ap (λ events. start ++ events) (sym cut.parts) ∙ sym (append_assoc start between past)) in
      let o = opened-at l n start cut.past cut.later s selection.mode known begun.beginning selection since first
      (subst (IsLegal l) (sym joined) legal) knows cut.mine_past cut.mine_later in
      -- the time at which the key was valid
      let then =
      (key-stood l n start cut.past cut.later s known selection.bound selection.looked since o entry there).valid in
      let before = (start ++ cut.past) ++ then.past in
      let whole : before ++ then.rest ≡ (start ++ between) ++ past
      = append_assoc (start ++ cut.past) then.past then.rest
      ∙ (ap (λ events. (start ++ cut.past) ++ events) (sym then.parts) ∙ joined) in
      let keeps : Keeps l n (a_selection s) before then.rest = record {
        legal = subst (IsLegal l) (sym whole) legal;
        has_it = then.begun_then;
        kept = ap (has (gives_turn s.0)) then.own
            ∙ none_of-append (gives_turn s.0) then.acts since then.gives
            (none_of-append (gives_turn s.0) begun.since (mine n past) begun.goes_on no_give);
      } in
      let spared : has (removes s.0 i) (mine n then.rest) ≡ false = ap (has (removes s.0 i)) then.own
      ∙ none_of-append (removes s.0 i) then.acts since then.spares
      (none_of-append (removes s.0 i) begun.since (mine n past)
      (removes_none s.0 i begun.since begun.unremoved) (removes_none s.0 i (mine n past) no_remove)) in
      subst (λ events. (is_in_key_set ((state_after events).key s.0 i) entry.serial ≡ true)
      × (((state_after events).key s.0 i).chan ≡ entry.channel)) whole
      (key_stays l n s entry before then.rest keeps spared
      (valid_in_set ((state_after before).key s.0 i) entry.serial then.fact.valid) then.fact.channel)

pub marks_listed_keys : MarksListedKeys
marks_listed_keys l n start between past later selection known poll answer s i told from found legal knows begun
    earlier_is known_is run =
    marks_where_kept l n (start ++ between) past later selection poll answer s i told from found legal run
    (λ entry looked legal' no_give no_remove. listed-stays l n start between past selection known entry legal' knows
    begun earlier_is known_is looked no_give no_remove)

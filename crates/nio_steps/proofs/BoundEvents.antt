-- What happened where a selection marks a key twice: it was taken out of the selected set meanwhile.
use Rattle.std.proofs.Common.{◌≡◌, ℕ, ◌<◌, ◌≤◌, ◌==◌, ◌&&◌, ◌||◌, cond, nat_lt, not, Bool, true, false, if◌then◌else◌}
use Rattle.std.proofs.Common.{Result, Ok, Err, List, [], ◌∷◌, ◌++◌, map, refl, ap, sym, ◌∙◌, subst, append_assoc}
use Rattle.std.proofs.Common.{eq-eqb, eqb-true, arith}
use Rattle.std.specs.Bool.{beq}
use Rattle.std.proofs.lemmas.Bool.{and_parts, and_from, or_from, lt-ltb}
use Rattle.std.proofs.lemmas.List.{append-nil, map-append}
use Rattle.std.proofs.lemmas.List.Folds.{list_any-append}
use Rattle.nio_base.specs.Limits.{IsFit}
use Rattle.nio_base.specs.declared.limits.Limits.{Limits}
use Rattle.nio_base.specs.declared.numbers.CallerNo.{CallerNo}
use Rattle.nio_base.specs.declared.numbers.SelNo.{SelNo}
use Rattle.nio_history.proofs.LastsAlone.{same_two}
use Rattle.nio_history.proofs.Legal.{legal_beginning, legal_next}
use Rattle.nio_history.proofs.OneMore.{state_after-more, mine-append, has_none-append}
use Rattle.nio_history.proofs.Put.{put_at_keeps}
use Rattle.nio_history.proofs.Selections.{key_set_stays, selects_alone}
use Rattle.nio_history.proofs.Soundness.{legal-sound, beyond-claimed}
use Rattle.nio_history.proofs.Stays.{only_itself_gives_back}
use Rattle.nio_history.proofs.Unpublished.{unpublished_keys_stay}
use Rattle.nio_history.proofs.Within.{legal-within}
use Rattle.nio_history.specs.Acts.{effect}
use Rattle.nio_history.specs.Answers.{is_same_mark, exchange_from}
use Rattle.nio_history.specs.Conditions.{Condition, has_begun}
use Rattle.nio_history.specs.Histories.{state_after, mine, event_of, IsStep, IsLegal}
use Rattle.nio_history.specs.Holders.{Keeps}
use Rattle.nio_history.specs.Permanent.{a_selection}
use Rattle.nio_history.specs.OwnEvents.{has, count, gives_turn}
use Rattle.nio_history.specs.Pins.{removes}
use Rattle.nio_history.specs.Sets.{fits, in_key_set, is_in_key_set}
use Rattle.nio_history.specs.State.{State}
use Rattle.nio_history.specs.Turns.{selects_on}
use Rattle.nio_history.specs.declared.act.Act.{Act}
use Rattle.nio_history.specs.declared.act.Act.TheVariants.{LookKey, LookMark, Mark, UnselectBit, ClearMark}
use Rattle.nio_history.specs.declared.event.Event.{Event}
use Rattle.nio_history.specs.declared.found.Mark.{Mark as KeyMark}
use Rattle.nio_steps.proofs.LookedLaws.{FoundValid}
use Rattle.nio_steps.proofs.OwnActs.{cut_at, mine-own_first}
use Rattle.nio_steps.proofs.SelectionLaws.{count-append, count-cons}
use Rattle.nio_steps.specs.Bound.{unselects}
use Rattle.nio_steps.specs.Steps.{stage_in, mark_in, exchange_in}
use Rattle.nio_steps.specs.declared.looked.LookedKey.{LookedKey}

-- ---- where a test of the state turned

pub record Turned (test : State → Bool) (past later : List Event) : Type 0 where
  pub middle : List Event
  pub event : Event
  pub rest : List Event
  pub parts : later ≡ middle ++ event ∷ rest
  pub was : test (state_after (past ++ middle)) ≡ true
  pub turns : test (effect (state_after (past ++ middle)) event.caller event.act) ≡ false

pub turned : (test : State → Bool) (past later : List Event) → test (state_after past) ≡ true
    → test (state_after (past ++ later)) ≡ false → Turned test past later
turned test past [] was now =
    absurd (cc (sym was ∙ (ap (λ events. test (state_after events)) (sym (append-nil past)) ∙ now)))
turned test past (e ∷ later) was now =
    by_test (test (effect (state_after past) e.caller e.act)) refl (turned test (past ++ e ∷ []) later)
  where
    first : past ++ [] ≡ past
    first = append-nil past

    joined : (past ++ e ∷ []) ++ later ≡ past ++ e ∷ later
    joined = append_assoc past (e ∷ []) later

    by_test : (b : Bool) → test (effect (state_after past) e.caller e.act) ≡ b
        → (test (state_after (past ++ e ∷ [])) ≡ true → test (state_after ((past ++ e ∷ []) ++ later)) ≡ false
        → Turned test (past ++ e ∷ []) later) → Turned test past (e ∷ later)
    by_test false is rec = record {
      middle = [];
      event = e;
      rest = later;
      parts = refl;
      was = ap (λ events. test (state_after events)) first ∙ was;
      turns = ap (λ events. test (effect (state_after events) e.caller e.act)) first ∙ is;
    }
    by_test true is rec =
        let further = rec (ap test (state_after-more past e) ∙ is)
        (ap (λ events. test (state_after events)) joined ∙ now) in
        let same : (past ++ e ∷ []) ++ further.middle ≡ past ++ e ∷ further.middle = append_assoc past
        (e ∷ []) further.middle in
        record {
          middle = e ∷ further.middle;
          event = further.event;
          rest = further.rest;
          parts = ap (λ events. e ∷ events) further.parts;
          was = ap (λ events. test (state_after events)) (sym same) ∙ further.was;
          turns = ap (λ events. test (effect (state_after events) further.event.caller further.event.act)) (sym same)
              ∙ further.turns;
        }

both_ways : (b : Bool) → b ≡ true → b ≡ false → ⊥
both_ways true is is_not = cc is_not
both_ways false is is_not = cc is

-- ---- taking out of the selected set

abbrev unselects_at : ℕ → ℕ → Act → Bool
unselects_at s i (UnselectBit s' i' found) = (s'.0 == s) && (i' == i)
unselects_at s i _ = false

unselects_below : (s i bound : ℕ) (act : Act) → i < bound → unselects_at s i act ≡ true → unselects s bound act ≡ true
unselects_below s i bound (UnselectBit s' i' found) low is =
    let both = and_parts (s'.0 == s) (i' == i) is in
    let same : i' ≡ i = eqb-true i' i both.1 in
    and_from (s'.0 == s) (nat_lt i' bound) both.0 (lt-ltb i' bound (omega (arith, low, same)))
unselects_below s i bound act low is = absurd (cc is)

abbrev changes_mark : ℕ → ℕ → Act → Bool
changes_mark s i (Mark s' i' from told found) = (s'.0 == s) && (i' == i)
changes_mark s i (UnselectBit s' i' found) = (s'.0 == s) && (i' == i)
changes_mark s i (ClearMark s' i' found) = (s'.0 == s) && (i' == i)
changes_mark s i _ = false

mark_kept : (st : State) (me : CallerNo) (act : Act) (s i : ℕ) (was : KeyMark) → changes_mark s i act ≡ false
    → is_same_mark (st.mark s i) was ≡ true → is_same_mark ((effect st me act).mark s i) was ≡ true
mark_kept st me (Mark s' i' from told found) s i was other = λ now.
    put_at_keeps (λ m t k. ((s'.0 == m) && (i' == t)) ≡ false → is_same_mark k was ≡ true) st.mark s'.0 i' _
    (λ _ other'. absurd (both_ways ((s'.0 == s'.0) && (i' == i')) (same_two s'.0 i') other')) s i (λ _. now) other
mark_kept st me (UnselectBit s' i' found) s i was other = λ now.
    put_at_keeps (λ m t k. ((s'.0 == m) && (i' == t)) ≡ false → is_same_mark k was ≡ true) st.mark s'.0 i' _
    (λ _ other'. absurd (both_ways ((s'.0 == s'.0) && (i' == i')) (same_two s'.0 i') other')) s i (λ _. now) other
mark_kept st me (ClearMark s' i' found) s i was other = λ now.
    put_at_keeps (λ m t k. ((s'.0 == m) && (i' == t)) ≡ false → is_same_mark k was ≡ true) st.mark s'.0 i' _
    (λ _ other'. absurd (both_ways ((s'.0 == s'.0) && (i' == i')) (same_two s'.0 i') other')) s i (λ _. now) other
mark_kept st me act s i was other = λ now. now

same_as_itself : (was : KeyMark) → is_same_mark was was ≡ true
same_as_itself was =
    and_from (beq was.selected was.selected) (was.ready == was.ready) (by_bool was.selected)
    (eq-eqb was.ready was.ready refl)
  where
    by_bool : (b : Bool) → beq b b ≡ true
    by_bool true = refl
    by_bool false = refl

-- ---- counting

-- an event among others counts
pub counted : (p : Act → Bool) (before : List Event) (e : Event) (after : List Event) → p e.act ≡ true
    → 1 ≤ count p (map (λ x. x.act) (before ++ e ∷ after))
counted p before e after is =
    let acts : map (λ x. x.act) (before ++ e ∷ after) ≡ map (λ x. x.act) before ++ e.act ∷ map (λ x. x.act) after =
    map-append (λ x. x.act) before (e ∷ after) in
    let all = ap (count p) acts ∙ count-append p (map (λ x. x.act) before) (e.act ∷ map (λ x. x.act) after) in
    let one : cond {A = ℕ} (p e.act) 1 0 ≡ 1 = ap (λ (b : Bool). cond {A = ℕ} b 1 0) is in
    omega (arith, all, one, count-cons p e.act (map (λ x. x.act) after))

not_exchanged : (from stood found : KeyMark) → Err found ≡ exchange_from from stood → is_same_mark stood from ≡ false
not_exchanged from stood found is = by_test (is_same_mark stood from) is
  where
    exchanged : Bool → Result (Unit {0}) KeyMark
    exchanged b = if b then Ok tt else Err stood

    by_test : (b : Bool) → Err found ≡ exchanged b → b ≡ false
    by_test true is' = absurd (cc is')
    by_test false is' = refl

never_empty : (xs : List Act) (act : Act) → xs ++ act ∷ [] ≡ [] → ⊥
never_empty [] act is = cc is
never_empty (x ∷ xs) act is = cc is

first_none : (xs ys : List Act) → xs ++ ys ≡ [] → xs ≡ []
first_none [] ys is = refl
first_none (x ∷ xs) ys is = absurd (cc is)

-- ---- a key that stays

-- Within these events, which follow `start`, the index had a key of the key set, and the caller hasn't removed it since.
pub record HadKey (n : CallerNo) (start events : List Event) (s : SelNo) (i : ℕ) : Type 0 where
  pub earlier : List Event
  pub later : List Event
  pub parts : events ≡ earlier ++ later
  pub stood : in_key_set ((state_after (start ++ earlier)).key s.0 i) ≡ true
  pub spared : has (removes s.0 i) (mine n later) ≡ false

pub had_key-more : (n : CallerNo) (start events more : List Event) (s : SelNo) (i : ℕ)
    → has (removes s.0 i) (mine n more) ≡ false → HadKey n start events s i → HadKey n start (events ++ more) s i
had_key-more n start events more s i spares had = record {
  earlier = had.earlier;
  later = had.later ++ more;
  parts = ap (λ es. es ++ more) had.parts ∙ append_assoc had.earlier had.later more;
  stood = had.stood;
  spared = ap (has (removes s.0 i)) (mine-append n had.later more)
      ∙ (list_any-append (removes s.0 i) (mine n had.later) (mine n more) ∙ or_from _ _ had.spared spares);
}

-- ---- while a selection is in progress

-- the caller has begun on the selector after `start`, and keeps the turn in `window`
module _ (l : Limits) (n : CallerNo) (start window : List Event) (s : SelNo) (fit : IsFit l)
    (legal : IsLegal l (start ++ window)) (begun : has_begun (state_after start) n s ≡ true)
    (none_gives : has (gives_turn s.0) (mine n window) ≡ false) where
  -- the history up to a place in the window
  legal_at : (xs ys : List Event) → window ≡ xs ++ ys → IsLegal l (start ++ xs)
  legal_at xs ys parts =
      let joined : start ++ window ≡ (start ++ xs) ++ ys = ap (λ w. start ++ w) parts
      ∙ sym (append_assoc start xs ys) in
      legal_beginning l (start ++ xs) ys (subst (IsLegal l) joined legal)

  step_at : (xs : List Event) (e : Event) (ys : List Event) → window ≡ xs ++ e ∷ ys → IsStep l (start ++ xs) e
  step_at xs e ys parts =
      let joined : (xs ++ e ∷ []) ++ ys ≡ xs ++ e ∷ ys = append_assoc xs (e ∷ []) ys in
      legal_next l (start ++ xs) e []
      (subst (IsLegal l) (sym (append_assoc start xs (e ∷ []))) (legal_at (xs ++ e ∷ []) ys (parts ∙ sym joined)))

  gives_none : (xs ys : List Event) → window ≡ xs ++ ys → has (gives_turn s.0) (mine n xs) ≡ false
  gives_none xs ys parts =
      (has_none-append (gives_turn s.0) (mine n xs) (mine n ys)
      (ap (has (gives_turn s.0)) (sym (mine-append n xs ys))
      ∙ (ap (λ w. has (gives_turn s.0) (mine n w)) (sym parts) ∙ none_gives))).0

  begun_at : (xs ys : List Event) → window ≡ xs ++ ys → has_begun (state_after (start ++ xs)) n s ≡ true
  begun_at xs ys parts =
      only_itself_gives_back l n start xs (legal_at xs ys parts) (a_selection s) (gives_none xs ys parts) begun

  -- the key that a look found valid
  pub found_had : (xs ys : List Event) (entry : LookedKey) → window ≡ xs ++ ys → FoundValid s (mine n xs) entry
      → HadKey n start xs s entry.index
  found_had xs ys entry parts valid =
      let i = entry.index in
      let e = event_of n (LookKey s i valid.stage) in
      let cut = cut_at n xs valid.before (LookKey s i valid.stage) valid.later valid.parts in
      let at : window ≡ cut.past ++ e ∷ (cut.later ++ ys) = parts ∙ (ap (λ es. es ++ ys) cut.parts
      ∙ append_assoc cut.past (e ∷ cut.later) ys) in
      let is : valid.stage ≡ (state_after (start ++ cut.past)).key s.0 i = ap stage_in
      (step_at cut.past e (cut.later ++ ys) at).answers in
      record {
        earlier = cut.past;
        later = e ∷ cut.later;
        parts = cut.parts;
        stood = ap in_key_set (sym is)
            ∙ (and_parts (in_key_set valid.stage) (not valid.stage.cancelled) valid.valid).0;
        spared = ap (has (removes s.0 i)) (mine-own_first n e cut.later (eq-eqb n.0 n.0 refl))
            ∙ or_from (removes s.0 i (LookKey s i valid.stage)) _ refl
            (ap (has (removes s.0 i)) cut.mine_later ∙ valid.spared);
      }

  -- such a key is published at each moment, and its index is below the limit
  in_set_at : (i : ℕ) (xs ys : List Event) → window ≡ xs ++ ys → HadKey n start xs s i
      → (((state_after (start ++ xs)).key s.0 i).published ≡ true) × (i < l.keys)
  in_set_at i xs ys parts had =
      let st = state_after (start ++ had.earlier) in
      let first : window ≡ had.earlier ++ (had.later ++ ys) = parts ∙ (ap (λ es. es ++ ys) had.parts
      ∙ append_assoc had.earlier had.later ys) in
      let legal_first = legal_at had.earlier (had.later ++ ys) first in
      let is_published : (st.key s.0 i).published
      ≡ true = (and_parts (st.key s.0 i).published (not (st.key s.0 i).removed) had.stood).0 in
      let claimed : (st.key s.0 i).claimed ≡ true = beyond-claimed st (legal-sound l (start ++ had.earlier) legal_first)
      s.0 i (ap (λ (b : Bool). b || (st.key s.0 i).cancelled || (st.key s.0 i).removed) is_published) in
      let serial = (st.key s.0 i).serial in
      let here : is_in_key_set (st.key s.0 i) serial ≡ true
      = and_from (fits (st.key s.0 i) serial) (in_key_set (st.key s.0 i))
      (and_from (st.key s.0 i).claimed (serial == serial) claimed (eq-eqb serial serial refl)) had.stood in
      let joined : (start ++ had.earlier) ++ had.later ≡ start ++ xs = append_assoc start had.earlier had.later
      ∙ ap (λ es. start ++ es) (sym had.parts) in
      let keeps : Keeps l n (a_selection s) (start ++ had.earlier) had.later = record {
        legal = subst (IsLegal l) (sym joined) (legal_at xs ys parts);
        has_it = begun_at had.earlier (had.later ++ ys) first;
        kept = (has_none-append (gives_turn s.0) (mine n had.earlier) (mine n had.later)
            (ap (has (gives_turn s.0)) (sym (mine-append n had.earlier had.later)
            ∙ ap (mine n) (sym had.parts)) ∙ gives_none xs ys parts)).1;
      } in
      let set = key_set_stays l n s (start ++ had.earlier) had.later keeps (record { index = i; serial = serial })
      had.spared here in
      let now = (state_after ((start ++ had.earlier) ++ had.later)).key s.0 i in (
        ap (λ es. ((state_after es).key s.0 i).published) (sym joined)
            ∙ (and_parts now.published (not now.removed) (and_parts (fits now serial) (in_key_set now) set).1).0,
        ((legal-within l (start ++ had.earlier) legal_first).keys s.0 i claimed).1,
      )

  pub had_below : (i : ℕ) (xs ys : List Event) → window ≡ xs ++ ys → HadKey n start xs s i → i < l.keys
  had_below i xs ys parts had = (in_set_at i xs ys parts had).1

  -- ---- a mark that changed just before it was marked was taken out of the selected set

  module _ (i bound : ℕ) (low : i < bound) (was : KeyMark) (w0 w2 ys : List Event)
      (parts : window ≡ (w0 ++ event_of n (LookMark s i was) ∷ w2) ++ ys) (had : HadKey n start w0 s i)
      (mine_w2 : mine n w2 ≡ []) where
    abbrev e1 : Event
    e1 = event_of n (LookMark s i was)

    abbrev test : State → Bool
    test st = is_same_mark (st.mark s.0 i) was

    had_at : (xs : List Event) → mine n xs ≡ [] → HadKey n start (w0 ++ e1 ∷ xs) s i
    had_at xs none =
        had_key-more n start w0 (e1 ∷ xs) s i
        (ap (has (removes s.0 i)) (mine-own_first n e1 xs (eq-eqb n.0 n.0 refl)
        ∙ ap (λ acts. LookMark s i was ∷ acts) none)) had

    -- an event that changed the mark takes the key out of the selected set
    by_act : (xs : List Event) (e : Event) (ys' : List Event) → window ≡ (w0 ++ e1 ∷ xs) ++ e ∷ ys'
        → mine n (xs ++ e ∷ []) ≡ [] → (act : Act) → e.act ≡ act → changes_mark s.0 i act ≡ true
        → unselects_at s.0 i act ≡ true
    by_act xs e ys' at none (UnselectBit s' i' found') is changes = changes
    by_act xs e ys' at none (Mark s' i' from told' found') is changes =
        let keeps : Keeps l n (a_selection s) start ((w0 ++ e1 ∷ xs) ++ e ∷ []) = record {
          legal = legal_at ((w0 ++ e1 ∷ xs) ++ e ∷ []) ys' (at ∙ sym (append_assoc (w0 ++ e1 ∷ xs) (e ∷ []) ys'));
          has_it = begun;
          kept = gives_none ((w0 ++ e1 ∷ xs) ++ e ∷ []) ys' (at ∙ sym (append_assoc (w0 ++ e1 ∷ xs) (e ∷ []) ys'));
        } in
        let own : e.caller ≡ n = selects_alone l n s start (w0 ++ e1 ∷ xs) e keeps
        (ap (selects_on s.0) is ∙ ap (λ b. b || false) (and_parts (s'.0 == s.0) (i' == i) changes).0) in
        let acts : mine n xs ++ e.act ∷ [] ≡ [] = ap (λ es. mine n xs ++ es)
        (sym (mine-own_first n e [] (eq-eqb e.caller.0 n.0 (ap (λ (m : CallerNo). m.0) own))))
        ∙ (sym (mine-append n xs (e ∷ [])) ∙ none) in
        absurd (never_empty (mine n xs) e.act acts)
    by_act xs e ys' at none (ClearMark s' i' found') is changes =
        let step = step_at (w0 ++ e1 ∷ xs) e ys' at in
        let both = and_parts (s'.0 == s.0) (i' == i) changes in
        let st = state_after (start ++ (w0 ++ e1 ∷ xs)) in
        let may = subst (λ (a : Act). Condition l (mine e.caller (start ++ (w0 ++ e1 ∷ xs))) st e.caller a) is
        step.condition in
        let unpublished : (st.key s'.0 i').published ≡ false = unpublished_keys_stay l e.caller s' i'
        (start ++ (w0 ++ e1 ∷ xs)) fit (legal_at (w0 ++ e1 ∷ xs) (e ∷ ys') at) may.1 in
        let here : (st.key s.0 i).published ≡ false
        = subst (λ (k : ℕ). (st.key k i).published ≡ false) (eqb-true s'.0 s.0 both.0)
        (subst (λ (k : ℕ). (st.key s'.0 k).published ≡ false) (eqb-true i' i both.1) unpublished) in
        let published = (in_set_at i (w0 ++ e1 ∷ xs) (e ∷ ys') at (had_at xs
        (first_none (mine n xs) (mine n (e ∷ [])) (sym (mine-append n xs (e ∷ [])) ∙ none)))).0 in
        absurd (both_ways (st.key s.0 i).published published here)
    by_act xs e ys' at none act is changes = absurd (cc changes)

    unselecting : (xs : List Event) (e : Event) (ys' : List Event) → window ≡ (w0 ++ e1 ∷ xs) ++ e ∷ ys'
        → mine n (xs ++ e ∷ []) ≡ [] → test (state_after (start ++ (w0 ++ e1 ∷ xs))) ≡ true
        → test (effect (state_after (start ++ (w0 ++ e1 ∷ xs))) e.caller e.act) ≡ false → (b : Bool)
        → changes_mark s.0 i e.act ≡ b → unselects_at s.0 i e.act ≡ true
    unselecting xs e ys' at none was_same turns true is = by_act xs e ys' at none e.act refl is
    unselecting xs e ys' at none was_same turns false is =
        absurd (both_ways (test (effect (state_after (start ++ (w0 ++ e1 ∷ xs))) e.caller e.act))
        (mark_kept (state_after (start ++ (w0 ++ e1 ∷ xs))) e.caller e.act s.0 i was is was_same) turns)

    from_middle : (middle : List Event) (e : Event) (rest' : List Event) → e1 ∷ w2 ≡ middle ++ e ∷ rest'
        → test (state_after ((start ++ w0) ++ middle)) ≡ true
        → test (effect (state_after ((start ++ w0) ++ middle)) e.caller e.act) ≡ false
        → 1 ≤ count (unselects s.0 bound) (map (λ x. x.act) w2)
    from_middle [] e rest' is was_same turns =
        let same : e ≡ e1 = sym (cc is) in
        let st = state_after ((start ++ w0) ++ []) in
        let stays : test (effect st e.caller e.act) ≡ true = mark_kept st e.caller e.act s.0 i was
        (ap (λ (x : Event). changes_mark s.0 i x.act) same) was_same in
        absurd (both_ways (test (effect st e.caller e.act)) stays turns)
    from_middle (x ∷ xs) e rest' is was_same turns =
        let same : x ≡ e1 = sym (cc is) in
        let later : w2 ≡ xs ++ e ∷ rest' = cc is in
        let flat : (start ++ w0) ++ (x ∷ xs) ≡ start ++ (w0 ++ e1 ∷ xs) = append_assoc start w0 (x ∷ xs)
        ∙ ap (λ y. start ++ (w0 ++ y ∷ xs)) same in
        let here : window ≡ (w0 ++ e1 ∷ xs) ++ e ∷ (rest' ++ ys)
        = parts ∙ (ap (λ es. (w0 ++ e1 ∷ es) ++ ys) later
        ∙ (append_assoc w0 (e1 ∷ (xs ++ e ∷ rest')) ys
        ∙ (ap (λ es. w0 ++ e1 ∷ es) (append_assoc xs (e ∷ rest') ys)
        ∙ sym (append_assoc w0 (e1 ∷ xs) (e ∷ (rest' ++ ys)))))) in
        let joined : (xs ++ e ∷ []) ++ rest' ≡ w2 = append_assoc xs (e ∷ []) rest' ∙ sym later in
        let none : mine n (xs ++ e ∷ []) ≡ [] = first_none (mine n (xs ++ e ∷ [])) (mine n rest')
        (sym (mine-append n (xs ++ e ∷ []) rest') ∙ (ap (mine n) joined ∙ mine_w2)) in
        let takes_out = unselecting xs e (rest' ++ ys) here none
        (ap (λ es. test (state_after es)) (sym flat) ∙ was_same)
        (ap (λ es. test (effect (state_after es) e.caller e.act)) (sym flat) ∙ turns)
        (changes_mark s.0 i e.act) refl in
        subst (λ w. 1 ≤ count (unselects s.0 bound) (map (λ z. z.act) w)) (sym later)
        (counted (unselects s.0 bound) xs e rest' (unselects_below s.0 i bound e.act low takes_out))

    by_turn : Turned test (start ++ w0) (e1 ∷ w2) → 1 ≤ count (unselects s.0 bound) (map (λ x. x.act) w2)
    by_turn turn = from_middle turn.middle turn.event turn.rest turn.parts turn.was turn.turns

  pub unselected_meanwhile : (i bound : ℕ) (w0 gap w1 : List Event) (was stands : KeyMark) (told : ℕ)
      → window ≡ w0 ++ event_of n (LookMark s i was) ∷ (gap ++ event_of n (Mark s i was told (Err stands)) ∷ w1)
      → mine n gap ≡ [] → HadKey n start w0 s i → i < bound
      → 1 ≤ count (unselects s.0 bound) (map (λ x. x.act) gap)
  unselected_meanwhile i bound w0 gap w1 was stands told parts none had low =
      let e1 = event_of n (LookMark s i was) in
      let e2 = event_of n (Mark s i was told (Err stands)) in
      let parts_mark : window ≡ (w0 ++ e1 ∷ gap) ++ e2 ∷ w1 = parts ∙ sym (append_assoc w0 (e1 ∷ gap) (e2 ∷ w1)) in
      let test : State → Bool = λ st. is_same_mark (st.mark s.0 i) was in
      let was_is : was ≡ (state_after (start ++ w0)).mark s.0 i = ap mark_in
      (step_at w0 e1 (gap ++ e2 ∷ w1) parts).answers in
      let before_is : test (state_after (start ++ w0)) ≡ true = ap (λ (m : KeyMark). is_same_mark m was) (sym was_is)
      ∙ same_as_itself was in
      let fails = ap exchange_in (step_at (w0 ++ e1 ∷ gap) e2 w1 parts_mark).answers in
      let after_is : test (state_after ((start ++ w0) ++ e1 ∷ gap)) ≡ false
      = ap (λ es. test (state_after es)) (append_assoc start w0 (e1 ∷ gap))
      ∙ not_exchanged was ((state_after (start ++ (w0 ++ e1 ∷ gap))).mark s.0 i) stands fails in
      by_turn i bound low was w0 gap (e2 ∷ w1) parts_mark had none
      (turned test (start ++ w0) (e1 ∷ gap) before_is after_is)

-- What a step leaves, and what it finds.
use Rattle.std.proofs.Common.{◌≡◌, ℕ, ◌==◌, Bool, true, false, ◌&&◌, if◌then◌else◌, Option, Some, None, List, [], ◌∷◌, ◌++◌}
use Rattle.std.proofs.Common.{append_assoc, refl, ap, sym, ◌∙◌, subst, eqb-true, eq-eqb, arith}
use Rattle.std.specs.Prelude.{nat_lt, fold, IsTrue}
use Rattle.std.specs.Int.{bit_at}
use Rattle.std.proofs.lemmas.Bool.{and_parts, ltb-true, ltb-false}
use Rattle.std.proofs.lemmas.List.{append-nil, append_cancel_left}
use Rattle.nio_base.specs.Kind.{is_same_kind}
use Rattle.nio_base.specs.declared.limits.Limits.{Limits}
use Rattle.nio_base.specs.declared.numbers.CallerNo.{CallerNo}
use Rattle.nio_base.specs.declared.numbers.SelNo.{SelNo}
use Rattle.nio_history.specs.Conditions.{is_held_by}
use Rattle.nio_history.proofs.Bits.{bits_below-at, bits_below-above}
use Rattle.nio_history.proofs.Clauses.{last_of-later}
use Rattle.nio_history.proofs.LastsAlone.{none_further}
use Rattle.nio_history.proofs.LastsOnceSound.{lasts_step}
use Rattle.nio_history.proofs.Legal.{not_empty, legal_next}
use Rattle.nio_history.proofs.OneMore.{state_after-more, mine-append, mine-own, mine-other}
use Rattle.nio_history.proofs.Put.{same_pair}
use Rattle.nio_history.proofs.Told.{has_told}
use Rattle.nio_history.specs.Acts.{effect}
use Rattle.nio_history.specs.Answers.{Answers, bits_below, index_at}
use Rattle.nio_history.specs.Found.{Leaves, StepsLeave, is_look, LooksTell, gate_tells, channel_tells, stage_tells}
use Rattle.nio_history.specs.Found.{selectors_tell, keys_high_tells, channels_high_tells, lister_tells, finds, FoundStands}
use Rattle.nio_history.specs.Histories.{state_after, event_of, last_of, is_by, mine, HistoryClause}
use Rattle.nio_history.specs.Permanent.{PermanentFact, selector_made, selector_shut, channel_made, channel_of_kind}
use Rattle.nio_history.specs.Permanent.{channel_opened, channel_closed}
use Rattle.nio_history.specs.Permanent.{index_claimed, key_claimed, key_published, key_cancelled, key_removed}
use Rattle.nio_history.specs.Permanent.{below_keys_high, below_channels_high, list_had_by, stands}
use Rattle.nio_history.specs.Sets.{was_claimed, was_published, was_cancelled, was_removed, was_opened, was_closed}
use Rattle.nio_history.specs.State.{State}
use Rattle.nio_history.specs.declared.act.Act.{Act}
use Rattle.nio_history.specs.declared.act.Act.TheVariants.{LookSelectors, LookGate, LookInterrupt, LookKey, CancelKey}
use Rattle.nio_history.specs.declared.act.Act.TheVariants.{LookInterest, LookNote, LookChannel, RaiseKeys, LookKeys}
use Rattle.nio_history.specs.declared.act.Act.TheVariants.{Publish, LookReg, BeginLook, Remove, LookMark, EndWake}
use Rattle.nio_history.specs.declared.act.Act.TheVariants.{LookChannels, RaiseChannels, SetMode, CloseBit, Enter, Pin}
use Rattle.nio_history.specs.declared.act.Act.TheVariants.{LookFree, LookTouched, LookIndex, TakeList}
use Rattle.nio_history.specs.declared.event.Event.{Event}
use Rattle.nio_history.specs.declared.found.Chan.{Chan}
use Rattle.nio_history.specs.declared.found.GateWord.{GateWord}
use Rattle.nio_history.specs.declared.found.Stage.{Stage}

-- ---- what a step leaves

last_from : (x : Event) (xs : List Event) (e : Event) → fold (λ _ y. Some y) (Some x) xs ≡ Some e
    → (init : List Event) × (x ∷ xs ≡ init ++ e ∷ [])
last_from x [] e is = ([], ap (λ y. y ∷ []) cc)
last_from x (y ∷ ys) e is = let rest = last_from y ys e is in (x ∷ rest.0, ap (λ es. x ∷ es) rest.1)

-- a list whose last element is e ends with it
pub last_event : (xs : List Event) (e : Event) → last_of xs ≡ Some e → (init : List Event) × (xs ≡ init ++ e ∷ [])
last_event [] e is = absurd cc
last_event (x ∷ xs) e is = last_from x xs e is

nothing_before : (acts : List Act) (act : Act) → acts ++ act ∷ [] ≡ act ∷ [] → acts ≡ []
nothing_before [] act same = refl
nothing_before (x ∷ acts) act same = absurd (not_empty acts act [] (cc same))

pub step_leaves : (l : Limits) (Holds : CallerNo → Type 0) (me : CallerNo) (act : Act) (before after : List Event)
    → HistoryClause l Holds me (act ∷ []) before after → Leaves l Holds me act before after
step_leaves l Holds me act before after clause = by_rest clause.goes_on.0 clause.goes_on.1
  where
    e : Event
    e = event_of me act

    by_rest : (rest : List Event) → before ++ rest ≡ after → Leaves l Holds me act before after
    by_rest [] joined =
        let same : after ≡ before = sym joined ∙ append-nil before in
        let acts : mine me before ++ act ∷ [] ≡ mine me before ++ [] = sym clause.own
        ∙ (ap (mine me) same ∙ sym (append-nil (mine me before))) in
        absurd (not_empty [] act [] (sym (append_cancel_left (mine me before) (act ∷ []) [] acts)))
    by_rest (x ∷ xs) joined =
        let ends : last_of (x ∷ xs) ≡ Some e = sym (last_of-later before x xs) ∙ (ap last_of joined ∙ clause.ends) in
        let last = last_event (x ∷ xs) e ends in
        leaves last.0 (sym joined ∙ ap (λ events. before ++ events) last.1)
      where
        leaves : (between : List Event) → after ≡ before ++ (between ++ e ∷ []) → Leaves l Holds me act before after
        leaves between parts =
            let whole : after ≡ (before ++ between) ++ e ∷ [] = parts ∙ sym (append_assoc before between (e ∷ [])) in
            record {
              between = between;
              parts = parts;
              own = nothing_before (mine me between) act (sym (mine-own me between e (eq-eqb me.0 me.0 refl))
                  ∙ append_cancel_left (mine me before) (mine me (between ++ e ∷ [])) (act ∷ [])
                  (sym (mine-append me before (between ++ e ∷ [])) ∙ (ap (mine me) (sym parts) ∙ clause.own)));
              others = λ n held other. none_by n
                  (none_further n before (between ++ e ∷ []) (ap (mine n) (sym parts) ∙ clause.others n held other))
                  (is_by n e) refl;
              step = clause.legal.steps (before ++ between) e [] whole;
              state = ap state_after whole ∙ state_after-more (before ++ between) e;
            }
          where
            none_by : (n : CallerNo) → mine n (between ++ e ∷ []) ≡ [] → (b : Bool) → is_by n e ≡ b
                → mine n between ≡ []
            none_by n none true by = absurd (not_empty (mine n between) act [] (sym none ∙ mine-own n between e by))
            none_by n none false by = sym (mine-other n between e by) ∙ none

pub steps_leave : StepsLeave
steps_leave l held me act before after clause = step_leaves l (λ n. IsTrue (held n)) me act before after clause

-- ---- what a look finds

-- where a look doesn't change what it looks at, what it found stands after it
look_keeps : (st : State) (me : CallerNo) (act : Act) → is_look act ≡ true → Answers st me act
    → Answers (effect st me act) me act
look_keeps st me (LookSelectors found) looks answers = answers
look_keeps st me (LookGate s found) looks answers = answers
look_keeps st me (LookInterrupt found) looks answers = answers
look_keeps st me (LookKey s i found) looks answers = answers
look_keeps st me (LookInterest s i found) looks answers = answers
look_keeps st me (LookNote s i found) looks answers = answers
look_keeps st me (LookChannel c found) looks answers = answers
look_keeps st me (LookKeys s found) looks answers = answers
look_keeps st me (LookReg c s found) looks answers = answers
look_keeps st me (BeginLook s found) looks answers = answers
look_keeps st me (LookMark s i found) looks answers = answers
look_keeps st me (LookChannels found) looks answers = answers
look_keeps st me (Enter s found) looks answers = answers
look_keeps st me (Pin s i found) looks answers = answers
look_keeps st me (LookFree s j found) looks answers = answers
look_keeps st me (LookTouched s j found) looks answers = answers
look_keeps st me (LookIndex s i found) looks answers = answers
look_keeps st me act looks answers = absurd (cc looks)

pub looks_tell : LooksTell
looks_tell l me act past later legal looks =
    subst (λ st. Answers st me act) (sym (state_after-more past (event_of me act)))
    (look_keeps (state_after past) me act looks (legal_next l past (event_of me act) later legal).answers)

-- ---- what a step finds stands in the state that it finds

-- what is found of a part is found of the part that is named
found_at : {A : Type 0} (f : ℕ → A) (P : A → Bool) (k n : ℕ) (found : A) → ((k == n) && P found) ≡ true → found ≡ f k
    → P (f n) ≡ true
found_at f P k n found told is =
    let both = and_parts (k == n) (P found) told in
    let same : k ≡ n = eqb-true k n both.0 in
    subst (λ (m : ℕ). P (f m) ≡ true) same (subst (λ x. P x ≡ true) is both.1)

found_at_two : (f : ℕ → ℕ → Stage) (P : Stage → Bool) (k j s i : ℕ) (found : Stage)
    → ((k == s) && (j == i) && P found) ≡ true → found ≡ f k j → P (f s i) ≡ true
found_at_two f P k j s i found told is =
    let parts = and_parts ((k == s) && (j == i)) (P found) told in
    same_pair (λ a b. P (f a b) ≡ true) k j s i parts.0 (subst (λ x. P x ≡ true) is parts.1)

gate_stands : (st : State) (s : ℕ) (found : GateWord) (f : PermanentFact) → found ≡ st.gate s
    → gate_tells s found f ≡ true → stands f st ≡ true
gate_stands st s found (selector_shut s') is told = found_at st.gate (λ g. g.shut) s s' found told is
gate_stands st s found f is told = absurd (cc told)

channel_stands : (st : State) (c : ℕ) (found : Chan) (f : PermanentFact) → found ≡ st.chan c
    → channel_tells c found f ≡ true → stands f st ≡ true
channel_stands st c found (channel_made c') is told = found_at st.chan (λ x. x.made) c c' found told is
channel_stands st c found (channel_of_kind c' kind) is told =
    found_at st.chan (λ x. x.made && is_same_kind x.kind kind) c c' found told is
channel_stands st c found (channel_opened c' serial) is told =
    found_at st.chan (λ x. was_opened x serial) c c' found told is
channel_stands st c found (channel_closed c' serial) is told =
    found_at st.chan (λ x. was_closed x serial) c c' found told is
channel_stands st c found f is told = absurd (cc told)

stage_stands : (st : State) (s i : ℕ) (found : Stage) (f : PermanentFact) → found ≡ st.key s i
    → stage_tells s i found f ≡ true → stands f st ≡ true
stage_stands st s i found (index_claimed s' i') is told = found_at_two st.key (λ k. k.claimed) s i s' i' found told is
stage_stands st s i found (key_claimed s' i' serial) is told =
    found_at_two st.key (λ k. was_claimed k serial) s i s' i' found told is
stage_stands st s i found (key_published s' i' serial) is told =
    found_at_two st.key (λ k. was_published k serial) s i s' i' found told is
stage_stands st s i found (key_cancelled s' i' serial) is told =
    found_at_two st.key (λ k. was_cancelled k serial) s i s' i' found told is
stage_stands st s i found (key_removed s' i' serial) is told =
    found_at_two st.key (λ k. was_removed k serial) s i s' i' found told is
stage_stands st s i found f is told = absurd (cc told)

bit_found : (f : ℕ → Bool) (s : ℕ) → (bit_at (bits_below 64 f) s == 1) ≡ true → f s ≡ true
bit_found f s told = by_limit (nat_lt s 64) refl
  where
    one_where : (b : Bool) (n : ℕ) → n ≡ (if b then 1 else 0) → n ≡ 1 → b ≡ true
    one_where true n is e = refl
    one_where false n is e = absurd (omega arith)

    one : bit_at (bits_below 64 f) s ≡ 1
    one = eqb-true (bit_at (bits_below 64 f) s) 1 told

    by_limit : (b : Bool) → nat_lt s 64 ≡ b → f s ≡ true
    by_limit true below = one_where (f s) (bit_at (bits_below 64 f) s) (bits_below-at 64 f s (ltb-true s 64 below)) one
    by_limit false above =
        let clash : ◌≡◌ {A = ℕ} 0 1 = sym (bits_below-above 64 f s (ltb-false s 64 above)) ∙ one in
        absurd cc

selectors_stand : (st : State) (found : ℕ) (f : PermanentFact) → found ≡ bits_below 64 st.selector
    → selectors_tell found f ≡ true → stands f st ≡ true
selectors_stand st found (selector_made s) is told =
    bit_found st.selector s (subst (λ (n : ℕ). (bit_at n s == 1) ≡ true) is told)
selectors_stand st found f is told = absurd (cc told)

keys_high_stands : (st : State) (s found : ℕ) (f : PermanentFact) → found ≡ st.keys_high s
    → keys_high_tells s found f ≡ true → stands f st ≡ true
keys_high_stands st s found (below_keys_high s' i) is told = found_at st.keys_high (λ n. nat_lt i n) s s' found told is
keys_high_stands st s found f is told = absurd (cc told)

channels_high_stands : (st : State) (found : ℕ) (f : PermanentFact) → found ≡ st.channels_high
    → channels_high_tells found f ≡ true → stands f st ≡ true
channels_high_stands st found (below_channels_high c) is told = subst (λ (n : ℕ). nat_lt c n ≡ true) is told
channels_high_stands st found f is told = absurd (cc told)

lister_stands : (st : State) (s : SelNo) (found : Option CallerNo) (f : PermanentFact) → found ≡ st.lister s.0
    → lister_tells s found f ≡ true → stands f st ≡ true
lister_stands st s (Some n) (list_had_by s' n') is told =
    let same = and_parts (s.0 == s'.0) (n.0 == n'.0) told in
    sym (ap (is_held_by n') (is ∙ ap st.lister (eqb-true s.0 s'.0 same.0))) ∙ same.1
lister_stands st s (Some n) f is told = absurd (cc told)
lister_stands st s None f is told = absurd (cc told)

step_finds : (st : State) (me : CallerNo) (act : Act) (f : PermanentFact) → Answers st me act → finds act f ≡ true
    → stands f st ≡ true
step_finds st me (LookSelectors found) f answers told = selectors_stand st found f (cc) told
step_finds st me (LookGate s found) f answers told = gate_stands st s.0 found f (cc) told
step_finds st me (BeginLook s found) f answers told = gate_stands st s.0 found f (cc) told
step_finds st me (EndWake s found) f answers told = gate_stands st s.0 found f (cc) told
step_finds st me (LookKey s i found) f answers told = stage_stands st s.0 i found f (cc) told
step_finds st me (CancelKey s i found) f answers told = stage_stands st s.0 i found f (cc) told
step_finds st me (Publish s i found) f answers told = stage_stands st s.0 i found f (cc) told
step_finds st me (Remove s i found) f answers told = stage_stands st s.0 i found f (cc) told
step_finds st me (Pin s i found) f answers told = stage_stands st s.0 i found f (cc) told
step_finds st me (LookChannel c found) f answers told = channel_stands st c.0 found f (cc) told
step_finds st me (SetMode c blocking found) f answers told = channel_stands st c.0 found f (cc) told
step_finds st me (CloseBit c from found) f answers told = channel_stands st c.0 found f (cc) told
step_finds st me (LookKeys s found) f answers told = keys_high_stands st s.0 found f (cc) told
step_finds st me (RaiseKeys s n found) f answers told = keys_high_stands st s.0 found f (cc) told
step_finds st me (LookChannels found) f answers told = channels_high_stands st found f (cc) told
step_finds st me (RaiseChannels n found) f answers told = channels_high_stands st found f (cc) told
step_finds st me (LookIndex s i found) f answers told =
    let stands_there : found ≡ index_at st s.0 i = cc in
    stage_stands st s.0 i found.stage f (ap (λ x. x.stage) stands_there) told
step_finds st me (TakeList s found) f answers told = lister_stands st s found f (cc) told
step_finds st me act f answers told = absurd (cc told)

pub found_stands : FoundStands
found_stands l n events legal f =
    has_told l (λ act. finds act f) (stands f) (λ past e legal' step. lasts_step l past e legal' step f)
    (λ past e legal' step told. lasts_step l past e legal' step f
    (step_finds (state_after past) e.caller e.act f step.answers told))
    n events legal

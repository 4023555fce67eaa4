-- How a caller goes on from one pass to a later one, and what stands meanwhile: the laws of histories, said
-- of passes.
use Rattle.std.proofs.Common.{◌≡◌, Bool, true, false, List, [], ◌∷◌, ◌++◌, append_assoc, ap, sym, ◌∙◌, subst}
use Rattle.std.proofs.lemmas.List.{append-nil, append_cancel_left}
use Rattle.std.specs.Option.{ForSome}
use Rattle.nio_base.specs.declared.numbers.CallerNo.{CallerNo}
use Rattle.nio_history.proofs.Holds.{channel_stays, mode_stays, enrolled_stays, found_enrolled_stays, outside_stays}
use Rattle.nio_history.proofs.Holds.{found_clear_stays}
use Rattle.nio_history.proofs.Legal.{legal_beginning}
use Rattle.nio_history.proofs.PinLaws.{pinned_keys_stay}
use Rattle.nio_history.proofs.SelectedKeys.{selections_keep_keys}
use Rattle.nio_history.proofs.Selections.{selects_alone as selects_alone_there, key_set_stays, marks_stay, wakeup_stays}
use Rattle.nio_history.proofs.Stays.{facts_are_permanent, invalid_keys_stay_invalid, only_itself_gives_back}
use Rattle.nio_history.specs.Histories.{state_after, mine, IsLegal}
use Rattle.nio_history.specs.Permanent.{OwnFact, a_selection, is_had_by, gives_back}
use Rattle.nio_history.specs.Holders.{KeepsMode, IsAtMostUnselected}
use Rattle.nio_history.specs.OwnEvents.{has, last, enrolled_found, is_clear_by}
use Rattle.nio_history.specs.Pins.{IsSameKey, IsKeptInSelection}
use Rattle.nio_history.specs.Sets.{is_in_key_set}
use Rattle.nio_history.specs.State.{State}
use Rattle.nio_history.specs.declared.act.Act.{Act}
use Rattle.nio_history.specs.declared.event.Event.{Event}
use Rattle.nio_history.proofs.OneMore.{has_none-append, mine-append}
use Rattle.nio_history.proofs.Clauses.{prefix_trans}
use Rattle.nio_words.specs.Laws.{IsLater, GoesOn, KeepsBetween, CallsGoOn, DrawsGoOn, SplitsGoOn, JoinsGoOn}
use Rattle.nio_words.specs.Laws.{GoingOnChains, HistoriesGoOn, FactsStand, InvalidKeysStand, OwnStands, PinnedKeysStand}
use Rattle.nio_words.specs.Laws.{ChannelStands, ModeStands, EnrolledStands, FoundEnrolledStands, OutsideStands}
use Rattle.nio_words.specs.Laws.{FoundClearStands}
use Rattle.nio_words.specs.Laws.{SelectsAlone, KeySetStands, SelectedKeysStand, MarksStand, WakeupStands}
use Rattle.nio_words.specs.Passes.{seen, state_seen, acts_seen, IsPassOf}
use Rattle.nio_words.specs.declared.words.Pass.{Pass}
use Rattle.nio_words.specs.declared.words.Words.{Words}

pub calls_go_on : CallsGoOn
calls_go_on w p q me acts pass later_pass clause =
    let later : IsLater w p q = record { earlier_pass = pass; later_pass = later_pass; begins = clause.goes_on } in (
      record { later = later; own = clause.own },
      λ n held other. record { later = later; own = clause.others n held other ∙ sym (append-nil (acts_seen p n)) },
    )

pub draws_go_on : DrawsGoOn
draws_go_on w p q number true pass draws n held other = record {
  later = record { earlier_pass = pass; later_pass = draws.pass; begins = draws.clause.goes_on };
  own = draws.clause.own n held ∙ sym (append-nil (acts_seen p n));
}
draws_go_on w p q number false pass draws n held other =
    (calls_go_on w p q number _ pass draws.pass draws.clause).1 n held other

sees_on : (w : Words) (before after : Pass) → IsPassOf w before → IsPassOf w after → seen after ≡ seen before
    → (n : CallerNo) → GoesOn w n [] before after
sees_on w before after pass later_pass same n = record {
  later = record { earlier_pass = pass; later_pass = later_pass; begins = ([], append-nil (seen before) ∙ sym same) };
  own = ap (mine n) same ∙ sym (append-nil (acts_seen before n));
}

pub splits_go_on : SplitsGoOn
splits_go_on w before after given pass sees n =
    (sees_on w before after pass sees.pass sees.sight n, sees_on w before given pass sees.given_pass sees.given_sight n)

pub joins_go_on : JoinsGoOn
joins_go_on w before other after pass other_pass joins n = (
  λ held. record {
    later = record { earlier_pass = pass; later_pass = joins.pass; begins = joins.stands.begins };
    own = joins.stands.own n held ∙ sym (append-nil (acts_seen before n));
  },
  λ held. record {
    later = record { earlier_pass = other_pass; later_pass = joins.pass; begins = joins.other_stands.begins };
    own = joins.other_stands.own n held ∙ sym (append-nil (acts_seen other n));
  },
)

pub going_on_chains : GoingOnChains
going_on_chains w me acts more p q r first second = record {
  later = record {
    earlier_pass = first.later.earlier_pass;
    later_pass = second.later.later_pass;
    begins = prefix_trans (seen p) (seen q) (seen r) first.later.begins second.later.begins;
  };
  own = second.own ∙ (ap (λ own. own ++ more) first.own ∙ append_assoc (acts_seen p me) acts more);
}

pub histories_go_on : HistoriesGoOn
histories_go_on w me what acts before after keeps =
    let go = keeps.goes_on in
    let later : List Event = go.later.begins.0 in
    let parts : seen before ++ later ≡ seen after = go.later.begins.1 in
    let own : mine me later ≡ acts =
    append_cancel_left (acts_seen before me) (mine me later) acts
    (sym (mine-append me (seen before) later) ∙ (ap (mine me) parts ∙ go.own)) in
    record {
      later = later;
      parts = parts;
      own = own;
      keeps = record {
        legal = subst (IsLegal w.limits) (sym parts) go.later.later_pass.legal;
        has_it = keeps.has_it;
        kept = ap (has (gives_back what)) own ∙ keeps.kept;
      };
    }

-- ---- what is permanent, and what a caller has

pub facts_stand : FactsStand
facts_stand w before after later f here =
    facts_are_permanent w.limits (seen before) (seen after) later.begins later.later_pass.legal f here

pub invalid_keys_stand : InvalidKeysStand
invalid_keys_stand w before after later s k =
    invalid_keys_stay_invalid w.limits (seen before) (seen after) later.begins later.later_pass.legal s.0 k.index
    k.serial

pub own_stands : OwnStands
own_stands w me what acts before after keeps =
    let there = histories_go_on w me what acts before after keeps in
    subst (λ es. is_had_by me what (state_after es) ≡ true) there.parts
    (only_itself_gives_back w.limits me (seen before) there.later there.keeps.legal what there.keeps.kept
    there.keeps.has_it)

pub pinned_keys_stand : PinnedKeysStand
pinned_keys_stand w me s i acts before after keeps =
    let there = histories_go_on w me _ acts before after keeps in
    subst (λ es. IsSameKey ((state_seen before).key s.0 i) ((state_after es).key s.0 i)) there.parts
    (pinned_keys_stay w.limits me s i (seen before) there.later w.fit there.keeps.legal there.keeps.has_it
    there.keeps.kept)

-- ---- what a law of histories says of what was seen in between, it says of the passes

module _ {w : Words} {me : CallerNo} {what : OwnFact} {acts : List Act} {before after : Pass}
    (there : KeepsBetween w me what acts before after) where
  -- acts of which none is such
  none_such : (p : Act → Bool) → has p acts ≡ false → has p (mine me there.later) ≡ false
  none_such p nowhere = ap (has p) there.own ∙ nowhere

  -- the state that was seen at last
  at_last : (P : State → Type 0) → P (state_after (seen before ++ there.later)) → P (state_seen after)
  at_last P here = subst (λ es. P (state_after es)) there.parts here

pub channel_stands : ChannelStands
channel_stands w me c acts before after keeps spared =
    let there = histories_go_on w me _ acts before after keeps in
    at_last there (λ st. (st.chan c.0).serial ≡ ((state_seen before).chan c.0).serial)
    (channel_stays w.limits me c (seen before) there.later there.keeps (none_such there _ spared))

pub mode_stands : ModeStands
mode_stands w me c acts before after keeps spared =
    let there = histories_go_on w me _ acts before after keeps in
    at_last there (λ st. KeepsMode ((state_seen before).chan c.0) (st.chan c.0))
    (mode_stays w.limits me c (seen before) there.later there.keeps (none_such there _ spared))

pub enrolled_stands : EnrolledStands
enrolled_stands w me c acts before after keeps s spared =
    let there = histories_go_on w me _ acts before after keeps in
    at_last there (λ st. st.enrolled c.0 s.0 ≡ (state_seen before).enrolled c.0 s.0)
    (enrolled_stays w.limits me c (seen before) there.later there.keeps s (none_such there _ spared))

pub found_enrolled_stands : FoundEnrolledStands
found_enrolled_stands w me c acts before after keeps s enrolled found =
    let there = histories_go_on w me _ acts before after keeps in
    at_last there (λ st. st.enrolled c.0 s.0 ≡ enrolled)
    (found_enrolled_stays w.limits me c (seen before) there.later there.keeps s enrolled
    (ap (last (enrolled_found c.0 s.0)) there.own ∙ found))

pub outside_stands : OutsideStands
outside_stands w me c acts before after keeps s k spared =
    let there = histories_go_on w me _ acts before after keeps in
    λ was of_channel. at_last there (λ st. (st.key s.0 k.index).chan ≡ c
    → is_in_key_set (st.key s.0 k.index) k.serial ≡ false)
    (outside_stays w.limits me c (seen before) there.later w.fit there.keeps s k (none_such there _ spared) was)
    of_channel

pub found_clear_stands : FoundClearStands
found_clear_stands w me c acts before after keeps s clear =
    let there = histories_go_on w me _ acts before after keeps in
    at_last there (λ st. ForSome (st.enrolled c.0 s.0) (λ k. is_in_key_set (st.key s.0 k.index) k.serial ≡ false))
    (found_clear_stays w.limits me c (seen before) there.later w.fit there.keeps s
    (subst (λ own. is_clear_by c.0 s.0 own (last (enrolled_found c.0 s.0) own) ≡ true) (sym there.own) clear))

pub selects_alone : SelectsAlone
selects_alone w me s acts before after keeps between e rest parts on =
    let there = histories_go_on w me (a_selection s) acts before after keeps in
    let is : there.later ≡ between ++ e ∷ rest = append_cancel_left (seen before) there.later (between ++ e ∷ rest)
    (there.parts ∙ parts) in
    let whole : there.later ≡ (between ++ e ∷ []) ++ rest = is ∙ sym (append_assoc between (e ∷ []) rest) in
    let legal : IsLegal w.limits ((seen before ++ (between ++ e ∷ [])) ++ rest) =
    subst (IsLegal w.limits)
    (ap (λ es. seen before ++ es) whole ∙ sym (append_assoc (seen before) (between ++ e ∷ []) rest))
    there.keeps.legal in
    let kept : has (gives_back (a_selection s)) (mine me (between ++ e ∷ []) ++ mine me rest) ≡ false =
    subst (λ own. has (gives_back (a_selection s)) own ≡ false)
    (ap (mine me) whole ∙ mine-append me (between ++ e ∷ []) rest) there.keeps.kept in
    selects_alone_there w.limits me s (seen before) between e
    record {
      legal = legal_beginning w.limits (seen before ++ (between ++ e ∷ [])) rest legal;
      has_it = keeps.has_it;
      kept = (has_none-append (gives_back (a_selection s)) (mine me (between ++ e ∷ [])) (mine me rest) kept).0;
    }
    on

pub key_set_stands : KeySetStands
key_set_stands w me s acts before after keeps k spared here =
    let there = histories_go_on w me _ acts before after keeps in
    at_last there (λ st. is_in_key_set (st.key s.0 k.index) k.serial ≡ true)
    (key_set_stays w.limits me s (seen before) there.later there.keeps k (none_such there _ spared) here)

pub selected_keys_stand : SelectedKeysStand
selected_keys_stand w me s acts before after keeps i spared present =
    let there = histories_go_on w me _ acts before after keeps in
    at_last there (λ st. IsKeptInSelection ((state_seen before).key s.0 i) (st.key s.0 i) × (st.free s.0 i ≡ false))
    (selections_keep_keys w.limits me s i (seen before) there.later there.keeps.legal there.keeps.has_it
    there.keeps.kept (none_such there _ spared) present)

pub marks_stand : MarksStand
marks_stand w me s acts before after keeps k spared unmarked here =
    let there = histories_go_on w me _ acts before after keeps in
    at_last there (λ st. IsAtMostUnselected ((state_seen before).mark s.0 k.index) (st.mark s.0 k.index))
    (marks_stay w.limits me s (seen before) there.later w.fit there.keeps k (none_such there _ spared)
    (none_such there _ unmarked) here)

pub wakeup_stands : WakeupStands
wakeup_stands w me s acts before after keeps spared here =
    let there = histories_go_on w me _ acts before after keeps in
    at_last there (λ st. (st.gate s.0).woken ≡ true)
    (wakeup_stays w.limits me s (seen before) there.later there.keeps (none_such there _ spared) here)

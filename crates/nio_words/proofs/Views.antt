-- From the steps on a table to the acts that calls are made of.
use Rattle.std.proofs.Common.{◌≡◌, ℕ, ◌==◌, ◌&&◌, ◌||◌, Bool, true, false, [], ◌∷◌, ◌++◌, refl, ap, sym, ◌∙◌, subst}
use Rattle.std.proofs.Common.{append_assoc, eqb-true, eq-eqb, Option, None, not, arith}
use Rattle.std.specs.Int.{bit_at}
use Rattle.std.specs.Prelude.{nat_lt, IsTrue, IsFalse}
use Rattle.std.proofs.lemmas.Bool.{or_right, and_parts, and_from, le-ltb}
use Rattle.nio_base.specs.Kind.{kind_code, is_same_kind}
use Rattle.nio_base.specs.declared.numbers.CallerNo.{CallerNo}
use Rattle.nio_base.specs.declared.numbers.ChanNo.{ChanNo}
use Rattle.nio_base.specs.declared.numbers.KeyNo.{KeyNo}
use Rattle.nio_base.specs.declared.numbers.SelNo.{SelNo}
use Rattle.nio_history.proofs.ChannelChanges.{same_kind}
use Rattle.nio_history.proofs.Finds.{step_leaves, looks_tell, found_stands}
use Rattle.nio_history.proofs.OneMore.{has-more}
use Rattle.nio_history.proofs.Soundness.{legal-sound}
use Rattle.nio_history.specs.Answers.{Answers}
use Rattle.nio_history.specs.Conditions.{WasOpen, is_claimed, is_held_by, has_turn, has_begun, has_pin, is_amid}
use Rattle.nio_history.specs.Found.{is_look, finds, channel_tells}
use Rattle.nio_history.specs.Histories.{state_after, event_of, mine, HistoryClause, IsLegal}
use Rattle.nio_history.specs.Permanent.{PermanentFact, stands, channel_of_kind, channel_opened}
use Rattle.nio_history.specs.Permanent.{key_published}
use Rattle.nio_history.specs.OwnEvents.{has}
use Rattle.nio_history.specs.PassViews.{PassView, Holds as HoldsNumber, known, ActsClause, HasKey}
use Rattle.nio_history.specs.Sets.{was_opened, was_published}
use Rattle.nio_history.specs.State.{State, put}
use Rattle.nio_history.specs.declared.act.Act.{Act}
use Rattle.nio_history.specs.declared.act.Act.TheVariants.{DrawBit, LookKey, LookChannel, TakeTurn, BeginLook, Touch}
use Rattle.nio_history.specs.declared.found.Chan.{Chan}
use Rattle.nio_history.specs.declared.found.Stage.{Stage}
use Rattle.nio_history.proofs.LastsOnceSound.{unclaimed_reached}
use Rattle.nio_history.proofs.Put.{put-same, put_at-same}
use Rattle.nio_history.specs.Acts.{taken_by}
use Rattle.nio_history.specs.declared.found.GateWord.{GateWord}
use Rattle.nio_words.specs.Passes.{seen, state_seen, numbers_of, Holds, IsPassOf, limits_of}
use Rattle.nio_words.specs.Steps.{Steps}
use Rattle.nio_words.specs.Views.{view}
use Rattle.nio_words.specs.declared.words.Pass.{Pass}
use Rattle.nio_words.specs.declared.words.Words.{Words}

-- it is a draw that found its number drawn, which adds no event
abbrev pub finds_drawn : Act → Bool
finds_drawn (DrawBit n found) = found
finds_drawn _ = false

history_of : (w : Words) (p q : Pass) (me : CallerNo) (act : Act) → Steps w p q me act → finds_drawn act ≡ false
    → HistoryClause (limits_of w) (Holds p) me (act ∷ []) (seen p) (seen q)
history_of w p q me (DrawBit n true) steps new = absurd cc
history_of w p q me act steps new = steps.clause

-- a step is this act
pub step_acts : {w : Words} {p q : Pass} {me : CallerNo} {act : Act} → Steps w p q me act → finds_drawn act ≡ false
    → ActsClause me (act ∷ []) (view w p) (view w q)
step_acts {w = w} {p = p} {q = q} {me = me} {act = act} steps new =
    let clause = history_of w p q me act steps new in
    record {
      history = record {
        legal = clause.legal;
        goes_on = clause.goes_on;
        own = clause.own;
        others = λ n held other. clause.others n (eqb-true (bit_at (numbers_of p) n.0) 1 held) other;
        ends = clause.ends;
      };
      limits = refl;
      held = ap {B = CallerNo → Bool} (λ numbers n. bit_at numbers n.0 == 1) steps.numbers;
      only = steps.only;
    }

-- ---- just after an act

-- what a look found is what stands there
pub look_tells : {me : CallerNo} {act : Act} {v0 v1 : PassView} → ActsClause me (act ∷ []) v0 v1 → IsTrue (is_look act)
    → Answers (known v1) me act
look_tells {me = me} {act = act} {v0 = v0} {v1 = v1} clause looks =
    let leaves = step_leaves v0.limits (HoldsNumber v0) me act v0.seen v1.seen clause.history in
    let whole : v1.seen ≡ (v0.seen ++ leaves.between) ++ event_of me act ∷ [] = leaves.parts
    ∙ sym (append_assoc v0.seen leaves.between (event_of me act ∷ [])) in
    subst (λ events. Answers (state_after events) me act) (sym whole)
    (looks_tell v0.limits me act (v0.seen ++ leaves.between) [] (subst (IsLegal v0.limits) whole clause.history.legal)
    looks)

-- what the act found tells that the fact stands
pub found_now : {me : CallerNo} {act : Act} {v0 v1 : PassView} (f : PermanentFact) → ActsClause me (act ∷ []) v0 v1
    → IsTrue (finds act f) → IsTrue (stands f (known v1))
found_now {me = me} {act = act} {v0 = v0} {v1 = v1} f clause told =
    found_stands v0.limits me v1.seen clause.history.legal f
    (ap (has (λ x. finds x f)) clause.history.own
    ∙ (has-more (λ x. finds x f) (mine me v0.seen) act
    ∙ or_right (has (λ x. finds x f) (mine me v0.seen)) (finds act f) told))

pub channel_found : {me : CallerNo} {c : ChanNo} {found : Chan} {v0 v1 : PassView} (serial : ℕ)
    → ActsClause me (LookChannel c found ∷ []) v0 v1 → IsTrue (was_opened found serial)
    → IsTrue (was_opened ((known v1).chan c.0) serial)
channel_found {c = c} {found = found} serial clause opened =
    found_now (channel_opened c.0 serial) clause
    (ap (λ b. b && was_opened found serial) (eq-eqb c.0 c.0 refl) ∙ opened)

-- a channel that a look or a closing found open is one that a closing may name, whatever others do meanwhile
pub was_open_found : {me : CallerNo} {act : Act} {c : ChanNo} {found : Chan} {v0 v1 : PassView}
    → ActsClause me (act ∷ []) v0 v1 → ((f : PermanentFact) → finds act f ≡ channel_tells c.0 found f)
    → IsTrue found.made → IsFalse found.closed → WasOpen (known v1) c found
was_open_found {c = c} {found = found} {v1 = v1} clause tells made open_then = record {
  made = made;
  open_then = open_then;
  kind = sym (same_kind now.kind found.kind (and_parts now.made (is_same_kind now.kind found.kind) of_kind).1);
  was = found_now (channel_opened c.0 found.serial) clause
      (tells (channel_opened c.0 found.serial)
      ∙ and_from (c.0 == c.0) (was_opened found found.serial) here
      (and_from found.made (not (nat_lt found.serial found.serial)) made
      (ap not (le-ltb found.serial found.serial (omega arith)))));
}
  where
    now : Chan
    now = (known v1).chan c.0

    here : (c.0 == c.0) ≡ true
    here = eq-eqb c.0 c.0 refl

    of_kind : (now.made && is_same_kind now.kind found.kind) ≡ true
    of_kind =
        found_now (channel_of_kind c.0 found.kind) clause
        (tells (channel_of_kind c.0 found.kind)
        ∙ and_from (c.0 == c.0) (found.made && is_same_kind found.kind found.kind) here
        (and_from found.made (is_same_kind found.kind found.kind) made
        (eq-eqb (kind_code found.kind) (kind_code found.kind) refl)))

pub key_found : {me : CallerNo} {s : SelNo} {i : ℕ} {found : Stage} {v0 v1 : PassView} (serial : ℕ)
    → ActsClause me (LookKey s i found ∷ []) v0 v1 → IsTrue (was_published found serial)
    → IsTrue (was_published ((known v1).key s.0 i) serial)
key_found {s = s} {i = i} {found = found} serial clause published =
    found_now (key_published s.0 i serial) clause
    (ap (λ b. b && (i == i) && was_published found serial) (eq-eqb s.0 s.0 refl)
    ∙ (ap (λ b. b && was_published found serial) (eq-eqb i i refl) ∙ published))

-- ---- the turn of a selector

-- who just took the turn when it was free has it
pub turn_taken : {me : CallerNo} {s : SelNo} {found : Option CallerNo} {v0 v1 : PassView}
    → ActsClause me (TakeTurn s found ∷ []) v0 v1 → found ≡ None → has_turn (known v1) me s ≡ true
turn_taken {me = me} {s = s} {found = found} {v0 = v0} {v1 = v1} clause free =
    let leaves = step_leaves v0.limits (HoldsNumber v0) me (TakeTurn s found) v0.seen v1.seen clause.history in
    let before : State = state_after (v0.seen ++ leaves.between) in
    ap (λ st. has_turn st me s) leaves.state
    ∙ (ap (is_held_by me) (put-same before.turn s.0 (taken_by me found))
    ∙ (ap (λ (o : Option CallerNo). is_held_by me (taken_by me o)) free ∙ eq-eqb me.0 me.0 refl))

-- who has the turn and just found the gate not shut has begun
pub selection_begun : {me : CallerNo} {s : SelNo} {found : GateWord} {v0 v1 : PassView}
    → ActsClause me (BeginLook s found ∷ []) v0 v1 → found.shut ≡ false → has_begun (known v1) me s ≡ true
selection_begun {me = me} {s = s} {found = found} {v0 = v0} {v1 = v1} clause unshut =
    let leaves = step_leaves v0.limits (HoldsNumber v0) me (BeginLook s found) v0.seen v1.seen clause.history in
    let before : State = state_after (v0.seen ++ leaves.between) in
    let here : Bool = before.begun s.0 || not found.shut in
    ap (λ st. has_begun st me s) leaves.state
    ∙ and_from (has_turn before me s) (put before.begun s.0 here s.0) leaves.step.condition.1
    (put-same before.begun s.0 here ∙ or_right (before.begun s.0) (not found.shut) (ap not unshut))

-- ---- changes

-- who just touched an index on which it has a pin is amid a change of it
pub touched_amid : {me : CallerNo} {s : SelNo} {i : ℕ} {found : Bool} {v0 v1 : PassView}
    → ActsClause me (Touch s i found ∷ []) v0 v1 → has_pin (known v1) me s i ≡ true → is_amid (known v1) me s i ≡ true
touched_amid {me = me} {s = s} {i = i} {found = found} {v0 = v0} {v1 = v1} clause pin =
    let leaves = step_leaves v0.limits (HoldsNumber v0) me (Touch s i found) v0.seen v1.seen clause.history in
    let before : State = state_after (v0.seen ++ leaves.between) in
    let pinned : before.pinned s.0 i me.0 ≡ true = sym (ap (λ st. has_pin st me s i) leaves.state) ∙ pin in
    ap (λ st. is_amid st me s i) leaves.state
    ∙ (ap (λ g. g me.0)
    (put_at-same before.amid s.0 i (put (before.amid s.0 i) me.0 (before.pinned s.0 i me.0)))
    ∙ (put-same (before.amid s.0 i) me.0 (before.pinned s.0 i me.0) ∙ pinned))

-- ---- keys

-- the index of a key that was published is claimed
pub key_claimed : {w : Words} {p : Pass} {k : KeyNo} → IsPassOf w p → HasKey (view w p) k
    → IsTrue (is_claimed (state_seen p) k.sel k.index)
key_claimed {w = w} {p = p} {k = k} pass has = by_test (is_claimed (state_seen p) k.sel k.index) refl
  where
    by_test : (b : Bool) → is_claimed (state_seen p) k.sel k.index ≡ b → is_claimed (state_seen p) k.sel k.index ≡ true
    by_test true claimed = claimed
    by_test false claimed =
        absurd (unclaimed_reached (λ stage. stage.published) ((state_seen p).key k.sel.0 k.index) k.serial
        ((legal-sound (limits_of w) (seen p) pass.legal).unclaimed_bare k.sel.0 k.index claimed) has.published)

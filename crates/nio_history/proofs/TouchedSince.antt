-- An index is touched exactly where somebody touched it since the bits of its word were taken last.
use Rattle.std.proofs.Common.{◌≡◌, ℕ, ◌/◌, ◌==◌, Bool, true, false, ◌&&◌, ◌||◌, if◌then◌else◌, List, [], ◌∷◌, ◌++◌, map}
use Rattle.std.proofs.Common.{refl, ap, sym, ◌∙◌}
use Rattle.std.proofs.Math.Bool.{or-false, or-true}
use Rattle.std.proofs.lemmas.List.{map-append}
use Rattle.nio_base.specs.declared.numbers.CallerNo.{CallerNo}
use Rattle.nio_history.proofs.Legal.{legal_induction}
use Rattle.nio_history.proofs.OneMore.{state_after-more, has_since-more}
use Rattle.nio_history.proofs.OwnChanges.{elsewhere}
use Rattle.nio_history.proofs.OwnPins.{swapped}
use Rattle.nio_history.proofs.Put.{put_at-there}
use Rattle.nio_history.specs.Acts.{effect}
use Rattle.nio_history.specs.Histories.{state_after, IsStep, IsLegal}
use Rattle.nio_history.specs.Lists.{takes_word_of, TouchedSince}
use Rattle.nio_history.specs.OwnEvents.{has, since_from, touches}
use Rattle.nio_history.specs.State.{State, put_at}
use Rattle.nio_history.specs.declared.act.Act.{Act}
use Rattle.nio_history.specs.declared.act.Act.TheVariants.{Touch, TakeTouched}
use Rattle.nio_history.specs.declared.event.Event.{Event}

-- whether the index is touched after a step, where this says whether it was before
abbrev touched_by : ℕ → ℕ → Bool → Act → Bool
touched_by s i was act = if takes_word_of s i act then false else was || touches s i act

touched_change : (st : State) (me : CallerNo) (act : Act) (s i : ℕ)
    → (effect st me act).touched s i ≡ touched_by s i (st.touched s i) act
touched_change st me (Touch s' i' found) s i = by_place ((s'.0 == s) && (i' == i)) refl
  where
    by_place : (b : Bool) → ((s'.0 == s) && (i' == i)) ≡ b
        → put_at st.touched s'.0 i' true s i ≡ (st.touched s i || ((s'.0 == s) && (i' == i)))
    by_place true here =
        put_at-there st.touched s'.0 i' true s i here
        ∙ sym (ap (λ b. st.touched s i || b) here ∙ or-true (st.touched s i))
    by_place false off =
        elsewhere st.touched s'.0 i' true s i off ∙ sym (ap (λ b. st.touched s i || b) off ∙ or-false (st.touched s i))
touched_change st me (TakeTouched s' j found) s i =
    ap (λ b. if b && (i / 64 == j) then false else st.touched s i) (swapped s s'.0)
    ∙ ap (λ b. if (s'.0 == s) && (i / 64 == j) then false else b) (sym (or-false (st.touched s i)))
touched_change st me act s i = sym (or-false (st.touched s i))

pub touched_since : TouchedSince
touched_since l s i =
    legal_induction l (λ events. (state_after events).touched s.0 i
    ≡ has (touches s.0 i) (since_from (takes_word_of s.0 i) (map (λ e. e.act) events))) refl each
  where
    each : (past : List Event) (e : Event) → IsLegal l past → IsStep l past e
        → (state_after past).touched s.0 i
        ≡ has (touches s.0 i) (since_from (takes_word_of s.0 i) (map (λ x. x.act) past))
        → (state_after (past ++ e ∷ [])).touched s.0 i
        ≡ has (touches s.0 i) (since_from (takes_word_of s.0 i) (map (λ x. x.act) (past ++ e ∷ [])))
    each past e legal step before =
        ap (λ (st : State). st.touched s.0 i) (state_after-more past e)
        ∙ (touched_change (state_after past) e.caller e.act s.0 i
        ∙ (ap (λ b. touched_by s.0 i b e.act) before
        ∙ (sym (has_since-more (takes_word_of s.0 i) (touches s.0 i) (map (λ x. x.act) past) e.act)
        ∙ ap (λ acts. has (touches s.0 i) (since_from (takes_word_of s.0 i) acts))
        (sym (map-append (λ (x : Event). x.act) past (e ∷ []))))))

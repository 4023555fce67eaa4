-- What `told` answers where the caller has a selection in progress.
use Rattle.std.proofs.Common.{◌≡◌, ℕ, ◌<◌, Bool, true, false, Some, Ok, List, get_or, set, length, bit_and, count_by}
use Rattle.std.proofs.Common.{refl, sym, ap, ◌∙◌, map}
use Rattle.nio_base.specs.declared.numbers.CallerNo.{CallerNo}
use Rattle.nio_base.specs.declared.numbers.KeyId.{KeyId}
use Rattle.nio_base.specs.declared.numbers.SelNo.{SelNo}
use Rattle.nio_history.specs.State.{put, unmade_channel}
use Rattle.nio_history.specs.declared.found.GateWord.{GateWord}
use Rattle.nio_history.specs.declared.why.Why.{Why}
use Rattle.nio_language.specs.declared.reply.Reply.TheVariants as reply
use Rattle.nio_plain.proofs.Replying.{unchanged_as, replied_as, state-set_selector, rows_of, with_rows}
use Rattle.nio_plain.proofs.Replying.{selector_made-below}
use Rattle.nio_plain.proofs.Marking.{TellsLooked, marked_keys-told, counted-at}
use Rattle.nio_plain.proofs.Places.{places_at}
use Rattle.nio_plain.proofs.Telling.{told-own, told-again, told-done, own-some, after_selection, state-ended}
use Rattle.nio_plain.specs.Plain.{RepliesAs, Kept}
use Rattle.nio_plain.specs.PlainState.{SelectorRow, KeyRow, places, state_of, channel_row, selector_row, no_selector}
use Rattle.nio_plain.specs.PlainState.{key_row, no_key, swept_at_end, with_selection_ended, pipe_of}
use Rattle.nio_plain.specs.ScriptState.{Selection}
use Rattle.nio_plain.specs.Seq.Selections.{told_call, told_selection, updated_count, is_updated, told_bits, is_again}
use Rattle.nio_plain.specs.Seq.Selections.{why_ended}
use Rattle.nio_plain.specs.declared.plain.Plain.{Plain}
use Rattle.nio_plain.specs.declared.plain.selector.Selecting.{Selecting}
use Rattle.nio_plain.specs.declared.plain.selector.Selector.{Selector}

module _ (p : Plain) (me : CallerNo) (sel : SelNo) (elapsed : Bool) (pairs : List (KeyId × ℕ)) (x : Selector)
    (y : Selecting) (within : sel.0 < length p.selectors.items) (e : x ≡ get_or p.selectors.items sel.0 x)
    (some : x.selecting ≡ Some y) (same : y.caller.0 ≡ me.0) (told : ℕ → ℕ)
    (tells : TellsLooked told pairs y.looked.items) where
  row_is : rows_of p sel.0 ≡ selector_row x
  row_is = places_at selector_row no_selector p.selectors.items sel.0 x within e

  abbrev own : Selection
  own = record { mode = y.mode; bound = y.bound; looked = y.looked.items }

  call_is : told_call p.rules (state_of p) me sel elapsed pairs ≡ told_selection p.rules
      (state_of p) me sel.0 pairs elapsed (Some own)
  call_is =
      told-own p.rules (state_of p) me sel elapsed pairs (Some own)
      (selector_made-below p.selectors.items sel.0 within)
      (own-some p me sel.0 x row_is y some same)

  module _ (count : ℕ)
      (counted : count
      ≡ count_by
      (λ (q : KeyId × ℕ). is_updated (places key_row no_key x.keys.items q.0.index).mark
      (bit_and (told q.0.index) q.1)) y.looked.items) (gate : GateWord)
      (gated : gate ≡ (selector_row x).gate) (interrupted : Bool)
      (asked : interrupted ≡ (state_of p).shared.interrupted me.0) where
    count_is : updated_count (state_of p).shared sel.0 y.looked.items pairs ≡ count
    count_is =
        ap (λ (r : SelectorRow). count_by
        (λ (q : KeyId × ℕ). is_updated (r.keys q.0.index).mark (told_bits y.looked.items pairs q.0)) y.looked.items)
        row_is ∙ (counted-at (selector_row x).keys y.looked.items pairs told y.rising tells ∙ sym counted)

    gate_is : (state_of p).shared.gate sel.0 ≡ gate
    gate_is = ap (λ (r : SelectorRow). r.gate) row_is ∙ sym gated

    pub answers-again : is_again gate interrupted y.mode elapsed count ≡ true
        → RepliesAs p p (Ok reply.Again) (told_call p.rules (state_of p) me sel elapsed pairs)
    answers-again h =
        unchanged_as p reply.Again _
        (call_is ∙ told-again p.rules (state_of p) me sel.0 elapsed pairs own count count_is gate gate_is interrupted
        (sym asked) h)

    pub answers-told : (q : Plain) (z : Selector) (why : Why) → is_again gate interrupted y.mode elapsed count ≡ false
        → why ≡ why_ended gate interrupted y.mode count
        → selector_row z ≡ with_selection_ended p.rules (selector_row x) y.looked.items told
        → state_of q ≡ with_rows p (places selector_row no_selector (set p.selectors.items sel.0 z)) → Kept p q
        → RepliesAs p q (Ok (reply.Selected count why))
        (told_call p.rules (state_of p) me sel elapsed pairs)
    answers-told q z why h because ended left kept =
        let marks = marked_keys-told (selector_row x).keys y.looked.items pairs told tells in
        let ends : (ℕ → KeyRow)
        → SelectorRow = λ keys.
        record (with_selection_ended p.rules
        (selector_row x) y.looked.items told) { keys = swept_at_end p.rules keys y.looked.items } in
        let row = (ended ∙ ap ends marks) ∙ ap (after_selection p.rules y.looked.items pairs) (sym row_is) in
        replied_as p q _ _ _
        (call_is ∙ told-done p.rules (state_of p) me sel.0 elapsed pairs own count count_is gate gate_is interrupted
        (sym asked) h)
        (ap (reply.Selected count) because)
        (left ∙ (state-set_selector p _ sel.0 z within refl
        ∙ (ap (λ r. with_rows p (put (rows_of p) sel.0 r)) row
        ∙ state-ended p.group (map pipe_of p.pipes.items) (places (λ b. b) false p.interrupted.items)
        (length p.channels.items) (places channel_row unmade_channel p.channels.items) sel.0 p.rules
        (rows_of p) own pairs)))
        kept

-- Completions that are handled one after the other.
use Rattle.std.proofs.Common.{◌≡◌, ℕ, ◌+◌, List, [], ◌∷◌, ◌++◌, length, map, refl, ap, sym, ◌∙◌, arith}
use Rattle.std.proofs.lemmas.List.{append_assoc, append-nil, length-append, length-map, map-append}
use Rattle.nio_group.specs.Completion.{CompletionFields}
use Rattle.nio_group.specs.Group.{Group}
use Rattle.nio_operations.specs.Handling.{Handled, Handles, after_all, after_handled, after_one, held_after_due, with_all_taken}
use Rattle.nio_pool.specs.Hands.{number}
use Rattle.nio_pool.specs.Queues.{GoesOn, IsPassOf, PassFields, QueueFields, with_taken}

all_and_one : (h : Handled) (done : List CompletionFields) (d : CompletionFields)
    → after_all h (done ++ d ∷ []) ≡ after_one (after_all h done) d
all_and_one h [] d = refl
all_and_one h (x ∷ xs) d = all_and_one (after_one h x) xs d

taken_more : (p : PassFields) (done : List CompletionFields) (d : CompletionFields)
    → with_taken (with_all_taken p done) d ≡ with_all_taken p (done ++ d ∷ [])
taken_more p done d =
    ap (λ (ns : List ℕ). record p { hand = record p.hand { taken = ns } })
    (append_assoc p.hand.taken (map number done) (number d ∷ [])
    ∙ ap (λ (ns : List ℕ). p.hand.taken ++ ns) (sym (map-append number done (d ∷ []))))

pub handles_first : (first : CompletionFields) (before : Handled) (old : PassFields) (held : List ℕ) (group : Group)
    → held ≡ held_after_due before.held before.group first → group ≡ after_handled before.held before.group first
    → Handles first before (record { held = held; group = group }) old old 1
handles_first first before old held group held_is group_is =
    record {
      more = [];
      taken = ap (λ (ns : List ℕ). record old { hand = record old.hand { taken = ns } })
          (sym (append-nil old.hand.taken));
      handled = rw (held_is, group_is) refl;
      counted = refl;
    }

pub handles_more : (first : CompletionFields) (before mid : Handled) (old between new : PassFields) (count : ℕ)
    (next : CompletionFields) (held : List ℕ) (group : Group) → Handles first before mid old between count
    → new ≡ with_taken between next → held ≡ held_after_due mid.held mid.group next
    → group ≡ after_handled mid.held mid.group next
    → Handles first before (record { held = held; group = group }) old new (count + 1)
handles_more first before mid old between new count next held group handles taken held_is group_is =
    let one : record { held = held; group = group } ≡ after_one mid next = rw (held_is, group_is) refl in
    record {
      more = handles.more ++ next ∷ [];
      taken = taken ∙ ap (λ (p : PassFields). with_taken p next) handles.taken ∙ taken_more old handles.more next;
      handled = one ∙ ap (λ (h : Handled). after_one h next) handles.handled
          ∙ sym (all_and_one before (first ∷ handles.more) next);
      counted = omega (arith, handles.counted, length-append handles.more (next ∷ []));
    }

-- so many has the pass taken, and one more was handled
pub handles_counts : (first : CompletionFields) (before now : Handled) (old new : PassFields) (count : ℕ)
    → Handles first before now old new count → length new.hand.taken + 1 ≡ length old.hand.taken + count
handles_counts first before now old new count handles =
    let taken = ap (λ (p : PassFields). length p.hand.taken) handles.taken in
    omega (
      arith,
      taken,
      handles.counted,
      length-append old.hand.taken (map number handles.more),
      length-map handles.more number,
    )

-- the pass is the same, and has taken more
pub handles_goes_on : (q : QueueFields) (first : CompletionFields) (before now : Handled) (old new : PassFields)
    (count : ℕ) → Handles first before now old new count → IsPassOf q new → GoesOn q old new
handles_goes_on q first before now old new count handles pass =
    record {
      pass = pass;
      parts = ap (λ (p : PassFields). p.hand.parts) handles.taken;
      put = ([], append-nil old.hand.put ∙ sym (ap (λ (p : PassFields). p.hand.put) handles.taken));
      taken = (map number handles.more, sym (ap (λ (p : PassFields). p.hand.taken) handles.taken));
    }

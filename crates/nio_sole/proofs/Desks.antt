-- What a desk has in progress, once something was put into a place of it.
use Rattle.std.proofs.Common.{◌≡◌, ℕ, ◌<◌, [], Option, Some, None, List, length, set, refl}
use Rattle.nio_sole.specs.Stands.{IsOn}
use Rattle.std.proofs.Common.{sym, ap, ◌∙◌, subst, ⊎_elim, arith, vec_len, true, Bool, if◌then◌else◌}
use Rattle.std.proofs.Common.{eq-eqb}
use Rattle.std.proofs.lemmas.Bool.{cases_eq}
use Rattle.std.proofs.lemmas.List.{get_or-set_same, get_or-set_other, length-set}
use Rattle.std.proofs.lemmas.List.Elements.{All-nil, All-weaker}
use Rattle.std.specs.Prelude.{option_map, Vec}
use Rattle.std.specs.declared.alloc.Global.{Global}
use Rattle.nio_base.specs.declared.numbers.CallerNo.{CallerNo}
use Rattle.nio_base.specs.declared.numbers.SelNo.{SelNo}
use Rattle.nio_channel.proofs.Idle.{channel_same}
use Rattle.nio_history.proofs.PassViews.{channel_after}
use Rattle.nio_history.specs.PassViews.{PassView}
use Rattle.nio_history.specs.State.{put}
use Rattle.nio_history.specs.declared.act.Act.{Act}
use Rattle.nio_language.specs.declared.reply.Reply.{Reply}
use Rattle.nio_pipe.specs.Calls.{HasEnds}
use Rattle.nio_plain.proofs.Places.{put_is}
use Rattle.nio_plain.specs.Seq.Selections.{is_caller}
use Rattle.nio_select.specs.InHand.{InHand, selection_of}
use Rattle.nio_serial.proofs.Base.{put-back}
use Rattle.nio_serial.specs.Documented.{Progress, Selecting}
use Rattle.nio_serial.specs.Lines.{Said, if_own, with_closing, with_selection}
use Rattle.nio_sole.specs.Stands.{slot, selecting_of, selections_of, closings_of, progress_of, AreMade, HasPlaces}
use Rattle.nio_sole.specs.declared.desk.Begun.{Begun}
use Rattle.nio_sole.specs.declared.desk.Desk.{Desk}
use Rattle.nio_sole.specs.declared.desk.OwnedPipe.{OwnedPipe}
use Rattle.nio_sole.specs.declared.desk.Shut.{Shut}
use Rattle.nio_steps.specs.Calls.{CallClause}
use Rattle.nio_steps.specs.Plan.{Plan}
use Rattle.nio_steps.specs.Runs.{Completes}
use Rattle.nio_words.specs.Passes.{limits_of, seen}
use Rattle.nio_words.specs.Views.{view}
use Rattle.nio_words.specs.declared.words.Pass.{Pass}
use Rattle.nio_words.specs.declared.words.Words.{Words}

-- ---- places

pub part_put : {A B : Type 0} (f : Option A → B) (xs : List (Option A)) (s : ℕ) (x : Option A) → s < length xs
    → ◌≡◌ {A = ℕ → B} (λ n. f (slot (set xs s x) n)) (put (λ n. f (slot xs n)) s (f x))
part_put f xs s x below =
    put_is (λ n. f (slot (set xs s x) n)) (λ n. f (slot xs n)) s (f x) (ap f (get_or-set_same xs s x None below))
    (λ n other. ap f (get_or-set_other xs s n x None other))

-- what stands in each place stands there so
pub places_put : {A : Type 0} (At : ℕ → A → Type 0) (xs : List (Option A)) (s : ℕ) (y : Option A) → s < length xs
    → ((n : ℕ) (x : A) → slot xs n ≡ Some x → At n x) → ((x : A) → y ≡ Some x → At s x)
    → (n : ℕ) (x : A) → slot (set xs s y) n ≡ Some x → At n x
places_put At xs s y below others here n x is =
    ⊎_elim
    (λ (same : n ≡ s). subst (λ k. At k x) (sym same)
    (here x (sym (ap (slot (set xs s y)) same ∙ get_or-set_same xs s y None below) ∙ is)))
    (λ (other : n ≡ s → ⊥). others n x (sym (get_or-set_other xs s n y None other) ∙ is))
    (cases_eq n s)

pub some_is : {A : Type 0} {x y : A} → Some y ≡ Some x → x ≡ y
some_is same = cc

-- the channels of the pipes are made still after a call
pub still_made : {R : Type 0} {Shape : List Act → R → Type 0} {w : Words} {d : Desk} {me : CallerNo} {answer : R}
    (q : Pass) → HasPlaces w d → CallClause me Shape (view w d.pass) (view w q) answer
    → AreMade (view w q) d.pipes.items
still_made {w = w} {d = d} q places call =
    All-weaker (λ (x : OwnedPipe). HasEnds (view w d.pass) x.pipe.source x.pipe.sink)
    (λ (x : OwnedPipe). HasEnds (view w q) x.pipe.source x.pipe.sink)
    (λ x ends. record { source = channel_after call.acts ends.source; sink = channel_after call.acts ends.sink })
    d.pipes.items places.pipes

-- and for another pass that has seen the same
pub made_for : (w : Words) (p q : Pass) (pipes : List OwnedPipe) → seen q ≡ seen p → AreMade (view w p) pipes
    → AreMade (view w q) pipes
made_for w p q pipes same made =
    All-weaker (λ (x : OwnedPipe). HasEnds (view w p) x.pipe.source x.pipe.sink)
    (λ (x : OwnedPipe). HasEnds (view w q) x.pipe.source x.pipe.sink)
    (λ x ends. record { source = channel_same w p q same ends.source; sink = channel_same w p q same ends.sink })
    pipes made

pub none_made : {pass : PassView} {pipes : List OwnedPipe} → pipes ≡ [] → AreMade pass pipes
none_made {pass = pass} none =
    subst (AreMade pass) (sym none) (All-nil (λ (x : OwnedPipe). HasEnds pass x.pipe.source x.pipe.sink))

-- after a call the places are the same
pub places_same : {R : Type 0} {Shape : List Act → R → Type 0} {w : Words} {d : Desk} {me : CallerNo} {answer : R}
    (q : Pass) → CallClause me Shape (view w d.pass) (view w q) answer → HasPlaces w d
    → HasPlaces w (record d { pass = q })
places_same q call places = record {
  selections = places.selections;
  closings = places.closings;
  selects = places.selects;
  closes = places.closes;
  pipes = still_made q places call;
}

-- ---- what a line leaves

pub left_as : {me : CallerNo} {plan : Plan Said} {r : Reply} {v0 v1 : PassView} {left left' : Progress}
    → CallClause me (Completes plan) v0 v1 (record { reply = r; left = left }) → left ≡ left'
    → CallClause me (Completes plan) v0 v1 (record { reply = r; left = left' })
left_as {me = me} {plan = plan} {r = r} {v0 = v0} {v1 = v1} call same =
    subst (λ (x : Progress). CallClause me (Completes plan) v0 v1 (record { reply = r; left = x })) same call

pub with_closings : (now : Progress) {f g : ℕ → Option CallerNo} → f ≡ g
    → ◌≡◌ {A = Progress} (record now { closing = f }) (record now { closing = g })
with_closings now same = ap (λ closing. record now { closing = closing }) same

pub with_selections : (now : Progress) {f g : ℕ → Option Selecting} → f ≡ g
    → ◌≡◌ {A = Progress} (record now { selection = f }) (record now { selection = g })
with_selections now same = ap (λ selection. record now { selection = selection }) same

-- ---- a closing is put into its place, or taken out

abbrev pub with_closings_in : Desk → Pass → Vec (Option Shut) Global → Desk
with_closings_in d p closings = record d { pass = p; closings = closings }

pub progress_closing : (w : Words) (d : Desk) (p : Pass) (s : SelNo) (closings : Vec (Option Shut) Global)
    (place : Option Shut) → HasPlaces w d → s.0 < (limits_of w).selectors
    → closings.items ≡ set d.closings.items s.0 place
    → progress_of (with_closings_in d p closings) ≡ with_closing (progress_of d) s (option_map (λ x. x.caller) place)
progress_closing w d p s closings place places inside items =
    with_closings (progress_of d)
    (ap closings_of items
    ∙ part_put (option_map (λ x. x.caller)) d.closings.items s.0 place (omega (arith, places.closings)))

pub places_closing : (w : Words) (d : Desk) (p : Pass) (s : SelNo) (closings : Vec (Option Shut) Global)
    (place : Option Shut) → HasPlaces w d → s.0 < (limits_of w).selectors
    → closings.items ≡ set d.closings.items s.0 place → vec_len closings ≡ vec_len d.closings
    → ((x : Shut) → place ≡ Some x → x.closing.0 ≡ s.0)
    → AreMade (view w p) d.pipes.items → HasPlaces w (with_closings_in d p closings)
places_closing w d p s closings place places inside items len on made = record {
  selections = places.selections;
  closings = len ∙ places.closings;
  selects = places.selects;
  closes = λ n x is. places_put (λ n (x : Shut). x.closing.0 ≡ n) d.closings.items s.0 place
      (omega (arith, places.closings)) places.closes on n x (sym (ap (λ xs. slot xs n) items) ∙ is);
  pipes = made;
}

-- ---- a selection is put into its place, or taken out

abbrev pub with_selections_in : Desk → Pass → Vec (Option Begun) Global → Desk
with_selections_in d p selections = record d { pass = p; selections = selections }

pub progress_selection : (w : Words) (d : Desk) (p : Pass) (s : SelNo) (selections : Vec (Option Begun) Global)
    (place : Option Begun) → HasPlaces w d → s.0 < (limits_of w).selectors
    → selections.items ≡ set d.selections.items s.0 place
    → progress_of (with_selections_in d p selections) ≡ with_selection (progress_of d) s (option_map selecting_of place)
progress_selection w d p s selections place places inside items =
    with_selections (progress_of d)
    (ap selections_of items
    ∙ part_put (option_map selecting_of) d.selections.items s.0 place (omega (arith, places.selections)))

pub places_selection : (w : Words) (d : Desk) (p : Pass) (s : SelNo) (selections : Vec (Option Begun) Global)
    (place : Option Begun) → HasPlaces w d → s.0 < (limits_of w).selectors
    → selections.items ≡ set d.selections.items s.0 place → vec_len selections ≡ vec_len d.selections
    → ((x : Begun) → place ≡ Some x → IsOn s.0 (selection_of x.selection))
    → AreMade (view w p) d.pipes.items → HasPlaces w (with_selections_in d p selections)
places_selection w d p s selections place places inside items len on made = record {
  selections = len ∙ places.selections;
  closings = places.closings;
  selects = λ n x is. places_put (λ n (x : Begun). IsOn n (selection_of x.selection)) d.selections.items s.0 place
      (omega (arith, places.selections)) places.selects on n x (sym (ap (λ xs. slot xs n) items) ∙ is);
  closes = places.closes;
  pipes = made;
}

-- ---- a closing that stands in its place

pub its_selector : {s : SelNo} {x : SelNo} → x.0 ≡ s.0 → x ≡ s
its_selector same = ap (λ n. record { 0 = n }) same

pub own_closing : (me : CallerNo) (place : Option Shut) {x : SelNo} → place ≡ Some (record { caller = me; closing = x })
    → is_caller me (option_map (λ y. y.caller) place) ≡ true
own_closing me place is = ap (λ y. is_caller me (option_map (λ z. z.caller) y)) is ∙ eq-eqb me.0 me.0 refl

pub places_taken : {w : Words} {d : Desk} {closings : Vec (Option Shut) Global} → HasPlaces w d
    → closings.items ≡ d.closings.items → vec_len closings ≡ vec_len d.closings
    → HasPlaces w (with_closings_in d d.pass closings)
places_taken places items len = record {
  selections = places.selections;
  closings = len ∙ places.closings;
  selects = places.selects;
  closes = λ n x is. places.closes n x (sym (ap (λ xs. slot xs n) items) ∙ is);
  pipes = places.pipes;
}

-- what was taken out is put back
pub progress_put_back : (w : Words) (d : Desk) (p : Pass) (s : SelNo) (taken after : Vec (Option Shut) Global)
    (x y : Shut) → HasPlaces w d → s.0 < (limits_of w).selectors
    → taken.items ≡ set d.closings.items s.0 None → vec_len taken ≡ vec_len d.closings
    → after.items ≡ set taken.items s.0 (Some y) → slot d.closings.items s.0 ≡ Some x → y.caller ≡ x.caller
    → progress_of (with_closings_in d p after) ≡ progress_of d
progress_put_back w d p s taken after x y places inside items len items' was same =
    let none : Option Shut = None in
    with_closings (progress_of d)
    (ap closings_of (items' ∙ ap (λ xs. set xs s.0 (Some y)) items)
    ∙ (part_put (option_map (λ z. z.caller)) (set d.closings.items s.0 None) s.0 (Some y)
    (omega (arith, places.closings, length-set d.closings.items s.0 none))
    ∙ (ap (λ (f : ℕ → Option CallerNo). put f s.0 (Some y.caller))
    (part_put (option_map (λ z. z.caller)) d.closings.items s.0 None (omega (arith, places.closings)))
    ∙ put-back (closings_of d.closings.items) s.0 None (Some y.caller)
    (ap (option_map (λ z. z.caller)) was ∙ ap Some (sym same)))))

pub nothing_there : {A B : Type 0} {x : A} → None ≡ Some x → B
nothing_there is = absurd cc

pub places_put_back : (w : Words) (d : Desk) (p : Pass) (s : SelNo) (taken after : Vec (Option Shut) Global) (y : Shut)
    → HasPlaces w d → s.0 < (limits_of w).selectors
    → taken.items ≡ set d.closings.items s.0 None → vec_len taken ≡ vec_len d.closings
    → after.items ≡ set taken.items s.0 (Some y) → vec_len after ≡ vec_len taken → y.closing.0 ≡ s.0
    → AreMade (view w p) d.pipes.items → HasPlaces w (with_closings_in d p after)
places_put_back w d p s taken after y places inside items len items' len' on made =
    let middle : HasPlaces w (with_closings_in d p taken) = places_closing w d p s taken None places inside items len
    (λ x is. nothing_there is) made in
    places_closing w (with_closings_in d p taken) p s after (Some y) middle inside items' len'
    (λ x is. ap (λ (z : Shut). z.closing.0) (some_is is) ∙ on) made

-- ---- a selection that stood in its place

pub places_selection_taken : {w : Words} {d : Desk} {selections : Vec (Option Begun) Global} → HasPlaces w d
    → selections.items ≡ d.selections.items → vec_len selections ≡ vec_len d.selections
    → HasPlaces w (with_selections_in d d.pass selections)
places_selection_taken places items len = record {
  selections = len ∙ places.selections;
  closings = places.closings;
  selects = λ n x is. places.selects n x (sym (ap (λ xs. slot xs n) items) ∙ is);
  closes = places.closes;
  pipes = places.pipes;
}

-- what was taken out is put back
pub progress_selection_back : (w : Words) (d : Desk) (p : Pass) (s : SelNo)
    (taken after : Vec (Option Begun) Global) (y : Begun) → HasPlaces w d → s.0 < (limits_of w).selectors
    → taken.items ≡ set d.selections.items s.0 None → vec_len taken ≡ vec_len d.selections
    → after.items ≡ set taken.items s.0 (Some y) → slot d.selections.items s.0 ≡ Some y
    → progress_of (with_selections_in d p after) ≡ progress_of d
progress_selection_back w d p s taken after y places inside items len items' was =
    let none : Option Begun = None in
    with_selections (progress_of d)
    (ap selections_of (items' ∙ ap (λ xs. set xs s.0 (Some y)) items)
    ∙ (part_put (option_map selecting_of) (set d.selections.items s.0 None) s.0 (Some y)
    (omega (arith, places.selections, length-set d.selections.items s.0 none))
    ∙ (ap (λ (f : ℕ → Option Selecting). put f s.0 (Some (selecting_of y)))
    (part_put (option_map selecting_of) d.selections.items s.0 None (omega (arith, places.selections)))
    ∙ put-back (selections_of d.selections.items) s.0 None (Some (selecting_of y))
    (ap (option_map selecting_of) was))))

pub places_selection_back : (w : Words) (d : Desk) (p : Pass) (s : SelNo) (taken after : Vec (Option Begun) Global)
    (y : Begun) → HasPlaces w d → s.0 < (limits_of w).selectors
    → taken.items ≡ set d.selections.items s.0 None → vec_len taken ≡ vec_len d.selections
    → after.items ≡ set taken.items s.0 (Some y) → vec_len after ≡ vec_len taken
    → IsOn s.0 (selection_of y.selection)
    → AreMade (view w p) d.pipes.items → HasPlaces w (with_selections_in d p after)
places_selection_back w d p s taken after y places inside items len items' len' on made =
    let middle : HasPlaces w (with_selections_in d p taken) = places_selection w d p s taken None places inside items
    len (λ x is. nothing_there is) made in
    places_selection w (with_selections_in d p taken) p s after (Some y) middle inside items' len'
    (λ x is. subst (λ (z : Begun). IsOn s.0 (selection_of z.selection)) (sym (some_is is)) on) made

-- the caller's own selection
pub own_selection_of : (me : CallerNo) (place : Option Begun) {x : InHand}
    → place ≡ Some (record { caller = me; selection = x })
    → if_own me (option_map selecting_of place) ≡ Some (selection_of x)
own_selection_of me place {x = x} is =
    ap (λ y. if_own me (option_map selecting_of y)) is
    ∙ ap (λ (b : Bool). if b then Some (selection_of x) else None) (eq-eqb me.0 me.0 refl)

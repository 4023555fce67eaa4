-- What callers have in progress, where a progress shows it: what a call puts in progress, for its caller and for
-- others.
use Rattle.std.proofs.Common.{◌≡◌, ℕ, ◌==◌, Bool, true, false, if◌then◌else◌, Option, Some, None, List, []}
use Rattle.std.proofs.Common.{◌∷◌, refl, ap, sym, ◌∙◌, eqb-true, eq-eqb}
use Rattle.nio_base.specs.declared.numbers.CallerNo.{CallerNo}
use Rattle.nio_history.proofs.Put.{put_keeps, put_both}
use Rattle.nio_history.specs.State.{put}
use Rattle.nio_orderly.specs.Made.{Made, draw, table_call, waiting_call}
use Rattle.nio_orderly.specs.Orderly.{MadeBy}
use Rattle.nio_plain.specs.Seq.Selections.{is_caller}
use Rattle.nio_serial.specs.Left.{progress_changed, after_made, in_progress, IsOngoing}
use Rattle.nio_serial.specs.Documented.{Progress, Selecting}
use Rattle.nio_serial.specs.Lines.{if_own, own_selection}
use Rattle.nio_steps.specs.Names.{selector}
use Rattle.nio_steps.specs.Ongoing.{Ongoing, Change, no_change, selection_begins, selection_goes_on, selection_ends}
use Rattle.nio_steps.specs.Ongoing.{selection_made, closing_begins, closing_ends, list_taken}
use Rattle.nio_steps.specs.SelectCalls.{Selection}
use Rattle.nio_steps.specs.TableCalls.{row_of, wait_row_of}

-- ---- pipes of a script

-- The calls of a history make no pipe of a script: its pipes are made by lines.
pipes-changed : (now : Progress) (me : CallerNo) (change : Change) → (progress_changed now me change).pipes ≡ now.pipes
pipes-changed now me no_change = refl
pipes-changed now me (selection_begins s x) = refl
pipes-changed now me (selection_goes_on s x) = refl
pipes-changed now me (selection_ends s) = refl
pipes-changed now me (selection_made s x) = refl
pipes-changed now me (closing_begins s) = refl
pipes-changed now me (closing_ends s) = refl
pipes-changed now me (list_taken s) = refl

pub pipes-after : (now : Progress) (me : CallerNo) (made : Made) → (after_made now me made).pipes ≡ now.pipes
pipes-after now me (draw n) = refl
pipes-after now me (table_call call answer) = pipes-changed now me ((row_of call).change answer)
pipes-after now me (waiting_call call answer) = pipes-changed now me ((wait_row_of call).change answer)

pub pipes-in_progress : (now : Progress) (made : List MadeBy) → (in_progress now made).pipes ≡ now.pipes
pipes-in_progress now [] = refl
pipes-in_progress now (one ∷ later) =
    pipes-in_progress (after_made now one.caller one.call) later ∙ pipes-after now one.caller one.call

-- ---- of the caller itself

pub put_selection : (me : CallerNo) (now : Progress) (o : Ongoing) (s : ℕ) (x : Option Selection) (y : Option Selecting)
    → x ≡ if_own me y → IsOngoing me now o
    → IsOngoing me (record now { selection = put now.selection s y }) (record o { selection = put o.selection s x })
put_selection me now o s x y own at = record {
  selection = λ t. put_both (λ _ a b. a ≡ if_own me b) o.selection now.selection s x y own t (at.selection t);
  closes = at.closes;
}

pub put_closing : (me : CallerNo) (now : Progress) (o : Ongoing) (s : ℕ) (x : Bool) (y : Option CallerNo)
    → x ≡ is_caller me y → IsOngoing me now o
    → IsOngoing me (record now { closing = put now.closing s y }) (record o { closes = put o.closes s x })
put_closing me now o s x y own at = record {
  selection = at.selection;
  closes = λ t. put_both (λ _ a b. a ≡ is_caller me b) o.closes now.closing s x y own t (at.closes t);
}

-- what stands there is put again
pub put_same : (me : CallerNo) (now : Progress) (o : Ongoing) (s : ℕ) (x : Option Selection) → x ≡ o.selection s
    → IsOngoing me now o → IsOngoing me now (record o { selection = put o.selection s x })
put_same me now o s x is at = record {
  selection =
      λ t. put_keeps (λ k a. a ≡ own_selection now me (selector k)) o.selection s x (λ was. is ∙ was) t
      (at.selection t);
  closes = at.closes;
}

pub own_of_caller : (me : CallerNo) (x : Selection) → Some x ≡ if_own me (Some (record { caller = me; selection = x }))
own_of_caller me x = ap (λ (b : Bool). if b then Some x else None) (sym (eq-eqb me.0 me.0 refl))

pub closing_of_caller : (me : CallerNo) → true ≡ is_caller me (Some me)
closing_of_caller me = sym (eq-eqb me.0 me.0 refl)

-- ---- of the others

module _ (me n : CallerNo) (other : (me.0 == n.0) ≡ false) where
  -- whoever is this caller isn't the other one
  not_other : (k : ℕ) → (k == me.0) ≡ true → (k == n.0) ≡ false
  not_other k is = ap (λ (m : ℕ). m == n.0) (eqb-true k me.0 is) ∙ other

  none_of_other : (y : Selecting) → (y.caller.0 == me.0) ≡ true → if_own n (Some y) ≡ None
  none_of_other y is = ap (λ (b : Bool). if b then Some y.selection else None) (not_other y.caller.0 is)

  -- a selection of this caller is begun where there was none
  pub others_begun : (now : Progress) (o : Ongoing) (s : ℕ) (x : Selection) → now.selection s ≡ None → IsOngoing n now o
      → IsOngoing n (record now { selection = put now.selection s (Some (record { caller = me; selection = x })) }) o
  others_begun now o s x none at = record {
    selection =
        λ t. put_keeps (λ k y. o.selection k ≡ if_own n y) now.selection s
        (Some (record { caller = me; selection = x }))
        (λ was. was
        ∙ (ap (if_own n) none
        ∙ sym (none_of_other (record { caller = me; selection = x }) (eq-eqb me.0 me.0 refl)))) t (at.selection t);
    closes = at.closes;
  }

  -- or is over
  pub others_ended : (now : Progress) (o : Ongoing) (s : ℕ) (y : Selecting) → now.selection s ≡ Some y
      → (y.caller.0 == me.0) ≡ true → IsOngoing n now o
      → IsOngoing n (record now { selection = put now.selection s None }) o
  others_ended now o s y is by at = record {
    selection =
        λ t. put_keeps (λ k z. o.selection k ≡ if_own n z) now.selection s None
        (λ was. was ∙ (ap (if_own n) is ∙ none_of_other y by)) t (at.selection t);
    closes = at.closes;
  }

  none_closing : (o : Option CallerNo) → is_caller me o ≡ true → is_caller n o ≡ false
  none_closing None is = refl
  none_closing (Some m) is = not_other m.0 is

  -- a closing of this caller is begun where there was none
  pub others_shut : (now : Progress) (o : Ongoing) (s : ℕ) → now.closing s ≡ None → IsOngoing n now o
      → IsOngoing n (record now { closing = put now.closing s (Some me) }) o
  others_shut now o s none at = record {
    selection = at.selection;
    closes =
        λ t. put_keeps (λ k y. o.closes k ≡ is_caller n y) now.closing s (Some me)
        (λ was. was ∙ (ap (is_caller n) none ∙ sym other)) t (at.closes t);
  }

  -- or is over
  pub others_closed : (now : Progress) (o : Ongoing) (s : ℕ) → is_caller me (now.closing s) ≡ true → IsOngoing n now o
      → IsOngoing n (record now { closing = put now.closing s None }) o
  others_closed now o s by at = record {
    selection = at.selection;
    closes =
        λ t. put_keeps (λ k y. o.closes k ≡ is_caller n y) now.closing s None
        (λ was. was ∙ none_closing (now.closing s) by) t (at.closes t);
  }

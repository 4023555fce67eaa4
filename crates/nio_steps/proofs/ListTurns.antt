-- The turn of one index at which a selection with the list looks.
use Rattle.std.proofs.Common.{◌≡◌, ℕ, nat_lt, Bool, true, false, not, ◌&&◌, ◌||◌, if◌then◌else◌, Option, Some, None}
use Rattle.std.proofs.Common.{is_some, List, [], ◌∷◌, ◌++◌, refl, ap, sym, ◌∙◌, subst}
use Rattle.std.specs.Prelude.{option_map}
use Rattle.std.specs.Option.{ForSome}
use Rattle.std.proofs.Math.Bool.{and-false}
use Rattle.std.proofs.lemmas.Bool.{or_from}
use Rattle.std.proofs.lemmas.List.Folds.{list_any-append}
use Rattle.nio_base.specs.Numbers.{last_serial}
use Rattle.nio_base.specs.declared.numbers.SelNo.{SelNo}
use Rattle.nio_history.proofs.LastsAlone.{same_two}
use Rattle.nio_history.specs.Lists.{ListEntry, list_entry, interest_found, entry_by, is_half_done}
use Rattle.nio_history.specs.OwnEvents.{has, first, touches}
use Rattle.nio_history.specs.Pins.{removes}
use Rattle.nio_history.specs.Questions.{Question, question_of, answer_of}
use Rattle.nio_history.specs.Sets.{in_cancelled_set, is_valid}
use Rattle.nio_history.specs.declared.act.Act.{Act}
use Rattle.nio_history.specs.declared.act.Act.TheVariants.{LookInterest, LookIndex, Touch, Remove, PutFree}
use Rattle.nio_history.specs.declared.found.IndexWord.{IndexWord}
use Rattle.nio_history.specs.declared.found.Stage.{Stage}
use Rattle.nio_steps.proofs.KnownAt.{done-on, first-later}
use Rattle.nio_steps.proofs.Listing.{removal}
use Rattle.nio_steps.proofs.LookedLaws.{interest-look}
use Rattle.nio_steps.proofs.Relisted.{as_listed, relisted}
use Rattle.nio_steps.proofs.Walks.{Always, always_if, always_bind, always_weaker}
use Rattle.nio_steps.specs.ListLaws.{lists_index}
use Rattle.nio_steps.specs.Looking.{looked_key, without_index, remove_cancelled, list_valid, list_on, list_over}
use Rattle.nio_steps.specs.Plan.{reply, ◌>>◌, when}
use Rattle.nio_steps.specs.Steps.{put_free, touch, flag_in, stage_in, operations_in, index_in}
use Rattle.nio_steps.specs.declared.looked.LookedKey.{LookedKey}

-- ---- the acts

pub index-look : (s : SelNo) (i : ℕ) (act : Act) → question_of act ≡ Question.look_index s i
    → act ≡ LookIndex s i (index_in (answer_of act))
index-look s i (LookIndex s' i' found) asks = cc asks
index-look s i _ asks = absurd (cc asks)

pub touch-act : (s : SelNo) (i : ℕ) (act : Act) → question_of act ≡ Question.touch s i
    → act ≡ Touch s i (flag_in (answer_of act))
touch-act s i (Touch s' i' found) asks = cc asks
touch-act s i _ asks = absurd (cc asks)

pub put-act : (s : SelNo) (i : ℕ) (act : Act) → question_of act ≡ Question.put_free s i → act ≡ PutFree s i
put-act s i (PutFree s' i') asks = cc asks
put-act s i _ asks = absurd (cc asks)

-- the acts take no bit of the selector, and look at no index as a selection with the list does
abbrev pub AreUnlisted : SelNo → List Act → Type 0
AreUnlisted s acts = (k : ℕ) → has (lists_index s.0 k) acts ≡ false

unlisted-append : (s : SelNo) (xs ys : List Act) → AreUnlisted s xs → AreUnlisted s ys → AreUnlisted s (xs ++ ys)
unlisted-append s xs ys first second = λ k.
    list_any-append (lists_index s.0 k) xs ys ∙ or_from _ _ (first k) (second k)

-- what isn't lacking after some acts isn't where more stand before them
done-after : (b : Bool) (p : Act → Bool) (before acts : List Act) → (b && not (has p acts)) ≡ false
    → (b && not (has p (before ++ acts))) ≡ false
done-after b p before acts done =
    ap (λ c. b && not c) (list_any-append p before acts) ∙ by_bits b (has p before) (has p acts) done
  where
    by_bits : (b' c d : Bool) → (b' && not d) ≡ false → (b' && not (c || d)) ≡ false
    by_bits false c d e = refl
    by_bits true true d e = refl
    by_bits true false d e = e

cancelled-invalid : (k : Stage) → in_cancelled_set k ≡ true → is_valid k ≡ false
cancelled-invalid k is = by_bits (k.published && not k.removed) k.cancelled is
  where
    by_bits : (p c : Bool) → (p && c) ≡ true → (p && not c) ≡ false
    by_bits false c e = refl
    by_bits true true e = refl
    by_bits true false e = absurd (cc e)

-- ---- the turn

-- what a turn of index i did after its look there, and what it left of the list
pub record ListsIndex (s : SelNo) (i : ℕ) (known : List LookedKey) (acts : List Act) (answer : List LookedKey) : Type 0
  where
    pub found : IndexWord
    pub rest : List Act
    pub parts : acts ≡ LookIndex s i found ∷ rest
    pub unlisted : AreUnlisted s rest
    pub done : is_half_done s.0 i rest (Some found) ≡ false
    -- the key that was found valid
    pub now : Option LookedKey
    pub answer_is : answer ≡ relisted i now known
    pub entry_is : option_map as_listed now ≡ entry_by (Some found) (first (interest_found s.0 i) rest)
    pub at : ForSome now (λ e. e.index ≡ i)

-- the touching of an index that was found pinned
record Touches (s : SelNo) (i : ℕ) (pinned : Bool) (acts : List Act) : Type 0 where
  unlisted : AreUnlisted s acts
  touched : (pinned && not (has (touches s.0 i) acts)) ≡ false
  silent : first (interest_found s.0 i) acts ≡ None

-- and what follows it, by the stage that was found
record Settles (s : SelNo) (i : ℕ) (stage : Stage) (known : List LookedKey) (acts : List Act)
    (answer : List LookedKey) : Type 0 where
  unlisted : AreUnlisted s acts
  removed : (in_cancelled_set stage && not (has (removes s.0 i) acts)) ≡ false
  looked : (is_valid stage && not (is_some (first (interest_found s.0 i) acts))) ≡ false
  now : Option LookedKey
  answer_is : answer ≡ relisted i now known
  entry_is : option_map as_listed now
      ≡ (if is_valid stage then option_map (list_entry stage) (first (interest_found s.0 i) acts) else None)
  at : ForSome now (λ e. e.index ≡ i)

module _ (s : SelNo) (i : ℕ) where
  always_touches : (pinned : Bool) → Always (λ acts _. Touches s i pinned acts) (when pinned (touch s i))
  always_touches true = λ act asks.
      subst (λ a. Touches s i true (a ∷ [])) (sym (touch-act s i act asks))
      (record { unlisted = λ k. refl; touched = ap (λ b. not (b || false)) (same_two s.0 i); silent = refl })
  always_touches false = record { unlisted = λ k. refl; touched = refl; silent = refl }

  always_puts : (comes_back : Bool) → Always (λ acts _. AreUnlisted s acts) (when comes_back (put_free s i))
  always_puts true = λ act asks. subst (λ a. AreUnlisted s (a ∷ [])) (sym (put-act s i act asks)) (λ k. refl)
  always_puts false = λ k. refl

  no_key : ForSome None (λ (e : LookedKey). e.index ≡ i)
  no_key = λ e is. absurd (cc is)

  module _ (stage : Stage) (known : List LookedKey) where
    abbrev no_entry : List Act → Bool → Option ListEntry
    no_entry acts b =
        if b then option_map (list_entry stage) (first (interest_found s.0 i) acts) else None

    settles-cancelled : (act : Act) (puts : List Act) → question_of act ≡ Question.remove s i
        → in_cancelled_set stage ≡ true → AreUnlisted s puts
        → Settles s i stage known (act ∷ puts) (without_index i known)
    settles-cancelled act puts asks cancelled unlisted =
        let invalid = cancelled-invalid stage cancelled in
        subst (λ a. Settles s i stage known (a ∷ puts) (without_index i known)) (sym (removal s i act asks))
        (record {
          unlisted = unlisted;
          removed = ap (λ b. in_cancelled_set stage && not (b || has (removes s.0 i) puts)) (same_two s.0 i)
              ∙ and-false (in_cancelled_set stage);
          looked = ap (λ b. b && not (is_some (first (interest_found s.0 i)
              (Remove s i (stage_in (answer_of act)) ∷ puts)))) invalid;
          now = None;
          answer_is = refl;
          entry_is = ap (no_entry (Remove s i (stage_in (answer_of act)) ∷ puts)) (sym invalid);
          at = no_key;
        })

    settles-valid : (act : Act) → question_of act ≡ Question.look_interest s i → in_cancelled_set stage ≡ false
        → is_valid stage ≡ true
        → Settles s i stage known (act ∷ [])
        (relisted i (Some (looked_key i stage (operations_in (answer_of act)))) known)
    settles-valid act asks outside valid =
        let ops : ℕ = operations_in (answer_of act) in
        let found : first (interest_found s.0 i) (LookInterest s i ops ∷ []) ≡ Some ops
        = ap (λ b. if b then Some ops else None) (same_two s.0 i) in
        subst (λ a. Settles s i stage known (a ∷ []) (relisted i (Some (looked_key i stage ops)) known))
        (sym (interest-look s i act asks))
        (record {
          unlisted = λ k. refl;
          removed = ap (λ b. b && true) outside;
          looked = ap (λ o. is_valid stage && not (is_some o)) found ∙ and-false (is_valid stage);
          now = Some (looked_key i stage ops);
          answer_is = refl;
          entry_is = ap (option_map (list_entry stage)) (sym found)
              ∙ ap (no_entry (LookInterest s i ops ∷ [])) (sym valid);
          at = λ e is. ap (λ o. index_in_option o) (sym is);
        })
      where
        index_in_option : Option LookedKey → ℕ
        index_in_option None = i
        index_in_option (Some e) = e.index

    settles-none : in_cancelled_set stage ≡ false → is_valid stage ≡ false
        → Settles s i stage known [] (without_index i known)
    settles-none outside invalid = record {
      unlisted = λ k. refl;
      removed = ap (λ b. b && true) outside;
      looked = ap (λ b. b && true) invalid;
      now = None;
      answer_is = refl;
      entry_is = ap (no_entry []) (sym invalid);
      at = no_key;
    }

    always_settles : Always (Settles s i stage known) (list_on s i known stage)
    always_settles =
        always_if (Settles s i stage known) (in_cancelled_set stage)
        (remove_cancelled s i stage >> reply (without_index i known)) _
        (λ cancelled act asks. always_bind (λ puts _. AreUnlisted s puts)
        (λ acts answer. Settles s i stage known (act ∷ acts) answer)
        (when (nat_lt stage.serial last_serial) (put_free s i)) (λ _. reply (without_index i known))
        (always_puts (nat_lt stage.serial last_serial))
        (λ puts _ unlisted. settles-cancelled act (puts ++ []) asks cancelled
        (unlisted-append s puts [] unlisted (λ k. refl))))
        (λ outside. always_if (Settles s i stage known) (is_valid stage) (list_valid s i stage known)
        (reply (without_index i known))
        (λ valid act asks. settles-valid act asks outside valid)
        (λ invalid. settles-none outside invalid))

  lists-index : (act : Act) (known : List LookedKey) (touching settling : List Act) (answer : List LookedKey)
      → question_of act ≡ Question.look_index s i → Touches s i (index_in (answer_of act)).pinned touching
      → Settles s i (index_in (answer_of act)).stage known settling answer
      → ListsIndex s i known (act ∷ (touching ++ settling)) answer
  lists-index act known touching settling answer asks touched settled =
      let found : IndexWord = index_in (answer_of act) in
      let interest : first (interest_found s.0 i) (touching ++ settling) ≡ first (interest_found s.0 i) settling
      = first-later (interest_found s.0 i) touching settling touched.silent in
      record {
        found = found;
        rest = touching ++ settling;
        parts = ap (λ a. a ∷ (touching ++ settling)) (index-look s i act asks);
        unlisted = unlisted-append s touching settling touched.unlisted settled.unlisted;
        done = or_from _ _
            (or_from _ _ (done-on found.pinned (touches s.0 i) touching settling touched.touched)
            (done-after (in_cancelled_set found.stage) (removes s.0 i) touching settling settled.removed))
            (ap (λ o. is_valid found.stage && not (is_some o)) interest ∙ settled.looked);
        now = settled.now;
        answer_is = settled.answer_is;
        entry_is = settled.entry_is ∙ ap (entry_by (Some found)) (sym interest);
        at = settled.at;
      }

  pub always_lists : (known : List LookedKey) → Always (ListsIndex s i known) (list_over s i known)
  always_lists known = λ act asks.
      let found : IndexWord = index_in (answer_of act) in
      always_bind (λ touching _. Touches s i found.pinned touching)
      (λ acts answer. ListsIndex s i known (act ∷ acts) answer) (when found.pinned (touch s i))
      (λ _. list_on s i known found.stage) (always_touches found.pinned)
      (λ touching _ touched. always_weaker (Settles s i found.stage known)
      (λ acts answer. ListsIndex s i known (act ∷ (touching ++ acts)) answer) (list_on s i known found.stage)
      (λ settling answer settled. lists-index act known touching settling answer asks touched settled)
      (always_settles found.stage known))

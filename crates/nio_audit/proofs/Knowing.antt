-- What callers know, after one event more.
use Rattle.std.proofs.Common.{◌≡◌, ℕ, suc, ◌+◌, ◌==◌, max, Bool, true, false, not, ◌||◌, ◌&&◌, if◌then◌else◌, Option}
use Rattle.std.proofs.Common.{Some, None, List, [], ◌∷◌, ◌++◌, length, refl, ap, sym, ◌∙◌, subst, eqb-true, arith}
use Rattle.nio_audit.proofs.Hearing.{heard_hold, enrolled_parts, heard_enrolled, heard_parts, heard_index}
use Rattle.nio_audit.proofs.Hearing.{heard_closing, raised, hold-own, hold-other, enrolment-own, enrolment-other}
use Rattle.nio_audit.proofs.Hearing.{index-own, index-other, closing-own, closing-other}
use Rattle.nio_audit.proofs.Latest.{latest-none}
use Rattle.std.proofs.lemmas.Bool.{le-ltb}
use Rattle.std.proofs.Math.Bool.{or-false}
use Rattle.nio_audit.specs.Remembering.{Knowledge, learned, nothing_known, enrolled_seen, enrolled_now, looked_again}
use Rattle.nio_audit.specs.Remembering.{published_now, free_tried, with_claim, without_claim, turn_seen, keys_seen}
use Rattle.nio_audit.specs.Remembers.{RemembersHold, RemembersEnrolled, RemembersIndex, RemembersClosing, Remembers}
use Rattle.nio_audit.specs.TableWords.{put_at_three}
use Rattle.nio_audit.specs.declared.memory.ClosingMemory.{ClosingMemory}
use Rattle.nio_audit.specs.declared.memory.HoldMemory.{HoldMemory}
use Rattle.nio_audit.specs.declared.memory.IndexMemory.{IndexMemory}
use Rattle.nio_audit.specs.declared.memory.EnrolledMemory.{EnrolledMemory}
use Rattle.nio_base.specs.declared.numbers.KeyId.{KeyId}
use Rattle.nio_base.specs.declared.numbers.CallerNo.{CallerNo}
use Rattle.nio_history.specs.Histories.{is_by}
use Rattle.nio_history.specs.State.{put, put_at}
use Rattle.nio_history.specs.declared.act.Act.{Act}
use Rattle.nio_history.specs.declared.act.Act.TheVariants.{LookKey, LookChannel, Claim, LookKeys, LookReg, Enrol}
use Rattle.nio_history.specs.declared.act.Act.TheVariants.{TryHoldBit, Enter, Publish, Pin, Unpin, ClaimAgain, TakeFree}
use Rattle.nio_history.specs.declared.act.Act.TheVariants.{LookIndex}
use Rattle.nio_history.specs.declared.event.Event.{Event}
use Rattle.nio_history.proofs.OwnPins.{swapped}

pub same_knowledge : {h h' : ℕ → ℕ → HoldMemory} {n n' : ℕ → ℕ → ℕ → EnrolledMemory} {i i' : ℕ → ℕ → ℕ → IndexMemory}
    {c c' : ℕ → ℕ → ClosingMemory}
    → h ≡ h' → n ≡ n' → i ≡ i' → c ≡ c'
    → ◌≡◌ {A = Knowledge} (record { holds = h; enrolments = n; indexes = i; closings = c })
    (record { holds = h'; enrolments = n'; indexes = i'; closings = c' })
same_knowledge p q r s = cc

-- ---- a change at a caller's key, told by the test that a key is that one

cond_same : {M : Type 0} (b : Bool) (x : M) → x ≡ (if b then x else x)
cond_same true x = refl
cond_same false x = refl

heard_two : {M : Type 0} (f : ℕ → ℕ → M) (me c' : ℕ) (X : M → M) (H : Bool → M → M) → ((m : M) → H true m ≡ X m)
    → ((m : M) → H false m ≡ m)
    → (n c : ℕ) → put_at f me c' (X (f me c')) n c ≡ (if me == n then H (c' == c) (f n c) else f n c)
heard_two f me c' X H here there n c =
    ap (λ b. if b && (c == c') then X (f me c') else f n c) (swapped n me)
    ∙ (ap (λ b. if (me == n) && b then X (f me c') else f n c) (swapped c c')
    ∙ by_tests (me == n) (c' == c) refl refl)
  where
    by_tests : (a b : Bool) → (me == n) ≡ a → (c' == c) ≡ b
        → (if a && b then X (f me c') else f n c) ≡ (if a then H b (f n c) else f n c)
    by_tests true true e d = ap X (ap (λ k. f k c') (eqb-true me n e) ∙ ap (f n) (eqb-true c' c d)) ∙ sym (here (f n c))
    by_tests true false e d = sym (there (f n c))
    by_tests false b e d = refl

heard_three : {M : Type 0} (f : ℕ → ℕ → ℕ → M) (me c' s' : ℕ) (X : M → M) (H : Bool → M → M)
    → ((m : M) → H true m ≡ X m) → ((m : M) → H false m ≡ m)
    → (n c s : ℕ)
    → put_at_three f me c' s' (X (f me c' s')) n c s
    ≡ (if me == n then H ((c' == c) && (s' == s)) (f n c s) else f n c s)
heard_three f me c' s' X H here there n c s =
    ap (λ g. g s)
    (heard_two f me c' (λ g. put g s' (X (g s'))) (λ b g. if b then put g s' (X (g s')) else g) (λ g. refl)
    (λ g. refl) n c)
    ∙ by_tests (me == n) (c' == c) (s' == s) refl
  where
    by_tests : (a b d : Bool) → (s' == s) ≡ d
        → (if a then (if b then put (f n c) s' (X (f n c s')) else f n c) else f n c) s
        ≡ (if a then H (b && d) (f n c s) else f n c s)
    by_tests false b d e = refl
    by_tests true false d e = sym (there (f n c s))
    by_tests true true true e =
        ap (λ t. if t then X (f n c s') else f n c s) (swapped s s' ∙ e)
        ∙ (ap (λ k. X (f n c k)) (eqb-true s' s e) ∙ sym (here (f n c s)))
    by_tests true true false e =
        ap (λ t. if t then X (f n c s') else f n c s) (swapped s s' ∙ e) ∙ sym (there (f n c s))

-- ---- the four tables

unblocked_at : (now : ℕ) (blocking : Bool) (m : HoldMemory)
    → ◌≡◌ {A = HoldMemory} (record { taken = m.taken; unblocked = if not blocking then now else m.unblocked })
    (record m { unblocked = if blocking then m.unblocked else now })
unblocked_at now true m = refl
unblocked_at now false m = refl

holds-heard : (now : ℕ) (me : CallerNo) (act : Act) (k : Knowledge) (n c : ℕ)
    → (learned now me act k).holds n c ≡ (if me.0 == n then heard_hold now act c (k.holds n c) else k.holds n c)
holds-heard now me (TryHoldBit c' None) k n c =
    heard_two k.holds me.0 c'.0 (λ m. record m { taken = now })
    (λ b m. record { taken = if b then now else m.taken; unblocked = m.unblocked }) (λ m. refl) (λ m. refl) n c
holds-heard now me (TryHoldBit c' (Some u)) k n c =
    heard_two k.holds me.0 c'.0 (λ m. record m { taken = m.taken }) (λ b m. m) (λ m. refl) (λ m. refl) n c
holds-heard now me (LookChannel c' found) k n c =
    heard_two k.holds me.0 c'.0 (λ m. record m { unblocked = if found.blocking then m.unblocked else now })
    (λ b m. record { taken = m.taken; unblocked = if b && not found.blocking then now else m.unblocked })
    (unblocked_at now found.blocking) (λ m. refl) n c
holds-heard now me _ k n c = cond_same (me.0 == n) (k.holds n c)

enrolments-heard : (now : ℕ) (me : CallerNo) (act : Act) (k : Knowledge) (n c s : ℕ)
    → (learned now me act k).enrolments n c s ≡ (if me.0 == n then heard_enrolled now act c s (k.enrolments n c s)
    else k.enrolments n c s)
enrolments-heard now me (LookReg c' s' found) k n c s =
    heard_three k.enrolments me.0 c'.0 s'.0 (enrolled_seen now found)
    (λ b m. enrolled_parts now (if b then Some found else None) false m) (λ m. refl) (λ m. refl) n c s
enrolments-heard now me (Enrol c' s' i serial found) k n c s =
    let key : Option KeyId = Some (record { index = i; serial = serial }) in
    heard_three k.enrolments me.0 c'.0 s'.0 (enrolled_now now (record { index = i; serial = serial }))
    (λ b m. enrolled_parts now (if b then Some key else None) b m) (λ m. refl) (λ m. refl) n c s
enrolments-heard now me _ k n c s = cond_same (me.0 == n) (k.enrolments n c s)

indexes-heard : (now : ℕ) (me : CallerNo) (act : Act) (k : Knowledge) (n s i : ℕ)
    → (learned now me act k).indexes n s i
    ≡ (if me.0 == n then heard_index now act s i (k.indexes n s i) else k.indexes n s i)
indexes-heard now me (LookKey s' i' found) k n s i =
    heard_three k.indexes me.0 s'.0 i' (looked_again now found)
    (λ b m. heard_parts now (if b then Some found else None) false false None None m) (λ m. refl) (λ m. refl) n s i
indexes-heard now me (Pin s' i' found) k n s i =
    heard_three k.indexes me.0 s'.0 i' (looked_again now found)
    (λ b m. heard_parts now (if b then Some found else None) false false None None m) (λ m. refl) (λ m. refl) n s i
indexes-heard now me (LookIndex s' i' found) k n s i =
    heard_three k.indexes me.0 s'.0 i' (looked_again now found.stage)
    (λ b m. heard_parts now (if b then Some found.stage else None) false false None None m) (λ m. refl) (λ m. refl) n s i
indexes-heard now me (Publish s' i' found) k n s i =
    heard_three k.indexes me.0 s'.0 i' (published_now now)
    (λ b m. heard_parts now None b false None (if b then Some false else None) m) (λ m. refl) (λ m. refl) n s i
indexes-heard now me (TakeFree s' i' true) k n s i =
    heard_three k.indexes me.0 s'.0 i' (free_tried now true)
    (λ b m. heard_parts now None false b None None m) (λ m. refl) (λ m. refl) n s i
indexes-heard now me (TakeFree s' i' false) k n s i =
    heard_three k.indexes me.0 s'.0 i' (free_tried now false) (λ b m. m) (λ m. refl)
    (λ m. refl) n s i
indexes-heard now me (Claim s' i' c false) k n s i =
    heard_three k.indexes me.0 s'.0 i' (with_claim (record { channel = c; serial = 0 }) false)
    (λ b m. heard_parts now None false false (if b then Some (Some (record { channel = c; serial = 0 })) else None)
    (if b then Some true else None) m) (λ m. refl) (λ m. refl) n s i
indexes-heard now me (Claim s' i' c true) k n s i =
    heard_three k.indexes me.0 s'.0 i' (with_claim (record { channel = c; serial = 0 }) true) (λ b m. m)
    (λ m. refl) (λ m. refl) n s i
indexes-heard now me (ClaimAgain s' i' c from false) k n s i =
    heard_three k.indexes me.0 s'.0 i' (with_claim (record { channel = c; serial = suc from.serial }) false)
    (λ b m. heard_parts now None false false
    (if b then Some (Some (record { channel = c; serial = suc from.serial })) else None)
    (if b then Some true else None) m) (λ m. refl) (λ m. refl) n s i
indexes-heard now me (ClaimAgain s' i' c from true) k n s i =
    heard_three k.indexes me.0 s'.0 i' (with_claim (record { channel = c; serial = suc from.serial }) true) (λ b m. m)
    (λ m. refl) (λ m. refl) n s i
indexes-heard now me (Unpin s' i') k n s i =
    heard_three k.indexes me.0 s'.0 i' without_claim
    (λ b m. heard_parts now None false false (if b then Some None else None) None m) (λ m. refl) (λ m. refl) n s i
indexes-heard now me _ k n s i = cond_same (me.0 == n) (k.indexes n s i)

kept_closing : (m : ClosingMemory)
    → ◌≡◌ {A = ClosingMemory} (record { entered = m.entered || false; below = if m.entered then m.below else m.below })
    m
kept_closing m = ap (λ b. record { entered = b; below = if m.entered then m.below else m.below }) (or-false m.entered)
    ∙ ap (λ k. record m { below = k }) (sym (cond_same m.entered m.below))

closings-heard : (now : ℕ) (me : CallerNo) (act : Act) (k : Knowledge) (n s : ℕ)
    → (learned now me act k).closings n s ≡ (if me.0 == n then heard_closing act s (k.closings n s) else k.closings n s)
closings-heard now me (Enter s' None) k n s =
    heard_two k.closings me.0 s'.0 (turn_seen None)
    (λ b m. record { entered = m.entered || b; below = if m.entered then m.below else m.below })
    (λ m. ap (λ k'. record { entered = m.entered || true; below = k' }) (sym (cond_same m.entered m.below)))
    kept_closing n s
closings-heard now me (Enter s' (Some u)) k n s =
    heard_two k.closings me.0 s'.0 (turn_seen (Some u))
    (λ b m. record { entered = m.entered || false; below = if m.entered then m.below else m.below })
    (λ m. ap (λ k'. record { entered = m.entered || false; below = k' }) (sym (cond_same m.entered m.below)))
    kept_closing n s
closings-heard now me (LookKeys s' found) k n s =
    heard_two k.closings me.0 s'.0 (keys_seen found)
    (λ b m. record {
      entered = m.entered || false;
      below =
          if m.entered then raised m.below (if b then Some found else None) else m.below;
    })
    (λ m. ap (λ b. record { entered = b; below = if m.entered then max m.below found else m.below })
    (or-false m.entered)) kept_closing n s
closings-heard now me _ k n s =
    cond_same (me.0 == n) (k.closings n s)
    ∙ ap (λ m. if me.0 == n then m else k.closings n s) (sym (kept_closing (k.closings n s)))

-- ---- all that callers know

pub remembers-none : Remembers nothing_known []
remembers-none = record {
  holds = λ n c. record { taken = sym (latest-none n _); unblocked = sym (latest-none n _) };
  enrolments = λ n c s. record {
    found_at = sym (latest-none n _);
    key = λ some. absurd (omega arith);
    enrolled = sym (latest-none n _);
  };
  indexes = λ n s i. record {
    looked = sym (latest-none n _);
    found = λ some. absurd (omega arith);
    outside = λ serial. sym (latest-none n _);
    published = sym (latest-none n _);
    taken = sym (latest-none n _);
    claim = refl;
    unpublished = refl;
  };
  closings = λ n s. record { entered = refl; below = λ i. sym (le-ltb i 0 (omega arith)) };
}

-- one event more
pub remembers-more : (k : Knowledge) (past : List Event) (e : Event) → Remembers k past
    → Remembers (learned (length past + 1) e.caller e.act k) (past ++ e ∷ [])
remembers-more k past e h = record {
  holds = λ n c. subst (λ m. RemembersHold m n c (past ++ e ∷ []))
      (sym (holds-heard (length past + 1) e.caller e.act k n.0 c))
      (by_caller (λ m. RemembersHold m n c (past ++ e ∷ [])) n _ _
      (λ by. hold-own (k.holds n.0 c) n c past e by (h.holds n c))
      (λ by. hold-other (k.holds n.0 c) n c past e by (h.holds n c)));
  enrolments = λ n c s. subst (λ m. RemembersEnrolled m n c s (past ++ e ∷ []))
      (sym (enrolments-heard (length past + 1) e.caller e.act k n.0 c s))
      (by_caller (λ m. RemembersEnrolled m n c s (past ++ e ∷ [])) n _ _
      (λ by. enrolment-own (k.enrolments n.0 c s) n c s past e by (h.enrolments n c s))
      (λ by. enrolment-other (k.enrolments n.0 c s) n c s past e by (h.enrolments n c s)));
  indexes =
      λ n s i. subst (λ m. RemembersIndex m n s i (past ++ e ∷ []))
      (sym (indexes-heard (length past + 1) e.caller e.act k n.0 s i))
      (by_caller (λ m. RemembersIndex m n s i (past ++ e ∷ [])) n _ _
      (λ by. index-own (k.indexes n.0 s i) n s i past e by (h.indexes n s i))
      (λ by. index-other (k.indexes n.0 s i) n s i past e by (h.indexes n s i)));
  closings =
      λ n s. subst (λ m. RemembersClosing m n s (past ++ e ∷ []))
      (sym (closings-heard (length past + 1) e.caller e.act k n.0 s))
      (by_caller (λ m. RemembersClosing m n s (past ++ e ∷ [])) n _ _
      (λ by. closing-own (k.closings n.0 s) n s past e by (h.closings n s))
      (λ by. closing-other (k.closings n.0 s) n s past e by (h.closings n s)));
}
  where
    by_caller : {M : Type 0} (P : M → Type 0) (n : CallerNo) (x y : M) → (is_by n e ≡ true → P x)
        → (is_by n e ≡ false → P y) → P (if is_by n e then x else y)
    by_caller P n x y own other = by_test (is_by n e) refl
      where
        by_test : (b : Bool) → is_by n e ≡ b → P (if b then x else y)
        by_test true by = own by
        by_test false by = other by

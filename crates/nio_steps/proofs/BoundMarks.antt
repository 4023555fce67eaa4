-- How many steps the marks of a selection are: at most two for each looked key that the poller told something of, and
-- one more for each time that a key was taken out of the selected set meanwhile.
use Rattle.std.proofs.Common.{◌≡◌, ℕ, ◌+◌, ◌*◌, ◌<◌, ◌≤◌, ◌==◌, Bool, true, false, cond, not, Result, Ok, Err, List, []}
use Rattle.std.proofs.Common.{◌∷◌, ◌++◌, length, map, refl, ap, sym, ◌∙◌, subst, append_assoc, count_by, arith}
use Rattle.std.specs.Prelude.{⊤}
use Rattle.std.specs.List.{All}
use Rattle.std.proofs.lemmas.List.{append-nil, length-append, map-append}
use Rattle.std.proofs.lemmas.List.Elements.{All-head, All-tail, All-weaker}
use Rattle.std.proofs.lemmas.List.Sums.{sum_by-cons}
use Rattle.nio_base.specs.Limits.{IsFit}
use Rattle.nio_base.specs.declared.limits.Limits.{Limits}
use Rattle.nio_base.specs.declared.numbers.CallerNo.{CallerNo}
use Rattle.nio_base.specs.declared.numbers.SelNo.{SelNo}
use Rattle.nio_history.specs.Conditions.{has_begun}
use Rattle.nio_history.specs.Histories.{state_after, mine, event_of, IsLegal}
use Rattle.nio_history.specs.OwnEvents.{has, count, gives_turn}
use Rattle.nio_history.specs.Pins.{removes}
use Rattle.nio_history.specs.Questions.{Question, question_of, answer_of}
use Rattle.nio_history.specs.declared.act.Act.{Act}
use Rattle.nio_history.specs.declared.act.Act.TheVariants.{LookMark, Mark}
use Rattle.nio_history.specs.declared.event.Event.{Event}
use Rattle.nio_history.specs.declared.found.Mark.{Mark as KeyMark}
use Rattle.nio_steps.proofs.BoundEvents.{HadKey, had_key-more, unselected_meanwhile}
use Rattle.nio_steps.proofs.EachLaws.{each_run, split}
use Rattle.nio_steps.proofs.OwnActs.{cut_at, part_at}
use Rattle.nio_steps.proofs.SelectionAsks.{each_entry}
use Rattle.nio_steps.proofs.SelectionLaws.{removes_none, no_removes, NoRemove, count-append}
use Rattle.nio_steps.proofs.Walks.{Always, always_if, always_bind, always_run}
use Rattle.nio_steps.specs.Bound.{unselects}
use Rattle.nio_steps.specs.Plan.{reply, ◌>>=◌}
use Rattle.nio_steps.specs.Runs.{Completes}
use Rattle.nio_steps.specs.SelectCalls.{mark_entry, mark_told, mark_looked, mark_again, told_bits, gains_nothing}
use Rattle.nio_steps.specs.Steps.{mark, mark_in, exchange_in}
use Rattle.nio_steps.specs.Sweeps.{sweep_over}
use Rattle.nio_steps.specs.declared.looked.LookedKey.{LookedKey}

-- ---- the marks of one key

-- at most so many acts, or three in place of two where the first mark failed, just after the look at the mark
data Marks (s : SelNo) (i most : ℕ) (acts : List Act) : Type 0 where
  is_marked : length acts ≤ most → Marks s i most acts
  is_failed : 2 ≤ most → (was : KeyMark) (told : ℕ) (stands : KeyMark) (second : Act)
      → acts ≡ LookMark s i was ∷ Mark s i was told (Err stands) ∷ second ∷ [] → Marks s i most acts

module _ (s : SelNo) (i most : ℕ) where
  mark-look : (act : Act) → question_of act ≡ Question.look_mark s i → act ≡ LookMark s i (mark_in (answer_of act))
  mark-look (LookMark s' i' found) asks = cc asks
  mark-look _ asks = absurd (cc asks)

  failed-mark : (act : Act) (from : KeyMark) (told : ℕ) (stands : KeyMark)
      → question_of act ≡ Question.mark s i from told → exchange_in (answer_of act) ≡ Err stands
      → act ≡ Mark s i from told (Err stands)
  failed-mark (Mark s' i' from' told' found) from told stands asks is = cc
  failed-mark _ from told stands asks is = absurd (cc asks)

  again-marks : (look act : Act) (told : ℕ) (was : KeyMark) → look ≡ LookMark s i was
      → question_of act ≡ Question.mark s i was told → 2 ≤ most → (found : Result (Unit {0}) KeyMark)
      → exchange_in (answer_of act) ≡ found
      → Always (λ xs _. Marks s i most (look ∷ act ∷ xs)) (mark_again s i told found)
  again-marks look act told was looks asks two (Ok u) is = is_marked two
  again-marks look act told was looks asks two (Err stands) is = λ second _.
      is_failed two was told stands second
      (ap (λ x. x ∷ act ∷ second ∷ []) looks
      ∙ ap (λ x. LookMark s i was ∷ x ∷ second ∷ []) (failed-mark act was told stands asks is))

  told-marks : (told : ℕ) → ((told == 0) ≡ false → 2 ≤ most) → Always (λ xs _. Marks s i most xs) (mark_told s i told)
  told-marks told two =
      always_if (λ xs _. Marks s i most xs) (told == 0) (reply 0) (mark_looked s i told) (λ _. is_marked (omega arith))
      (λ is_told look asks.
      let at_least = two is_told in
      always_if (λ xs _. Marks s i most (look ∷ xs)) (gains_nothing (mark_in (answer_of look)) told) (reply 0)
      (mark s i (mark_in (answer_of look)) told >>= mark_again s i told)
      (λ _. is_marked (omega (arith, at_least)))
      (λ _ act asks'. again-marks look act told (mark_in (answer_of look)) (mark-look look asks) asks' at_least
      (exchange_in (answer_of act)) refl))

-- the poller told something of the looked key
abbrev pub is_told : List (ℕ × ℕ) → LookedKey → Bool
is_told pairs entry = not (told_bits pairs entry == 0)

abbrev most_marks : List (ℕ × ℕ) → LookedKey → ℕ
most_marks pairs entry = 2 * cond (is_told pairs entry) 1 0

entry-marks : (s : SelNo) (pairs : List (ℕ × ℕ)) (entry : LookedKey) (before : ℕ)
    → Always (λ xs _. Marks s entry.index (most_marks pairs entry) xs) (mark_entry s pairs entry before)
entry-marks s pairs entry before =
    let told = told_bits pairs entry in
    let Marked = λ (xs : List Act) (_ : ℕ). Marks s entry.index (most_marks pairs entry) xs in
    always_bind Marked Marked (mark_told s entry.index told) (λ marked. reply (before + marked))
    (told-marks s entry.index (most_marks pairs entry) told
    (λ is. let one : cond {A = ℕ} (not (told == 0)) 1 0 ≡ 1 = ap (λ (b : Bool). cond {A = ℕ} (not b) 1 0) is in
    omega (arith, one)))
    (λ xs marked here. subst (Marks s entry.index (most_marks pairs entry)) (sym (append-nil xs)) here)

entry-removes_none : (s : SelNo) (pairs : List (ℕ × ℕ)) (entry : LookedKey) (before after : ℕ) (acts : List Act)
    → Completes (mark_entry s pairs entry before) acts after → (i : ℕ) → has (removes s.0 i) acts ≡ false
entry-removes_none s pairs entry before after acts run i =
    removes_none s.0 i acts (no_removes s.0 acts (each_run (NoRemove s.0) (λ _. ⊤) (mark_entry s pairs entry before)
    acts after (each_entry (NoRemove s.0) s pairs entry before (record { looks = refl; marks = λ _ _. refl })) run).0)

-- ---- the marks of a selection

unfoldable pub acts_in : List Event → List Act
acts_in events = map (λ e. e.act) events

pub count-parts : (p : Act → Bool) (events xs ys : List Event) → events ≡ xs ++ ys
    → count p (acts_in events) ≡ count p (acts_in xs) + count p (acts_in ys)
unfolding acts_in
count-parts p events xs ys parts =
    ap (λ es. count p (acts_in es)) parts
    ∙ (ap (count p) (map-append (λ e. e.act) xs ys) ∙ count-append p (acts_in xs) (acts_in ys))

module _ (l : Limits) (n : CallerNo) (start window : List Event) (s : SelNo) (fit : IsFit l)
    (legal : IsLegal l (start ++ window)) (begun : has_begun (state_after start) n s ≡ true)
    (none_gives : has (gives_turn s.0) (mine n window) ≡ false) (bound : ℕ) (pairs : List (ℕ × ℕ)) where
  -- the entry of a key that was there in these events, and wasn't removed since
  abbrev IsThere : List Event → LookedKey → Type 0
  IsThere events entry = HadKey n start events s entry.index × (entry.index < bound)

  one_marked : (entry : LookedKey) (most : ℕ) (w0 w1 w2 : List Event) (acts : List Act) → window ≡ w0 ++ (w1 ++ w2)
      → mine n w1 ≡ acts → IsThere w0 entry → Marks s entry.index most acts
      → length acts ≤ most + count (unselects s.0 bound) (acts_in w1)
  unfolding acts_in
  one_marked entry most w0 w1 w2 acts parts own there (is_marked few) = omega (arith, few)
  one_marked entry most w0 w1 w2 acts parts own there (is_failed two was told stands second is) =
      let i = entry.index in
      let first = cut_at n w1 [] (LookMark s i was) (Mark s i was told (Err stands) ∷ second ∷ []) (own ∙ is) in
      let next = cut_at n first.later [] (Mark s i was told (Err stands)) (second ∷ []) first.mine_later in
      let e1 = event_of n (LookMark s i was) in
      let e2 = event_of n (Mark s i was told (Err stands)) in
      let w1_is : w1 ≡ first.past ++ e1 ∷ (next.past ++ e2 ∷ next.later) = first.parts
      ∙ ap (λ es. first.past ++ e1 ∷ es) next.parts in
      let at : window ≡ (w0 ++ first.past) ++ e1 ∷ (next.past ++ e2 ∷ (next.later ++ w2))
      = parts ∙ (ap (λ es. w0 ++ (es ++ w2)) w1_is ∙ simp append_assoc) in
      let here : HadKey n start (w0 ++ first.past) s i = had_key-more n start w0 first.past s i
      (ap (has (removes s.0 i)) first.mine_past) there.0 in
      let one = unselected_meanwhile l n start window s fit legal begun none_gives i bound (w0 ++ first.past)
      next.past (next.later ++ w2) was stands told at next.mine_past here there.1 in
      let all = count-parts (unselects s.0 bound) w1 first.past (e1 ∷ (next.past ++ e2 ∷ next.later)) w1_is in
      let rest = count-parts (unselects s.0 bound) (e1 ∷ (next.past ++ e2 ∷ next.later)) (e1 ∷ [])
      (next.past ++ e2 ∷ next.later) refl in
      let last = count-parts (unselects s.0 bound) (next.past ++ e2 ∷ next.later) next.past (e2 ∷ next.later) refl in
      let three = ap length is in
      omega (arith, two, one, all, rest, last, three)

  pub marks_bounded : (entries : List LookedKey) (before after : ℕ) (w0 w1 : List Event) (acts rest : List Act)
      → window ≡ w0 ++ w1 → mine n w1 ≡ acts ++ rest
      → Completes (sweep_over entries (mark_entry s pairs) before) acts after → All (IsThere w0) entries
      → length acts ≤ 2 * count_by (is_told pairs) entries + count (unselects s.0 bound) (acts_in w1)
  unfolding sweep_over
  marks_bounded [] before after w0 w1 [] rest parts own run each = omega arith
  marks_bounded [] before after w0 w1 (act ∷ acts) rest parts own run each = absurd run
  marks_bounded (entry ∷ entries) before after w0 w1 acts rest parts own run each =
      let parted = split (mark_entry s pairs entry before) (λ y. sweep_over entries (mark_entry s pairs) y) acts after
      run in
      let cut = part_at n w1 parted.first (parted.second ++ rest)
      (own ∙ (ap (λ xs. xs ++ rest) parted.parts ∙ append_assoc parted.first parted.second rest)) in
      let most = most_marks pairs entry in
      let here = one_marked entry most w0 cut.past cut.later parted.first (parts ∙ ap (λ es. w0 ++ es) cut.parts)
      cut.mine_past (All-head (IsThere w0) entry entries each)
      (always_run (λ xs _. Marks s entry.index most xs) (mark_entry s pairs entry before) parted.first parted.middle
      (entry-marks s pairs entry before) parted.runs_first) in
      let later = marks_bounded entries parted.middle after (w0 ++ cut.past) cut.later parted.second rest
      (parts ∙ (ap (λ es. w0 ++ es) cut.parts ∙ sym (append_assoc w0 cut.past cut.later))) cut.mine_later
      parted.runs_second
      (All-weaker (IsThere w0) (IsThere (w0 ++ cut.past))
      (λ x there. (
        had_key-more n start w0 cut.past s x.index
            (ap (has (removes s.0 x.index)) cut.mine_past
            ∙ entry-removes_none s pairs entry before parted.middle parted.first parted.runs_first x.index) there.0,
        there.1,
      )) entries (All-tail (IsThere w0) entry entries each)) in
      let all = ap length parted.parts ∙ length-append parted.first parted.second in
      let counted = count-parts (unselects s.0 bound) w1 cut.past cut.later cut.parts in
      let told = sum_by-cons (λ x. cond {A = ℕ} (is_told pairs x) 1 0) entry entries in
      omega (arith, here, later, all, counted, told)

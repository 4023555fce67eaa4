-- A race, put together from what each caller did.
use Rattle.std.proofs.Common.{◌≡◌, ℕ, zero, suc, ◌<◌, ◌≤◌, ◌==◌, Bool, true, false, if◌then◌else◌, IsFalse, List, []}
use Rattle.std.proofs.Common.{◌∷◌, ◌++◌, map, All, refl, sym, ap, ◌∙◌, subst, ⊎_elim, eqb-true, append_assoc, arith}
use Rattle.std.proofs.Math.Logic.{∥∥₁_map, ∥∥₁_map₂}
use Rattle.std.proofs.lemmas.Bool.{cases_lt}
use Rattle.std.proofs.lemmas.Grind.{merely}
use Rattle.std.proofs.lemmas.List.{get_or_past, length-map}
use Rattle.std.specs.Prelude.{filter}
use mathlib.Core.List.{IsPrefix}
use Rattle.nio_base.specs.Limits.{IsFit}
use Rattle.nio_base.specs.declared.limits.Limits.{Limits}
use Rattle.nio_base.specs.declared.numbers.CallerNo.{CallerNo}
use Rattle.nio_history.proofs.Clauses.{prefix_trans}
use Rattle.nio_history.proofs.Legal.{legal_beginning}
use Rattle.nio_history.specs.Histories.{IsLegal, mine, is_by}
use Rattle.nio_history.specs.declared.event.Event.{Event}
use Rattle.nio_language.specs.declared.call.ScriptCall.{ScriptCall}
use Rattle.nio_language.specs.declared.reply.Reply.{Reply}
use Rattle.nio_orderly.proofs.CallLists.{beginnings_are_orderly, whole_is_orderly}
use Rattle.nio_orderly.proofs.OrderlyClosings.{orderly_owes}
use Rattle.nio_orderly.specs.Orderly.{HasMadeCalls, IsOrderly, IsWhole}
use Rattle.nio_orderly.specs.Owed.{Owed}
use Rattle.nio_race_text.specs.declared.call.RaceLine.{RaceLine}
use Rattle.nio_serial.specs.Documented.{Progress}
use Rattle.nio_sole.proofs.Beginnings.{made_whole}
use Rattle.nio_sole.specs.Stands.{progress_of}
use Rattle.nio_sole.specs.declared.desk.Desk.{Desk}
use Rattle.nio_words.specs.Passes.{Holds, IsPassOf, IsReady, limits_of, seen}
use Rattle.nio_words.specs.declared.words.Pass.{Pass}
use Rattle.nio_words.specs.declared.words.Words.{Words}
use Rattle.nio_race.proofs.BytesKept.{find_in_pipes, keep_pipes}
use Rattle.nio_race.proofs.PairsKnown.{Known, all_met, known, pairs_after}
use Rattle.nio_race.proofs.PairsLists.{all-at}
use Rattle.nio_race.specs.Ends.{HaveMet, HaveParted, ends_of}
use Rattle.nio_race.specs.Gathering.{StandsIn}
use Rattle.nio_race.specs.Piping.{OwnedEnds, own_ends}
use Rattle.nio_race.specs.Race.{FindsInPipe, HasRun, IsRace, KeepsPipe, calls_by, own_progress, strange_replies}
use Rattle.nio_race.specs.Racers.{HaveRaced, replies_by}
use Rattle.nio_race.specs.Runs.{AreRaceLines}
use Rattle.nio_race.specs.SetOff.{AreSetOff}
use Rattle.nio_race.specs.Setup.{HasSetUp, KeepsSetup}
use Rattle.nio_race.specs.declared.ends.Owners.{Owners}
use Rattle.nio_race.specs.declared.racer.Racer.{Racer}

-- ---- lists

-- what holds of each number below a limit, unseen, holds of all of them, unseen
all_below : (P : ℕ → Type 0) (k : ℕ) → ((n : ℕ) → n < k → ∥ P n ∥₁) → ∥ ((n : ℕ) → n < k → P n) ∥₁
all_below P zero each = merely (λ n below. absurd (omega (arith, below)))
all_below P (suc k) each =
    ∥∥₁_map₂ (all_below P k (λ n below. each n (omega (arith, below)))) (each k (omega arith))
    (λ before here n below. ⊎_elim (λ (earlier : n < k). before n earlier)
    (λ (last : k ≤ n). let same : k ≡ n = omega (arith, below, last) in subst P same here) (cases_lt n k))

-- ---- whole histories

-- a number that isn't a caller's has no event
stranger-later : (l : Limits) (h : List Event) (n : CallerNo) → IsLegal l h → l.callers ≤ n.0
    → (before later : List Event) → h ≡ before ++ later → mine n later ≡ []
stranger-later l h n legal past before [] is = refl
stranger-later l h n legal past before (e ∷ later) is =
    by_test (stranger-later l h n legal past (before ++ e ∷ []) later (is ∙ sym (append_assoc before (e ∷ []) later)))
    (e.caller.0 == n.0) refl
  where
    by_test : mine n later ≡ [] → (b : Bool) → (e.caller.0 == n.0) ≡ b
        → map (λ (x : Event). x.act) (if b then e ∷ filter (is_by n) later else filter (is_by n) later) ≡ []
    by_test rest true by =
        let its : e.caller.0 < l.callers = (legal.steps before e later is).by_caller in
        let same : e.caller.0 ≡ n.0 = eqb-true e.caller.0 n.0 by in
        absurd (omega (arith, its, same, past))
    by_test rest false by = rest

stranger : (l : Limits) (h : List Event) (n : CallerNo) → IsLegal l h → l.callers ≤ n.0 → mine n h ≡ []
stranger l h n legal past = stranger-later l h n legal past [] h refl

pub whole_by_callers : (l : Limits) (h : List Event) → IsLegal l h
    → ((n : CallerNo) → n.0 < l.callers → ∥ HasMadeCalls l (mine n h) ∥₁) → ∥ IsWhole l h ∥₁
whole_by_callers l h legal each =
    ∥∥₁_map (all_below (λ k. HasMadeCalls l (mine (record { 0 = k }) h)) l.callers
    (λ k below. each (record { 0 = k }) below))
    (λ all n. ⊎_elim
    (λ (below : n.0 < l.callers). all n.0 below)
    (λ (past : l.callers ≤ n.0). subst (HasMadeCalls l) (sym (stranger l h n legal past))
    (record { calls = []; are = record { runs = refl; in_order = tt } }))
    (cases_lt n.0 l.callers))

-- at each moment of a whole history what is owed is owed by a caller that has still to do it
pub owed_before : (l : Limits) (events before : List Event) → IsFit l → IsLegal l events → IsPrefix before events
    → IsWhole l events → Owed before
owed_before l events before fit legal begins whole =
    let rest = begins.0 in
    orderly_owes l before fit (legal_beginning l before rest (subst (IsLegal l) (sym begins.1) legal))
    (beginnings_are_orderly l before rest (subst (IsOrderly l) (sym begins.1) (whole_is_orderly l events whole)))

-- ---- the promise

module _ (w : Words) (setup : List ScriptCall) (race : List RaceLine) (d : Desk) (racers racers' : List Racer)
    (owners : List Owners) (p : Pass)
    (set_up : HasSetUp w d setup) (kept : KeepsSetup (limits_of w) setup (progress_of d).pipes)
    (set_off : AreSetOff w (seen d.pass) (progress_of d) (limits_of w).callers racers)
    (parted : HaveParted racers owners (progress_of d).pipes)
    (raced : HaveRaced w race racers racers') (memory : All (λ r. IsFalse r.lacks_memory) racers')
    (met : HaveMet racers' owners)
    (pass : IsPassOf w p) (gathered : All (λ r. StandsIn r.desk.pass p) racers') where
  -- what is known of caller n, by its racer before and after
  abbrev KnownOf : CallerNo → Type 0
  KnownOf = Known w race (seen d.pass) (progress_of d) (limits_of w).callers racers racers' set_off raced memory

  known_of : (n : CallerNo) → n.0 < (limits_of w).callers → KnownOf n
  known_of = known w race (seen d.pass) (progress_of d) (limits_of w).callers racers racers' set_off raced memory

  stands_in : (n : CallerNo) (k : KnownOf n) → StandsIn k.after.desk.pass p
  stands_in n k = all-at (λ r. StandsIn r.desk.pass p) racers' n.0 k.after k.within k.after_is gathered

  held : (n : CallerNo) (k : KnownOf n) → Holds k.after.desk.pass n
  held n k =
      subst (λ (m : CallerNo). Holds k.after.desk.pass m) k.number
      (k.raced_so.stands k.in_memory).stands.ready.number

  pub ready_each : (n : CallerNo) → n.0 < (limits_of w).callers → IsReady w p n
  ready_each n below =
      let k = known_of n below in
      record { pass = pass; number = (stands_in n k).holds n (held n k) }

  has_run : (n : CallerNo) → n.0 < (limits_of w).callers
      → HasRun (limits_of w) n (seen d.pass) (progress_of d) (calls_by n race) (seen p) (replies_by race racers' n)
  has_run n below =
      let k = known_of n below in
      let ran = k.raced_so.run k.in_memory in
      let ends = own_ends n (progress_of d).pipes in
      record {
        acts = ran.acts;
        grew =
            (stands_in n k).own n (held n k)
            ∙ (subst (λ (m : CallerNo). mine m (seen k.after.desk.pass) ≡ mine m (seen k.before.desk.pass) ++ ran.acts)
            k.own_number ran.grew
            ∙ ap (λ (es : List Event). mine n es ++ ran.acts) k.at_go.sight);
        last = progress_of k.after.desk;
        lines =
            subst (λ (rs : List Reply). AreRaceLines (limits_of w) ends n (own_progress n (progress_of d))
            (calls_by n race) ran.acts rs (progress_of k.after.desk)) (sym k.replied)
            (subst (λ (x : Progress). AreRaceLines (limits_of w) ends n x (calls_by n race) ran.acts
            k.after.replies.items (progress_of k.after.desk)) k.at_go.progress
            (subst (λ (es : OwnedEnds). AreRaceLines (limits_of w) es n (progress_of k.before.desk)
            (calls_by n race) ran.acts k.after.replies.items (progress_of k.after.desk)) k.at_go.ends
            (subst (λ (m : CallerNo). AreRaceLines (limits_of w) (ends_of k.before.ends) m (progress_of k.before.desk)
            (calls_by m race) ran.acts k.after.replies.items (progress_of k.after.desk)) k.own_number ran.lines)));
      }

  whole : ∥ IsWhole (limits_of w) (seen p) ∥₁
  whole = whole_by_callers (limits_of w) (seen p) pass.legal (λ n below.
      let k = known_of n below in
      ∥∥₁_map (k.raced_so.stands k.in_memory).stands.made
      (λ made. subst (HasMadeCalls (limits_of w)) (sym ((stands_in n k).own n (held n k)))
      (subst (λ (m : CallerNo). HasMadeCalls (limits_of w) (mine m (seen k.after.desk.pass))) k.number
      (made_whole (limits_of w) _ k.after.number _ made))))

  bytes : All (KeepsPipe (limits_of w) setup race (replies_by race racers')) (progress_of d).pipes
  bytes =
      let go = seen d.pass in
      let now = progress_of d in
      let among = parted.among in
      let on = pairs_after w race go now (limits_of w).callers racers racers' set_off raced memory among.parted
      among.has_ends in
      keep_pipes (limits_of w) setup race (replies_by race racers') now.pipes among.parted on.after kept.each
      parted.each on.each
      (all_met w race go now (limits_of w).callers racers racers' set_off raced memory owners among met on)

  finds : All (FindsInPipe race (replies_by race racers')) (progress_of d).pipes
  finds =
      let go = seen d.pass in
      let now = progress_of d in
      let among = parted.among in
      let on = pairs_after w race go now (limits_of w).callers racers racers' set_off raced memory among.parted
      among.has_ends in
      find_in_pipes race (replies_by race racers') now.pipes among.parted on.after parted.each on.each

  pub is_race : IsRace (limits_of w) setup race (seen p) (replies_by race racers')
  is_race =
      let first = known_of (record { 0 = 0 }) (omega (arith, set_up.stands.fit.some_callers)) in
      record {
        go = seen d.pass;
        now = progress_of d;
        set_up = set_up.set_up;
        begins = prefix_trans _ _ _
            (subst (λ (es : List Event). IsPrefix es (seen first.after.desk.pass)) first.at_go.sight
            first.raced_so.later) (stands_in (record { 0 = 0 }) first).begins;
        run = has_run;
        strangers =
            λ n past. get_or_past (map (λ (r : Racer). r.replies.items) racers') n.0 (strange_replies (calls_by n race))
            (subst (λ (k : ℕ). k ≤ n.0)
            (sym (length-map racers' (λ (r : Racer). r.replies.items) ∙ raced.count ∙ set_off.count_is)) past);
        bytes = bytes;
        finds = finds;
        legal = pass.legal;
        whole = whole;
        owed = λ before begins. ∥∥₁_map whole
            (λ here. owed_before (limits_of w) (seen p) before set_up.stands.fit pass.legal begins here);
      }

use Rattle.std.proofs.Common.{◌≡◌, ℕ, Option, None, ◌+◌, ◌-◌, ◌*◌, ◌<◌, ◌==◌, true, not, length, get_or, refl, ap, sym, ◌∙◌, subst, arith}
use Rattle.std.specs.Int.{bit_at, trailing_zeros, w64}
use Rattle.std.proofs.lemmas.Nat.Bits.{bit_at-zero}
use Rattle.std.proofs.lemmas.Bool.{not-true}
use Rattle.std.specs.Prelude.{fold}
use Rattle.nio_history.specs.Lists.{ListEntry}
use Rattle.nio_steps.specs.Calls.{CallClause, PartClause}
use Rattle.nio_steps.specs.Runs.{Completes}
use Rattle.nio_steps.specs.SelectCalls.{mark_told}
use Rattle.nio_steps.specs.Sweeps.{sweep_to}
use Rattle.nio_words.specs.Views.{view}
use Rattle.nio_select.specs.declared.slot.Slot.{Slot}
use Rattle.nio_steps.proofs.CallLaws.{returned, left_reply, left_start}
use Rattle.nio_steps.proofs.SweepLaws.{sweep_done}
use Rattle.nio_steps.specs.Plan.{reply, ◌>>=◌}
use Rattle.nio_words.specs.Passes.{limits_of}
use Rattle.nio_select.specs.KeyChanges.{marked_of}
use Rattle.nio_select.specs.KeyKept.{keys_from}
use Rattle.nio_select.specs.ToldSlots.{mark_at, wanted}
use Rattle.nio_select.proofs.KeptKeys.{first_listed}
use Rattle.nio_select.proofs.KeyChanges.{takes_nothing, takes_then, takes_these}
use Rattle.nio_select.proofs.NotedWords.{IsMarkedTo, marked_first, marked_past, marked_taken, marked_word, marked_all, none_noted, from_word}
use Rattle.nio_select.proofs.NotedMarks.{marks_turn, marks_skip, wanted_inside}
use Rattle.nio_select.proofs.SetBits.{AreLeft, NextFound, all_left, clear_at, found_next}
use Rattle.nio_select.proofs.telling.mark_noted.Goals as goal

pub loop-j-init : goal.loop-j-init
loop-j-init g c =
    record {
      begun = c.requires.begun;
      listed = takes_nothing (keys_from 0 c.args.slots.now) (view c.args.w.now c.args.p.now) c.args.lister.now
          c.requires.begun.ready.pass.legal;
      none = λ _. refl;
      few = omega arith;
      marked = marked_first c.args.noted.now;
      steps = left_reply (left_start _ _ _ c.requires.begun.ready.pass.legal);
    }

pub loop-rest-init : goal.loop-rest-init
loop-rest-init g c =
    let so_far = c.loop-j.invariant in
    let word = get_or c.args.noted.now.words.items c.loop-j.j 0 in
    let is : c.index-rest.result.now ≡ word =
    from_word c.loop-j.noted.words.items c.args.noted.now.words.items c.loop-j.j c.index-rest.result.now
    c.index-rest.ensures (so_far.marked.words_after c.loop-j.j (omega arith))
    (omega (arith, c.loop-j-test.true, c.len-j-end.ensures, so_far.marked.room.words, c.args.noted.now.words.ok.0)) in
    record {
      passed = 0;
      left = subst (AreLeft word 0) (sym is) (all_left word);
      begun = so_far.begun;
      listed = so_far.listed;
      none = so_far.none;
      few = omega (arith, so_far.few);
      marked = subst (λ (n : ℕ). IsMarkedTo n c.loop-j.j c.args.noted.now c.loop-j.noted) (omega arith) so_far.marked;
      steps = subst (λ (n : ℕ). PartClause c.args.me
          (sweep_to (64 * length c.args.noted.now.words.items) 0 (mark_at c.args.sel c.args.slots.now c.args.noted.now) 0)
          (view c.args.w.now c.args.p.now) (view c.args.w.now c.loop-j.p)
          (sweep_to (64 * length c.args.noted.now.words.items) n (mark_at c.args.sel c.args.slots.now c.args.noted.now)
          c.loop-j.count >>= reply)) (omega arith) so_far.steps;
    }

pub mark_told-marked-requires-clause-key : goal.mark_told-marked-requires-clause-key
mark_told-marked-requires-clause-key g c = λ some.
    let i = 64 * c.loop-j.j + trailing_zeros w64 c.loop-rest.rest in (
      c.loop-rest.invariant.begun.inside,
      wanted_inside (limits_of c.args.w.now).keys i c.take.result c.args.slots.now c.requires.keys
          (not-true _ (subst (λ (n : ℕ). not (n == 0) ≡ true) (c.wanted-told.ensures
          ∙ ap (λ (o : Option Slot). wanted o c.take.result) c.slot_at.ensures) some)),
    )

pub loop-rest-smaller : goal.loop-rest-smaller
loop-rest-smaller g c =
    (found_next (get_or c.args.noted.now.words.items c.loop-j.j 0) c.loop-rest.invariant.passed c.loop-rest.rest
    c.loop-rest.auto.rest-fits.fits c.loop-rest-test.true c.loop-rest.invariant.left).fewer

pub loop-rest-preserved : goal.loop-rest-preserved
loop-rest-preserved g c =
    let so_far = c.loop-rest.invariant in
    let old = c.args.noted.now in
    let word = get_or old.words.items c.loop-j.j 0 in
    let j = c.loop-j.j in
    let t = trailing_zeros w64 c.loop-rest.rest in
    let found : NextFound word so_far.passed c.loop-rest.rest = found_next word so_far.passed c.loop-rest.rest
    c.loop-rest.auto.rest-fits.fits c.loop-rest-test.true so_far.left in
    let within : j < length old.words.items =
    omega (arith, c.loop-j-test.true, c.len-j-end.ensures, old.words.ok.0) in
    let none = none_noted old j so_far.passed t c.requires.noted (omega (arith, found.next.inside)) found.next.before in
    let at : 64 * j + so_far.passed + (t - so_far.passed) ≡ 64 * j + t = omega (arith, found.next.after) in
    let marked = marked_past (64 * j + so_far.passed) (64 * j + t) j old _ (omega (arith, found.next.after)) none
    so_far.marked in
    let past = subst (λ (n : ℕ). PartClause c.args.me
    (sweep_to (64 * length old.words.items) 0 (mark_at c.args.sel c.args.slots.now old) 0)
    (view c.args.w.now c.args.p.now) (view c.args.w.now c.loop-rest.p)
    (sweep_to (64 * length old.words.items) n (mark_at c.args.sel c.args.slots.now old) c.loop-rest.count >>= reply)) at
    (marks_skip c.args.sel c.args.slots.now old (64 * length old.words.items) (64 * j + so_far.passed)
    (t - so_far.passed) c.loop-rest.count (omega (arith, found.next.after, found.next.inside, within))
    (λ k above below. none k above (omega (arith, at, below))) so_far.steps) in
    let told_is = c.wanted-told.ensures
    ∙ (ap (λ (o : Option Slot). wanted o c.take.result) c.slot_at.ensures
    ∙ ap (wanted (get_or c.args.slots.now (64 * j + t) None))
    (c.take.ensures.result ∙ marked.after (64 * j + t) (omega arith))) in
    let keys = keys_from 0 c.args.slots.now in
    let call = subst (λ (n : ℕ). CallClause c.args.me (Completes (mark_told c.args.sel (64 * j + t) c.wanted-told.result))
    (view c.args.w.now c.loop-rest.p) (view c.args.w.now c.mark_told-marked.new.p) n) (sym c.note_mark-count.ensures.count)
    c.mark_told-marked.ensures.call in
    let noted = c.note_mark-count.ensures.noted
    ∙ ap (λ (e : Option ListEntry). fold g.L.Lister.noted c.loop-rest.lister (marked_of (64 * j + t) e c.mark_told-marked.result))
    (sym (first_listed (64 * j + t) c.args.slots.now)) in
    record {
      passed = t + 1;
      left = found.left;
      begun = c.mark_told-marked.ensures.begun;
      listed = takes_then keys so_far.steps.acts c.mark_told-marked.ensures.call.acts so_far.listed
          (takes_these keys (c.mark_told-marked.ensures.marked keys) noted);
      none = λ unmarked. c.note_mark-count.ensures.none (omega (arith, unmarked))
          ∙ so_far.none (omega (arith, unmarked));
      few = omega (arith, so_far.few, c.note_mark-count.ensures.most, found.next.after);
      marked = subst (λ (n : ℕ). IsMarkedTo n j old c.take.new.self) (omega arith)
          (marked_taken (64 * j + t) j old _ c.take.new.self marked c.take.ensures.rest);
      steps = subst (λ (n : ℕ). PartClause c.args.me
          (sweep_to (64 * length old.words.items) 0 (mark_at c.args.sel c.args.slots.now old) 0)
          (view c.args.w.now c.args.p.now) (view c.args.w.now c.mark_told-marked.new.p)
          (sweep_to (64 * length old.words.items) n (mark_at c.args.sel c.args.slots.now old)
          (c.loop-rest.count + c.note_mark-count.result) >>= reply)) (omega arith)
          (marks_turn c.args.sel c.args.slots.now old (64 * length old.words.items) (64 * j + t) c.loop-rest.count
          c.wanted-told.result c.note_mark-count.result (omega (arith, found.next.inside, within)) told_is past
          call);
    }

pub loop-j-preserved : goal.loop-j-preserved
loop-j-preserved g c =
    let so_far = c.loop-rest.invariant in
    let old = c.args.noted.now in
    let j = c.loop-j.j in
    let word = get_or old.words.items j 0 in
    let within : j < length old.words.items =
    omega (arith, c.loop-j-test.true, c.len-j-end.ensures, old.words.ok.0) in
    let none = none_noted old j so_far.passed 64 c.requires.noted (omega arith)
    (λ b above below. clear_at word so_far.passed c.loop-rest.rest b so_far.left above below
    (ap (λ (n : ℕ). bit_at n b) c.loop-rest-test.false ∙ bit_at-zero b)) in
    let at : 64 * j + so_far.passed + (64 - so_far.passed) ≡ 64 * (j + 1) = omega (arith, so_far.left.inside) in
    record {
      begun = so_far.begun;
      listed = so_far.listed;
      none = so_far.none;
      few = omega (arith, so_far.few, so_far.left.inside);
      marked = marked_word (64 * (j + 1)) j old (record { told = c.loop-rest.noted.told; words = c.loop-rest.noted.words }) _
          (omega (arith, within, so_far.marked.room.words)) refl refl
          (marked_past (64 * j + so_far.passed) (64 * (j + 1)) j old _ (omega (arith, so_far.left.inside))
          (λ k above below. none k above (omega (arith, below))) so_far.marked);
      steps = subst (λ (n : ℕ). PartClause c.args.me
          (sweep_to (64 * length old.words.items) 0 (mark_at c.args.sel c.args.slots.now old) 0)
          (view c.args.w.now c.args.p.now) (view c.args.w.now c.loop-rest.p)
          (sweep_to (64 * length old.words.items) n (mark_at c.args.sel c.args.slots.now old) c.loop-rest.count
          >>= reply)) at
          (marks_skip c.args.sel c.args.slots.now old (64 * length old.words.items) (64 * j + so_far.passed)
          (64 - so_far.passed) c.loop-rest.count (omega (arith, so_far.left.inside, within))
          (λ k above below. none k above (omega (arith, at, below))) so_far.steps);
    }

pub returns-clause-call : goal.returns-clause-call
returns-clause-call g c =
    returned (sweep_done _ _ _ _ reply
    (omega (arith, c.loop-j-test.false, c.len-j-end.ensures, c.args.noted.now.words.ok.0)) c.loop-j.invariant.steps)

pub returns-clause-cleared : goal.returns-clause-cleared
returns-clause-cleared g c =
    marked_all c.loop-j.j c.args.noted.now c.loop-j.noted c.requires.noted
    (omega (arith, c.loop-j-test.false, c.len-j-end.ensures, c.args.noted.now.words.ok.0)) c.loop-j.invariant.marked

pub returns-clause-none : goal.returns-clause-none
returns-clause-none g c = c.loop-j.invariant.none

pub returns-clause-listed : goal.returns-clause-listed
returns-clause-listed g c = c.loop-j.invariant.listed

-- What the calls of a selection ask, part by part.
use Rattle.std.proofs.Common.{ℕ, ◌==◌, nat_lt, Bool, true, false, Option, Some, None, Result, Ok, Err, List, []}
use Rattle.std.specs.Prelude.{⊤}
use Rattle.std.specs.List.{All}
use Rattle.nio_base.specs.declared.numbers.SelNo.{SelNo}
use Rattle.nio_history.specs.Questions.{Question}
use Rattle.nio_history.specs.Sets.{in_cancelled_set, is_valid}
use Rattle.nio_base.specs.Numbers.{last_serial}
use Rattle.nio_history.specs.declared.found.IndexWord.{IndexWord}
use Rattle.nio_history.specs.declared.found.Mark.{Mark as KeyMark}
use Rattle.nio_history.specs.declared.found.Stage.{Stage}
use Rattle.nio_steps.proofs.EachLaws.{each_bind, each_if, each_when, each_sweep, each_over}
use Rattle.nio_steps.proofs.Listing.{each_listed}
use Rattle.nio_steps.proofs.Each.{Each}
use Rattle.nio_steps.specs.ChannelCalls.{words_below}
use Rattle.nio_steps.specs.Plan.{Plan, reply, ◌>>=◌, ◌>>◌, when}
use Rattle.nio_steps.specs.SelectCalls.{Selection, ToldReply, done, told_bits}
use Rattle.nio_steps.specs.Looking.{look_over, look_on, look_valid, list_over, list_on, list_valid, list_word}
use Rattle.nio_steps.specs.Looking.{list_taken, without_index, shown, over_touched, look_at_keys, remove_cancelled}
use Rattle.nio_steps.specs.Looking.{remove_if_cancelled, remove_below}
use Rattle.nio_steps.specs.SelectCalls.{mark_entry, mark_told, mark_looked, mark_again, gains_nothing}
use Rattle.nio_steps.specs.SelectCalls.{remove_all_cancelled, end_selection}
use Rattle.nio_steps.specs.Steps.{put_free, mark, touch, mark_in, stage_in, number_in, exchange_in, word_in, index_in}
use Rattle.nio_steps.specs.Sweeps.{sweep_over}
use Rattle.nio_steps.specs.declared.looked.LookedKey.{LookedKey}
use Rattle.nio_steps.specs.declared.selected.Selected.{Selected}

-- what a selection asks of an index that it goes over
pub record AsksAt (Asks : Question → Type 0) (s : SelNo) (i : ℕ) : Type 0 where
  pub looks : Asks (Question.look_key s i)
  pub looks_interest : Asks (Question.look_interest s i)
  pub removes : Asks (Question.remove s i)
  pub puts : Asks (Question.put_free s i)
  pub looks_index : Asks (Question.look_index s i)
  pub touches : Asks (Question.touch s i)

module _ (Asks : Question → Type 0) (s : SelNo) (i : ℕ) (asks : AsksAt Asks s i) where
  pub each_remove : (stage : Stage) → Each Asks (λ _. ⊤) (remove_cancelled s i stage)
  each_remove stage =
      (asks.removes, λ _. each_when Asks (nat_lt stage.serial last_serial) (put_free s i) (asks.puts, λ _. tt))

  each_on : (looked : List LookedKey) (stage : Stage) → Each Asks (λ _. ⊤) (look_on s i looked stage)
  each_on looked stage =
      each_if Asks (λ _. ⊤) (in_cancelled_set stage) (remove_cancelled s i stage >> reply looked) _
      (λ _. each_bind Asks (λ _. ⊤) (λ _. ⊤) (remove_cancelled s i stage) (λ _. reply looked) (each_remove stage)
      (λ _ _. tt))
      (λ _. each_if Asks (λ _. ⊤) (is_valid stage) (look_valid s i stage looked) (reply looked)
      (λ _. (asks.looks_interest, λ _. tt)) (λ _. tt))

  pub each_look : (looked : List LookedKey) → Each Asks (λ _. ⊤) (look_over s i looked)
  each_look looked = (asks.looks, λ answer. each_on looked (stage_in answer))

  each_listed_on : (known : List LookedKey) (stage : Stage) → Each Asks (λ _. ⊤) (list_on s i known stage)
  each_listed_on known stage =
      each_if Asks (λ _. ⊤) (in_cancelled_set stage) (remove_cancelled s i stage >> reply (without_index i known)) _
      (λ _. each_bind Asks (λ _. ⊤) (λ _. ⊤) (remove_cancelled s i stage) (λ _. reply (without_index i known))
      (each_remove stage) (λ _ _. tt))
      (λ _. each_if Asks (λ _. ⊤) (is_valid stage) (list_valid s i stage known) (reply (without_index i known))
      (λ _. (asks.looks_interest, λ _. tt)) (λ _. tt))

  pub each_list : (known : List LookedKey) → Each Asks (λ _. ⊤) (list_over s i known)
  each_list known = (
    asks.looks_index,
    λ answer. let found : IndexWord = index_in answer in
        each_bind Asks (λ _. ⊤) (λ _. ⊤) (when found.pinned (touch s i)) _
        (each_when Asks found.pinned (touch s i) (asks.touches, λ _. tt))
        (λ _ _. each_listed_on known found.stage),
  )

  pub each_remove_if_cancelled : Each Asks (λ _. ⊤) (remove_if_cancelled s i)
  each_remove_if_cancelled = (
    asks.looks,
    λ answer. each_when Asks (in_cancelled_set (stage_in answer))
        (remove_cancelled s i (stage_in answer)) (each_remove (stage_in answer)),
  )

-- what a selection asks of a selector as it goes over its indexes
pub record AsksOver (Asks : Question → Type 0) (s : SelNo) : Type 0 where
  pub frees : (j : ℕ) → Asks (Question.look_free s j)
  pub touched : (j : ℕ) → Asks (Question.look_touched s j)
  pub takes : (j : ℕ) → Asks (Question.take_touched s j)
  pub at : (i : ℕ) → AsksAt Asks s i

-- at each of these indexes
each_at : {A : Type 0} (Asks : Question → Type 0) (f : ℕ → A → Plan A) (x : A) (indexes : List ℕ)
    → ((i : ℕ) (y : A) → Each Asks (λ _. ⊤) (f i y)) → Each Asks (λ _. ⊤) (sweep_over indexes f x)
each_at Asks f x indexes each =
    each_over Asks (λ _. ⊤) (λ _. ⊤) indexes f x (λ _ _ _. tt) tt (λ i y _ _. each i y)

each_word : (Asks : Question → Type 0) (s : SelNo) (j : ℕ) (known : List LookedKey) → AsksOver Asks s
    → Each Asks (λ _. ⊤) (list_word s j known)
each_word Asks s j known asks = (
  asks.touched j,
  λ answer. each_if Asks (λ _. ⊤) (word_in answer == 0) (reply known) (list_taken s j known) (λ _. tt)
      (λ _. (
        asks.takes j,
        λ taken. each_at Asks (list_over s) known (shown (word_in taken) j 64)
            (λ i known'. each_list Asks s i (asks.at i) known'),
      )),
)

pub each_look_at_keys : (Asks : Question → Type 0) (s : SelNo) (bound : ℕ) (known : Option (List LookedKey))
    → AsksOver Asks s → Each Asks (λ _. ⊤) (look_at_keys s bound known)
each_look_at_keys Asks s bound None asks =
    each_listed Asks (λ _. ⊤) s bound (look_over s) [] asks.frees tt
    (λ i looked _. each_look Asks s i (asks.at i) looked)
each_look_at_keys Asks s bound (Some known) asks =
    each_sweep Asks (λ _. ⊤) (words_below bound) 0 (list_word s) known tt
    (λ j known' _ _ _. each_word Asks s j known' asks)

pub each_remove_below : (Asks : Question → Type 0) (s : SelNo) (mark : ℕ) (listed : Bool) → AsksOver Asks s
    → Each Asks (λ _. ⊤) (remove_below s mark listed)
each_remove_below Asks s mark false asks =
    each_listed Asks (λ _. ⊤) s mark (λ i _. remove_if_cancelled s i) tt asks.frees tt
    (λ i _ _. each_remove_if_cancelled Asks s i (asks.at i))
each_remove_below Asks s mark true asks =
    each_sweep Asks (λ _. ⊤) (words_below mark) 0 (over_touched s (λ i _. remove_if_cancelled s i)) tt tt
    (λ j u _ _ _. (
      asks.touched j,
      λ answer. each_at Asks (λ i _. remove_if_cancelled s i) u (shown (word_in answer) j 64)
          (λ i _. each_remove_if_cancelled Asks s i (asks.at i)),
    ))

pub each_remove_all : (Asks : Question → Type 0) (s : SelNo) (listed : Bool) → Asks (Question.look_keys s)
    → AsksOver Asks s → Each Asks (λ _. ⊤) (remove_all_cancelled s listed)
each_remove_all Asks s listed keys asks = (keys, λ mark. each_remove_below Asks s (number_in mark) listed asks)

-- ---- telling

-- what a selection asks of a key that it marks
pub record AsksMark (Asks : Question → Type 0) (s : SelNo) (i : ℕ) : Type 0 where
  pub looks : Asks (Question.look_mark s i)
  pub marks : (from : KeyMark) (told : ℕ) → Asks (Question.mark s i from told)

module _ (Asks : Question → Type 0) (s : SelNo) (i : ℕ) (asks : AsksMark Asks s i) where
  each_again : (told : ℕ) (found : Result (Unit {0}) KeyMark) → Each Asks (λ _. ⊤) (mark_again s i told found)
  each_again told (Ok u) = tt
  each_again told (Err stands) = (asks.marks stands told, λ _. tt)

  pub each_mark : (told : ℕ) → Each Asks (λ _. ⊤) (mark_told s i told)
  each_mark told =
      each_if {R = ℕ} Asks (λ _. ⊤) (told == 0) (reply 0) (mark_looked s i told) (λ _. tt)
      (λ _. (
        asks.looks,
        λ was. each_if {R = ℕ} Asks (λ _. ⊤) (gains_nothing (mark_in was) told) (reply 0)
            (mark s i (mark_in was) told >>= mark_again s i told)
            (λ _. tt) (λ _. (asks.marks (mark_in was) told, λ first. each_again told (exchange_in first))),
      ))

pub each_entry : (Asks : Question → Type 0) (s : SelNo) (pairs : List (ℕ × ℕ)) (entry : LookedKey) (before : ℕ)
    → AsksMark Asks s entry.index → Each Asks (λ _. ⊤) (mark_entry s pairs entry before)
each_entry Asks s pairs entry before asks =
    each_bind Asks (λ _. ⊤) (λ _. ⊤) (mark_told s entry.index (told_bits pairs entry)) _
    (each_mark Asks s entry.index asks (told_bits pairs entry)) (λ _ _. tt)

pub each_marks : (Asks : Question → Type 0) (s : SelNo) (pairs : List (ℕ × ℕ)) (entries : List LookedKey)
    → All (λ entry. AsksMark Asks s entry.index) entries
    → Each Asks (λ _. ⊤) (sweep_over entries (mark_entry s pairs) 0)
each_marks Asks s pairs entries asks =
    each_over Asks (λ entry. AsksMark Asks s entry.index) (λ _. ⊤) entries (mark_entry s pairs) 0 asks tt
    (λ entry before asks' _. each_entry Asks s pairs entry before asks')

pub each_end : (Asks : Question → Type 0) (Replies : ToldReply → Type 0) (selection : Selection) (answer : Selected)
    → Asks (Question.look_keys selection.selector) → AsksOver Asks selection.selector
    → Asks (Question.end_wake selection.selector) → Asks (Question.give_turn selection.selector) → Replies (done answer)
    → Each Asks Replies (end_selection selection answer)
each_end Asks Replies selection answer keys asks ends gives fits =
    each_bind Asks (λ _. ⊤) Replies (remove_all_cancelled selection.selector selection.listed) _
    (each_remove_all Asks selection.selector selection.listed keys asks) (λ _ _. (ends, λ _. (gives, λ _. fits)))

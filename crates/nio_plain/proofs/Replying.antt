-- How a call of a plain system is shown to answer as the documented one, at each of its returns.
use Rattle.std.proofs.Common.{◌≡◌, ℕ, ◌+◌, ◌<◌, ◌≤◌, Option, None, Some, is_some, Bool, true, false, Result, Ok, List}
use Rattle.std.proofs.Common.{[], ◌∷◌, ◌++◌, length, get_or, set, refl, sym, ap, subst, ◌∙◌, map}
use Rattle.std.proofs.lemmas.List.{length-set, length_push}
use Rattle.std.proofs.lemmas.Result.{IfOk-from_err}
use Rattle.std.specs.Result.{IsErr}
use Rattle.std.specs.declared.alloc.AllocError.{AllocError}
use lib.ListN.{replicate}
use Rattle.nio_group.specs.Group.{Group, empty_group}
use Rattle.nio_history.specs.State.{unmade_channel, put, with_interrupted}
use Rattle.nio_language.specs.declared.reply.Reply.{Reply}
use Rattle.nio_plain.proofs.Places.{places-nil, places-replicate, places_all, places_past, places-set, places-push}
use Rattle.nio_plain.proofs.Places.{places_at, part_kept}
use Rattle.nio_plain.specs.Plain.{Replies, RepliesAs, Kept}
use Rattle.nio_plain.specs.PlainState.{places, caller_of, channel_row, selector_row, SelectorRow, no_selector}
use Rattle.nio_plain.specs.PlainState.{state_from, state_of, pipe_of}
use Rattle.nio_plain.specs.ScriptState.{ScriptState, group_limits, script_opening, with_shared, Pipe}
use Rattle.nio_plain.specs.Seq.Replies.{Replied, unchanged}
use Rattle.nio_plain.specs.declared.plain.Plain.{Plain}
use Rattle.nio_plain.specs.declared.plain.channel.Channel.{Channel}
use Rattle.nio_plain.specs.declared.plain.pipe.Pipe.{Pipe as PlainPipe}
use Rattle.nio_plain.specs.declared.plain.selector.Selecting.{Selecting}
use Rattle.nio_plain.specs.declared.plain.selector.Selector.{Selector}
pub use Rattle.nio_group.proofs.TableLemmas.{on_err}

-- a call that keeps the limits and the rules
pub kept_same : (p : Plain) → Kept p p
kept_same p = record { limits = refl; rules = refl }

pub unchanged_as : (p : Plain) (r : Reply) (a : Replied) → a ≡ unchanged (state_of p) r → RepliesAs p p (Ok r) a
unchanged_as p r a e = record {
  reply = sym (ap (λ (x : Replied). x.reply) e);
  left = sym (ap (λ (x : Replied). x.left) e);
  memory = tt;
  kept = kept_same p;
}

pub replied_as : (p q : Plain) (r : Reply) (a b : Replied) → a ≡ b → r ≡ b.reply → state_of q ≡ b.left → Kept p q
    → RepliesAs p q (Ok r) a
replied_as p q r a b e same left kept = record {
  reply = same ∙ sym (ap (λ (x : Replied). x.reply) e);
  left = left ∙ sym (ap (λ (x : Replied). x.left) e);
  memory = tt;
  kept = kept;
}

-- selectors and channels are made below the length, and not from there on

pub selector_made-below : (xs : List Selector) (k : ℕ) → k < length xs
    → (places selector_row no_selector xs k).made ≡ true
selector_made-below xs k h =
    places_all selector_row no_selector (λ r. r.made ≡ true) (λ _. refl) xs k h

pub selector_made-past : (xs : List Selector) (k : ℕ) → length xs ≤ k
    → (places selector_row no_selector xs k).made ≡ false
selector_made-past xs k h = ap (λ r. r.made) (places_past selector_row no_selector xs k h)

pub channel_made-below : (xs : List Channel) (k : ℕ) → k < length xs
    → (places channel_row unmade_channel xs k).made ≡ true
channel_made-below xs k h =
    places_all channel_row unmade_channel (λ r. r.made ≡ true) (λ _. refl) xs k h

pub channel_made-past : (xs : List Channel) (k : ℕ) → length xs ≤ k
    → (places channel_row unmade_channel xs k).made ≡ false
channel_made-past xs k h =
    ap (λ r. r.made) (places_past channel_row unmade_channel xs k h)

-- a system in which nothing is made
pub state-opening : (n : ℕ) (g : Group) (ps : List PlainPipe) (bs : List Bool) (cs : List Channel) (ss : List Selector)
    → g ≡ empty_group group_limits → ps ≡ [] → bs ≡ replicate n false → cs ≡ [] → ss ≡ []
    → state_from g (map pipe_of ps) (places (λ b. b) false bs) (length cs) (places channel_row unmade_channel cs)
    (places selector_row no_selector ss) ≡ script_opening
state-opening n group ps bs cs ss d h e f g =
    let no_interrupt = ap (places (λ b. b) false) e ∙ places-replicate n false in
    let no_channel = ap (places channel_row unmade_channel) f ∙ places-nil channel_row unmade_channel in
    let no_row = ap (places selector_row no_selector) g ∙ places-nil selector_row no_selector in
    λ i. state_from (d i) (map pipe_of (h i)) (no_interrupt i) (length (f i)) (no_channel i) (no_row i)

-- the rows of the selectors, and the state with other rows
abbrev pub rows_of : Plain → ℕ → SelectorRow
rows_of p = places selector_row no_selector p.selectors.items

abbrev pub with_rows : Plain → (ℕ → SelectorRow) → ScriptState
with_rows p row =
    state_from p.group (map pipe_of p.pipes.items) (places (λ b. b) false p.interrupted.items) (length p.channels.items)
    (places channel_row unmade_channel p.channels.items) row

-- the state after a write of one selector, after a push of one, and after a push of a channel
pub state-set_selector : (p : Plain) (ys : List Selector) (s : ℕ) (x : Selector) → s < length p.selectors.items
    → ys ≡ set p.selectors.items s x
    → with_rows p (places selector_row no_selector ys) ≡ with_rows p (put (rows_of p) s (selector_row x))
state-set_selector p ys s x h e =
    ap (λ zs. with_rows p (places selector_row no_selector zs)) e
    ∙ ap (with_rows p) (places-set selector_row no_selector p.selectors.items s x h)

pub state-push_selector : (p : Plain) (ys : List Selector) (x : Selector) (r : SelectorRow)
    → ys ≡ p.selectors.items ++ x ∷ [] → selector_row x ≡ r
    → with_rows p (places selector_row no_selector ys) ≡ with_rows p (put (rows_of p) (length p.selectors.items) r)
state-push_selector p ys x r e same =
    (ap (λ zs. with_rows p (places selector_row no_selector zs)) e
    ∙ ap (with_rows p) (places-push selector_row no_selector p.selectors.items x))
    ∙ ap (λ q. with_rows p (put (rows_of p) (length p.selectors.items) q)) same

pub state-push_channel : (group : Group) (pipes : List Pipe) (interrupted : ℕ → Bool) (row : ℕ → SelectorRow)
    (xs ys : List Channel) (x : Channel) → ys ≡ xs ++ x ∷ []
    → state_from group pipes interrupted (length ys) (places channel_row unmade_channel ys) row
    ≡ state_from group pipes interrupted (length xs + 1)
    (put (places channel_row unmade_channel xs) (length xs) (channel_row x)) row
state-push_channel group pipes interrupted row xs ys x e =
    let len = ap length e ∙ length_push xs x in
    let chan = ap (places channel_row unmade_channel) e ∙ places-push channel_row unmade_channel xs x in
    λ i. state_from group pipes interrupted (len i) (chan i) row

pub state-set_channel : (group : Group) (pipes : List Pipe) (interrupted : ℕ → Bool) (row : ℕ → SelectorRow)
    (xs ys : List Channel) (c : ℕ) (x : Channel) → c < length xs → ys ≡ set xs c x
    → state_from group pipes interrupted (length ys) (places channel_row unmade_channel ys) row
    ≡ state_from group pipes interrupted (length xs)
    (put (places channel_row unmade_channel xs) c (channel_row x)) row
state-set_channel group pipes interrupted row xs ys c x h e =
    let len = ap length e ∙ length-set xs c x in
    let chan = ap (places channel_row unmade_channel) e ∙ places-set channel_row unmade_channel xs c x h in
    λ i. state_from group pipes interrupted (len i) (chan i) row

-- the same of a call that takes no memory
pub unchanged_without_memory : (p : Plain) (r : Reply) (a : Replied) → a ≡ unchanged (state_of p) r → Replies p p r a
unchanged_without_memory p r a e = record {
  reply = sym (ap (λ (x : Replied). x.reply) e);
  left = sym (ap (λ (x : Replied). x.left) e);
  kept = kept_same p;
}

pub replied_without_memory : (p q : Plain) (r : Reply) (a b : Replied) → a ≡ b → r ≡ b.reply → state_of q ≡ b.left
    → Kept p q → Replies p q r a
replied_without_memory p q r a b e same left kept = record {
  reply = same ∙ sym (ap (λ (x : Replied). x.reply) e);
  left = left ∙ sym (ap (λ (x : Replied). x.left) e);
  kept = kept;
}

-- a call that lacked memory
pub failed_as : (p q : Plain) (r : Result Reply AllocError) (a : Replied) → IsErr r → state_of q ≡ state_of p
    → Kept p q → RepliesAs p q r a
failed_as p q r a e same kept = record {
  reply = IfOk-from_err r (λ x. x ≡ a.reply) e;
  left = IfOk-from_err r (λ _. state_of q ≡ a.left) e;
  memory = on_err r same;
  kept = kept;
}

-- a write of a selector that leaves its parts as they were
pub state-same_selector : (p : Plain) (s : ℕ) (x y : Selector) → s < length p.selectors.items
    → x ≡ get_or p.selectors.items s x → selector_row y ≡ selector_row x
    → with_rows p (places selector_row no_selector (set p.selectors.items s y)) ≡ state_of p
state-same_selector p s x y h e same =
    let at = places_at selector_row no_selector p.selectors.items s x h e in
    state-set_selector p (set p.selectors.items s y) s y h refl
    ∙ ap (with_rows p) (part_kept (λ (r : SelectorRow). r) (rows_of p) s (selector_row y) (same ∙ sym at))

-- two reads of one selector
pub same_row : (p : Plain) (s : ℕ) (x y : Selector) → s < length p.selectors.items → x ≡ get_or p.selectors.items s x
    → y ≡ get_or p.selectors.items s y → selector_row x ≡ selector_row y
same_row p s x y h e d =
    sym (places_at selector_row no_selector p.selectors.items s x h e)
    ∙ places_at selector_row no_selector p.selectors.items s y h d

-- a selector's turn is taken where a selection is in progress
pub is_some-caller_of : (o : Option Selecting) → is_some (caller_of o) ≡ is_some o
is_some-caller_of None = refl
is_some-caller_of (Some x) = refl

-- the state after a write of a caller's interrupt status
pub interrupted-set : (p : Plain) (n : ℕ) (b : Bool) → n < length p.interrupted.items
    → state_from p.group (map pipe_of p.pipes.items) (places (λ (x : Bool). x) false (set p.interrupted.items n b))
    (length p.channels.items) (places channel_row unmade_channel p.channels.items) (rows_of p)
    ≡ with_shared (state_of p) (with_interrupted (state_of p).shared n b)
interrupted-set p n b h =
    ap (λ f. state_from p.group (map pipe_of p.pipes.items) f (length p.channels.items)
    (places channel_row unmade_channel p.channels.items) (rows_of p))
    (places-set (λ (x : Bool). x) false p.interrupted.items n b h)

-- a call without want of memory, as one that may lack it
pub without_memory : (p q : Plain) (r : Reply) (a : Replied) → Replies p q r a → RepliesAs p q (Ok r) a
without_memory p q r a h = record { reply = h.reply; left = h.left; memory = tt; kept = h.kept }

-- a call by its word
pub of_word : (p q : Plain) (r : Result Reply AllocError) (a b : Replied) → b ≡ a → RepliesAs p q r a
    → RepliesAs p q r b
of_word p q r a b e h = subst (λ (x : Replied). RepliesAs p q r x) (sym e) h

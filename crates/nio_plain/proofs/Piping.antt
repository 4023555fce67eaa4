-- The pipes of a plain system, as those of the documented one.
use Rattle.std.proofs.Common.{◌≡◌, ◌≢◌, ℕ, ◌+◌, ◌-◌, ◌<◌, ◌≤◌, min, ⊎_elim, Bool, true, false, cond, nat_lt, not}
use Rattle.std.proofs.Common.{Option, Some, None, List, [], ◌∷◌, ◌++◌, length, get_or, map, set, take, drop, position}
use Rattle.std.proofs.Common.{refl, sym, ap, ◌∙◌, arith}
use Rattle.std.specs.List.{prefix_len}
use Rattle.std.proofs.Math.ListN.{drop_of_length-le}
use Rattle.std.proofs.Math.Seq.{drop-length, take-append_seam}
use Rattle.std.proofs.lemmas.Bool.{cases_lt, cond-true, lt-ltb}
use Rattle.std.proofs.lemmas.List.{get_or-map, length-drop, length-map, map-append, map-set}
use Rattle.std.proofs.lemmas.List.Quantifiers.{position-Some}
use Rattle.nio_base.specs.declared.kind.Kind.TheVariants.{Source, Sink}
use Rattle.nio_base.specs.declared.limits.Limits.{Limits}
use Rattle.nio_base.specs.declared.numbers.CallerNo.{CallerNo}
use Rattle.nio_base.specs.declared.numbers.ChanId.{ChanId}
use Rattle.nio_history.specs.State.{unmade_channel}
use Rattle.nio_language.specs.declared.reply.Reply.TheVariants as reply
use Rattle.nio_plain.proofs.Replying.{channel_made-below, channel_made-past, rows_of}
use Rattle.nio_plain.proofs.Found.{find_spent, find_unmade}
use Rattle.nio_plain.specs.PlainState.{channel_row, pipe_of, places, state_from}
use Rattle.nio_plain.specs.ScriptState.{Pipe, ScriptState, with_pipes}
use Rattle.nio_plain.specs.Seq.Replies.{unchanged}
use Rattle.nio_plain.specs.Seq.Opening.{channel_made, next_channel, unmade_number, with_new_channel}
use Rattle.nio_plain.specs.Seq.Pipes.{no_pipe, pipe_at, with_pipe}
use Rattle.nio_plain.specs.Seq.Piping.{not_now, pipe_call, read_first, with_sink, with_source}
use Rattle.nio_plain.specs.declared.plain.Plain.{Plain}
use Rattle.nio_plain.specs.declared.plain.channel.Channel.{Channel}
use Rattle.nio_plain.specs.declared.plain.pipe.Pipe.{Pipe as PlainPipe}
use Rattle.nio_plain.specs.declared.rules.Rules.{Rules}

-- the first place of a list, and of its image

prefix_len-map : {X A : Type 0} (p : A → Bool) (f : X → A) (xs : List X)
    → prefix_len p (map f xs) ≡ prefix_len (λ x. p (f x)) xs
prefix_len-map p f [] = refl
prefix_len-map {X} p f (x ∷ xs) = ap (λ (n : ℕ). cond (p (f x)) (1 + n) 0) (prefix_len-map p f xs)

pub position-map : {X A : Type 0} (q : A → Bool) (f : X → A) (xs : List X)
    → position q (map f xs) ≡ position (λ x. q (f x)) xs
position-map {X} q f xs =
    let first : ◌≡◌ {A = ℕ} (prefix_len (λ a. not (q a)) (map f xs)) (prefix_len (λ (x : X). not (q (f x))) xs) =
    prefix_len-map (λ a. not (q a)) f xs in
    let size : ◌≡◌ {A = ℕ} (length (map f xs)) (length xs) = length-map xs f in
    λ i. cond (nat_lt (first i) (size i)) (Some (first i)) None

-- the pipe at a place
pub pipe_at-is : (items : List PlainPipe) (place : ℕ) (x : PlainPipe) → place < length items
    → x ≡ get_or items place x → get_or (map pipe_of items) place no_pipe ≡ pipe_of x
pipe_at-is items place x within is = get_or-map pipe_of items place x no_pipe within ∙ ap pipe_of (sym is)

-- one pipe is changed
pub changed_pipe : (items : List PlainPipe) (place : ℕ) (x new : PlainPipe) (change : Pipe → Pipe)
    → place < length items → x ≡ get_or items place x → pipe_of new ≡ change (pipe_of x)
    → map pipe_of (set items place new)
    ≡ set (map pipe_of items) place (change (get_or (map pipe_of items) place no_pipe))
changed_pipe items place x new change within is changes =
    map-set pipe_of items place new
    ∙ ap (set (map pipe_of items) place) (changes ∙ ap change (sym (pipe_at-is items place x within is)))

-- reading where bytes wait, and where none does

pub read_first-some : (st : ScriptState) (blocking : Bool) (n i : ℕ) (waiting : List ℕ) (sealed : Bool)
    → waiting ≢ []
    → read_first st blocking n i waiting sealed
    ≡ record {
      reply = reply.Bytes (take n waiting);
      left = with_pipe st i
          (record (pipe_at st.pipes i) { waiting = drop n waiting });
    }
read_first-some st blocking n i [] sealed some = absurd (some refl)
read_first-some st blocking n i (b ∷ bytes) sealed some = refl

pub read_first-none : (st : ScriptState) (blocking : Bool) (n i : ℕ) (waiting : List ℕ) (sealed : Bool)
    → waiting ≡ []
    → read_first st blocking n i waiting sealed ≡ unchanged st (cond sealed reply.End (not_now blocking))
read_first-none st blocking n i [] true none = refl
read_first-none st blocking n i [] false none = refl
read_first-none st blocking n i (b ∷ bytes) sealed none = absurd (cc none)

-- a place that was found is one of the list
pub place_within : (q : Pipe → Bool) (items : List PlainPipe) (place : ℕ)
    → position q (map pipe_of items) ≡ Some place → place < length items
place_within q items place e =
    let found = position-Some q (map pipe_of items) place no_pipe e in
    omega (arith, found.0, length-map items pipe_of)

-- making a pipe

-- the caller is one that there is, and these are the channels that come next
pub pipe_call-is : (rules : Rules) (l : Limits) (st : ScriptState) (me target : CallerNo) (source : ChanId)
    (sink : Option ChanId) → target.0 < l.callers → next_channel rules l st.shared Source ≡ Some source
    → next_channel rules l (with_new_channel st.shared Source source) Sink ≡ sink
    → pipe_call rules l st me target ≡ with_sink (channel_made st Source (Some source)).left me target source sink
unfolding pipe_call
pipe_call-is rules l st me target source sink within next further =
    cond-true (nat_lt target.0 l.callers) (with_source rules l st me target (next_channel rules l st.shared Source)) _
    (lt-ltb target.0 l.callers within)
    ∙ (ap (with_source rules l st me target) next
    ∙ ap (with_sink (channel_made st Source (Some source)).left me target source) further)

-- one pipe more
pub pipes-push : (items all : List PlainPipe) (x : PlainPipe) → all ≡ items ++ x ∷ []
    → map pipe_of all ≡ map pipe_of items ++ pipe_of x ∷ []
pipes-push items all x is = ap (map pipe_of) is ∙ map-append pipe_of items (x ∷ [])

-- taking bytes out

drop_min : (n : ℕ) (xs : List ℕ) → drop (min n (length xs)) xs ≡ drop n xs
drop_min n xs =
    ⊎_elim
    (λ (h : n < length xs). let e : min n (length xs) ≡ n = omega arith in ap (λ (k : ℕ). drop k xs) e)
    (λ (h : length xs ≤ n).
    let e : min n (length xs) ≡ length xs = omega arith in
    ap (λ (k : ℕ). drop k xs) e ∙ (drop-length xs ∙ sym (drop_of_length-le xs h)))
    (cases_lt n (length xs))

-- the first c were rotated to the end, and cut off there
pub left_by_take : (xs : List ℕ) (n c : ℕ) → c ≡ min n (length xs)
    → take (length xs - c) (drop c xs ++ take c xs) ≡ drop n xs
left_by_take xs n c is =
    ap (λ (k : ℕ). take k (drop c xs ++ take c xs)) (sym (length-drop c xs))
    ∙ (take-append_seam (drop c xs) (take c xs)
    ∙ (ap (λ (k : ℕ). drop k xs) is ∙ drop_min n xs))

-- a system with other channels and pipes
abbrev pub with_ends : Plain → List PlainPipe → List Channel → ScriptState
with_ends p pipes channels =
    state_from
    p.group
    (map pipe_of pipes)
    (places (λ (b : Bool). b) false p.interrupted.items)
    (length channels)
    (places channel_row unmade_channel channels)
    (rows_of p)

-- a system with one pipe more
pub pipe_made : (p : Plain) (before pipes : List PlainPipe) (channels : List Channel) (pipe : PlainPipe) (new : Pipe)
    → pipes ≡ before ++ pipe ∷ [] → pipe_of pipe ≡ new
    → with_ends p pipes channels ≡ with_pipes (with_ends p before channels) (map pipe_of before ++ new ∷ [])
pipe_made p before pipes channels pipe new more is =
    λ i.
    with_pipes (with_ends p before channels)
    ((pipes-push before pipes pipe more ∙ ap (λ (q : Pipe). map pipe_of before ++ q ∷ []) is) i)

-- the least number that isn't made

pub next_end : (p : Plain) (pipes : List PlainPipe) (channels : List Channel) → length channels < p.limits.channels
    → unmade_number p.limits (with_ends p pipes channels).shared ≡ Some (length channels)
next_end p pipes channels room =
    find_unmade (λ c. (places channel_row unmade_channel channels c).made) p.limits.channels (length channels)
    (channel_made-below channels) (channel_made-past channels) room

pub no_next_end : (p : Plain) (pipes : List PlainPipe) (channels : List Channel) → p.limits.channels ≤ length channels
    → unmade_number p.limits (with_ends p pipes channels).shared ≡ None
no_next_end p pipes channels full =
    find_spent (λ c. (places channel_row unmade_channel channels c).made) p.limits.channels (length channels)
    (channel_made-below channels) (channel_made-past channels) full

-- A call is put together from its word and its arguments, in one way.
use Rattle.std.proofs.Common.{◌≡◌, ℕ, List, ◌∷◌, Bool, Option, Some, None, IfSome, IsSomeAnd, MatchOption, Result, Ok}
use Rattle.std.proofs.Common.{Err, IfOk, refl, sym, ap, subst, ◌∙◌}
use Rattle.std.specs.Prelude.{⊤}
use Rattle.std.proofs.lemmas.Option.{same_Some, none-some}
use Rattle.nio_base.specs.declared.numbers.CallerNo.{CallerNo}
use Rattle.nio_base.specs.declared.numbers.ChanId.{ChanId}
use Rattle.nio_base.specs.declared.numbers.KeyId.{KeyId}
use Rattle.nio_base.specs.declared.numbers.SelNo.{SelNo}
use Rattle.nio_language.specs.Arguments.{Arguments, nothing, one_caller, one_selector, one_channel, one_kind}
use Rattle.nio_language.specs.Arguments.{channel_mode}
use Rattle.nio_language.specs.Arguments.{channel_selector, channel_bytes, channel_count, registration, selector_key}
use Rattle.nio_language.specs.Arguments.{key_ops, key_number, selector_wait, selector_told, on_group, ArgumentsFit}
use Rattle.nio_language.specs.Arguments.{ReadsArguments, argument_words}
use Rattle.nio_language.specs.Calls.{IsCall, call_words}
use Rattle.nio_language.specs.CallWords.{arguments, call_word, call_word_text}
use Rattle.nio_language.specs.GroupCalls.{ReadsGroupCall, group_word}
use Rattle.nio_language.specs.Lines.{ReadsCall}
use Rattle.nio_language.specs.Reading.{Reads}
use Rattle.nio_language.specs.declared.call.Call.{Call}
use Rattle.nio_language.specs.declared.call.Call.TheVariants as call
use Rattle.nio_language.specs.declared.call.Waiting.{Waiting}
use Rattle.nio_language.specs.declared.call_word.CallWord.{CallWord}
use Rattle.nio_language.specs.declared.call_word.CallWord.TheVariants as word
use Rattle.nio_language.specs.declared.call_word.CallerWord.{CallerWord}
use Rattle.nio_language.specs.declared.call_word.CallerWord.TheVariants as on_caller
use Rattle.nio_language.specs.declared.call_word.ChannelWord.{ChannelWord}
use Rattle.nio_language.specs.declared.call_word.ChannelWord.TheVariants as on_channel
use Rattle.nio_language.specs.declared.call_word.KeyOpsWord.{KeyOpsWord}
use Rattle.nio_language.specs.declared.call_word.KeyOpsWord.TheVariants as on_key_ops
use Rattle.nio_language.specs.declared.call_word.KeyWord.{KeyWord}
use Rattle.nio_language.specs.declared.call_word.KeyWord.TheVariants as on_key
use Rattle.nio_language.specs.declared.call_word.LoneWord.{LoneWord}
use Rattle.nio_language.specs.declared.call_word.LoneWord.TheVariants as alone
use Rattle.nio_language.specs.declared.call_word.SelectorWord.{SelectorWord}
use Rattle.nio_language.specs.declared.call_word.SelectorWord.TheVariants as on_selector
use Rattle.nio_language.specs.declared.group_call.GroupCall.{GroupCall}
use Rattle.nio_language.specs.declared.group_word.GroupWord.{GroupWord}
use Rattle.nio_language.proofs.Readers.{reads_none, reads_made}

-- ---- from a word and arguments to the call

abbrev lone_call : LoneWord → Call
lone_call alone.Selector = call.Selector
lone_call alone.Interrupted = call.Interrupted

abbrev caller_call : CallerWord → CallerNo → Call
caller_call on_caller.Interrupt t = call.Interrupt t
caller_call on_caller.Pipe t = call.Pipe t

abbrev channel_call : ChannelWord → ChanId → Call
channel_call on_channel.IsBlocking c = call.IsBlocking c
channel_call on_channel.IsOpen c = call.IsOpen c
channel_call on_channel.IsRegistered c = call.IsRegistered c
channel_call on_channel.Closec c = call.Closec c

abbrev key_call : KeyWord → SelNo → KeyId → Call
key_call on_key.Valid s k = call.Valid s k
key_call on_key.Interest s k = call.Interest s k
key_call on_key.Ready s k = call.Ready s k
key_call on_key.Cancel s k = call.Cancel s k
key_call on_key.Unselect s k = call.Unselect s k
key_call on_key.Attachment s k = call.Attachment s k

abbrev key_ops_call : KeyOpsWord → SelNo → KeyId → ℕ → Call
key_ops_call on_key_ops.Iset s k ops = call.Iset s k ops
key_ops_call on_key_ops.Ior s k ops = call.Ior s k ops
key_ops_call on_key_ops.Iand s k ops = call.Iand s k ops

abbrev selector_call : SelectorWord → SelNo → Call
selector_call on_selector.Failed s = call.Failed s
selector_call on_selector.Wakeup s = call.Wakeup s
selector_call on_selector.Close s = call.Close s
selector_call on_selector.CloseEnd s = call.CloseEnd s
selector_call on_selector.Keys s = call.Keys s
selector_call on_selector.Selected s = call.Selected s

abbrev call_from : CallWord → Arguments → Option Call
call_from (word.Alone w) nothing = Some (lone_call w)
call_from (word.OnCaller w) (one_caller t) = Some (caller_call w t)
call_from (word.OnChannel w) (one_channel c) = Some (channel_call w c)
call_from (word.OnKey w) (selector_key s k) = Some (key_call w s k)
call_from (word.OnKeyOps w) (key_ops s k ops) = Some (key_ops_call w s k ops)
call_from (word.OnSelector w) (one_selector s) = Some (selector_call w s)
call_from word.Channel (one_kind kind) = Some (call.Channel kind)
call_from word.Blocking (channel_mode c on) = Some (call.Blocking c on)
call_from word.KeyFor (channel_selector c s) = Some (call.KeyFor c s)
call_from word.Register (registration s c ops att) = Some (call.Register s c ops att)
call_from word.Attach (key_number s k att) = Some (call.Attach s k att)
call_from word.Begin (selector_wait s waiting) = Some (call.Begin s waiting)
call_from word.Told (selector_told s elapsed pairs) = Some (call.Told s elapsed pairs)
call_from word.Pwrite (channel_bytes c bytes) = Some (call.Pwrite c bytes)
call_from word.Pread (channel_count c n) = Some (call.Pread c n)
call_from (word.OnGroup w) (on_group g) = Some (call.Group g)
call_from _ _ = None

call_from-parts : (c : Call) → call_from (call_word c) (arguments c) ≡ Some c
call_from-parts call.Selector = refl
call_from-parts _ = refl

-- two calls with one word and the same arguments are one
pub parts_one : (c d : Call) → call_word c ≡ call_word d → arguments c ≡ arguments d → c ≡ d
parts_one c d words args =
    same_Some c d
    (sym (call_from-parts c)
    ∙ (ap (λ w. call_from w (arguments c)) words ∙ (ap (call_from (call_word d)) args ∙ call_from-parts d)))

-- ---- the shape that the arguments behind a word have

abbrev pub HaveShape : {A : Type 0} → (A → Arguments) → Arguments → Type 0
HaveShape {A} shape args = (x : A) × (args ≡ shape x)

abbrev pub AreOf : CallWord → Arguments → Type 0
AreOf (word.Alone w) args = HaveShape {A = ⊤} (λ _. nothing) args
AreOf (word.OnCaller w) args = HaveShape one_caller args
AreOf (word.OnChannel w) args = HaveShape one_channel args
AreOf (word.OnKey w) args = HaveShape (λ (p : SelNo × KeyId). selector_key p.0 p.1) args
AreOf (word.OnKeyOps w) args = HaveShape (λ (p : SelNo × KeyId × ℕ). key_ops p.0 p.1 p.2) args
AreOf (word.OnSelector w) args = HaveShape one_selector args
AreOf word.Channel args = HaveShape one_kind args
AreOf word.Blocking args = HaveShape (λ (p : ChanId × Bool). channel_mode p.0 p.1) args
AreOf word.KeyFor args = HaveShape (λ (p : ChanId × SelNo). channel_selector p.0 p.1) args
AreOf word.Register args = HaveShape (λ (p : SelNo × ChanId × ℕ × Option ℕ). registration p.0 p.1 p.2 p.3) args
AreOf word.Attach args = HaveShape (λ (p : SelNo × KeyId × ℕ). key_number p.0 p.1 p.2) args
AreOf word.Begin args = HaveShape (λ (p : SelNo × Waiting). selector_wait p.0 p.1) args
AreOf word.Told args = HaveShape (λ (p : SelNo × Bool × List (KeyId × ℕ)). selector_told p.0 p.1 p.2) args
AreOf word.Pwrite args = HaveShape (λ (p : ChanId × List ℕ). channel_bytes p.0 p.1) args
AreOf word.Pread args = HaveShape (λ (p : ChanId × ℕ). channel_count p.0 p.1) args
AreOf (word.OnGroup w) args = (g : GroupCall) × (args ≡ on_group g) × (group_word g ≡ w)

from_shape : (w : CallWord) (args : Arguments) → IsSomeAnd (call_from w args) (λ c. call_word c ≡ w) → AreOf w args
from_shape (word.Alone w) nothing h = (tt, refl)
from_shape (word.OnCaller w) (one_caller t) h = (t, refl)
from_shape (word.OnChannel w) (one_channel c) h = (c, refl)
from_shape (word.OnKey w) (selector_key s k) h = ((s, k), refl)
from_shape (word.OnKeyOps w) (key_ops s k ops) h = ((s, k, ops), refl)
from_shape (word.OnSelector w) (one_selector s) h = (s, refl)
from_shape word.Channel (one_kind kind) h = (kind, refl)
from_shape word.Blocking (channel_mode c on) h = ((c, on), refl)
from_shape word.KeyFor (channel_selector c s) h = ((c, s), refl)
from_shape word.Register (registration s c ops att) h = ((s, c, ops, att), refl)
from_shape word.Attach (key_number s k att) h = ((s, k, att), refl)
from_shape word.Begin (selector_wait s waiting) h = ((s, waiting), refl)
from_shape word.Told (selector_told s elapsed pairs) h = ((s, elapsed, pairs), refl)
from_shape word.Pwrite (channel_bytes c bytes) h = ((c, bytes), refl)
from_shape word.Pread (channel_count c n) h = ((c, n), refl)
from_shape (word.OnGroup w) (on_group g) h = (g, refl, (cc h))
from_shape _ _ h = absurd h

pub have_shape : (c : Call) → AreOf (call_word c) (arguments c)
have_shape c =
    from_shape (call_word c) (arguments c)
    (subst (λ o. IsSomeAnd o (λ d. call_word d ≡ call_word c)) (sym (call_from-parts c)) refl)

-- ---- reading

-- what is made of arguments that are read is the call with the word and these arguments
pub made_call : {A : Type 0} {Made : A → Call → Type 0} (w : CallWord) (shape : A → Arguments)
    → ((args : Arguments) → AreOf w args → HaveShape shape args)
    → (words : List (List ℕ)) (o : Option A) (r : Option Call) → ReadsArguments shape words o
    → MatchOption o (r ≡ None) (λ x. IsSomeAnd r (Made x))
    → ((x : A) (c : Call) → Made x c → (call_word c ≡ w) × (arguments c ≡ shape x)) → ReadsCall w words r
made_call w shape of_word words o r read cases says =
    reads_made (λ c. IsCall c × (call_word c ≡ w)) (λ c. argument_words (arguments c)) o r read cases
    (λ x c made fits.
    let parts = says x c made in
    ((subst ArgumentsFit (sym parts.1) fits, parts.0), ap argument_words (sym parts.1)))
    (λ d fits.
    let own = of_word (arguments d) (subst (λ v. AreOf v (arguments d)) fits.1 (have_shape d)) in (
      own.0,
      subst ArgumentsFit own.1 fits.0,
      ap argument_words own.1,
      λ c made.
          let parts = says own.0 c made in
          parts_one c d (parts.0 ∙ sym fits.1) (parts.1 ∙ sym own.1),
    ))

-- a call on the group that is read is the call with its word
pub made_on_group : {Made : GroupCall → Call → Type 0} (w : GroupWord) (words : List (List ℕ)) (o : Option GroupCall)
    (r : Option Call) → ReadsGroupCall w words o → MatchOption o (r ≡ None) (λ g. IsSomeAnd r (Made g))
    → ((g : GroupCall) (c : Call) → Made g c → c ≡ call.Group g) → ReadsCall (word.OnGroup w) words r
made_on_group w words o r read cases says =
    reads_made (λ c. IsCall c × (call_word c ≡ word.OnGroup w)) (λ c. argument_words (arguments c)) o r read cases
    (λ g c made fits.
    let is = says g c made in (
      (subst IsCall (sym is) fits.0, ap call_word is ∙ ap word.OnGroup fits.1),
      ap (λ d. argument_words (arguments d)) (sym is),
    ))
    (λ d fits.
    let own = subst (λ v. AreOf v (arguments d)) fits.1 (have_shape d) in (
      own.0,
      (subst ArgumentsFit own.1 fits.0, own.2),
      ap argument_words own.1,
      λ c made.
          says own.0 c made
          ∙ sym (parts_one d (call.Group own.0) (fits.1 ∙ ap word.OnGroup (sym own.2)) own.1),
    ))

reads_call : (word : List ℕ) (w : CallWord) (args words : List (List ℕ)) (r : Option Call)
    → Reads (λ _. ⊤) call_word_text word (Some w) → words ≡ word ∷ args → ReadsCall w args r
    → Reads IsCall call_words words r
reads_call word w args words r read is h = record {
  found = found_call r h.found;
  only = λ c fits e.
      let all : word ∷ args ≡ call_words c = sym is ∙ e in
      let same : w ≡ call_word c = same_Some w (call_word c) (read.only (call_word c) tt (cc all)) in
      h.only c (fits, sym same) (cc all);
}
  where
    found_call : (r' : Option Call)
        → IfSome r' (λ c. (IsCall c × (call_word c ≡ w)) × (args ≡ argument_words (arguments c)))
        → IfSome r' (λ c. IsCall c × (words ≡ call_words c))
    found_call None found = tt
    found_call (Some c) found = (
      found.0.0,
      is
          ∙ (ap (λ v. v ∷ args) (read.found.1 ∙ ap call_word_text (sym found.0.1))
          ∙ ap (λ ws. call_word_text (call_word c) ∷ ws) found.1),
    )

pub no_word : (word : List ℕ) (args words : List (List ℕ)) → Reads (λ _. ⊤) call_word_text word None
    → words ≡ word ∷ args → Reads IsCall call_words words None
no_word word args words read is =
    reads_none IsCall call_words words
    (λ c fits e.
    let all : word ∷ args ≡ call_words c = sym is ∙ e in
    none-some (call_word c) (read.only (call_word c) tt (cc all)))

pub reads_call_where_ok : {E : Type 0} (word : List ℕ) (w : CallWord) (args words : List (List ℕ))
    (r : Result (Option Call) E) → Reads (λ _. ⊤) call_word_text word (Some w)
    → words ≡ word ∷ args → IfOk r (ReadsCall w args) → IfOk r (Reads IsCall call_words words)
reads_call_where_ok word w args words (Ok r) read is h = reads_call word w args words r read is h
reads_call_where_ok word w args words (Err e) read is h = tt

-- The arguments of calls: the shapes that they may have, and for each its words and its ranges.
use Rattle.std.specs.Prelude.{◌≢◌, ℕ, ◌<◌, ◌≤◌, ℤ, nat_abs, ◌^◌, ⊤, Bool, true, false, Option, None, Some, List, []}
use Rattle.std.specs.Prelude.{◌∷◌, ◌++◌, length, map, codes, All, Any}
use Rattle.std.specs.Fmt.{decimal, signed_decimal}
use Rattle.std.specs.List.{AllPairs}
use Rattle.nio_base.specs.declared.kind.Kind.{Kind}
use Rattle.nio_base.specs.declared.kind.Kind.TheVariants.{Stream, Listener, Source, Sink, Datagram}
use Rattle.nio_base.specs.declared.numbers.CallerNo.{CallerNo}
use Rattle.nio_base.specs.declared.numbers.ChanId.{ChanId}
use Rattle.nio_base.specs.declared.numbers.KeyId.{KeyId}
use Rattle.nio_base.specs.declared.numbers.SelNo.{SelNo}
use Rattle.nio_language.specs.GroupCalls.{IsGroupCall, IsLaterGroupCall, group_argument_words}
use Rattle.nio_language.specs.Reading.{Reads}
use Rattle.nio_language.specs.Words.{IsName, IsNumber, caller_word, selector_word, bytes_word, channel_word, key_word}
use Rattle.nio_language.specs.Words.{kind_word}
use Rattle.nio_language.specs.Words.{pair_word}
use Rattle.nio_language.specs.declared.call.Waiting.{Waiting}
use Rattle.nio_language.specs.declared.call.Waiting.TheVariants.{Now, Wait, For}
use Rattle.nio_language.specs.declared.group_call.GroupCall.{GroupCall}

-- the arguments of a call, by their shape, in the order of the line; those of a call on the group are the
-- call's own
pub data Arguments : Type 0 where
  nothing : Arguments
  one_caller : CallerNo → Arguments
  one_selector : SelNo → Arguments
  one_channel : ChanId → Arguments
  one_kind : Kind → Arguments
  channel_mode : ChanId → Bool → Arguments
  channel_selector : ChanId → SelNo → Arguments
  channel_bytes : ChanId → List ℕ → Arguments
  channel_count : ChanId → ℕ → Arguments
  registration : SelNo → ChanId → ℕ → Option ℕ → Arguments
  selector_key : SelNo → KeyId → Arguments
  key_ops : SelNo → KeyId → ℕ → Arguments
  key_number : SelNo → KeyId → ℕ → Arguments
  selector_wait : SelNo → Waiting → Arguments
  selector_told : SelNo → Bool → List (KeyId × ℕ) → Arguments
  on_group : GroupCall → Arguments

-- ---- their words

abbrev pub waiting_words : Waiting → List (List ℕ)
waiting_words Now = codes "now" ∷ []
waiting_words Wait = codes "wait" ∷ []
waiting_words (For ms) = codes "for" ∷ signed_decimal ms ∷ []

abbrev pub mode_word : Bool → List ℕ
mode_word true = codes "on"
mode_word false = codes "off"

-- an attachment, where one is given
abbrev pub attachment_words : Option ℕ → List (List ℕ)
attachment_words None = []
attachment_words (Some att) = decimal att ∷ []

abbrev pub elapsed_words : Bool → List (List ℕ)
elapsed_words true = codes "elapsed" ∷ []
elapsed_words false = []

abbrev pub argument_words : Arguments → List (List ℕ)
argument_words nothing = []
argument_words (one_caller t) = caller_word t ∷ []
argument_words (one_selector s) = selector_word s ∷ []
argument_words (one_channel c) = channel_word c ∷ []
argument_words (one_kind kind) = kind_word kind ∷ []
argument_words (channel_mode c on) = channel_word c ∷ mode_word on ∷ []
argument_words (channel_selector c s) = channel_word c ∷ selector_word s ∷ []
argument_words (channel_bytes c bytes) = channel_word c ∷ bytes_word bytes ∷ []
argument_words (channel_count c n) = channel_word c ∷ decimal n ∷ []
argument_words (registration s c ops att) = selector_word s ∷ channel_word c ∷ decimal ops ∷ attachment_words att
argument_words (selector_key s k) = selector_word s ∷ key_word k ∷ []
argument_words (key_ops s k ops) = selector_word s ∷ key_word k ∷ decimal ops ∷ []
argument_words (key_number s k n) = selector_word s ∷ key_word k ∷ decimal n ∷ []
argument_words (selector_wait s waiting) = selector_word s ∷ waiting_words waiting
argument_words (selector_told s elapsed pairs) = selector_word s ∷ (elapsed_words elapsed ++ map pair_word pairs)
argument_words (on_group g) = group_argument_words g

-- ---- their ranges

-- a serial that stands behind a point
pub record IsSerial (m : ℕ) : Type 0 where
  pub some : m ≢ 0
  pub fits : IsNumber m

-- a channel, and a key, as a line may name it
abbrev pub IsChannelName : ChanId → Type 0
IsChannelName c = IsName c.number.0 c.serial

abbrev pub IsKeyName : KeyId → Type 0
IsKeyName k = IsName k.index k.serial

-- a key with operations, as a line may name them
pub record IsPair (p : KeyId × ℕ) : Type 0 where
  pub key_fits : IsKeyName p.0
  pub ops_fit : p.1 < 256

-- keys with operations, each key at most once
abbrev pub ArePairs : List (KeyId × ℕ) → Type 0
ArePairs pairs = All IsPair pairs × AllPairs (λ k m. k ≢ m) (map (λ p. p.0) pairs)

-- a number of milliseconds, less than 2 ^ 63 either way
abbrev pub IsMilliseconds : ℤ → Type 0
IsMilliseconds ms = nat_abs ms < 2 ^ 63

abbrev pub IsTime : Waiting → Type 0
IsTime Now = ⊤
IsTime Wait = ⊤
IsTime (For ms) = IsMilliseconds ms

abbrev pub IsAttachment : Option ℕ → Type 0
IsAttachment None = ⊤
IsAttachment (Some att) = att < 2 ^ 64

-- bytes that a line can say
pub record AreBytes (bytes : List ℕ) : Type 0 where
  pub few : length bytes ≤ 2000
  pub each : All (λ b. b < 256) bytes

-- arguments that a line can say
abbrev pub ArgumentsFit : Arguments → Type 0
ArgumentsFit nothing = ⊤
ArgumentsFit (one_caller t) = t.0 < 64
ArgumentsFit (one_selector s) = IsNumber s.0
ArgumentsFit (one_channel c) = IsChannelName c
ArgumentsFit (one_kind kind) = ⊤
ArgumentsFit (channel_mode c on) = IsChannelName c
ArgumentsFit (channel_selector c s) = IsChannelName c × IsNumber s.0
ArgumentsFit (channel_bytes c bytes) = IsChannelName c × AreBytes bytes
ArgumentsFit (channel_count c n) = IsChannelName c × (n ≤ 2048)
ArgumentsFit (registration s c ops att) = IsNumber s.0 × IsChannelName c × (ops < 256) × IsAttachment att
ArgumentsFit (selector_key s k) = IsNumber s.0 × IsKeyName k
ArgumentsFit (key_ops s k ops) = IsNumber s.0 × IsKeyName k × (ops < 256)
ArgumentsFit (key_number s k n) = IsNumber s.0 × IsKeyName k × (n < 2 ^ 64)
ArgumentsFit (selector_wait s waiting) = IsNumber s.0 × IsTime waiting
ArgumentsFit (selector_told s elapsed pairs) = IsNumber s.0 × ArePairs pairs
ArgumentsFit (on_group g) = IsGroupCall g

-- ---- what came later than the first rules

-- no line opened a channel of this kind by the first rules
abbrev pub IsLaterKind : Kind → Type 0
IsLaterKind Stream = ⊥
IsLaterKind Listener = ⊥
IsLaterKind Source = ⊥
IsLaterKind Sink = ⊥
IsLaterKind Datagram = ⊤

-- no line had these arguments by the first rules: they name a channel, a key or a channel of the group whose serial
-- isn't 0, or a later kind of channel
abbrev pub AreLater : Arguments → Type 0
AreLater nothing = ⊥
AreLater (one_caller t) = ⊥
AreLater (one_selector s) = ⊥
AreLater (one_channel c) = c.serial ≢ 0
AreLater (one_kind kind) = IsLaterKind kind
AreLater (channel_mode c on) = c.serial ≢ 0
AreLater (channel_selector c s) = c.serial ≢ 0
AreLater (channel_bytes c bytes) = c.serial ≢ 0
AreLater (channel_count c n) = c.serial ≢ 0
AreLater (registration s c ops att) = c.serial ≢ 0
AreLater (selector_key s k) = k.serial ≢ 0
AreLater (key_ops s k ops) = k.serial ≢ 0
AreLater (key_number s k n) = k.serial ≢ 0
AreLater (selector_wait s waiting) = ⊥
AreLater (selector_told s elapsed pairs) = Any (λ p. p.0.serial ≢ 0) pairs
AreLater (on_group g) = IsLaterGroupCall g

-- ---- reading them

-- the answer is the arguments of this shape that these words are, where there are any
abbrev pub ReadsArguments : {A : Type 0} → (A → Arguments) → List (List ℕ) → Option A → Type 0
ReadsArguments shape words result =
    Reads (λ x. ArgumentsFit (shape x)) (λ x. argument_words (shape x)) words result

-- The words of a script that name something.
use Rattle.std.specs.Prelude.{ℕ, ◌+◌, ◌/◌, ◌%◌, ◌<◌, ◌^◌, ◌==◌, nat_lt, List, [], ◌∷◌, ◌++◌, codes, if◌then◌else◌}
use Rattle.std.specs.Fmt.{decimal}
use Rattle.std.specs.List.{flat_map}
use Rattle.nio_base.specs.declared.kind.Kind.{Kind}
use Rattle.nio_base.specs.declared.kind.Kind.TheVariants.{Stream, Listener, Source, Sink, Datagram}
use Rattle.nio_base.specs.declared.numbers.CallerNo.{CallerNo}
use Rattle.nio_base.specs.declared.numbers.ChanId.{ChanId}
use Rattle.nio_base.specs.declared.numbers.KeyId.{KeyId}
use Rattle.nio_base.specs.declared.numbers.SelNo.{SelNo}

-- a number that a line can say
abbrev pub IsNumber : ℕ → Type 0
IsNumber n = n < 2 ^ 32

-- a letter and a decimal number: t1, s0
abbrev pub caller_word : CallerNo → List ℕ
caller_word t = codes "t" ++ decimal t.0

abbrev pub selector_word : SelNo → List ℕ
selector_word s = codes "s" ++ decimal s.0

-- a number and a serial, as a line may name them
pub record IsName (n m : ℕ) : Type 0 where
  pub number_fits : IsNumber n
  pub serial_fits : IsNumber m

-- a serial behind a point; nothing where it is 0
abbrev pub serial_text : ℕ → List ℕ
serial_text m = if m == 0 then [] else codes "." ++ decimal m

-- a letter, a number, and a serial where that isn't 0
abbrev pub name_word : ℕ → ℕ × ℕ → List ℕ
name_word letter p = letter ∷ (decimal p.0 ++ serial_text p.1)

-- a channel's number, and its serial where that isn't 0: c2, c2.1
abbrev pub channel_word : ChanId → List ℕ
channel_word c = codes "c" ++ decimal c.number.0 ++ serial_text c.serial

-- a key's index, and its serial where that isn't 0: k3, k3.1
abbrev pub key_word : KeyId → List ℕ
key_word k = codes "k" ++ decimal k.index ++ serial_text k.serial

-- a key with operations: k3:5, k3.1:5
abbrev pub pair_word : KeyId × ℕ → List ℕ
pair_word p = key_word p.0 ++ codes ":" ++ decimal p.1

-- bytes, each as two hexadecimal digits with small letters; no bytes are a dash
abbrev pub hex_digit : ℕ → ℕ
hex_digit d = if nat_lt d 10 then 48 + d else 87 + d

abbrev pub hex_digits : List ℕ → List ℕ
hex_digits bytes = flat_map (λ b. hex_digit (b / 16) ∷ hex_digit (b % 16) ∷ []) bytes

abbrev pub bytes_word : List ℕ → List ℕ
bytes_word [] = codes "-"
bytes_word (b ∷ bytes) = hex_digits (b ∷ bytes)

abbrev pub kind_word : Kind → List ℕ
kind_word Stream = codes "stream"
kind_word Listener = codes "listener"
kind_word Source = codes "source"
kind_word Sink = codes "sink"
kind_word Datagram = codes "datagram"

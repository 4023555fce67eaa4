-- The values of the options that `clap` finds. No public contract cites this file.
use Rattle.std.specs.Prelude.{◌≡◌, ◌≢◌, false, Option, Some, IfSome, List, [], codes, slice_index}
use Rattle.std.specs.Borrow.{Bor}
use Rattle.std.specs.List.{list_any}
use Rattle.std.specs.Option.{option_map}
use Rattle.std.specs.Str.{bytes_eq}
use Rattle.clap.specs.Words.{App, HasMatchesOf, fault_of, first_value}
use Rattle.clap.specs.declared.parser.matches.ArgMatches.{ArgMatches}
use Rattle.clap.specs.declared.parser.matches.Found.{Found}
use Rattle.nio_command.specs.Options.{Text}
use Rattle.nio_command.specs.Values.{PacketValues, ProxyValues}
use Rattle.nio_command.specs.declared.packet_options.PacketTexts.{PacketTexts}
use Rattle.nio_command.specs.declared.proxy_options.ProxyTexts.{ProxyTexts}

-- no word is `--`
abbrev pub NoDashes : List Text → Type 0
NoDashes words = list_any (λ w. bytes_eq w (codes "--")) words ≡ false

-- `clap` found this in the words, without a fault
pub record IsParse (app : App) (words : List Text) (m : ArgMatches) : Type 0 where
  pub no_dashes : NoDashes words
  pub no_fault : fault_of app words ≡ []
  pub matches : HasMatchesOf app words m

-- what a text is, where there is one
abbrev pub text_of : Option (Bor Text) → Option Text
text_of = option_map (λ t. t.now)

-- the values as the definitions have them
abbrev pub packet_texts_of : PacketTexts → PacketValues
packet_texts_of t = record {
  listen = t.listen.now;
  local = t.local.now;
  target = t.target.now;
  count = t.count.now;
}

abbrev pub texts_of : ProxyTexts → ProxyValues
texts_of t = record {
  way = t.way.now;
  listen = t.listen.now;
  target = t.target.now;
  conns = t.conns.now;
  workers = text_of t.workers;
}

-- the text doesn't begin with a hyphen (45)
abbrev pub IsNoOption : Text → Type 0
IsNoOption text = slice_index text 0 ≢ 45

-- no value begins with a hyphen
pub record AreNoOptions (v : ProxyValues) : Type 0 where
  pub way : IsNoOption v.way
  pub listen : IsNoOption v.listen
  pub target : IsNoOption v.target
  pub conns : IsNoOption v.conns
  pub workers : IfSome v.workers IsNoOption

-- no value begins with a hyphen
pub record AreNoPacketOptions (v : PacketValues) : Type 0 where
  pub listen : IsNoOption v.listen
  pub local : IsNoOption v.local
  pub target : IsNoOption v.target
  pub count : IsNoOption v.count

-- `clap` found these values
pub record FindsValues (found : Found) (v : ProxyValues) : Type 0 where
  pub way : first_value found (codes "way") ≡ Some v.way
  pub listen : first_value found (codes "listen") ≡ Some v.listen
  pub target : first_value found (codes "target") ≡ Some v.target
  pub conns : first_value found (codes "conns") ≡ Some v.conns
  pub workers : first_value found (codes "workers") ≡ v.workers

-- `clap` found these values
pub record FindsPacketValues (found : Found) (v : PacketValues) : Type 0 where
  pub listen : first_value found (codes "listen") ≡ Some v.listen
  pub local : first_value found (codes "local") ≡ Some v.local
  pub target : first_value found (codes "target") ≡ Some v.target
  pub count : first_value found (codes "count") ≡ Some v.count

-- The options of `proxy` and of `packets`, and how an address is written.
use Rattle.std.specs.Prelude.{◌≡◌, ◌≤◌, List, [], ◌∷◌, ◌++◌, All, Option, Some, None, length, codes}
use Rattle.std.specs.Fmt.{decimal}
use Rattle.std.specs.Net.Text.{ipv4_text}
use Rattle.nio_command.specs.Options.{Text}
use Rattle.nio_base.specs.declared.numbers.Addr.{Addr}

-- four numbers from 0 to 255, and a port from 1 to 65,535
pub record IsAddress (a : Addr) : Type 0 where
  pub four : length a.ip ≡ 4
  pub parts : All (λ part. part ≤ 255) a.ip
  pub some_port : 1 ≤ a.port
  pub port : a.port ≤ 65535

-- an address as text: its four numbers joined by dots, a colon, and the port
abbrev pub address_text : Addr → Text
address_text a = ipv4_text a.ip ++ codes ":" ++ decimal a.port

-- the values of the options of `proxy`, as texts; that of `--workers` only where it is given
pub record ProxyValues : Type 0 where
  pub way : Text
  pub listen : Text
  pub target : Text
  pub conns : Text
  pub workers : Option Text

-- the option `--workers`, where it is given
abbrev pub workers_option : Option Text → List (Text × Text)
workers_option None = []
workers_option (Some workers) = (codes "workers", workers) ∷ []

-- the options of `proxy`, each a name and its value
abbrev pub proxy_options : ProxyValues → List (Text × Text)
proxy_options v =
    (codes "way", v.way)
    ∷ (codes "listen", v.listen)
    ∷ (codes "target", v.target)
    ∷ (codes "conns", v.conns)
    ∷ workers_option v.workers

-- the values of the options of `packets`, as texts
pub record PacketValues : Type 0 where
  pub listen : Text
  pub local : Text
  pub target : Text
  pub count : Text

-- the options of `packets`, each a name and its value
abbrev pub packet_options : PacketValues → List (Text × Text)
packet_options v =
    (codes "listen", v.listen)
    ∷ (codes "local", v.local)
    ∷ (codes "target", v.target)
    ∷ (codes "count", v.count)
    ∷ []

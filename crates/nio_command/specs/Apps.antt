-- The options of `proxy` and of `packets`, as they are described to `clap`. No public contract cites this file.
use Rattle.std.specs.Prelude.{Bool, true, false, Some, codes}
use Rattle.clap.specs.Walk.{Rule, Text}
use Rattle.clap.specs.Simple.{App, Shape, new_app, new_rule, on_top, with_rule}

-- an option with this name, which is required or may be left out
abbrev pub added_rule : Text → Bool → Rule
added_rule name needed = record (new_rule name) { long = Some name; required = needed }

-- the words don't begin with a program's name, and there is no option for help
abbrev pub settings : Shape → Shape
settings s = record s { no_binary_name = true; disable_help_flag = true }

-- before there are options
abbrev pub no_options : App
no_options = on_top settings (new_app (codes "nio"))

-- with one option more
abbrev pub with_option : App → Text → Bool → App
with_option app name needed = with_rule app (added_rule name needed)

-- four required options, and `--workers`
abbrev pub proxy_app : App
proxy_app = with_option
    (with_option
    (with_option
    (with_option
    (with_option no_options (codes "way") true)
    (codes "listen") true)
    (codes "target") true)
    (codes "conns") true)
    (codes "workers") false

-- four required options
abbrev pub packets_app : App
packets_app = with_option
    (with_option
    (with_option
    (with_option no_options (codes "listen") true)
    (codes "local") true)
    (codes "target") true)
    (codes "count") true

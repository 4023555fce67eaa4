-- The built commands that read the options of `proxy` and of `packets`.
use Rattle.std.proofs.Common.{◌≡◌, refl, Bool, true, not, List, [], ◌∷◌, codes, map}
use Rattle.std.specs.Str.{bytes_eq}
use Rattle.clap.specs.Walk.{Rule, Text}
use Rattle.clap.specs.Simple.{App, Shape, argument_words, built, filled, is_simple, new_shape}
use Rattle.clap.specs.Faults.{is_simple_and_free}
use Rattle.clap.proofs.OnLiterals.{clap_on_literals}
use Rattle.nio_command.specs.Apps.{added_rule, packets_app, proxy_app, settings}

-- whether an option is required: all but `--workers` are
abbrev pub is_required : Text → Bool
is_required name = not (bytes_eq name (codes "workers"))

-- an option as it is built
abbrev pub option_rule : Text → Rule
option_rule name = filled (added_rule name (is_required name))

abbrev pub proxy_names : List Text
proxy_names = codes "way" ∷ codes "listen" ∷ codes "target" ∷ codes "conns" ∷ codes "workers" ∷ []

abbrev pub packets_names : List Text
packets_names = codes "listen" ∷ codes "local" ∷ codes "target" ∷ codes "count" ∷ []

-- a built command whose arguments are options of these names
abbrev pub shape : List Text → Shape
shape names = record (settings (new_shape (codes "nio"))) {
  rules = map option_rule names;
  disable_help_subcommand = true;
  is_built = true;
}

-- the command is built with options of these names, and no rule stands between them
pub record IsTable (app : App) (names : List Text) : Type 0 where
  pub top : (built app).top ≡ shape names
  pub subs : (built app).subs ≡ []
  pub words : (words : List Text) → argument_words app words ≡ words
  pub simple : is_simple app ≡ true
  pub free : is_simple_and_free app ≡ true

pub proxy_table : IsTable proxy_app proxy_names
unfolding clap_on_literals
proxy_table = record { top = refl; subs = refl; words = λ _. refl; simple = refl; free = refl }

pub packets_table : IsTable packets_app packets_names
unfolding clap_on_literals
packets_table = record { top = refl; subs = refl; words = λ _. refl; simple = refl; free = refl }

-- The words of the command line.
use Rattle.std.specs.Prelude.{◌≡◌, List, ◌∷◌, [], ◌++◌, ℕ, codes}
use Rattle.nio_bytes.specs.declared.sink.Sink as sink
use Rattle.nio_script.specs.Output.{WritesOrFails}
use Rattle.nio_words.specs.declared.words.Pass.{Pass}

-- the usage line, which is written where the words are no command
abbrev pub usage_line : List ℕ
usage_line =
    codes "usage: nio script | check | check-1 | race | proxy --way select|group|future|many --listen ADDR "
    ++ codes "--target ADDR --conns N [--workers W] | load N | packets --listen ADDR --local ADDR --target ADDR "
    ++ codes "--count N | timed"
    ++ 10 ∷ []

-- The usage was said, nothing was read, and no step was made.
pub record IsUsage {S K : Type 0} (k : sink.Ghosts K) (input input' : S) (output output' : K)
    (pass pass' : Pass) : Type 0 where
  pub said : WritesOrFails k output output' usage_line
  pub unread : input' ≡ input
  pub uncalled : pass' ≡ pass

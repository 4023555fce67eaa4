use Rattle.nio_words.proofs.words.Words.perform.Given as goal
use Rattle.nio_words.specs.Telling.{any_step}

abbrev pub ghosts-load : goal.ghosts-load
ghosts-load g a = record { then = λ _ before found after. g.M.Play.then any_step before found after }

abbrev pub ghosts-fetch_or : goal.ghosts-fetch_or
ghosts-fetch_or g a = record { then = λ _ before found after. g.M.Play.then any_step before found after }

abbrev pub ghosts-fetch_and : goal.ghosts-fetch_and
ghosts-fetch_and g a = record { then = λ _ before found after. g.M.Play.then any_step before found after }

abbrev pub ghosts-fetch_max : goal.ghosts-fetch_max
ghosts-fetch_max g a = record { then = λ _ before found after. g.M.Play.then any_step before found after }

abbrev pub ghosts-swap : goal.ghosts-swap
ghosts-swap g a = record { then = λ _ before found after. g.M.Play.then any_step before found after }

abbrev pub ghosts-compare_exchange : goal.ghosts-compare_exchange
ghosts-compare_exchange g a = record { then = λ _ before found after. g.M.Play.then any_step before found after }

abbrev pub ghosts-fetch_add : goal.ghosts-fetch_add
ghosts-fetch_add g a = record { then = λ _ before found after. g.M.Play.then any_step before found after }

abbrev pub ghosts-fetch_sub : goal.ghosts-fetch_sub
ghosts-fetch_sub g a = record { then = λ _ before found after. g.M.Play.then any_step before found after }

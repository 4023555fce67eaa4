-- Removing keys from every set. A selection removes cancelled keys, and the end of a selector's closing
-- removes all.
use Rattle.std.specs.Prelude.{ℕ, ◌==◌, nat_lt, Bool, true, false, ◌&&◌, ◌||◌, if◌then◌else◌}
use Rattle.nio_base.specs.Numbers.{last_serial}
use Rattle.nio_history.specs.State.{State}
use Rattle.nio_history.specs.declared.found.Mark.{Mark}
use Rattle.nio_history.specs.declared.found.Stage.{Stage}
use Rattle.nio_plain.specs.declared.rules.Rules.{Rules}
use Rattle.nio_plain.specs.declared.rules.Rules.TheVariants.{First, Now}

abbrev pub removed_key : Stage → Stage
removed_key k = record k { removed = true; cancelled = false }

abbrev pub unselected : Mark → Mark
unselected m = record m { selected = false }

-- THE TWO RULES DIFFER HERE: under the rules of now the index of a key that a selection removes
-- becomes free, unless the key's serial is the last; under the first rules no index ever becomes free.
-- A registration takes the least free index, so that under the first rules each new key has a new index.
abbrev pub comes_back : Rules → Stage → Bool
comes_back First k = false
comes_back Now k = nat_lt k.serial last_serial

-- the keys of the selector that pass the test are removed; the index of one that frees becomes free
abbrev pub without_keys_where : State → ℕ → (ℕ → Bool) → (Stage → Bool) → State
without_keys_where st s test frees =
    let goes : ℕ → ℕ → Bool = λ t i. (t == s) && test i in
    record st {
      key = λ t i. if goes t i then removed_key (st.key t i) else st.key t i;
      mark = λ t i. if goes t i then unselected (st.mark t i) else st.mark t i;
      free = λ t i. (goes t i && frees (st.key t i)) || st.free t i;
    }

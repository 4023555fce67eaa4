-- The script that `load` runs, as text.
use Rattle.std.specs.Prelude.{ℕ, zero, suc, ◌+◌, ◌*◌, ◌/◌, ◌%◌, ◌==◌, List, [], ◌∷◌, ◌++◌, codes, if◌then◌else◌}
use Rattle.std.specs.Fmt.{decimal}
use Rattle.std.specs.List.{flat_map, range_with_len}

-- lines as text, a newline behind each
abbrev pub text_of : List (List ℕ) → List ℕ
text_of lines = flat_map (λ line. line ++ 10 ∷ []) lines

-- the lines of each number below n
unfoldable pub lines_below : ℕ → (ℕ → List (List ℕ)) → List (List ℕ)
lines_below n lines = flat_map lines (range_with_len 0 n)

-- channel number c is opened, set to non-blocking mode and registered
abbrev pub channel_lines : ℕ → List (List ℕ)
channel_lines c =
    codes "t1 channel source"
    ∷ (codes "t1 blocking c" ++ decimal c ++ codes " off")
    ∷ (codes "t1 register s0 c" ++ decimal c ++ codes " 1")
    ∷ []

-- the pseudo-random number after so many rounds, of a linear congruential generator
unfoldable pub number_after : ℕ → ℕ
number_after zero = 1
number_after (suc r) = (number_after r * 1103515245 + 12345) % 2147483648

-- the index of the key of round r; rounds are counted from 0
abbrev pub key_of_round : ℕ → ℕ
key_of_round r = number_after (r + 1) / 65536 % 64

-- a wakeup, in a round whose number is a multiple of 8
abbrev pub wakeup_lines : ℕ → List (List ℕ)
wakeup_lines r = if r % 8 == 0 then codes "t2 wakeup s0" ∷ [] else []

-- a selection that is told this key, which is then unselected
abbrev pub selection_lines : ℕ → List (List ℕ)
selection_lines k =
    codes "t1 begin s0 now"
    ∷ (codes "t1 told s0 k" ++ decimal k ++ codes ":1")
    ∷ (codes "t1 unselect s0 k" ++ decimal k)
    ∷ []

abbrev pub round_lines : ℕ → List (List ℕ)
round_lines r = wakeup_lines r ++ selection_lines (key_of_round r)

-- a selector, 64 channels, and so many rounds
abbrev pub generated_lines : ℕ → List (List ℕ)
generated_lines rounds =
    codes "t1 selector" ∷ (lines_below 64 channel_lines ++ lines_below rounds round_lines)

-- the generated script of so many rounds
abbrev pub generated : ℕ → List ℕ
generated rounds = text_of (generated_lines rounds)

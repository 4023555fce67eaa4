-- Where the word of each part of the state stands. The words stand in rows, one row for each sort of
-- part, in this order; in a row they stand in rising order of their numbers, pairs by the first number
-- and then by the second. The second row is one word that belongs to no part and holds the limits.
use Rattle.std.specs.Prelude.{ℕ, ◌+◌, ◌*◌, ◌/◌, ◌<◌, List, [], ◌∷◌, take, ⊤}
use Rattle.nio_base.specs.declared.limits.Limits.{Limits}
use Rattle.nio_words.specs.declared.part.Part.{Part}
use Rattle.nio_words.specs.declared.part.Part.TheVariants.{Callers, Interrupts, Selectors, ChannelsHigh, Chan, Hold}
use Rattle.nio_words.specs.declared.part.Part.TheVariants.{Enrolled, Gate, Turn, KeysHigh, Key, Interest, Mark, Note}
use Rattle.nio_words.specs.declared.part.Part.TheVariants.{Free, Touched, Lister}

-- how many words a selector's free indexes have, and how many its touched ones, 64 indexes each
abbrev pub free_words : Limits → ℕ
free_words l = (l.keys + 63) / 64

-- how many words each row has
abbrev pub rows : Limits → List ℕ
rows l =
    1  -- callers
    ∷ 1  -- the limits
    ∷ 1  -- interrupted callers
    ∷ 1  -- selectors
    ∷ 1  -- the channels' high-water mark
    ∷ l.channels  -- channels
    ∷ l.channels  -- their holders
    ∷ (l.channels * l.selectors)  -- enrolled keys
    ∷ l.selectors  -- gates
    ∷ l.selectors  -- turns
    ∷ l.selectors  -- keys' high-water marks
    ∷ (l.selectors * l.keys)  -- keys
    ∷ (l.selectors * l.keys)  -- their interest sets
    ∷ (l.selectors * l.keys)  -- their marks
    ∷ (l.selectors * l.keys)  -- their attachments
    ∷ (l.selectors * free_words l)  -- free indexes
    ∷ (l.selectors * free_words l)  -- touched indexes
    ∷ l.selectors  -- who has the lists
    ∷ []

-- in which row a part's word stands
abbrev pub row : Part → ℕ
row Callers = 0
row Interrupts = 2
row Selectors = 3
row ChannelsHigh = 4
row (Chan c) = 5
row (Hold c) = 6
row (Enrolled c s) = 7
row (Gate s) = 8
row (Turn s) = 9
row (KeysHigh s) = 10
row (Key s i) = 11
row (Interest s i) = 12
row (Mark s i) = 13
row (Note s i) = 14
row (Free s j) = 15
row (Touched s j) = 16
row (Lister s) = 17

-- and where in that row
abbrev pub column : Limits → Part → ℕ
column l Callers = 0
column l Interrupts = 0
column l Selectors = 0
column l ChannelsHigh = 0
column l (Chan c) = c
column l (Hold c) = c
column l (Enrolled c s) = c * l.selectors + s
column l (Gate s) = s
column l (Turn s) = s
column l (KeysHigh s) = s
column l (Key s i) = s * l.keys + i
column l (Interest s i) = s * l.keys + i
column l (Mark s i) = s * l.keys + i
column l (Note s i) = s * l.keys + i
column l (Free s j) = s * free_words l + j
column l (Touched s j) = s * free_words l + j
column l (Lister s) = s

-- its numbers are below the limits
abbrev pub IsWithin : Limits → Part → Type 0
IsWithin l Callers = ⊤
IsWithin l Interrupts = ⊤
IsWithin l Selectors = ⊤
IsWithin l ChannelsHigh = ⊤
IsWithin l (Chan c) = c < l.channels
IsWithin l (Hold c) = c < l.channels
IsWithin l (Enrolled c s) = (c < l.channels) × (s < l.selectors)
IsWithin l (Gate s) = s < l.selectors
IsWithin l (Turn s) = s < l.selectors
IsWithin l (KeysHigh s) = s < l.selectors
IsWithin l (Key s i) = (s < l.selectors) × (i < l.keys)
IsWithin l (Interest s i) = (s < l.selectors) × (i < l.keys)
IsWithin l (Mark s i) = (s < l.selectors) × (i < l.keys)
IsWithin l (Note s i) = (s < l.selectors) × (i < l.keys)
IsWithin l (Free s j) = (s < l.selectors) × (j < free_words l)
IsWithin l (Touched s j) = (s < l.selectors) × (j < free_words l)
IsWithin l (Lister s) = s < l.selectors

-- how many words some rows have together
abbrev pub total : List ℕ → ℕ
total [] = 0
total (n ∷ ns) = n + total ns

abbrev pub word_count : Limits → ℕ
word_count l = total (rows l)

-- the place of a part's word: behind all words of the rows before its own
abbrev pub place : Limits → Part → ℕ
place l p = total (take (row p) (rows l)) + column l p

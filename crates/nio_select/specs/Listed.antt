-- What the calls that list a selector's keys answer.
use Rattle.std.specs.Prelude.{Result, Ok, Err}

-- the same result, with this view of its value
abbrev pub ok_seen : {A B E : Type 0} → (A → B) → Result A E → Result B E
ok_seen view (Ok value) = Ok (view value)
ok_seen view (Err error) = Err error

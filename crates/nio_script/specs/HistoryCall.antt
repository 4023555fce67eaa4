-- What a parsed line of a history says.
use Rattle.nio_script.specs.History.{Entry}
use Rattle.nio_script.specs.declared.history.HistoryCall.{HistoryCall}

-- the entry that a parsed line is
abbrev pub entry_of : HistoryCall → Entry
entry_of c = record { line = c.line; reply = c.reply.now }

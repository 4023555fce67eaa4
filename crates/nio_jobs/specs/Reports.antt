-- What is reported of calls on the net.
use Rattle.std.specs.Prelude.{Bool, true, false, Result, Ok, Err}
use Rattle.nio_base.specs.declared.numbers.ChanId.{ChanId}
use Rattle.nio_base.specs.declared.numbers.OpNo.{OpNo}
use Rattle.nio_base.specs.declared.group.OpKind.{OpKind}
use Rattle.nio_base.specs.declared.group.OpKind.TheVariants.{Read, Write}
use Rattle.nio_base.specs.declared.group.Outcome.{Outcome}
use Rattle.nio_base.specs.declared.group.Outcome.TheVariants as outcome
use Rattle.nio_link.specs.declared.net.Failed.{Failed}
use Rattle.nio_link.specs.declared.net.Got.{Got}
use Rattle.nio_link.specs.declared.net.Got.TheVariants as got
use Rattle.nio_link.specs.declared.net.Put.{Put}
use Rattle.nio_link.specs.declared.net.Put.TheVariants as put
use Rattle.nio_jobs.specs.declared.exchange.Done.{Done}
use Rattle.nio_jobs.specs.declared.exchange.Done.TheVariants as done

-- what is reported of an operation's call that makes a link, that reads or that writes
abbrev pub done_of_made : OpNo → ChanId → OpKind → Outcome → Result Bool Failed → Done
done_of_made op chan kind made (Ok true) = done.Outcome op made
done_of_made op chan kind made (Ok false) = done.Again chan kind
done_of_made op chan kind made (Err failed) = done.Outcome op outcome.Fault

abbrev pub done_of_read : OpNo → ChanId → Result Got Failed → Done
done_of_read op chan (Ok (got.Bytes n)) = done.Outcome op (outcome.Count n)
done_of_read op chan (Ok got.End) = done.Outcome op outcome.End
done_of_read op chan (Ok got.NotYet) = done.Again chan Read
done_of_read op chan (Err failed) = done.Outcome op outcome.Fault

abbrev pub done_of_written : OpNo → ChanId → Result Put Failed → Done
done_of_written op chan (Ok (put.Bytes n)) = done.Outcome op (outcome.Count n)
done_of_written op chan (Ok put.NotYet) = done.Again chan Write
done_of_written op chan (Err failed) = done.Outcome op outcome.Fault

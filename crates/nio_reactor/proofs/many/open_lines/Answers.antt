use Rattle.std.proofs.Common.{◌≡◌, [], arith}
use Rattle.nio_serve.proofs.Watching.{longer}
use Rattle.nio_reactor.proofs.Lists.{all_more, pushed_same}
use Rattle.nio_reactor.proofs.many.open_lines.Goals as goal

pub loop-preserved : goal.loop-preserved
loop-preserved g c =
    let more_in = longer c.loop.entries.items c.push.new.self.items c.in_ok-entry.entry c.in_ok-push.ensures.items in
    let more_out
    = longer c.loop.exits.items c.push-in-loop.new.self.items c.in_ok-entry.exit c.in_ok-push-2.ensures.items in
    record {
      entries = omega (arith, more_in, c.loop.invariant.entries);
      exits = omega (arith, more_out, c.loop.invariant.exits);
      lines = pushed_same (λ e. e.line) (λ e. e.line) c.loop.entries.items c.push.new.self.items c.loop.exits.items
          c.push-in-loop.new.self.items c.in_ok-entry.entry c.in_ok-entry.exit c.loop.invariant.lines
          c.in_ok-entry.ensures.line c.in_ok-push.ensures.items c.in_ok-push-2.ensures.items;
      sent = all_more (λ e. e.carried ≡ []) c.loop.entries.items c.push.new.self.items c.in_ok-entry.entry
          c.in_ok-push.ensures.items c.loop.invariant.sent c.in_ok-entry.ensures.sent;
      received = all_more (λ e. e.carried ≡ []) c.loop.exits.items c.push-in-loop.new.self.items c.in_ok-entry.exit
          c.in_ok-push-2.ensures.items c.loop.invariant.received c.in_ok-entry.ensures.received;
    }

use Rattle.std.proofs.Common.{◌≡◌, ◌++◌, [], length, ap, sym, ◌∙◌, subst, arith}
use mathlib.Core.List.{IsPrefix}
use Rattle.nio_pipe.specs.Ends.{received, known, sent, is_sealed}
use Rattle.nio_pipe.specs.Pipe.{waiting}
use Rattle.nio_pipe.proofs.KeptLemmas.{waiting-items}
use Rattle.nio_pipe.proofs.held.HeldPipe.part.Goals as goal

-- what was taken over is what waited
taken_over : (c : goal.After-drop-buffer) → sent c.take_over.new.self ≡ waiting c.args.self
taken_over c =
    let h = c.self.inside in
    c.take_over.ensures.sent
    ∙ (c.as_slices.ensures
    ∙ (sym (waiting-items h.sent h.received h.buffer c.self.invariant) ∙ ap waiting c.self.view_is))

none_read : (c : goal.After-drop-buffer) → received c.beside.new.self ≡ []
none_read c = c.beside.ensures.source.received ∙ c.ends-source.ensures.ends.none_received

sealed : (c : goal.After-drop-buffer) → is_sealed c.beside.new.sink ≡ c.args.self.sealed
sealed c = c.beside.ensures.sink.seal ∙ (c.take_over.ensures.seal ∙ ap (λ pipe. pipe.sealed) c.self.view_is)

pub returns-clause-parts : goal.returns-clause-parts
returns-clause-parts c =
    let look = c.look_beside.ensures in
    let all : known c.beside.new.self ≡ waiting c.args.self =
    ap (λ xs. xs ++ known c.beside.new.self) (sym (none_read c))
    ∙ (c.beside.ensures.whole ∙ (c.beside.ensures.sink.sent ∙ taken_over c)) in
    let whole : sent c.look_beside.new.self ≡ waiting c.args.self = look.sink.sent
    ∙ (c.beside.ensures.sink.sent ∙ taken_over c) in
    let none : received c.look_beside.new.source ≡ [] = look.source.received ∙ none_read c in
    record {
      ends = look.ends;
      source_channel = look.source.same.channel
          ∙ (c.beside.ensures.source.same.channel
          ∙ (c.ends-source.ensures.source ∙ ap (λ pipe. pipe.source) c.self.view_is));
      sink_channel = look.sink.same.channel
          ∙ (c.beside.ensures.sink.same.channel
          ∙ (c.take_over.ensures.same.channel
          ∙ (c.ends-source.ensures.sink ∙ ap (λ pipe. pipe.sink) c.self.view_is)));
      all_sent = whole;
      none_received = none;
      all_known = subst (λ xs. IsPrefix xs (known c.look_beside.new.source)) all look.source.known;
      seal_left = look.sink.seal ∙ sealed c;
      seal_known = look.end ∙ (c.beside.ensures.end ∙ sealed c);
      room = λ unsealed. omega
          (arith, look.free (look.sink.seal ∙ (sealed c ∙ unsealed)), ap length whole, ap length none);
    }

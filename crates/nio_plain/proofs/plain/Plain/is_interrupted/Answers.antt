use Rattle.std.proofs.Common.{false, sym, ap, ◌∙◌, get_or, arith, unwrap_or}
use Rattle.nio_plain.proofs.Places.{places-id}
use Rattle.nio_plain.proofs.plain.Plain.is_interrupted.Goals as goal

pub returns : goal.returns
returns c =
    let n = c.args.caller.0 in
    let read = c.get.ensures.lookup.4 (omega arith) false ∙ ap (λ xs. get_or xs n false) c.deref.ensures.value in
    (c.unwrap_or.ensures ∙ (ap (λ o. unwrap_or o false) c.copied.ensures ∙ read))
    ∙ sym (places-id false c.args.self.now.interrupted.items n)

-- What a direction says of the links that it relays between.
use Rattle.std.proofs.Common.{IsTrue, ◌+◌, ◌≤◌, length, ap, arith, length-drop, sym, subst, ◌∙◌}
use mathlib.Core.List.{IsPrefix}
use Rattle.nio_relay.specs.Flow.{Flow, IsLawful}
use Rattle.nio_relay.specs.Connection.{Carried, IsRelayed, IsWhole, IsFlowOf, ConnectionLaw}

flow-whole : (f : Flow) (a b : Carried) → IsLawful f → IsFlowOf f a b → IsTrue f.shut → IsWhole a b
flow-whole f a b lawful of is_shut = record {
  bytes = sym of.written ∙ lawful.shut_whole is_shut ∙ of.taken;
  ended = sym of.ended ∙ lawful.shut_after_end is_shut;
  shut = sym of.shut ∙ is_shut;
}

-- what isn't written yet is buffered
pub lawful-few : (f : Flow) → IsLawful f → length f.taken ≤ length f.written + 16384
lawful-few f lawful = omega (arith, lawful.few_buffered, length-drop (length f.written) f.taken)

flow-relayed : (f : Flow) (a b : Carried) → IsLawful f → IsFlowOf f a b → IsRelayed a b
flow-relayed f a b lawful of = record {
  in_order = subst (λ put. IsPrefix put a.got) of.written (subst (IsPrefix f.written) of.taken lawful.in_order);
  few_missing = omega (arith, lawful-few f lawful, ap length of.taken, ap length of.written);
  whole_at_shut = λ is_shut. flow-whole f a b lawful of (of.shut ∙ is_shut);
}

pub connection : ConnectionLaw
connection = record {
  relayed = flow-relayed;
  clean = λ there back client target there_lawful back_lawful of_there of_back there_shut back_shut.
      record {
        there = flow-whole there client target there_lawful of_there there_shut;
        back = flow-whole back target client back_lawful of_back back_shut;
      };
}

-- A relayed connection, by what its two links have carried.
use Rattle.std.specs.Prelude.{◌≡◌, ℕ, ◌+◌, ◌≤◌, List, length, Bool, IsTrue}
use mathlib.Core.List.{IsPrefix}
use Rattle.nio_relay.specs.Flow.{Flow, IsLawful}

-- what a link has carried: the bytes that it gave, in order, and whether they have ended; the bytes
-- that were put on it, in order, and whether that side is shut
pub record Carried : Type 0 where
  pub got : List ℕ
  pub ended : Bool
  pub put : List ℕ
  pub shut : Bool

-- a has ended, all that it gave was put on b, and b is shut
pub record IsWhole (a b : Carried) : Type 0 where
  pub bytes : b.put ≡ a.got
  pub ended : IsTrue a.ended
  pub shut : IsTrue b.shut

-- what was put on b is a prefix of what a gave, and at most 16,384 bytes of that are missing; where b
-- is shut, none is, and a has ended
pub record IsRelayed (a b : Carried) : Type 0 where
  pub in_order : IsPrefix b.put a.got
  pub few_missing : length a.got ≤ length b.put + 16384
  pub whole_at_shut : IsTrue b.shut → IsWhole a b

-- all of it was relayed, in both directions
pub record IsClean (client target : Carried) : Type 0 where
  pub there : IsWhole client target
  pub back : IsWhole target client

-- the direction from a to b took what a gave and wrote what was put on b
pub record IsFlowOf (f : Flow) (a b : Carried) : Type 0 where
  pub taken : f.taken ≡ a.got
  pub written : f.written ≡ b.put
  pub ended : f.ended ≡ a.ended
  pub shut : f.shut ≡ b.shut

-- at any time a direction has relayed its bytes but for the few that it buffers, and once it is shut
-- all of them; so a connection with both directions shut is clean
pub record ConnectionLaw : Type 0 where
  pub relayed : (f : Flow) (a b : Carried) → IsLawful f → IsFlowOf f a b → IsRelayed a b
  pub clean : (there back : Flow) (client target : Carried) → IsLawful there → IsLawful back
      → IsFlowOf there client target → IsFlowOf back target client
      → IsTrue there.shut → IsTrue back.shut → IsClean client target

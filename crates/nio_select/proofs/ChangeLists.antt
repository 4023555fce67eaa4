-- What a list of changes has, once it took note of some.
use Rattle.std.proofs.Common.{◌≡◌, ℕ, suc, ◌+◌, ◌-◌, ◌^◌, ◌≤◌, ◌<◌, Bool, true, false, if◌then◌else◌, List, [], ◌∷◌, ◌++◌, length, take}
use Rattle.std.proofs.Common.{refl, ap, sym, ◌∙◌, append_assoc, length-append, arith}
use Rattle.std.specs.Prelude.{fold, min, nat_lt}
use Rattle.std.proofs.lemmas.Bool.{ltb-true, ltb-false}
use Rattle.std.proofs.Math.Seq.{take-nil}
use Rattle.std.proofs.lemmas.List.{append-nil}
use Rattle.nio_select.specs.ChangeLists.{ChangesAreListed, ListedChanges, with_change}
use Rattle.nio_select.specs.declared.changes.KeyChange.{KeyChange}

-- so many are counted
abbrev counted : ℕ → ℕ
counted n = min n (2 ^ 64 - 1)

-- a list with these changes, of which it counts so many
abbrev holding : ℕ → List KeyChange → ℕ → ListedChanges
holding room had n = record { changes = had; room = room; count = counted n }

-- what fits of later changes
one_fits : (room : ℕ) (had later : List KeyChange) (change : KeyChange) → length had < room
    → (had ++ change ∷ []) ++ take (room - length (had ++ change ∷ [])) later ≡ had ++ take (room - length had) (change ∷ later)
one_fits room had later change fits =
    let left : room - length had ≡ suc (room - length (had ++ change ∷ [])) =
    omega (arith, length-append had (change ∷ [])) in
    append_assoc had (change ∷ []) (take (room - length (had ++ change ∷ [])) later)
    ∙ ap (λ (n : ℕ). had ++ take n (change ∷ later)) (sym left)

none_fits : (room : ℕ) (had later : List KeyChange) → room ≤ length had → had ++ take (room - length had) later ≡ had
none_fits room had later full =
    let left : room - length had ≡ 0 = omega arith in
    ap (λ (n : ℕ). had ++ take n later) left ∙ append-nil had

lists : (room : ℕ) (changes had : List KeyChange) (n : ℕ) → fold with_change (holding room had n) changes
    ≡ holding room (had ++ take (room - length had) changes) (n + length changes)
lists room [] had n =
    ap (λ (x : List KeyChange). holding room x n)
    (sym (ap (λ (x : List KeyChange). had ++ x) (take-nil (room - length had)) ∙ append-nil had))
    ∙ ap (λ (k : ℕ). holding room (had ++ take (room - length had) []) k) (omega arith)
lists room (change ∷ later) had n =
    by_room (nat_lt (length had) room) refl (lists room later (had ++ change ∷ []) (n + 1)) (lists room later had (n + 1))
  where
    -- one more is counted
    once : min (counted n + 1) (2 ^ 64 - 1) ≡ counted (n + 1)
    once = omega arith

    all : counted (n + 1 + length later) ≡ counted (n + suc (length later))
    all = ap counted (omega arith)

    by_room : (b : Bool) → nat_lt (length had) room ≡ b
        → fold with_change (holding room (had ++ change ∷ []) (n + 1)) later
        ≡ holding room ((had ++ change ∷ []) ++ take (room - length (had ++ change ∷ [])) later) (n + 1 + length later)
        → fold with_change (holding room had (n + 1)) later
        ≡ holding room (had ++ take (room - length had) later) (n + 1 + length later)
        → fold with_change (record {
          changes = (if b then had ++ change ∷ [] else had);
          room = room;
          count = min (counted n + 1) (2 ^ 64 - 1);
        }) later
        ≡ holding room (had ++ take (room - length had) (change ∷ later)) (n + suc (length later))
    by_room true fits one_more no_more =
        ap (λ (k : ℕ). fold with_change (record { changes = had ++ change ∷ []; room = room; count = k }) later) once
        ∙ (one_more
        ∙ (ap (λ (x : List KeyChange). record { changes = x; room = room; count = counted (n + 1 + length later) })
        (one_fits room had later change (ltb-true (length had) room fits))
        ∙ ap (λ (k : ℕ). record { changes = had ++ take (room - length had) (change ∷ later); room = room; count = k }) all))
    by_room false full one_more no_more =
        let at = ltb-false (length had) room full in
        ap (λ (k : ℕ). fold with_change (record { changes = had; room = room; count = k }) later) once
        ∙ (no_more
        ∙ (ap (λ (x : List KeyChange). record { changes = x; room = room; count = counted (n + 1 + length later) })
        (none_fits room had later at ∙ sym (none_fits room had (change ∷ later) at))
        ∙ ap (λ (k : ℕ). record { changes = had ++ take (room - length had) (change ∷ later); room = room; count = k }) all))

pub changes_are_listed : ChangesAreListed
changes_are_listed room changes =
    let whole : room - 0 ≡ room = omega arith in
    let all : 0 + length changes ≡ length changes = omega arith in
    lists room changes [] 0
    ∙ (ap (λ (k : ℕ). holding room (take k changes) (0 + length changes)) whole
    ∙ ap (λ (k : ℕ). holding room (take room changes) k) all)

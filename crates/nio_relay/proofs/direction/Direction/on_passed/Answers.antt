use Rattle.std.proofs.Common.{◌≡◌, ◌++◌, ℕ, ◌-◌, ◌≤◌, List, [], min, take, drop, length, false, true, sym, ap, subst}
use Rattle.std.proofs.Common.{◌∙◌, arith, length-drop}
use Rattle.std.proofs.Math.Seq.{take-length}
use Rattle.circular_buffer.specs.Buffer.{Buffer}
use Rattle.nio_relay.specs.Flow.{Flow, buffered, takes, writes}
use Rattle.nio_relay.specs.Kept.{written_of}
use Rattle.nio_relay.proofs.KeptLemmas.{EndsWith, EndsWith-passed, buffered-items, written_passed}
use Rattle.nio_relay.proofs.direction.Direction.on_passed.Goals as goal

-- all of what is to be kept fits in an empty buffer
kept_all : (items kept bytes : List ℕ) (n count room : ℕ) → items ≡ [] → n ≤ length bytes → length bytes ≤ room
    → count ≡ min (length (take (length bytes - n) (drop n bytes))) (room - length items)
    → kept ≡ items ++ take count (take (length bytes - n) (drop n bytes)) → kept ≡ drop n bytes
kept_all items kept bytes n count room none few fit count_is kept_is =
    let rest = drop n bytes in
    let all : take (length bytes - n) rest ≡ rest
    = ap (λ (m : ℕ). take m rest) (sym (length-drop n bytes)) ∙ take-length rest in
    let many : count ≡ length rest = omega (arith, count_is, ap length all, ap length none, length-drop n bytes) in
    kept_is ∙ ap (λ xs. xs ++ take count (take (length bytes - n) rest)) none ∙ ap (take count) all
    ∙ ap (λ (m : ℕ). take m rest) many ∙ take-length rest

module _ (c : goal.After-extend) where
  none_kept : c.self.inside.buffer.items ≡ []
  none_kept =
      let d = c.self.inside in
      sym (buffered-items d.taken d.buffer.items c.self.invariant.whole)
      ∙ subst (λ (f : Flow). buffered f ≡ []) (sym c.self.view_is) c.requires.none_buffered

  fits : length c.args.bytes.now ≤ 16384
  fits = omega (arith, c.requires.bytes.fit)

  kept : c.fill_from_slice.new.self.items ≡ drop c.args.n c.args.bytes.now
  kept =
      let bytes = c.args.bytes.now in
      let items = c.self.inside.buffer.items in
      kept_all items c.fill_from_slice.new.self.items bytes c.args.n c.fill_from_slice.result 16384
      none_kept c.requires.within fits
      (c.fill_from_slice.ensures.count
      ∙ ap (λ (m : ℕ). min (length (take (length bytes - c.args.n) (drop c.args.n bytes))) (m - length items))
      c.self.invariant.capacity)
      (ap (λ (b : Buffer ℕ). b.items) c.fill_from_slice.ensures.items)

pub invariant_of-self : goal.invariant_of-self
invariant_of-self c =
    let d = c.self.inside in
    let bytes = c.args.bytes.now in
    let items = c.fill_from_slice.new.self.items in
    let open_still : d.ended ≡ false
    = ap (λ (f : Flow). f.ended) c.self.view_is ∙ c.requires.bytes.not_ended in
    record {
      whole = subst (λ xs. EndsWith xs items) (sym c.extend.ensures)
          (EndsWith-passed d.taken bytes items c.args.n c.requires.within (kept c));
      capacity = ap (λ (b : Buffer ℕ). b.capacity) c.fill_from_slice.ensures.items ∙ c.self.invariant.capacity;
      few_buffered = omega (arith, ap length (kept c), length-drop c.args.n bytes, fits c);
      shut_after_end = c.self.invariant.shut_after_end;
      shut_empty = λ is_shut. let never : false ≡ true = sym open_still ∙ c.self.invariant.shut_after_end is_shut in cc;
    }

pub returns : goal.returns
returns c =
    let d = c.self.inside in
    let bytes = c.args.bytes.now in
    let items = c.fill_from_slice.new.self.items in
    let flow : List ℕ → List ℕ → Flow
    = λ taken written. record { taken = taken; written = written; ended = d.ended; shut = d.shut; failed = d.failed } in
    ap (λ xs. flow xs (written_of xs items)) c.extend.ensures
    ∙ ap (flow (d.taken ++ bytes)) (written_passed d.taken d.buffer.items bytes items c.args.n c.self.invariant.whole
    (none_kept c) c.requires.within (kept c))
    ∙ ap (λ f. writes (takes f bytes) c.args.n) c.self.view_is

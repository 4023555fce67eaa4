-- Cores from which operations have been finished and completions taken, and passes that have put batches.
use Rattle.std.proofs.Common.{◌≡◌, ℕ, List, [], ◌∷◌, ◌++◌, map, Option, Some, None, refl, sym, ap, ◌∙◌, arith}
use Rattle.std.proofs.lemmas.List.{append_assoc, append-nil, map-append, flat_map_more}
use Rattle.std.proofs.lemmas.List.Elements.{All-push}
use mathlib.Core.List.{IsPrefix}
use Rattle.nio_base.specs.declared.numbers.OpNo.{OpNo}
use Rattle.nio_group.specs.Completion.{CompletionFields}
use Rattle.nio_group.specs.Group.{Group}
use Rattle.nio_group.specs.Run.{Call, finish, after, left_by}
use Rattle.nio_group.specs.Steps.{answer_to_take, after_take, after_finish}
use Rattle.nio_pool.specs.Batches.{Finishes, TakesInto, IsBatch, PutsBatches, numbers_in}
use Rattle.nio_pool.specs.Hands.{number}
use Rattle.nio_pool.specs.Queues.{QueueFields, PassFields, GoesOn}

-- ---- finishes

left-append : (g : Group) (calls more : List Call) → left_by g (calls ++ more) ≡ left_by (left_by g calls) more
left-append g [] more = refl
left-append g (call ∷ calls) more = left-append (after g call) calls more

pub finishes_none : (g : Group) → Finishes g g
finishes_none g = record { operations = []; leaves = refl }

pub finishes_more : (old mid new : Group) → Finishes old mid → Finishes mid new → Finishes old new
finishes_more old mid new first then =
    record {
      operations = first.operations ++ then.operations;
      leaves = then.leaves ∙ ap (λ (g : Group). left_by g (map finish then.operations)) first.leaves
          ∙ sym (left-append old (map finish first.operations) (map finish then.operations))
          ∙ ap (left_by old) (sym (map-append finish first.operations then.operations));
    }

pub finishes_one : (old mid new : Group) (op : OpNo) → Finishes old mid → new ≡ after_finish mid op.0
    → Finishes old new
finishes_one old mid new op first one =
    finishes_more old mid new first (record { operations = op ∷ []; leaves = one })

-- ---- batches

pub takes_more : (slots : List (Option CompletionFields)) (slot : Option CompletionFields) (old mid new : Group)
    → TakesInto slots old mid → slot ≡ answer_to_take mid → new ≡ after_take mid
    → TakesInto (slots ++ slot ∷ []) old new
takes_more [] slot old mid new same answer after =
    (answer ∙ ap answer_to_take same, after ∙ ap after_take same)
takes_more (first ∷ slots) slot old mid new takes answer after =
    (takes.0, takes_more slots slot (after_take old) mid new takes.1 answer after)

-- ---- puts

pub puts_none : (ns : List ℕ) → PutsBatches ns ns
puts_none ns = record { batches = []; each = λ k d below. absurd (omega arith); put = sym (append-nil ns) }

numbers-append : (slots more : List (Option CompletionFields))
    → numbers_in (slots ++ more) ≡ numbers_in slots ++ numbers_in more
numbers-append [] more = refl
numbers-append (None ∷ slots) more = numbers-append slots more
numbers-append (Some done ∷ slots) more = ap (λ (ns : List ℕ). number done ∷ ns) (numbers-append slots more)

pub numbers_some : (slots : List (Option CompletionFields)) (slot : Option CompletionFields) (done : CompletionFields)
    → slot ≡ Some done → numbers_in (slots ++ slot ∷ []) ≡ numbers_in slots ++ number done ∷ []
numbers_some slots slot done is =
    numbers-append slots (slot ∷ [])
    ∙ ap (λ (s : Option CompletionFields). numbers_in slots ++ numbers_in (s ∷ [])) is

pub numbers_same : (slots : List (Option CompletionFields)) (slot : Option CompletionFields) → slot ≡ None
    → numbers_in (slots ++ slot ∷ []) ≡ numbers_in slots
numbers_same slots slot is =
    numbers-append slots (slot ∷ [])
    ∙ ap (λ (s : Option CompletionFields). numbers_in slots ++ numbers_in (s ∷ [])) is
    ∙ append-nil (numbers_in slots)

-- the first of what is left of a list has come
pub come_more : {X : Type 0} (all come left later : List X) (x : X) → all ≡ come ++ left → left ≡ x ∷ later
    → all ≡ (come ++ x ∷ []) ++ later
come_more {X = X} all come left later x is first =
    is ∙ ap (λ (xs : List X). come ++ xs) first ∙ sym (append_assoc come (x ∷ []) later)

pub put_more : (before old mid new ns more : List ℕ) → mid ≡ old ++ before → new ≡ mid ++ more → ns ≡ before ++ more
    → new ≡ old ++ ns
put_more before old mid new ns more first then is =
    then ∙ ap (λ (xs : List ℕ). xs ++ more) first ∙ append_assoc old before more
    ∙ ap (λ (xs : List ℕ). old ++ xs) (sym is)

pub puts_same : (old mid new : List ℕ) → PutsBatches old mid → new ≡ mid → PutsBatches old new
puts_same old mid new puts same = record { batches = puts.batches; each = puts.each; put = same ∙ puts.put }

pub puts_batch : (old mid new : List ℕ) (slots : List (Option CompletionFields)) → PutsBatches old mid
    → IsBatch slots → new ≡ mid ++ numbers_in slots → PutsBatches old new
puts_batch old mid new slots puts batch put =
    record {
      batches = puts.batches ++ slots ∷ [];
      each = All-push IsBatch puts.batches slots puts.each batch;
      put = put ∙ ap (λ (ns : List ℕ). ns ++ numbers_in slots) puts.put
          ∙ flat_map_more numbers_in old puts.batches slots;
    }

further : (xs ys zs : List ℕ) → IsPrefix xs ys → IsPrefix ys zs → IsPrefix xs zs
further xs ys zs first then =
    (first.0 ++ then.0, sym (append_assoc xs first.0 then.0) ∙ ap (λ (l : List ℕ). l ++ then.0) first.1 ∙ then.1)

pub goes_further : (q : QueueFields) (old mid new : PassFields) → GoesOn q old mid → GoesOn q mid new
    → GoesOn q old new
goes_further q old mid new first then =
    record {
      pass = then.pass;
      parts = then.parts ∙ first.parts;
      put = further _ _ _ first.put then.put;
      taken = further _ _ _ first.taken then.taken;
    }

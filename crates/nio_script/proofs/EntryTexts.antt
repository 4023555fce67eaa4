-- From the parts of a line to its entry.
use Rattle.std.proofs.Common.{◌≡◌, ◌≢◌, ℕ, ◌<◌, ◌≤◌, ◌^◌, List, [], ◌∷◌, ◌++◌, Option, Some, None, Result, Ok, Err}
use Rattle.std.proofs.Common.{codes, sym, ◌∙◌, ap, subst, append_assoc, arith, All}
use Rattle.std.specs.Fmt.{decimal}
use Rattle.std.proofs.lemmas.List.Elements.{All-append, All-cons, All-nil, All-weaker}
use Rattle.std.proofs.lemmas.Option.{none-some, same_Some}
use Rattle.nio_base.specs.declared.numbers.CallerNo.{CallerNo}
use Rattle.nio_language.specs.Calls.{IsLine}
use Rattle.nio_language.specs.Reading.{Reads}
use Rattle.nio_language.specs.declared.call.Call.{Call}
use Rattle.nio_language.specs.declared.call.ScriptCall.{ScriptCall}
use Rattle.nio_language.specs.declared.parse.ParseError.{ParseError}
use Rattle.nio_language.specs.declared.parse.ParseError.TheVariants.{Memory}
use Rattle.nio_language.specs.declared.parse.Parsed.{Parsed}
use Rattle.nio_language.specs.declared.parse.Parsed.TheVariants.{Line}
use Rattle.nio_language.proofs.NameWords.{NoCut, OnlyCut, decimal_lacks}
use Rattle.nio_language.proofs.PlainTexts.{line_plain}
use Rattle.nio_plain.specs.declared.rules.Rules.{Rules}
use Rattle.nio_script.specs.Entries.{Finds}
use Rattle.nio_script.specs.History.{Entry, IsCallOf, IsEntry, call_text}
use Rattle.nio_script.proofs.EntryLemmas.{same_entry, same_line}

pub finds_none : {A : Type 0} (IsSo : A → Type 0) (answer : Option A) → answer ≡ None → ((x : A) → IsSo x → ⊥)
    → Finds IsSo answer
finds_none IsSo answer nothing none =
    subst (Finds IsSo) (sym nothing) (record { found = tt; only = λ x so. absurd (none x so) })

-- a number, and what stands behind it
module _ (text : List ℕ) (number : ℕ) (small : number < 2 ^ 64) where
  abbrev pub StandsBehind : List ℕ → Type 0
  StandsBehind rest = text ≡ decimal number ++ codes " " ++ rest

  lacks_space : All (λ b. b ≢ 32) (decimal number)
  lacks_space = decimal_lacks number 32 small (λ r. omega (arith, r))

  number_cut : (rest : List ℕ) → StandsBehind rest → text ≡ decimal number ++ 32 ∷ rest
  number_cut rest e = e ∙ append_assoc (decimal number) (32 ∷ []) rest

  pub not_behind_uncut : NoCut 32 text → (rest : List ℕ) → StandsBehind rest → ⊥
  not_behind_uncut none rest e = none (decimal number) rest lacks_space (number_cut rest e)

  module _ (word rest : List ℕ) (only : OnlyCut 32 text word rest) where
    pub not_behind_other : (max : ℕ) → number ≤ max → (read : Option ℕ) → Reads (λ n. n ≤ max) decimal word read
        → (read ≡ Some number → ⊥) → (xs : List ℕ) → StandsBehind xs → ⊥
    not_behind_other max most read reads other xs e =
        other (reads.only number most (only (decimal number) xs lacks_space (number_cut xs e)).0)

    pub behind_same : text ≡ word ++ 32 ∷ rest → word ≡ decimal number → Finds StandsBehind (Some rest)
    behind_same cut is = record {
      found = cut ∙ ap (λ w. w ++ 32 ∷ rest) is ∙ sym (append_assoc (decimal number) (32 ∷ []) rest);
      only = λ xs e. ap Some (only (decimal number) xs lacks_space (number_cut xs e)).1;
    }

pub lacks_arrow : (before : List ℕ) → All (λ b. b ≢ 62) before → All (λ b. b ≢ 62) (before ++ 32 ∷ 45 ∷ [])
lacks_arrow before none =
    let so = λ (b : ℕ). b ≢ 62 in
    All-append so before (32 ∷ 45 ∷ []) none
    (All-cons so 32 (45 ∷ []) (omega arith) (All-cons so 45 [] (omega arith) (All-nil so)))

-- the texts before and behind the first arrow
module _ (text before after : List ℕ) where
  arrow_cut : text ≡ before ++ codes " -> " ++ after → text ≡ (before ++ 32 ∷ 45 ∷ []) ++ 62 ∷ 32 ∷ after
  arrow_cut e =
      e ∙ append_assoc before (32 ∷ 45 ∷ 62 ∷ 32 ∷ []) after
      ∙ sym (append_assoc before (32 ∷ 45 ∷ []) (62 ∷ 32 ∷ after))

  pub arrow_found : (front back : List ℕ) → text ≡ front ++ 62 ∷ back → front ≡ before ++ 32 ∷ 45 ∷ []
      → back ≡ 32 ∷ after
      → text ≡ before ++ codes " -> " ++ after
  arrow_found front back cut e f =
      cut ∙ ap (λ xs. xs ++ 62 ∷ back) e ∙ append_assoc before (32 ∷ 45 ∷ []) (62 ∷ back)
      ∙ ap (λ xs. before ++ 32 ∷ 45 ∷ 62 ∷ xs) f ∙ sym (append_assoc before (32 ∷ 45 ∷ 62 ∷ 32 ∷ []) after)

  -- where the text is cut at its first `>`
  pub arrow_parts : (front back : List ℕ) → OnlyCut 62 text front back → All (λ b. b ≢ 62) before → text ≡ before
      ++ codes " -> " ++ after
      → (front ≡ before ++ 32 ∷ 45 ∷ []) × (back ≡ 32 ∷ after)
  arrow_parts front back only none e =
      only (before ++ 32 ∷ 45 ∷ []) (32 ∷ after) (lacks_arrow before none) (arrow_cut e)

  pub arrow_uncut : NoCut 62 text → All (λ b. b ≢ 62) before → text ≡ before ++ codes " -> " ++ after → ⊥
  arrow_uncut no_cut none e = no_cut (before ++ 32 ∷ 45 ∷ []) (32 ∷ after) (lacks_arrow before none) (arrow_cut e)

-- the call that was read of a text
pub call_found : (text : List ℕ) (r : Result Parsed ParseError) (caller : CallerNo) (call : Call)
    → r ≡ Ok (Line caller call)
    → ((t : CallerNo) (k : Call) → r ≡ Ok (Line t k) → IsLine t k text)
    → ((t : CallerNo) (k : Call) → IsLine t k text → r ≢ Err Memory → r ≡ Ok (Line t k))
    → Finds (λ (line : ScriptCall). IsLine line.caller line.call text) (Some (record { caller = caller; call = call }))
call_found text r caller call e found only = record {
  found = found caller call e;
  only = λ line is.
      let same = only line.caller line.call is (λ lacks. cc) in
      let callers : caller ≡ line.caller = cc in
      let calls : call ≡ line.call = cc in
      ap Some (same_line _ line callers calls);
}

-- the texts of a line's call and reply, and the entry
module _ (rules : Rules) (number : ℕ) (line : List ℕ) where
  abbrev pub AreParts : List ℕ → List ℕ → Type 0
  AreParts call reply = line ≡ decimal number ++ codes " " ++ call ++ codes " -> " ++ reply

  pub arrowless : (e : Entry) → IsEntry rules number e line → All (λ b. b ≢ 62) (call_text e)
  arrowless e is =
      All-weaker (λ b. (b ≢ 10) × (b ≢ 62)) (λ b. b ≢ 62) (λ b both. both.1) (call_text e) (line_plain is.call)

  pub no_entry_unsplit : ((call reply : List ℕ) → All (λ b. b ≢ 62) call → AreParts call reply → ⊥) → (e : Entry)
      → IsEntry rules number e line → ⊥
  no_entry_unsplit none e is = none (call_text e) e.reply (arrowless e is) is.text

  module _ (text reply : List ℕ) (only : (call back : List ℕ) → All (λ b. b ≢ 62) call → AreParts call back
      → (text ≡ call) × (reply ≡ back)) where
    entry_parts : (e : Entry) → IsEntry rules number e line → (text ≡ call_text e) × (reply ≡ e.reply)
    entry_parts e is = only (call_text e) e.reply (arrowless e is) is.text

    called : (e : Entry) → IsEntry rules number e line → IsLine e.line.caller e.line.call text
    called e is = subst (IsLine e.line.caller e.line.call) (sym (entry_parts e is).0) is.call

    pub no_entry_uncalled : Finds (λ (c : ScriptCall). IsLine c.caller c.call text) None → (e : Entry)
        → IsEntry rules number e line → ⊥
    no_entry_uncalled read e is = none-some e.line (read.only e.line (called e is))

    -- the call that was read is that of an entry
    same_call : (c : ScriptCall) → Finds (λ (c : ScriptCall). IsLine c.caller c.call text) (Some c) → (e : Entry)
        → IsEntry rules number e line → c ≡ e.line
    same_call c read e is = same_Some c e.line (read.only e.line (called e is))

    pub no_entry_of_rules : (c : ScriptCall) → Finds (λ (c : ScriptCall). IsLine c.caller c.call text) (Some c)
        → ¬ IsCallOf rules c.call → (e : Entry) → IsEntry rules number e line → ⊥
    no_entry_of_rules c read unknown e is =
        unknown (subst (λ (c : ScriptCall). IsCallOf rules c.call) (sym (same_call c read e is)) is.of_rules)

    pub finds_entry : (c : ScriptCall) → AreParts text reply
        → Finds (λ (c : ScriptCall). IsLine c.caller c.call text) (Some c) → IsCallOf rules c.call
        → Finds (λ e. IsEntry rules number e line) (Some (record { line = c; reply = reply }))
    finds_entry c parts read known = record {
      found = record {
        call = subst (IsLine c.caller c.call) read.found.text read.found;
        of_rules = known;
        text = parts ∙ ap (λ t. decimal number ++ codes " " ++ t ++ codes " -> " ++ reply) read.found.text;
      };
      only = λ e is. ap Some (same_entry _ e (same_call c read e is) (entry_parts e is).1);
    }

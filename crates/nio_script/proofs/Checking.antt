-- What is kept while the calls of a history are made; and that a history is legal, or has one first
-- call whose reply is wrong, and not both.
use Rattle.std.proofs.Common.{◌≡◌, ◌≢◌, inl, inr, ◌⊎◌, ℕ, ◌+◌, List, [], ◌∷◌, ◌++◌, take, drop, refl, sym, ◌∙◌, ap}
use Rattle.std.proofs.Common.{subst}
use Rattle.std.proofs.lemmas.List.{map-append}
use Rattle.nio_base.specs.declared.limits.Limits.{Limits}
use Rattle.nio_language.specs.Replies.{reply_text}
use Rattle.nio_language.specs.declared.reply.Reply.{Reply}
use Rattle.nio_plain.specs.Answer.{left_from, left_by_script}
use Rattle.nio_plain.specs.ScriptState.{ScriptState, script_opening}
use Rattle.nio_plain.specs.declared.rules.Rules.{Rules}
use Rattle.nio_plain.proofs.CallLawsWakeups.{left_from-append}
use Rattle.nio_script.specs.Check.{calls_of, right_reply, IsLegalFrom, IsLegalHistory, IsFirstIllegal, IsVerdict}
use Rattle.nio_script.specs.Check.{all_right, one_wrong, EndsEntries, EndsCheckText}
use Rattle.nio_script.specs.History.{Entry}
use Rattle.nio_script.specs.Run.{left_by_call}
use Rattle.nio_script.specs.declared.status.Status.{Status}
use Rattle.nio_script.specs.declared.status.Status.TheVariants.{Done, BadScript, ReadFault, WriteFault, Memory, Illegal}
use Rattle.nio_script.proofs.FirstBreak.{IsBreak, unbroken, one_break}
use Rattle.nio_script.proofs.Lines.{IsNext, take_one_more, parts, number_of_next}

-- entries that are legal, and then more
IsLegalFrom-append : (rules : Rules) (l : Limits) (st : ScriptState) (xs ys : List Entry) → IsLegalFrom rules l st xs
    → IsLegalFrom rules l (left_from rules l st (calls_of xs)) ys → IsLegalFrom rules l st (xs ++ ys)
IsLegalFrom-append rules l st [] ys first second = second
IsLegalFrom-append rules l st (x ∷ xs) ys first second =
    (first.0, IsLegalFrom-append rules l (left_from rules l st (x.line ∷ [])) xs ys first.1 second)

-- what follows legal entries among legal ones is legal
IsLegalFrom-after : (rules : Rules) (l : Limits) (st : ScriptState) (xs ys : List Entry)
    → IsLegalFrom rules l st (xs ++ ys)
    → IsLegalFrom rules l (left_from rules l st (calls_of xs)) ys
IsLegalFrom-after rules l st [] ys legal = legal
IsLegalFrom-after rules l st (x ∷ xs) ys legal =
    IsLegalFrom-after rules l (left_from rules l st (x.line ∷ [])) xs ys legal.1

-- The first i entries are legal, and this is the state that their calls leave.
pub record IsFollowed (rules : Rules) (l : Limits) (entries : List Entry) (i : ℕ) (st : ScriptState) : Type 0 where
  pub legal : IsLegalHistory rules l (take i entries)
  pub left : st ≡ left_by_script rules l (calls_of (take i entries))

-- The system has the same rules and limits, and the next call is made on it.
module _ (rules same_rules : Rules) (l same_limits : Limits) (by_rules : same_rules ≡ rules)
    (by_limits : same_limits ≡ l) (entries : List Entry) (i : ℕ) (st : ScriptState) (e : Entry)
    (next : IsNext entries i e) (before : IsFollowed rules l entries i st) where
  by : {A : Type 0} (f : Rules → Limits → A) → f same_rules same_limits ≡ f rules l
  by f = ap (λ r. f r same_limits) by_rules ∙ ap (f rules) by_limits

  -- the next reply is right
  pub followed_more : (left : ScriptState) → e.reply ≡ reply_text (right_reply same_rules same_limits st e)
      → left ≡ left_by_call same_rules same_limits st e.line
      → IsFollowed rules l entries (i + 1) left
  followed_more left right is =
      let front = take i entries in
      let more = take_one_more next in
      let reply = right ∙ by (λ r m. reply_text (right_reply r m st e)) in
      record {
        legal =
            subst (IsLegalHistory rules l) (sym more)
            (IsLegalFrom-append rules l script_opening front (e ∷ []) before.legal
            (subst (λ s. IsLegalFrom rules l s (e ∷ [])) before.left (reply, tt)));
        left =
            is
            ∙ by (λ r m. left_by_call r m st e.line)
            ∙ ap (λ s. left_by_call rules l s e.line) before.left
            ∙ sym (left_from-append rules l script_opening (calls_of front) (e.line ∷ []))
            ∙ ap (left_from rules l script_opening) (sym (map-append (λ (x : Entry). x.line) front (e ∷ [])))
            ∙ ap (λ xs. left_by_script rules l (calls_of xs)) (sym more);
      }

  -- the next reply is wrong
  pub followed_wrong : (right : Reply) → right ≡ right_reply same_rules same_limits st e → e.reply ≢ reply_text right
      → IsFirstIllegal rules l entries (i + 1) right
  followed_wrong right is wrong = record {
    entry = e;
    before = take i entries;
    after = drop (i + 1) entries;
    parts = parts next;
    number = number_of_next next;
    legal = before.legal;
    answer = is ∙ by (λ r m. right_reply r m st e) ∙ ap (λ s. right_reply rules l s e) before.left;
    wrong = wrong;
  }

-- the first wrong call ends what is legal
break_of : (rules : Rules) (l : Limits) (entries : List Entry) (n : ℕ) (right : Reply)
    → IsFirstIllegal rules l entries n right
    → IsBreak (IsLegalHistory rules l) entries n
break_of rules l entries n right first = record {
  item = first.entry;
  before = first.before;
  after = first.after;
  parts = first.parts;
  number = first.number;
  good = first.legal;
  bad = λ rest legal.
      first.wrong ((IsLegalFrom-after rules l script_opening first.before (first.entry ∷ rest) legal).0
      ∙ ap reply_text (sym first.answer));
}

legal_not_illegal : (rules : Rules) (l : Limits) (entries : List Entry) (n : ℕ) (right : Reply)
    → IsLegalHistory rules l entries → IsFirstIllegal rules l entries n right → ⊥
legal_not_illegal rules l entries n right legal first =
    unbroken (IsLegalHistory rules l) entries n legal (break_of rules l entries n right first)

-- the verdict on legal entries
pub verdict_of_legal : {rules : Rules} {l : Limits} {entries : List Entry} {status : Status}
    → IsVerdict rules l entries status
    → IsLegalHistory rules l entries → status ≡ Done
verdict_of_legal (all_right _) legal = refl
verdict_of_legal {rules = rules} {l = l} {entries = entries} (one_wrong n right first) legal =
    absurd (legal_not_illegal rules l entries n right legal first)

-- the verdict on entries with a wrong call
pub verdict_of_illegal : {rules : Rules} {l : Limits} {entries : List Entry} {status : Status} (n : ℕ) (right : Reply)
    → IsVerdict rules l entries status → IsFirstIllegal rules l entries n right → status ≡ Illegal n
verdict_of_illegal {rules = rules} {l = l} {entries = entries} n right (all_right legal) first =
    absurd (legal_not_illegal rules l entries n right legal first)
verdict_of_illegal {rules = rules} {l = l} {entries = entries} n right (one_wrong m other x) first =
    ap Illegal
    (one_break (IsLegalHistory rules l) entries m n (break_of rules l entries m other x)
    (break_of rules l entries n right first))

-- how the check of legal entries ends
pub ends_legal : (rules : Rules) (l : Limits) (entries : List Entry) (status : Status) → IsLegalHistory rules l entries
    → (status ≡ Done) ⊎ (status ≡ WriteFault) ⊎ (status ≡ Memory) → EndsEntries rules l entries status
ends_legal rules l entries status legal (inl done) =
    inl (subst (IsVerdict rules l entries) (sym done) (all_right legal))
ends_legal rules l entries status legal (inr (inl fault)) = inr (inl (legal, fault))
ends_legal rules l entries status legal (inr (inr lacks)) = inr (inr lacks)

-- how the check of entries with a wrong call ends
pub ends_illegal : (rules : Rules) (l : Limits) (entries : List Entry) (status : Status) (n : ℕ) (right : Reply)
    → IsFirstIllegal rules l entries n right → (status ≡ Illegal n) ⊎ (status ≡ Memory)
    → EndsEntries rules l entries status
ends_illegal rules l entries status n right first (inl illegal) =
    inl (subst (IsVerdict rules l entries) (sym illegal) (one_wrong n right first))
ends_illegal rules l entries status n right first (inr lacks) = inr (inr lacks)

-- a check that ended otherwise was of legal entries
pub legal_otherwise : {rules : Rules} {l : Limits} {entries : List Entry} {status : Status}
    → EndsEntries rules l entries status
    → ((n : ℕ) → status ≢ Illegal n) → status ≢ Memory → IsLegalHistory rules l entries
legal_otherwise (inl (all_right legal)) not_illegal not_lacking = legal
legal_otherwise (inl (one_wrong n right first)) not_illegal not_lacking = absurd (not_illegal n refl)
legal_otherwise (inr (inl (legal, fault))) not_illegal not_lacking = legal
legal_otherwise (inr (inr lacks)) not_illegal not_lacking = absurd (not_lacking lacks)

-- entries that were parsed have no bad line
pub never_bad : {rules : Rules} {l : Limits} {entries : List Entry} {status : Status}
    → EndsEntries rules l entries status
    → (line : ℕ) → status ≢ BadScript line
never_bad (inl (all_right legal)) line is = cc
never_bad (inl (one_wrong n right first)) line is = cc
never_bad (inr (inl (legal, fault))) line is = cc
never_bad (inr (inr lacks)) line is = cc

pub ends_text : (rules : Rules) (l : Limits) (entries : List Entry) (status : Status)
    → EndsEntries rules l entries status → EndsCheckText status
ends_text rules l entries status (inl (all_right legal)) = tt
ends_text rules l entries status (inl (one_wrong n right first)) = tt
ends_text rules l entries status (inr (inl (legal, fault))) = subst EndsCheckText (sym fault) tt
ends_text rules l entries status (inr (inr lacks)) = subst EndsCheckText (sym lacks) tt

-- what comes of legal entries
pub of_legal : (rules : Rules) (l : Limits) (entries : List Entry) (status : Status)
    → EndsEntries rules l entries status
    → IsLegalHistory rules l entries
    → (status ≡ Done) ⊎ (status ≡ ReadFault) ⊎ (status ≡ WriteFault) ⊎ (status ≡ Memory)
of_legal rules l entries status (inl verdict) legal = inl (verdict_of_legal verdict legal)
of_legal rules l entries status (inr (inl (_, fault))) legal = inr (inr (inl fault))
of_legal rules l entries status (inr (inr lacks)) legal = inr (inr (inr lacks))

-- what comes of entries with a wrong call
pub of_illegal : (rules : Rules) (l : Limits) (entries : List Entry) (status : Status) (n : ℕ) (right : Reply)
    → EndsEntries rules l entries status → IsFirstIllegal rules l entries n right
    → (status ≡ Illegal n) ⊎ (status ≡ ReadFault) ⊎ (status ≡ Memory)
of_illegal rules l entries status n right (inl verdict) first = inl (verdict_of_illegal n right verdict first)
of_illegal rules l entries status n right (inr (inl (legal, _))) first =
    absurd (legal_not_illegal rules l entries n right legal first)
of_illegal rules l entries status n right (inr (inr lacks)) first = inr (inr lacks)

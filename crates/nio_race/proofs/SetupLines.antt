-- What a caller's lines of the setup say of a channel, and what one line more adds to that.
use Rattle.std.proofs.Common.{◌≡◌, ℕ, ◌==◌, Bool, true, false, cond, ◌||◌, ◌⊎◌, ⊎_elim, inl, inr, List, [], ◌∷◌, ◌++◌}
use Rattle.std.proofs.Common.{map, filter, flat_map, Contains, refl, sym, ap, ◌∙◌, subst}
use Rattle.std.proofs.Math.Bool.{or-false, or_assoc}
use Rattle.std.proofs.lemmas.Grind.{flat_map-append}
use Rattle.std.proofs.lemmas.List.{append-nil, map-append}
use Rattle.std.proofs.lemmas.List.Elements.{filter-append, Contains-append_cases, Contains-push_cases}
use Rattle.nio_base.specs.declared.numbers.CallerNo.{CallerNo}
use Rattle.nio_base.specs.declared.numbers.ChanId.{ChanId}
use Rattle.nio_language.specs.declared.call.Call.TheVariants as call
use Rattle.nio_language.specs.declared.call.ScriptCall.{ScriptCall}
use Rattle.nio_language.specs.declared.reply.Reply.{Reply}
use Rattle.nio_language.specs.declared.reply.Reply.TheVariants as reply
use Rattle.nio_race.specs.PipeBytes.{TellsEnd, all_read, all_written, seals_by, seals_in, leave_seal, read_by, read_in}
use Rattle.nio_race.specs.PipeBytes.{written_by, written_in}
use Rattle.nio_race.specs.Piping.{use_of}
use Rattle.nio_race_text.specs.declared.call.RaceCall.{RaceCall}
use Rattle.nio_race_text.specs.declared.call.RaceCall.TheVariants.{Script}
use Rattle.nio_steps.proofs.Lists.{contains-none}

pub none-where : {A : Type 0} (b : Bool) (x none : A) → (b ≡ true → x ≡ none) → cond b x none ≡ none
none-where true x none e = e refl
none-where false x none e = refl

pub of-none : {A : Type 0} (b : Bool) (x none : A) → x ≡ none → cond b x none ≡ none
of-none b x none e = none-where b x none (λ _. e)

-- ---- one line

abbrev pub is_by : CallerNo → ScriptCall × Reply → Bool
is_by n x = x.0.caller.0 == n.0

abbrev pub line_of : ScriptCall × Reply → RaceCall × Reply
line_of x = (Script x.0.call, x.1)

-- what it reads, what it writes, and whether it leaves the seal, where it is the caller's
abbrev pub read_of : CallerNo → ChanId → ScriptCall × Reply → List ℕ
read_of n c x = cond (is_by n x) (read_by c (use_of x.0.call) x.1) []

abbrev pub written_of : CallerNo → ChanId → ScriptCall × Reply → List ℕ
written_of n c x = cond (is_by n x) (written_by c (use_of x.0.call) x.1) []

abbrev pub end_of : CallerNo → ChanId → ScriptCall × Reply → Bool
end_of n c x = cond (is_by n x) (seals_by c (use_of x.0.call) x.1) false

-- it reads the channel, and told the end
pub record ReadsEnd (c : ChanId) (x : ScriptCall × Reply) : Type 0 where
  pub limit : ℕ
  pub call : x.0.call ≡ call.Pread c limit
  pub reply : x.1 ≡ reply.End

-- it is the caller's, and read the end
pub record EndsRead (n : CallerNo) (c : ChanId) (x : ScriptCall × Reply) : Type 0 where
  pub by : is_by n x ≡ true
  pub reads : ReadsEnd c x

-- ---- all lines of a caller

abbrev pub lines_of : CallerNo → List (ScriptCall × Reply) → List (RaceCall × Reply)
lines_of n log = map line_of (filter (is_by n) log)

abbrev one_of : CallerNo → ScriptCall × Reply → List (RaceCall × Reply)
one_of n x = cond (is_by n x) (line_of x ∷ []) []

one-is : (b : Bool) (x : ScriptCall × Reply)
    → map line_of (cond b (x ∷ []) []) ≡ cond {A = List (RaceCall × Reply)} b (line_of x ∷ []) []
one-is true x = refl
one-is false x = refl

lines-more : (n : CallerNo) (log : List (ScriptCall × Reply)) (x : ScriptCall × Reply)
    → lines_of n (log ++ x ∷ []) ≡ lines_of n log ++ one_of n x
lines-more n log x =
    ap (map line_of) (filter-append (is_by n) log (x ∷ []))
    ∙ (map-append line_of (filter (is_by n) log) (filter (is_by n) (x ∷ []))
    ∙ ap (λ (ls : List (RaceCall × Reply)). lines_of n log ++ ls) (one-is (is_by n x) x))

-- ---- what one line more adds

of-one : (f : RaceCall × Reply → List ℕ) (b : Bool) (x : RaceCall × Reply)
    → flat_map f (cond b (x ∷ []) []) ≡ cond {A = List ℕ} b (f x) []
of-one f true x = append-nil (f x)
of-one f false x = refl

gathered-more : (f : RaceCall × Reply → List ℕ) (n : CallerNo) (log : List (ScriptCall × Reply))
    (x : ScriptCall × Reply)
    → flat_map f (lines_of n (log ++ x ∷ [])) ≡ flat_map f (lines_of n log) ++ cond (is_by n x) (f (line_of x)) []
gathered-more f n log x =
    ap (flat_map f) (lines-more n log x)
    ∙ (flat_map-append f (lines_of n log) (one_of n x)
    ∙ ap (λ (xs : List ℕ). flat_map f (lines_of n log) ++ xs) (of-one f (is_by n x) (line_of x)))

pub read-more : (n : CallerNo) (c : ChanId) (log : List (ScriptCall × Reply)) (x : ScriptCall × Reply)
    → all_read c (lines_of n (log ++ x ∷ [])) ≡ all_read c (lines_of n log) ++ read_of n c x
read-more n c log x = gathered-more (λ y. read_in c y.0 y.1) n log x

pub written-more : (n : CallerNo) (c : ChanId) (log : List (ScriptCall × Reply)) (x : ScriptCall × Reply)
    → all_written c (lines_of n (log ++ x ∷ [])) ≡ all_written c (lines_of n log) ++ written_of n c x
written-more n c log x = gathered-more (λ y. written_in c y.0 y.1) n log x

pub leave_seal-append : (c : ChanId) (xs ys : List (RaceCall × Reply))
    → leave_seal c (xs ++ ys) ≡ (leave_seal c xs || leave_seal c ys)
leave_seal-append c [] ys = refl
leave_seal-append c (x ∷ xs) ys =
    ap (λ (b : Bool). seals_in c x.0 x.1 || b) (leave_seal-append c xs ys)
    ∙ sym (or_assoc (seals_in c x.0 x.1) (leave_seal c xs) (leave_seal c ys))

end-of-one : (c : ChanId) (b : Bool) (x : RaceCall × Reply)
    → leave_seal c (cond b (x ∷ []) []) ≡ cond b (seals_in c x.0 x.1) false
end-of-one c true x = or-false (seals_in c x.0 x.1)
end-of-one c false x = refl

pub end-more : (n : CallerNo) (c : ChanId) (log : List (ScriptCall × Reply)) (x : ScriptCall × Reply)
    → leave_seal c (lines_of n (log ++ x ∷ [])) ≡ (leave_seal c (lines_of n log) || end_of n c x)
end-more n c log x =
    ap (leave_seal c) (lines-more n log x)
    ∙ (leave_seal-append c (lines_of n log) (one_of n x)
    ∙ ap (λ (b : Bool). leave_seal c (lines_of n log) || b) (end-of-one c (is_by n x) (line_of x)))

is-one : (n : CallerNo) (c : ChanId) (k : ℕ) (x : ScriptCall × Reply) (b : Bool) → is_by n x ≡ b
    → Contains (cond b (line_of x ∷ []) []) (Script (call.Pread c k), reply.End) → EndsRead n c x
is-one n c k x true by h =
    ⊎_elim (λ none. absurd (contains-none _ none))
    (λ (same : line_of x ≡ (Script (call.Pread c k), reply.End)).
    let word : ◌≡◌ {A = RaceCall} (Script x.0.call) (Script (call.Pread c k)) =
    ap (λ (y : RaceCall × Reply). y.0) same in
    record {
      by = by;
      reads = record { limit = k; call = cc word; reply = ap (λ (y : RaceCall × Reply). y.1) same };
    })
    (Contains-push_cases [] (line_of x) (Script (call.Pread c k), reply.End) h)
is-one n c k x false by h = absurd (contains-none _ h)

-- a read that told the end is among the earlier lines, or is the last
pub tells-more : (n : CallerNo) (c : ChanId) (log : List (ScriptCall × Reply)) (x : ScriptCall × Reply)
    → TellsEnd c (lines_of n (log ++ x ∷ [])) → TellsEnd c (lines_of n log) ⊎ EndsRead n c x
tells-more n c log x tells =
    let it : RaceCall × Reply = (Script (call.Pread c tells.0), reply.End) in
    ⊎_elim (λ earlier. inl (tells.0, earlier)) (λ last. inr (is-one n c tells.0 x (is_by n x) refl last))
    (Contains-append_cases (lines_of n log) (one_of n x) it
    (subst (λ (ls : List (RaceCall × Reply)). Contains ls it) (lines-more n log x) tells.1))

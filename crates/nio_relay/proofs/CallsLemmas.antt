-- Each call leaves a lawful flow lawful, so any list of calls does.
use Rattle.std.proofs.Common.{◌≡◌, ℕ, List, [], ◌∷◌, ◌++◌, length, take, drop, true, false, refl, sym, ap, subst, ◌∙◌}
use Rattle.std.proofs.Common.{arith, append_assoc, length-append, length-drop, lit≤}
use Rattle.std.proofs.lemmas.List.{take-append-drop, append-nil}
use Rattle.std.proofs.Math.Seq.{drop-append_seam, drop-length, take-nil}
use mathlib.Core.List.{IsPrefix}
use Rattle.nio_relay.specs.Flow.{Flow, fresh, buffered, IsLawful, MayTake, WantsShut, takes, writes, shuts}
use Rattle.nio_relay.specs.Calls.{Call, reading, writing, ending, shutting, failing, MayCall, after, MayCallAll}
use Rattle.nio_relay.specs.Calls.{after_all, bytes_given, bytes_read, Carries, RelayLaw}

-- what is buffered follows what was written
buffered-rest : (f : Flow) → IsPrefix f.written f.taken → f.taken ≡ f.written ++ buffered f
buffered-rest f begins =
    let rest : buffered f ≡ begins.0 =
    ap (drop (length f.written)) (sym begins.1) ∙ drop-append_seam f.written begins.0 in
    sym begins.1 ∙ ap (λ xs. f.written ++ xs) (sym rest)

takes-IsLawful : (f : Flow) (bytes : List ℕ) → IsLawful f → MayTake f bytes → IsLawful (takes f bytes)
takes-IsLawful f bytes lawful may =
    let w = f.written in let rest = lawful.in_order.0 in let begins : w ++ rest ≡ f.taken = lawful.in_order.1 in
    record {
      in_order = (rest ++ bytes, sym (append_assoc w rest bytes) ∙ ap (λ xs. xs ++ bytes) begins);
      few_buffered = omega (
        arith,
        may.fit,
        lawful.few_buffered,
        ap length begins,
        length-append w rest,
        length-append f.taken bytes,
        length-drop (length w) f.taken,
        length-drop (length w) (f.taken ++ bytes),
      );
      shut_after_end = lawful.shut_after_end;
      shut_whole = λ is_shut. let never : false ≡ true = sym may.not_ended ∙ lawful.shut_after_end is_shut in cc;
    }

writes-IsLawful : (f : Flow) (n : ℕ) → IsLawful f → IsLawful (writes f n)
writes-IsLawful f n lawful =
    let w = f.written in let h = buffered f in let whole : f.taken ≡ w ++ h = buffered-rest f lawful.in_order in
    record {
      in_order = (
        drop n h,
        append_assoc w (take n h) (drop n h) ∙ ap (λ xs. w ++ xs) (take-append-drop n h)
            ∙ sym whole,
      );
      few_buffered = omega (
        arith,
        lawful.few_buffered,
        length-append w (take n h),
        length-drop (length w) f.taken,
        length-drop (length (w ++ take n h)) f.taken,
      );
      shut_after_end = lawful.shut_after_end;
      shut_whole = λ is_shut.
          let none : h ≡ [] = ap (λ xs. drop (length xs) f.taken) (lawful.shut_whole is_shut) ∙ drop-length f.taken in
          ap (λ xs. w ++ take n xs) none ∙ ap (λ xs. w ++ xs) (take-nil n) ∙ append-nil w ∙ lawful.shut_whole is_shut;
    }

shuts-IsLawful : (f : Flow) → IsLawful f → WantsShut f → IsLawful (shuts f)
shuts-IsLawful f lawful wants = record {
  in_order = lawful.in_order;
  few_buffered = lawful.few_buffered;
  shut_after_end = λ _. wants.ended;
  shut_whole = λ _. sym (append-nil f.written) ∙ ap (λ xs. f.written ++ xs) (sym wants.none_buffered)
      ∙ sym (buffered-rest f lawful.in_order);
}

after-IsLawful : (f : Flow) (c : Call) → IsLawful f → MayCall f c → IsLawful (after f c)
after-IsLawful f (reading bytes) lawful may = takes-IsLawful f bytes lawful may
after-IsLawful f (writing n) lawful may = writes-IsLawful f n lawful
after-IsLawful f ending lawful may =
    record {
      in_order = lawful.in_order;
      few_buffered = lawful.few_buffered;
      shut_after_end = λ _. refl;
      shut_whole = lawful.shut_whole;
    }
after-IsLawful f shutting lawful may = shuts-IsLawful f lawful may
after-IsLawful f failing lawful may =
    record {
      in_order = lawful.in_order;
      few_buffered = lawful.few_buffered;
      shut_after_end = lawful.shut_after_end;
      shut_whole = lawful.shut_whole;
    }

taken-after : (f : Flow) (c : Call) → (after f c).taken ≡ f.taken ++ bytes_given c
taken-after f (reading bytes) = refl
taken-after f (writing n) = sym (append-nil f.taken)
taken-after f ending = sym (append-nil f.taken)
taken-after f shutting = sym (append-nil f.taken)
taken-after f failing = sym (append-nil f.taken)

Carries-after_all : (f : Flow) (calls : List Call) → IsLawful f → MayCallAll f calls
    → Carries (after_all f calls) (f.taken ++ bytes_read calls)
Carries-after_all f [] lawful may =
    let all : f.taken ≡ f.taken ++ [] = sym (append-nil f.taken) in
    record {
      all_taken = all;
      few_buffered = lawful.few_buffered;
      in_order = subst (IsPrefix f.written) all lawful.in_order;
      whole_at_shut = λ is_shut. lawful.shut_whole is_shut ∙ all;
    }
Carries-after_all f (c ∷ calls) lawful may =
    let later = bytes_read calls in
    let all : (after f c).taken ++ later ≡ f.taken ++ (bytes_given c ++ later) = ap (λ xs. xs ++ later)
    (taken-after f c) ∙ append_assoc f.taken (bytes_given c) later in
    subst (Carries (after_all (after f c) calls)) all
    (Carries-after_all (after f c) calls (after-IsLawful f c lawful may.0) may.1)

pub fresh-IsLawful : IsLawful fresh
fresh-IsLawful =
    record {
      in_order = ([], refl);
      few_buffered = lit≤ tt;
      shut_after_end = λ is_shut. is_shut;
      shut_whole = λ _. refl;
    }

pub relay : RelayLaw
relay calls may = Carries-after_all fresh calls fresh-IsLawful may

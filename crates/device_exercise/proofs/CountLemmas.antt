-- A tally that goes on with requests and answers.
use Rattle.std.proofs.Common.{◌≡◌, List, [], ◌∷◌, ◌++◌, Option, Some, None, false, refl, sym, ◌∙◌, ap, append-nil}
use Rattle.std.proofs.Common.{append_assoc}
use Rattle.device_model.specs.Progress.{Answer, Replied}
use Rattle.device_model.specs.Script.{Ask, told_fault}
use Rattle.workload_model.specs.Exercise.{Tally, bytes_read, tally_of}
use Rattle.request_slots.specs.InFlight.{as_reply, returned_in}
use Rattle.request_slots.specs.declared.reply.Reply.{Reply}
use Rattle.script_session.specs.Told.{IsReplied}
use Rattle.workload.specs.Tally.{with_ask, with_reply}
use Rattle.workload.proofs.TallyLemmas.{more_asks, more_replies, other_answers}
use Rattle.device_exercise.specs.Exercising.{Counts, with_reply_of}

-- Nothing more is counted.
pub counts_none : (t : Tally) → Counts [] [] t t
counts_none t asks answers is =
    is ∙ ap (λ (l : List Ask). tally_of l answers) (sym (append-nil asks))
    ∙ ap (λ (l : List (Option Answer)). tally_of (asks ++ []) l) (sym (append-nil answers))

-- What is counted in two steps is counted in one.
pub counts_then : (xs ys : List Ask) (some more : List (Option Answer)) (a b c : Tally)
    → Counts xs some a b → Counts ys more b c → Counts (xs ++ ys) (some ++ more) a c
counts_then xs ys some more a b c first second asks answers is =
    second (asks ++ xs) (answers ++ some) (first asks answers is)
    ∙ ap (λ (l : List Ask). tally_of l ((answers ++ some) ++ more)) (append_assoc asks xs ys)
    ∙ ap (λ (l : List (Option Answer)). tally_of (asks ++ (xs ++ ys)) l) (append_assoc answers some more)

-- A request is counted.
pub counts_ask : (ask : Ask) (old new : Tally) → new ≡ with_ask ask old → Counts (ask ∷ []) [] old new
counts_ask ask old new same asks answers is =
    same ∙ ap (with_ask ask) is ∙ sym (more_asks asks ask answers)
    ∙ ap (λ (l : List (Option Answer)). tally_of (asks ++ ask ∷ []) l) (sym (append-nil answers))

-- ---- an answer

none_read : (answer : Option Answer) → IsReplied None answer → bytes_read answer ≡ []
none_read None none = refl
none_read (Some (Replied request reply returned)) none = absurd none
none_read (Some answer) none = refl

none_found : (answer : Option Answer) → IsReplied None answer → told_fault answer ≡ false
none_found None none = refl
none_found (Some (Replied request reply returned)) none = absurd none
none_found (Some answer) none = refl

-- What it brings is counted.
pub counts_answer : (reply : Option Reply) (answer : Option Answer) (old new : Tally) → IsReplied reply answer
    → new ≡ with_reply_of reply old → Counts [] (answer ∷ []) old new
counts_answer None answer old new replied same asks answers is =
    same ∙ is ∙ sym (other_answers asks answers answer (none_read answer replied) (none_found answer replied))
    ∙ ap (λ (l : List Ask). tally_of l (answers ++ answer ∷ [])) (sym (append-nil asks))
counts_answer (Some reply) None old new replied same asks answers is = absurd replied
counts_answer (Some reply) (Some answer) old new replied same asks answers is =
    same ∙ ap (with_reply (as_reply reply)) is
    ∙ sym (more_replies asks answers replied.asked (as_reply reply) (returned_in reply))
    ∙ ap (λ (a : Answer). tally_of asks (answers ++ Some a ∷ [])) (sym replied.is)
    ∙ ap (λ (l : List Ask). tally_of l (answers ++ Some answer ∷ [])) (sym (append-nil asks))

-- A tally goes on with each request and each reply.
use Rattle.std.specs.Prelude.{◌≡◌, ℕ, ◌≤◌, false, List, [], ◌∷◌, ◌++◌, length, Option, Some}
use Rattle.device_model.specs.Progress.{Answer, Replied}
use Rattle.device_model.specs.Reply.{Reply}
use Rattle.device_model.specs.Request.{Request}
use Rattle.device_model.specs.Script.{Ask, told_fault}
use Rattle.workload_model.specs.Exercise.{bytes_read, tally_of}
use Rattle.workload.specs.Tally.{lines_in, no_tally, with_ask, with_reply}

-- Of no request and no answer nothing is counted.
abbrev pub NoTallyLaw : Type 0
NoTallyLaw = tally_of [] [] ≡ no_tally

-- A request more is counted behind those before it.
abbrev pub MoreAsksLaw : Type 0
MoreAsksLaw = (asks : List Ask) (ask : Ask) (answers : List (Option Answer))
    → tally_of (asks ++ ask ∷ []) answers ≡ with_ask ask (tally_of asks answers)

-- A reply more is added to those before it.
abbrev pub MoreRepliesLaw : Type 0
MoreRepliesLaw = (asks : List Ask) (answers : List (Option Answer)) (request : Request) (reply : Reply)
    (returned : List ℕ)
    → tally_of asks (answers ++ Some (Replied request reply returned) ∷ []) ≡ with_reply reply (tally_of asks answers)

-- An answer that is no reply adds nothing.
abbrev pub OtherAnswersLaw : Type 0
OtherAnswersLaw = (asks : List Ask) (answers : List (Option Answer)) (answer : Option Answer)
    → bytes_read answer ≡ [] → told_fault answer ≡ false
    → tally_of asks (answers ++ answer ∷ []) ≡ tally_of asks answers

-- No more requests and no more faults are counted than there are requests and answers.
abbrev pub BoundsLaw : Type 0
BoundsLaw = (asks : List Ask) (answers : List (Option Answer))
    → (lines_in (tally_of asks answers) ≤ length asks) × ((tally_of asks answers).faults ≤ length answers)

use Rattle.std.proofs.Common.{◌==◌, List, length, arith, rules, tests}
use Rattle.std.proofs.lemmas.Iterator.{cases_from_all}
use Rattle.std.proofs.lemmas.Iterator.Search.{true_from_All}
use Rattle.std.proofs.lemmas.Bool.{MatchBool-at_true}
use Rattle.std.specs.List.{All, AllWithin}
use Rattle.std.proofs.lemmas.Iterator.Splits.{YieldsList-from_slice_split}
use Rattle.script_text.specs.Runs.{IsRunText, parts_in}
use Rattle.script_text.proofs.runs.are_runs.Goals as goal

All-from_within : {X : Type 0} (P : X → Type 0) (xs : List X) → AllWithin P xs 0 (length xs) → All P xs
All-from_within P xs each = λ k d within. each k d (omega arith) within

pub returns : goal.returns
returns c =
    let cases = cases_from_all _ _ _ IsRunText (λ part. ¬ IsRunText part) c.all.ensures.ran
    (YieldsList-from_slice_split _ (λ byte. byte == 44) c.args.word.now c.split.ensures.rest c.split.ensures.done c.split.ensures.closure (λ x r q k. search (rules, tests)))
    (λ x q k. search (rules, tests)) (λ x q k. search (rules, tests)) in (
      (λ is. All-from_within IsRunText (parts_in c.args.word.now) (MatchBool-at_true _ _ is cases)),
      (λ each. true_from_All IsRunText (λ part. ¬ IsRunText part) c.all.result (parts_in c.args.word.now) (λ x run no_run. no_run run) cases each),
    )

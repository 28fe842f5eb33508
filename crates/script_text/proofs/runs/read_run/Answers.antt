use Rattle.std.proofs.Common.{◌≡◌, ◌<◌, ◌^◌, ltb, Bool, true, false, refl, arith, sym, ◌∙◌}
use Rattle.std.specs.Bool.{then_some}
use Rattle.std.specs.Option.{IfNone}
use Rattle.std.proofs.lemmas.List.{take_rest}
use Rattle.std.proofs.lemmas.Bool.{ltb-false}
use Rattle.script_text.proofs.RunLemmas.{IsTextOf-stretch_text, no_run}
use Rattle.script_text.proofs.runs.read_run.Goals as goal
use Rattle.script_text.proofs.runs.read_run.Goals.{then-text-lt3-via-then-text-lt3, then-text-lt3-via-else-text-lt3+then-text-ne42}

none_unless : {T Q : Type 0} (b : Bool) (x : T) → (b ≡ false → Q) → IfNone (then_some b x) Q
none_unless true x q = tt
none_unless false x q = q refl

pub returns-then-text-lt3-clause-none : goal.returns-then-text-lt3-clause-none
returns-then-text-lt3-clause-none c stretch ok is =
    let parts = IsTextOf-stretch_text c.args.text.now stretch is in
    elim c.then-text-lt3.branch [
      | then-text-lt3-via-then-text-lt3 w ↦ omega (arith, parts.long, w.if-text-lt3.true)
      | then-text-lt3-via-else-text-lt3+then-text-ne42 w ↦ w.if-text-ne42.true parts.star
    ]

pub returns-in_err-byte-clause-none : goal.returns-in_err-byte-clause-none
returns-in_err-byte-clause-none c =
    rw c.from_residual.ensures (λ stretch ok is.
    let parts = IsTextOf-stretch_text c.args.text.now stretch is in
    c.in_err-byte.ensures.none (stretch.byte, ok.0, parts.byte))

pub returns-in_err-count-clause-none : goal.returns-in_err-count-clause-none
returns-in_err-count-clause-none c =
    rw c.from_residual-in_err-count.ensures (λ stretch ok is.
    let parts = IsTextOf-stretch_text c.args.text.now stretch is in
    c.in_err-count.ensures.none (stretch.count, ok.2, take_rest c.args.text.now 3 ∙ parts.count))

pub returns-clause-none : goal.returns-clause-none
returns-clause-none c =
    let small : c.in_ok-count.count < 2 ^ 64 = omega arith in
    let is = sym (take_rest c.args.text.now 3) ∙ c.in_ok-count.ensures.some in
    rw c.then_some.ensures (none_unless (ltb 0 c.in_ok-count.count) _ (λ none. no_run c.args.text.now c.in_ok-count.count small is (λ some. absurd (omega (arith, some, ltb-false 0 c.in_ok-count.count none)))))

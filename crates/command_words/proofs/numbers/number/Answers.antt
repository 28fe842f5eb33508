use Rattle.std.proofs.Common.{◌≡◌, ◌∙◌, ◌<◌, ◌^◌, Some, None, sym, ap, arith}
use Rattle.std.specs.Fmt.{decimal}
use Rattle.std.specs.Result.{result_ok}
use Rattle.std.proofs.lemmas.Bool.{false≢true}
use Rattle.std.proofs.lemmas.Fmt.{parse-decimal}
use Rattle.std.proofs.lemmas.Slice.Eq.{bytes_eq-Decides}
use Rattle.command_words.proofs.NumberLemmas.{number_of-decimal, number_of-none}
use Rattle.command_words.proofs.numbers.number.Goals as goal

pub returns-in_err-number : goal.returns-in_err-number
returns-in_err-number c = c.from_residual.ensures ∙ sym (number_of-none c.args.text.now (λ n fits written.
    let reads = parse-decimal 64 n c.args.text.now c.parse.result fits fits written c.parse.ensures.value.0 in
    let none : None ≡ Some n = c.in_err-number.ensures.value ∙ ap result_ok reads in
    cc))

pub returns-then-eq : goal.returns-then-eq
returns-then-eq c =
    let number = c.in_ok-number.number in
    let fits : number < 2 ^ 64 = omega arith in
    let same = (bytes_eq-Decides c.format.result.now c.args.text.now).0 (sym c.if-eq.ensures) in
    sym (number_of-decimal number c.args.text.now fits (sym same ∙ c.format.ensures.text))

pub returns-else-eq : goal.returns-else-eq
returns-else-eq c = sym (number_of-none c.args.text.now (λ n fits written.
    let reads = parse-decimal 64 n c.args.text.now c.parse.result fits fits written c.parse.ensures.value.0 in
    let some : Some c.in_ok-number.number ≡ Some n = c.in_ok-number.ensures.value ∙ ap result_ok reads in
    let is : c.in_ok-number.number ≡ n = cc in
    let same = c.format.ensures.text ∙ ap decimal is ∙ sym written in
    false≢true (c.if-eq.ensures ∙ (bytes_eq-Decides c.format.result.now c.args.text.now).1 same)))

use Rattle.std.proofs.Common.{◌≡◌, ℕ, zero, suc, ◌<◌, ◌^◌, List, subst, sym, ◌∙◌, ap, arith, Err, Ok, Result, true≢false, refl}
use Rattle.std.specs.declared.num.ParseIntError.{ParseIntError}
use Rattle.std.specs.Fmt.{decimal, digits}
use Rattle.std.specs.Str.{IsAscii}
use Rattle.std.specs.Str.Parse.{AllDigits, digits_value, ParsesUnsigned}
use Rattle.std.proofs.lemmas.Fmt.{IsAscii-decimal, parse-decimal, decimal-digits_value, first_decimal}
use Rattle.std.proofs.lemmas.Str.Parse.{IsNumeralModel, numerals_by_value, tells_digits, parse_plain}
use Rattle.std.proofs.lemmas.Str.{IsUtf8-from_ascii}
use Rattle.std.specs.Prelude.{IfSome, IfNone}
use Rattle.std.specs.Result.{result_ok}
use Rattle.device_model.specs.Grammar.{Fits, NumberPlace}
use Rattle.script_text.specs.Plain.{IsPlain}
use Rattle.script_text.proofs.values.read_number.Goals as goal

own : IsNumeralModel (AllDigits 10) (digits_value 10)
own = numerals_by_value (AllDigits 10) tells_digits

-- Plain bytes that read as a number are its digits.
digits_are : (text : List ℕ) (n : ℕ) → IsPlain text → ParsesUnsigned {E = ParseIntError} 64 10 text (Ok n) → text ≡ decimal n
digits_are text n (unsigned, unpadded) parses =
    let read = parse_plain own {E = ParseIntError} 64 text (Ok n) parses unsigned in
    sym (decimal-digits_value own text read.0.0 read.0.1 unpadded read.0.2) ∙ ap decimal (sym read.1)

-- The digits of a number are plain.
IsPlain-decimal : (n : ℕ) → n < 2 ^ 64 → IsPlain (decimal n)
unfolding digits
IsPlain-decimal zero fits = ((λ is. omega (arith, is)), (λ is. refl))
IsPlain-decimal (suc n) fits =
    let first = first_decimal (suc n) (omega arith) fits in
    ((λ is. omega (arith, first, is)), (λ is. absurd (omega (arith, first, is))))

number_found : (text word : List ℕ) (r : Result ℕ ParseIntError) → word ≡ text → IsPlain text → ParsesUnsigned 64 10 word r → IfSome (result_ok r) (λ n. text ≡ decimal n)
number_found text word (Ok n) same plain parses = digits_are text n plain (subst (λ (bytes : List ℕ). ParsesUnsigned {E = ParseIntError} 64 10 bytes (Ok n)) same parses)
number_found text word (Err e) same plain parses = tt

no_number_found : (text word : List ℕ) (r : Result ℕ ParseIntError) → word ≡ text → ParsesUnsigned 64 10 word r → IfNone (result_ok r) (¬ Fits NumberPlace text)
no_number_found text word (Ok n) same parses = tt
no_number_found text word (Err e) same parses = λ (n, fits, is). absurd (let reads = parse-decimal {E = ParseIntError} 64 n word (Err e) fits fits (same ∙ is) parses in cc)

pub returns-clause-some : goal.returns-clause-some
returns-clause-some c =
    rw c.ok.ensures.value (number_found c.args.text.now c.in-Ok.word.now c.parse.result c.in-Ok.ensures.cases.0 (c.is_plain.ensures.0 c.if-not-is_plain.false) c.parse.ensures.value.0)

pub returns-clause-none : goal.returns-clause-none
returns-clause-none c =
    rw c.ok.ensures.value (no_number_found c.args.text.now c.in-Ok.word.now c.parse.result c.in-Ok.ensures.cases.0 c.parse.ensures.value.0)

pub returns-then-not-is_plain-clause-none : goal.returns-then-not-is_plain-clause-none
returns-then-not-is_plain-clause-none c (n, fits, is) =
    true≢false (sym (c.is_plain.ensures.1 (subst IsPlain (sym is) (IsPlain-decimal n fits))) ∙ c.if-not-is_plain.true)

pub returns-in_default-from_utf8-clause-none : goal.returns-in_default-from_utf8-clause-none
returns-in_default-from_utf8-clause-none c (n, fits, is) =
    c.in_default-from_utf8.ensures.cases.0 (IsUtf8-from_ascii c.args.text.now (subst IsAscii (sym is) (IsAscii-decimal n fits)))

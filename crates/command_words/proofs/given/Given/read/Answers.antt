use Rattle.std.proofs.Common.{◌≡◌, ◌∙◌, ap, subst, map, []}
use Rattle.std.specs.String.{string_bytes}
use Rattle.clap.specs.Words.{App, HasKind, fault_of, found_of, is_simple, is_simple_and_free, kind_of, rows_of}
use Rattle.clap.specs.Words.{subcommand_of, subcommand_rows_of}
use Rattle.command_words.specs.Answers.{fault_by}
use Rattle.command_words.specs.declared.words_fault.WordsFault.TheVariants.{Refused}
use Rattle.command_words.proofs.ReadingLemmas.{app_is_free, app_is_simple, matches_read, refused_reads_none}
use Rattle.command_words.proofs.given.Given.read.Goals as goal

pub returns-in_err-matches-clause-refused : goal.returns-in_err-matches-clause-refused
returns-in_err-matches-clause-refused c refused =
    let app_is = c.in_ok-program.ensures.app in
    let error = c.in_err-matches.field-0.0 in
    let words = map string_bytes c.args.words.now in
    let by : Refused ≡ fault_by (kind_of error) = rw refused at c.from_residual-in_err-matches.ensures.1 in
    let kinds = subst (λ (a : App). HasKind (fault_of a words) error) app_is
    (c.in_err-matches.ensures.kinds (ap is_simple_and_free app_is ∙ app_is_free)) in
    refused_reads_none words (kind_of error) kinds by

pub returns-in-Some-clause-given : goal.returns-in-Some-clause-given
returns-in-Some-clause-given c =
    let app_is = c.in_ok-program.ensures.app in
    let words = map string_bytes c.args.words.now in
    let kinds = subst (λ (a : App). fault_of a words ≡ []) app_is
    (c.in_ok-matches.ensures.kinds (ap is_simple_and_free app_is ∙ app_is_free)) in
    let met = subst (λ (a : App). subcommand_rows_of c.in_ok-matches.matches ≡ subcommand_of a words) app_is
    (c.in_ok-matches.ensures.matches (ap is_simple app_is ∙ app_is_simple)).1 in
    matches_read words c.in_ok-matches.matches c.in-Some.name.now (rows_of (found_of c.in-Some.matches)) kinds met
    c.in-Some.ensures.name c.in-Some.ensures.rows

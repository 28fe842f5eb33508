-- What `clap` has read, by its clauses.
use Rattle.std.proofs.Common.{◌≡◌, ◌∙◌, true, refl, sym, ap, ap₂, List, [], ◌∷◌, Option, Some, None, option_map}
use Rattle.std.proofs.Common.{unwrap_or, ◌⊎◌, inl, inr}
use Rattle.clap.specs.Words.{IsAmong, Kinds, Row, fault_of, is_simple, subcommand_of, is_simple_and_free}
use Rattle.clap.specs.Words.{subcommand_name_of, subcommand_rows_of}
use Rattle.clap.specs.declared.error.ErrorKind.{ErrorKind}
use Rattle.clap.specs.declared.error.ErrorKind.TheVariants.{OutOfMemory}
use Rattle.clap.specs.declared.ArgMatches.{ArgMatches}
use Rattle.clap.proofs.OnLiterals.{clap_on_literals}
use Rattle.command_words.specs.Table.{Text}
use Rattle.command_words.specs.ByClap.{app}
use Rattle.command_words.specs.Answers.{fault_by}
use Rattle.command_words.specs.Commands.{reading_of, unless_refused}
use Rattle.command_words.specs.declared.words_fault.WordsFault.TheVariants.{Refused, Memory}

-- The words of `clap` tell all of the program.
pub app_is_simple : is_simple app ≡ true
unfolding clap_on_literals
app_is_simple = refl

pub app_is_free : is_simple_and_free app ≡ true
unfolding clap_on_literals
app_is_free = refl

kinds_read_none : {X : Type 0} (read : Option X) (kind : ErrorKind) (kinds : Kinds) → IsAmong kind kinds
    → unless_refused kinds read ≡ None
kinds_read_none read kind [] h = absurd h
kinds_read_none read kind (k ∷ ks) h = refl

-- A refusal leaves nothing read.
pub refused_reads_none : (words : List Text) (kind : ErrorKind)
    → (kind ≡ OutOfMemory) ⊎ IsAmong kind (fault_of app words)
    → Refused ≡ fault_by kind → reading_of words ≡ None
refused_reads_none words kind (inl memory) by = cc_refused (by ∙ ap fault_by memory)
  where
    cc_refused : {X : Type 0} → Refused ≡ Memory → X
    cc_refused e = cc
refused_reads_none words kind (inr among) by = kinds_read_none (subcommand_of app words) kind (fault_of app words) among

same_text : (a b : Text) → Some a ≡ Some b → a ≡ b
same_text a b e = ap (λ (o : Option Text). unwrap_or o a) e

same_rows : (a b : List Row) → Some a ≡ Some b → a ≡ b
same_rows a b e = ap (λ (o : Option (List Row)). unwrap_or o a) e

named_rows : (o : Option (Text × List Row)) (name : Text) (rows : List Row) → Some name ≡ option_map (λ p. p.0) o
    → Some rows ≡ option_map (λ p. p.1) o → o ≡ Some (name, rows)
named_rows None name rows e f = cc
named_rows (Some p) name rows e f =
    ap Some (ap₂ (λ (a : Text) (b : List Row). (a, b)) (sym (same_text name p.0 e)) (sym (same_rows rows p.1 f)))

option_map-map : {A B C : Type 0} (g : B → C) (f : A → B) (o : Option A)
    → option_map g (option_map f o) ≡ option_map (λ x. g (f x)) o
option_map-map g f None = refl
option_map-map g f (Some x) = refl

-- Where there is no refusal, what was read is the subcommand that was met, with its matches.
pub matches_read : (words : List Text) (m : ArgMatches) (name : Text) (rows : List Row) → fault_of app words ≡ []
    → subcommand_rows_of m ≡ subcommand_of app words → Some name ≡ subcommand_name_of m
    → Some rows ≡ option_map (λ p. p.1) (subcommand_rows_of m) → reading_of words ≡ Some (name, rows)
matches_read words m name rows kinds met named found =
    ap (λ ks. unless_refused ks (subcommand_of app words)) kinds ∙ sym met
    ∙ named_rows (subcommand_rows_of m) name rows (named ∙ sym (option_map-map (λ p. p.0) _ _)) found

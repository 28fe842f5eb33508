use Rattle.std.proofs.Common.{◌≢◌, ℕ, ◌≤◌, List, [], ◌∷◌, length, eqb, sym, ◌∙◌, ap, arith}
use Rattle.std.specs.List.{starts_with}
use Rattle.std.proofs.lemmas.Bool.{false≢true}
use Rattle.device_model.specs.Grammar.{IsReadAs, most_line}
use Rattle.device_model.proofs.UniqueReading.{read_once}
use Rattle.script_text.specs.Line.{read_of}
use Rattle.script_text.proofs.ReadLemmas.{read_by_words, line_from_read, fault_from_read}
use Rattle.script_text.proofs.grammar.read_line.Goals as goal

reads : (c : goal.After-read_words) → IsReadAs c.args.bytes.now (read_of c.read_words.result)
reads c =
    let bytes = c.args.bytes.now in
    let short : length bytes ≤ most_line = omega arith in
    let text = c.is_text.ensures.0 c.if-not-is_text.false in
    let other : (tail : List ℕ) → bytes ≢ 35 ∷ tail = λ tail is.
    false≢true (sym c.if-starts_with.false ∙ c.starts_with.ensures.value ∙ ap (λ (bs : List ℕ). starts_with eqb bs (35 ∷ [])) is) in
    read_by_words bytes c.new.result.rest.now c.read_words.result short text other c.new.ensures c.read_words.ensures.line c.read_words.ensures.fault

pub returns-clause-line : goal.returns-clause-line
returns-clause-line c = line_from_read c.args.bytes.now c.read_words.result (reads c)

pub returns-clause-fault : goal.returns-clause-fault
returns-clause-fault c = fault_from_read c.args.bytes.now c.read_words.result (reads c)

pub returns-clause-exact : goal.returns-clause-exact
returns-clause-exact c read is = read_once c.args.bytes.now read (read_of c.read_words.result) is (reads c)

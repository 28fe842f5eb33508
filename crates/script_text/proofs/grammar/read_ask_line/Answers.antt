use Rattle.std.proofs.Common.{◌≢◌, ℕ, ◌≤◌, List, [], ◌∷◌, length, eqb, sym, ◌∙◌, ap, arith}
use Rattle.std.specs.List.{starts_with}
use Rattle.std.proofs.lemmas.Bool.{false≢true}
use Rattle.device_model.specs.Grammar.{most_line}
use Rattle.script_text.specs.AskLine.{IsAskReading, ask_reading_of}
use Rattle.script_text.proofs.AskLineLemmas.{ask_read_once}
use Rattle.script_text.proofs.ReadLemmas.{ask_fault_from_reading, ask_read_by_words, asks_from_reading}
use Rattle.script_text.proofs.grammar.read_ask_line.Goals as goal

reads : (c : goal.After-read_ask_words) → IsAskReading c.args.bytes.now (ask_reading_of c.read_ask_words.result)
reads c =
    let bytes = c.args.bytes.now in
    let short : length bytes ≤ most_line = omega arith in
    let text = c.is_text.ensures.0 c.if-not-is_text.false in
    let other : (tail : List ℕ) → bytes ≢ 35 ∷ tail = λ tail is.
    false≢true (sym c.if-starts_with.false ∙ c.starts_with.ensures.value ∙ ap (λ (bs : List ℕ). starts_with eqb bs (35 ∷ [])) is) in
    ask_read_by_words bytes c.new.result.rest.now c.read_ask_words.result short text other c.new.ensures c.read_ask_words.ensures.asks c.read_ask_words.ensures.fault

pub returns-clause-asks : goal.returns-clause-asks
returns-clause-asks c = asks_from_reading c.args.bytes.now c.read_ask_words.result (reads c)

pub returns-clause-fault : goal.returns-clause-fault
returns-clause-fault c = ask_fault_from_reading c.args.bytes.now c.read_ask_words.result (reads c)

pub returns-clause-exact : goal.returns-clause-exact
returns-clause-exact c read is = ask_read_once c.args.bytes.now read (ask_reading_of c.read_ask_words.result) is (reads c)

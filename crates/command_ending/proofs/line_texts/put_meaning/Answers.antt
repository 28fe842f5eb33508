use Rattle.std.proofs.Common.{sym, ap, ◌∙◌}
use Rattle.std.specs.Fmt.{decimal}
use Rattle.device_model.specs.Script.{meaning_text}
use Rattle.script_text.specs.Meaning.{meaning_of}
use Rattle.script_text.specs.declared.meaning_fault.MeaningFault.{MeaningFault}
use Rattle.command_ending.specs.Ended.{numbered_line}
use Rattle.command_ending.proofs.TextLemmas.{same_put, range_line}
use Rattle.command_ending.proofs.line_texts.put_meaning.Goals as goal

pub returns-in-Range-clause-line : goal.returns-in-Range-clause-line
returns-in-Range-clause-line g c =
    same_put
    (range_line c.args.number.now (decimal c.in-Range.first) (decimal c.in-Range.count)
    c.as_bytes-first.result.now c.as_bytes-count.result.now
    (c.as_bytes-first.ensures.value ∙ c.format.ensures.text)
    (c.as_bytes-count.ensures.value ∙ c.format-in-Range.ensures.text)
    ∙ ap (λ (fault : MeaningFault). numbered_line c.args.number.now (meaning_text (meaning_of fault)))
    (sym c.in-Range.is))
    c.put_pieces.ensures.line

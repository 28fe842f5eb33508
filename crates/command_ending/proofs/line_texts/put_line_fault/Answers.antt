use Rattle.std.proofs.Common.{sym, ap, ◌∙◌}
use Rattle.std.specs.Fmt.{decimal}
use Rattle.device_model.specs.LineFault.{words_fault_text}
use Rattle.command_ending.specs.Ended.{form_of, line_fault_of, script_line_of}
use Rattle.command_ending.specs.declared.line_refusal.LineRefusal.{LineRefusal}
use Rattle.command_ending.proofs.TextLemmas.{same_put, form_line}
use Rattle.command_ending.proofs.line_texts.put_line_fault.Goals as goal

pub returns-in-Form-clause-line : goal.returns-in-Form-clause-line
returns-in-Form-clause-line g c =
    same_put
    (form_line c.as_bytes-number.result.now (decimal c.args.number)
    c.form_text.result.0.now c.form_text.result.1.now
    (words_fault_text (form_of c.in-Form.fault))
    (c.as_bytes-number.ensures.value ∙ c.format.ensures.text) c.form_text.ensures
    ∙ ap (λ (refusal : LineRefusal). script_line_of c.args.number (line_fault_of refusal)) (sym c.in-Form.is))
    c.put_pieces.ensures.line

use Rattle.std.proofs.Common.{◌≡◌, sym, ap, ◌∙◌}
use Rattle.run_model.specs.Ending.{refusal_line}
use Rattle.command_ending.specs.Ended.{image_fault_of, line_fault_of, refusal_of}
use Rattle.command_ending.specs.declared.refusal.Refusal.{Refusal}
use Rattle.command_ending.proofs.TextLemmas.{image_told, second_told, line_told, same_put}
use Rattle.command_ending.proofs.ended.put_refusal.Goals as goal

same_line : (refusal is : Refusal) → refusal ≡ is → refusal_line (refusal_of is) ≡ refusal_line (refusal_of refusal)
same_line refusal is same = ap (λ (r : Refusal). refusal_line (refusal_of r)) (sym same)

pub returns-in-Image-clause-line : goal.returns-in-Image-clause-line
returns-in-Image-clause-line g c =
    same_put (image_told (image_fault_of c.in-Image.fault) ∙ same_line c.args.refusal.now _ c.in-Image.is)
    c.put_image_fault.ensures.line

pub returns-in-Second-clause-line : goal.returns-in-Second-clause-line
returns-in-Second-clause-line g c =
    same_put (second_told (image_fault_of c.in-Second.fault) ∙ same_line c.args.refusal.now _ c.in-Second.is)
    c.put_image_fault-in-Second.ensures.line

pub returns-in-Legs-clause-line : goal.returns-in-Legs-clause-line
returns-in-Legs-clause-line g c =
    same_put (same_line c.args.refusal.now _ c.in-Legs.is) c.put_legs.ensures.line

pub returns-in-Line-clause-line : goal.returns-in-Line-clause-line
returns-in-Line-clause-line g c =
    same_put
    (line_told c.in-Line.number (line_fault_of c.in-Line.refusal) ∙ same_line c.args.refusal.now _ c.in-Line.is)
    c.put_line_fault.ensures.line

pub returns-in-Length-clause-line : goal.returns-in-Length-clause-line
returns-in-Length-clause-line g c =
    same_put (same_line c.args.refusal.now _ c.in-Length.is) c.put_pieces-in-Length.ensures.line

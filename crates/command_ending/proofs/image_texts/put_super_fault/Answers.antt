use Rattle.std.proofs.Common.{◌≡◌, ℕ, ◌++◌, codes, sym, ap, ◌∙◌}
use Rattle.std.specs.Fmt.{decimal}
use Rattle.image_model.specs.declared.super_fields.SuperFault.{SuperFault}
use Rattle.image_model.specs.declared.super_fields.SuperFault.TheVariants.{Interleave}
use Rattle.device_model.specs.Refusals.{BySuperblock}
use Rattle.command_ending.specs.Ended.{rest_of_line, rest_of_image_line}
use Rattle.command_ending.proofs.TextLemmas.{same_put}
use Rattle.command_ending.proofs.image_texts.put_super_fault.Goals as goal

interleave_line : (v number : ℕ) (fault : SuperFault) → number ≡ v → fault ≡ Interleave v
    → rest_of_line (codes "interleave " ++ decimal number) ≡ rest_of_image_line (BySuperblock fault)
interleave_line v number fault is_number is_fault =
    ap (λ (x : ℕ). rest_of_line (codes "interleave " ++ decimal x)) is_number
    ∙ ap (λ (x : SuperFault). rest_of_image_line (BySuperblock x)) (sym is_fault)

pub returns-in-Interleave-clause-line : goal.returns-in-Interleave-clause-line
returns-in-Interleave-clause-line g c =
    same_put
    (interleave_line c.in-Interleave.v c.from-in-Interleave.result c.args.fault
    c.from-in-Interleave.ensures c.in-Interleave.is)
    c.put_number-in-Interleave.ensures.line

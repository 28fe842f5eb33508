use Rattle.std.proofs.Common.{Ok, ◌∙◌, ap, sym}
use Rattle.image_model.specs.Geometry.{fitting_log2_region}
use Rattle.formatting_model.proofs.PlanningLemmas.{accepted_asked, asked_never_refused, asked_told}
use Rattle.image_formatting.proofs.planning.fitting.Goals as goal

pub new-requires : goal.new-requires
new-requires c =
    record { fields = accepted_asked c.args.new.now c.args.disk_sectors c.args.provided c.requires.new c.requires.provided _ c.asked_fields-asked.ensures.fields }

pub returns-in_err-geometry : goal.returns-in_err-geometry
returns-in_err-geometry c =
    absurd (asked_never_refused c.args.new.now c.args.disk_sectors c.args.provided c.requires.new c.requires.provided _ c.in_err-geometry.field-0.0 c.asked_fields-asked.ensures.fields (sym c.in_err-geometry.ensures.told))

pub returns : goal.returns
returns c =
    ap Ok (c.fitting_log2_region.ensures.log2_region
    ∙ ap fitting_log2_region (asked_told c.args.new.now c.args.disk_sectors c.args.provided c.requires.new c.requires.provided _ c.in_ok-geometry.geometry c.asked_fields-asked.ensures.fields (sym c.in_ok-geometry.ensures.told)))

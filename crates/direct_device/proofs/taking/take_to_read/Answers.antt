use Rattle.std.proofs.Common.{◌<◌, ℕ, sym, ◌∙◌, subst}
use Rattle.std.proofs.lemmas.Result.{on_ok_weaker}
use Rattle.image_model.specs.Geometry.{Geometry, regions}
use Rattle.image_model.proofs.Regions.{region_of-lt}
use Rattle.bitmap_laws.specs.CallLaws.{region_tags}
use Rattle.tag_store.specs.Store.{given_tags}
use Rattle.recalculation.specs.declared.recalculating.Recalculation.{Recalculation}
use Rattle.recalculation.specs.Awaiting.{awaiting_blocks}
use Rattle.recalculation.specs.Rule.{tagger_by}
use Rattle.recalculation.proofs.StepLemmas.{adds_taking, has_taken}
use Rattle.direct_device.proofs.TakingLemmas.{both_ok, not_taken, read_taken, read_taking, tags_adds}
use Rattle.direct_device.proofs.taking.take_to_read.Goals as goal

pub awaits-requires : goal.awaits-requires
awaits-requires g c =
    let geometry = c.args.recalculation.now.awaiting.geometry in
    subst (λ (r : ℕ). r < regions geometry) (sym c.region_of-region.ensures)
    (region_of-lt geometry c.args.block (subst (λ (x : Geometry). c.args.block < x.blocks) (sym c.requires.same) c.requires.block))

pub recalc_region-requires-clause-region : goal.recalc_region-requires-clause-region
recalc_region-requires-clause-region g c =
    let geometry = c.args.recalculation.now.awaiting.geometry in
    subst (λ (r : ℕ). r < regions geometry) (sym c.region_of-region.ensures)
    (region_of-lt geometry c.args.block (subst (λ (x : Geometry). c.args.block < x.blocks) (sym c.requires.same) c.requires.block))

pub returns-then-awaits-clause-through : goal.returns-then-awaits-clause-through
returns-then-awaits-clause-through g c d awaiting is =
    let old = c.args.recalculation.now in
    let store = c.args.tags.now in
    let a = g.D.Disk.moments c.args.disk.now in
    let b = g.D.Disk.moments c.recalc_region.new.disk in
    read_taking d awaiting c.args.maker.now old store c.args.block a c.requires.block is c.region_of-region.result c.region_of-region.ensures (sym c.awaits.ensures ∙ c.if-awaits.true) b
    (adds_taking c.args.maker.now c.region_of-region.result old store.geometry (sym c.requires.same) (given_tags store) a b c.recalc_region.ensures.moments)

pub returns-then-awaits-clause-taken : goal.returns-then-awaits-clause-taken
returns-then-awaits-clause-taken g c = on_ok_weaker c.recalc_region.result (λ both d awaiting is.
    let old = c.args.recalculation.now in
    let store = c.args.tags.now in
    let a = g.D.Disk.moments c.args.disk.now in
    let b = g.D.Disk.moments c.recalc_region.new.disk in
    let new : Recalculation = record { awaiting = c.recalc_region.new.self; position = old.position } in
    let waits = sym c.awaits.ensures ∙ c.if-awaits.true in
    read_taken d awaiting c.args.maker.now old store c.args.block a c.requires.block is c.region_of-region.result c.region_of-region.ensures waits new c.recalc_region.new.tags b c.recalc_region.ensures.stays.places
    (has_taken c.args.maker.now c.region_of-region.result old store.geometry (sym c.requires.same) (given_tags store) a b c.recalc_region.new.self (given_tags c.recalc_region.new.tags)
    both.1 both.0 c.recalc_region.ensures.stays.geometry c.recalc_region.ensures.stays.first)
    (read_taking d awaiting c.args.maker.now old store c.args.block a c.requires.block is c.region_of-region.result c.region_of-region.ensures waits b
    (adds_taking c.args.maker.now c.region_of-region.result old store.geometry (sym c.requires.same) (given_tags store) a b c.recalc_region.ensures.moments)))
    (both_ok _ _ c.recalc_region.result c.recalc_region.ensures.done c.recalc_region.ensures.taken)

pub returns-then-awaits-clause-writes : goal.returns-then-awaits-clause-writes
returns-then-awaits-clause-writes g c =
    let old = c.args.recalculation.now in
    let store = c.args.tags.now in
    let rule = c.args.maker.now in
    tags_adds store.geometry (given_tags store) (λ x. region_tags (tagger_by rule store.geometry) store.geometry (awaiting_blocks old.awaiting) c.region_of-region.result x (given_tags store x))
    (adds_taking rule c.region_of-region.result old store.geometry (sym c.requires.same) (given_tags store) (g.D.Disk.moments c.args.disk.now) (g.D.Disk.moments c.recalc_region.new.disk) c.recalc_region.ensures.moments)

pub returns-clause-taken : goal.returns-clause-taken
returns-clause-taken g c d awaiting is =
    not_taken d awaiting c.args.maker.now c.args.recalculation.now c.args.tags.now c.args.block (g.D.Disk.moments c.args.disk.now) c.requires.block is c.region_of-region.result c.region_of-region.ensures
    (sym c.awaits.ensures ∙ c.if-awaits.false)

pub returns-clause-through : goal.returns-clause-through
returns-clause-through g c d awaiting is =
    (not_taken d awaiting c.args.maker.now c.args.recalculation.now c.args.tags.now c.args.block (g.D.Disk.moments c.args.disk.now) c.requires.block is c.region_of-region.result c.region_of-region.ensures
    (sym c.awaits.ensures ∙ c.if-awaits.false)).through

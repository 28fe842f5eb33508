use Rattle.std.proofs.Common.{rules, ◌≡◌, ◌<◌, ℕ, not, is_some, Bool, true, false, OnOk, Result, Ok, Err, sym, ◌∙◌, ap, subst}
use Rattle.std.proofs.lemmas.Bool.{and_from}
use Rattle.image_model.specs.Geometry.{region_of, regions}
use Rattle.image_model.proofs.Regions.{region_of-lt}
use Rattle.tag_store.specs.Store.{given_tags}
use Rattle.recalculation.specs.declared.recalculating.Recalculation.{Recalculation}
use Rattle.recalculation.specs.Awaiting.{awaiting_of}
use Rattle.recalculation.proofs.StepLemmas.{adds_taking, has_taken}
use Rattle.journal_mode.specs.Journal.{PlacedRing}
use Rattle.journal_mode.specs.Reads.{newest_in}
use Rattle.journal_device.specs.Answers.{takes_first}
use Rattle.journal_device.specs.Recalculating.{TakesIf, TakesIfIn}
use Rattle.journal_device.proofs.taking.take_first.Goals as goal

on_both : {T E P Q S : Type 0} (r : Result T E) → (P → Q → S) → OnOk r P → OnOk r Q → OnOk r S
on_both (Ok x) f p q = f p q
on_both (Err e) f p q = tt

-- The region awaits, and no section holds the block.
takes : (journal : PlacedRing) (recalculation : Recalculation) (block region : ℕ) → region ≡ region_of recalculation.awaiting.geometry block → awaiting_of recalculation.awaiting region ≡ true → is_some (newest_in journal.ring block) ≡ false
    → takes_first journal recalculation block ≡ true
takes journal recalculation block region here waits none =
    and_from (awaiting_of recalculation.awaiting (region_of recalculation.awaiting.geometry block)) (not (is_some (newest_in journal.ring block))) (sym (ap (awaiting_of recalculation.awaiting) here) ∙ waits) (ap not none)

pub awaits-requires : goal.awaits-requires
awaits-requires g c =
    let geometry = c.args.state.now.recalculation.awaiting.geometry in
    subst (λ (r : ℕ). r < regions geometry) (sym c.region_of-region.ensures) (region_of-lt geometry c.args.block c.requires.block)

pub recalc_region-requires-clause-region : goal.recalc_region-requires-clause-region
recalc_region-requires-clause-region g c =
    let geometry = c.args.state.now.recalculation.awaiting.geometry in
    subst (λ (r : ℕ). r < regions geometry) (sym c.region_of-region.ensures) (region_of-lt geometry c.args.block c.requires.block)

pub returns-clause-taken : goal.returns-clause-taken
returns-clause-taken g c =
    let old = c.args.state.now.recalculation in
    let store = c.args.tags.now in
    let rule = c.args.maker.now in
    let a = g.D.Disk.moments c.args.disk.now in
    let b = g.D.Disk.moments c.recalc_region.new.disk in
    let new : Recalculation = record { awaiting = c.recalc_region.new.self; position = old.position } in
    let waits : c.awaits.result ≡ true = search rules in
    let is = takes c.args.state.now.journal old c.args.block c.region_of-region.result c.region_of-region.ensures (sym c.awaits.ensures ∙ waits) (sym c.is_journaled.ensures.newest ∙ c.if-is_journaled.false) in
    subst (λ (t : Bool). OnOk c.recalc_region.result (TakesIf t rule (region_of old.awaiting.geometry c.args.block) old new store c.recalc_region.new.tags a b)) (sym is)
    (subst (λ (r : ℕ). OnOk c.recalc_region.result (TakesIf true rule r old new store c.recalc_region.new.tags a b)) c.region_of-region.ensures
    (on_both c.recalc_region.result (λ taken bits. has_taken rule c.region_of-region.result old store.geometry c.requires.same (given_tags store) a b c.recalc_region.new.self (given_tags c.recalc_region.new.tags) taken bits
    c.recalc_region.ensures.stays.geometry c.recalc_region.ensures.stays.first) c.recalc_region.ensures.taken c.recalc_region.ensures.done))

pub returns-clause-through : goal.returns-clause-through
returns-clause-through g c =
    let old = c.args.state.now.recalculation in
    let store = c.args.tags.now in
    let rule = c.args.maker.now in
    let a = g.D.Disk.moments c.args.disk.now in
    let b = g.D.Disk.moments c.recalc_region.new.disk in
    let waits : c.awaits.result ≡ true = search rules in
    let is = takes c.args.state.now.journal old c.args.block c.region_of-region.result c.region_of-region.ensures (sym c.awaits.ensures ∙ waits) (sym c.is_journaled.ensures.newest ∙ c.if-is_journaled.false) in
    subst (λ (t : Bool). TakesIfIn t rule (region_of old.awaiting.geometry c.args.block) old store a b) (sym is)
    (subst (λ (r : ℕ). TakesIfIn true rule r old store a b) c.region_of-region.ensures
    (adds_taking rule c.region_of-region.result old store.geometry c.requires.same (given_tags store) a b c.recalc_region.ensures.moments))

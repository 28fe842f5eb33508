use Rattle.std.proofs.Common.{◌≡◌, ◌<◌, true, refl, sym, ◌∙◌, ap, subst, ℕ, Option, Some}
use Rattle.std.specs.Prelude.{IfSome}
use Rattle.image_model.specs.Geometry.{Geometry, regions}
use Rattle.device_model.specs.Regions.{least_region}
use Rattle.bitmap_laws.proofs.CallLemmas.{kept_stands_law, still_law}
use Rattle.bitmap_laws.proofs.LeastLemmas.{least_found}
use Rattle.recalculation.specs.Awaiting.{awaiting_of}
use Rattle.recalculation.proofs.RestLemmas.{KeepsRest-still}
use Rattle.tag_store.specs.Store.{given_tags}
use Rattle.bitmap_mode.specs.States.{States}
use Rattle.bitmap_mode.specs.Reading.{AddsToRead}
use Rattle.bitmap_mode.proofs.RecalculationLemmas.{added_where, is_taken, take_through}
use Rattle.bitmap_mode.proofs.states.RegionStates.recalculate.Goals as goal

-- The region that was found is the least that awaits.
told_least : (inner s : States) (o : Option ℕ) (region : ℕ) → o ≡ Some region → o ≡ least_region (regions inner.awaiting.geometry) (awaiting_of inner.awaiting) → inner.awaiting.geometry ≡ inner.geometry → inner ≡ s
    → Some region ≡ least_region (regions s.geometry) (awaiting_of s.awaiting)
told_least inner s o region is told there view =
    sym is ∙ told ∙ ap (λ (y : Geometry). least_region (regions y) (awaiting_of inner.awaiting)) there ∙ ap (λ (x : States). least_region (regions x.geometry) (awaiting_of x.awaiting)) view

-- So it is one of those, and awaits.
least_is : (inner s : States) (o : Option ℕ) (region : ℕ) → o ≡ Some region → o ≡ least_region (regions inner.awaiting.geometry) (awaiting_of inner.awaiting) → inner.awaiting.geometry ≡ inner.geometry → inner ≡ s
    → (region < regions s.geometry) × (awaiting_of s.awaiting region ≡ true)
least_is inner s o region is told there view = least_found (regions s.geometry) (awaiting_of s.awaiting) region (sym (told_least inner s o region is told there view))

pub returns-in_default-clause-through : goal.returns-in_default-clause-through
returns-in_default-clause-through g c d marked stands =
    still_law d marked (g.D.Disk.moments c.args.disk.now) (g.D.Disk.moments c.args.disk.now) refl
    (kept_stands_law d marked (given_tags c.args.tags.now) (g.D.Disk.moments c.args.disk.now) stands.stands.now)

pub take-requires-clause-region : goal.take-requires-clause-region
take-requires-clause-region g c =
    let s : States = record { geometry = c.self.inside.geometry; bits = c.self.inside.bits; awaiting = c.self.inside.awaiting; fresh = c.self.inside.fresh } in
    (least_is s c.args.self.now c.next.result c.in-Some.region c.in-Some.is c.next.ensures c.self.invariant.awaiting_geometry c.self.view_is).0

pub take-requires-clause-awaits : goal.take-requires-clause-awaits
take-requires-clause-awaits g c =
    let s : States = record { geometry = c.self.inside.geometry; bits = c.self.inside.bits; awaiting = c.self.inside.awaiting; fresh = c.self.inside.fresh } in
    (least_is s c.args.self.now c.next.result c.in-Some.region c.in-Some.is c.next.ensures c.self.invariant.awaiting_geometry c.self.view_is).1

pub returns-in_err-take-clause-through : goal.returns-in_err-take-clause-through
returns-in_err-take-clause-through g c d marked stands =
    let s : States = record { geometry = c.self.inside.geometry; bits = c.self.inside.bits; awaiting = c.self.inside.awaiting; fresh = c.self.inside.fresh } in
    let least = least_is s c.args.self.now c.next.result c.in-Some.region c.in-Some.is c.next.ensures c.self.invariant.awaiting_geometry c.self.view_is in
    take_through d marked c.args.maker.now c.args.self.now c.args.tags.now stands c.requires.fits.same c.in-Some.region
    least.0 least.1 c.take.ensures.moments

pub returns-clause-through : goal.returns-clause-through
returns-clause-through g c d marked stands =
    let s : States = record { geometry = c.self.inside.geometry; bits = c.self.inside.bits; awaiting = c.self.inside.awaiting; fresh = c.self.inside.fresh } in
    let least = least_is s c.args.self.now c.next.result c.in-Some.region c.in-Some.is c.next.ensures c.self.invariant.awaiting_geometry c.self.view_is in
    take_through d marked c.args.maker.now c.args.self.now c.args.tags.now stands c.requires.fits.same c.in-Some.region
    least.0 least.1 c.take.ensures.moments

pub returns-clause-taken : goal.returns-clause-taken
returns-clause-taken g c d marked stands =
    let s : States = record { geometry = c.self.inside.geometry; bits = c.self.inside.bits; awaiting = c.self.inside.awaiting; fresh = c.self.inside.fresh } in
    let least = least_is s c.args.self.now c.next.result c.in-Some.region c.in-Some.is c.next.ensures c.self.invariant.awaiting_geometry c.self.view_is in
    is_taken d marked c.args.maker.now c.args.self.now c.args.tags.now stands c.requires.fits.same c.in-Some.region
    least.0 least.1 c.take.new.self c.take.new.tags c.take.ensures.stays.tags c.in_ok-take.ensures.counts c.in_ok-take.ensures.taken

pub returns-in_err-take-clause-moments : goal.returns-in_err-take-clause-moments
returns-in_err-take-clause-moments g c =
    let s : States = record { geometry = c.self.inside.geometry; bits = c.self.inside.bits; awaiting = c.self.inside.awaiting; fresh = c.self.inside.fresh } in
    let least = least_is s c.args.self.now c.next.result c.in-Some.region c.in-Some.is c.next.ensures c.self.invariant.awaiting_geometry c.self.view_is in
    let now = c.args.self.now in
    subst (λ (o : Option ℕ). IfSome o (λ region. AddsToRead c.args.maker.now now region c.args.tags.now (g.D.Disk.moments c.args.disk.now) (g.D.Disk.moments c.take.new.disk)))
    (told_least s now c.next.result c.in-Some.region c.in-Some.is c.next.ensures c.self.invariant.awaiting_geometry c.self.view_is)
    (added_where c.args.maker.now now c.in-Some.region c.args.tags.now least.1 c.take.ensures.moments)

pub returns-clause-moments : goal.returns-clause-moments
returns-clause-moments g c =
    let s : States = record { geometry = c.self.inside.geometry; bits = c.self.inside.bits; awaiting = c.self.inside.awaiting; fresh = c.self.inside.fresh } in
    let least = least_is s c.args.self.now c.next.result c.in-Some.region c.in-Some.is c.next.ensures c.self.invariant.awaiting_geometry c.self.view_is in
    let now = c.args.self.now in
    subst (λ (o : Option ℕ). IfSome o (λ region. AddsToRead c.args.maker.now now region c.args.tags.now (g.D.Disk.moments c.args.disk.now) (g.D.Disk.moments c.take.new.disk)))
    (told_least s now c.next.result c.in-Some.region c.in-Some.is c.next.ensures c.self.invariant.awaiting_geometry c.self.view_is)
    (added_where c.args.maker.now now c.in-Some.region c.args.tags.now least.1 c.take.ensures.moments)

pub returns-in_default-clause-rest : goal.returns-in_default-clause-rest
returns-in_default-clause-rest g c = KeepsRest-still c.args.tags.now (g.D.Disk.moments c.args.disk.now) (g.D.Disk.moments c.args.disk.now) refl

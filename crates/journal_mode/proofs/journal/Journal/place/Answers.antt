use Rattle.std.proofs.Common.{◌≡◌, sym, ◌∙◌, ap, subst}
use Rattle.std.specs.Prelude.{IfOk}
use Rattle.journal_model.specs.JournaledDisk.{JournaledDisk}
use Rattle.journal_model.specs.Steps.{after_place}
use Rattle.replay.specs.Moves.{GivesNext, HasPlaced, IsPlacedOn, WritesNext, after_placing}
use Rattle.journal_mode.specs.Journal.{PlacedRing}
use Rattle.journal_mode.specs.Moves.{PlacesAs}
use Rattle.journal_mode.specs.Standing.{JournalStanding, StandsAs}
use Rattle.journal_mode.proofs.GivesLemmas.{told_next}
use Rattle.journal_mode.proofs.MovesLemmas.{if_ok_and, if_ok_both, left_cut, places_as}
use Rattle.journal_mode.proofs.journal.Journal.place.Goals as goal

pub place-requires-clause-geometry : goal.place-requires-clause-geometry
place-requires-clause-geometry g c = ap (λ (j : PlacedRing). j.ring.geometry) c.self.view_is ∙ c.requires.geometry

pub invariant_of-self : goal.invariant_of-self
invariant_of-self g c = record {
  geometry = c.self.invariant.geometry;
  bounds = c.self.invariant.bounds;
  few = c.self.invariant.few;
  placement = c.place.ensures.placement;
  room = c.self.invariant.room;
  kept = c.self.invariant.kept;
}

pub returns-clause-moved : goal.returns-clause-moved
returns-clause-moved g c =
    subst (λ (j : PlacedRing). IfOk c.place.result (λ moved. HasPlaced moved j.placement c.place.new.self j.ring c.args.tags.now c.place.new.tags c.args.disk.now c.place.new.disk)) c.self.view_is
    c.place.ensures.moved

pub returns-clause-placed : goal.returns-clause-placed
returns-clause-placed g c =
    let view : PlacedRing = record { ring = c.self.inside.ring; placement = c.self.inside.placer } in
    let store = c.args.tags.now in
    let then_ = c.place.new.tags in
    let before = g.D.Disk.moments c.args.disk.now in
    let after = g.D.Disk.moments c.place.new.disk in
    let new : PlacedRing = record { ring = c.self.inside.ring; placement = c.place.new.self } in
    let same : view.ring.geometry ≡ store.geometry = ap (λ (j : PlacedRing). j.ring.geometry) c.self.view_is ∙ c.requires.geometry in
    if_ok_both c.place.result (λ moved. HasPlaced moved c.self.inside.placer c.place.new.self c.self.inside.ring store then_ c.args.disk.now c.place.new.disk)
    (λ moved. ((d : JournaledDisk) → IsPlacedOn d c.self.inside.placer c.self.inside.ring store before → IsPlacedOn (after_placing moved d) c.place.new.self c.self.inside.ring then_ after)
    × GivesNext c.self.inside.placer c.self.inside.ring store then_ before after)
    (λ moved. (w : JournalStanding) → StandsAs w c.args.self.now store before → PlacesAs moved w new store then_ before after)
    (λ moved has on w stands.
    let there : StandsAs w view store before = subst (λ (j : PlacedRing). StandsAs w j store before) (sym c.self.view_is) stands in
    places_as w view store before there moved c.place.new.self then_ after c.args.disk.now c.place.new.disk has (on.0 w.disk there.placed) same
    (told_next c.self.inside.placer c.self.inside.ring before after c.place.ensures.moments) on.1)
    c.place.ensures.moved
    (if_ok_and c.place.result (λ moved. (d : JournaledDisk) → IsPlacedOn d c.self.inside.placer c.self.inside.ring store before → IsPlacedOn (after_placing moved d) c.place.new.self c.self.inside.ring then_ after)
    (GivesNext c.self.inside.placer c.self.inside.ring store then_ before after) c.place.ensures.placed c.place.ensures.tags)

pub returns-clause-left : goal.returns-clause-left
returns-clause-left g c w stands =
    let view : PlacedRing = record { ring = c.self.inside.ring; placement = c.self.inside.placer } in
    let there = subst (λ (j : PlacedRing). StandsAs w j c.args.tags.now (g.D.Disk.moments c.args.disk.now)) (sym c.self.view_is) stands in
    left_cut w view c.args.tags.now (after_place w.disk) there (c.place.ensures.cuts w.disk there.placed)

pub returns-clause-moments : goal.returns-clause-moments
returns-clause-moments g c =
    subst (λ (j : PlacedRing). WritesNext j.placement j.ring (g.D.Disk.moments c.args.disk.now) (g.D.Disk.moments c.place.new.disk)) c.self.view_is c.place.ensures.moments

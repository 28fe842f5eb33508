use Rattle.std.proofs.Common.{◌≡◌, ◌↔◌, ◌^◌, ◌∷◌, ◌++◌, [], true, refl, rules, sym, ◌∙◌, ap, subst}
use Rattle.std.specs.Prelude.{IsOk}
use Rattle.replay.specs.DirectModeCells.{IsTaggedBlock, block_write}
use Rattle.journal_model.specs.Ring.{JournalRing, has_room}
use Rattle.journal_overlay.specs.Kept.{Places, added}
use Rattle.journal_ring.specs.Places.{entry_of}
use Rattle.journal_mode.specs.Journal.{IsJournal, PlacedRing}
use Rattle.journal_mode.specs.Puts.{HasPut, TakesWrite}
use Rattle.journal_mode.proofs.PutLemmas.{has_spare, put_is}
use Rattle.journal_mode.proofs.PutsLemmas.{block_of-entry, counted, counted_ok, entry_is_whole, has_put, sector_low}
use Rattle.journal_mode.proofs.journal.Journal.put.Goals as goal

pub put-requires-clause-block : goal.put-requires-clause-block
put-requires-clause-block c =
    let tagged = subst (λ (j : PlacedRing). IsTaggedBlock j.ring.geometry c.args.block c.args.bytes.now c.args.tag.now) (sym c.self.view_is) c.requires.block in
    sector_low c.self.inside.ring.geometry (2 ^ 48) c.args.block c.self.invariant.geometry tagged.block_.low

pub invariant_of-self : goal.invariant_of-self
invariant_of-self c = subst (λ (r : JournalRing). IsJournal r c.self.inside.placer c.self.inside.overlay) (sym c.in_err-place.ensures.err) c.self.invariant

pub returns-in_err-place-clause-counted : goal.returns-in_err-place-clause-counted
returns-in_err-place-clause-counted c w device =
    let room : IsOk c.from_residual.result ↔ (has_room c.args.self.now.ring ≡ true) = search rules in
    counted w c.args.self.now.ring c.args.block c.from_residual.result device room

pub add-requires : goal.add-requires
add-requires c = record { room = has_spare c.self.inside.ring c.self.inside.placer c.self.inside.overlay c.self.invariant (c.in_ok-place.ensures.room.0 refl) }

pub invariant_of-self-2 : goal.invariant_of-self-2
invariant_of-self-2 c =
    let ring = c.self.inside.ring in
    let placer = c.self.inside.placer in
    let overlay = c.self.inside.overlay in
    let tagged = subst (λ (j : PlacedRing). IsTaggedBlock j.ring.geometry c.args.block c.args.bytes.now c.args.tag.now) (sym c.self.view_is) c.requires.block in
    let some = c.self.invariant.geometry.spb.0 in
    subst (λ (o : Places). IsJournal c.put.new.self placer o) (sym c.add.ensures)
    (subst (λ (r : JournalRing). IsJournal r placer (let o : Places = record overlay { kept = overlay.kept ++ added c.args.block c.in_ok-place.place ∷ [] } in o)) (sym c.in_ok-place.ensures.put)
    (put_is ring placer overlay (entry_of ring.geometry c.args.block c.args.bytes.now c.args.tag.now) c.args.block c.in_ok-place.place c.self.invariant (c.in_ok-place.ensures.room.0 refl)
    (entry_is_whole ring.geometry c.args.block c.args.bytes.now c.args.tag.now some tagged)
    (block_of-entry ring.geometry c.args.block c.args.bytes.now c.args.tag.now some) c.in_ok-place.ensures.place))

pub returns-clause-written : goal.returns-clause-written
returns-clause-written c w ticket store moments takes =
    let view : PlacedRing = record { ring = c.self.inside.ring; placement = c.self.inside.placer } in
    let tagged = subst (λ (j : PlacedRing). IsTaggedBlock j.ring.geometry c.args.block c.args.bytes.now c.args.tag.now) (sym c.self.view_is) c.requires.block in
    let write = block_write ticket c.args.block c.args.bytes.now in
    subst (λ (r : JournalRing). HasPut w write (let new : PlacedRing = record { ring = r; placement = c.self.inside.placer } in new) store moments) (sym c.in_ok-place.ensures.put)
    (has_put w view store moments c.args.block ticket c.args.bytes.now c.args.tag.now
    (subst (λ (j : PlacedRing). TakesWrite w write c.args.tag.now j store moments) (sym c.self.view_is) takes) tagged (c.in_ok-place.ensures.room.0 refl))

pub returns-clause-counted : goal.returns-clause-counted
returns-clause-counted c w device =
    counted_ok w c.args.self.now.ring c.args.block device (ap (λ (j : PlacedRing). has_room j.ring) (sym c.self.view_is) ∙ c.in_ok-place.ensures.room.0 refl)

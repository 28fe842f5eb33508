-- Each step that does something leaves its actor fewer to do.
use Rattle.std.proofs.Common.{◌≡◌, ◌≢◌, ℕ, suc, ◌-◌, ◌<◌, ◌≤◌, leb, Bool, true, false, if◌then◌else◌, Option, Some, None, List, [], ◌∷◌, length, drop, refl, sym, ◌∙◌, ap, arith, length-drop}
use Rattle.disk_model.specs.Disk.{Content}
use Rattle.image_model.specs.Section.{Entry}
use Rattle.journal_model.specs.Ring.{JournalRing, entries_of, next_batch, unplaced_from}
use Rattle.journal_ring.specs.RoomLaws.{HasBounds}
use Rattle.journal_ring.specs.declared.ring.Moved.{Moved}
use Rattle.journal_ring.specs.declared.ring.Moved.TheVariants.{Did, Idle}
use Rattle.journal_mode.specs.PlaceWriterMoves.{HasPlaced, HasSettled}
use Rattle.journal_mode.specs.Placement.{placed_in}
use Rattle.tag_store.specs.Store.{Store, given_tags}
use Rattle.image_model.specs.Geometry.{Geometry}
use Rattle.image_model.specs.Superblock.{Superblock}
use Rattle.hmac_tag.specs.TagMaker.{TagRule}
use Rattle.recalculation.specs.declared.recalculating.Recalculation.{Recalculation}
use Rattle.recalculation.specs.Awaiting.{AwaitingRegions, awaiting_of}
use Rattle.recalculation.specs.Position.{HasMoved, fields_to_write}
use Rattle.recalculation.specs.Recalculation.{fields_or, to_write}
use Rattle.device_model.specs.declared.actor.Actor.TheVariants as Actors
use Rattle.device_parts.specs.declared.answers.Moved.TheVariants as Moves
use Rattle.journal_mode.specs.Commits.{HasCommitted}
use Rattle.journal_mode.specs.Journal.{PlacedRing}
use Rattle.journal_mode.proofs.MovesLemmas.{unplaced_few}
use Rattle.journal_device.specs.Answers.{AdvancesAs, moved_as, steps_left}
use Rattle.journal_device.specs.Recalculating.{HasStepped}
use Rattle.journal_device.proofs.OverDisk.{state_of}

pub not_did : Moves.Idle ≡ Moves.Did → ⊥
not_did same = cc

-- ---- a commit

drop_fewer : (n : ℕ) (xs : List (List Entry)) → xs ≢ [] → 1 ≤ n → length (drop n xs) < length xs
drop_fewer n [] some low = absurd (some refl)
drop_fewer n (x ∷ xs) some low = omega (arith, length-drop n (x ∷ xs), low)

batch_some : (ring : JournalRing) → HasBounds ring → ring.opened ≢ [] → 1 ≤ next_batch ring
batch_some ring bounds some = by ring.opened some
  where
    by : (opened : List (List Entry)) → opened ≢ [] → 1 ≤ next_batch (record ring { opened = opened })
    by [] some = absurd (some refl)
    by (x ∷ xs) some = omega (arith, bounds.inside)

pub commit_fewer : {A : Type 0} (moved : Moved) (old new : PlacedRing) (first last : A) (recalculation now : Recalculation) (a b : List Content)
    → HasBounds old.ring → HasCommitted moved old new first last a b → moved_as moved ≡ Moves.Did
    → steps_left Actors.Commit (state_of new now) < steps_left Actors.Commit (state_of old recalculation)
commit_fewer Did old new first last recalculation now a b bounds has did =
    rw has.journal (drop_fewer (next_batch old.ring) old.ring.opened has.some (batch_some old.ring bounds has.some))
commit_fewer Idle old new first last recalculation now a b bounds has did = absurd (not_did did)

-- ---- a place

pub place_fewer : {A : Type 0} (moved : Moved) (old new : PlacedRing) (before after : Store) (first last : A) (recalculation now : Recalculation)
    → HasPlaced moved old.placement new.placement old.ring before after first last → new.ring ≡ old.ring
    → moved_as moved ≡ Moves.Did → steps_left Actors.Place (state_of new now) < steps_left Actors.Place (state_of old recalculation)
place_fewer Did old new before after first last recalculation now has same did =
    let next : placed_in new.placement new.ring ≡ placed_in new.placement old.ring = ap (placed_in new.placement) same in
    let all : length (entries_of new.ring.committed) ≡ length (entries_of old.ring.committed) =
    ap (λ (r : JournalRing). length (entries_of r.committed)) same in
    omega (arith, has.more, has.next, next, all)
place_fewer Idle old new before after first last recalculation now has same did = absurd (not_did did)

-- ---- a settle

freed_some : (placed : ℕ) (xs : List (List Entry)) → unplaced_from placed xs ≢ xs
    → length (unplaced_from placed xs) < length xs
freed_some placed [] other = absurd (other refl)
freed_some placed (x ∷ xs) other = by (leb (length x) placed) refl
  where
    by : (t : Bool) → leb (length x) placed ≡ t
        → length (if t then unplaced_from (placed - length x) xs else x ∷ xs) < suc (length xs)
    by true e = omega (arith, unplaced_few (placed - length x) xs)
    by false e =
        absurd (other (ap (λ (t : Bool). if t then unplaced_from (placed - length x) xs else x ∷ xs) e))

pub settle_fewer : {A : Type 0} (moved : Moved) (old new : PlacedRing) (before after : Store) (first last : A) (recalculation now : Recalculation)
    → HasSettled moved old.placement new.placement old.ring new.ring before after first last
    → moved_as moved ≡ Moves.Did → steps_left Actors.Settle (state_of new now) < steps_left Actors.Settle (state_of old recalculation)
settle_fewer Did old new before after first last recalculation now has did =
    let n = placed_in old.placement old.ring in
    rw has.left_is (freed_some n old.ring.committed
    (λ same. has.some (ap (λ (xs : List (List Entry)). record old.ring { committed = xs }) same)))
settle_fewer Idle old new before after first last recalculation now has did = absurd (not_did did)

-- ---- a recalculation

pub recalc_fewer : {A : Type 0} (moved : Moved) (rule : TagRule) (old new : Recalculation) (before after : Store) (journal put : PlacedRing) (moments : A → List Content) (first last : A)
    → HasStepped moved rule old new before after moments first last → moved_as moved ≡ Moves.Did
    → steps_left Actors.Recalc (state_of put new) < steps_left Actors.Recalc (state_of journal old)
recalc_fewer Did rule old new before after journal put moments first last has did = has.fewer
recalc_fewer Idle rule old new before after journal put moments first last has did = absurd (not_did did)

moved_fields_or : (o : Option Superblock) (g : Geometry) (tags : Content → ℕ → List ℕ) (old new : Superblock) (a b : List Content) → HasMoved o g tags old new a b → new ≡ fields_or o old
moved_fields_or None g tags old new a b has = has.0
moved_fields_or (Some fields) g tags old new a b has = has.0

pub recalc_advances : {A : Type 0} (moved : Moved) (rule : TagRule) (old new : Recalculation) (before after : Store) (moments : A → List Content) (first last : A) → HasStepped moved rule old new before after moments first last
    → AdvancesAs Actors.Recalc (moved_as moved) old new
recalc_advances Did rule old new before after moments first last has =
    let settles = has.steps.settles in
    let takes = has.steps.takes in
    let mid = has.steps.mid in
    moved_fields_or (to_write mid) before.geometry (given_tags after) mid.position new.position settles.between (moments last) settles.moves
    ∙ ap (λ (s : Superblock). fields_or (fields_to_write s mid.awaiting.geometry (awaiting_of mid.awaiting)) s) takes.position
    ∙ ap (λ (g : Geometry). fields_or (fields_to_write old.position g (awaiting_of mid.awaiting)) old.position) takes.geometry
    ∙ ap (λ (x : AwaitingRegions). fields_or (fields_to_write old.position old.awaiting.geometry (awaiting_of x)) old.position) (sym settles.awaiting)
recalc_advances Idle rule old new before after moments first last has = has.recalc_

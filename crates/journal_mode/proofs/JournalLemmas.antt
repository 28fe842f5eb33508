-- A journal that was just opened.
use Rattle.std.proofs.Common.{ℕ, ◌*◌, ◌^◌, ◌<◌, ◌≤◌, arith}
use Rattle.std.proofs.Math.Nat.{mul-le-mul_left}
use Rattle.image_model.specs.Geometry.{Geometry, IsGeometry, section_entries}
use Rattle.journal_model.specs.Ring.{empty_ring}
use Rattle.journal_overlay.specs.Kept.{Places}
use Rattle.journal_ring.proofs.RingLemmas.{entries_few, sections_few}
use Rattle.replay.proofs.PlacingLawsLemmas.{begins_law}
use Rattle.journal_mode.specs.Journal.{IsJournal, IsRoom}

pub opened_is : (g : Geometry) (next number : ℕ) (overlay : Places) → IsRoom g overlay → next < g.sections → IsJournal (empty_ring g next number) (record { sections = 0; entries = 0 }) overlay
opened_is g next number overlay is low = record {
  geometry = is.geometry;
  bounds = record { inside = low; fits = omega arith };
  few = tt;
  placement = begins_law g next number;
  room = is.room;
  kept = is.none;
}

-- How many entries a journal can hold is no more than 28 bits wide.
pub entries_fit : (g : Geometry) → IsGeometry g (2 ^ 48) → g.sections * section_entries g.shape < 2 ^ 28
entries_fit g is = let sections = sections_few g is in let entries = entries_few g is in small g.sections (section_entries g.shape) sections entries
  where
    small : (a b : ℕ) → a < 2 ^ 20 → b ≤ 168 → a * b < 2 ^ 28
    small a b low few = let le = mul-le-mul_left a few in omega (arith, le)

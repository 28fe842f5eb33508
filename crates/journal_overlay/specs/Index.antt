-- What is told of each block and of each section: its last kept node.
use Rattle.std.specs.Prelude.{◌≡◌, ◌≢◌, ℕ, ◌<◌, ◌≤◌, ◌^◌, List, length, get_or, filter, not, Option, vec_capacity}
use Rattle.journal_overlay.specs.declared.table.Slot.{Slot}
use Rattle.journal_overlay.specs.declared.table.Slot.TheVariants.{Free}
use Rattle.journal_overlay.specs.declared.node.Node.{Node}
use Rattle.journal_overlay.specs.declared.place_log.PlaceLog.{PlaceLog}
use Rattle.journal_overlay.specs.Nodes.{AreLinked, IsLast, kept_of, kept_in, kept_places, node_at, TellsPlace}
use Rattle.journal_overlay.specs.Kept.{is_in}
use Rattle.journal_overlay.specs.Slots.{IsTable, last_at}

-- The nodes lead to each other, two tables have room for as many keys as there may be nodes, and the first tells of
-- each block its last kept node, with its place.
pub record IsIndex (room blocks : ℕ) (block_slots : List Slot) (sections : ℕ) (section_slots : List Slot)
    (nodes : List Node) : Type 0 where
  pub block_table : IsTable room (length nodes) blocks block_slots
  pub section_table : IsTable room (length nodes) sections section_slots
  pub linked : AreLinked nodes
  pub newest : (b : ℕ) → IsLast (kept_of b) (last_at blocks block_slots b) nodes
  pub places : (s : ℕ) → TellsPlace (get_or block_slots s Free) nodes

-- The table tells of each section its last kept node,
abbrev pub TellsLatest : (homes : ℕ) → List Slot → List Node → Type 0
TellsLatest homes slots nodes = (i : ℕ) → IsLast (kept_in i) (last_at homes slots i) nodes

-- of each but one.
abbrev pub TellsOthers : (homes : ℕ) → List Slot → List Node → ℕ → Type 0
TellsOthers homes slots nodes section = (i : ℕ) → i ≢ section → IsLast (kept_in i) (last_at homes slots i) nodes

-- The nodes have room, those that are kept are counted, and the tables tell of each block its last kept node.
pub record IsLog (log : PlaceLog) : Type 0 where
  pub few : length log.nodes.items ≤ log.room
  pub reserved : log.room ≤ vec_capacity log.nodes
  pub small : log.room < 2 ^ 32
  pub counted : log.kept ≡ length (filter (λ n. n.is_kept) log.nodes.items)
  pub index : IsIndex log.room log.blocks.homes log.blocks.slots.items log.sections.homes log.sections.slots.items
      log.nodes.items

-- And of each section.
pub record IsWhole (log : PlaceLog) : Type 0 where
  pub is_log : IsLog log
  pub latest : TellsLatest log.sections.homes log.sections.slots.items log.nodes.items

-- Of each section but this one, of which `last` is the last kept node.
pub record IsWholeBut (section : ℕ) (last : Option ℕ) (log : PlaceLog) : Type 0 where
  pub is_log : IsLog log
  pub others : TellsOthers log.sections.homes log.sections.slots.items log.nodes.items section
  pub last_is : IsLast (kept_in section) last log.nodes.items

-- The section of the k-th node.
abbrev pub section_at : ℕ → PlaceLog → ℕ
section_at k log = (node_at log.nodes.items k).added.place.section

-- The kept places of other sections stay, and so do the room, the number of nodes and the table of sections.
pub record OthersStay (section : ℕ) (old new : PlaceLog) : Type 0 where
  pub places : filter (λ a. not (is_in section a)) (kept_places new.nodes.items)
      ≡ filter (λ a. not (is_in section a)) (kept_places old.nodes.items)
  pub room : new.room ≡ old.room
  pub nodes : length new.nodes.items ≡ length old.nodes.items
  pub table : new.sections ≡ old.sections

-- The log has room for more nodes than places can be kept, and its kept places can be moved together.
pub record IsOverlay (capacity : ℕ) (log : PlaceLog) (moved : ℕ) : Type 0 where
  pub whole : IsWhole log
  pub few : log.kept ≤ capacity
  pub room : capacity < log.room
  pub reserved : capacity ≤ moved

-- The places in order of adding, dropped ones among them, and how each leads to an older one.
use Rattle.std.specs.Prelude.{◌≡◌, ℕ, suc, ◌<◌, ◌≤◌, ◌==◌, Bool, true, false, ◌&&◌, List, length, map, filter, get_or, Option, Some, None, option_map}
use Rattle.journal_overlay.specs.declared.place.Added.{Added}
use Rattle.journal_overlay.specs.declared.node.Node.{Node}
use Rattle.journal_overlay.specs.declared.table.Last.{Last}
use Rattle.journal_overlay.specs.declared.table.Slot.{Slot}
use Rattle.journal_overlay.specs.declared.table.Slot.TheVariants.{Free, Gone, Told}
use Rattle.journal_overlay.specs.Kept.{added}

-- A node that is not kept, for a place behind the last.
abbrev pub no_node : Node
no_node = record { added = added 0 (record { section = 0; entry = 0 }); is_kept = false; older = None; fellow = None }

abbrev pub node_at : List Node → ℕ → Node
node_at nodes k = get_or nodes k no_node

-- The node, no longer kept.
abbrev pub dropped : Node → Node
dropped n = record n { is_kept = false }

-- What is kept of some nodes, in order.
abbrev pub kept_places : List Node → List Added
kept_places nodes = map (λ n. n.added) (filter (λ n. n.is_kept) nodes)

abbrev pub kept_of : ℕ → Node → Bool
kept_of block n = n.is_kept && (n.added.block == block)

abbrev pub kept_in : ℕ → Node → Bool
kept_in section n = n.is_kept && (n.added.place.section == section)

-- The nodes behind this one begin here, and all do where there is none.
abbrev pub behind : Option ℕ → ℕ
behind None = 0
behind (Some k) = suc k

-- What a table is told of a key that stands last at this node, if there is one.
abbrev pub last_of : List Node → Option ℕ → Option Last
last_of nodes at = option_map (λ k. record { at = k; place = (node_at nodes k).added.place }) at

-- The place that a slot tells is that of the node that it tells.
abbrev pub TellsPlace : Slot → List Node → Type 0
TellsPlace Free nodes = Unit {0}
TellsPlace (Gone own) nodes = Unit {0}
TellsPlace (Told at own place) nodes = (at < length nodes) × ((node_at nodes at).added.place ≡ place)

-- No node from the i-th on and before the k-th passes.
abbrev pub NoneBetween : (Node → Bool) → (i k : ℕ) → List Node → Type 0
NoneBetween p i k nodes = (j : ℕ) → i ≤ j → j < k → p (node_at nodes j) ≡ false

-- If there is a node, it passes.
abbrev pub IsHere : (Node → Bool) → Option ℕ → List Node → Type 0
IsHere p None nodes = Unit {0}
IsHere p (Some k) nodes = p (node_at nodes k) ≡ true

-- It is the last node that passes, if one does.
pub record IsLast (p : Node → Bool) (last : Option ℕ) (nodes : List Node) : Type 0 where
  pub here : IsHere p last nodes
  pub none_behind : (j : ℕ) → behind last ≤ j → p (node_at nodes j) ≡ false

-- A node of the block before the k-th, if there is one, and no kept node of the block between them.
pub record IsBack (block : ℕ) (from : Option ℕ) (k : ℕ) (nodes : List Node) : Type 0 where
  pub before : behind from ≤ k
  pub block_is : (j : ℕ) → from ≡ Some j → (node_at nodes j).added.block ≡ block
  pub none_between : NoneBetween (kept_of block) (behind from) k nodes

-- While the k-th node is kept, its fellow is the last kept node of its section before it, if there is one.
pub record IsFellow (k : ℕ) (n : Node) (nodes : List Node) : Type 0 where
  pub before : behind n.fellow ≤ k
  pub here : n.is_kept ≡ true → IsHere (kept_in n.added.place.section) n.fellow nodes
  pub none_between : n.is_kept ≡ true → NoneBetween (kept_in n.added.place.section) (behind n.fellow) k nodes

-- Each node leads to an older one of its block and to one of its section.
pub record AreLinked (nodes : List Node) : Type 0 where
  pub older : (k : ℕ) → k < length nodes → IsBack (node_at nodes k).added.block (node_at nodes k).older k nodes
  pub fellow : (k : ℕ) → k < length nodes → IsFellow k (node_at nodes k) nodes

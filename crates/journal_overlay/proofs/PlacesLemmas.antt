-- The places that slots tell, once a node is added or dropped.
use Rattle.std.proofs.Common.{◌≡◌, inl, inr, ℕ, ◌<◌, ◌≤◌, List, [], ◌∷◌, ◌++◌, length, set, get_or, Option, None, Some, option_map, refl, sym, ◌∙◌, ap, subst, arith, length-set, get_or-set_same, get_or-set_other}
use Rattle.std.proofs.lemmas.Bool.{cases_eq}
use Rattle.std.proofs.lemmas.List.{get_or_at, get_or_append_left, length-append}
use Rattle.journal_overlay.specs.Nodes.{no_node, node_at, dropped, behind, last_of, TellsPlace}
use Rattle.journal_overlay.specs.Slots.{last_in, place_in, slot_with}
use Rattle.journal_overlay.specs.declared.node.Node.{Node}
use Rattle.image_model.specs.declared.entry_place.EntryPlace.{EntryPlace}
use Rattle.journal_overlay.specs.declared.table.Slot.{Slot}
use Rattle.journal_overlay.specs.declared.table.Slot.TheVariants.{Free, Gone, Told}

-- A table is told the node that it is told of.
pub last_of-at : (nodes : List Node) (at : Option ℕ) → option_map (λ l. l.at) (last_of nodes at) ≡ at
last_of-at nodes None = refl
last_of-at nodes (Some k) = refl

-- A slot tells the place of the node that it is made with.
pub TellsPlace-with : (nodes : List Node) (key : ℕ) (at : Option ℕ) → behind at ≤ length nodes → TellsPlace (slot_with key (last_of nodes at)) nodes
TellsPlace-with nodes key None there = tt
TellsPlace-with nodes key (Some k) there = (there, refl)

-- The place that a slot tells is that of the node that it tells.
pub place_in-node : (slot : Slot) (nodes : List Node) → TellsPlace slot nodes → place_in slot ≡ option_map (λ k. (node_at nodes k).added.place) (last_in slot)
place_in-node Free nodes tells = refl
place_in-node (Gone own) nodes tells = refl
place_in-node (Told at own place) nodes tells = ap (λ (p : EntryPlace). Some p) (sym tells.1)

-- Where one slot is set, each tells its place as before.
pub TellsPlace-set : (slots : List Slot) (s : ℕ) (slot : Slot) (nodes : List Node) → s < length slots → TellsPlace slot nodes
    → ((j : ℕ) → TellsPlace (get_or slots j Free) nodes) → (j : ℕ) → TellsPlace (get_or (set slots s slot) j Free) nodes
TellsPlace-set slots s slot nodes there own others j = elim (cases_eq j s) [
  | inl e ↦ subst (λ (i : ℕ). TellsPlace (get_or (set slots s slot) i Free) nodes) (sym e)
      (subst (λ (x : Slot). TellsPlace x nodes) (sym (get_or-set_same slots s slot Free there)) own)
  | inr apart ↦ subst (λ (x : Slot). TellsPlace x nodes) (sym (get_or-set_other slots s j slot Free apart)) (others j)
]

-- It stays where a node is added,
pub TellsPlace-more : (nodes : List Node) (n : Node) (slot : Slot) → TellsPlace slot nodes → TellsPlace slot (nodes ++ n ∷ [])
TellsPlace-more nodes n Free tells = tt
TellsPlace-more nodes n (Gone own) tells = tt
TellsPlace-more nodes n (Told at own place) tells = (
  omega (arith, tells.0, length-append nodes (n ∷ [])),
  ap (λ (x : Node). x.added.place) (get_or_append_left nodes (n ∷ []) no_node at tells.0) ∙ tells.1,
)

-- and a slot may be made with the new one.
pub TellsPlace-new : (nodes : List Node) (n : Node) (key : ℕ) → TellsPlace (slot_with key (Some (record { at = length nodes; place = n.added.place }))) (nodes ++ n ∷ [])
TellsPlace-new nodes n key = (
  omega (arith, length-append nodes (n ∷ [])),
  ap (λ (x : Node). x.added.place) (get_or_at nodes n [] no_node (length nodes) refl),
)

-- A node that is dropped keeps its place.
pub TellsPlace-drop : (nodes : List Node) (m : ℕ) → m < length nodes → (slot : Slot) → TellsPlace slot nodes → TellsPlace slot (set nodes m (dropped (node_at nodes m)))
TellsPlace-drop nodes m there Free tells = tt
TellsPlace-drop nodes m there (Gone own) tells = tt
TellsPlace-drop nodes m there (Told at own place) tells = (
  omega (arith, tells.0, length-set nodes m (dropped (node_at nodes m))),
  same ∙ tells.1,
)
  where
    same : (node_at (set nodes m (dropped (node_at nodes m))) at).added.place ≡ (node_at nodes at).added.place
    same = elim (cases_eq at m) [
      | inl e ↦
          ap (λ (k : ℕ). (node_at (set nodes m (dropped (node_at nodes m))) k).added.place) e
          ∙ ap (λ (x : Node). x.added.place) (get_or-set_same nodes m (dropped (node_at nodes m)) no_node there)
          ∙ ap (λ (k : ℕ). (node_at nodes k).added.place) (sym e)
      | inr apart ↦ ap (λ (x : Node). x.added.place) (get_or-set_other nodes m at (dropped (node_at nodes m)) no_node apart)
    ]

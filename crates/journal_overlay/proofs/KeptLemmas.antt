-- The places that are kept of some nodes.
use Rattle.std.proofs.Common.{◌≡◌, ℕ, zero, suc, ◌<◌, ◌≤◌, ◌==◌, inl, inr, Bool, true, false, ◌&&◌, not, List, [], ◌∷◌, ◌++◌, length, set, take, filter, if◌then◌else◌, Option, None, Some, option_map, refl, sym, ◌∙◌, ap, arith}
use Rattle.std.specs.Option.{option_or}
use Rattle.std.proofs.lemmas.Bool.{cases_Bool}
use Rattle.std.proofs.lemmas.List.{length-map}
use Rattle.journal_overlay.specs.Kept.{newest_of, is_in}
use Rattle.journal_overlay.specs.Nodes.{node_at, dropped, kept_places, kept_of, IsLast}
use Rattle.journal_overlay.specs.declared.node.Node.{Node}
use Rattle.journal_overlay.specs.declared.place.Added.{Added}
use Rattle.image_model.specs.declared.entry_place.EntryPlace.{EntryPlace}

true-false : true ≡ false → ⊥
true-false e = cc

-- One less is kept where a kept node is dropped.
pub length-kept-drop : (nodes : List Node) (m : ℕ) → (node_at nodes m).is_kept ≡ true
    → suc (length (filter (λ n. n.is_kept) (set nodes m (dropped (node_at nodes m))))) ≡ length (filter (λ n. n.is_kept) nodes)
length-kept-drop [] m kept = absurd (true-false (sym kept))
length-kept-drop (x ∷ nodes) zero kept = simp kept
length-kept-drop (x ∷ nodes) (suc m) kept = elim (cases_Bool x.is_kept) [
  | inl stays ↦ simp stays (ap suc (length-kept-drop nodes m kept))
  | inr gone ↦ simp gone (length-kept-drop nodes m kept)
]

-- The kept places that pass stay, where that of the dropped node does not.
pub kept_places-drop : (q : Added → Bool) (nodes : List Node) (m : ℕ) → q (node_at nodes m).added ≡ false
    → filter q (kept_places (set nodes m (dropped (node_at nodes m)))) ≡ filter q (kept_places nodes)
kept_places-drop q [] m fails = refl
kept_places-drop q (x ∷ nodes) zero fails = elim (cases_Bool x.is_kept) [
  | inl stays ↦ simp (stays, fails)
  | inr gone ↦ simp (gone, fails)
]
kept_places-drop q (x ∷ nodes) (suc m) fails = elim (cases_Bool x.is_kept) [
  | inl stays ↦ elim (cases_Bool (q x.added)) [
    | inl passes ↦ simp (stays, passes) (ap (λ (places : List Added). x.added ∷ places) (kept_places-drop q nodes m fails))
    | inr skipped ↦ simp (stays, skipped) (kept_places-drop q nodes m fails)
  ]
  | inr gone ↦ simp gone (kept_places-drop q nodes m fails)
]

-- A kept place more.
pub kept_places-more : (nodes : List Node) (n : Node) → n.is_kept ≡ true → kept_places (nodes ++ n ∷ []) ≡ kept_places nodes ++ n.added ∷ []
kept_places-more [] n kept = simp kept
kept_places-more (x ∷ nodes) n kept = elim (cases_Bool x.is_kept) [
  | inl stays ↦ simp stays (ap (λ (places : List Added). x.added ∷ places) (kept_places-more nodes n kept))
  | inr gone ↦ simp gone (kept_places-more nodes n kept)
]

-- ---- the newest place

-- The newest place of a block, where the first node is kept or not.
newest-cons : (b : ℕ) (x : Node) (nodes : List Node) (r : Option EntryPlace) → newest_of b (kept_places nodes) ≡ r
    → newest_of b (kept_places (x ∷ nodes)) ≡ option_or r (if kept_of b x then Some x.added.place else None)
newest-cons b x nodes None rest = elim (cases_Bool x.is_kept) [
  | inl stays ↦ simp (stays, rest)
  | inr gone ↦ simp (gone, rest)
]
newest-cons b x nodes (Some place) rest = elim (cases_Bool x.is_kept) [
  | inl stays ↦ simp (stays, rest)
  | inr gone ↦ simp (gone, rest)
]

newest-none : (b : ℕ) (nodes : List Node) → ((j : ℕ) → kept_of b (node_at nodes j) ≡ false) → newest_of b (kept_places nodes) ≡ None
newest-none b [] none = refl
newest-none b (x ∷ nodes) none =
    newest-cons b x nodes None (newest-none b nodes (λ j. none (suc j)))
    ∙ ap (λ (t : Bool). if t then Some x.added.place else None) (none 0)

newest-some : (b : ℕ) (nodes : List Node) (k : ℕ) → kept_of b (node_at nodes k) ≡ true → ((j : ℕ) → suc k ≤ j → kept_of b (node_at nodes j) ≡ false)
    → newest_of b (kept_places nodes) ≡ Some (node_at nodes k).added.place
newest-some b [] k here none = absurd (true-false (sym here))
newest-some b (x ∷ nodes) zero here none =
    newest-cons b x nodes None (newest-none b nodes (λ j. none (suc j) (omega arith)))
    ∙ ap (λ (t : Bool). if t then Some x.added.place else None) here
newest-some b (x ∷ nodes) (suc k) here none =
    newest-cons b x nodes (Some (node_at nodes k).added.place) (newest-some b nodes k here (λ j from. none (suc j) (omega (arith, from))))

-- The last kept node of a block has its newest place.
pub newest_of-last : (b : ℕ) (nodes : List Node) (last : Option ℕ) → IsLast (kept_of b) last nodes
    → newest_of b (kept_places nodes) ≡ option_map (λ k. (node_at nodes k).added.place) last
newest_of-last b nodes None is_last = newest-none b nodes (λ j. is_last.none_behind j (omega arith))
newest_of-last b nodes (Some k) is_last = newest-some b nodes k is_last.here (λ j from. is_last.none_behind j from)

-- Where no node of a section is kept, all kept places are of other sections.
pub none_in : (i : ℕ) (nodes : List Node) → ((j : ℕ) → (node_at nodes j).is_kept && ((node_at nodes j).added.place.section == i) ≡ false)
    → filter (λ a. not (is_in i a)) (kept_places nodes) ≡ kept_places nodes
none_in i [] none = refl
none_in i (x ∷ nodes) none = elim (cases_Bool x.is_kept) [
  | inl stays ↦
      let apart : (x.added.place.section == i) ≡ false = sym (ap (λ (t : Bool). t && (x.added.place.section == i)) stays) ∙ none 0 in
      simp (stays, apart) (ap (λ (places : List Added). x.added ∷ places) (none_in i nodes (λ j. none (suc j))))
  | inr gone ↦ simp gone (none_in i nodes (λ j. none (suc j)))
]

-- ---- how many are kept

pub length-kept_places : (nodes : List Node) → length (kept_places nodes) ≡ length (filter (λ n. n.is_kept) nodes)
length-kept_places nodes = length-map (filter (λ n. n.is_kept) nodes) (λ (n : Node). n.added)

-- Before a node that is kept fewer are kept than in all.
pub kept_below : (nodes : List Node) (k : ℕ) → (node_at nodes k).is_kept ≡ true → length (kept_places (take k nodes)) < length (kept_places nodes)
kept_below [] k kept = absurd (true-false (sym kept))
kept_below (x ∷ nodes) zero kept = simp kept (omega arith)
kept_below (x ∷ nodes) (suc k) kept =
    let rest = kept_below nodes k kept in
    elim (cases_Bool x.is_kept) [
      | inl stays ↦ simp stays (omega (arith, rest))
      | inr gone ↦ simp gone rest
    ]

-- No more are kept of the first nodes than there are nodes.
pub kept_le : (nodes : List Node) (k : ℕ) → length (kept_places (take k nodes)) ≤ length nodes
kept_le nodes zero = omega arith
kept_le [] (suc k) = omega arith
kept_le (x ∷ nodes) (suc k) =
    let rest = kept_le nodes k in
    elim (cases_Bool x.is_kept) [
      | inl stays ↦ simp stays (omega (arith, rest))
      | inr gone ↦ simp gone (omega (arith, rest))
    ]

-- How nodes lead to older ones, and what stays of that where a node is dropped.
use Rattle.std.proofs.Common.{◌≡◌, ◌≢◌, inl, inr, ℕ, suc, ◌<◌, ◌≤◌, ◌==◌, Bool, true, false, ◌&&◌, List, [], ◌∷◌, ◌++◌, length, set, Option, None, Some, refl, sym, ◌∙◌, ap, subst, arith, length-set, get_or-set_same, get_or-set_other}
use Rattle.std.proofs.lemmas.Bool.{cases_lt, cases_eq, cases_order, eqb-true, eq-eqb, and_parts}
use Rattle.std.proofs.lemmas.List.{get_or_past, get_or_at, get_or_append_left, length-append}
use Rattle.journal_overlay.specs.Nodes.{no_node, node_at, dropped, kept_of, kept_in, behind, NoneBetween, IsHere, IsLast, IsBack, IsFellow, AreLinked}
use Rattle.journal_overlay.specs.declared.node.Node.{Node}
use Rattle.journal_overlay.specs.declared.place.Added.{Added}

true-false : true ≡ false → ⊥
true-false e = cc

-- From a node that is not kept the way leads on to its older one.
pub IsBack-older : (nodes : List Node) (block j k : ℕ) → AreLinked nodes → j < length nodes → (node_at nodes j).is_kept ≡ false
    → IsBack block (Some j) k nodes → IsBack block (node_at nodes j).older k nodes
IsBack-older nodes block j k linked there dropped back =
    let older = linked.older j there in
    let same : (node_at nodes j).added.block ≡ block = back.block_is j refl in
    let j_before : suc j ≤ k = back.before in
    record {
      before = omega (arith, older.before, j_before);
      block_is = λ i is. older.block_is i is ∙ same;
      none_between = λ i from less. elim (cases_order i j) [
        | inl e ↦ ap (λ (b : Bool). b && ((node_at nodes i).added.block == block)) (ap (λ (x : ℕ). (node_at nodes x).is_kept) e ∙ dropped)
        | inr (inl low) ↦ subst (λ (b : ℕ). kept_of b (node_at nodes i) ≡ false) same (older.none_between i from low)
        | inr (inr high) ↦ back.none_between i (omega (arith, high)) less
      ];
    }

-- A kept node of the block is here.
pub IsHere-kept : (nodes : List Node) (block j k : ℕ) → (node_at nodes j).is_kept ≡ true → IsBack block (Some j) k nodes → IsHere (kept_of block) (Some j) nodes
IsHere-kept nodes block j k kept back =
    ap (λ (b : Bool). b && ((node_at nodes j).added.block == block)) kept ∙ eq-eqb (node_at nodes j).added.block block (back.block_is j refl)

-- ---- the last node that passes

-- A node that passes is one of them.
there-passes : (p : Node → Bool) (nodes : List Node) (k : ℕ) → p no_node ≡ false → p (node_at nodes k) ≡ true → k < length nodes
there-passes p nodes k none passes = elim (cases_lt k (length nodes)) [
  | inl less ↦ less
  | inr past ↦ absurd (true-false (sym passes ∙ ap p (get_or_past nodes k no_node past) ∙ none))
]

-- The last one that passes is one of them.
pub IsLast-there : (p : Node → Bool) (nodes : List Node) (last : Option ℕ) → p no_node ≡ false → IsLast p last nodes → behind last ≤ length nodes
IsLast-there p nodes None none is_last = omega arith
IsLast-there p nodes (Some k) none is_last = omega (arith, there-passes p nodes k none is_last.here)

-- ---- a node more

module _ (nodes : List Node) (n : Node) where
  abbrev more : List Node
  more = nodes ++ n ∷ []

  at_old : (j : ℕ) → j < length nodes → node_at more j ≡ node_at nodes j
  at_old j less = get_or_append_left nodes (n ∷ []) no_node j less

  at_new : node_at more (length nodes) ≡ n
  at_new = get_or_at nodes n [] no_node (length nodes) refl

  pub length-more : length more ≡ suc (length nodes)
  length-more = omega (arith, length-append nodes (n ∷ []))

  at_past : (j : ℕ) → length nodes < j → node_at more j ≡ no_node
  at_past j past = get_or_past more j no_node (omega (arith, length-more, past))

  -- It is the last that passes, where it passes,
  pub IsLast-new : (p : Node → Bool) → p no_node ≡ false → p n ≡ true → IsLast p (Some (length nodes)) more
  IsLast-new p none passes = record {
    here = ap p at_new ∙ passes;
    none_behind = λ j from. ap p (at_past j (omega (arith, from))) ∙ none;
  }

  pub IsHere-more : (p : Node → Bool) (last : Option ℕ) → behind last ≤ length nodes → IsHere p last nodes → IsHere p last more
  IsHere-more p None there here = tt
  IsHere-more p (Some k) there here = ap p (at_old k (omega (arith, there))) ∙ here

  pub NoneBetween-more : (p : Node → Bool) (i k : ℕ) → k ≤ length nodes → NoneBetween p i k nodes → NoneBetween p i k more
  NoneBetween-more p i k there none = λ j from less. ap p (at_old j (omega (arith, there, less))) ∙ none j from less

  -- and else the one that was.
  pub IsLast-old : (p : Node → Bool) (last : Option ℕ) → p no_node ≡ false → p n ≡ false → IsLast p last nodes → IsLast p last more
  IsLast-old p last none fails is_last = record {
    here = IsHere-more p last (IsLast-there p nodes last none is_last) is_last.here;
    none_behind = λ j from. elim (cases_order j (length nodes)) [
      | inl e ↦ ap (λ (x : ℕ). p (node_at more x)) e ∙ ap p at_new ∙ fails
      | inr (inl low) ↦ ap p (at_old j low) ∙ is_last.none_behind j from
      | inr (inr high) ↦ ap p (at_past j high) ∙ none
    ];
  }

  IsBack-more : (block k : ℕ) (from : Option ℕ) → k ≤ length nodes → IsBack block from k nodes → IsBack block from k more
  IsBack-more block k from there back = record {
    before = back.before;
    block_is = λ j is. let low : behind (Some j) ≤ k = subst (λ (o : Option ℕ). behind o ≤ k) is back.before in
        ap (λ (x : Node). x.added.block) (at_old j (omega (arith, low, there))) ∙ back.block_is j is;
    none_between = NoneBetween-more (kept_of block) (behind from) k there back.none_between;
  }

  IsFellow-more : (k : ℕ) (m : Node) → k ≤ length nodes → IsFellow k m nodes → IsFellow k m more
  IsFellow-more k m there fellow = record {
    before = fellow.before;
    here = λ kept. IsHere-more (kept_in m.added.place.section) m.fellow (omega (arith, fellow.before, there)) (fellow.here kept);
    none_between = λ kept. NoneBetween-more (kept_in m.added.place.section) (behind m.fellow) k there (fellow.none_between kept);
  }

  -- The last kept node of a block leads back.
  back-last : (block : ℕ) (last : Option ℕ) → IsLast (kept_of block) last nodes → IsBack block last (length nodes) nodes
  back-last block last is_last = record {
    before = IsLast-there (kept_of block) nodes last refl is_last;
    block_is = λ j is.
        let here : kept_of block (node_at nodes j) ≡ true = subst (λ (o : Option ℕ). IsHere (kept_of block) o nodes) is is_last.here in
        eqb-true (node_at nodes j).added.block block (and_parts (node_at nodes j).is_kept ((node_at nodes j).added.block == block) here).1;
    none_between = λ j from less. is_last.none_behind j from;
  }

  pub AreLinked-more : AreLinked nodes → IsLast (kept_of n.added.block) n.older nodes → IsLast (kept_in n.added.place.section) n.fellow nodes → AreLinked more
  AreLinked-more linked older fellow = record {
    older = λ k there. elim (cases_lt k (length nodes)) [
      | inl less ↦ subst (λ (m : Node). IsBack m.added.block m.older k more) (sym (at_old k less))
          (IsBack-more (node_at nodes k).added.block k (node_at nodes k).older (omega (arith, less)) (linked.older k less))
      | inr past ↦
          let e : length nodes ≡ k = omega (arith, past, there, length-more) in
          subst (λ (j : ℕ). IsBack (node_at more j).added.block (node_at more j).older j more) e
          (subst (λ (m : Node). IsBack m.added.block m.older (length nodes) more) (sym at_new)
          (IsBack-more n.added.block (length nodes) n.older (omega arith) (back-last n.added.block n.older older)))
    ];
    fellow = λ k there. elim (cases_lt k (length nodes)) [
      | inl less ↦ subst (λ (m : Node). IsFellow k m more) (sym (at_old k less)) (IsFellow-more k (node_at nodes k) (omega (arith, less)) (linked.fellow k less))
      | inr past ↦
          let e : length nodes ≡ k = omega (arith, past, there, length-more) in
          subst (λ (j : ℕ). IsFellow j (node_at more j) more) e
          (subst (λ (m : Node). IsFellow (length nodes) m more) (sym at_new)
          (IsFellow-more (length nodes) n (omega arith) (record {
            before = IsLast-there (kept_in n.added.place.section) nodes n.fellow refl fellow;
            here = λ kept. fellow.here;
            none_between = λ kept j from less. fellow.none_behind j from;
          })))
    ];
  }

-- ---- a node dropped

module _ (nodes : List Node) (m : ℕ) (there : m < length nodes) where
  abbrev less_one : List Node
  less_one = set nodes m (dropped (node_at nodes m))

  at_same : node_at less_one m ≡ dropped (node_at nodes m)
  at_same = get_or-set_same nodes m (dropped (node_at nodes m)) no_node there

  at_others : (j : ℕ) → j ≢ m → node_at less_one j ≡ node_at nodes j
  at_others j other = get_or-set_other nodes m j (dropped (node_at nodes m)) no_node other

  -- What does not pass does not pass once the node is dropped, where no dropped node does.
  fails : (p : Node → Bool) → ((n : Node) → n.is_kept ≡ false → p n ≡ false) → (j : ℕ) → p (node_at nodes j) ≡ false → p (node_at less_one j) ≡ false
  fails p needs_kept j was = elim (cases_eq j m) [
    | inl e ↦ ap (λ (x : ℕ). p (node_at less_one x)) e ∙ ap p at_same ∙ needs_kept (dropped (node_at nodes m)) refl
    | inr other ↦ ap p (at_others j other) ∙ was
  ]

  kept_of-needs : (b : ℕ) (n : Node) → n.is_kept ≡ false → kept_of b n ≡ false
  kept_of-needs b n gone = ap (λ (k : Bool). k && (n.added.block == b)) gone

  kept_in-needs : (i : ℕ) (n : Node) → n.is_kept ≡ false → kept_in i n ≡ false
  kept_in-needs i n gone = ap (λ (k : Bool). k && (n.added.place.section == i)) gone

  -- Another node that passes still does.
  IsHere-other : (p : Node → Bool) (last : Option ℕ) → (last ≡ Some m → ⊥) → IsHere p last nodes → IsHere p last less_one
  IsHere-other p None other here = tt
  IsHere-other p (Some k) other here = ap p (at_others k (λ (e : k ≡ m). other (ap (λ (x : ℕ). Some x) e))) ∙ here

  IsLast-other : (p : Node → Bool) (last : Option ℕ) → ((n : Node) → n.is_kept ≡ false → p n ≡ false) → (last ≡ Some m → ⊥) → IsLast p last nodes → IsLast p last less_one
  IsLast-other p last needs_kept other is_last = record {
    here = IsHere-other p last other is_last.here;
    none_behind = λ j from. fails p needs_kept j (is_last.none_behind j from);
  }

  -- Where another block's or section's node is the last one, it stays so.
  pub IsLast-block : (b : ℕ) (last : Option ℕ) → (last ≡ Some m → ⊥) → IsLast (kept_of b) last nodes → IsLast (kept_of b) last less_one
  IsLast-block b last other is_last = IsLast-other (kept_of b) last (kept_of-needs b) other is_last

  pub IsLast-other_section : (i : ℕ) (last : Option ℕ) → (node_at nodes m).added.place.section ≢ i → IsLast (kept_in i) last nodes → IsLast (kept_in i) last less_one
  IsLast-other_section i last apart is_last = IsLast-other (kept_in i) last (kept_in-needs i) (λ e. not_it last e is_last) is_last
    where
      not_it : (o : Option ℕ) → o ≡ Some m → IsLast (kept_in i) o nodes → ⊥
      not_it o e is =
          let here : kept_in i (node_at nodes m) ≡ true = subst (λ (x : Option ℕ). IsHere (kept_in i) x nodes) e is.here in
          apart (eqb-true (node_at nodes m).added.place.section i (and_parts (node_at nodes m).is_kept ((node_at nodes m).added.place.section == i) here).1)

  -- Where it was the last of its block, one that leads back from it is.
  pub IsLast-back : (b : ℕ) (last : Option ℕ) → IsLast (kept_of b) (Some m) nodes → IsBack b last m less_one → IsHere (kept_of b) last less_one → IsLast (kept_of b) last less_one
  IsLast-back b last was back here = record {
    here = here;
    none_behind = λ j from. elim (cases_order j m) [
      | inl e ↦ ap (λ (x : ℕ). kept_of b (node_at less_one x)) e ∙ ap (kept_of b) at_same
      | inr (inl low) ↦ back.none_between j from low
      | inr (inr high) ↦ fails (kept_of b) (kept_of-needs b) j (was.none_behind j (omega (arith, high)))
    ];
  }

  -- The block of each node stays.
  same_block : (j : ℕ) → (node_at less_one j).added ≡ (node_at nodes j).added
  same_block j = elim (cases_eq j m) [
    | inl e ↦ ap (λ (x : ℕ). (node_at less_one x).added) e ∙ ap (λ (x : Node). x.added) at_same ∙ sym (ap (λ (x : ℕ). (node_at nodes x).added) e)
    | inr other ↦ ap (λ (x : Node). x.added) (at_others j other)
  ]

  pub IsBack-drop : (b k : ℕ) (from : Option ℕ) → IsBack b from k nodes → IsBack b from k less_one
  IsBack-drop b k from back = record {
    before = back.before;
    block_is = λ j is. ap (λ (x : Added). x.block) (same_block j) ∙ back.block_is j is;
    none_between = λ j from less. fails (kept_of b) (kept_of-needs b) j (back.none_between j from less);
  }

  -- Its section's last kept node is the one before it.
  pub IsLast-fellow : AreLinked nodes → (node_at nodes m).is_kept ≡ true
      → IsLast (kept_in (node_at nodes m).added.place.section) (Some m) nodes → IsLast (kept_in (node_at nodes m).added.place.section) (node_at nodes m).fellow less_one
  IsLast-fellow linked kept was =
      let n = node_at nodes m in let i = n.added.place.section in let fellow = linked.fellow m there in
      record {
        here = IsHere-other (kept_in i) n.fellow (λ e. not_own e fellow.before) (fellow.here kept);
        none_behind = λ j from. elim (cases_order j m) [
          | inl e ↦ ap (λ (x : ℕ). kept_in i (node_at less_one x)) e ∙ ap (kept_in i) at_same
          | inr (inl low) ↦ fails (kept_in i) (kept_in-needs i) j (fellow.none_between kept j from low)
          | inr (inr high) ↦ fails (kept_in i) (kept_in-needs i) j (was.none_behind j (omega (arith, high)))
        ];
      }
    where
      not_own : (node_at nodes m).fellow ≡ Some m → behind (node_at nodes m).fellow ≤ m → ⊥
      not_own e before = let low : suc m ≤ m = subst (λ (o : Option ℕ). behind o ≤ m) e before in omega (arith, low)

  -- A kept node that is not this one has a fellow that is not this one, where this one is the last of its section.
  IsFellow-drop : (k : ℕ) → IsLast (kept_in (node_at nodes m).added.place.section) (Some m) nodes → IsFellow k (node_at nodes k) nodes → IsFellow k (node_at less_one k) less_one
  IsFellow-drop k was fellow = elim (cases_eq k m) [
    | inl e ↦ subst (λ (x : Node). IsFellow k x less_one) (sym (ap (λ (x : ℕ). node_at less_one x) e ∙ at_same)) (record {
      before = subst (λ (x : Node). behind x.fellow ≤ k) (ap (node_at nodes) e) fellow.before;
      here = λ kept. absurd (true-false (sym kept));
      none_between = λ kept. absurd (true-false (sym kept));
    })
    | inr other ↦ subst (λ (x : Node). IsFellow k x less_one) (sym (at_others k other)) (record {
      before = fellow.before;
      here = λ kept. IsHere-other (kept_in (node_at nodes k).added.place.section) (node_at nodes k).fellow (λ e. apart other kept e) (fellow.here kept);
      none_between = λ kept j from less. fails (kept_in (node_at nodes k).added.place.section) (kept_in-needs (node_at nodes k).added.place.section) j (fellow.none_between kept j from less);
    })
  ]
    where
      apart : k ≢ m → (node_at nodes k).is_kept ≡ true → (node_at nodes k).fellow ≡ Some m → ⊥
      apart other kept e =
          let low : suc m ≤ k = subst (λ (o : Option ℕ). behind o ≤ k) e fellow.before in
          let here : kept_in (node_at nodes k).added.place.section (node_at nodes m) ≡ true =
          subst (λ (o : Option ℕ). IsHere (kept_in (node_at nodes k).added.place.section) o nodes) e (fellow.here kept) in
          let same : (node_at nodes m).added.place.section ≡ (node_at nodes k).added.place.section =
          eqb-true (node_at nodes m).added.place.section (node_at nodes k).added.place.section
          (and_parts (node_at nodes m).is_kept ((node_at nodes m).added.place.section == (node_at nodes k).added.place.section) here).1 in
          let passes : kept_in (node_at nodes m).added.place.section (node_at nodes k) ≡ true =
          ap (λ (b : Bool). b && ((node_at nodes k).added.place.section == (node_at nodes m).added.place.section)) kept
          ∙ eq-eqb (node_at nodes k).added.place.section (node_at nodes m).added.place.section (sym same) in
          true-false (sym passes ∙ was.none_behind k low)

  pub AreLinked-drop : AreLinked nodes → IsLast (kept_in (node_at nodes m).added.place.section) (Some m) nodes → AreLinked less_one
  AreLinked-drop linked was = record {
    older = λ k less.
        let within : k < length nodes = subst (λ (x : ℕ). k < x) (length-set nodes m (dropped (node_at nodes m))) less in
        older-drop k (linked.older k within);
    fellow = λ k less.
        let within : k < length nodes = subst (λ (x : ℕ). k < x) (length-set nodes m (dropped (node_at nodes m))) less in
        IsFellow-drop k was (linked.fellow k within);
  }
    where
      older-drop : (k : ℕ) → IsBack (node_at nodes k).added.block (node_at nodes k).older k nodes → IsBack (node_at less_one k).added.block (node_at less_one k).older k less_one
      older-drop k back = elim (cases_eq k m) [
        | inl e ↦ subst (λ (x : Node). IsBack x.added.block x.older k less_one) (sym (ap (λ (x : ℕ). node_at less_one x) e ∙ at_same))
            (subst (λ (x : ℕ). IsBack (node_at nodes x).added.block (node_at nodes x).older k less_one) e (IsBack-drop (node_at nodes k).added.block k (node_at nodes k).older back))
        | inr other ↦ subst (λ (x : Node). IsBack x.added.block x.older k less_one) (sym (at_others k other)) (IsBack-drop (node_at nodes k).added.block k (node_at nodes k).older back)
      ]

-- What the tables tell once a place is added, or a node dropped.
use Rattle.std.proofs.Common.{◌≡◌, ◌≢◌, inl, inr, ℕ, zero, suc, ◌+◌, ◌<◌, ◌==◌, Bool, true, false, List, [], ◌∷◌, ◌++◌, length, set, get_or, filter, replicate, Option, None, Some, refl, sym, ◌∙◌, ap, subst, arith, length-set}
use Rattle.std.proofs.lemmas.Bool.{cases_Bool, cases_lt, cases_eq, eqb-true, eq-eqb, ne_eqb, and_parts}
use Rattle.std.proofs.lemmas.List.{length-replicate, get_or-replicate, get_or_past}
use Rattle.journal_overlay.specs.Index.{IsIndex, TellsLatest, TellsOthers}
use Rattle.journal_overlay.specs.Nodes.{no_node, node_at, dropped, kept_of, kept_in, IsHere, IsLast, IsBack, last_of, TellsPlace}
use Rattle.journal_overlay.specs.Slots.{IsTable, is_used, key_in, last_in, slot_with, slot_of, last_at}
use Rattle.journal_overlay.specs.declared.node.Node.{Node}
use Rattle.journal_overlay.specs.declared.place.Added.{Added}
use Rattle.journal_overlay.specs.declared.table.Slot.{Slot}
use Rattle.journal_overlay.specs.declared.table.Last.{Last}
use Rattle.journal_overlay.specs.declared.table.Slot.TheVariants.{Free}
use Rattle.journal_overlay.proofs.NodesLemmas.{length-more, IsLast-new, IsLast-old, AreLinked-more, AreLinked-drop, IsLast-block, IsLast-back}
use Rattle.journal_overlay.proofs.PlacesLemmas.{last_of-at, TellsPlace-with, TellsPlace-set, TellsPlace-more, TellsPlace-new, TellsPlace-drop}
use Rattle.journal_overlay.proofs.SlotsLemmas.{slot_of-room, slot_of-last, used-set, used-set_used, found-set, last_at-set_same, last_at-set_other}

-- The table with the place where a key stands last.
abbrev pub with_last : (homes : ℕ) → List Slot → (key : ℕ) → Option Last → List Slot
with_last homes slots key last = set slots (slot_of homes slots key) (slot_with key last)

-- A table has room for a key more.
pub IsTable-more : (room came homes : ℕ) (slots : List Slot) (key : ℕ) (last : Option Last) → came < room → IsTable room came homes slots
    → IsTable room (suc came) homes (with_last homes slots key last)
IsTable-more room came homes slots key last less table =
    let there = slot_of-room room came homes slots key table (omega (arith, less)) in
    record {
      some = table.some;
      room = length-set slots (slot_of homes slots key) (slot_with key last) ∙ table.room;
      few = omega (arith, used-set slots (slot_of homes slots key) (slot_with key last), table.few);
      found = found-set homes slots key last there table.found;
    }

-- ---- a place more

-- The node of a place that is added.
abbrev pub new_node : (blocks : ℕ) → List Slot → (sections : ℕ) → List Slot → Added → Node
new_node blocks block_slots sections section_slots a = record {
  added = a;
  is_kept = true;
  older = last_at blocks block_slots a.block;
  fellow = last_at sections section_slots a.place.section;
}

module _ (room bh : ℕ) (bs : List Slot) (sh : ℕ) (ss : List Slot) (nodes : List Node) (a : Added) (less : length nodes < room) (index : IsIndex room bh bs sh ss nodes) (latest : TellsLatest sh ss nodes) where
  abbrev n : Node
  n = new_node bh bs sh ss a

  abbrev after : List Node
  after = nodes ++ n ∷ []

  abbrev here : Option Last
  here = Some (record { at = length nodes; place = a.place })

  abbrev bs' : List Slot
  bs' = with_last bh bs a.block here

  abbrev ss' : List Slot
  ss' = with_last sh ss a.place.section here

  count : suc (length nodes) ≡ length after
  count = sym (length-more nodes n)

  newest-more : (b : ℕ) → IsLast (kept_of b) (last_at bh bs' b) after
  newest-more b = elim (cases_eq b a.block) [
    | inl e ↦
        subst (λ (k : ℕ). IsLast (kept_of k) (last_at bh bs' k) after) (sym e)
        (subst (λ (o : Option ℕ). IsLast (kept_of a.block) o after) (sym (last_at-set_same bh bs a.block here (slot_of-room room (length nodes) bh bs a.block index.block_table (omega (arith, less))) index.block_table.found))
        (IsLast-new nodes n (kept_of a.block) refl (eq-eqb a.block a.block refl)))
    | inr other ↦
        subst (λ (o : Option ℕ). IsLast (kept_of b) o after) (sym (last_at-set_other bh bs a.block here (slot_of-room room (length nodes) bh bs a.block index.block_table (omega (arith, less))) index.block_table.found b other))
        (IsLast-old nodes n (kept_of b) (last_at bh bs b) refl (ne_eqb a.block b (λ (e : a.block ≡ b). other (sym e))) (index.newest b))
  ]

  pub TellsLatest-more : TellsLatest sh ss' after
  TellsLatest-more i = elim (cases_eq i a.place.section) [
    | inl e ↦
        subst (λ (k : ℕ). IsLast (kept_in k) (last_at sh ss' k) after) (sym e)
        (subst (λ (o : Option ℕ). IsLast (kept_in a.place.section) o after) (sym (last_at-set_same sh ss a.place.section here (slot_of-room room (length nodes) sh ss a.place.section index.section_table (omega (arith, less))) index.section_table.found))
        (IsLast-new nodes n (kept_in a.place.section) refl (eq-eqb a.place.section a.place.section refl)))
    | inr other ↦
        subst (λ (o : Option ℕ). IsLast (kept_in i) o after) (sym (last_at-set_other sh ss a.place.section here (slot_of-room room (length nodes) sh ss a.place.section index.section_table (omega (arith, less))) index.section_table.found i other))
        (IsLast-old nodes n (kept_in i) (last_at sh ss i) refl (ne_eqb a.place.section i (λ (e : a.place.section ≡ i). other (sym e))) (latest i))
  ]

  pub IsIndex-more : IsIndex room bh bs' sh ss' after
  IsIndex-more = record {
    block_table = subst (λ (came : ℕ). IsTable room came bh bs') count (IsTable-more room (length nodes) bh bs a.block here less index.block_table);
    section_table = subst (λ (came : ℕ). IsTable room came sh ss') count (IsTable-more room (length nodes) sh ss a.place.section here less index.section_table);
    linked = AreLinked-more nodes n index.linked (index.newest a.block) (latest a.place.section);
    newest = newest-more;
    places = TellsPlace-set bs (slot_of bh bs a.block) (slot_with a.block here) after (slot_of-room room (length nodes) bh bs a.block index.block_table (omega (arith, less)))
        (TellsPlace-new nodes n a.block) (λ s. TellsPlace-more nodes n (get_or bs s Free) (index.places s));
  }

-- ---- the same by other names

pub IsIndex-same : (room bh bh' : ℕ) (bs bs' : List Slot) (sh sh' : ℕ) (ss ss' : List Slot) (nodes nodes' : List Node)
    → bh' ≡ bh → bs' ≡ bs → sh' ≡ sh → ss' ≡ ss → nodes' ≡ nodes → IsIndex room bh bs sh ss nodes → IsIndex room bh' bs' sh' ss' nodes'
IsIndex-same room bh bh' bs bs' sh sh' ss ss' nodes nodes' e1 e2 e3 e4 e5 index = rw (e1, e2, e3, e4, e5) index

pub TellsLatest-same : (sh sh' : ℕ) (ss ss' : List Slot) (nodes nodes' : List Node) → sh' ≡ sh → ss' ≡ ss → nodes' ≡ nodes → TellsLatest sh ss nodes → TellsLatest sh' ss' nodes'
TellsLatest-same sh sh' ss ss' nodes nodes' e1 e2 e3 latest = rw (e1, e2, e3) latest

-- One more is kept.
pub kept-more : (nodes : List Node) (n : Node) → n.is_kept ≡ true → length (filter (λ m. m.is_kept) (nodes ++ n ∷ [])) ≡ suc (length (filter (λ m. m.is_kept) nodes))
kept-more [] n kept = simp kept
kept-more (x ∷ nodes) n kept = elim (cases_Bool x.is_kept) [
  | inl stays ↦ simp stays (ap suc (kept-more nodes n kept))
  | inr gone ↦ simp gone (kept-more nodes n kept)
]

-- ---- a node dropped

not_last : (b m : ℕ) (nodes : List Node) (last : Option ℕ) → (node_at nodes m).added.block ≢ b → IsLast (kept_of b) last nodes → last ≡ Some m → ⊥
not_last b m nodes last apart is_last e =
    let here : kept_of b (node_at nodes m) ≡ true = subst (λ (o : Option ℕ). IsHere (kept_of b) o nodes) e is_last.here in
    apart (eqb-true (node_at nodes m).added.block b (and_parts (node_at nodes m).is_kept ((node_at nodes m).added.block == b) here).1)

-- A table stays one where a key that stood somewhere stands elsewhere.
pub IsTable-moved : (room came homes : ℕ) (slots : List Slot) (key k : ℕ) (last : Option Last) → last_at homes slots key ≡ Some k → IsTable room came homes slots
    → IsTable room came homes (with_last homes slots key last)
IsTable-moved room came homes slots key k last told table =
    let there = slot_of-last homes slots key k told in
    record {
      some = table.some;
      room = length-set slots (slot_of homes slots key) (slot_with key last) ∙ table.room;
      few = omega (arith, used-set_used slots (slot_of homes slots key) (slot_with key last) there.1, table.few);
      found = found-set homes slots key last there.0 table.found;
    }

module _ (room bh : ℕ) (bs : List Slot) (sh : ℕ) (ss : List Slot) (nodes : List Node) (m : ℕ) (there : m < length nodes) (index : IsIndex room bh bs sh ss nodes) (was : IsLast (kept_in (node_at nodes m).added.place.section) (Some m) nodes) where
  abbrev without : List Node
  without = set nodes m (dropped (node_at nodes m))

  abbrev block : ℕ
  block = (node_at nodes m).added.block

  same_length : length nodes ≡ length without
  same_length = sym (length-set nodes m (dropped (node_at nodes m)))

  -- Where it was not the last of its block, the table is right as it is.
  pub IsIndex-drop : (last_at bh bs block ≡ Some m → ⊥) → IsIndex room bh bs sh ss without
  IsIndex-drop other = record {
    block_table = subst (λ (came : ℕ). IsTable room came bh bs) same_length index.block_table;
    section_table = subst (λ (came : ℕ). IsTable room came sh ss) same_length index.section_table;
    linked = AreLinked-drop nodes m there index.linked was;
    newest = λ b. elim (cases_eq block b) [
      | inl e ↦ IsLast-block nodes m there b (last_at bh bs b) (λ is. other (ap (last_at bh bs) e ∙ is)) (index.newest b)
      | inr apart ↦ IsLast-block nodes m there b (last_at bh bs b) (not_last b m nodes (last_at bh bs b) apart (index.newest b)) (index.newest b)
    ];
    places = λ s. TellsPlace-drop nodes m there (get_or bs s Free) (index.places s);
  }

  -- Where it was, the table tells the newest that leads back from it.
  module _ (newest : Option ℕ) (told : last_at bh bs block ≡ Some m) (back : IsBack block newest m without) (here : IsHere (kept_of block) newest without) where
    abbrev last : Option Last
    last = last_of without newest

    abbrev slots : List Slot
    slots = with_last bh bs block last

    own_there : slot_of bh bs block < length bs
    own_there = (slot_of-last bh bs block m told).0

    pub IsIndex-moved : IsIndex room bh slots sh ss without
    IsIndex-moved = record {
      block_table = subst (λ (came : ℕ). IsTable room came bh slots) same_length (IsTable-moved room (length nodes) bh bs block m last told index.block_table);
      section_table = subst (λ (came : ℕ). IsTable room came sh ss) same_length index.section_table;
      linked = AreLinked-drop nodes m there index.linked was;
      newest = λ b. elim (cases_eq b block) [
        | inl e ↦
            subst (λ (k : ℕ). IsLast (kept_of k) (last_at bh slots k) without) (sym e)
            (subst (λ (o : Option ℕ). IsLast (kept_of block) o without) (sym (last_at-set_same bh bs block last own_there index.block_table.found ∙ last_of-at without newest))
            (IsLast-back nodes m there block newest (subst (λ (o : Option ℕ). IsLast (kept_of block) o nodes) told (index.newest block)) back here))
        | inr apart ↦
            subst (λ (o : Option ℕ). IsLast (kept_of b) o without) (sym (last_at-set_other bh bs block last own_there index.block_table.found b apart))
            (IsLast-block nodes m there b (last_at bh bs b) (not_last b m nodes (last_at bh bs b) (λ (e : block ≡ b). apart (sym e)) (index.newest b)) (index.newest b))
      ];
      places = TellsPlace-set bs (slot_of bh bs block) (slot_with block last) without own_there
          (TellsPlace-with without block newest (omega (arith, back.before, there, same_length)))
          (λ s. TellsPlace-drop nodes m there (get_or bs s Free) (index.places s));
    }

-- ---- a section dropped

-- Once it is told that a section has no kept node, the last one of each is told.
pub TellsLatest-none : (sh : ℕ) (ss : List Slot) (nodes : List Node) (section k : ℕ) (room came : ℕ) → IsTable room came sh ss → last_at sh ss section ≡ Some k
    → TellsOthers sh ss nodes section → IsLast (kept_in section) None nodes → TellsLatest sh (with_last sh ss section None) nodes
TellsLatest-none sh ss nodes section k room came table told others none = λ i. elim (cases_eq i section) [
  | inl e ↦
      subst (λ (s : ℕ). IsLast (kept_in s) (last_at sh (with_last sh ss section None) s) nodes) (sym e)
      (subst (λ (o : Option ℕ). IsLast (kept_in section) o nodes) (sym (last_at-set_same sh ss section None (slot_of-last sh ss section k told).0 table.found)) none)
  | inr apart ↦
      subst (λ (o : Option ℕ). IsLast (kept_in i) o nodes) (sym (last_at-set_other sh ss section None (slot_of-last sh ss section k told).0 table.found i apart)) (others i apart)
]

-- ---- no node

-- No key came to a table whose slots are all free.
pub free_at : (n j : ℕ) → get_or (replicate n Free) j Free ≡ Free
free_at n j = elim (cases_lt j n) [
  | inl less ↦ get_or-replicate n j Free Free less
  | inr past ↦ get_or_past (replicate n Free) j Free (omega (arith, length-replicate {A = Slot} n Free, past))
]

no_used : (n : ℕ) → length (filter is_used (replicate n Free)) ≡ 0
no_used zero = refl
no_used (suc n) = no_used n

pub IsTable-free : (room homes n : ℕ) → 0 < homes → n ≡ homes + room → IsTable room 0 homes (replicate n Free)
IsTable-free room homes n some long = record {
  some = some;
  room = length-replicate n Free ∙ long;
  few = omega (arith, no_used n);
  found = λ s key is. absurd (no_key key (sym (ap key_in (free_at n s)) ∙ is));
}
  where
    no_key : (key : ℕ) → None ≡ Some key → ⊥
    no_key key e = cc

last_at-free : (homes n key : ℕ) → last_at homes (replicate n Free) key ≡ None
last_at-free homes n key = ap last_in (free_at n (slot_of homes (replicate n Free) key))

none-last : (p : Node → Bool) → p no_node ≡ false → IsLast p None []
none-last p none = record { here = tt; none_behind = λ j from. none }

-- Two tables to which no key came are right where there is no node.
pub IsIndex-free : (room bh n sh m : ℕ) → 0 < bh → n ≡ bh + room → 0 < sh → m ≡ sh + room → IsIndex room bh (replicate n Free) sh (replicate m Free) []
IsIndex-free room bh n sh m b_some b_long s_some s_long = record {
  block_table = IsTable-free room bh n b_some b_long;
  section_table = IsTable-free room sh m s_some s_long;
  linked = record { older = λ k less. absurd (none_less k less); fellow = λ k less. absurd (none_less k less) };
  newest = λ b. subst (λ (o : Option ℕ). IsLast (kept_of b) o []) (sym (last_at-free bh n b)) (none-last (kept_of b) refl);
  places = λ s. subst (λ (slot : Slot). TellsPlace slot []) (sym (free_at n s)) tt;
}
  where
    none_less : (k : ℕ) → k < 0 → ⊥
    none_less k less = omega (arith, less)

pub TellsLatest-free : (sh m : ℕ) → TellsLatest sh (replicate m Free) []
TellsLatest-free sh m = λ i. subst (λ (o : Option ℕ). IsLast (kept_in i) o []) (sym (last_at-free sh m i)) (none-last (kept_in i) refl)

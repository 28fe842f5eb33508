-- What a step of a recalculation writes, and how many regions are left behind it.
use Rattle.std.proofs.Common.{◌≡◌, ◌≢◌, inl, inr, ℕ, zero, suc, ◌+◌, ◌<◌, ◌≤◌, Bool, true, false, cond, refl, sym, ◌∙◌, ap, subst, arith, Option, Some, None, IfSome, List}
use Rattle.std.specs.List.{count_by, range_with_len}
use Rattle.std.proofs.lemmas.Bool.{cases_eq}
use Rattle.std.proofs.lemmas.List.Sums.{sum_by-cons}
use Rattle.std.proofs.lemmas.Option.{none-some, same_Some}
use Rattle.disk_model.specs.Disk.{Content, OnlyAdds}
use Rattle.disk_model.specs.Moments.{EachSince}
use Rattle.disk_model.proofs.DiskLemmas.{OnlyAdds-wider}
use Rattle.disk_model.proofs.MomentsLemmas.{EachMoment-weaker, FromStart-weaker, adds_then, adds_wider}
use Rattle.image_model.specs.Geometry.{Geometry, regions}
use Rattle.device_model.specs.Regions.{least_region, with_region}
use Rattle.place_model.specs.Tags.{IsOfTags}
use Rattle.bitmap_model.proofs.BitLemmas.{with_region-here, with_region-other}
use Rattle.direct_laws.specs.CallLaws.{AddsTags}
use Rattle.bitmap_laws.specs.CallLaws.{AreSameBits, region_tags}
use Rattle.bitmap_laws.specs.ServeLaws.{Recalculates}
use Rattle.hmac_tag.specs.TagMaker.{TagRule}
use Rattle.bitmap_laws.proofs.LeastLemmas.{least_found}
use Rattle.tag_store.specs.Store.{IsMarkedTags, Store}
use Rattle.recalculation.specs.declared.recalculating.Recalculation.{Recalculation}
use Rattle.recalculation.specs.Awaiting.{AwaitingRegions, awaiting_blocks, awaiting_of}
use Rattle.recalculation.specs.Recalculation.{IsOfTagsOrHead, SettlesPosition, SettlesPositionIn, TakesAwaiting, TakesAwaitingIn, count_of, next_of}
use Rattle.recalculation.specs.Rule.{tagger_by}

-- ---- what is written

-- Sectors of tags, while tags are added,
pub tags_added : (g : Geometry) (old new : Content → ℕ → List ℕ) {a b : List Content} → AddsTags g old new a b → EachSince (OnlyAdds (IsOfTagsOrHead g)) a b
tags_added g old new {a} m = EachMoment-weaker (FromStart-weaker a (λ start. OnlyAdds (IsOfTags g (old start) (new start)) start) (OnlyAdds (IsOfTagsOrHead g))
    (λ start c told adds. OnlyAdds-wider (IsOfTags g (old start) (new start)) (IsOfTagsOrHead g) (λ sector x of. inl (record {
      block = of.block;
      byte = of.byte;
      block_low = of.block_low;
      byte_low = of.byte_low;
      is = of.is;
    })) start c adds)) m

-- so while all is flushed,
pub marked_added : (store : Store) {a b : List Content} → EachSince (OnlyAdds (IsMarkedTags store)) a b → EachSince (OnlyAdds (IsOfTagsOrHead store.geometry)) a b
marked_added store m = adds_wider (IsMarkedTags store) (IsOfTagsOrHead store.geometry) (λ sector x marked. inl marked.tags) m

-- and then sector 0.
pub head_added : (g : Geometry) {a b : List Content} → EachSince (OnlyAdds (λ sector x. sector ≡ 0)) a b → EachSince (OnlyAdds (IsOfTagsOrHead g)) a b
head_added g m = adds_wider (λ sector x. sector ≡ 0) (IsOfTagsOrHead g) (λ sector x first. inr first) m

-- ---- how many await

one_if : Bool → ℕ
one_if t = cond t 1 0

count_more : (p : ℕ → Bool) (from count : ℕ) → count_by p (range_with_len from (suc count)) ≡ one_if (p from) + count_by p (range_with_len (from + 1) count)
unfolding one_if
count_more p from count = sum_by-cons (λ (n : ℕ). cond (p n) 1 0) from (range_with_len (from + 1) count)

passes_one : {t : Bool} → t ≡ true → one_if t ≡ 1
unfolding one_if
passes_one e = ap (λ (t : Bool). cond t 1 0) e

passes_none : {t : Bool} → t ≡ false → one_if t ≡ 0
unfolding one_if
passes_none e = ap (λ (t : Bool). cond t 1 0) e

-- Tests that agree on a range count the same in it.
count_same : (one other : ℕ → Bool) (from count : ℕ) → ((i : ℕ) → from ≤ i → i < from + count → other i ≡ one i)
    → count_by other (range_with_len from count) ≡ count_by one (range_with_len from count)
count_same one other from zero same = refl
count_same one other from (suc count) same =
    let here : one_if (other from) ≡ one_if (one from) = ap one_if (same from (omega arith) (omega arith)) in
    let rest = count_same one other (from + 1) count (λ i above under. same i (omega arith) (omega arith)) in
    let first = count_more one from count in
    let second = count_more other from count in
    omega (arith, here, rest, first, second)

-- Where one of them passes no more it counts one fewer.
count_fewer : (one other : ℕ → Bool) (r from count : ℕ) → from ≤ r → r < from + count → one r ≡ true → other r ≡ false
    → ((i : ℕ) → i < from + count → i ≢ r → other i ≡ one i)
    → count_by other (range_with_len from count) + 1 ≡ count_by one (range_with_len from count)
count_fewer one other r from zero above under was is same = absurd (omega arith)
count_fewer one other r from (suc count) above under was is same =
    let first = count_more one from count in
    let second = count_more other from count in
    elim (cases_eq from r) [
      | inl here ↦
          let passed : one_if (one from) ≡ 1 = passes_one (ap one here ∙ was) in
          let fails : one_if (other from) ≡ 0 = passes_none (ap other here ∙ is) in
          let rest = count_same one other (from + 1) count (λ i low high. same i (omega arith) (λ at. omega (arith, at, here, low))) in
          omega (arith, passed, fails, rest, first, second)
      | inr later ↦
          let here : one_if (other from) ≡ one_if (one from) = ap one_if (same from (omega arith) later) in
          let rest = count_fewer one other r (from + 1) count (omega (arith, later)) (omega arith) was is (λ i high. same i (omega arith)) in
          omega (arith, here, rest, first, second)
    ]

-- One region fewer passes once one that passed is taken out,
pub regions_fewer : (g : Geometry) (one other : ℕ → Bool) (r : ℕ) → r < regions g → one r ≡ true → AreSameBits g other (with_region r false one)
    → count_by other (range_with_len 0 (regions g)) < count_by one (range_with_len 0 (regions g))
regions_fewer g one other r low was same =
    let fewer = count_fewer one other r 0 (regions g) (omega arith) (omega (arith, low)) was (same r low ∙ with_region-here r r false one refl)
    (λ i high at. same i (omega (arith, high)) ∙ with_region-other r i false one (λ e. at (sym e))) in
    omega (arith, fewer)

-- as the least one.
pub fewer_await : (g : Geometry) (one other : ℕ → Bool) (r : ℕ) → least_region (regions g) one ≡ Some r → AreSameBits g other (with_region r false one)
    → count_by other (range_with_len 0 (regions g)) < count_by one (range_with_len 0 (regions g))
fewer_await g one other r least same =
    let found = least_found (regions g) one r least in
    regions_fewer g one other r found.0 found.1 same

-- ---- the chain of a step

-- What holds of no region, and of the one that is found.
pub none_next : (P : ℕ → Type 0) (o : Option ℕ) → o ≡ None → IfSome o P
none_next P None e = tt
none_next P (Some r) e = absurd (none-some r (sym e))

pub some_next : (P : ℕ → Type 0) (o : Option ℕ) (r : ℕ) → o ≡ Some r → P r → IfSome o P
some_next P None r e p = absurd (none-some r e)
some_next P (Some x) r e p = subst P (sym (same_Some x r e)) p

module _ (rule : TagRule) (region : ℕ) (old : Recalculation) (g : Geometry) (same : g ≡ old.awaiting.geometry) (tags : Content → ℕ → List ℕ) (a m : List Content) where
  -- While a region is recalculated,
  pub adds_taking : AddsTags old.awaiting.geometry tags (λ c. region_tags (tagger_by rule old.awaiting.geometry) old.awaiting.geometry (awaiting_blocks old.awaiting) region c (tags c)) a m → TakesAwaitingIn rule region old g tags a m
  adds_taking adds = subst (λ (x : Geometry). AddsTags x tags (λ c. region_tags (tagger_by rule x) x (awaiting_blocks old.awaiting) region c (tags c)) a m) (sym same) adds

  -- and then.
  pub has_taken : (awaiting : AwaitingRegions) (made : Content → ℕ → List ℕ) → Recalculates (tagger_by rule old.awaiting.geometry) old.awaiting.geometry (awaiting_blocks old.awaiting) region tags made a m
      → AreSameBits old.awaiting.geometry (awaiting_of awaiting) (with_region region false (awaiting_of old.awaiting)) → awaiting.geometry ≡ old.awaiting.geometry → awaiting.first ≡ old.awaiting.first
      → TakesAwaiting rule region old (record { awaiting = awaiting; position = old.position }) g tags made a m
  has_taken awaiting made takes bits geometry first = record {
    takes = subst (λ (x : Geometry). Recalculates (tagger_by rule x) x (awaiting_blocks old.awaiting) region tags made a m) (sym same) takes;
    regions_ = subst (λ (x : Geometry). AreSameBits x (awaiting_of awaiting) (with_region region false (awaiting_of old.awaiting))) (sym same) bits;
    geometry = geometry;
    first = first;
    position = refl;
  }

-- What is said of a settling in the same places,
pub settles_there : (mid : Recalculation) (g other : Geometry) → other ≡ g → (tags : Content → ℕ → List ℕ) (a b : List Content) → SettlesPositionIn mid other tags a b → SettlesPositionIn mid g tags a b
settles_there mid g other same tags a b in_ = subst (λ (x : Geometry). SettlesPositionIn mid x tags a b) same in_

pub settled_there : (mid new : Recalculation) (g other : Geometry) → other ≡ g → (tags now : Content → ℕ → List ℕ) (a b : List Content) → SettlesPosition mid new other tags now a b → SettlesPosition mid new g tags now a b
settled_there mid new g other same tags now a b settled = subst (λ (x : Geometry). SettlesPosition mid new x tags now a b) same settled

-- and what is written in a step: the tags of the region first.
pub tags_taken : (rule : TagRule) (region : ℕ) (old : Recalculation) (g : Geometry) (tags : Content → ℕ → List ℕ) {a b : List Content} → TakesAwaitingIn rule region old g tags a b → EachSince (OnlyAdds (IsOfTagsOrHead g)) a b
tags_taken rule region old g tags adds = tags_added g tags (λ c. region_tags (tagger_by rule g) g (awaiting_blocks old.awaiting) region c (tags c)) adds

pub writes_there : (g other : Geometry) {a m b : List Content} → other ≡ g → EachSince (OnlyAdds (IsOfTagsOrHead g)) a m → EachSince (OnlyAdds (IsOfTagsOrHead other)) m b → EachSince (OnlyAdds (IsOfTagsOrHead g)) a b
writes_there g other {a} {m} {b} same first second = adds_then (IsOfTagsOrHead g) first (subst (λ (x : Geometry). EachSince (OnlyAdds (IsOfTagsOrHead x)) m b) same second)

-- One region fewer awaits in what has taken the least one.
pub count_fewer_of : (old new : Recalculation) (awaiting : AwaitingRegions) (region : ℕ) → next_of old ≡ Some region → AreSameBits old.awaiting.geometry (awaiting_of awaiting) (with_region region false (awaiting_of old.awaiting))
    → awaiting.geometry ≡ old.awaiting.geometry → new.awaiting ≡ awaiting → count_of new < count_of old
count_fewer_of old new awaiting region least bits geometry same =
    subst (λ (x : AwaitingRegions). count_by (awaiting_of x) (range_with_len 0 (regions x.geometry)) < count_of old) (sym same)
    (subst (λ (x : Geometry). count_by (awaiting_of awaiting) (range_with_len 0 (regions x)) < count_of old) (sym geometry)
    (fewer_await old.awaiting.geometry (awaiting_of old.awaiting) (awaiting_of awaiting) region least bits))

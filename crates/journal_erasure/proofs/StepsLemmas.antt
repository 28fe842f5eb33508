-- What the steps of an erasure write, one after the other.
use Rattle.std.proofs.Common.{◌≡◌, inl, inr, ℕ, Bool, not, ◌+◌, ◌-◌, ◌*◌, ◌/◌, ◌^◌, ◌<◌, ◌≤◌, List, [], ◌∷◌, length, sym, ◌∙◌, ap, subst, arith, Option, Some, None}
use Rattle.std.specs.Option.{ForSome, option_map}
use Rattle.std.proofs.Math.Path.{fun_ext}
use Rattle.std.proofs.Math.Nat.{le-mul_of_pos_right, mul-le-mul_right}
use Rattle.std.proofs.NetLemmas.Options.{map_some}
use Rattle.std.proofs.lemmas.Bool.{cases_Bool, cases_lt, true≢false}
use Rattle.disk_model.specs.Disk.{Content, IsOfRun, OnlyAdds, last_image, newest_only, sector_in, with_run}
use Rattle.disk_model.specs.Identity.{DiskIdentity}
use Rattle.disk_model.specs.Moments.{EachMoment, FromStart, HasNow}
use Rattle.disk_model.proofs.DiskLemmas.{last_image-with_run, last_image-with_run_out, only_candidate, within_or_out}
use Rattle.disk_model.proofs.MomentsLemmas.{EachMoment-join, EachMoment-weaker, FromStart-weaker}
use Rattle.image_model.specs.Geometry.{Geometry, IsGeometry, journal_sectors, section_at, section_sectors}
use Rattle.image_model.proofs.Bounds.{has_entries}
use Rattle.image_model.proofs.GeometryLemmas.{data_at-inside}
use Rattle.journal_erasure.specs.declared.part.Part.{Part}
use Rattle.journal_erasure.specs.declared.part.Part.TheVariants.{Others, Newest}
use Rattle.journal_erasure.specs.declared.erasure.Erasure.{Erasure}
use Rattle.journal_erasure.specs.Newest.{is_newest}
use Rattle.journal_erasure.specs.Parts.{is_of_part, IsOfChosen}
use Rattle.journal_erasure.specs.Erasing.{with_part, IsErasing, IsOfPart, with_empty_journal, HasFirstErased, ErasesFirst}
use Rattle.journal_erasure.proofs.PartsLemmas.{IsThere, there_or_not, last-chosen, last-other}

-- The journal lies on the disk, behind the superblock.
pub journal_fits : (g : Geometry) (sectors : ℕ) → IsGeometry g sectors → section_at g 0 + journal_sectors g ≤ sectors
journal_fits g sectors is = let block = data_at-inside g sectors 0 is is.blocks in omega (arith, block.0, block.1)

-- Sections up to one that is no later have no more sectors.
pub sectors_in_order : (g : Geometry) (from to : ℕ) → from ≤ to → from * section_sectors g.shape ≤ to * section_sectors g.shape
sectors_in_order g from to low = mul-le-mul_right (section_sectors g.shape) low

-- What is asked of a disk is asked of it behind a call.
pub IsErasing-same : (g : Geometry) (e : Erasure) (bytes : List ℕ) {a b : DiskIdentity} → b ≡ a → IsErasing g e bytes a → IsErasing g e bytes b
IsErasing-same g e bytes same is = subst (IsErasing g e bytes) (sym same) is

module _ (g : Geometry) (e : Erasure) (empty : List ℕ) where
  abbrev width : ℕ
  width = section_sectors g.shape

  abbrev at : ℕ
  at = section_at g 0

  abbrev Has : Part → ℕ → ℕ → ℕ → Type 0
  Has part from to s = IsThere (is_of_part e.newest part) (section_at g 0) (from * section_sectors g.shape) (to * section_sectors g.shape) s

  -- ---- all others at once

  -- The sectors of fewer sections are among those of more.
  wider : (part : Part) (from to first last : ℕ) (s : ℕ) → first ≤ from → to ≤ last → Has part from to s → Has part first last s
  wider part from to first last s low high there =
      let below = sectors_in_order g first from low in
      let above = sectors_in_order g to last high in
      record { low = omega (arith, there.low, below); high = omega (arith, there.high, above); is = there.is }

  pub IsOfPart-wider : (part : Part) (from to first last : ℕ) → first ≤ from → to ≤ last → (s : ℕ) (x : List ℕ) → IsOfPart g e part from to empty s x → IsOfPart g e part first last empty s x
  IsOfPart-wider part from to first last low high s x of =
      let below = sectors_in_order g first from low in
      let above = sectors_in_order g to last high in
      record { place = of.place; begins = omega (arith, of.begins, below); ends = omega (arith, of.ends, above); is = of.is; marked = of.marked; holds = of.holds }

  module _ (c : Content) (inside : e.first < g.sections) where
    abbrev one : Content
    one = newest_only (with_part g e Others e.first (e.first + 1) empty c)

    abbrev two : Content
    two = with_part g e Others 0 e.first empty (newest_only (with_part g e Others e.first (e.first + 1) empty c))

    abbrev P : ℕ → Bool
    P = is_of_part e.newest Others

    abbrev begin : ℕ
    begin = e.first * section_sectors g.shape

    abbrev end : ℕ
    end = (e.first + 1) * section_sectors g.shape

    abbrev count : ℕ
    count = g.sections * section_sectors g.shape

    others-written : (s : ℕ) → Has Others 0 g.sections s → last_image (with_part g e Others (e.first + 1) g.sections empty two) s ≡ sector_in empty (s - at)
    others-written s there = elim (cases_lt s (at + begin)) [
      | inl before ↦
          last-other P at end count empty two s (λ h. omega (arith, h.low, before))
          ∙ last-chosen P at (0 * width) begin empty one s (record { low = there.low; high = before; is = there.is })
      | inr behind ↦ elim (cases_lt s (at + end)) [
        | inl within ↦
            last-other P at end count empty two s (λ h. omega (arith, h.low, within))
            ∙ last-other P at (0 * width) begin empty one s (λ h. omega (arith, h.high, behind))
            ∙ last-chosen P at begin end empty c s (record { low = behind; high = within; is = there.is })
        | inr past ↦ last-chosen P at end count empty two s (record { low = past; high = there.high; is = there.is })
      ]
    ]

    others-kept : (s : ℕ) → (Has Others 0 g.sections s → ⊥) → last_image (with_part g e Others (e.first + 1) g.sections empty two) s ≡ last_image c s
    others-kept s out =
        last-other P at end count empty two s (λ h. out (wider Others (e.first + 1) g.sections 0 g.sections s (omega arith) (omega arith) h))
        ∙ last-other P at (0 * width) begin empty one s (λ h. out (wider Others 0 e.first 0 g.sections s (omega arith) (omega (arith, inside)) h))
        ∙ last-other P at begin end empty c s (λ h. out (wider Others e.first (e.first + 1) 0 g.sections s (omega arith) (omega (arith, inside)) h))

    -- The first section, those before it and those behind it are all.
    pub others-at_once : newest_only (with_part g e Others (e.first + 1) g.sections empty two) ≡ newest_only (with_part g e Others 0 g.sections empty c)
    others-at_once = fun_ext (λ s. ap (λ (x : List ℕ). x ∷ []) (elim (there_or_not P at (0 * width) count s) [
      | inl there ↦ others-written s there ∙ sym (last-chosen P at (0 * width) count empty c s there)
      | inr out ↦ others-kept s out ∙ sym (last-other P at (0 * width) count empty c s out)
    ]))

  -- ---- the whole journal

  module _ (c : Content) (size : length empty ≡ 512 * journal_sectors g) where
    abbrev others : Content
    others = newest_only (with_part g e Others 0 g.sections empty c)

    long : length empty / 512 ≡ g.sections * section_sectors g.shape
    long = omega (arith, size)

    abbrev Both : ℕ → Type 0
    Both s = last_image (with_part g e Newest 0 g.sections empty others) s ≡ last_image (with_run at empty c) s

    both-written : (s : ℕ) → at ≤ s → s < at + g.sections * width → Both s
    both-written s low high =
        let run = last_image-with_run at empty c s low (omega (arith, high, long)) in
        let first : at + 0 * width ≤ s = omega (arith, low) in
        elim (cases_Bool (is_newest e.newest (s - at))) [
          | inl is ↦ last-chosen (is_of_part e.newest Newest) at (0 * width) (g.sections * width) empty others s (record { low = first; high = high; is = is }) ∙ sym run
          | inr is_not ↦
              last-other (is_of_part e.newest Newest) at (0 * width) (g.sections * width) empty others s (λ h. true≢false (sym h.is ∙ is_not))
              ∙ last-chosen (is_of_part e.newest Others) at (0 * width) (g.sections * width) empty c s (record { low = first; high = high; is = ap not is_not })
              ∙ sym run
        ]

    both-kept : (s : ℕ) → (at ≤ s → s < at + g.sections * width → ⊥) → Both s
    both-kept s out =
        last-other (is_of_part e.newest Newest) at (0 * width) (g.sections * width) empty others s (λ h. out (omega (arith, h.low)) h.high)
        ∙ last-other (is_of_part e.newest Others) at (0 * width) (g.sections * width) empty c s (λ h. out (omega (arith, h.low)) h.high)
        ∙ sym (last_image-with_run_out at empty c s (λ low high. out low (omega (arith, high, long))))

    -- Both parts are the whole journal.
    pub parts-at_once : newest_only (with_part g e Newest 0 g.sections empty others) ≡ with_empty_journal g empty c
    parts-at_once = fun_ext (λ s. ap (λ (x : List ℕ). x ∷ []) (elim (within_or_out at (g.sections * width) s) [
      | inl inside ↦ both-written s inside.0 inside.1
      | inr out ↦ both-kept s out
    ]))

  -- What a part brings is of the whole journal.
  pub IsOfPart-run : (part : Part) (from to : ℕ) → to ≤ g.sections → length empty ≡ 512 * journal_sectors g → (s : ℕ) (x : List ℕ) → IsOfPart g e part from to empty s x → IsOfRun at empty s x
  IsOfPart-run part from to high size s x of =
      let above = sectors_in_order g to g.sections high in
      let there : of.place ≡ s - at = omega (arith, of.is) in
      record {
        begins = omega (arith, of.is);
        ends = omega (arith, of.is, of.ends, above, size);
        is = of.holds ∙ ap (sector_in empty) there;
      }

  -- ---- the first section alone

  -- It is erased, with whatever else of its part,
  pub first_erased : (from to : ℕ) (c : Content) → from ≤ e.first → e.first + 1 ≤ to → HasFirstErased g e empty (newest_only (with_part g e Others from to empty c))
  first_erased from to c below above = record {
    each = λ k x low high is has.
        let s : ℕ = at + k in
        let place : s - at ≡ k = omega arith in
        let there : Has Others e.first (e.first + 1) s = record { low = omega (arith, low); high = omega (arith, high); is = ap (is_of_part e.newest Others) place ∙ is } in
        only_candidate (last_image (with_part g e Others from to empty c) s) x has
        ∙ last-chosen (is_of_part e.newest Others) at (from * width) (to * width) empty c s (wider Others e.first (e.first + 1) from to s below above there)
        ∙ ap (sector_in empty) place;
  }

  -- and stays so, whatever of the journal is erased after it.
  pub first_stays : (first c : Content) → HasFirstErased g e empty first → OnlyAdds (IsOfRun at empty) first c → HasFirstErased g e empty c
  first_stays first c so adds = record {
    each = λ k x low high is has. elim (adds.among (at + k) x has) [
      | inl was ↦ so.each k x low high is was
      | inr new ↦ new.is ∙ ap (sector_in empty) (let place : at + k - at ≡ k = omega arith in place)
    ];
  }

-- ---- for callers

-- While the first section is erased.
pub order_first : {a b : List Content} (g : Geometry) (e : Erasure) (empty : List ℕ) → EachMoment a b (FromStart a (OnlyAdds (IsOfPart g e Others e.first (e.first + 1) empty))) → EachMoment a b (FromStart a (ErasesFirst g e empty))
order_first {a} g e empty m = EachMoment-weaker (FromStart-weaker a (OnlyAdds (IsOfPart g e Others e.first (e.first + 1) empty)) (ErasesFirst g e empty) (λ start c told adds. inl adds)) m

-- Once it is.
pub order_then : {a b c : List Content} (g : Geometry) (e : Erasure) (empty : List ℕ) → EachMoment a b (FromStart a (ErasesFirst g e empty)) → HasNow (HasFirstErased g e empty) b
    → EachMoment b c (FromStart b (OnlyAdds (IsOfRun (section_at g 0) empty))) → EachMoment a c (FromStart a (ErasesFirst g e empty))
order_then g e empty first now then = EachMoment-join (ErasesFirst g e empty) (OnlyAdds (IsOfRun (section_at g 0) empty)) first then
    (λ start middle later told told_middle so_far adds. inr (first_stays g e empty middle later (now middle told_middle) adds))

-- The first section is erased once its part is, or it alone.
pub first_now : (g : Geometry) (e : Erasure) (empty : List ℕ) (from to : ℕ) (start now : Option Content) → from ≤ e.first → e.first + 1 ≤ to
    → now ≡ option_map (λ c. newest_only (with_part g e Others from to empty c)) start → ForSome now (HasFirstErased g e empty)
first_now g e empty from to start now below above written c told =
    map_some (λ c. newest_only (with_part g e Others from to empty c)) start c (sym written ∙ told)
    (λ first told_first is. subst (HasFirstErased g e empty) is (first_erased g e empty from to first below above))

-- The first section, and then the others.
pub others_written : (g : Geometry) (e : Erasure) (empty : List ℕ) (start middle now : Option Content) → e.first < g.sections
    → middle ≡ option_map (λ c. newest_only (with_part g e Others e.first (e.first + 1) empty c)) start
    → now ≡ option_map (λ c. newest_only (with_part g e Others (e.first + 1) g.sections empty (with_part g e Others 0 e.first empty c))) middle
    → now ≡ option_map (λ c. newest_only (with_part g e Others 0 g.sections empty c)) start
others_written g e empty None middle now inside first then =
    then ∙ ap (option_map (λ c. newest_only (with_part g e Others (e.first + 1) g.sections empty (with_part g e Others 0 e.first empty c)))) first
others_written g e empty (Some c) middle now inside first then =
    then ∙ ap (option_map (λ c. newest_only (with_part g e Others (e.first + 1) g.sections empty (with_part g e Others 0 e.first empty c)))) first
    ∙ ap (λ (d : Content). Some d) (others-at_once g e empty c inside)

-- One part, and then the other.
pub all_written : (g : Geometry) (e : Erasure) (empty : List ℕ) (start middle now : Option Content) → length empty ≡ 512 * journal_sectors g
    → middle ≡ option_map (λ c. newest_only (with_part g e Others 0 g.sections empty c)) start
    → now ≡ option_map (λ c. newest_only (with_part g e Newest 0 g.sections empty c)) middle
    → now ≡ option_map (with_empty_journal g empty) start
all_written g e empty None middle now size first then = then ∙ ap (option_map (λ c. newest_only (with_part g e Newest 0 g.sections empty c))) first
all_written g e empty (Some c) middle now size first then =
    then ∙ ap (option_map (λ c. newest_only (with_part g e Newest 0 g.sections empty c))) first
    ∙ ap (λ (d : Content). Some d) (parts-at_once g e empty c size)

-- ---- the places of sections

-- There are few sections.
pub section_few : (g : Geometry) (sectors i : ℕ) → IsGeometry g sectors → i < g.sections → i < 2 ^ 20
section_few g sectors i is low =
    let has = has_entries g.shape is.spb.0 is.spb.1 is.tag_size.0 is.tag_size.1 in
    let some = has.sectors_low in
    let times = le-mul_of_pos_right {m = section_sectors g.shape} g.sections (omega (arith, some)) in
    omega (arith, is.journal, times, low)

-- What is written of the sectors of some sections.
pub part_moments : {a b : List Content} (g : Geometry) (e : Erasure) (part : Part) (from to at sectors : ℕ) (empty : List ℕ) → at ≡ section_at g 0 → sectors ≡ section_sectors g.shape
    → EachMoment a b (FromStart a (OnlyAdds (IsOfChosen (is_of_part e.newest part) at (from * sectors) (to * sectors) empty)))
    → EachMoment a b (FromStart a (OnlyAdds (IsOfPart g e part from to empty)))
part_moments {a} {b} g e part from to at sectors empty here width m =
    subst (λ (n : ℕ). EachMoment a b (FromStart a (OnlyAdds (IsOfChosen (is_of_part e.newest part) n (from * section_sectors g.shape) (to * section_sectors g.shape) empty)))) here
    (subst (λ (n : ℕ). EachMoment a b (FromStart a (OnlyAdds (IsOfChosen (is_of_part e.newest part) at (from * n) (to * n) empty)))) width m)

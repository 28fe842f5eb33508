-- A recovery leaves a journal at rest as it is.
use Rattle.std.proofs.Common.{◌≡◌, ℕ, ◌<◌, refl, sym, ◌∙◌, ap, subst, arith, Result, Ok, List}
use Rattle.std.specs.List.{Contains}
use Rattle.disk_model.specs.Disk.{Content, Image, OnlyAdds, last_image}
use Rattle.disk_model.specs.Moments.{EachSince, HasNow}
use Rattle.disk_model.proofs.MomentsLemmas.{EachMoment-join, EachMoment-weaker, FromStart-weaker}
use Rattle.image_model.specs.Cells.{replayed_entries}
use Rattle.image_model.specs.Geometry.{Geometry, IsGeometry, section_sectors}
use Rattle.image_model.specs.Grid.{walk_of}
use Rattle.image_model.specs.declared.journal_plan.Plan.{Plan}
use Rattle.image_model.specs.declared.journal_plan.State.{State}
use Rattle.image_model.specs.declared.journal_plan.State.TheVariants.{Rest, Mixed, Erasing, Blank}
use Rattle.image_model.specs.declared.scan_fault.ScanFault.{ScanFault}
use Rattle.image_model.proofs.Bounds.{has_entries}
use Rattle.image_model.proofs.TablesLemmas.{rest_plan}
use Rattle.place_model.specs.Journal.{numbers_on}
use Rattle.place_model.proofs.JournalLemmas.{walk_of-plan}
use Rattle.replay.specs.Emptied.{IsRestingJournal, KeepsResting}
use Rattle.place_model.specs.RecoveryWrites.{IsOfEmptyJournal, IsOfPlacing}

-- A section has a sector.
pub some_sectors : (g : Geometry) (sectors : ℕ) → IsGeometry g sectors → 0 < section_sectors g.shape
some_sectors g sectors geometry =
    let has = has_entries g.shape geometry.spb.0 geometry.spb.1 geometry.tag_size.0 geometry.tag_size.1 in
    let low = has.sectors_low in
    omega arith

-- A plan that two scans give is one.
pub same_plan : {one other : Plan} → ◌≡◌ {A = Result Plan ScanFault} (Ok one) (Ok other) → one ≡ other
same_plan e = cc

-- The scan of a journal at rest finds it so.
pub state_at_rest : (g : Geometry) (sectors : ℕ) (image : Image) (plan : Plan) → IsGeometry g sectors → walk_of g image ≡ Ok plan → (rests : IsRestingJournal g image) → plan.state ≡ Rest rests.next rests.number
state_at_rest g sectors image plan geometry walk rests =
    let found = rest_plan g.sections (section_sectors g.shape) rests.next rests.number (numbers_on g image) (some_sectors g sectors geometry) rests.rests in
    ap (λ (x : Plan). x.state) (same_plan (sym walk ∙ walk_of-plan g sectors image found.0 geometry found.1)) ∙ found.2

module _ (g : Geometry) {a b : List Content} (placing : EachSince (λ start. OnlyAdds (IsOfPlacing g (Contains (replayed_entries g (last_image start)))) start) a b) where
  -- So it is while its entries are placed,
  pub placing_rests : EachSince (λ start. KeepsResting g start start) a b
  placing_rests =
      EachMoment-weaker (FromStart-weaker a (λ start. OnlyAdds (IsOfPlacing g (Contains (replayed_entries g (last_image start)))) start) (λ start. KeepsResting g start start)
      (λ start c told adds rests. adds)) placing

  -- and then: nothing is done at rest, and else it is not at rest.
  pub recovery_rests : {c : List Content} (sectors : ℕ) (plan : Plan) → IsGeometry g sectors → HasNow (λ x. walk_of g (last_image x) ≡ Ok plan) a
      → ((next number : ℕ) → plan.state ≡ Rest next number → c ≡ b) → EachSince (OnlyAdds (IsOfEmptyJournal g)) b c → EachSince (λ start. KeepsResting g start start) a c
  recovery_rests {c} sectors plan geometry walk still erasing = by plan.state refl
    where
      not_at_rest : ((next number : ℕ) → plan.state ≡ Rest next number → ⊥) → EachSince (λ start. KeepsResting g start start) a c
      not_at_rest none =
          EachMoment-join (λ start. KeepsResting g start start) (OnlyAdds (IsOfEmptyJournal g)) placing_rests erasing
          (λ start middle later told told_middle so_far adds rests. absurd (none rests.next rests.number (state_at_rest g sectors (last_image start) plan geometry (walk start told) rests)))

      by : (state : State) → plan.state ≡ state → EachSince (λ start. KeepsResting g start start) a c
      by (Rest next number) is = subst (λ (x : List Content). EachSince (λ start. KeepsResting g start start) a x) (sym (still next number is)) placing_rests
      by (Mixed number) is = not_at_rest (λ next other at. absurd (cc))
      by (Erasing number) is = not_at_rest (λ next other at. absurd (cc))
      by (Blank number) is = not_at_rest (λ next other at. absurd (cc))

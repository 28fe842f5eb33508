use Rattle.std.proofs.Common.{◌≡◌, ℕ, ◌+◌, ◌<◌, true, false, List, rules, sym, ◌∙◌, ap, subst, arith}
use Rattle.image_model.specs.Geometry.{Geometry}
use Rattle.journal_overlay.specs.Kept.{Places}
use Rattle.journal_overlay.specs.declared.place.Added.{Added}
use Rattle.journal_ring.specs.Places.{is_free, oldest_at}
use Rattle.journal_ring.specs.Sections.{wrap}
use Rattle.journal_ring.proofs.WrapLemmas.{wrap-wrap}
use Rattle.journal_mode.proofs.FreeingLemmas.{Dropped, ends, one_dropped, same_geometry, stops, without_section}
use Rattle.journal_mode.proofs.freeing.drop_from.Goals as goal

pub returns-then-not-is_free-clause-kept : goal.returns-then-not-is_free-clause-kept
returns-then-not-is_free-clause-kept c old count freed at is =
    let new = c.args.ring.now in
    let k = c.loop-k._k in
    let same = ap (λ (g : Geometry). g.sections) (same_geometry old new count freed) in
    let here : c.loop-k.section ≡ wrap old.geometry.sections (oldest_at old + k) =
    c.loop-k.invariant.section ∙ ap (λ (m : ℕ). wrap m (c.args.from + k)) same ∙ ap (λ (f : ℕ). wrap old.geometry.sections (f + k)) at in
    let held : is_free new c.loop-k.section ≡ false = search rules in
    stops old new count freed k c.loop-k.overlay.kept (omega (arith, c.loop-k-test.true, c.sections-sections.ensures, same)) (ap (is_free new) (sym here) ∙ held)
    (c.loop-k.invariant.dropped old count freed at is)

pub loop-k-preserved : goal.loop-k-preserved
loop-k-preserved c =
    let new = c.args.ring.now in
    let n = new.geometry.sections in
    let k = c.loop-k._k in
    let low : k < n = omega (arith, c.loop-k-test.true, c.sections-sections.ensures) in
    record {
      section =
          c.behind-section.ensures.section
          ∙ ap (λ (m : ℕ). wrap m (c.loop-k.section + 1)) c.sections-sections.ensures
          ∙ ap (λ (s : ℕ). wrap n (s + 1)) c.loop-k.invariant.section
          ∙ wrap-wrap n (c.args.from + k) 1 (omega (arith, low, c.requires.from)) (omega (arith, low, c.requires.from))
          ∙ ap (wrap n) (let e : c.args.from + k + 1 ≡ c.args.from + (k + 1) = omega arith in e);
      inside = omega (arith, c.behind-section.ensures.inside, c.sections-sections.ensures);
      capacity = ap (λ (o : Places). o.capacity) c.drop_section.ensures ∙ c.loop-k.invariant.capacity;
      dropped = λ old count freed at is.
          let same = ap (λ (g : Geometry). g.sections) (same_geometry old new count freed) in
          let here : c.loop-k.section ≡ wrap old.geometry.sections (oldest_at old + k) =
          c.loop-k.invariant.section ∙ ap (λ (m : ℕ). wrap m (c.args.from + k)) same ∙ ap (λ (f : ℕ). wrap old.geometry.sections (f + k)) at in
          let free : is_free new c.loop-k.section ≡ true = search rules in
          subst (λ (xs : List Added). Dropped old new count freed (k + 1) xs)
          (sym (ap (λ (o : Places). o.kept) c.drop_section.ensures ∙ ap (λ (s : ℕ). without_section s c.loop-k.overlay.kept) here))
          (one_dropped old new count freed k c.loop-k.overlay.kept (omega (arith, low, same)) (ap (is_free new) (sym here) ∙ free) (c.loop-k.invariant.dropped old count freed at is));
    }

pub returns-clause-kept : goal.returns-clause-kept
returns-clause-kept c old count freed at is =
    let new = c.args.ring.now in
    let same = ap (λ (g : Geometry). g.sections) (same_geometry old new count freed) in
    let all : c.loop-k._k ≡ old.geometry.sections = omega (arith, c.loop-k-test.false, c.loop-k.auto._k-end, c.sections-sections.ensures, same) in
    ends old new count freed c.loop-k.overlay.kept (subst (λ (m : ℕ). Dropped old new count freed m c.loop-k.overlay.kept) all (c.loop-k.invariant.dropped old count freed at is))
